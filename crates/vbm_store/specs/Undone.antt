-- Whether the disk failed, where something was not done.
use Rattle.std.specs.Prelude.{Bool, true, false, Result, Ok, Err}
use Rattle.vbm_store.specs.declared.undone.Undone.{Undone}
use Rattle.vbm_store.specs.declared.undone.Undone.TheVariants.{Refused, Failed, NoMemory}

abbrev pub is_failed : {R : Type 0} → Undone R → Bool
is_failed (Refused reason) = false
is_failed Failed = true
is_failed NoMemory = false

abbrev pub has_failed : {X R : Type 0} → Result X (Undone R) → Bool
has_failed (Ok x) = false
has_failed (Err undone) = is_failed undone
