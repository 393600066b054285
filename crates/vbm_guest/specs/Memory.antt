-- Why a write was not done, and the room that it needs.
use Rattle.std.specs.Prelude.{◌≡◌, ℕ, ◌*◌, ◌≤◌, Bool, true, false, [], Result, Ok, Err}
use Rattle.vbm_intent.specs.Plan.{PlanState}
use Rattle.vbm_guest.specs.declared.memory.WriteFault.{WriteFault}
use Rattle.vbm_guest.specs.declared.memory.WriteFault.TheVariants.{Failed, NoMemory}

-- the disk failed
abbrev pub is_failed : {X : Type 0} → Result X WriteFault → Bool
is_failed (Ok x) = false
is_failed (Err Failed) = true
is_failed (Err NoMemory) = false

-- the disk did not fail
abbrev pub UnlessFailed : {X : Type 0} → Result X WriteFault → Type 0 → Type 0
UnlessFailed (Ok x) P = P
UnlessFailed (Err Failed) P = Unit {0}
UnlessFailed (Err NoMemory) P = P

-- there was no memory
abbrev pub OnWantOfMemory : {X : Type 0} → Result X WriteFault → Type 0 → Type 0
OnWantOfMemory (Ok x) P = Unit {0}
OnWantOfMemory (Err Failed) P = Unit {0}
OnWantOfMemory (Err NoMemory) P = P

-- An empty plan has room for the settling of n staged entries: two changes of 100 bytes at most for each.
pub record HasRoomFor (n : ℕ) (plan : PlanState) : Type 0 where
  pub none : plan.changes ≡ []
  pub room : 200 * n ≤ plan.spare
