-- What each mode of a medium means (Oracle VM VirtualBox User Manual, "Special image write modes"; SDK, MediumType).
use Rattle.std.specs.Prelude.{Bool, true, false, if◌then◌else◌}
use Rattle.vbm_modes.specs.declared.Mode.{Mode}
use Rattle.vbm_modes.specs.declared.Mode.TheVariants.{Normal, Immutable, Writethrough, MultiAttach, Readonly}
use Rattle.vbm_modes.specs.declared.AttachKind.{AttachKind}
use Rattle.vbm_modes.specs.declared.AttachKind.TheVariants.{Direct, Own}

-- a machine has an image of its own
abbrev pub is_own : Mode → Bool
is_own Normal = false
is_own Immutable = true
is_own Writethrough = false
is_own MultiAttach = true
is_own Readonly = false

-- a machine uses the medium's own image, or one of its own that stands on it
abbrev pub attach_kind_of : Mode → AttachKind
attach_kind_of mode = if is_own mode then Own else Direct

-- a running machine that uses the medium's own image keeps others from it
abbrev pub is_locking : Mode → Bool
is_locking Normal = true
is_locking Immutable = false
is_locking Writethrough = true
is_locking MultiAttach = false
is_locking Readonly = false

-- a start makes the machine's own image empty, by whether autoreset is on
abbrev pub is_reset : Mode → (auto : Bool) → Bool
is_reset Normal auto = false
is_reset Immutable auto = auto
is_reset Writethrough auto = false
is_reset MultiAttach auto = false
is_reset Readonly auto = false

-- a guest may write
abbrev pub is_writable : Mode → Bool
is_writable Normal = true
is_writable Immutable = true
is_writable Writethrough = true
is_writable MultiAttach = true
is_writable Readonly = false
