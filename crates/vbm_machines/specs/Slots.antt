-- The slots that edits give a machine.
use Rattle.std.specs.Prelude.{◌≡◌, ℕ, ◌==◌, not, nat_lt, Bool, true, false, if◌then◌else◌, List, [], ◌∷◌, drop, filter, Option, Some, None, slice_get, slice_index}
use Rattle.vbm_modes.specs.declared.Mode.{Mode}
use Rattle.vbm_modes.specs.declared.Mode.TheVariants.{Normal, Immutable, Writethrough, MultiAttach, Readonly}
use Rattle.vbm_modes.specs.Modes.{is_own, is_reset}
use Rattle.vbm_world.specs.declared.world.WorldSlot.{WorldSlot}
use Rattle.vbm_machines.specs.declared.Held.{Held}
use Rattle.vbm_machines.specs.declared.Held.TheVariants.{Direct, Own, Base}
use Rattle.vbm_machines.specs.declared.Slot.{Slot}

-- ---- new images

-- a slot with an image besides its medium's own
abbrev pub is_image : Held → Bool
is_image Direct = false
is_image (Own number) = true
is_image Base = true

abbrev pub has_image : Slot → Bool
has_image s = is_image s.held

abbrev pub with_image : Bool → (number : ℕ) → Slot → Slot
with_image true number s = record s { held = Own number }
with_image false number s = s

abbrev pub numbers_for : Bool → ℕ
numbers_for true = 1
numbers_for false = 0

-- Some slots get new images: each takes the next number, in the order of ports.
abbrev pub renewed : (renews : Slot → Bool) → (fresh : List ℕ) → List Slot → List Slot
renewed renews fresh [] = []
renewed renews fresh (s ∷ slots) = with_image (renews s) (slice_index fresh 0) s ∷ renewed renews (drop (numbers_for (renews s)) fresh) slots

-- ---- snapshot take

-- A snapshot keeps a normal medium's own image; of other media whose image is shared it notes that they are there.
abbrev pub kept_direct : Option Mode → Held
kept_direct (Some Normal) = Base
kept_direct (Some Immutable) = Direct
kept_direct (Some Writethrough) = Direct
kept_direct (Some MultiAttach) = Direct
kept_direct (Some Readonly) = Direct
kept_direct None = Direct

abbrev pub kept_held : Option Mode → Held → Held
kept_held mode Direct = kept_direct mode
kept_held mode (Own number) = Own number
kept_held mode Base = Base

-- the place that a snapshot has for a slot, by the modes of the media
abbrev pub kept_place : List Mode → Slot → Slot
kept_place modes s = record s { held = kept_held (slice_get modes s.medium) s.held }

-- ---- storageattach

-- the slot of a medium that is attached, and its image where it gets one
abbrev pub new_slot : (port medium : ℕ) → Mode → (number : ℕ) → Slot
new_slot port medium mode number = record {
  port = port;
  medium = medium;
  autoreset = is_reset mode true;
  held = if is_own mode then Own number else Direct;
}

-- slots with one more in its place
unfoldable pub slot_entered : Slot → List Slot → List Slot
slot_entered s [] = s ∷ []
slot_entered s (t ∷ slots) = if nat_lt s.port t.port then s ∷ t ∷ slots else t ∷ slot_entered s slots

-- a way to see slots that sees their ports
abbrev pub KeepsPorts : (seen : Slot → WorldSlot) → Type 0
KeepsPorts seen = (s : Slot) → (seen s).port ≡ s.port

abbrev pub slots_but : (port : ℕ) → List Slot → List Slot
slots_but port slots = filter (λ (s : Slot). not (s.port == port)) slots

-- ---- startvm

abbrev pub is_reset_mode : Option Mode → (auto : Bool) → Bool
is_reset_mode None auto = false
is_reset_mode (Some mode) auto = is_reset mode auto

-- a slot that a start resets
abbrev pub resets_at_start : List Mode → Slot → Bool
resets_at_start modes s = is_reset_mode (slice_get modes s.medium) s.autoreset
