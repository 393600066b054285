-- What commands do to a library by names: media, machines and inner images enter and leave, and a machine gets other slots, some of them with
-- new images, while inner images leave.
use Rattle.std.specs.Prelude.{◌≡◌, ℕ, ◌+◌, ◌<◌, ◌≤◌, length, IsTrue, ◌&&◌, ◌==◌, not, nat_lt, Bool, true, false, if◌then◌else◌, List, [], ◌∷◌, ◌++◌, map, filter, find, Option, Some, None}
use Rattle.std.specs.List.{AllByRecursion, list_any}
use Rattle.std.specs.Str.{bytes_eq}
use Rattle.vbm_ports.specs.Names.{is_short_name}
use Rattle.vbm_modes.specs.Modes.{is_own, is_reset}
use Rattle.vbm_ids.specs.declared.TheConstants.{NUMBER_LIMIT}
use Rattle.vbm_machines.specs.declared.Held.{Held}
use Rattle.vbm_machines.specs.declared.Held.TheVariants.{Direct, Own, Base}
use Rattle.vbm_named.specs.Names.{Name, find_by, has_name, put_by, without, change_by}
use Rattle.vbm_world.specs.declared.limits.TheConstants.{SNAPSHOT_LIMIT, PLACE_LIMIT, PORT_LIMIT}
use Rattle.vbm_world.specs.World.{is_normal, is_immutable}
use Rattle.vbm_registry.specs.declared.media.Medium.{Medium}
use Rattle.vbm_registry.specs.Library.{medium_entry_name}
use Rattle.vbm_registry.specs.Entries.{inners_left}
use Rattle.vbm_registry.specs.Named.{ImageName, OfMedium, OfInner, NamedInner, NamedSlot, NamedSnapshot, NamedMachine, NamedLibrary, named_snapshot_name, named_machine_name}
use Rattle.vbm_registry.specs.Entries.{inners_left}
use Rattle.vbm_registry.specs.Rules.{is_medium_of, holds, upper_places, named_snapshot_count, named_place_count}
use Rattle.vbm_standing.specs.Meaning.{has_slot_of, is_frozen_in}

-- ---- slots with new images

-- a slot as it is, or with a new image over another one
pub data Renewal : Type 0 where
  Keep : NamedSlot → Renewal
  Renew : NamedSlot → (over : ImageName) → Renewal

-- the slots, where the new images have the numbers from this one on
abbrev pub renewed_slots : ℕ → List Renewal → List NamedSlot
renewed_slots n [] = []
renewed_slots n (Keep s ∷ rs) = s ∷ renewed_slots n rs
renewed_slots n (Renew s over ∷ rs) = record s { held = Own n } ∷ renewed_slots (n + 1) rs

-- the new images
abbrev pub new_inners : ℕ → List Renewal → List NamedInner
new_inners n [] = []
new_inners n (Keep s ∷ rs) = new_inners n rs
new_inners n (Renew s over ∷ rs) = record { number = n; parent = over } ∷ new_inners (n + 1) rs

-- how many they are
abbrev pub renewal_count : List Renewal → ℕ
renewal_count [] = 0
renewal_count (Keep s ∷ rs) = renewal_count rs
renewal_count (Renew s over ∷ rs) = renewal_count rs + 1

-- The one form of an edit: a machine in the place of the one of its name, the new images of its renewed slots behind those that are left.
abbrev pub renewed_library : NamedLibrary → (gone : ℕ → Bool) → List Renewal → NamedMachine → NamedLibrary
renewed_library l gone rs m = record l {
  inner = l.inner + renewal_count rs;
  inners = inners_left gone l.inners ++ new_inners l.inner rs;
  machines = change_by named_machine_name m.name (λ _. m) l.machines;
}

abbrev pub none_gone : ℕ → Bool
none_gone n = false

-- the inner images that slots hold
abbrev pub own_in : List NamedSlot → ℕ → Bool
own_in slots n = list_any (holds (OfInner n)) slots

-- ---- snapshot take

-- what a snapshot holds of a slot: the file of a normal medium becomes its base
abbrev pub held_in_snapshot : (normal : Bool) → Held → Held
held_in_snapshot normal Direct = if normal then Base else Direct
held_in_snapshot normal (Own n) = Own n
held_in_snapshot normal Base = Base

abbrev pub place_of_slot : List Medium → NamedSlot → NamedSlot
place_of_slot media s = record s { held = held_in_snapshot (is_medium_of is_normal media s.medium) s.held }

-- a slot with a new image over what a snapshot holds; one that shares the medium's disk stays
abbrev pub renewal_over : NamedSlot → Held → Renewal
renewal_over s Direct = Keep s
renewal_over s (Own n) = Renew s (OfInner n)
renewal_over s Base = Renew s (OfMedium s.medium)

abbrev pub renewal_of : NamedSlot → Renewal
renewal_of s = renewal_over s s.held

abbrev pub places_taken : NamedLibrary → NamedMachine → List NamedSlot
places_taken l m = map (place_of_slot l.media) m.slots

-- the machine with a new snapshot, which is a child of the current one, and current
abbrev pub machine_taken : NamedLibrary → NamedMachine → Name → NamedMachine
machine_taken l m name = record m {
  slots = renewed_slots l.inner (map renewal_of (places_taken l m));
  snapshots = put_by named_snapshot_name (record { name = name; parent = m.current; slots = places_taken l m }) m.snapshots;
  current = Some name;
}

abbrev pub library_taken : NamedLibrary → NamedMachine → Name → NamedLibrary
library_taken l m name = renewed_library l none_gone (map renewal_of (places_taken l m)) (machine_taken l m name)

-- other machines have no slot of a normal medium that this slot shares
abbrev pub IsUnshared : NamedLibrary → NamedMachine → NamedSlot → Type 0
IsUnshared l m s = is_medium_of is_normal l.media s.medium ≡ true → s.held ≡ Direct
    → AllByRecursion (λ (n : NamedMachine). bytes_eq n.name m.name ≡ false → has_slot_of s.medium n.slots ≡ false) l.machines

-- A snapshot can be taken: no refusal holds.
pub record CanTake (l : NamedLibrary) (m : NamedMachine) (name : Name) : Type 0 where
  pub short : IsTrue (is_short_name name)
  pub new : has_name named_snapshot_name name m.snapshots ≡ false
  pub drawn : l.inner + renewal_count (map renewal_of (places_taken l m)) ≤ NUMBER_LIMIT
  pub snapshots : named_snapshot_count l.machines < SNAPSHOT_LIMIT
  pub places : named_place_count l.machines + length m.slots ≤ PLACE_LIMIT
  pub unshared : AllByRecursion (IsUnshared l m) m.slots

-- ---- snapshot restore

abbrev pub machine_restored : NamedLibrary → NamedMachine → NamedSnapshot → NamedMachine
machine_restored l m s = record m { slots = renewed_slots l.inner (map renewal_of s.slots); current = Some s.name }

-- The own images of the machine's slots are gone.
abbrev pub library_restored : NamedLibrary → NamedMachine → NamedSnapshot → NamedLibrary
library_restored l m s = renewed_library l (own_in m.slots) (map renewal_of s.slots) (machine_restored l m s)

-- ---- storageattach VM PORT NAME

-- slots with one more in its place
abbrev pub put_named_slot : NamedSlot → List NamedSlot → List NamedSlot
put_named_slot s [] = s ∷ []
put_named_slot s (t ∷ slots) = if nat_lt s.port t.port then s ∷ t ∷ slots else t ∷ put_named_slot s slots

abbrev pub new_slot : List Medium → ℕ → Name → NamedSlot
new_slot media port name = record { port = port; medium = name; autoreset = is_medium_of is_immutable media name; held = Direct }

-- a slot of a medium, by whether it has an image of its own from the start
abbrev pub attachment_by : (own : Bool) → NamedSlot → Renewal
attachment_by true s = Renew s (OfMedium s.medium)
attachment_by false s = Keep s

abbrev pub attachment : List Medium → ℕ → Name → Renewal
attachment media port name = attachment_by (is_medium_of is_own media name) (new_slot media port name)

abbrev pub put_first : List NamedSlot → List NamedSlot → List NamedSlot
put_first [] slots = slots
put_first (s ∷ others) slots = put_named_slot s slots

abbrev pub library_attached : NamedLibrary → NamedMachine → ℕ → Name → NamedLibrary
library_attached l m port name =
    let rs = attachment l.media port name ∷ [] in
    renewed_library l none_gone rs (record m { slots = put_first (renewed_slots l.inner rs) m.slots })

-- A medium can be attached: no refusal holds.
pub record CanAttach (l : NamedLibrary) (m : NamedMachine) (port : ℕ) (name : Name) (medium : Medium) : Type 0 where
  pub found : find_by medium_entry_name name l.media ≡ Some medium
  pub unfrozen : is_frozen_in l.machines medium ≡ false
  pub port_is : port < PORT_LIMIT
  pub free : AllByRecursion (λ (t : NamedSlot). (t.port == port) ≡ false) m.slots
  pub apart : AllByRecursion (λ (t : NamedSlot). bytes_eq t.medium name ≡ false) m.slots
  pub drawn : l.inner + renewal_count (attachment l.media port name ∷ []) ≤ NUMBER_LIMIT

-- ---- storageattach VM PORT none

abbrev pub slots_off_port : ℕ → List NamedSlot → List NamedSlot
slots_off_port port slots = filter (λ (s : NamedSlot). not (s.port == port)) slots

abbrev pub slots_at_port : ℕ → List NamedSlot → List NamedSlot
slots_at_port port slots = filter (λ (s : NamedSlot). s.port == port) slots

-- The slot is gone, with its own image.
abbrev pub library_detached : NamedLibrary → NamedMachine → ℕ → NamedLibrary
library_detached l m port =
    renewed_library l (own_in (slots_at_port port m.slots)) [] (record m { slots = slots_off_port port m.slots })

-- The slot at the port is not one of a normal medium with an image of its own.
abbrev pub CanDetach : NamedLibrary → NamedMachine → ℕ → Type 0
CanDetach l m port =
    AllByRecursion (λ (s : NamedSlot). (s.port == port) ≡ true → is_medium_of is_normal l.media s.medium ≡ true → s.held ≡ Direct) m.slots

-- ---- startvm

-- the image that a slot uses
abbrev pub image_held : Name → Held → ImageName
image_held medium Direct = OfMedium medium
image_held medium (Own n) = OfInner n
image_held medium Base = OfMedium medium

abbrev pub image_of_place : Name → Option NamedSlot → ImageName
image_of_place medium None = OfMedium medium
image_of_place medium (Some s) = image_held medium s.held

-- a slot of this port and medium
abbrev pub is_place_like : NamedSlot → NamedSlot → Bool
is_place_like s t = t.port == s.port && bytes_eq t.medium s.medium

-- what a reset slot stands on: what the current snapshot has at the port of the medium, else the medium
abbrev pub reset_image : (upper : List NamedSlot) → NamedSlot → ImageName
reset_image upper s = image_of_place s.medium (find (is_place_like s) upper)

-- a start resets the slot
abbrev pub is_reset_at_start : List Medium → NamedSlot → Bool
is_reset_at_start media s = is_medium_of (λ mode. is_reset mode s.autoreset) media s.medium

abbrev pub renewal_if : Bool → NamedSlot → ImageName → Renewal
renewal_if true s over = Renew s over
renewal_if false s over = Keep s

abbrev pub renewal_at_start : List Medium → (upper : List NamedSlot) → NamedSlot → Renewal
renewal_at_start media upper s = renewal_if (is_reset_at_start media s) s (reset_image upper s)

-- The own images of slots that are reset are gone.
abbrev pub library_started : NamedLibrary → NamedMachine → NamedLibrary
library_started l m =
    let rs = map (renewal_at_start l.media (upper_places m.current m.snapshots)) m.slots in
    renewed_library l (own_in (filter (is_reset_at_start l.media) m.slots)) rs (record m { slots = renewed_slots l.inner rs })

-- ---- modifymedium VM:PORT --autoreset

abbrev pub slot_autoreset : ℕ → Bool → NamedSlot → NamedSlot
slot_autoreset port on s = if s.port == port then record s { autoreset = on } else s

abbrev pub library_autoreset : NamedLibrary → NamedMachine → ℕ → Bool → NamedLibrary
library_autoreset l m port on = renewed_library l none_gone [] (record m { slots = map (slot_autoreset port on) m.slots })

-- The slot at the port is of an immutable medium.
abbrev pub CanAutoreset : NamedLibrary → NamedMachine → ℕ → Type 0
CanAutoreset l m port = AllByRecursion (λ (s : NamedSlot). (s.port == port) ≡ true → is_medium_of is_immutable l.media s.medium ≡ true) m.slots
