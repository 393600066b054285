-- The library's file as a grammar: its parts in their order, their fields, and the test of each. What is tested is said of the items before.
--
-- The rules on what several places hold, which no field tells of alone, are given as a test of the whole library.
use Rattle.std.specs.Prelude.{◌≡◌, ℕ, zero, suc, ◌+◌, ◌-◌, ◌≤◌, Bool, true, false, not, ◌&&◌, ◌||◌, ◌==◌, if◌then◌else◌, List, [], ◌∷◌, length, reverse, drop, map, sum_by, Option, Some, None, is_none, Result, Ok, Err, nat_eq, nat_lt, nat_le, slice_get, IsTrue}
use Rattle.std.specs.Int.{w8, w16, w64}
use Rattle.std.specs.List.{list_any, list_all, starts_with}
use Rattle.vbm_ports.specs.Names.{is_medium_name, is_short_name}
use Rattle.vbm_modes.specs.declared.Mode.{Mode}
use Rattle.vbm_modes.specs.declared.Mode.TheVariants.{Normal, Immutable, Writethrough, MultiAttach, Readonly}
use Rattle.vbm_ids.specs.declared.TheConstants.{NUMBER_LIMIT}
use Rattle.vbm_machines.specs.declared.Held.{Held}
use Rattle.vbm_machines.specs.declared.Held.TheVariants.{Direct, Own, Base}
use Rattle.vbm_machines.specs.declared.Slot.{Slot}
use Rattle.vbm_machines.specs.declared.Snapshot.{Snapshot}
use Rattle.vbm_machines.specs.declared.Machine.{Machine}
use Rattle.vbm_named.specs.Names.{Name, is_before, has_name}
use Rattle.vbm_world.specs.declared.limits.TheConstants.{MEDIA_LIMIT, MACHINE_LIMIT, SNAPSHOT_LIMIT, PLACE_LIMIT, PORT_LIMIT}
use Rattle.vbm_world.specs.World.{is_immutable, is_layered}
use Rattle.vbm_registry.specs.declared.media.Medium.{Medium}
use Rattle.vbm_registry.specs.declared.library.Inner.{Inner}
use Rattle.vbm_registry.specs.declared.library.ImageRef.{ImageRef}
use Rattle.vbm_registry.specs.declared.library.ImageRef.TheVariants as refs
use Rattle.vbm_registry.specs.declared.library.Merging.{Merging}
use Rattle.vbm_registry.specs.declared.library.Library.{Library}
use Rattle.vbm_registry.specs.declared.library.TheConstants.{LONGEST_LIBRARY}
use Rattle.vbm_registry.specs.Library.{medium_entry_name}
use Rattle.vbm_registry.specs.declared.features.Features.{Features}
use Rattle.vbm_registry.specs.Built.{limit_if, is_built_mode}
use Rattle.vbm_registry.specs.Held.{may_hold}
use Rattle.vbm_registry.specs.Parts.{FilePart, Parsed, ◌>>=◌, mapped, mapped_where, tested, one_field, number, raw, known, counted_list}
use Rattle.vbm_registry.specs.Spelling.{mode_code, flag_code, place_code, no_place, list_of, head, spelling}

-- ---- names

-- what is seen of the last item, or something where there is none
abbrev pub last_or : {X A : Type 0} → A → (X → A) → List X → A
last_or none f [] = none
last_or none f (x ∷ []) = f x
last_or none f (x ∷ y ∷ ys) = last_or none f (y ∷ ys)

-- the name of the last item, the empty one where there is none
abbrev pub last_name : {X : Type 0} → (X → Name) → List X → Name
last_name name_of xs = last_or [] name_of xs

-- a length and so many bytes
unfoldable pub text_field : FilePart Name
text_field = mapped (λ x. x.1) (λ name. (length name, name)) (do
  count ← number w8
  raw count)

-- a name of a kind that comes after the one before it; no name comes before the empty one
unfoldable pub name_after : (Name → Bool) → Name → FilePart Name
name_after is_name earlier = tested (one_field text_field) (λ name. is_name name && is_before earlier name)

-- ---- media

abbrev pub mode_of : ℕ → Mode
mode_of zero = Normal
mode_of (suc zero) = Immutable
mode_of (suc (suc zero)) = Writethrough
mode_of (suc (suc (suc zero))) = MultiAttach
mode_of (suc (suc (suc (suc n)))) = Readonly

unfoldable pub mode_field : Features → FilePart Mode
mode_field built = mapped mode_of mode_code (tested (number w8) (λ code. nat_le code 4 && is_built_mode built (mode_of code)))

unfoldable pub medium_entry : Features → List Medium → FilePart Medium
medium_entry built before = mapped (λ x. record { name = x.0; mode = x.1 }) (λ m. (m.name, m.mode)) (do
  name ← name_after is_medium_name (last_name medium_entry_name before)
  mode_field built)

abbrev pub mode_or_readonly : Option Medium → Mode
mode_or_readonly None = Readonly
mode_or_readonly (Some m) = m.mode

-- the mode of the medium at a place, which is in range
abbrev pub mode_at : List Medium → ℕ → Mode
mode_at media place = mode_or_readonly (slice_get media place)

-- ---- inner images

abbrev pub ref_of : ℕ → ℕ → ImageRef
ref_of zero n = refs.Medium n
ref_of (suc kind) n = refs.Inner n

abbrev pub ref_code : ImageRef → ℕ × ℕ
ref_code (refs.Medium place) = (0, place)
ref_code (refs.Inner n) = (1, n)

abbrev pub ref_number : ℕ → FilePart ℕ
ref_number zero = number w16
ref_number (suc kind) = number w64

unfoldable pub ref_numbers : FilePart ImageRef
ref_numbers = mapped (λ x. ref_of x.0 x.1) ref_code (do
  kind ← tested (number w8) (λ kind. nat_lt kind 2)
  ref_number kind)

unfoldable pub ref_field : FilePart ImageRef
ref_field = one_field ref_numbers

-- the place of the medium at the end of the parents, of inner images that stand last first
abbrev pub base_down : List Inner → ImageRef → Option ℕ
base_down [] (refs.Medium place) = Some place
base_down [] (refs.Inner n) = None
base_down (x ∷ earlier) (refs.Medium place) = Some place
base_down (x ∷ earlier) (refs.Inner n) = if x.number == n then base_down earlier x.parent else base_down earlier (refs.Inner n)

abbrev pub base_of : List Inner → ImageRef → Option ℕ
base_of inners image = base_down (reverse inners) image

-- inner images may stand on the medium at the end of the parents
abbrev pub may_stand : List Medium → Option ℕ → Bool
may_stand media None = false
may_stand media (Some place) = nat_lt place (length media) && is_layered (mode_at media place)

-- one more than the last number
abbrev pub next_number : List Inner → ℕ
next_number before = last_or 0 (λ (x : Inner). x.number + 1) before

unfoldable pub inner_number : ℕ → List Inner → FilePart ℕ
inner_number inner before = tested (number w64) (λ n. nat_le (next_number before) n && nat_lt n inner)

unfoldable pub inner_entry : List Medium → ℕ → List Inner → FilePart Inner
inner_entry media inner before = mapped (λ x. record { number = x.0; parent = x.1 }) (λ x. (x.number, x.parent)) (do
  n ← inner_number inner before
  tested ref_field (λ parent. may_stand media (base_of before parent)))

-- ---- slots

unfoldable pub flag_field : FilePart Bool
flag_field = mapped (λ code. code == 1) flag_code (tested (number w8) (λ code. nat_lt code 2))

abbrev pub held_of : ℕ → ℕ → Held
held_of zero n = Direct
held_of (suc zero) n = Own n
held_of (suc (suc kind)) n = Base

abbrev pub held_code : Held → ℕ × ℕ
held_code Direct = (0, 0)
held_code (Own n) = (1, n)
held_code Base = (2, 0)

abbrev pub is_base_at : ℕ → Option ℕ → Bool
is_base_at medium None = false
is_base_at medium (Some place) = place == medium

-- behind the byte of an own image, its number: that of an image of the medium
abbrev pub own_number : List Inner → ℕ → ℕ → FilePart ℕ
own_number inners medium zero = known (λ n. n == 0) 0
own_number inners medium (suc zero) = tested (number w64) (λ n. is_base_at medium (base_of inners (refs.Inner n)))
own_number inners medium (suc (suc kind)) = known (λ n. n == 0) 0

unfoldable pub held_fields : (of_snapshot : Bool) → List Medium → List Inner → (medium : ℕ) → FilePart Held
held_fields of_snapshot media inners medium = mapped (λ x. held_of x.0 x.1) held_code (do
  kind ← tested (number w8) (λ kind. nat_lt kind 3 && may_hold of_snapshot (mode_at media medium) (held_of kind 0))
  own_number inners medium kind)

-- one more than the last port
abbrev pub next_port : List Slot → ℕ
next_port before = last_or 0 (λ (s : Slot). s.port + 1) before

unfoldable pub port_after : List Slot → FilePart ℕ
port_after before = tested (number w8) (λ port. nat_le (next_port before) port && nat_lt port PORT_LIMIT)

abbrev pub has_place : ℕ → List Slot → Bool
has_place medium slots = list_any (λ (s : Slot). s.medium == medium) slots

-- the place of a medium that the slots before have not
unfoldable pub other_medium : ℕ → List Slot → FilePart ℕ
other_medium count before = tested (number w16) (λ medium. nat_lt medium count && not (has_place medium before))

unfoldable pub autoreset_field : Mode → FilePart Bool
autoreset_field mode = tested flag_field (λ on. not on || is_immutable mode)

unfoldable pub slot_entry : (of_snapshot : Bool) → List Medium → List Inner → List Slot → FilePart Slot
slot_entry of_snapshot media inners before =
    mapped (λ x. record { port = x.0; medium = x.1.0; autoreset = x.1.1.0; held = x.1.1.1 }) (λ s. (s.port, (s.medium, (s.autoreset, s.held)))) (do
      port ← port_after before
      medium ← other_medium (length media) before
      autoreset ← autoreset_field (mode_at media medium)
      held_fields of_snapshot media inners medium)

-- ---- snapshots

abbrev pub list_place_of : ℕ → Option ℕ
list_place_of code = if code == no_place then None else Some code

abbrev pub has_code : Option ℕ → Bool
has_code None = true
has_code (Some place) = nat_lt place no_place

-- a place in a list, or none
unfoldable pub list_place : FilePart (Option ℕ)
list_place = mapped_where list_place_of place_code has_code (number w16)

-- Where the parents so far lead from a place, once that of one more snapshot is known. They end at a root, or at a snapshot whose parent is
-- not yet known.
abbrev pub lead : (at : ℕ) → (parent : Option ℕ) → (ends : ℕ → ℕ) → ℕ → ℕ
lead at None ends from = ends from
lead at (Some parent) ends from = if ends from == at then ends parent else ends from

abbrev pub lead_all : (at : ℕ) → List Snapshot → (ends : ℕ → ℕ) → ℕ → ℕ
lead_all at [] ends = ends
lead_all at (s ∷ rest) ends = lead_all (at + 1) rest (lead at s.parent ends)

abbrev pub ends_of : List Snapshot → ℕ → ℕ
ends_of before = lead_all 0 before (λ from. from)

abbrev pub has_root : List Snapshot → Bool
has_root before = list_any (λ (s : Snapshot). is_none s.parent) before

-- The parent of the snapshot at a place is none, and the first such, or it is in range and closes no circle of the parents up to it.
abbrev pub is_good : (count at : ℕ) → (rooted : Bool) → (ends : ℕ → ℕ) → Option ℕ → Bool
is_good count at rooted ends None = not rooted
is_good count at rooted ends (Some parent) = nat_lt parent count && not (ends parent == at)

abbrev pub is_good_parent : (count : ℕ) → List Snapshot → Option ℕ → Bool
is_good_parent count before parent = is_good count (length before) (has_root before) (ends_of before) parent

unfoldable pub parent_field : (count : ℕ) → List Snapshot → FilePart (Option ℕ)
parent_field count before = tested list_place (is_good_parent count before)

abbrev pub snapshot_entry_name : Snapshot → Name
snapshot_entry_name s = s.name

-- how many places snapshots have
abbrev pub places_listed : List Snapshot → ℕ
places_listed snapshots = sum_by (λ (s : Snapshot). length s.slots) snapshots

-- the places of a snapshot, where there are so many before
unfoldable pub place_list : List Medium → List Inner → (places : ℕ) → FilePart (List Slot)
place_list media inners places = counted_list w8 (λ n. nat_le (places + n) PLACE_LIMIT) (λ _. slot_entry true media inners)

unfoldable pub snapshot_entry : List Medium → List Inner → (places count : ℕ) → List Snapshot → FilePart Snapshot
snapshot_entry media inners places count before =
    mapped (λ x. record { name = x.0; parent = x.1.0; slots = x.1.1 }) (λ s. (s.name, (s.parent, s.slots))) (do
      name ← name_after is_short_name (last_name snapshot_entry_name before)
      parent ← parent_field count before
      place_list media inners (places + places_listed before))

-- ---- machines

abbrev pub machine_entry_name : Machine → Name
machine_entry_name m = m.name

-- how many snapshots machines have, and how many places those have
abbrev pub snapshots_among : List Machine → ℕ
snapshots_among machines = sum_by (λ (m : Machine). length m.snapshots) machines

abbrev pub places_among : List Machine → ℕ
places_among machines = sum_by (λ (m : Machine). places_listed m.snapshots) machines

-- the slots of a machine
unfoldable pub slot_list : Features → List Medium → List Inner → FilePart (List Slot)
slot_list built media inners = counted_list w8 (λ n. nat_le n (limit_if built.slots 255)) (λ _. slot_entry false media inners)

-- the snapshots of a machine, where there are so many before, with so many places
unfoldable pub snapshot_list : Features → List Medium → List Inner → (snapshots places : ℕ) → FilePart (List Snapshot)
snapshot_list built media inners snapshots places =
    counted_list w16 (λ n. nat_le (snapshots + n) (limit_if built.snapshots SNAPSHOT_LIMIT)) (snapshot_entry media inners places)

-- None is current exactly where there are no snapshots.
abbrev pub is_current : (count : ℕ) → Option ℕ → Bool
is_current count None = count == 0
is_current count (Some place) = nat_lt place count

unfoldable pub current_field : (count : ℕ) → FilePart (Option ℕ)
current_field count = tested list_place (is_current count)

-- no file tells that a machine runs
abbrev pub is_off : Machine → Bool
is_off m = not m.running

unfoldable pub machine_entry : Features → List Medium → List Inner → List Machine → FilePart Machine
machine_entry built media inners before =
    mapped_where (λ x. record { name = x.0; running = false; slots = x.1.0; snapshots = x.1.1.0; current = x.1.1.1 })
    (λ m. (m.name, (m.slots, (m.snapshots, m.current)))) is_off (do
      name ← name_after is_short_name (last_name machine_entry_name before)
      slots ← slot_list built media inners
      snapshots ← snapshot_list built media inners (snapshots_among before) (places_among before)
      current_field (length snapshots))

-- ---- what is being made, and mergings

abbrev pub first_of : {X : Type 0} → List X → Option X
first_of [] = None
first_of (x ∷ xs) = Some x

-- a medium's name that no medium has
unfoldable pub new_name : List Medium → FilePart Name
new_name media = tested (one_field text_field) (λ name. is_medium_name name && not (has_name medium_entry_name name media))

unfoldable pub making_field : Features → List Medium → FilePart (Option Name)
making_field built media = mapped first_of list_of (counted_list w8 (λ n. nat_le n (limit_if built.makings 1)) (λ _ _. new_name media))

unfoldable pub merging_entry : FilePart Merging
merging_entry =
    mapped (λ x. record { parent = x.0; child = x.1.0; number = x.1.1 }) (λ j. (j.parent, (j.child, j.number))) (do
      parent ← ref_field
      child ← number w64
      number w64)

-- ---- the file

abbrev pub are_bytes : List ℕ → Bool
are_bytes bytes = list_all (λ b. nat_lt b 256) bytes

-- sixteen items that are bytes, as all items of a file are
unfoldable pub seed_field : FilePart (List ℕ)
seed_field = tested (raw 16) are_bytes

-- how many identifiers were drawn
unfoldable pub drawn_field : FilePart ℕ
drawn_field = tested (number w64) (λ n. nat_le n NUMBER_LIMIT)

unfoldable pub medium_list : Features → FilePart (List Medium)
medium_list built = counted_list w16 (λ n. nat_le n MEDIA_LIMIT) (λ _. medium_entry built)

-- inner images have no limit but that of their count
unfoldable pub inner_list : Features → List Medium → ℕ → FilePart (List Inner)
inner_list built media inner = counted_list w16 (λ n. nat_le n (limit_if built.inner_images 65535)) (λ _. inner_entry media inner)

unfoldable pub machine_list : Features → List Medium → List Inner → FilePart (List Machine)
machine_list built media inners = counted_list w16 (λ n. nat_le n (limit_if built.machines MACHINE_LIMIT)) (λ _. machine_entry built media inners)

-- at most one for each port
unfoldable pub merging_list : Features → FilePart (List Merging)
merging_list built = counted_list w8 (λ n. nat_le n (limit_if built.mergings PORT_LIMIT)) (λ _ _. merging_entry)

-- the seed, and the counters of identifiers of media and of inner images
abbrev pub Counters : Type 0
Counters = List ℕ × (ℕ × ℕ)

unfoldable pub counters : FilePart Counters
counters = do
  seed ← seed_field
  next ← drawn_field
  drawn_field

abbrev pub Lists : Type 0
Lists = List Medium × (List Inner × List Machine)

unfoldable pub lists : Features → ℕ → FilePart Lists
lists built inner = do
  media ← medium_list built
  inners ← inner_list built media inner
  machine_list built media inners

abbrev pub LibraryParts : Type 0
LibraryParts = Counters × (Lists × (Option Name × List Merging))

abbrev pub library_of_parts : LibraryParts → Library
library_of_parts x = record {
  seed = x.0.0;
  next = x.0.1.0;
  inner = x.0.1.1;
  media = x.1.0.0;
  inners = x.1.0.1.0;
  machines = x.1.0.1.1;
  making = x.1.1.0;
  merging = x.1.1.1;
}

abbrev pub parts_of_library : Library → LibraryParts
parts_of_library l = ((l.seed, (l.next, l.inner)), ((l.media, (l.inners, l.machines)), (l.making, l.merging)))

-- the fields behind the head
unfoldable pub library_fields : Features → FilePart Library
library_fields built = mapped library_of_parts parts_of_library (do
  drawn ← counters
  listed ← lists built drawn.1.1
  making ← making_field built listed.0
  merging_list built)

-- an offset in place of how many bytes are left
abbrev pub to_offset : ℕ → Result Library ℕ → Result Library ℕ
to_offset len (Ok l) = Ok l
to_offset len (Err left) = Err (len - left)

-- nothing behind the fields, and a library that keeps the rules on places; one that does not is bad at the file's end
abbrev pub whole : (Library → Bool) → Parsed Library → Result Library ℕ
whole keeps_places (Ok x) = if not (length x.1 == 0) then Err (length x.1) else if keeps_places x.0 then Ok x.0 else Err 0
whole keeps_places (Err left) = Err left

-- The library that a file holds, or the offset of its first bad field. The head comes first, then the length.
unfoldable pub library_in : Features → (keeps_places : Library → Bool) → List ℕ → Result Library ℕ
library_in built keeps_places bytes =
    if not (starts_with nat_eq bytes head) then Err 0
    else if nat_lt LONGEST_LIBRARY (length bytes) then Err LONGEST_LIBRARY
    else to_offset (length bytes) (whole keeps_places ((library_fields built).read (drop 8 bytes)))

-- ---- which libraries files hold

-- each field passes its test, the places keep their rules, and the file is not too long
pub record IsDecoded (built : Features) (keeps_places : Library → Bool) (l : Library) : Type 0 where
  pub fields : IsTrue ((library_fields built).fits l)
  pub places : IsTrue (keeps_places l)
  pub short : length (spelling l) ≤ LONGEST_LIBRARY

abbrev pub entry_off : Machine → Machine
entry_off m = record m { running = false }

-- a library with every machine off, which is what its file tells
abbrev pub library_off : Library → Library
library_off l = record l { machines = map entry_off l.machines }
