-- The rules that no field of a library's file tells of alone, as a test of the whole: what is held once, what stands on what, and mergings.
use Rattle.std.specs.Prelude.{ℕ, ◌+◌, ◌&&◌, ◌||◌, ◌==◌, not, nat_lt, Bool, true, false, List, count_by, Option, Some, None}
use Rattle.std.specs.List.{list_all}
use Rattle.vbm_named.specs.Names.{Name}
use Rattle.vbm_world.specs.World.{is_normal}
use Rattle.vbm_registry.specs.declared.media.Medium.{Medium}
use Rattle.vbm_registry.specs.declared.library.Library.{Library}
use Rattle.vbm_registry.specs.Named.{ImageName, OfMedium, OfInner, NamedInner, NamedSlot, NamedSnapshot, NamedMachine, NamedMerging, NamedLibrary, ListedImages, images_of, named}
use Rattle.vbm_registry.specs.Chains.{is_image, parent_of}
use Rattle.vbm_registry.specs.Rules.{is_medium_of, upper_places, holds, has_directly, is_stacked, has_slot_at, count_in, mergings_into, is_based}

abbrev pub is_held_once : List NamedMachine → List NamedMerging → ImageName → Bool
is_held_once machines js image = count_in (holds image) machines + mergings_into image js == 1

-- a normal medium on which something stands is shared by no slot, and is held once
abbrev pub is_based_once : List NamedInner → List NamedMachine → List NamedMerging → Medium → Bool
is_based_once inners machines js m =
    not (is_normal m.mode && is_based inners machines m.name)
    || (count_in (has_directly m.name) machines == 0 && is_held_once machines js (OfMedium m.name))

-- slots stand on what the upper snapshot holds, and have its normal media
abbrev pub are_under : ListedImages → (upper slots : List NamedSlot) → Bool
are_under images upper slots =
    list_all (is_stacked images upper) slots
    && list_all (λ (s : NamedSlot). not (is_medium_of is_normal images.media s.medium) || has_slot_at s.port s.medium slots) upper

abbrev pub is_snapshot_under : ListedImages → List NamedSnapshot → NamedSnapshot → Bool
is_snapshot_under images snapshots s = are_under images (upper_places s.parent snapshots) s.slots

abbrev pub is_machine_under : ListedImages → NamedMachine → Bool
is_machine_under images m =
    are_under images (upper_places m.current m.snapshots) m.slots && list_all (is_snapshot_under images m.snapshots) m.snapshots

-- ---- mergings

abbrev pub is_some_image : ImageName → Option ImageName → Bool
is_some_image image None = false
is_some_image image (Some other) = is_image other image

abbrev pub is_merged_into : List Medium → ImageName → Bool
is_merged_into media (OfMedium name) = is_medium_of is_normal media name
is_merged_into media (OfInner n) = true

abbrev pub is_merging : ListedImages → List NamedMachine → NamedMerging → Bool
is_merging images machines j =
    is_some_image j.parent (parent_of images.inners j.child)
    && is_merged_into images.media j.parent
    && count_by (λ (x : NamedInner). is_image x.parent j.parent) images.inners == 1
    && count_in (holds (OfInner j.child)) machines == 1
    && count_by (λ (k : NamedMerging). k.child == j.child) images.merging == 1

abbrev pub is_drawn : (next inner : ℕ) → ImageName → ℕ → Bool
is_drawn next inner (OfMedium name) number = nat_lt number next
is_drawn next inner (OfInner n) number = nat_lt number inner

-- ---- a library

abbrev pub places_are_kept : NamedLibrary → Bool
places_are_kept l =
    list_all (λ (x : NamedInner). is_held_once l.machines l.merging (OfInner x.number)) l.inners
    && list_all (is_based_once l.inners l.machines l.merging) l.media
    && list_all (is_machine_under (images_of l)) l.machines
    && list_all (is_merging (images_of l) l.machines) l.merging
    && list_all (λ (j : NamedMerging). is_drawn l.next l.inner j.parent j.number) l.merging

abbrev pub keeps_places : Library → Bool
keeps_places l = places_are_kept (named l)
