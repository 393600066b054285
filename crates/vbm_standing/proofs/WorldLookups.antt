-- Look-ups in the world of a store: media, identifiers, the shelf, and what is in use.
use Rattle.std.proofs.Common.{◌≡◌, ℕ, Bool, true, false, ◌||◌, List, map, None, refl, sym, ap, ◌∙◌, IsTrue}
use Rattle.std.specs.List.{list_any}
use Rattle.std.specs.Option.{option_map}
use Rattle.std.specs.Str.{bytes_eq}
use Rattle.std.proofs.lemmas.Bool.{and_right, false_from_ne_true}
use Rattle.std.proofs.lemmas.Slice.Eq.{bytes_eq-Decides}
use Rattle.vbm_ports.specs.Files.{Files}
use Rattle.vbm_ports.specs.Names.{is_medium_name}
use Rattle.vbm_ids.specs.Identifier.{is_foreign, has_id}
use Rattle.vbm_named.specs.Names.{Name, has_name}
use Rattle.vbm_named.proofs.Lists.{All-map, any_map, any_none, has_found, has_map}
use Rattle.vbm_world.specs.declared.world.WorldMedium.{WorldMedium}
use Rattle.vbm_world.specs.declared.world.WorldSlot.{WorldSlot}
use Rattle.vbm_world.specs.declared.world.WorldSnapshot.{WorldSnapshot}
use Rattle.vbm_world.specs.World.{medium_name, medium_id, has_medium, is_in_snapshot, is_in_use}
use Rattle.vbm_world.specs.Refusals.{is_medium}
use Rattle.vbm_world.specs.Media.{shelved}
use Rattle.vbm_registry.specs.declared.media.Medium.{Medium}
use Rattle.vbm_registry.specs.Library.{medium_entry_name}
use Rattle.vbm_registry.specs.Named.{OfMedium, NamedSlot, NamedSnapshot, NamedMachine, NamedLibrary}
use Rattle.vbm_registry.specs.Chains.{merging_into}
use Rattle.vbm_registry.specs.Entries.{is_using}
use Rattle.vbm_standing.specs.Faults.{id_in, IsMediumFile, IsStore}
use Rattle.vbm_standing.specs.Headers.{shelved_file}
use Rattle.vbm_standing.specs.Meaning.{place_in, slot_in, snapshot_in, machine_in, is_frozen_in, medium_in, is_made, shelf_in, world_of}

-- ---- media

entry-name : (changed : Name → Bool) (l : NamedLibrary) (files : Files) (m : Medium) → medium_name (medium_in changed l files m) ≡ medium_entry_name m
unfolding medium_in
entry-name changed l files m = refl

module _ (changed running : Name → Bool) (l : NamedLibrary) (files : Files) where
  pub is_medium-world : (name : Name) → is_medium (world_of changed running l files) name ≡ has_name medium_entry_name name l.media
  unfolding world_of
  is_medium-world name =
      sym (has_found medium_name name (map (medium_in changed l files) l.media))
      ∙ has_map (medium_in changed l files) medium_entry_name medium_name (entry-name changed l files) name l.media

  pub has_id-world : (id : List ℕ)
      → has_id medium_id id (world_of changed running l files).media ≡ list_any (λ (m : Medium). bytes_eq (id_in files m) id) l.media
  unfolding world_of medium_in
  has_id-world id = any_map (medium_in changed l files) (λ (m : WorldMedium). bytes_eq m.id id) l.media

  -- ---- use

  slots-have : (name : Name) (slots : List NamedSlot)
      → has_medium name (map (slot_in l files) slots) ≡ list_any (λ (s : NamedSlot). bytes_eq s.medium name) slots
  slots-have name slots = any_map (slot_in l files) (λ (s : WorldSlot). bytes_eq s.medium name) slots

  snapshots-have : (name : Name) (m : NamedMachine) → is_in_snapshot name (machine_in running l files m)
      ≡ list_any (λ (s : NamedSnapshot). list_any (λ (t : NamedSlot). bytes_eq t.medium name) s.slots) m.snapshots
  snapshots-have name m =
      any_map (snapshot_in l files) (λ (s : WorldSnapshot). has_medium name s.slots) m.snapshots
      ∙ ap (λ p. list_any p m.snapshots) (λ i s. any_map (place_in l files) (λ (t : WorldSlot). bytes_eq t.medium name) s.slots i)

  -- a medium is in use in the world where it is in the library
  pub in_use-world : (name : Name) → is_in_use (world_of changed running l files).machines name ≡ list_any (is_using name) l.machines
  unfolding world_of
  in_use-world name =
      any_map (machine_in running l files) (λ m. has_medium name m.slots || is_in_snapshot name m) l.machines
      ∙ ap (λ p. list_any p l.machines) (λ i m. slots-have name m.slots i || snapshots-have name m i)

-- a foreign identifier is no medium's
pub foreign-new : (l : NamedLibrary) (files : Files) (id : List ℕ) → IsStore l files → is_foreign l.seed l.next id ≡ true
    → list_any (λ (m : Medium). bytes_eq (id_in files m) id) l.media ≡ false
foreign-new l files id store foreign = any_none (λ (m : Medium). bytes_eq (id_in files m) id) l.media
    (All-map (IsMediumFile l files) (λ m. bytes_eq (id_in files m) id ≡ false) (λ m of. false_from_ne_true _ (λ same.
    let e : id_in files m ≡ id = (bytes_eq-Decides (id_in files m) id).0 same in
    let no : false ≡ true = sym of.known ∙ ap (is_foreign l.seed l.next) e ∙ foreign in
    absurd cc)) l.media store.media)

-- ---- the shelf

pub is_on_shelf : (l : NamedLibrary) (files : Files) (name : Name) → IsTrue (is_medium_name name) → has_name medium_entry_name name l.media ≡ false
    → is_made l.making name ≡ false → shelf_in l files name ≡ option_map shelved_file (files name)
is_on_shelf l files name named none unmade = rw (named, none, unmade) refl

pub is_off_shelf : (l : NamedLibrary) (files : Files) (name : Name) → has_name medium_entry_name name l.media ≡ true → shelf_in l files name ≡ None
is_off_shelf l files name there = rw (there, and_right (is_medium_name name) false refl) refl

-- the file of a medium that is not frozen, and into which nothing is merged, on the shelf
pub medium-shelved : (changed : Name → Bool) (l : NamedLibrary) (files : Files) (m : Medium) → IsMediumFile l files m
    → merging_into (OfMedium m.name) l.merging ≡ None → is_frozen_in l.machines m ≡ false
    → shelved (medium_in changed l files m) (medium_in changed l files m).flat ≡ option_map shelved_file (files m.name)
unfolding medium_in shelved_file
medium-shelved changed l files m of unmerged free =
    let there = of.image.there in
    let accepted = of.image.accepted in
    let whole = of.whole in
    rw (unmerged, free, there, accepted, whole) refl
