-- A snapshot is restored: the library keeps its rules, and the files those of a store.
use Rattle.std.proofs.Common.{[], ◌+◌, ◌<◌, ◌∙◌, ◌∷◌, ◌≡◌, ◌≤◌, Bool, List, Some, ap, arith, false, is_some, leb-false, length, map, refl, reverse, subst, sym, true, ℕ}
use Rattle.std.specs.List.{AllByRecursion, list_any}
use Rattle.std.specs.Prelude.{◌==◌, count_by, nat_le}
use Rattle.std.specs.Str.{bytes_eq}
use Rattle.std.proofs.lemmas.Bool.{and_right, ne_eqb, or_parts}
use Rattle.vbm_ports.specs.Files.{Files}
use Rattle.vbm_ids.specs.declared.TheConstants.{NUMBER_LIMIT}
use Rattle.vbm_named.proofs.Lists.{All-find, All-join, All-map, each_found, has_found, has_map, none_of_any}
use Rattle.vbm_named.specs.Names.{find_by, has_name}
use Rattle.vbm_world.specs.Tree.{IsTree, branch_name}
use Rattle.vbm_world.specs.World.{is_normal}
use Rattle.vbm_registry.proofs.Counts.{zero-count}
use Rattle.vbm_registry.specs.Chains.{is_image}
use Rattle.vbm_registry.specs.Library.{medium_entry_name}
use Rattle.vbm_registry.specs.Named.{NamedInner, NamedLibrary, NamedMachine, NamedSlot, NamedSnapshot, OfInner, OfMedium, images_of, named_branch, named_machine_name, named_snapshot_name}
use Rattle.vbm_registry.specs.Rules.{AreSlotsUnder, IsLibrary, IsMachine, IsNamedSlot, IsParent, IsSnapshotOf, count_in, count_in_machine, has_directly, holds, is_based, places_of_some, upper_places}
use Rattle.vbm_registry.specs.declared.media.Medium.{Medium}
use Rattle.vbm_standing.proofs.ChainFrames.{IsRenewal, Remains, new-from}
use Rattle.vbm_standing.proofs.FrozenMedia.{OfSlots, none-placed}
use Rattle.vbm_standing.proofs.KeptRules.{IsRuledEdit, KeepsBase, all-based, edited_rules, edited_store, none-of-old, over-free, same-snapshots, slots-base, snap-apart, snapshots-rule, unheld-machines}
use Rattle.vbm_standing.proofs.LeafImages.{leaves-closed, nowhere, others-stay, snaps-stay}
use Rattle.vbm_standing.proofs.PlacesHeld.{machine-both, machine-listed, parents-over, places-both}
use Rattle.vbm_standing.proofs.RenewedSlots.{none-base, none-number, none-over, over-once, over-under, place-parent}
use Rattle.vbm_standing.proofs.WorldParts.{OfPlace}
use Rattle.vbm_standing.specs.EditedFiles.{AreEdited, HasImage, IsStaying}
use Rattle.vbm_standing.specs.Edits.{Renewal, library_restored, machine_restored, new_inners, own_in, renewal_count, renewal_of, renewed_slots}
use Rattle.vbm_standing.specs.Faults.{IsStore}

module _ (l : NamedLibrary) (m : NamedMachine) (s : NamedSnapshot) (is : IsLibrary l) (plain : l.merging ≡ [])
    (there : find_by named_machine_name m.name l.machines ≡ Some m) (found : find_by named_snapshot_name s.name m.snapshots ≡ Some s)
    (drawn : l.inner + renewal_count (map renewal_of s.slots) ≤ NUMBER_LIMIT) where
  abbrev rs : List Renewal
  rs = map renewal_of s.slots

  abbrev gone : ℕ → Bool
  gone = own_in m.slots

  abbrev after : NamedLibrary
  after = library_restored l m s

  abbrev edited : NamedMachine
  edited = machine_restored l m s

  abbrev fresh : List NamedSlot
  fresh = renewed_slots l.inner rs

  of : (n : ℕ) → gone n ≡ true → own_in m.slots n ≡ true
  of n goes = goes

  ruled : IsMachine (images_of l) m
  ruled = All-find named_machine_name (IsMachine (images_of l)) m.name m l.machines is.machines there

  rules : IsSnapshotOf (images_of l) m s
  rules = All-find named_snapshot_name (IsSnapshotOf (images_of l) m) s.name s m.snapshots ruled.snapshots found

  snapshots-staying : AllByRecursion (λ (t : NamedSnapshot). AllByRecursion (OfPlace (Remains l gone)) t.slots) m.snapshots
  snapshots-staying = All-join _ _ _ (λ t listed stays. places-both (HasImage l) (IsStaying gone) t.slots listed stays) m.snapshots
      (machine-listed l m ruled).1
      (All-find named_machine_name _ m.name m l.machines (snaps-stay l is plain m there gone of) there)

  renewal : IsRenewal l gone rs
  renewal = record {
    inners = is.inners;
    closed = leaves-closed l is plain m there gone of;
    over = parents-over (Remains l gone) s.slots l.inner
        (All-find named_snapshot_name (λ t. AllByRecursion (OfPlace (Remains l gone)) t.slots) s.name s m.snapshots snapshots-staying found);
  }

  parents : AllByRecursion (λ (x : NamedInner). IsParent l.media (reverse l.inners) x.parent) (new_inners l.inner rs)
  parents = parents-over (IsParent l.media (reverse l.inners)) s.slots l.inner (All-map _ _ (place-parent l) s.slots rules.places.valid.each)

  -- ---- the machine

  named-it : upper_places (Some s.name) m.snapshots ≡ s.slots
  named-it = ap places_of_some found

  tree : IsTree (map named_branch m.snapshots) (Some s.name)
  tree =
      let has : has_name branch_name s.name (map named_branch m.snapshots) ≡ true =
      has_map named_branch named_snapshot_name branch_name (λ t. refl) s.name m.snapshots ∙ has_found named_snapshot_name s.name m.snapshots
      ∙ ap is_some found in
      record {
        names = ruled.tree.names;
        parents = ruled.tree.parents;
        depth = ruled.tree.depth;
        below = ruled.tree.below;
        root = ruled.tree.root;
        there = has;
        none = sym (not_empty m.snapshots found);
      }
    where
      not_empty : (xs : List NamedSnapshot) → find_by named_snapshot_name s.name xs ≡ Some s → (length (map named_branch xs) == 0) ≡ false
      not_empty [] e = absurd cc
      not_empty (x ∷ xs) e = ne_eqb (length (map named_branch (x ∷ xs))) 0 (λ same. omega (arith, same))

  machine-after : IsMachine (images_of after) edited
  machine-after = record {
    name = ruled.name;
    tree = tree;
    slots = subst (λ u. AreSlotsUnder (images_of after) false u fresh) (sym named-it)
        (over-under l gone edited s.slots renewal plain rules.places.valid parents);
    snapshots = All-map _ _ (λ t x. record { name = x.name; places = x.places }) m.snapshots
        (snapshots-rule l gone rs edited renewal plain m snapshots-staying ruled);
  }

  -- ---- counts

  held-old : (n : ℕ) → n < l.inner → gone n ≡ false → count_in_machine (holds (OfInner n)) edited ≡ count_in_machine (holds (OfInner n)) m
  held-old n lt stays =
      let old = zero-count (holds (OfInner n)) m.slots (none_of_any (holds (OfInner n)) m.slots stays) in
      omega (arith, none-number s.slots n l.inner lt, old)

  held-new : AllByRecursion (λ (x : NamedInner). count_in_machine (holds (OfInner x.number)) edited ≡ 1) (new_inners l.inner rs)
  held-new = All-join _ _ _ (λ x le once.
      let test = holds (OfInner x.number) in
      let mine = none-of-old l gone rs m edited is plain there test (nowhere test l (unheld-machines l is x.number le)) in
      omega (arith, once, mine))
      (new_inners l.inner rs) (new-from rs l.inner l.inner (omega arith)) (over-once s.slots l.inner)

  -- ---- media

  module _ (n : Medium) (on : find_by medium_entry_name n.name l.media ≡ Some n) (normal : is_normal n.mode ≡ true) where
    abbrev base : NamedSlot → Bool
    base = holds (OfMedium n.name)

    abbrev direct : NamedSlot → Bool
    direct = has_directly n.name

    fresh-direct : count_by direct fresh ≡ 0
    fresh-direct = none-over direct s.slots l.inner (All-map (IsNamedSlot (images_of l) true) _
        (λ t x d. snap-apart l n on normal t x) s.slots rules.places.valid.each)
        (λ i t le. and_right (bytes_eq t.medium n.name) false refl)

    old-base : count_by base m.slots ≡ 0
    old-base = zero-count base m.slots (slots-base l n.name m.slots ruled.slots.valid.each)

    -- where nothing stood on it, no place of the snapshot holds it
    apart : is_based l.inners l.machines n.name ≡ false
        → AllByRecursion (λ (x : NamedInner). is_image x.parent (OfMedium n.name) ≡ false) (new_inners l.inner rs)
    apart free =
        let parts = or_parts (list_any (λ (x : NamedInner). is_image x.parent (OfMedium n.name)) l.inners)
        (nat_le 1 (count_in base l.machines)) free in
        let zero : count_in base l.machines ≡ 0 = omega (arith, leb-false 1 (count_in base l.machines) parts.1) in
        let each = (All-find named_machine_name (OfSlots (λ t. base t ≡ false)) m.name m l.machines (none-placed base l zero) there).1 in
        let mine = All-find named_snapshot_name (λ t. AllByRecursion (λ (x : NamedSlot). base x ≡ false) t.slots) s.name s m.snapshots each found in
        parents-over (λ image. is_image image (OfMedium n.name) ≡ false) s.slots l.inner
        (All-map _ _ (λ t e. over-free n.name t.medium t.held e) s.slots mine)

    keeps-base : KeepsBase l rs m edited n
    keeps-base = record {
      bases = omega (arith, none-base s.slots n.name l.inner, old-base);
      direct = λ based. omega (arith, fresh-direct);
      free = apart;
    }

  restored_edit : IsRuledEdit l gone rs m edited
  restored_edit =
      let same = same-snapshots l gone rs m edited is plain there refl in
      record {
        there = there;
        renewal = renewal;
        parents = parents;
        drawn = drawn;
        machine = machine-after;
        others = All-join (IsMachine (images_of l)) _ _ (λ y x stays other. machine-both (HasImage l) (IsStaying gone) y (machine-listed l y x)
            (stays other))
            l.machines is.machines (others-stay l is plain m there gone of);
        snapshots = same.0;
        places = same.1;
        held = held-old;
        once = held-new;
        based = all-based l gone rs m edited is plain there (All-map _ _ (λ n on normal. keeps-base n on normal) l.media
            (each_found medium_entry_name l.media is.media_rise));
      }

  -- A library after a snapshot is restored keeps the rules.
  pub restored_rules : IsLibrary after
  restored_rules = edited_rules l gone rs m edited is plain restored_edit

  pub restored_store : (a b : Files) → AreEdited l gone rs a b → IsStore l a → IsStore after b
  restored_store a b files store = edited_store l gone rs m edited is plain restored_edit a b files store
