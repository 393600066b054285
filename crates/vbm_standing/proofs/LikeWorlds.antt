-- The world of files that a crash left: it is the world before, but for the unsettled sectors.
use Rattle.std.proofs.Common.{◌≡◌, ℕ, Bool, true, false, not, cond, ◌&&◌, List, [], ◌∷◌, map, reverse, Option, Some, None, refl, ap, IsTrue}
use Rattle.std.specs.List.{AllByRecursion}
use Rattle.std.specs.Option.{option_map}
use Rattle.std.proofs.lemmas.Bool.{cond_both}
use Rattle.vbm_ports.specs.Files.{Files}
use Rattle.vbm_ports.specs.Names.{is_medium_name}
use Rattle.vbm_machines.specs.declared.Held.{Held}
use Rattle.vbm_machines.specs.declared.Held.TheVariants.{Direct, Own, Base}
use Rattle.vbm_named.specs.Names.{Name, has_name}
use Rattle.vbm_named.proofs.Lists.{All-map, All-join, All-both}
use Rattle.vbm_world.specs.declared.world.WorldSlot.{WorldSlot}
use Rattle.vbm_world.specs.declared.world.WorldMachine.{WorldMachine}
use Rattle.vbm_world.specs.Loose.{Unsettled, IsLikeDisk, AreAlike, loose_of_medium, IsLikeMedium, IsLikeSlot, IsLikeMachine, IsLoosely}
use Rattle.vbm_registry.specs.declared.media.Medium.{Medium}
use Rattle.vbm_registry.specs.Library.{medium_entry_name}
use Rattle.vbm_registry.specs.Named.{ImageName, OfMedium, OfInner, NamedSlot, NamedSnapshot, NamedMachine, NamedMerging, NamedLibrary}
use Rattle.vbm_registry.specs.Chains.{merging_into}
use Rattle.vbm_registry.specs.Rules.{IsLibrary}
use Rattle.vbm_standing.specs.Headers.{variant_of, shelved_file}
use Rattle.vbm_standing.specs.ChainDisks.{disk_by}
use Rattle.vbm_standing.specs.Meaning.{is_ending, held_at_end, own_by, slot_in, machine_in, is_frozen_in, modify_at_end, flat_at_end, medium_in, is_made, shelf_in, world_of}
use Rattle.vbm_standing.specs.EditedFiles.{HasImage}
use Rattle.vbm_standing.proofs.ChainFrames.{disk-medium}
use Rattle.vbm_standing.proofs.WorldParts.{OfHeld, OfPlace, SameDisk, snapshots-stay}
use Rattle.vbm_standing.proofs.PlacesHeld.{held-map, machine-listed, places-both}
use Rattle.vbm_standing.proofs.FirstSnapshots.{merging-rules}
use Rattle.vbm_standing.proofs.MediaWorlds.{own-number, each-listed}
use Rattle.vbm_standing.proofs.LikeChains.{header-like, like-weaker, AreLikeImages, loose_through, disk-like, disk-settled}

-- the image whose chain a medium's disk is read through: its own, or that of the child of a merging into it
abbrev pub end_image : Name → Option NamedMerging → ImageName
end_image name None = OfMedium name
end_image name (Some j) = OfInner j.child

-- An image's disk is loose nowhere, or in unsettled sectors of a slot alone.
abbrev pub IsSettled : NamedLibrary → (Name → ℕ → Bool) → ImageName → Type 0
IsSettled l loose image = (i : ℕ) → loose_through l loose image i ≡ false

abbrev pub IsLooseWithin : NamedLibrary → (Name → ℕ → Bool) → (ℕ → Bool) → ImageName → Type 0
IsLooseWithin l loose within image = (i : ℕ) → within i ≡ false → loose_through l loose image i ≡ false

-- Where the files of images are loose: not in what snapshots hold; in what a machine's slot has of its own, in the slot's unsettled
-- sectors; in what a medium's disk is read through, in those of the slots that share it.
pub record AreLooseWithin (l : NamedLibrary) (loose : Name → ℕ → Bool) (u : Unsettled) (machines : List WorldMachine) : Type 0 where
  pub snapshots : AllByRecursion
      (λ (m : NamedMachine). AllByRecursion (λ (s : NamedSnapshot). AllByRecursion (OfPlace (IsSettled l loose)) s.slots) m.snapshots) l.machines
  pub slots : AllByRecursion (λ (m : NamedMachine). AllByRecursion (λ (s : NamedSlot).
      OfHeld (IsLooseWithin l loose (u m.name s.port)) s.medium (held_at_end l.merging s.held)) m.slots) l.machines
  pub media : AllByRecursion (λ (m : Medium). is_frozen_in l.machines m ≡ false
      → IsLooseWithin l loose (loose_of_medium u machines m.name) (end_image m.name (merging_into (OfMedium m.name) l.merging))) l.media

alike-map : {X Y : Type 0} (like : Y → Y → Type 0) (f g : X → Y) (xs : List X) → AllByRecursion (λ x. like (f x) (g x)) xs
    → AreAlike like (map f xs) (map g xs)
alike-map like f g [] all = tt
alike-map like f g (x ∷ xs) all = (all.0, alike-map like f g xs all.1)

module _ (changed running : Name → Bool) (l : NamedLibrary) (is : IsLibrary l) (loose : Name → ℕ → Bool) (a b : Files)
    (like : AreLikeImages l loose a b)
    (shelf : (name : Name) → IsTrue (is_medium_name name) → has_name medium_entry_name name l.media ≡ false → is_made l.making name ≡ false
    → b name ≡ a name)
    (u : Unsettled) (within : AreLooseWithin l loose u (map (machine_in running l a) l.machines)) where
  abbrev machines : List WorldMachine
  machines = map (machine_in running l a) l.machines

  -- ---- slots

  own-like : (settled : ℕ → Bool) (medium : Name) (h : Held) → OfHeld (HasImage l) medium h → OfHeld (IsLooseWithin l loose settled) medium h
      → IsLikeDisk settled (own_by l a medium h) (own_by l b medium h)
  own-like settled medium Direct listed only = tt
  own-like settled medium (Own n) listed only = like-weaker _ settled _ _ only (disk-like l is loose a b like (OfInner n) listed)
  own-like settled medium Base listed only = like-weaker _ settled _ _ only (disk-like l is loose a b like (OfMedium medium) listed)

  end-listed : (js : List NamedMerging) (medium : Name) (h : Held) → OfHeld (HasImage l) medium h → OfHeld (HasImage l) medium (held_at_end js h)
  end-listed js medium Direct of = tt
  end-listed js medium (Own n) of = cond_both (is_ending js n) Direct (Own n) (OfHeld (HasImage l) medium) (λ e. tt) (λ e. of)
  end-listed js medium Base of = of

  slot-like : (settled : ℕ → Bool) (s : NamedSlot) → OfPlace (HasImage l) s
      → OfHeld (IsLooseWithin l loose settled) s.medium (held_at_end l.merging s.held)
      → IsLikeSlot settled (slot_in l a s) (slot_in l b s)
  slot-like settled s listed only = record {
    rest = refl;
    disk = own-like settled s.medium (held_at_end l.merging s.held) (end-listed l.merging s.medium s.held listed) only;
  }

  settled-disks : (slots : List NamedSlot) → AllByRecursion (OfPlace (HasImage l)) slots → AllByRecursion (OfPlace (IsSettled l loose)) slots
      → AllByRecursion (OfPlace (SameDisk l l a b)) slots
  settled-disks slots listed settled = All-map _ _ (λ s both.
      held-map (λ image. HasImage l image × IsSettled l loose image) (SameDisk l l a b) (λ image x. disk-settled l is loose a b like image x.0 x.1)
      s.medium s.held both)
      slots (places-both (HasImage l) (IsSettled l loose) slots listed settled)

  machine-like : (m : NamedMachine) → AllByRecursion (OfPlace (HasImage l)) m.slots
      × AllByRecursion (λ (s : NamedSnapshot). AllByRecursion (OfPlace (HasImage l)) s.slots) m.snapshots
      → AllByRecursion (λ (s : NamedSnapshot). AllByRecursion (OfPlace (IsSettled l loose)) s.slots) m.snapshots
      → AllByRecursion (λ (s : NamedSlot). OfHeld (IsLooseWithin l loose (u m.name s.port)) s.medium (held_at_end l.merging s.held)) m.slots
      → IsLikeMachine u (machine_in running l a m) (machine_in running l b m)
  machine-like m listed settled only =
      let snapshots = snapshots-stay l l a b m.snapshots (All-join _ _ _ (λ s x y. settled-disks s.slots x y) m.snapshots listed.1 settled) in
      record {
        rest = λ i. record {
          name = m.name;
          running = running m.name;
          slots = map (slot_in l b) m.slots;
          snapshots = snapshots i;
          current = m.current;
        };
        slots = alike-map (λ (s t : WorldSlot). IsLikeSlot (u m.name s.port) s t) (slot_in l a) (slot_in l b) m.slots
            (All-join _ _ _ (λ s x y. slot-like (u m.name s.port) s x y) m.slots listed.0 only);
      }

  -- ---- media

  flat-like-end : (settled : ℕ → Bool) (m : Medium) (o : Option NamedMerging) → merging_into (OfMedium m.name) l.merging ≡ o
      → HasImage l (OfMedium m.name)
      → IsLooseWithin l loose settled (end_image m.name o)
      → IsLikeDisk settled (Some (flat_at_end l a m.name o)) (Some (flat_at_end l b m.name o))
  flat-like-end settled m None e listed only =
      let whole = like-weaker (loose_through l loose (OfMedium m.name)) settled (disk_by l a (OfMedium m.name)) (disk_by l b (OfMedium m.name)) only
      (disk-like l is loose a b like (OfMedium m.name) listed) in
      rw (disk-medium l a m.name, disk-medium l b m.name) at whole
  flat-like-end settled m (Some j) e listed only =
      like-weaker _ settled _ _ only (disk-like l is loose a b like (OfInner j.child)
      (own-number (reverse l.inners) j.child j.parent (merging-rules l is (OfMedium m.name) j e).parent))

  medium-like : (m : Medium) → has_name medium_entry_name m.name l.media ≡ true
      → (is_frozen_in l.machines m ≡ false
      → IsLooseWithin l loose (loose_of_medium u machines m.name) (end_image m.name (merging_into (OfMedium m.name) l.merging)))
      → IsLikeMedium (loose_of_medium u machines m.name) (medium_in changed l a m) (medium_in changed l b m)
  unfolding medium_in
  medium-like m listed only =
      let header = header-like loose a b m.name (like (OfMedium m.name) listed) in
      let none = merging_into (OfMedium m.name) l.merging in
      record {
        rest = λ i. record {
          name = m.name;
          id = (header i).id;
          modify = modify_at_end l.seed (header i) none;
          changed = changed m.name;
          mode = m.mode;
          variant = variant_of (header i).image_type;
          capacity = (header i).capacity;
          flat = cond (is_frozen_in l.machines m) None (Some (flat_at_end l b m.name none));
        };
        disk = of (is_frozen_in l.machines m) refl;
      }
    where
      of : (t : Bool) → is_frozen_in l.machines m ≡ t
          → IsLikeDisk (loose_of_medium u machines m.name) (cond t None (Some (flat_at_end l a m.name (merging_into (OfMedium m.name) l.merging))))
          (cond t None (Some (flat_at_end l b m.name (merging_into (OfMedium m.name) l.merging))))
      of true e = tt
      of false e = flat-like-end (loose_of_medium u machines m.name) m (merging_into (OfMedium m.name) l.merging) refl listed (only e)

  -- ---- the shelf

  shelf-same : shelf_in l b ≡ shelf_in l a
  shelf-same = λ i name. at name i
    where
      of : (name : Name) (x y z : Bool) → (x ≡ true → y ≡ false → z ≡ false → b name ≡ a name)
          → cond (x && not y && not z) (option_map shelved_file (b name)) None ≡ cond (x && not y && not z) (option_map shelved_file (a name)) None
      of name true false false same = ap (option_map shelved_file) (same refl refl refl)
      of name true false true same = refl
      of name true true z same = refl
      of name false y z same = refl

      at : (name : Name) → shelf_in l b name ≡ shelf_in l a name
      at name = of name (is_medium_name name) (has_name medium_entry_name name l.media) (is_made l.making name) (shelf name)

  medium-named : (m : Medium) → has_name medium_entry_name m.name l.media ≡ true
      → (is_frozen_in l.machines m ≡ false
      → IsLooseWithin l loose (loose_of_medium u machines m.name) (end_image m.name (merging_into (OfMedium m.name) l.merging)))
      → IsLikeMedium (loose_of_medium u machines (medium_in changed l a m).name) (medium_in changed l a m) (medium_in changed l b m)
  unfolding medium_in
  medium-named m listed only = medium-like m listed only

  -- The world after a crash is loosely the world before.
  pub world-like : IsLoosely u (world_of changed running l a) (world_of changed running l b)
  unfolding world_of
  world-like = record {
    rest = λ i. record {
      seed = l.seed;
      next = l.next;
      inner = l.inner;
      media = map (medium_in changed l b) l.media;
      machines = map (machine_in running l b) l.machines;
      shelf = shelf-same i;
    };
    media = alike-map _ (medium_in changed l a) (medium_in changed l b) l.media (All-join _ _ _ medium-named l.media (each-listed l is) within.media);
    machines = alike-map (IsLikeMachine u) (machine_in running l a) (machine_in running l b) l.machines
        (All-join _ _ _ (λ m x y. machine-like m x.0 x.1 y) l.machines
        (All-both _ _ l.machines (All-map _ _ (machine-listed l) l.machines is.machines) within.snapshots) within.slots);
  }
