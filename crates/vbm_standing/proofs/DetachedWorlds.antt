-- A medium is taken off: the world of the library and the files after it is the world that the step gives.
use Rattle.std.proofs.Common.{◌≡◌, ℕ, Bool, true, not, List, [], ◌∷◌, map, Some, refl, sym, ap, ◌∙◌}
use Rattle.std.specs.Prelude.{◌==◌, filter}
use Rattle.std.specs.List.{AllByRecursion}
use Rattle.std.proofs.lemmas.Bool.{cond_both}
use Rattle.vbm_ports.specs.Files.{Files}
use Rattle.vbm_world.specs.declared.world.WorldSlot.{WorldSlot}
use Rattle.vbm_world.specs.declared.world.WorldMachine.{WorldMachine}
use Rattle.vbm_named.specs.Names.{Name, find_by}
use Rattle.vbm_named.proofs.Lists.{All-map, All-join, All-every, All-find}
use Rattle.vbm_registry.specs.Named.{ImageName, NamedSlot, NamedSnapshot, NamedMachine, NamedLibrary, images_of, named_machine_name}
use Rattle.vbm_standing.specs.Meaning.{slot_in, machine_in, has_snapshot_of, is_frozen_in, world_of}
use Rattle.vbm_registry.specs.Rules.{IsMachine, IsLibrary}
use Rattle.vbm_standing.specs.Edits.{own_in, slots_at_port, slots_off_port, library_detached}
use Rattle.vbm_world.specs.Places.{with_machine}
use Rattle.vbm_registry.specs.declared.media.Medium.{Medium}
use Rattle.vbm_standing.proofs.ChainFrames.{IsRenewed, Remains, disk-stays}
use Rattle.vbm_standing.proofs.WorldParts.{OfPlace, OfMachine, SameDisk, slots-stay, snapshots-stay}
use Rattle.vbm_standing.proofs.PlacesHeld.{machine-listed, places-map, places-both, machine-both}
use Rattle.vbm_standing.proofs.WorldEdits.{IsOfMachine, world-kept, frozen-equal, named-is}
use Rattle.vbm_standing.proofs.EditedStores.{All-filter}
use Rattle.vbm_standing.proofs.LeafImages.{leaves-closed, snaps-stay, others-stay, going-own, left-stay}
use Rattle.vbm_standing.specs.EditedFiles.{AreEdited, IsStaying, HasImage}

pub filter-map : {X Y : Type 0} (f : X → Y) (p : Y → Bool) (xs : List X) → filter p (map f xs) ≡ map f (filter (λ x. p (f x)) xs)
filter-map f p [] = refl
filter-map f p (x ∷ xs) = cond_both (p (f x)) (x ∷ filter (λ y. p (f y)) xs) (filter (λ y. p (f y)) xs) (λ l. filter p (map f (x ∷ xs)) ≡ map f l)
    (λ e. rw e (ap (λ l. f x ∷ l) (filter-map f p xs))) (λ e. rw e (filter-map f p xs))

module _ (changed running : Name → Bool) (l : NamedLibrary) (a b : Files) (m : NamedMachine) (port : ℕ)
    (is : IsLibrary l) (plain : l.merging ≡ []) (there : find_by named_machine_name m.name l.machines ≡ Some m)
    (files : AreEdited l (own_in (slots_at_port port m.slots)) [] a b) where
  abbrev k : NamedLibrary
  k = library_detached l m port

  abbrev gone : ℕ → Bool
  gone = own_in (slots_at_port port m.slots)

  abbrev edited : NamedMachine
  edited = record m { slots = slots_off_port port m.slots }

  abbrev at : NamedSlot → Bool
  at s = s.port == port

  of : (n : ℕ) → gone n ≡ true → own_in m.slots n ≡ true
  of = going-own l is plain m there at

  ruled : IsMachine (images_of l) m
  ruled = All-find named_machine_name (IsMachine (images_of l)) m.name m l.machines is.machines there

  listed : OfMachine (HasImage l) m
  listed = machine-listed l m ruled

  snapshots-staying : AllByRecursion (λ (t : NamedSnapshot). AllByRecursion (OfPlace (Remains l gone)) t.slots) m.snapshots
  snapshots-staying = All-join _ _ _ (λ t on stays. places-both (HasImage l) (IsStaying gone) t.slots on stays) m.snapshots listed.1
      (All-find named_machine_name _ m.name m l.machines (snaps-stay l is plain m there gone of) there)

  slots-staying : AllByRecursion (OfPlace (Remains l gone)) (slots_off_port port m.slots)
  slots-staying = places-both (HasImage l) (IsStaying gone) (slots_off_port port m.slots)
      (All-filter _ (λ (s : NamedSlot). not (s.port == port)) m.slots (All-map _ _ (λ s on so. on) m.slots listed.0)) (left-stay l is plain m there at)

  renewed : IsRenewed l gone [] a b
  renewed = record { renewal = record { inners = is.inners; closed = leaves-closed l is plain m there gone of; over = tt }; same = files.same; made = tt }

  same-disk : (image : ImageName) → Remains l gone image → SameDisk l k a b image
  same-disk image stays = disk-stays l gone [] edited a b renewed image stays

  abbrev machine_after : WorldMachine
  machine_after = record (machine_in running l a m) { slots = filter (λ (s : WorldSlot). not (s.port == port)) (map (slot_in l a) m.slots) }

  machine-after : machine_in running k b edited ≡ machine_after
  machine-after =
      let slots : map (slot_in k b) (slots_off_port port m.slots) ≡ filter (λ (s : WorldSlot). not (s.port == port)) (map (slot_in l a) m.slots) =
      slots-stay l k a b plain plain (slots_off_port port m.slots) (places-map (Remains l gone) (SameDisk l k a b) same-disk (slots_off_port port m.slots) slots-staying)
      ∙ sym (filter-map (slot_in l a) (λ (s : WorldSlot). not (s.port == port)) m.slots) in
      let snapshots = snapshots-stay l k a b m.snapshots (All-map _ _ (λ t stays. places-map (Remains l gone) (SameDisk l k a b) same-disk t.slots stays) m.snapshots snapshots-staying) in
      λ i. record { name = m.name; running = running m.name; slots = slots i; snapshots = snapshots i; current = m.current }

  frozen : AllByRecursion (λ (n : Medium). is_frozen_in k.machines n ≡ is_frozen_in l.machines n) l.media
  frozen = All-every _ (λ n. frozen-equal l.machines (edited) n (All-map _ _
      (λ x same of_name. sym (ap (has_snapshot_of n.name) (same of_name))) l.machines (named-is l.machines m is.machines_rise there))) l.media

  of_machine : IsOfMachine running running l gone [] edited a b
  of_machine = record {
    plain = plain;
    renewed = renewed;
    others = All-join (IsMachine (images_of l)) _ _ (λ n of_rules stays other. machine-both (HasImage l) (IsStaying gone) n (machine-listed l n of_rules) (stays other))
        l.machines is.machines (others-stay l is plain m there gone of);
    runs = All-every _ (λ n other. refl) l.machines;
    names = is.media;
    files = files.media;
    frozen = All-map _ _ (λ n same free. sym same ∙ free) l.media frozen;
  }

  -- The library and the files after a medium is taken off stand for the world that the step gives.
  pub detach-world : world_of changed running k b ≡ with_machine (world_of changed running l a) machine_after 0
  detach-world = world-kept changed running running l gone [] edited a b of_machine machine_after 0 machine-after refl refl frozen
