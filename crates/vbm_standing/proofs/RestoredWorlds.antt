-- A snapshot is restored: the world of the library and the files after it is the world that the step gives.
use Rattle.std.proofs.Common.{◌≡◌, ℕ, Bool, true, false, [], map, Some, refl, sym, ap, ◌∙◌}
use Rattle.std.specs.Prelude.{count_by}
use Rattle.std.specs.List.{AllByRecursion}
use Rattle.vbm_ports.specs.Files.{Files}
use Rattle.vbm_world.specs.declared.world.WorldMachine.{WorldMachine}
use Rattle.vbm_named.specs.Names.{Name, find_by}
use Rattle.vbm_named.proofs.Lists.{All-map, All-join, All-every, All-find}
use Rattle.vbm_registry.specs.declared.media.Medium.{Medium}
use Rattle.vbm_registry.specs.Named.{ImageName, NamedSnapshot, NamedMachine, NamedLibrary, images_of, named_snapshot_name, named_machine_name}
use Rattle.vbm_standing.specs.Meaning.{place_in, slot_in, snapshot_in, machine_in, has_snapshot_of, is_frozen_in, world_of}
use Rattle.vbm_registry.specs.Rules.{IsMachine, IsLibrary}
use Rattle.vbm_standing.specs.Edits.{renewed_slots, own_in, renewal_of, machine_restored, library_restored}
use Rattle.vbm_world.specs.World.{has_own}
use Rattle.vbm_world.specs.Snapshots.{restored}
use Rattle.vbm_standing.proofs.ChainFrames.{IsRenewed, Remains, disk-stays, disk-new}
use Rattle.vbm_standing.proofs.WorldParts.{OfPlace, SameDisk, snapshots-stay, slots-renewed, over-places, drawn-places}
use Rattle.vbm_standing.proofs.PlacesHeld.{machine-listed, places-map, places-both, machine-both, parents-over, kepts-over}
use Rattle.vbm_standing.proofs.WorldEdits.{IsOfMachine, world-kept, frozen-equal, named-is}
use Rattle.vbm_standing.proofs.LeafImages.{leaves-closed, snaps-stay, others-stay}
use Rattle.vbm_standing.specs.EditedFiles.{AreEdited, IsStaying, HasImage}

module _ (changed running : Name → Bool) (l : NamedLibrary) (a b : Files) (m : NamedMachine) (s : NamedSnapshot)
    (is : IsLibrary l) (plain : l.merging ≡ []) (there : find_by named_machine_name m.name l.machines ≡ Some m)
    (found : find_by named_snapshot_name s.name m.snapshots ≡ Some s) (files : AreEdited l (own_in m.slots) (map renewal_of s.slots) a b) where
  abbrev k : NamedLibrary
  k = library_restored l m s

  abbrev gone : ℕ → Bool
  gone = own_in m.slots

  of : (n : ℕ) → gone n ≡ true → own_in m.slots n ≡ true
  of n goes = goes

  ruled : IsMachine (images_of l) m
  ruled = All-find named_machine_name (IsMachine (images_of l)) m.name m l.machines is.machines there

  -- what snapshots of the machine hold stays
  snapshots-staying : AllByRecursion (λ (t : NamedSnapshot). AllByRecursion (OfPlace (Remains l gone)) t.slots) m.snapshots
  snapshots-staying = All-join _ _ _ (λ t listed stays. places-both (HasImage l) (IsStaying gone) t.slots listed stays) m.snapshots (machine-listed l m ruled).1
      (All-find named_machine_name _ m.name m l.machines (snaps-stay l is plain m there gone of) there)

  staying : AllByRecursion (OfPlace (Remains l gone)) s.slots
  staying = All-find named_snapshot_name (λ t. AllByRecursion (OfPlace (Remains l gone)) t.slots) s.name s m.snapshots snapshots-staying found

  renewed : IsRenewed l gone (map renewal_of s.slots) a b
  renewed = record {
    renewal = record {
      inners = is.inners;
      closed = leaves-closed l is plain m there gone of;
      over = parents-over (Remains l gone) s.slots l.inner staying;
    };
    same = files.same;
    made = files.made;
  }

  same-disk : (image : ImageName) → Remains l gone image → SameDisk l k a b image
  same-disk image stays = disk-stays l gone (map renewal_of s.slots) (machine_restored l m s) a b renewed image stays

  slots-after : map (slot_in k b) (renewed_slots l.inner (map renewal_of s.slots)) ≡ map (place_in l a) s.slots
  slots-after =
      slots-renewed l k a b plain (map renewal_of s.slots) l.inner
      (kepts-over (SameDisk l k a b) s.slots (places-map (Remains l gone) (SameDisk l k a b) same-disk s.slots staying))
      (disk-new l gone (map renewal_of s.slots) (machine_restored l m s) a b renewed)
      ∙ over-places l a s.slots

  snapshots-after : map (snapshot_in k b) m.snapshots ≡ map (snapshot_in l a) m.snapshots
  snapshots-after = snapshots-stay l k a b m.snapshots (All-map _ _ (λ t stays. places-map (Remains l gone) (SameDisk l k a b) same-disk t.slots stays) m.snapshots snapshots-staying)

  abbrev machine_after : WorldMachine
  machine_after = record (machine_in running l a m) { slots = map (place_in l a) s.slots; current = Some s.name }

  machine-after : machine_in running k b (machine_restored l m s) ≡ machine_after
  machine-after = λ i. record { name = m.name; running = running m.name; slots = slots-after i; snapshots = snapshots-after i; current = Some s.name }

  frozen : AllByRecursion (λ (n : Medium). is_frozen_in k.machines n ≡ is_frozen_in l.machines n) l.media
  frozen = All-every _ (λ n. frozen-equal l.machines (machine_restored l m s) n (All-map _ _
      (λ x same of_name. sym (ap (has_snapshot_of n.name) (same of_name))) l.machines (named-is l.machines m is.machines_rise there))) l.media

  of_machine : IsOfMachine running running l gone (map renewal_of s.slots) (machine_restored l m s) a b
  of_machine = record {
    plain = plain;
    renewed = renewed;
    others = All-join (IsMachine (images_of l)) _ _ (λ n of_rules stays other. machine-both (HasImage l) (IsStaying gone) n (machine-listed l n of_rules) (stays other))
        l.machines is.machines (others-stay l is plain m there gone of);
    runs = All-every _ (λ n other. refl) l.machines;
    names = is.media;
    files = files.media;
    frozen = All-map _ _ (λ n same free. sym same ∙ free) l.media frozen;
  }

  -- The library and the files after a snapshot is restored stand for the world that the step gives.
  pub restore-world : world_of changed running k b ≡ restored (world_of changed running l a) (machine_in running l a m) (snapshot_in l a s)
  restore-world = world-kept changed running running l gone (map renewal_of s.slots) (machine_restored l m s) a b of_machine
      machine_after (count_by has_own (map (place_in l a) s.slots)) machine-after refl (drawn-places l a s.slots) frozen
