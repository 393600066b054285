-- A medium is attached, or taken off: the world of the library and the files after it is the world that the step gives.
use Rattle.std.proofs.Common.{◌≡◌, ℕ, Bool, true, false, cond, ◌&&◌, List, [], ◌∷◌, map, Some, None, refl, sym, ap, ◌∙◌, is_some}
use Rattle.std.specs.Prelude.{nat_lt, count_by}
use Rattle.std.specs.List.{AllByRecursion, list_any}
use Rattle.std.proofs.lemmas.Bool.{cond_both}
use Rattle.std.proofs.lemmas.Slice.Eq.{bytes_eq-Decides}
use Rattle.vbm_ports.specs.Files.{Files}
use Rattle.vbm_modes.specs.declared.Mode.{Mode}
use Rattle.vbm_modes.specs.declared.Mode.TheVariants.{Normal, Immutable, Writethrough, MultiAttach, Readonly}
use Rattle.vbm_machines.specs.declared.Held.TheVariants.{Direct, Own}
use Rattle.vbm_world.specs.declared.world.WorldMachine.{WorldMachine}
use Rattle.vbm_named.specs.Names.{Name, find_by}
use Rattle.vbm_modes.specs.Modes.{is_own}
use Rattle.vbm_world.specs.World.{has_own, is_normal, is_immutable}
use Rattle.vbm_world.specs.Slots.{put_slot, attached_slot, attached}
use Rattle.vbm_named.proofs.Lists.{has_found, find_named, All-map, All-every, All-find}
use Rattle.vbm_registry.specs.declared.media.Medium.{Medium}
use Rattle.vbm_registry.specs.Library.{medium_entry_name}
use Rattle.vbm_registry.specs.Named.{ImageName, OfMedium, OfInner, NamedInner, NamedSlot, NamedMachine, NamedLibrary, images_of, named_machine_name}
use Rattle.vbm_registry.specs.Chains.{merging_into}
use Rattle.vbm_standing.specs.ChainDisks.{disk_by}
use Rattle.vbm_standing.specs.Meaning.{own_by, place_in, slot_in, snapshot_in, machine_in, has_snapshot_of, is_frozen_in, flat_at_end, medium_in, world_of}
use Rattle.vbm_registry.specs.Rules.{has_mode, is_medium_of, IsMachine, IsLibrary}
use Rattle.vbm_standing.specs.Edits.{Renewal, Keep, Renew, renewed_slots, new_inners, renewal_count, none_gone, put_named_slot, new_slot, attachment_by, attachment, put_first, library_attached}
use Rattle.vbm_standing.proofs.ChainFrames.{disk-medium, IsRenewed, Remains, disk-stays, disk-new}
use Rattle.vbm_standing.proofs.WorldParts.{slot-plain, OfPlace, OfMachine, SameDisk, place-stays, slots-stay, snapshots-stay, OfKept, renewed_in}
use Rattle.vbm_standing.proofs.PlacesHeld.{machine-listed, machine-map}
use Rattle.vbm_standing.proofs.WorldEdits.{IsOfMachine, world-kept, frozen-equal, named-is}
use Rattle.vbm_standing.proofs.TakenWorlds.{stays-all, closed-all}
use Rattle.vbm_standing.specs.EditedFiles.{AreEdited, HasImage}

-- ---- a slot more

module _ (l k : NamedLibrary) (a b : Files) (plainly : k.merging ≡ []) where
  put-map : (s : NamedSlot) (slots : List NamedSlot) → map (slot_in k b) (put_named_slot s slots) ≡ put_slot (slot_in k b s) (map (slot_in k b) slots)
  unfolding put_slot
  put-map s [] = refl
  put-map s (t ∷ slots) =
      cond_both (nat_lt s.port t.port) (s ∷ t ∷ slots) (t ∷ put_named_slot s slots) (λ l. map (slot_in k b) l ≡ put_slot (slot_in k b s) (map (slot_in k b) (t ∷ slots)))
      (λ e. rw e refl) (λ e. rw e (ap (λ l. slot_in k b t ∷ l) (put-map s slots)))

  pub first-renewed : (r : Renewal) (n : ℕ) → OfKept (SameDisk l k a b) (r ∷ [])
      → AllByRecursion (λ (x : NamedInner). disk_by k b (OfInner x.number) ≡ disk_by l a x.parent) (new_inners n (r ∷ [])) → (slots : List NamedSlot)
      → map (slot_in k b) (put_first (renewed_slots n (r ∷ [])) slots) ≡ put_slot (renewed_in l a r) (map (slot_in k b) slots)
  first-renewed (Keep s) n same new slots =
      put-map s slots
      ∙ ap (λ t. put_slot t (map (slot_in k b) slots)) (slot-plain k b plainly s ∙ place-stays l k a b s same.0)
  first-renewed (Renew s over) n same new slots =
      put-map (record s { held = Own n }) slots
      ∙ ap (λ t. put_slot t (map (slot_in k b) slots)) (slot-plain k b plainly (record s { held = Own n })
      ∙ (λ i. record { port = s.port; medium = s.medium; autoreset = s.autoreset; own = Some (new.0 i) }))

-- ---- the slot of a medium

module _ (l : NamedLibrary) (files : Files) where
  attached-by : (c : Bool) (s : NamedSlot) → s.held ≡ Direct
      → renewed_in l files (attachment_by c s) ≡ (record { port = s.port; medium = s.medium; autoreset = s.autoreset; own = cond c (Some (disk_by l files (OfMedium s.medium))) None })
  attached-by true s direct = refl
  attached-by false s direct = λ i. record { port = s.port; medium = s.medium; autoreset = s.autoreset; own = own_by l files s.medium (direct i) }

  drawn-by : (c : Bool) (s : NamedSlot) → s.held ≡ Direct → renewal_count (attachment_by c s ∷ []) ≡ count_by has_own (renewed_in l files (attachment_by c s) ∷ [])
  drawn-by true s direct = refl
  drawn-by false s direct = rw direct refl

over-by : (P : ImageName → Type 0) (c : Bool) (s : NamedSlot) (n : ℕ) → P (OfMedium s.medium) → AllByRecursion (λ (x : NamedInner). P x.parent) (new_inners n (attachment_by c s ∷ []))
over-by P true s n p = (p, tt)
over-by P false s n p = tt

keeps-by : (P : ImageName → Type 0) (c : Bool) (s : NamedSlot) → OfPlace P s → OfKept P (attachment_by c s ∷ [])
keeps-by P true s p = tt
keeps-by P false s p = (p, tt)

cond_same : {X : Type 0} (c : Bool) (x y z : X) → (c ≡ true → x ≡ y) → cond c x z ≡ cond c y z
cond_same true x y z e = e refl
cond_same false x y z e = refl

shared_not_normal : (mode : Mode) → is_own mode ≡ true → is_normal mode ≡ false
shared_not_normal Normal e = absurd cc
shared_not_normal Immutable e = refl
shared_not_normal MultiAttach e = refl
shared_not_normal Writethrough e = refl
shared_not_normal Readonly e = refl

module _ (changed running : Name → Bool) (l : NamedLibrary) (a b : Files) (m : NamedMachine) (port : ℕ) (name : Name) (medium : Medium)
    (is : IsLibrary l) (plain : l.merging ≡ []) (there : find_by named_machine_name m.name l.machines ≡ Some m)
    (found : find_by medium_entry_name name l.media ≡ Some medium) (files : AreEdited l none_gone (attachment l.media port name ∷ []) a b) where
  abbrev k : NamedLibrary
  k = library_attached l m port name

  abbrev r : Renewal
  r = attachment l.media port name

  abbrev rs : List Renewal
  rs = r ∷ []

  abbrev edited : NamedMachine
  edited = record m { slots = put_first (renewed_slots l.inner rs) m.slots }

  ruled : IsMachine (images_of l) m
  ruled = All-find named_machine_name (IsMachine (images_of l)) m.name m l.machines is.machines there

  named_so : medium.name ≡ name
  named_so = (bytes_eq-Decides medium.name name).0 (find_named medium_entry_name name medium l.media found)

  abbrev shared : Bool
  shared = is_medium_of is_own l.media name

  abbrev slot : NamedSlot
  slot = new_slot l.media port name

  keeps : (P : ImageName → Type 0) → OfKept P rs
  keeps P = keeps-by P shared slot tt

  renewed : IsRenewed l none_gone rs a b
  renewed = record {
    renewal = record {
      inners = is.inners;
      closed = All-every _ (λ x stays. closed-all x.parent) l.inners;
      over = over-by (Remains l none_gone) shared slot l.inner (has_found medium_entry_name name l.media ∙ ap is_some found, tt);
    };
    same = files.same;
    made = files.made;
  }

  same-disk : (image : ImageName) → HasImage l image → SameDisk l k a b image
  same-disk image listed = disk-stays l none_gone rs edited a b renewed image (stays-all l image listed)

  same-machine : OfMachine (SameDisk l k a b) m
  same-machine = machine-map (HasImage l) (SameDisk l k a b) same-disk m (machine-listed l m ruled)

  -- the slot has the medium's disk, or shares it
  slot-is : renewed_in l a r ≡ attached_slot port (medium_in changed l a medium)
  unfolding medium_in
  slot-is =
      let disk = disk_by l a (OfMedium name) in
      let flat : is_own medium.mode ≡ true → Some disk ≡ (medium_in changed l a medium).flat = λ e.
      ap (λ n. Some (disk_by l a (OfMedium n))) (sym named_so) ∙ ap Some (disk-medium l a medium.name)
      ∙ ap (λ js. Some (flat_at_end l a medium.name (merging_into (OfMedium medium.name) js))) (sym plain)
      ∙ ap (λ t. cond (t && list_any (has_snapshot_of medium.name) l.machines) None (Some (flat_at_end l a medium.name (merging_into (OfMedium medium.name) l.merging)))) (sym (shared_not_normal medium.mode e)) in
      let shared_so : shared ≡ is_own medium.mode = ap (has_mode is_own) found in
      let reset_so : is_medium_of is_immutable l.media name ≡ is_immutable medium.mode = ap (has_mode is_immutable) found in
      let own : cond shared (Some disk) None ≡ cond (is_own medium.mode) (medium_in changed l a medium).flat None =
      ap (λ c. cond c (Some disk) None) shared_so ∙ cond_same (is_own medium.mode) _ _ None flat in
      attached-by l a shared slot refl
      ∙ (λ i. record { port = port; medium = sym named_so i; autoreset = reset_so i; own = own i })

  drawn-is : renewal_count rs ≡ count_by has_own (attached_slot port (medium_in changed l a medium) ∷ [])
  drawn-is = drawn-by l a shared slot refl ∙ ap (λ s. count_by has_own (s ∷ [])) slot-is

  abbrev machine_after : WorldMachine
  machine_after = record (machine_in running l a m) { slots = put_slot (attached_slot port (medium_in changed l a medium)) (map (slot_in l a) m.slots) }

  machine-after : machine_in running k b edited ≡ machine_after
  machine-after =
      let slots : map (slot_in k b) (put_first (renewed_slots l.inner rs) m.slots) ≡ put_slot (attached_slot port (medium_in changed l a medium)) (map (slot_in l a) m.slots) =
      first-renewed l k a b plain r l.inner (keeps (SameDisk l k a b)) (disk-new l none_gone rs edited a b renewed) m.slots
      ∙ (λ i. put_slot (slot-is i) (slots-stay l k a b plain plain m.slots same-machine.0 i)) in
      let snapshots = snapshots-stay l k a b m.snapshots same-machine.1 in
      λ i. record { name = m.name; running = running m.name; slots = slots i; snapshots = snapshots i; current = m.current }

  frozen : AllByRecursion (λ (n : Medium). is_frozen_in k.machines n ≡ is_frozen_in l.machines n) l.media
  frozen = All-every _ (λ n. frozen-equal l.machines edited n (All-map _ _
      (λ x same of_name. sym (ap (has_snapshot_of n.name) (same of_name))) l.machines (named-is l.machines m is.machines_rise there))) l.media

  of_machine : IsOfMachine running running l none_gone rs edited a b
  of_machine = record {
    plain = plain;
    renewed = renewed;
    others = All-map (IsMachine (images_of l)) _ (λ n of other. machine-map (HasImage l) (Remains l none_gone) (stays-all l) n (machine-listed l n of)) l.machines is.machines;
    runs = All-every _ (λ n other. refl) l.machines;
    names = is.media;
    files = files.media;
    frozen = All-map _ _ (λ n same free. sym same ∙ free) l.media frozen;
  }

  -- The library and the files after a medium is attached stand for the world that the step gives.
  pub attach-world : world_of changed running k b ≡ attached (world_of changed running l a) (machine_in running l a m) port (medium_in changed l a medium)
  attach-world = world-kept changed running running l none_gone rs edited a b of_machine
      machine_after (count_by has_own (attached_slot port (medium_in changed l a medium) ∷ [])) machine-after refl drawn-is frozen
