-- Commands of guests lead from a sound world to a sound one.
use Rattle.std.proofs.Common.{◌≡◌, ℕ, ◌+◌, ◌≤◌, ◌<◌, ◌==◌, ◌&&◌, Bool, true, false, not, List, [], ◌∷◌, length, Option, Some, None, refl, sym, ap, subst, ◌∙◌, arith, is_some, is_none, if◌then◌else◌, eqb-true, leb-false, unwrap_or}
use Rattle.std.specs.Option.{option_and_then}
use Rattle.std.proofs.lemmas.Bool.{cond_both, ltb-false}
use Rattle.vbm_ids.specs.declared.TheConstants.{NUMBER_LIMIT}
use Rattle.vbm_volume.specs.Sectors.{FlatDisk}
use Rattle.vbm_world.specs.declared.command.Refusal.TheVariants.{NoSuchMedium, NoSuchMachine, NoSuchSlot, NotRunning}
use Rattle.vbm_world.specs.declared.world.WorldMedium.{WorldMedium}
use Rattle.vbm_world.specs.declared.world.WorldSlot.{WorldSlot}
use Rattle.vbm_world.specs.declared.world.WorldMachine.{WorldMachine}
use Rattle.vbm_named.specs.Names.{Name, is_named}
use Rattle.vbm_world.specs.World.{World, medium_name, machine_name, medium_of, is_direct}
use Rattle.vbm_world.specs.Places.{machine_of, slot_at, own_or_medium, slot_disk, with_medium, with_machine, with_slot}
use Rattle.vbm_world.specs.Refusals.{is_spent}
use Rattle.vbm_world.specs.Guests.{disk_in, with_sectors, is_first_write, written_medium, written, read_checks, read_sectors, write_checks, write_sectors, flush}
use Rattle.vbm_world.specs.Sound.{IsSoundMachine, IsSoundSlot, IsPlaced, IsSound}
use Rattle.vbm_named.proofs.Lists.{same_name, All-every, All-map, find_named, each_found}
use Rattle.vbm_world.proofs.Keeping.{LeadsToSound, unless, found}
use Rattle.vbm_world.proofs.Worlds.{alike_refl}
use Rattle.vbm_world.proofs.Writing.{disk_length, IsWrittenMedium, IsWrittenSlot, IsWrittenMachine, IsWritten, medium_refl, slot_refl, written_refl, alike_map, medium_changed, written_sound}
use Rattle.vbm_world.proofs.GuestDisks.{with_length}
use Rattle.vbm_world.proofs.Changing.{by_own_name, found_sound}
use Rattle.vbm_world.proofs.Ports.{find_both, only_at}

pub read_keeps : (w : World) → IsSound w → (vm : Name) (port lba count : ℕ) → IsSound (read_sectors w vm port lba count).1
read_keeps w ok vm port lba count =
    found LeadsToSound w NoSuchMachine (machine_of w vm) _ ok (λ m is.
    found LeadsToSound w NoSuchSlot (slot_at port m.slots) _ ok (λ s at.
    unless LeadsToSound w (read_checks w m s lba count) _ (λ refusal. ok) (λ pass. ok)))

pub flush_keeps : (w : World) → IsSound w → (vm : Name) → IsSound (flush w vm).1
flush_keeps w ok vm =
    found LeadsToSound w NoSuchMachine (machine_of w vm) _ ok (λ m is.
    unless LeadsToSound w ((not m.running, NotRunning) ∷ []) _ (λ refusal. ok) (λ pass. ok))

-- ---- slots by port

-- a slot that was found at a port has it
pub slot_port : (port : ℕ) (s : WorldSlot) (slots : List WorldSlot) → slot_at port slots ≡ Some s → s.port ≡ port
slot_port port s slots at =
    eqb-true s.port port (find_both (λ (t : WorldSlot). t.port == port) (λ t. Unit {0}) slots s (All-every _ (λ t. tt) slots) at).0

-- ---- the disk of a slot

pub none_is : {X : Type 0} (o : Option X) → is_none o ≡ true → o ≡ None
none_is None e = refl
none_is (Some x) e = absurd cc

some_is : (o : Option FlatDisk) → is_some o ≡ true → o ≡ Some (unwrap_or o [])
some_is None e = absurd cc
some_is (Some x) e = refl

pub own_is : (w : World) (name : Name) (own : Option FlatDisk) → is_none own ≡ false → own_or_medium w name own ≡ own
own_is w name None e = absurd cc
own_is w name (Some own) e = refl

own_some : (own : Option FlatDisk) → is_none own ≡ false → is_some own ≡ true
own_some None e = absurd cc
own_some (Some own) e = refl

left_over : (direct changed spent : Bool) → direct ≡ true → changed ≡ false → ((direct && not changed) && spent) ≡ false → spent ≡ false
left_over direct changed spent d c e = rw (d, c) at e

-- ---- write, fill

-- the medium of a machine's slot, with which the slot is sound
pub slot_placed : (w : World) → IsSound w → (m : WorldMachine) → machine_of w m.name ≡ Some m → (s : WorldSlot)
    → slot_at s.port m.slots ≡ Some s → IsPlaced w.media false s
slot_placed w ok m named s at =
    (find_both (λ (t : WorldSlot). t.port == s.port) (IsPlaced w.media false) m.slots s (found_sound w ok m.name m named).slots.placed at).1

module _ (w : World) (ok : IsSound w) (m : WorldMachine) (named : machine_of w m.name ≡ Some m) (s : WorldSlot) (at : slot_at s.port m.slots ≡ Some s)
    (medium : WorldMedium) (is : medium_of w s.medium ≡ Some medium) (disk : FlatDisk) where
  machine_ok : IsSoundMachine w.media m
  machine_ok = found_sound w ok m.name m named

  placed : IsPlaced w.media false s
  placed = slot_placed w ok m named s at

  slot_ok : IsSoundSlot false s medium
  slot_ok = let same : placed.0 ≡ medium = (let both : Some placed.0 ≡ Some medium = sym placed.1 ∙ is in cc) in
      subst (IsSoundSlot false s) same placed.2

  module _ (direct : is_direct s ≡ true) where
    shared_disk : slot_disk w s ≡ medium.flat
    shared_disk = ap (own_or_medium w s.medium) (none_is s.own direct) ∙ ap (option_and_then (λ (d : WorldMedium). d.flat)) is

    direct_disk : slot_disk w s ≡ Some (disk_in w s)
    direct_disk = some_is (slot_disk w s) (ap is_some shared_disk ∙ slot_ok.shared direct)

    pub medium_kept : length disk ≡ length (disk_in w s) → (next : ℕ) → next ≤ NUMBER_LIMIT
        → IsWritten w (record (with_medium w medium.name (written_medium w disk)) { next = next })
    medium_kept long next low = medium_changed w ok medium.name (written_medium w disk) (λ d d_is.
        let name : medium.name ≡ s.medium = same_name medium.name s.medium (find_named medium_name s.medium medium w.media is) in
        let both : Some medium ≡ Some d = sym (ap (medium_of w) name ∙ is) ∙ d_is in
        let one : medium ≡ d = cc in
        record {
          name = refl;
          mode = refl;
          capacity = refl;
          disk = ap (λ (n : ℕ). Some n) long ∙ sym (ap disk_length direct_disk) ∙ ap disk_length shared_disk
              ∙ ap (λ (k : WorldMedium). disk_length k.flat) one;
        }) next low

  module _ (own : is_direct s ≡ false) where
    own_disk : s.own ≡ Some (disk_in w s)
    own_disk = sym (own_is w s.medium s.own own)
        ∙ some_is (slot_disk w s) (ap is_some (own_is w s.medium s.own own) ∙ own_some s.own own)

    abbrev written_slot : WorldSlot → WorldSlot
    written_slot t = record t { own = Some disk }

    slots_kept : length disk ≡ length (disk_in w s)
        → IsWrittenMachine m (record m { slots = with_slot s.port written_slot m.slots })
    slots_kept long = record {
      name = refl;
      snapshots = refl;
      current = refl;
      slots = alike_map IsWrittenSlot _ m.slots (All-map _ _ (λ t only.
          cond_both (t.port == s.port) (written_slot t) t (IsWrittenSlot t) (λ e. record {
            port = refl;
            medium = refl;
            autoreset = refl;
            disk = ap (λ (n : ℕ). Some n) long ∙ sym (ap disk_length own_disk) ∙ ap (λ (k : WorldSlot). disk_length k.own) (sym (only e));
          }) (λ e. slot_refl t)) m.slots (only_at 0 s.port m.slots s machine_ok.slots.ports at));
    }

    pub machine_kept_written : length disk ≡ length (disk_in w s)
        → IsWritten w (with_machine w (record m { slots = with_slot s.port written_slot m.slots }) 0)
    machine_kept_written long = record {
      seed = refl;
      next = ok.next;
      inner = omega arith;
      media = alike_refl IsWrittenMedium medium_refl w.media;
      machines = alike_map IsWrittenMachine _ w.machines (All-map (λ (x : WorldMachine). machine_of w x.name ≡ Some x) _ (λ x found.
          cond_both (is_named machine_name m.name x) (record m { slots = with_slot s.port written_slot m.slots }) x (IsWrittenMachine x) (λ e.
          let name : x.name ≡ m.name = same_name x.name m.name e in
          let both : Some m ≡ Some x = sym named ∙ ap (machine_of w) (sym name) ∙ found in
          let one : m ≡ x = cc in
          subst (λ (k : WorldMachine). IsWrittenMachine k (record m { slots = with_slot s.port written_slot m.slots })) one (slots_kept long))
          (λ e. written_refl x)) w.machines (each_found machine_name w.machines ok.machine_order));
      shelf = refl;
    }

  -- a write keeps all but the disk and its marks
  pub written_kept : length disk ≡ length (disk_in w s) → (is_first_write medium s && is_spent w) ≡ false
      → IsWritten w (written w m s medium disk)
  written_kept long left = cond_both (is_direct s)
      (record (with_medium w medium.name (written_medium w disk)) { next = if medium.changed then w.next else w.next + 1 })
      (with_machine w (record m { slots = with_slot s.port (λ (t : WorldSlot). record t { own = Some disk }) m.slots }) 0) (IsWritten w)
      (λ direct. medium_kept direct long _ (cond_both medium.changed w.next (w.next + 1) (λ n. n ≤ NUMBER_LIMIT) (λ e. ok.next) (λ e.
      let below : w.next < NUMBER_LIMIT = leb-false NUMBER_LIMIT w.next (left_over (is_direct s) medium.changed (is_spent w) direct e left) in
      omega arith)))
      (λ own. machine_kept_written own long)

pub write_keeps : (w : World) → IsSound w → (vm : Name) (port lba : ℕ) (sectors : List (List ℕ))
    → IsSound (write_sectors w vm port lba sectors).1
write_keeps w ok vm port lba sectors =
    found LeadsToSound w NoSuchMachine (machine_of w vm) _ ok (λ m is.
    found LeadsToSound w NoSuchSlot (slot_at port m.slots) _ ok (λ s at.
    found LeadsToSound w NoSuchMedium (medium_of w s.medium) _ ok (λ medium there.
    unless LeadsToSound w (write_checks w m s medium lba (length sectors)) _ (λ refusal. ok) (λ pass.
    let own_port : s.port ≡ port = slot_port port s m.slots at in
    let within : lba + length sectors ≤ length (disk_in w s) = ltb-false (length (disk_in w s)) (lba + length sectors) pass.1.0 in
    written_sound w _ (written_kept w ok m (by_own_name w vm m is) s (ap (λ (n : ℕ). slot_at n m.slots) own_port ∙ at) medium there
    (with_sectors (disk_in w s) lba sectors) (with_length (disk_in w s) lba sectors within) pass.1.1.1.0) ok))))
