-- Commands on slots lead from a sound world to a sound one.
use Rattle.std.proofs.Common.{◌≡◌, ℕ, ◌<◌, Bool, true, false, ◌&&◌, ◌==◌, not, List, [], ◌∷◌, Option, Some, None, refl, sym, ap, subst, subst₂, ◌∙◌, is_some, is_none, IsTrue, if◌then◌else◌}
use Rattle.std.specs.List.{AllByRecursion, list_any}
use Rattle.std.specs.Str.{bytes_eq}
use Rattle.std.proofs.lemmas.Bool.{cond_both, and_parts, and_from, or_left, or_right, not-false, eqb-true, eqb-false, false_from_ne_true, true_from_ne_false, not_from_false}
use Rattle.std.proofs.Math.Bool.{and-false}
use Rattle.vbm_modes.specs.declared.Mode.{Mode}
use Rattle.vbm_modes.specs.declared.Mode.TheVariants.{Normal, Immutable, Writethrough, MultiAttach, Readonly}
use Rattle.vbm_modes.specs.Modes.{is_own}
use Rattle.vbm_volume.specs.Sectors.{FlatDisk}
use Rattle.vbm_world.specs.declared.limits.TheConstants.{PORT_LIMIT}
use Rattle.vbm_world.specs.declared.command.Refusal.TheVariants.{NoSuchMachine, NoSuchMedium, NoSuchSlot}
use Rattle.vbm_world.specs.declared.world.WorldMedium.{WorldMedium}
use Rattle.vbm_world.specs.declared.world.WorldSlot.{WorldSlot}
use Rattle.vbm_world.specs.declared.world.WorldSnapshot.{WorldSnapshot}
use Rattle.vbm_world.specs.declared.world.WorldMachine.{WorldMachine}
use Rattle.vbm_named.specs.Names.{Name, find_by}
use Rattle.vbm_world.specs.World.{World, medium_name, medium_of, machine_name, has_own, has_medium, is_in_snapshot, is_of_mode, is_slot_of, is_normal, is_immutable, is_frozen}
use Rattle.vbm_world.specs.Places.{machine_of, slot_at, slots_named, with_slot}
use Rattle.vbm_world.specs.Slots.{attached_slot, attach_checks, attach_medium, put_slot, without_port, detach_checks, detach_medium, autoreset_checks, set_autoreset}
use Rattle.vbm_world.specs.Sound.{HasCapacity, IsSoundMedium, MayHold, IsPlaced, has_at, is_some_normal, is_of_normal, IsSoundMachine, IsSound}
use Rattle.vbm_named.proofs.Lists.{same_name, name_refl, All-every, All-map, All-join, any_none, none_of_any, All-find, find_named}
use Rattle.vbm_world.proofs.Keeping.{LeadsToSound, unless, found, All-named}
use Rattle.vbm_world.proofs.Changing.{by_own_name, found_sound, none_short, changed_sound}
use Rattle.vbm_world.proofs.MachinesKeep.{some_of}
use Rattle.vbm_world.proofs.Ports.{find_both, only_at, All-filter, any_filter, slots_filter, All-put_slot, any_put_slot, slots_put, machine_map}

-- ---- storageattach VM PORT NAME

-- a medium's disk, if it is there, may be in a slot of its own
held_of : (mode : Mode) (flat : Option FlatDisk) → is_some flat ≡ true → MayHold mode (is_some (if is_own mode then flat else None)) false
held_of Normal flat there = λ e. absurd cc
held_of Immutable flat there = there
held_of Writethrough flat there = refl
held_of MultiAttach flat there = there
held_of Readonly flat there = refl

normal_shares : (mode : Mode) (flat : Option FlatDisk) → is_normal mode ≡ true → is_some (if is_own mode then flat else None) ≡ false
normal_shares Normal flat e = refl
normal_shares Immutable flat e = absurd cc
normal_shares Writethrough flat e = absurd cc
normal_shares MultiAttach flat e = absurd cc
normal_shares Readonly flat e = absurd cc

-- slots without the medium have it at no port
not_at : (port : ℕ) (name : Name) (slots : List WorldSlot) → has_medium name slots ≡ false → has_at port name slots ≡ false
not_at port name slots none = any_none _ slots (All-map _ _ (λ (s : WorldSlot) e. rw e (and-false (s.port == port))) slots (none_of_any _ slots none))

module _ (w : World) (ok : IsSound w) (vm : WorldMachine) (is : machine_of w vm.name ≡ Some vm) (port : ℕ) (m : WorldMedium)
    (at : medium_of w m.name ≡ Some m) (free : is_frozen w.machines m ≡ false) where
  medium_sound : IsSoundMedium w.machines m
  medium_sound = All-find medium_name (IsSoundMedium w.machines) m.name m w.media ok.media at

  has_disk : is_some m.flat ≡ true
  has_disk = some_of m.flat (medium_sound.frozen ∙ free)

  attached_placed : IsPlaced w.media false (attached_slot port m)
  attached_placed = (
    m,
    at,
    record {
      held = held_of m.mode m.flat has_disk;
      disk = cond_both (is_own m.mode) m.flat None (λ (o : Option FlatDisk). HasCapacity o m.capacity) (λ e. medium_sound.disk) (λ e. tt);
      shared = λ direct. has_disk;
      autoreset = λ on. on;
    },
  )

  -- no snapshot has the medium, if it is normal
  in_no_snapshot : IsTrue (is_normal m.mode) → has_at port m.name (slots_named vm.current vm.snapshots) ≡ false
  in_no_snapshot normal =
      let none : list_any (is_in_snapshot m.name) w.machines ≡ false = subst (λ (b : Bool). (b && list_any (is_in_snapshot m.name) w.machines) ≡ false) normal free in
      let here = All-find machine_name (λ (x : WorldMachine). is_in_snapshot m.name x ≡ false) vm.name vm w.machines (none_of_any _ w.machines none) is in
      not_at port m.name (slots_named vm.current vm.snapshots) (any_none _ (slots_named vm.current vm.snapshots)
      (All-named (λ (s : WorldSlot). bytes_eq s.medium m.name ≡ false) vm.current vm.snapshots
      (All-map _ _ (λ (s : WorldSnapshot) e. none_of_any _ s.slots e) vm.snapshots (none_of_any _ vm.snapshots here))))

  attached_machine : port < PORT_LIMIT → is_some (slot_at port vm.slots) ≡ false → has_medium m.name vm.slots ≡ false
      → IsSoundMachine w.media (record vm { slots = put_slot (attached_slot port m) vm.slots })
  attached_machine below empty other =
      let sound = All-find machine_name (IsSoundMachine w.media) vm.name vm w.machines ok.machines is in
      let slot = attached_slot port m in
      record {
        tree = sound.tree;
        slots = slots_put slot w.media false vm.slots below empty other attached_placed sound.slots;
        places = sound.places;
        children = sound.children;
        current = All-map _ _ (λ s has normal. any_put_slot slot _ vm.slots (has normal)) (slots_named vm.current vm.snapshots) sound.current;
        own = All-put_slot slot _ vm.slots (λ normal.
            let mode : is_normal m.mode ≡ true = subst (λ (o : Option WorldMedium). is_some_normal o ≡ true) at normal in
            normal_shares m.mode m.flat mode ∙ sym (in_no_snapshot mode)) sound.own;
      }

pub attach_keeps : (w : World) → IsSound w → (vm : Name) (port : ℕ) → port < PORT_LIMIT → (name : Name) → IsSound (attach_medium w vm port name).1
attach_keeps w ok vm port below name = found LeadsToSound w NoSuchMachine (machine_of w vm) _ ok (λ m is.
    found LeadsToSound w NoSuchMedium (medium_of w name) _ ok (λ medium at.
    unless LeadsToSound w (attach_checks w m port medium) _ (λ refusal. ok) (λ pass.
    let here = by_own_name w vm m is in
    let named : medium_of w medium.name ≡ Some medium =
    subst (λ (n : Name). medium_of w n ≡ Some medium) (sym (same_name medium.name name (find_named medium_name name medium w.media at))) at in
    changed_sound w ok m _ here refl refl (attached_machine w ok m here port medium named pass.0 below pass.1.1.0 pass.1.1.1.0) _ pass.1.1.1.1.0)))

-- ---- storageattach VM PORT none

same_normal : (o : Option WorldMedium) → is_of_mode is_normal o ≡ is_some_normal o
same_normal None = refl
same_normal (Some m) = refl

-- each slot stands at its port
each_at : (slots : List WorldSlot) → AllByRecursion (λ (t : WorldSlot). has_at t.port t.medium slots ≡ true) slots
each_at [] = tt
each_at (s ∷ slots) = (
  or_left _ _ (and_from _ _ (true_from_ne_false (s.port == s.port) (λ e. eqb-false s.port s.port e refl)) (name_refl s.medium)),
  All-map _ _ (λ (t : WorldSlot) h. or_right ((s.port == t.port) && bytes_eq s.medium t.medium) _ h) slots (each_at slots),
)

owned : (o : Option FlatDisk) → is_some o ≡ true → not (is_none o) ≡ true
owned None e = absurd cc
owned (Some x) e = refl

-- the slot whose disk is not kept for a snapshot goes
module _ (w : World) (m : WorldMachine) (sound : IsSoundMachine w.media m) (port : ℕ) (s : WorldSlot) (is : slot_at port m.slots ≡ Some s)
    (free : (has_own s && is_slot_of is_normal w s) ≡ false) where
  abbrev current_slots : List WorldSlot
  current_slots = slots_named m.current m.snapshots

  -- the current snapshot has no normal medium there
  not_kept : (t : WorldSlot) → IsTrue (is_of_normal w.media t) → has_at t.port t.medium current_slots ≡ true
      → t.port ≡ s.port → t.medium ≡ s.medium → ⊥
  not_kept t normal has at name =
      let own = (find_both (λ (u : WorldSlot). u.port == port)
      (λ (u : WorldSlot). IsTrue (is_of_normal w.media u) → is_some u.own ≡ has_at u.port u.medium current_slots) m.slots s sound.own is).1 in
      let normal_s : is_some_normal (find_by medium_name s.medium w.media) ≡ true =
      subst (λ (n : Name). is_some_normal (find_by medium_name n w.media) ≡ true) name normal in
      let has_s : has_at s.port s.medium current_slots ≡ true =
      subst₂ (λ (p : ℕ) (n : Name). has_at p n current_slots ≡ true) at name has in
      let both : (has_own s && is_slot_of is_normal w s) ≡ true =
      and_from _ _ (owned s.own (own normal_s ∙ has_s)) (same_normal (medium_of w s.medium) ∙ normal_s) in
      let clash : true ≡ false = sym both ∙ free in
      absurd cc

  kept_at : (t : WorldSlot) → has_at t.port t.medium current_slots ≡ true
      → (IsTrue (is_of_normal w.media t) → IsTrue (has_at t.port t.medium m.slots))
      → IsTrue (is_of_normal w.media t) → IsTrue (has_at t.port t.medium (without_port port m.slots))
  kept_at t has inherits normal = any_filter _ (λ (u : WorldSlot). (u.port == t.port) && bytes_eq u.medium t.medium) m.slots
      (All-map (λ (u : WorldSlot). (u.port == port) ≡ true → u ≡ s)
      (λ (u : WorldSlot). ((u.port == t.port) && bytes_eq u.medium t.medium) ≡ true → not (u.port == port) ≡ true) (λ u one both.
      let parts = and_parts (u.port == t.port) _ both in
      not_from_false (u.port == port) (false_from_ne_true (u.port == port) (λ e.
      let same : u ≡ s = one e in
      not_kept t normal has (sym (eqb-true u.port t.port parts.0) ∙ ap (λ (x : WorldSlot). x.port) same)
      (sym (same_name u.medium t.medium parts.1) ∙ ap (λ (x : WorldSlot). x.medium) same))))
      m.slots (only_at 0 port m.slots s sound.slots.ports is)) (inherits normal)

  detached_machine : IsSoundMachine w.media (record m { slots = without_port port m.slots })
  detached_machine = record {
    tree = sound.tree;
    slots = slots_filter (λ (t : WorldSlot). not (t.port == port)) w.media false m.slots sound.slots;
    places = sound.places;
    children = sound.children;
    current = All-join _ _ _ kept_at current_slots (each_at current_slots) sound.current;
    own = All-filter (λ (t : WorldSlot). not (t.port == port)) _ m.slots sound.own;
  }

pub detach_keeps : (w : World) → IsSound w → (vm : Name) (port : ℕ) → IsSound (detach_medium w vm port).1
detach_keeps w ok vm port = found LeadsToSound w NoSuchMachine (machine_of w vm) _ ok (λ m is.
    found LeadsToSound w NoSuchSlot (slot_at port m.slots) _ ok (λ s at.
    unless LeadsToSound w (detach_checks w m s) _ (λ refusal. ok) (λ pass.
    changed_sound w ok m _ (by_own_name w vm m is) refl refl (detached_machine w m (found_sound w ok vm m is) port s at pass.0) 0 (none_short w ok))))

-- ---- modifymedium VM:PORT --autoreset

module _ (w : World) (m : WorldMachine) (sound : IsSoundMachine w.media m) (port : ℕ) (on : Bool) (s : WorldSlot) (is : slot_at port m.slots ≡ Some s)
    (immutable : is_slot_of is_immutable w s ≡ true) where
  abbrev set_slot : WorldSlot → WorldSlot
  set_slot t = if t.port == port then record t { autoreset = on } else t

  set_placed : (t : WorldSlot) → ((t.port == port) ≡ true → t ≡ s) → IsPlaced w.media false t → IsPlaced w.media false (set_slot t)
  set_placed t one placed = cond_both (t.port == port) (record t { autoreset = on }) t (IsPlaced w.media false) (λ e. (
    placed.0,
    placed.1,
    record {
      held = placed.2.held;
      disk = placed.2.disk;
      shared = placed.2.shared;
      autoreset = λ _. subst (λ (o : Option WorldMedium). is_of_mode is_immutable o ≡ true) placed.1
          (subst (λ (x : WorldSlot). is_of_mode is_immutable (medium_of w x.medium) ≡ true) (sym (one e)) immutable);
    },
  )) (λ e. placed)

  set_machine : IsSoundMachine w.media (record m { slots = with_slot port (λ (t : WorldSlot). record t { autoreset = on }) m.slots })
  set_machine = machine_map set_slot
      (λ t. cond_both (t.port == port) (record t { autoreset = on }) t (λ (u : WorldSlot). u.port ≡ t.port) (λ e. refl) (λ e. refl))
      (λ t. cond_both (t.port == port) (record t { autoreset = on }) t (λ (u : WorldSlot). u.medium ≡ t.medium) (λ e. refl) (λ e. refl))
      w.media m m.running sound (All-join _ _ _ set_placed m.slots (only_at 0 port m.slots s sound.slots.ports is) sound.slots.placed)
      (All-every _ (λ t normal. cond_both (t.port == port) (record t { autoreset = on }) t
      (λ (u : WorldSlot). is_some u.own ≡ is_some t.own) (λ e. refl) (λ e. refl)) m.slots)

pub autoreset_keeps : (w : World) → IsSound w → (vm : Name) (port : ℕ) (on : Bool) → IsSound (set_autoreset w vm port on).1
autoreset_keeps w ok vm port on = found LeadsToSound w NoSuchMachine (machine_of w vm) _ ok (λ m is.
    found LeadsToSound w NoSuchSlot (slot_at port m.slots) _ ok (λ s at.
    unless LeadsToSound w (autoreset_checks w m s) _ (λ refusal. ok) (λ pass.
    changed_sound w ok m _ (by_own_name w vm m is) refl refl
    (set_machine w m (found_sound w ok vm m is) port on s at (not-false (is_slot_of is_immutable w s) pass.1.0)) 0 (none_short w ok))))
