-- Commands on machines lead from a sound world to a sound one.
use Rattle.std.proofs.Common.{◌≡◌, ℕ, ◌+◌, Bool, true, false, ◌&&◌, ◌==◌, not, List, [], ◌∷◌, map, find, fold, length, Option, Some, None, refl, sym, ap, subst, ◌∙◌, arith, is_some, is_none, IsTrue, leb-false}
use Rattle.std.specs.List.{AllByRecursion, list_any}
use Rattle.std.specs.Option.{option_map, option_and_then}
use Rattle.std.specs.Str.{bytes_eq}
use Rattle.std.proofs.lemmas.Bool.{cond_both, and_parts, or_parts, not-false}
use Rattle.std.proofs.lemmas.List.{length-map}
use Rattle.vbm_modes.specs.declared.Mode.{Mode}
use Rattle.vbm_modes.specs.declared.Mode.TheVariants.{Normal, Immutable, Writethrough, MultiAttach, Readonly}
use Rattle.vbm_modes.specs.Modes.{is_reset}
use Rattle.vbm_volume.specs.Sectors.{FlatDisk}
use Rattle.vbm_world.specs.declared.limits.TheConstants.{MACHINE_LIMIT}
use Rattle.vbm_world.specs.declared.command.Answer.TheVariants.{Done}
use Rattle.vbm_world.specs.declared.command.Refusal.TheVariants.{NoSuchMachine, NotRunning}
use Rattle.vbm_world.specs.declared.world.WorldMedium.{WorldMedium}
use Rattle.vbm_world.specs.declared.world.WorldSlot.{WorldSlot}
use Rattle.vbm_world.specs.declared.world.WorldMachine.{WorldMachine}
use Rattle.vbm_named.specs.Names.{Name, find_by, put_by, without}
use Rattle.vbm_world.specs.World.{World, medium_name, medium_of, machine_name, is_of_mode, is_in_snapshot, is_normal, is_frozen}
use Rattle.vbm_world.specs.Places.{machine_of, slots_named, own_or_medium, with_machine}
use Rattle.vbm_world.specs.Refusals.{places_of}
use Rattle.vbm_world.specs.Machines.{new_machine, create_vm, create_vm_checks, is_empty, unregister_vm, unregister_checks, is_like, disk_or_medium, is_resetting, reset_slot, unchanged_by, start_vm, start_checks, power_off}
use Rattle.vbm_world.specs.Sound.{HasCapacity, IsSoundMedium, MayHold, IsSoundSlot, IsPlaced, is_some_normal, is_of_normal, IsSoundMachine, first_count, IsSound}
use Rattle.vbm_named.proofs.Lists.{same_name, All-every, All-map, All-of_map, has_found, each_found, All-find, put_cases, All-put, rises_put, length-put, without_cases, All-without, rises_without, length-without, find_map, has_map, rises_map}
use Rattle.vbm_world.proofs.Keeping.{LeadsToSound, unless, found, asked_of, All-named, machine_kept, shelf_kept}
use Rattle.vbm_world.proofs.Changing.{by_own_name, found_sound, none_short, changed_sound}
use Rattle.vbm_world.proofs.Ports.{find_both, machine_map}

-- ---- what is asked of all items, and counted of them, where one comes or goes

module _ {X : Type 0} (nx : X → Name) where
  any_put : (f : X → Bool) (x : X) (xs : List X) → f x ≡ false → list_any f (put_by nx x xs) ≡ list_any f xs
  unfolding put_by
  any_put f x [] none = rw none refl
  any_put f x (y ∷ ys) none = put_cases nx x y ys (λ l. list_any f l ≡ list_any f (y ∷ ys)) (λ e. rw none refl) (λ e. rw (any_put f x ys none) refl)

  total_put : (f : X → ℕ) (n : ℕ) (x : X) (xs : List X) → f x ≡ 0
      → fold (λ a y. a + f y) n (put_by nx x xs) ≡ fold (λ a y. a + f y) n xs
  unfolding put_by
  total_put f n x [] none = ap (λ (k : ℕ). n + k) none ∙ (omega arith)
  total_put f n x (y ∷ ys) none = put_cases nx x y ys (λ l. fold (λ a y. a + f y) n l ≡ fold (λ a y. a + f y) n (y ∷ ys))
      (λ e. let same : n + f x ≡ n = omega (arith, none) in ap (λ (k : ℕ). fold (λ a y. a + f y) k (y ∷ ys)) same)
      (λ e. total_put f (n + f y) x ys none)

  any_without : (f : X → Bool) (name : Name) (xs : List X) → AllByRecursion (λ x. bytes_eq (nx x) name ≡ true → f x ≡ false) xs
      → list_any f (without nx name xs) ≡ list_any f xs
  any_without f name [] all = refl
  any_without f name (x ∷ xs) all = without_cases nx name x xs (λ l. list_any f l ≡ list_any f (x ∷ xs))
      (λ e. rw (all.0 e) (any_without f name xs all.1)) (λ e. rw (any_without f name xs all.1) refl)

  total_without : (f : X → ℕ) (n : ℕ) (name : Name) (xs : List X) → AllByRecursion (λ x. bytes_eq (nx x) name ≡ true → f x ≡ 0) xs
      → fold (λ a y. a + f y) n (without nx name xs) ≡ fold (λ a y. a + f y) n xs
  total_without f n name [] all = refl
  total_without f n name (x ∷ xs) all = without_cases nx name x xs (λ l. fold (λ a y. a + f y) n l ≡ fold (λ a y. a + f y) n (x ∷ xs))
      (λ e. let same : n ≡ n + f x = omega (arith, all.0 e) in
      total_without f n name xs all.1 ∙ ap (λ (k : ℕ). fold (λ a y. a + f y) k xs) same)
      (λ e. total_without f (n + f x) name xs all.1)

-- ---- createvm

none_from : {X : Type 0} (o : Option X) → is_some o ≡ false → o ≡ None
none_from None e = refl
none_from (Some x) e = absurd cc

new_sound : (media : List WorldMedium) (name : Name) → IsSoundMachine media (new_machine name)
new_sound media name = record {
  tree = record {
    names = tt;
    parents = tt;
    depth = λ _. 0;
    below = tt;
    root = omega arith;
    there = tt;
    none = refl;
  };
  slots = record { ports = omega arith; distinct = tt; placed = tt };
  places = tt;
  children = tt;
  current = tt;
  own = tt;
}

pub create_vm_keeps : (w : World) → IsSound w → (name : Name) → IsSound (create_vm w name).1
create_vm_keeps w ok name = unless LeadsToSound w (create_vm_checks w name) _ (λ refusal. ok) (λ pass.
    let new = new_machine name in
    let absent = none_from (find_by machine_name name w.machines) (sym (has_found machine_name name w.machines) ∙ pass.0) in
    let frozen = λ (d : WorldMedium). ap (λ (b : Bool). is_normal d.mode && b) (any_put machine_name (is_in_snapshot d.name) new w.machines refl) in
    record {
      seed = ok.seed;
      next = ok.next;
      inner = ok.inner;
      media_order = ok.media_order;
      media_names = ok.media_names;
      media = All-map (IsSoundMedium w.machines) _
          (λ d h. record { frozen = h.frozen ∙ sym (frozen d); disk = h.disk; capacity = h.capacity }) w.media ok.media;
      machine_order = rises_put machine_name new w.machines absent ok.machine_order;
      machines = All-put machine_name (IsSoundMachine w.media) new w.machines (new_sound w.media name) ok.machines;
      first = All-map _ _ (λ d h is. total_put machine_name (first_count d.name) 0 new w.machines refl ∙ h (sym (frozen d) ∙ is)) w.media ok.first;
      shelf = ok.shelf;
      few_media = ok.few_media;
      few_machines = omega (arith, length-put machine_name new w.machines, leb-false MACHINE_LIMIT (length w.machines) pass.1.0);
      few_snapshots = rw (total_put machine_name (λ (m : WorldMachine). length m.snapshots) 0 new w.machines refl) ok.few_snapshots;
      few_places = rw (total_put machine_name places_of 0 new w.machines refl) ok.few_places;
    })

-- ---- unregistervm

is_nil : {X : Type 0} (xs : List X) → is_empty xs ≡ true → xs ≡ []
is_nil [] e = refl
is_nil (x ∷ xs) e = absurd cc

-- a machine without snapshots goes
gone_sound : (w : World) → IsSound w → (name : Name) (m : WorldMachine) → machine_of w name ≡ Some m → m.snapshots ≡ []
    → IsSound (record w { machines = without machine_name name w.machines })
gone_sound w ok name m is none =
    let gone : AllByRecursion (λ (x : WorldMachine). bytes_eq x.name name ≡ true → x.snapshots ≡ []) w.machines =
    All-map (λ (x : WorldMachine). find_by machine_name x.name w.machines ≡ Some x)
    (λ (x : WorldMachine). bytes_eq x.name name ≡ true → x.snapshots ≡ []) (λ x here e.
    let at : x.name ≡ name = same_name x.name name e in
    let both : Some x ≡ Some m = sym (subst (λ (n : Name). find_by machine_name n w.machines ≡ Some x) at here) ∙ is in
    let one : x ≡ m = cc in
    ap (λ (y : WorldMachine). y.snapshots) one ∙ none) w.machines (each_found machine_name w.machines ok.machine_order) in
    let frozen = λ (d : WorldMedium). ap (λ (b : Bool). is_normal d.mode && b) (any_without machine_name (is_in_snapshot d.name) name w.machines
    (All-map _ _ (λ x h e. rw (h e) refl) w.machines gone)) in
    record {
      seed = ok.seed;
      next = ok.next;
      inner = ok.inner;
      media_order = ok.media_order;
      media_names = ok.media_names;
      media = All-map (IsSoundMedium w.machines) _
          (λ d h. record { frozen = h.frozen ∙ sym (frozen d); disk = h.disk; capacity = h.capacity }) w.media ok.media;
      machine_order = rises_without machine_name name w.machines ok.machine_order;
      machines = All-without machine_name (IsSoundMachine w.media) name w.machines ok.machines;
      first = All-map _ _ (λ d h is. total_without machine_name (first_count d.name) 0 name w.machines
          (All-map _ _ (λ x h e. rw (h e) refl) w.machines gone) ∙ h (sym (frozen d) ∙ is)) w.media ok.first;
      shelf = ok.shelf;
      few_media = ok.few_media;
      few_machines = omega (arith, length-without machine_name name w.machines, ok.few_machines);
      few_snapshots = rw (total_without machine_name (λ (x : WorldMachine). length x.snapshots) 0 name w.machines
          (All-map _ _ (λ x h e. rw (h e) refl) w.machines gone)) ok.few_snapshots;
      few_places = rw (total_without machine_name places_of 0 name w.machines (All-map _ _ (λ x h e. rw (h e) refl) w.machines gone)) ok.few_places;
    }

pub unregister_vm_keeps : (w : World) → IsSound w → (name : Name) → IsSound (unregister_vm w name).1
unregister_vm_keeps w ok name = found LeadsToSound w NoSuchMachine (machine_of w name) _ ok (λ m is.
    unless LeadsToSound w (unregister_checks m) _ (λ refusal. ok) (λ pass.
    gone_sound w ok name m is (is_nil m.snapshots (not-false (is_empty m.snapshots) (or_parts (not (is_empty m.slots)) _ pass.0).1))))

-- ---- poweroff

pub power_off_keeps : (w : World) → IsSound w → (name : Name) → IsSound (power_off w name).1
power_off_keeps w ok name = found LeadsToSound w NoSuchMachine (machine_of w name) _ ok (λ m is.
    unless LeadsToSound w ((not m.running, NotRunning) ∷ []) (Done, with_machine w (record m { running = false }) 0) (λ refusal. ok) (λ pass.
    let sound = found_sound w ok name m is in
    changed_sound w ok m (record m { running = false }) (by_own_name w name m is) refl refl (record {
      tree = sound.tree;
      slots = sound.slots;
      places = sound.places;
      children = sound.children;
      current = sound.current;
      own = sound.own;
    }) 0 (none_short w ok)))

-- ---- startvm

reset_mode : (mode : Mode) (auto : Bool) → is_reset mode auto ≡ true → mode ≡ Immutable
reset_mode Normal auto e = absurd cc
reset_mode Immutable auto e = refl
reset_mode Writethrough auto e = absurd cc
reset_mode MultiAttach auto e = absurd cc
reset_mode Readonly auto e = absurd cc

pub some_of : {X : Type 0} (o : Option X) → is_none o ≡ false → is_some o ≡ true
some_of None e = absurd cc
some_of (Some x) e = refl

-- a disk that a slot of the medium may have
record Fits (d : WorldMedium) (o : Option FlatDisk) : Type 0 where
  there : is_some o ≡ true
  fits : HasCapacity o d.capacity

fits_own : (w : World) (name : Name) (d : WorldMedium) (o : Option FlatDisk) → is_some o ≡ true → HasCapacity o d.capacity
    → Fits d (own_or_medium w name o)
fits_own w name d None e h = absurd cc
fits_own w name d (Some own) e h = record { there = refl; fits = h }

module _ (w : World) (ok : IsSound w) (m : WorldMachine) (sound : IsSoundMachine w.media m) where
  abbrev current_slots : List WorldSlot
  current_slots = slots_named m.current m.snapshots

  current_placed : AllByRecursion (IsPlaced w.media true) current_slots
  current_placed = All-named (IsPlaced w.media true) m.current m.snapshots (All-map _ _ (λ s h. h.placed) m.snapshots sound.places)

  -- the medium of a slot that is reset has a disk, and the slot gets one
  module _ (s : WorldSlot) (d : WorldMedium) (is : medium_of w s.medium ≡ Some d) (immutable : d.mode ≡ Immutable) where
    medium_fits : Fits d d.flat
    medium_fits =
        let h = All-find medium_name (IsSoundMedium w.machines) s.medium d w.media ok.media is in
        let free : is_frozen w.machines d ≡ false = rw immutable refl in
        record { there = some_of d.flat (h.frozen ∙ free); fits = h.disk }

    like_fits : (o : Option WorldSlot) → ((t : WorldSlot) → o ≡ Some t → (is_like s t ≡ true) × IsPlaced w.media true t)
        → Fits d (disk_or_medium w s.medium o)
    like_fits None like = subst (λ (o : Option WorldMedium). Fits d (option_and_then (λ (m : WorldMedium). m.flat) o)) (sym is) medium_fits
    like_fits (Some t) like =
        let h = like t refl in
        let named : t.medium ≡ s.medium = same_name t.medium s.medium (and_parts (t.port == s.port) _ h.0).1 in
        let both : Some h.1.0 ≡ Some d = sym (subst (λ (n : Name). medium_of w n ≡ Some h.1.0) named h.1.1) ∙ is in
        let one : h.1.0 ≡ d = cc in
        let place : IsSoundSlot true t d = subst (IsSoundSlot true t) one h.1.2 in
        fits_own w s.medium d t.own (subst (λ (mode : Mode). MayHold mode (is_some t.own) true) immutable place.held) place.disk

    reset_fits : Fits d (disk_or_medium w s.medium (find (is_like s) current_slots))
    reset_fits = like_fits (find (is_like s) current_slots)
        (λ t e. find_both (is_like s) (IsPlaced w.media true) current_slots t current_placed e)

  resets_immutable : (s : WorldSlot) (d : WorldMedium) → medium_of w s.medium ≡ Some d → is_resetting w s ≡ true → d.mode ≡ Immutable
  resets_immutable s d is e = reset_mode d.mode s.autoreset
      (subst (λ (o : Option WorldMedium). is_of_mode (λ (mode : Mode). is_reset mode s.autoreset) o ≡ true) is e)

  reset_placed : (s : WorldSlot) → IsPlaced w.media false s → IsPlaced w.media false (reset_slot w current_slots s)
  reset_placed s placed =
      let o = disk_or_medium w s.medium (find (is_like s) current_slots) in
      let d = placed.0 in
      cond_both (is_resetting w s) (record s { own = o }) s (IsPlaced w.media false) (λ e.
      let immutable = resets_immutable s d placed.1 e in
      let fits = reset_fits s d placed.1 immutable in (
        d,
        placed.1,
        record {
          held = subst (λ (mode : Mode). MayHold mode (is_some o) false) (sym immutable) fits.there;
          disk = fits.fits;
          shared = λ direct. (medium_fits s d placed.1 immutable).there;
          autoreset = placed.2.autoreset;
        },
      )) (λ e. placed)

  -- no slot of a normal medium is reset
  reset_same : (s : WorldSlot) → IsPlaced w.media false s → IsTrue (is_of_normal w.media s)
      → is_some (reset_slot w current_slots s).own ≡ is_some s.own
  reset_same s placed normal =
      cond_both (is_resetting w s) (record s { own = disk_or_medium w s.medium (find (is_like s) current_slots) }) s
      (λ (t : WorldSlot). is_some t.own ≡ is_some s.own) (λ e.
      let immutable = resets_immutable s placed.0 placed.1 e in
      let mode : is_normal placed.0.mode ≡ true = subst (λ (o : Option WorldMedium). is_some_normal o ≡ true) placed.1 normal in
      let clash : false ≡ true = subst (λ (mode : Mode). is_normal mode ≡ true) immutable mode in
      absurd cc) (λ e. refl)

  started_machine : IsSoundMachine w.media (record m { running = true; slots = map (reset_slot w current_slots) m.slots })
  started_machine = machine_map (reset_slot w current_slots)
      (λ s. cond_both (is_resetting w s) _ s (λ (t : WorldSlot). t.port ≡ s.port) (λ e. refl) (λ e. refl))
      (λ s. cond_both (is_resetting w s) _ s (λ (t : WorldSlot). t.medium ≡ s.medium) (λ e. refl) (λ e. refl))
      w.media m true sound (All-map _ _ reset_placed m.slots sound.slots.placed) (All-map _ _ reset_same m.slots sound.slots.placed)

same_asked : (slots : List WorldSlot) (o : Option WorldMedium) → option_map asked_of (option_map (unchanged_by slots) o) ≡ option_map asked_of o
same_asked slots None = refl
same_asked slots (Some m) = refl

-- media that are unchanged from now on
unchanged_sound : (w : World) → IsSound w → (slots : List WorldSlot) → IsSound (record w { media = map (unchanged_by slots) w.media })
unchanged_sound w ok slots =
    let f = unchanged_by slots in
    let agree = λ (s : WorldSlot). ap (option_map asked_of) (find_map f medium_name medium_name (λ n. refl) s.medium w.media)
    ∙ same_asked slots (find_by medium_name s.medium w.media) in
    record {
      seed = ok.seed;
      next = ok.next;
      inner = ok.inner;
      media_order = rises_map f medium_name medium_name (λ n. refl) w.media ok.media_order;
      media_names = All-of_map f _ w.media ok.media_names;
      media = All-of_map f (IsSoundMedium w.machines) w.media
          (All-map _ _ (λ d h. record { frozen = h.frozen; disk = h.disk; capacity = h.capacity }) w.media ok.media);
      machine_order = ok.machine_order;
      machines = All-map (IsSoundMachine w.media) _ (λ m h. machine_kept w.media (map f w.media) m
          (All-every _ agree m.slots, All-every _ (λ s. All-every _ agree s.slots) m.snapshots) h) w.machines ok.machines;
      first = All-of_map f _ w.media ok.first;
      shelf = λ name. shelf_kept w.media (map f w.media) name (w.shelf name)
          (λ there free. has_map f medium_name medium_name (λ n. refl) name w.media ∙ free) (ok.shelf name);
      few_media = rw length-map ok.few_media;
      few_machines = ok.few_machines;
      few_snapshots = ok.few_snapshots;
      few_places = ok.few_places;
    }

pub start_vm_keeps : (w : World) → IsSound w → (name : Name) → IsSound (start_vm w name).1
start_vm_keeps w ok name = found LeadsToSound w NoSuchMachine (machine_of w name) _ ok (λ m is.
    unless LeadsToSound w (start_checks w m) _ (λ refusal. ok) (λ pass.
    let new = started_machine w ok m (found_sound w ok name m is) in
    unchanged_sound (with_machine w _ _) (changed_sound w ok m _ (by_own_name w name m is) refl refl new _ pass.1.1.0) m.slots))
