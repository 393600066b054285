-- A machine in the place of another.
use Rattle.std.proofs.Common.{◌≡◌, ℕ, ◌+◌, arith, Bool, false, ◌&&◌, not, cond, List, [], ◌∷◌, map, fold, length, Some, refl, sym, ap, subst, ◌∙◌, sum_by, count_by}
use Rattle.std.specs.List.{AllByRecursion, list_any}
use Rattle.std.proofs.lemmas.Bool.{cond_both, ltb-false, le-ltb}
use Rattle.std.proofs.lemmas.List.{length-map}
use Rattle.vbm_ids.specs.declared.TheConstants.{NUMBER_LIMIT}
use Rattle.vbm_world.specs.declared.world.WorldMedium.{WorldMedium}
use Rattle.vbm_world.specs.declared.world.WorldSnapshot.{WorldSnapshot}
use Rattle.vbm_world.specs.declared.world.WorldMachine.{WorldMachine}
use Rattle.vbm_named.specs.Names.{Name, is_named, find_by, change_by, Rises}
use Rattle.vbm_world.specs.World.{World, machine_name, has_medium, is_in_snapshot, is_normal, is_frozen}
use Rattle.vbm_world.specs.Places.{machine_of, slots_named, with_machine}
use Rattle.vbm_world.specs.Refusals.{is_short, places_of}
use Rattle.vbm_world.specs.Sound.{IsSoundMedium, IsSoundMachine, first_count, IsSound}
use Rattle.vbm_named.proofs.Lists.{same_name, All-map, All-of_map, All-find, find_named, each_found, rises_map}

-- ---- an item in the place of that of its name

module _ {X : Type 0} (nx : X → Name) (new : X) where
  -- the item that takes an item's place
  abbrev pub in_place : X → X
  in_place x = cond (is_named nx (nx new) x) new x

  in_place_name : (x : X) → nx (in_place x) ≡ nx x
  in_place_name x = cond_both (is_named nx (nx new) x) new x (λ y. nx y ≡ nx x) (λ e. sym (same_name (nx x) (nx new) e)) (λ e. refl)

  pub rises_in_place : (xs : List X) → Rises nx xs → Rises nx (change_by nx (nx new) (λ _. new) xs)
  rises_in_place xs rises = rises_map in_place nx nx in_place_name xs rises

  pub All-in_place : (P : X → Type 0) (xs : List X) → P new → AllByRecursion P xs → AllByRecursion P (change_by nx (nx new) (λ _. new) xs)
  All-in_place P xs holds all =
      All-of_map in_place P xs (All-map P _ (λ x p. cond_both (is_named nx (nx new) x) new x P (λ e. holds) (λ e. p)) xs all)

  -- what the new item has in common with the old one, all items have in common with those that stood in their places
  pub in_place_same : {Y : Type 0} (f : X → Y) (old : X) (xs : List X) → Rises nx xs → find_by nx (nx old) xs ≡ Some old → nx new ≡ nx old
      → f new ≡ f old → AllByRecursion (λ x. f (in_place x) ≡ f x) xs
  in_place_same f old xs rises is named same = All-map _ _ (λ x found.
      cond_both (is_named nx (nx new) x) new x (λ y. f y ≡ f x) (λ e.
      let at : nx x ≡ nx old = same_name (nx x) (nx new) e ∙ named in
      let both : Some x ≡ Some old = sym (subst (λ (n : Name). find_by nx n xs ≡ Some x) at found) ∙ is in
      let one : x ≡ old = cc in
      same ∙ ap f (sym one)) (λ e. refl)) xs (each_found nx xs rises)

-- ---- what is asked of all items, and counted of them

module _ {X : Type 0} (g : X → X) where
  pub any_same : (f : X → Bool) (xs : List X) → AllByRecursion (λ x. f (g x) ≡ f x) xs → list_any f (map g xs) ≡ list_any f xs
  any_same f [] all = refl
  any_same f (x ∷ xs) all = rw (all.0, any_same f xs all.1) refl

  total_same : (f : X → ℕ) (n : ℕ) (xs : List X) → AllByRecursion (λ x. f (g x) ≡ f x) xs
      → fold (λ a x. a + f x) n (map g xs) ≡ fold (λ a x. a + f x) n xs
  total_same f n [] all = refl
  total_same f n (x ∷ xs) all = ap (λ (k : ℕ). fold (λ a x. a + f x) (n + k) (map g xs)) all.0 ∙ total_same f (n + f x) xs all.1

  pub sum_same : (f : X → ℕ) (xs : List X) → AllByRecursion (λ x. f (g x) ≡ f x) xs → sum_by f (map g xs) ≡ sum_by f xs
  sum_same f xs all = total_same f 0 xs all

-- ---- a machine in the place of one that has its name and its snapshots

module _ (w : World) (ok : IsSound w) (m new : WorldMachine) (is : machine_of w m.name ≡ Some m)
    (named : new.name ≡ m.name) (snapshots : new.snapshots ≡ m.snapshots) where
  -- what depends on the snapshots alone
  by_snapshots : {Y : Type 0} (f : List WorldSnapshot → Y)
      → AllByRecursion (λ (x : WorldMachine). f (in_place machine_name new x).snapshots ≡ f x.snapshots) w.machines
  by_snapshots f = in_place_same machine_name new (λ (x : WorldMachine). f x.snapshots) m w.machines ok.machine_order is named (ap f snapshots)

  frozen_same : (d : WorldMedium) → is_frozen (change_by machine_name new.name (λ _. new) w.machines) d ≡ is_frozen w.machines d
  frozen_same d = ap (λ (b : Bool). is_normal d.mode && b) (any_same (in_place machine_name new) (is_in_snapshot d.name) w.machines
      (by_snapshots (list_any (λ (s : WorldSnapshot). has_medium d.name s.slots))))

  first_same : (name : Name)
      → sum_by (first_count name) (change_by machine_name new.name (λ _. new) w.machines) ≡ sum_by (first_count name) w.machines
  first_same name = sum_same (in_place machine_name new) (first_count name) w.machines (by_snapshots (λ (l : List WorldSnapshot).
      count_by (λ (s : WorldSnapshot). has_medium name s.slots && not (has_medium name (slots_named s.parent l))) l))

  pub changed_sound_of : IsSoundMachine w.media new → (drawn : ℕ) → is_short w.inner drawn ≡ false → IsSound (with_machine w new drawn)
  changed_sound_of sound drawn enough = record {
    seed = ok.seed;
    next = ok.next;
    inner = ltb-false NUMBER_LIMIT (w.inner + drawn) enough;
    media_order = ok.media_order;
    media_names = ok.media_names;
    media = All-map (IsSoundMedium w.machines) _
        (λ d h. record { frozen = h.frozen ∙ sym (frozen_same d); disk = h.disk; capacity = h.capacity }) w.media ok.media;
    machine_order = rises_in_place machine_name new w.machines ok.machine_order;
    machines = All-in_place machine_name new (IsSoundMachine w.media) w.machines sound ok.machines;
    first = All-map _ _ (λ d h frozen. first_same d.name ∙ h (sym (frozen_same d) ∙ frozen)) w.media ok.first;
    shelf = ok.shelf;
    few_media = ok.few_media;
    few_machines = rw length-map ok.few_machines;
    few_snapshots = rw (sum_same (in_place machine_name new) (λ (x : WorldMachine). length x.snapshots) w.machines (by_snapshots length))
        ok.few_snapshots;
    few_places = rw (sum_same (in_place machine_name new) places_of w.machines (by_snapshots (sum_by (λ (s : WorldSnapshot). length s.slots))))
        ok.few_places;
  }

-- A machine may be replaced by one that has its name and its snapshots.
pub changed_sound : (w : World) → IsSound w → (m new : WorldMachine) → machine_of w m.name ≡ Some m → new.name ≡ m.name
    → new.snapshots ≡ m.snapshots → IsSoundMachine w.media new → (drawn : ℕ) → is_short w.inner drawn ≡ false
    → IsSound (with_machine w new drawn)
changed_sound w ok m new is named snapshots sound drawn enough = changed_sound_of w ok m new is named snapshots sound drawn enough

-- ---- machines that were found

-- a machine that was found is found by its own name
pub by_own_name : (w : World) (name : Name) (m : WorldMachine) → machine_of w name ≡ Some m → machine_of w m.name ≡ Some m
by_own_name w name m is =
    subst (λ (n : Name). machine_of w n ≡ Some m) (sym (same_name m.name name (find_named machine_name name m w.machines is))) is

pub found_sound : (w : World) → IsSound w → (name : Name) (m : WorldMachine) → machine_of w name ≡ Some m → IsSoundMachine w.media m
found_sound w ok name m is = All-find machine_name (IsSoundMachine w.media) name m w.machines ok.machines is

-- no number is ever short of none
pub none_short : (w : World) → IsSound w → is_short w.inner 0 ≡ false
none_short w ok = le-ltb NUMBER_LIMIT (w.inner + 0) (omega (arith, ok.inner))
