-- Worlds in which one medium is another of its name.
use Rattle.std.proofs.Common.{◌≡◌, ℕ, ◌≤◌, ◌&&◌, Bool, true, false, cond, List, [], ◌∷◌, sum_by, Option, Some, None, refl, sym, ap, subst, ◌∙◌, is_some, is_none, IsTrue, IsFalse}
use Rattle.std.specs.List.{AllByRecursion, list_any}
use Rattle.std.specs.Option.{option_map}
use Rattle.std.specs.Str.{bytes_eq}
use Rattle.std.proofs.lemmas.Bool.{cond_both}
use Rattle.std.proofs.lemmas.List.{length-map}
use Rattle.vbm_ports.specs.Names.{is_medium_name}
use Rattle.vbm_ids.specs.declared.TheConstants.{NUMBER_LIMIT}
use Rattle.vbm_world.specs.declared.world.WorldMedium.{WorldMedium}
use Rattle.vbm_named.specs.Names.{Name, is_named, find_by, has_name, change_by, Rises}
use Rattle.vbm_world.specs.World.{World, medium_name, medium_of, is_in_snapshot, is_in_use, is_normal, is_frozen}
use Rattle.vbm_world.specs.Places.{with_medium}
use Rattle.vbm_world.specs.Refusals.{is_bad_size}
use Rattle.vbm_world.specs.Sound.{HasCapacity, IsSoundMedium, IsSoundMachine, first_count, IsSound}
use Rattle.vbm_named.proofs.Lists.{same_name, All-map, All-join, All-of_map, All-find, find_named, each_found, has_found, has_map, find_change, rises_change}
use Rattle.vbm_world.proofs.Keeping.{shelf_kept, machines_kept}

-- ---- lists in the order of names

module _ {X : Type 0} (nx : X → Name) where
  -- the items of a name are the one that is found
  pub named_one : (name : Name) (x : X) (xs : List X) → Rises nx xs → find_by nx name xs ≡ Some x
      → AllByRecursion (λ (y : X). bytes_eq (nx y) name ≡ true → y ≡ x) xs
  named_one name x xs rises is = All-map _ _ (λ y there named.
      let found : find_by nx name xs ≡ Some y = subst (λ n. find_by nx n xs ≡ Some y) (same_name (nx y) name named) there in cc)
      xs (each_found nx xs rises)

  -- two changes that agree at the items of a name
  change_agrees : (name : Name) (f g : X → X) (xs : List X) → AllByRecursion (λ (y : X). bytes_eq (nx y) name ≡ true → f y ≡ g y) xs
      → change_by nx name f xs ≡ change_by nx name g xs
  change_agrees name f g [] all = refl
  change_agrees name f g (y ∷ ys) all =
      let here : cond (is_named nx name y) (f y) y ≡ cond (is_named nx name y) (g y) y =
      (elim (is_named nx name y) as (λ b. (b ≡ true → f y ≡ g y) → cond b (f y) y ≡ cond b (g y) y) [
        | true ↦ λ same. same refl
        | false ↦ λ same. refl
      ]) all.0 in
      let rest = change_agrees name f g ys all.1 in
      λ i. here i ∷ rest i

  -- a change at a name puts one item in the place of another
  pub change_one : (change : X → X) → ((y : X) → nx (change y) ≡ nx y) → (name : Name) (x z : X) (xs : List X) → Rises nx xs
      → find_by nx name xs ≡ Some x → z ≡ change x → change_by nx (nx z) (λ _. z) xs ≡ change_by nx name change xs
  change_one change keeps name x z xs rises is made =
      let same : nx z ≡ name = ap nx made ∙ keeps x ∙ same_name (nx x) name (find_named nx name x xs is) in
      ap (λ (n : Name). change_by nx n (λ _. z) xs) same ∙ change_agrees name (λ _. z) change xs
      (All-map _ (λ y. bytes_eq (nx y) name ≡ true → z ≡ change y) (λ y one named. made ∙ ap change (sym (one named))) xs (named_one name x xs rises is))

  pub has_one : (change : X → X) → ((y : X) → nx (change y) ≡ nx y) → (name : Name) (x z : X) (xs : List X)
      → find_by nx name xs ≡ Some x → z ≡ change x → has_name nx (nx z) xs ≡ true
  has_one change keeps name x z xs is made =
      let same : nx z ≡ name = ap nx made ∙ keeps x ∙ same_name (nx x) name (find_named nx name x xs is) in
      ap (λ (n : Name). has_name nx n xs) same ∙ has_found nx name xs ∙ ap is_some is

  map_none : (f : X → X) (o : Option X) → ((x : X) → o ≡ Some x → f x ≡ x) → option_map f o ≡ o
  map_none f None none = refl
  map_none f (Some x) none = ap (λ (y : X). Some y) (none x refl)

  -- a change at another name
  pub find_change_other : (name : Name) (change : X → X) → ((y : X) → nx (change y) ≡ nx y) → (other : Name) (xs : List X)
      → bytes_eq other name ≡ false → find_by nx other (change_by nx name change xs) ≡ find_by nx other xs
  find_change_other name change keeps other xs apart = find_change nx name change keeps other xs
      ∙ map_none (λ x. cond (is_named nx name x) (change x) x) (find_by nx other xs) (λ x is.
      let not_named : bytes_eq (nx x) name ≡ false =
      ap (λ (n : Name). bytes_eq n name) (same_name (nx x) other (find_named nx other x xs is)) ∙ apart in
      ap (λ (b : Bool). cond b (change x) x) not_named)

-- ---- one medium changed

module _ (w : World) (ok : IsSound w) (name : Name) (m : WorldMedium) (is : medium_of w name ≡ Some m) (change : WorldMedium → WorldMedium)
    (keeps : (x : WorldMedium) → (change x).name ≡ x.name) where
  All-changed : (P : WorldMedium → Type 0) → P (change m) → AllByRecursion P w.media → AllByRecursion P (change_by medium_name name change w.media)
  All-changed P p all = All-of_map (λ x. cond (is_named medium_name name x) (change x) x) P w.media (All-join _ P _
      (λ x one h. cond_both (is_named medium_name name x) (change x) x P (λ e. subst (λ y. P (change y)) (sym (one e)) p) (λ e. h))
      w.media (named_one medium_name name m w.media ok.media_order is) all)

  still_named : (x : WorldMedium) → medium_name (cond (is_named medium_name name x) (change x) x) ≡ medium_name x
  still_named x = cond_both (is_named medium_name name x) (change x) x (λ y. y.name ≡ x.name) (λ e. keeps x) (λ e. refl)

  still_frozen : (change m).mode ≡ m.mode → is_frozen w.machines (change m) ≡ is_frozen w.machines m
  still_frozen mode = λ i. is_normal (mode i) && list_any (is_in_snapshot (keeps m i)) w.machines

  -- Its mode stays, and that it has a disk. The machines are to fit it.
  pub medium_changed_sound : (change m).mode ≡ m.mode → is_none (change m).flat ≡ is_none m.flat → HasCapacity (change m).flat (change m).capacity
      → IsFalse (is_bad_size (change m).capacity) → AllByRecursion (IsSoundMachine (change_by medium_name name change w.media)) w.machines
      → (next : ℕ) → next ≤ NUMBER_LIMIT → IsSound (record (with_medium w name change) { next = next })
  medium_changed_sound mode there disk good machines next low =
      let sound = All-find medium_name (IsSoundMedium w.machines) name m w.media ok.media is in
      let named = All-find medium_name (λ (m : WorldMedium). IsTrue (is_medium_name m.name)) name m w.media ok.media_names is in
      let first = All-find medium_name (λ (m : WorldMedium). IsTrue (is_frozen w.machines m) → sum_by (first_count m.name) w.machines ≡ 1)
      name m w.media ok.first is in
      record {
        seed = ok.seed;
        next = low;
        inner = ok.inner;
        media_order = rises_change medium_name name change keeps w.media ok.media_order;
        media_names = All-changed (λ m. IsTrue (is_medium_name m.name)) (ap is_medium_name (keeps m) ∙ named) ok.media_names;
        media = All-changed (IsSoundMedium w.machines)
            (record { frozen = there ∙ sound.frozen ∙ sym (still_frozen mode); disk = disk; capacity = good }) ok.media;
        machine_order = ok.machine_order;
        machines = machines;
        first = All-changed (λ m. IsTrue (is_frozen w.machines m) → sum_by (first_count m.name) w.machines ≡ 1)
            (λ frozen. ap (λ (n : Name). sum_by (first_count n) w.machines) (keeps m) ∙ first (sym (still_frozen mode) ∙ frozen)) ok.first;
        shelf = λ other. shelf_kept w.media (change_by medium_name name change w.media) other (w.shelf other)
            (λ there free. has_map _ medium_name medium_name still_named other w.media ∙ free) (ok.shelf other);
        few_media = rw length-map ok.few_media;
        few_machines = ok.few_machines;
        few_snapshots = ok.few_snapshots;
        few_places = ok.few_places;
      }

  -- machines that do not have the medium
  pub unused_machines : is_in_use w.machines name ≡ false → AllByRecursion (IsSoundMachine (change_by medium_name name change w.media)) w.machines
  unused_machines unused = machines_kept name w.machines w.media (change_by medium_name name change w.media) unused
      (λ n apart. find_change_other medium_name name change keeps n w.media apart) ok.machines
