-- Lists by name.
use Rattle.std.proofs.Common.{◌≡◌, ℕ, zero, suc, ◌+◌, ◌≤◌, Bool, true, false, not, cond, ◌||◌, List, [], ◌∷◌, ◌++◌, map, length, Option, Some, None, refl, sym, ap, subst, ◌∙◌, arith, is_some, is_eq, IsTrue, IsFalse}
use Rattle.std.specs.List.{AllByRecursion, list_any, slice_get}
use Rattle.std.specs.Option.{option_map}
use Rattle.std.specs.Str.{bytes_eq}
use Rattle.std.specs.Ordering.{nat_cmp, ordering_reverse}
use Rattle.std.specs.Cmp.Lexicographic.{slice_cmp}
use Rattle.std.specs.declared.cmp.Ordering.{Ordering}
use Rattle.std.specs.declared.cmp.Ordering.TheVariants.{Less, Equal, Greater}
use Rattle.std.proofs.lemmas.Bool.{or_parts, not-true, not-false, cond_both}
use Rattle.std.proofs.lemmas.Cmp.{nat_list_cmp_total, nat_list_eq_equiv}
use Rattle.std.proofs.lemmas.Map.Text.{is_eq-slice_cmp}
use Rattle.std.proofs.lemmas.Slice.Eq.{bytes_eq-Decides}
use Rattle.vbm_named.specs.Names.{Name, is_less, is_before, is_named, find_by, has_name, put_by, without, change_by, Rises}

-- ---- names

pub same_name : (a b : Name) → bytes_eq a b ≡ true → a ≡ b
same_name a b = (bytes_eq-Decides a b).0

pub name_refl : (a : Name) → bytes_eq a a ≡ true
name_refl a = nat_list_eq_equiv.refl a

pub name_sym : (a b : Name) → bytes_eq a b ≡ bytes_eq b a
name_sym a b = nat_list_eq_equiv.symm a b

pub less_is : (o : Ordering) → IsTrue (is_less o) → o ≡ Less
less_is Less h = refl
less_is Equal h = absurd cc
less_is Greater h = absurd cc

reversed : (o p : Ordering) → p ≡ ordering_reverse o → is_less o ≡ false → is_eq p ≡ false → is_less p ≡ true
reversed Less p e h k = absurd cc
reversed Equal p e h k = let u : true ≡ false = sym (ap is_eq e) ∙ k in absurd cc
reversed Greater p e h k = ap is_less e

pub before_trans : (a b c : Name) → IsTrue (is_before a b) → IsTrue (is_before b c) → IsTrue (is_before a c)
before_trans a b c h k = ap is_less (nat_list_cmp_total.trans a b c (less_is (slice_cmp nat_cmp a b) h) (less_is (slice_cmp nat_cmp b c) k))

pub before_other : (a b : Name) → IsTrue (is_before a b) → bytes_eq a b ≡ false
before_other a b h = sym (is_eq-slice_cmp a b) ∙ ap is_eq (less_is (slice_cmp nat_cmp a b) h)

pub not_before : (a b : Name) → is_before a b ≡ false → bytes_eq a b ≡ false → IsTrue (is_before b a)
not_before a b h k =
    reversed (slice_cmp nat_cmp a b) (slice_cmp nat_cmp b a) (nat_list_cmp_total.antisymm b a) h (is_eq-slice_cmp b a ∙ name_sym b a ∙ k)

-- ---- all of a list

module _ {X : Type 0} where
  pub All-every : (P : X → Type 0) → ((x : X) → P x) → (xs : List X) → AllByRecursion P xs
  All-every P f [] = tt
  All-every P f (x ∷ xs) = (f x, All-every P f xs)

  pub All-map : (P Q : X → Type 0) → ((x : X) → P x → Q x) → (xs : List X) → AllByRecursion P xs → AllByRecursion Q xs
  All-map P Q f [] all = tt
  All-map P Q f (x ∷ xs) all = (f x all.0, All-map P Q f xs all.1)

  pub All-join : (P Q R : X → Type 0) → ((x : X) → P x → Q x → R x) → (xs : List X)
      → AllByRecursion P xs → AllByRecursion Q xs → AllByRecursion R xs
  All-join P Q R f [] a b = tt
  All-join P Q R f (x ∷ xs) a b = (f x a.0 b.0, All-join P Q R f xs a.1 b.1)

  pub All-both : (P Q : X → Type 0) (xs : List X) → AllByRecursion P xs → AllByRecursion Q xs → AllByRecursion (λ x. P x × Q x) xs
  All-both P Q = All-join P Q (λ x. P x × Q x) (λ x p q. (p, q))

  pub any_none : (p : X → Bool) (xs : List X) → AllByRecursion (λ x. p x ≡ false) xs → list_any p xs ≡ false
  any_none p [] all = refl
  any_none p (x ∷ xs) all = rw all.0 (any_none p xs all.1)

  pub none_of_any : (p : X → Bool) (xs : List X) → list_any p xs ≡ false → AllByRecursion (λ x. p x ≡ false) xs
  none_of_any p [] none = tt
  none_of_any p (x ∷ xs) none = let both = or_parts (p x) (list_any p xs) none in (both.0, none_of_any p xs both.1)

  pub All-push : (P : X → Type 0) (xs : List X) (x : X) → AllByRecursion P xs → P x → AllByRecursion P (xs ++ x ∷ [])
  All-push P [] x all h = (h, tt)
  All-push P (y ∷ ys) x all h = (all.0, All-push P ys x all.1 h)

  -- what holds of each holds of the one at a place
  pub All-get : (P : X → Type 0) (xs : List X) (i : ℕ) (x : X) → AllByRecursion P xs → slice_get xs i ≡ Some x → P x
  All-get P [] i x all at = absurd cc
  All-get P (y ∷ ys) zero x all at = let same : y ≡ x = cc in subst P same all.0
  All-get P (y ∷ ys) (suc i) x all at = All-get P ys i x all.1 at

module _ {X Y : Type 0} (f : X → Y) where
  pub All-of_map : (P : Y → Type 0) (xs : List X) → AllByRecursion (λ x. P (f x)) xs → AllByRecursion P (map f xs)
  All-of_map P [] all = tt
  All-of_map P (x ∷ xs) all = (all.0, All-of_map P xs all.1)

  pub any_map : (p : Y → Bool) (xs : List X) → list_any p (map f xs) ≡ list_any (λ x. p (f x)) xs
  any_map p [] = refl
  any_map p (x ∷ xs) = ap (λ (b : Bool). p (f x) || b) (any_map p xs)

module _ {X : Type 0} (nx : X → Name) where
  -- ---- what is found

  pub find_cases : (name : Name) (x : X) (xs : List X) (P : Option X → Type 0) → (bytes_eq (nx x) name ≡ true → P (Some x))
      → (bytes_eq (nx x) name ≡ false → P (find_by nx name xs)) → P (find_by nx name (x ∷ xs))
  find_cases name x xs = cond_both (bytes_eq (nx x) name) (Some x) (find_by nx name xs)

  pub has_found : (name : Name) (xs : List X) → has_name nx name xs ≡ is_some (find_by nx name xs)
  has_found name [] = refl
  has_found name (x ∷ xs) =
      find_cases name x xs (λ o. has_name nx name (x ∷ xs) ≡ is_some o) (λ e. rw e refl) (λ e. rw e (has_found name xs))

  -- what holds of each holds of the one that is found
  pub All-find : (P : X → Type 0) (name : Name) (x : X) (xs : List X) → AllByRecursion P xs → find_by nx name xs ≡ Some x → P x
  All-find P name x [] all e = absurd cc
  All-find P name x (y ∷ ys) all e = find_cases name y ys (λ o. o ≡ Some x → P x)
      (λ t is. let same : y ≡ x = cc in subst P same all.0) (λ f is. All-find P name x ys all.1 is) e

  pub find_named : (name : Name) (x : X) (xs : List X) → find_by nx name xs ≡ Some x → bytes_eq (nx x) name ≡ true
  find_named name x [] e = absurd cc
  find_named name x (y ∷ ys) e = find_cases name y ys (λ o. o ≡ Some x → bytes_eq (nx x) name ≡ true)
      (λ t is. let same : y ≡ x = cc in subst (λ z. bytes_eq (nx z) name ≡ true) same t) (λ f is. find_named name x ys is) e

  -- where none has the name, each has another, and the reverse
  pub others-none : (name : Name) (xs : List X) → find_by nx name xs ≡ None → AllByRecursion (λ x. bytes_eq (nx x) name ≡ false) xs
  others-none name xs none = none_of_any (is_named nx name) xs (has_found name xs ∙ ap is_some none)

  pub none-others : (name : Name) (xs : List X) → AllByRecursion (λ x. bytes_eq (nx x) name ≡ false) xs → find_by nx name xs ≡ None
  none-others name [] others = refl
  none-others name (x ∷ xs) others = rw others.0 (none-others name xs others.1)

  -- each item of a list in the order of names is the one that is found by its name
  pub each_found : (xs : List X) → Rises nx xs → AllByRecursion (λ x. find_by nx (nx x) xs ≡ Some x) xs
  each_found [] rises = tt
  each_found (x ∷ xs) rises = (
    rw (name_refl (nx x)) refl,
    All-join _ _ (λ y. find_by nx (nx y) (x ∷ xs) ≡ Some y) (λ y before is. rw (before_other (nx x) (nx y) before) is)
        xs rises.0 (each_found xs rises.1),
  )

  -- ---- the order of names

  -- the items behind one have other names
  pub behind_others : (x : X) (xs : List X) → AllByRecursion (λ y. IsTrue (is_before (nx x) (nx y))) xs
      → AllByRecursion (λ y. bytes_eq (nx y) (nx x) ≡ false) xs
  behind_others x xs behind = All-map _ (λ y. bytes_eq (nx y) (nx x) ≡ false) (λ y h. name_sym (nx y) (nx x) ∙ before_other (nx x) (nx y) h) xs behind

  -- each item is before a name
  abbrev pub ComesAfter : Name → List X → Type 0
  ComesAfter name xs = AllByRecursion (λ x. IsTrue (is_before (nx x) name)) xs

  -- and so none has it
  pub after_none : (name : Name) (xs : List X) → ComesAfter name xs → IsFalse (has_name nx name xs)
  after_none name [] after = refl
  after_none name (x ∷ xs) after = rw (before_other (nx x) name after.0, after_none name xs after.1) refl

  -- ---- one more item

  pub put_cases : (x y : X) (ys : List X) (P : List X → Type 0) → (is_before (nx x) (nx y) ≡ true → P (x ∷ y ∷ ys))
      → (is_before (nx x) (nx y) ≡ false → P (y ∷ put_by nx x ys)) → P (put_by nx x (y ∷ ys))
  unfolding put_by
  put_cases x y ys = cond_both (is_before (nx x) (nx y)) (x ∷ y ∷ ys) (y ∷ put_by nx x ys)

  pub All-put : (P : X → Type 0) (x : X) (xs : List X) → P x → AllByRecursion P xs → AllByRecursion P (put_by nx x xs)
  unfolding put_by
  All-put P x [] p all = (p, tt)
  All-put P x (y ∷ ys) p all = put_cases x y ys (AllByRecursion P) (λ e. (p, all)) (λ e. (all.0, All-put P x ys p all.1))

  pub find_put_other : (name : Name) (x : X) (xs : List X) → bytes_eq (nx x) name ≡ false
      → find_by nx name (put_by nx x xs) ≡ find_by nx name xs
  unfolding put_by
  find_put_other name x [] other = rw other refl
  find_put_other name x (y ∷ ys) other =
      put_cases x y ys (λ l. find_by nx name l ≡ find_by nx name (y ∷ ys)) (λ e. rw other refl) (λ e. rw (find_put_other name x ys other) refl)

  pub find_put_same : (x : X) (xs : List X) → find_by nx (nx x) xs ≡ None → find_by nx (nx x) (put_by nx x xs) ≡ Some x
  unfolding put_by
  find_put_same x [] none = rw (name_refl (nx x)) refl
  find_put_same x (y ∷ ys) none =
      let others = others-none (nx x) (y ∷ ys) none in
      put_cases x y ys (λ l. find_by nx (nx x) l ≡ Some x)
      (λ e. rw (name_refl (nx x)) refl) (λ e. rw others.0 (find_put_same x ys (none-others (nx x) ys others.1)))

  pub rises_put : (x : X) (xs : List X) → find_by nx (nx x) xs ≡ None → Rises nx xs → Rises nx (put_by nx x xs)
  unfolding put_by
  rises_put x [] none rises = (tt, tt)
  rises_put x (y ∷ ys) none rises =
      let others = others-none (nx x) (y ∷ ys) none in
      put_cases x y ys (Rises nx) (λ e. ((e, All-map _ _ (λ z h. before_trans (nx x) (nx y) (nx z) e h) ys rises.0), rises)) (λ e. (
        All-put _ x ys (not_before (nx x) (nx y) e (name_sym (nx x) (nx y) ∙ others.0)) rises.0,
        rises_put x ys (none-others (nx x) ys others.1) rises.1,
      ))

  pub length-put : (x : X) (xs : List X) → length (put_by nx x xs) ≡ length xs + 1
  unfolding put_by
  length-put x [] = refl
  length-put x (y ∷ ys) = put_cases x y ys (λ l. length l ≡ length (y ∷ ys) + 1) (λ e. omega arith) (λ e. omega (arith, length-put x ys))

  -- ---- without a name

  pub without_cases : (name : Name) (x : X) (xs : List X) (P : List X → Type 0) → (bytes_eq (nx x) name ≡ true → P (without nx name xs))
      → (bytes_eq (nx x) name ≡ false → P (x ∷ without nx name xs)) → P (without nx name (x ∷ xs))
  without_cases name x xs P gone stays = cond_both (not (bytes_eq (nx x) name)) (x ∷ without nx name xs) (without nx name xs) P
      (λ e. stays (not-true (bytes_eq (nx x) name) e)) (λ e. gone (not-false (bytes_eq (nx x) name) e))

  pub All-without : (P : X → Type 0) (name : Name) (xs : List X) → AllByRecursion P xs → AllByRecursion P (without nx name xs)
  All-without P name [] all = tt
  All-without P name (x ∷ xs) all =
      without_cases name x xs (AllByRecursion P) (λ e. All-without P name xs all.1) (λ e. (all.0, All-without P name xs all.1))

  -- each one that is left has another name
  pub others-without : (name : Name) (xs : List X) → AllByRecursion (λ x. bytes_eq (nx x) name ≡ false) (without nx name xs)
  others-without name [] = tt
  others-without name (x ∷ xs) = without_cases name x xs (AllByRecursion _) (λ e. others-without name xs) (λ e. (e, others-without name xs))

  pub find_without_same : (name : Name) (xs : List X) → find_by nx name (without nx name xs) ≡ None
  find_without_same name xs = none-others name (without nx name xs) (others-without name xs)

  pub find_without_other : (name other : Name) (xs : List X) → bytes_eq name other ≡ false
      → find_by nx other (without nx name xs) ≡ find_by nx other xs
  find_without_other name other [] apart = refl
  find_without_other name other (x ∷ xs) apart = without_cases name x xs (λ l. find_by nx other l ≡ find_by nx other (x ∷ xs))
      (λ e. rw (nat_list_eq_equiv.congr (nx x) name other e, apart) (find_without_other name other xs apart))
      (λ e. rw (find_without_other name other xs apart) refl)

  pub rises_without : (name : Name) (xs : List X) → Rises nx xs → Rises nx (without nx name xs)
  rises_without name [] rises = tt
  rises_without name (x ∷ xs) rises = without_cases name x xs (Rises nx)
      (λ e. rises_without name xs rises.1) (λ e. (All-without _ name xs rises.0, rises_without name xs rises.1))

  -- nothing goes where none has the name
  pub without_none : (name : Name) (xs : List X) → AllByRecursion (λ x. bytes_eq (nx x) name ≡ false) xs → without nx name xs ≡ xs
  without_none name [] others = refl
  without_none name (x ∷ xs) others = rw others.0 (ap (λ l. x ∷ l) (without_none name xs others.1))

  pub length-without : (name : Name) (xs : List X) → length (without nx name xs) ≤ length xs
  length-without name [] = omega arith
  length-without name (x ∷ xs) = without_cases name x xs (λ l. length l ≤ length (x ∷ xs))
      (λ e. omega (arith, length-without name xs)) (λ e. omega (arith, length-without name xs))

-- ---- an item in another form

not_turned : (a b : Name) → IsTrue (is_before a b) → is_before b a ≡ false
not_turned a b less = elim (is_before b a) as (λ t. is_before b a ≡ t → t ≡ false) [
  | true ↦ λ e. let both : true ≡ false = sym (name_refl a) ∙ before_other a a (before_trans a b a less e) in absurd cc
  | false ↦ λ e. refl
] refl

module _ {X : Type 0} (nx : X → Name) where
  change_none : (name : Name) (x : X) (xs : List X) → AllByRecursion (λ y. bytes_eq (nx y) name ≡ false) xs → change_by nx name (λ y. x) xs ≡ xs
  change_none name x [] others = refl
  change_none name x (y ∷ ys) others = rw others.0 (ap (λ l. y ∷ l) (change_none name x ys others.1))

  put_first : (x : X) (xs : List X) → AllByRecursion (λ y. IsTrue (is_before (nx x) (nx y))) xs → put_by nx x xs ≡ x ∷ xs
  unfolding put_by
  put_first x [] all = refl
  put_first x (y ∷ ys) all = rw all.0 refl

  behind_it : (y x : X) (ys : List X) → AllByRecursion (λ z. IsTrue (is_before (nx y) (nx z))) ys
      → has_name nx (nx x) ys ≡ true → IsTrue (is_before (nx y) (nx x))
  behind_it y x ys all has = elim (find_by nx (nx x) ys) as (λ o. find_by nx (nx x) ys ≡ o → is_some o ≡ true → IsTrue (is_before (nx y) (nx x))) [
    | None ↦ λ e h. absurd cc
    | Some z ↦ λ e h.
        subst (λ n. IsTrue (is_before (nx y) n)) (same_name (nx z) (nx x) (find_named nx (nx x) z ys e)) (All-find nx _ (nx x) z ys all e)
  ] refl (sym (has_found nx (nx x) ys) ∙ has)

  -- what is taken out and put back in another form stands where it stood
  pub put_without : (x : X) (xs : List X) → Rises nx xs → has_name nx (nx x) xs ≡ true
      → put_by nx x (without nx (nx x) xs) ≡ change_by nx (nx x) (λ y. x) xs
  unfolding put_by
  put_without x [] rises has = absurd cc
  put_without x (y ∷ ys) rises has = elim (bytes_eq (nx y) (nx x)) as (λ b. bytes_eq (nx y) (nx x) ≡ b → b || has_name nx (nx x) ys ≡ true
      → put_by nx x (cond (not b) (y ∷ without nx (nx x) ys) (without nx (nx x) ys)) ≡ cond b x y ∷ change_by nx (nx x) (λ z. x) ys) [
        | true ↦ λ e h.
            let same : nx y ≡ nx x = same_name (nx y) (nx x) e in
            let behind : AllByRecursion (λ z. IsTrue (is_before (nx x) (nx z))) ys =
            subst (λ n. AllByRecursion (λ z. IsTrue (is_before n (nx z))) ys) same rises.0 in
            let others = All-map _ (λ z. bytes_eq (nx z) (nx x) ≡ false) (λ z b. name_sym (nx z) (nx x) ∙ before_other (nx x) (nx z) b) ys behind in
            rw (without_none nx (nx x) ys others, change_none (nx x) x ys others) (put_first x ys behind)
        | false ↦ λ e h.
            rw (not_turned (nx y) (nx x) (behind_it y x ys rises.0 h)) (ap (λ l. y ∷ l) (put_without x ys rises.1 h))
      ] refl has

-- ---- maps that keep names

module _ {X Y : Type 0} (f : X → Y) (nx : X → Name) (ny : Y → Name) (keeps : (x : X) → ny (f x) ≡ nx x) where
  pub find_map : (name : Name) (xs : List X) → find_by ny name (map f xs) ≡ option_map f (find_by nx name xs)
  find_map name [] = refl
  find_map name (x ∷ xs) = find_cases nx name x xs (λ o. find_by ny name (map f (x ∷ xs)) ≡ option_map f o)
      (λ e. rw (keeps x, e) refl) (λ e. rw (keeps x, e) (find_map name xs))

  pub has_map : (name : Name) (xs : List X) → has_name ny name (map f xs) ≡ has_name nx name xs
  has_map name [] = refl
  has_map name (x ∷ xs) = rw (keeps x, has_map name xs) refl

  pub put_map : (x : X) (xs : List X) → map f (put_by nx x xs) ≡ put_by ny (f x) (map f xs)
  unfolding put_by
  put_map x [] = refl
  put_map x (y ∷ ys) = put_cases nx x y ys (λ l. map f l ≡ put_by ny (f x) (map f (y ∷ ys)))
      (λ e. rw (keeps x, keeps y, e) refl) (λ e. rw (keeps x, keeps y, e, put_map x ys) refl)

  pub without_map : (name : Name) (xs : List X) → map f (without nx name xs) ≡ without ny name (map f xs)
  without_map name [] = refl
  without_map name (x ∷ xs) = without_cases nx name x xs (λ l. map f l ≡ without ny name (map f (x ∷ xs)))
      (λ e. rw (keeps x, e) (without_map name xs)) (λ e. rw (keeps x, e, without_map name xs) refl)

  -- g is f, but for the items of a name, where it is f and then the change
  pub change_map : (g : X → Y) (name : Name) (change : Y → Y) (xs : List X)
      → AllByRecursion (λ x. g x ≡ cond (bytes_eq (nx x) name) (change (f x)) (f x)) xs → map g xs ≡ change_by ny name change (map f xs)
  change_map g name change [] all = refl
  change_map g name change (x ∷ xs) all = rw (keeps x, all.0, change_map g name change xs all.1) refl

  pub rises_map : (xs : List X) → Rises nx xs → Rises ny (map f xs)
  rises_map [] rises = tt
  rises_map (x ∷ xs) rises = (
    All-of_map f _ xs (All-map _ (λ z. IsTrue (is_before (ny (f x)) (ny (f z)))) (λ z h. rw (keeps x, keeps z) h) xs rises.0),
    rises_map xs rises.1,
  )

-- ---- a change of the items of a name that keeps names

module _ {X : Type 0} (nx : X → Name) (name : Name) (change : X → X) (keeps : (x : X) → nx (change x) ≡ nx x) where
  abbrev changed : X → X
  changed x = cond (is_named nx name x) (change x) x

  keeps_name : (x : X) → nx (changed x) ≡ nx x
  keeps_name x = cond_both (is_named nx name x) (change x) x (λ y. nx y ≡ nx x) (λ e. keeps x) (λ e. refl)

  -- what is found is what was found, changed if it has the name
  pub find_change : (other : Name) (xs : List X)
      → find_by nx other (change_by nx name change xs) ≡ option_map (λ x. cond (is_named nx name x) (change x) x) (find_by nx other xs)
  find_change other xs = find_map changed nx nx keeps_name other xs

  pub rises_change : (xs : List X) → Rises nx xs → Rises nx (change_by nx name change xs)
  rises_change xs rises = rises_map changed nx nx keeps_name xs rises

  pub All-change : (P : X → Type 0) → ((x : X) → bytes_eq (nx x) name ≡ true → P x → P (change x)) → (xs : List X)
      → AllByRecursion P xs → AllByRecursion P (change_by nx name change xs)
  All-change P step xs all =
      All-of_map changed P xs (All-map P _ (λ x p. cond_both (is_named nx name x) (change x) x P (λ e. step x e p) (λ e. p)) xs all)
