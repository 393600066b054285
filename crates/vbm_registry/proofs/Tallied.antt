-- Counts that go up by one item, and the parents of inner images up to one.
use Rattle.std.proofs.Common.{◌≡◌, ℕ, ◌+◌, ◌<◌, Bool, true, false, cond, List, [], ◌∷◌, ◌++◌, reverse, length, take, get_or, Option, Some, None, refl, sym, ap, subst, ◌∙◌, arith}
use Rattle.std.specs.Prelude.{◌==◌, find, count_by}
use Rattle.std.specs.Option.{option_map}
use Rattle.std.proofs.lemmas.Bool.{eqb-true}
use Rattle.std.proofs.lemmas.Bool.Decides.{nat_tests}
use Rattle.std.proofs.lemmas.List.{reverse-append, take_more}
use Rattle.std.proofs.lemmas.List.Sums.{sum_by_push}
use Rattle.vbm_registry.specs.declared.library.Inner.{Inner}
use Rattle.vbm_registry.specs.declared.library.ImageRef.{ImageRef}
use Rattle.vbm_registry.specs.declared.library.ImageRef.TheVariants as refs
use Rattle.vbm_registry.specs.AtPlaces.{is_same_image, parent_at, capped, one_more_if, or_zero, CountsChildren}

eq_swap : (a b : ℕ) → (a == b) ≡ (b == a)
eq_swap a b = grind (arith, nat_tests)

capped_more : (n : ℕ) → capped (capped n + 1) ≡ capped (n + 1)
capped_more n = grind (arith, nat_tests)

module _ {K X : Type 0} (test : K → X → Bool) (before : List X) (x : X) (old : K → ℕ)
    (counted : (image : K) → old image ≡ capped (count_by (test image) before)) where
  counted_more : (image : K) (n : ℕ) → n ≡ old image
      → one_more_if (test image x) n ≡ capped (count_by (test image) (before ++ x ∷ []))
  counted_more image n is =
      let push = sum_by_push (λ y. cond (test image y) 1 0) before x in
      by_test (test image x) (count_by (test image) before) (is ∙ counted image) ∙ ap capped (sym push) where
        by_test : (b : Bool) (k : ℕ) → n ≡ capped k → one_more_if b n ≡ capped (k + cond b 1 0)
        by_test true k e = ap (λ m. capped (m + 1)) e ∙ capped_more k
        by_test false k e = e ∙ ap capped (let same : k ≡ k + 0 = omega arith in same)

  pub one_more : (new : K → ℕ) → ((image : K) → new image ≡ one_more_if (test image x) (old image))
      → (image : K) → new image ≡ capped (count_by (test image) (before ++ x ∷ []))
  one_more new added image = added image ∙ counted_more image (old image) refl

  pub none_more : ((image : K) → test image x ≡ false) → (image : K) → old image ≡ capped (count_by (test image) (before ++ x ∷ []))
  none_more fails image = ap (λ b. one_more_if b (old image)) (sym (fails image)) ∙ counted_more image (old image) refl

-- a table in which one number was counted once more
pub table_more : (old new : ℕ → Option ℕ) (k v : ℕ) → ((q : ℕ) → new q ≡ cond (k == q) (Some v) (old q)) → v ≡ capped (or_zero (old k) + 1)
    → (q : ℕ) → or_zero (new q) ≡ one_more_if (q == k) (or_zero (old q))
table_more old new k v updates is q =
    ap or_zero (updates q) ∙ elim (k == q) as (λ b. (k == q) ≡ b → or_zero (cond b (Some v) (old q)) ≡ one_more_if (q == k) (or_zero (old q))) [
      | true ↦ λ e. let same : k ≡ q = eqb-true k q e in
          is ∙ ap (λ j. capped (or_zero (old j) + 1)) same ∙ ap (λ b. one_more_if b (or_zero (old q))) (sym (eq_swap q k ∙ e))
      | false ↦ λ e. ap (λ b. one_more_if b (or_zero (old q))) (sym (eq_swap q k ∙ e))
    ] refl

pub children_more : (xs : List Inner) (i : ℕ) (d : Inner) (old new : ImageRef → ℕ) → i < length xs → CountsChildren old (take i xs)
    → ((place : ℕ) → new (refs.Medium place) ≡ one_more_if (is_same_image (refs.Medium place) (get_or xs i d).parent) (old (refs.Medium place)))
    → CountsChildren new (take (i + 1) xs)
children_more xs i d old new within counted added = subst (CountsChildren new) (sym (take_more xs i d within))
    (one_more (λ place (x : Inner). is_same_image (refs.Medium place) x.parent) (take i xs) (get_or xs i d) (λ place. old (refs.Medium place))
    counted (λ place. new (refs.Medium place)) added)

pub parent_push : (xs : List Inner) (x : Inner) (n : ℕ) → parent_at (xs ++ x ∷ []) n ≡ cond (x.number == n) (Some x.parent) (parent_at xs n)
parent_push xs x n =
    ap (λ (ys : List Inner). option_map (λ (y : Inner). y.parent) (find (λ (y : Inner). y.number == n) ys)) (reverse-append xs (x ∷ []))
    ∙ chosen (x.number == n) (find (λ (y : Inner). y.number == n) (reverse xs)) where
      chosen : (b : Bool) (o : Option Inner)
          → option_map (λ (y : Inner). y.parent) (cond b (Some x) o) ≡ cond b (Some x.parent) (option_map (λ (y : Inner). y.parent) o)
      chosen true o = refl
      chosen false o = refl
