-- Lists whose names rise, as they grow at the end.
use Rattle.std.proofs.Common.{◌≡◌, ℕ, suc, ◌+◌, ◌-◌, ◌≤◌, ◌∙◌, nat_lt, nat_le, List, [], ◌∷◌, ◌++◌, length, get_or, IsTrue, IsFalse, refl, ap, arith}
use Rattle.vbm_named.specs.Names.{Name, is_before, has_name, Rises}
use Rattle.vbm_named.proofs.Lists.{before_trans, All-push, ComesAfter, after_none}
use Rattle.std.proofs.lemmas.Bool.Decides.{nat_tests}
use Rattle.vbm_registry.specs.Grammar.{last_name, last_or}

module _ {X : Type 0} (name_of : X → Name) where
  all_before : (name : Name) (xs : List X) → Rises name_of xs → IsTrue (is_before (last_name name_of xs) name) → ComesAfter name_of name xs
  all_before name [] rises h = tt
  all_before name (x ∷ []) rises h = (h, tt)
  all_before name (x ∷ y ∷ ys) rises h =
      let others = all_before name (y ∷ ys) rises.1 h in
      (before_trans (name_of x) (name_of y) name rises.0.0 others.0, others)

  after_push : (xs : List X) (x : X) → Rises name_of xs → ComesAfter name_of (name_of x) xs → Rises name_of (xs ++ x ∷ [])
  after_push [] x rises after = (tt, tt)
  after_push (y ∷ ys) x rises after =
      (All-push (λ z. IsTrue (is_before (name_of y) (name_of z))) ys x rises.0 after.0, after_push ys x rises.1 after.1)

  pub rises_on : (xs : List X) (x : X) → Rises name_of xs → IsTrue (is_before (last_name name_of xs) (name_of x)) → Rises name_of (xs ++ x ∷ [])
  rises_on xs x rises h = after_push xs x rises (all_before (name_of x) xs rises h)

  pub is_fresh : (xs : List X) (x : X) → Rises name_of xs → IsTrue (is_before (last_name name_of xs) (name_of x))
      → IsFalse (has_name name_of (name_of x) xs)
  is_fresh xs x rises h = after_none name_of (name_of x) xs (all_before (name_of x) xs rises h)

-- the last item, as code finds it
pub last_is : {X A : Type 0} (none : A) (f : X → A) (xs : List X) (x : X) → 1 ≤ length xs → f (get_or xs (length xs - 1) x) ≡ last_or none f xs
last_is none f [] x some = absurd (omega arith)
last_is none f (y ∷ []) x some = refl
last_is none f (y ∷ z ∷ zs) x some =
    let k : length (y ∷ z ∷ zs) - 1 ≡ suc (length (z ∷ zs) - 1) = omega arith in
    rw k (last_is none f (z ∷ zs) x (omega arith))

pub last_at : {X A : Type 0} (none : A) (f : X → A) (xs : List X) (x : X) → 1 ≤ length xs → x ≡ get_or xs (length xs - 1) x → f x ≡ last_or none f xs
last_at none f xs x some is = ap f is ∙ last_is none f xs x some

pub less_or : (a b : ℕ) → nat_lt a b ≡ nat_le (a + 1) b
less_or a b = grind (arith, nat_tests)
