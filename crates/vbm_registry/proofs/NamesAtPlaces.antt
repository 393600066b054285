-- Names at places: in a list whose names rise and are not empty, a place in range and its name are one.
use Rattle.std.proofs.Common.{◌≡◌, ℕ, zero, suc, ◌<◌, ◌≤◌, true, false, List, [], ◌∷◌, length, map, IsTrue, IsFalse, Some, None, is_some, refl, sym, ap, subst, ◌∙◌, arith, inl, inr}
use Rattle.std.specs.Prelude.{◌==◌}
use Rattle.std.specs.List.{AllByRecursion, slice_get}
use Rattle.std.specs.Option.{option_map}
use Rattle.std.specs.Str.{bytes_eq}
use Rattle.std.proofs.lemmas.Bool.{eqb-true, eq-eqb}
use Rattle.std.proofs.lemmas.List.{get_or_past, length-map}
use Rattle.std.proofs.lemmas.Option.{slice_get-map, slice_get_within, get_or_from_slice_get, slice_get_cases}
use Rattle.vbm_named.specs.Names.{Name, find_by, has_name, Rises}
use Rattle.vbm_named.proofs.Lists.{same_name, name_refl, has_found, find_named, All-get, All-find, each_found}
use Rattle.vbm_named.proofs.Places.{one_place}
use Rattle.vbm_registry.specs.Named.{name_in}

module _ {X : Type 0} where
  pub item_at : (xs : List X) (place : ℕ) → place < length xs → (x : X) × (slice_get xs place ≡ Some x)
  item_at [] place less = absurd (omega (arith, less))
  item_at (x ∷ xs) zero less = (x, refl)
  item_at (x ∷ xs) (suc place) less = item_at xs place (omega (arith, less))

  -- what holds at each place holds of each
  pub all_places : (P : X → Type 0) (xs : List X) → ((i : ℕ) (x : X) → slice_get xs i ≡ Some x → P x) → AllByRecursion P xs
  all_places P [] each = tt
  all_places P (x ∷ xs) each = (each 0 x refl, all_places P xs (λ i y there. each (suc i) y there))

-- no name is empty
abbrev pub NotEmpty : Name → Type 0
NotEmpty name = 1 ≤ length name

module _ {X : Type 0} (nx : X → Name) (xs : List X) where
  pub name_of_item : (place : ℕ) (x : X) → slice_get xs place ≡ Some x → name_in (map nx xs) place ≡ nx x
  name_of_item place x at =
      get_or_from_slice_get (map nx xs) place (nx x) [] (slice_get-map nx xs place ∙ ap (option_map nx) at)

  no_name : (place : ℕ) → length xs ≤ place → name_in (map nx xs) place ≡ []
  no_name place past = get_or_past (map nx xs) place [] (omega (arith, past, length-map xs nx))

  -- a name that is not empty is that of a place in range
  pub named_within : (place : ℕ) → NotEmpty (name_in (map nx xs) place) → place < length xs
  named_within place some = elim (slice_get_cases xs place).1 [
    | inl at ↦ at.1
    | inr past ↦ let none : length (name_in (map nx xs) place) ≡ 0 = ap length (no_name place past.0) in absurd (omega (arith, some, none))
  ]

  module _ (rises : Rises nx xs) where
    pub found_at : (place : ℕ) (x : X) → slice_get xs place ≡ Some x → find_by nx (name_in (map nx xs) place) xs ≡ Some x
    found_at place x at =
        ap (λ (name : Name). find_by nx name xs) (name_of_item place x at)
        ∙ All-get (λ y. find_by nx (nx y) xs ≡ Some y) xs place x (each_found nx xs rises) at

    pub has_at : (place : ℕ) → place < length xs → IsTrue (has_name nx (name_in (map nx xs) place) xs)
    has_at place less =
        let x = item_at xs place less in
        has_found nx (name_in (map nx xs) place) xs ∙ ap is_some (found_at place x.0 x.1)

    module _ (full : AllByRecursion (λ (x : X). NotEmpty (nx x)) xs) where
      pub at_found : (place : ℕ) (x : X) → find_by nx (name_in (map nx xs) place) xs ≡ Some x → slice_get xs place ≡ Some x
      at_found place x found =
          let same : nx x ≡ name_in (map nx xs) place = same_name _ _ (find_named nx (name_in (map nx xs) place) x xs found) in
          let some : NotEmpty (name_in (map nx xs) place) = subst NotEmpty same
          (All-find nx (λ y. NotEmpty (nx y)) (name_in (map nx xs) place) x xs full found) in
          let y = item_at xs place (named_within place some) in
          y.1 ∙ sym (found_at place y.0 y.1) ∙ found

      pub within_found : (place : ℕ) (x : X) → find_by nx (name_in (map nx xs) place) xs ≡ Some x → place < length xs
      within_found place x found = slice_get_within xs place x (at_found place x found)

      pub within_has : (place : ℕ) → IsTrue (has_name nx (name_in (map nx xs) place) xs) → place < length xs
      within_has place has = elim (find_by nx (name_in (map nx xs) place) xs) as
          (λ o. find_by nx (name_in (map nx xs) place) xs ≡ o → is_some o ≡ true → place < length xs) [
            | None ↦ λ e h. absurd cc
            | Some x ↦ λ e h. within_found place x e
          ] refl (sym (has_found nx (name_in (map nx xs) place) xs) ∙ has)

      -- two places of one name are one
      pub same_place : (p q : ℕ) → p < length xs → name_in (map nx xs) q ≡ name_in (map nx xs) p → q ≡ p
      same_place p q less same =
          let x = item_at xs p less in
          let q_found : find_by nx (name_in (map nx xs) q) xs ≡ Some x.0 = ap (λ (name : Name). find_by nx name xs) same ∙ found_at p x.0 x.1 in
          one_place nx xs q p x.0 x.0 rises (at_found q x.0 q_found) x.1 (name_refl (nx x.0))

      pub other_names : (p q : ℕ) → p < length xs → IsFalse (p == q) → IsFalse (bytes_eq (name_in (map nx xs) q) (name_in (map nx xs) p))
      other_names p q less apart = elim (bytes_eq (name_in (map nx xs) q) (name_in (map nx xs) p)) as
          (λ b. bytes_eq (name_in (map nx xs) q) (name_in (map nx xs) p) ≡ b → b ≡ false) [
            | true ↦ λ e. let same = same_place p q less (same_name _ _ e) in let both : true ≡ false = sym (eq-eqb p q (sym same)) ∙ apart in absurd cc
            | false ↦ λ e. refl
          ] refl

  pub other_places : (p q : ℕ) → IsFalse (bytes_eq (name_in (map nx xs) q) (name_in (map nx xs) p)) → IsFalse (p == q)
  other_places p q apart = elim (p == q) as (λ b. (p == q) ≡ b → b ≡ false) [
    | true ↦ λ e.
        let same : bytes_eq (name_in (map nx xs) q) (name_in (map nx xs) p) ≡ true =
        ap (λ (n : ℕ). bytes_eq (name_in (map nx xs) n) (name_in (map nx xs) p)) (sym (eqb-true p q e)) ∙ name_refl (name_in (map nx xs) p) in
        let both : true ≡ false = sym same ∙ apart in absurd cc
    | false ↦ λ e. refl
  ] refl
