-- Inner images keep their rules by places exactly where they keep them by names.
use Rattle.std.proofs.Common.{◌≡◌, ℕ, ◌<◌, Bool, List, [], ◌∷◌, length, map, reverse, IsTrue, Some, None, refl, sym, ap, subst, ◌∙◌, inl, inr}
use Rattle.std.specs.Prelude.{◌==◌}
use Rattle.std.specs.List.{AllByRecursion, slice_get}
use Rattle.std.specs.Option.{option_map}
use Rattle.std.proofs.lemmas.Bool.Decides.{eqb_tells}
use Rattle.vbm_modes.specs.declared.Mode.{Mode}
use Rattle.vbm_named.specs.Names.{Name, find_by, Rises}
use Rattle.vbm_named.proofs.Lists.{any_map}
use Rattle.vbm_world.specs.World.{is_layered}
use Rattle.vbm_registry.specs.declared.media.Medium.{Medium}
use Rattle.vbm_registry.specs.declared.library.Inner.{Inner}
use Rattle.vbm_registry.specs.declared.library.ImageRef.{ImageRef}
use Rattle.vbm_registry.specs.declared.library.ImageRef.TheVariants as refs
use Rattle.vbm_registry.specs.Library.{medium_entry_name}
use Rattle.vbm_registry.specs.Grammar.{mode_or_readonly, mode_at, base_down, base_of}
use Rattle.vbm_registry.specs.Named.{OfInner, NamedInner, name_in, image_named, inner_named, medium_names}
use Rattle.vbm_registry.specs.Chains.{inner_down, images_down, chain_of, medium_below}
use Rattle.vbm_registry.specs.Rules.{has_mode, is_medium_of, has_number, IsParent, AreInners}
use Rattle.vbm_registry.proofs.ListLaws.{reverse_map}
use Rattle.vbm_registry.proofs.InnersListed.{is_numbered, IsPlacedParent, ArePlacedInners}
use Rattle.vbm_registry.proofs.NamesAtPlaces.{NotEmpty, item_at, found_at, at_found, within_found}

-- ---- media at places

module _ (media : List Medium) (rises : Rises medium_entry_name media) (full : AllByRecursion (λ (m : Medium). NotEmpty m.name) media) where
  abbrev names : List Name
  names = medium_names media

  pub mode_is : (place : ℕ) (m : Medium) → slice_get media place ≡ Some m → mode_at media place ≡ m.mode
  mode_is place m at = ap mode_or_readonly at

  pub medium_found : (place : ℕ) → place < length media
      → (m : Medium) × (find_by medium_entry_name (name_in names place) media ≡ Some m) × (mode_at media place ≡ m.mode)
  medium_found place less =
      let m = item_at media place less in
      (m.0, found_at medium_entry_name media rises place m.0 m.1, mode_is place m.0 m.1)

  named_mode : (test : Mode → Bool) (place : ℕ) → place < length media → IsTrue (test (mode_at media place))
      → IsTrue (is_medium_of test media (name_in names place))
  named_mode test place less h =
      let m = medium_found place less in
      ap (has_mode test) m.1 ∙ ap test (sym m.2) ∙ h

  pub placed_mode : (test : Mode → Bool) (place : ℕ) → IsTrue (is_medium_of test media (name_in names place))
      → (place < length media) × IsTrue (test (mode_at media place))
  placed_mode test place h = elim (find_by medium_entry_name (name_in names place) media) as
      (λ o. find_by medium_entry_name (name_in names place) media ≡ o → IsTrue (has_mode test o)
      → (place < length media) × IsTrue (test (mode_at media place))) [
        | None ↦ λ e is. absurd cc
        | Some m ↦ λ e is. (
          within_found medium_entry_name media rises full place m e,
          ap test (mode_is place m (at_found medium_entry_name media rises full place m e)) ∙ is,
        )
      ] refl h

  -- ---- inner images

  abbrev in_names : List Inner → List NamedInner
  in_names xs = map (inner_named names) xs

  numbered_is : (n : ℕ) (xs : List Inner) → has_number n (in_names xs) ≡ is_numbered n xs
  numbered_is n xs = any_map (inner_named names) (λ (x : NamedInner). x.number == n) xs

  named_parent : (earlier : List Inner) (r : ImageRef) → IsPlacedParent media earlier r → IsParent media (in_names earlier) (image_named names r)
  named_parent earlier (refs.Medium place) is = named_mode is_layered place is.0 is.1
  named_parent earlier (refs.Inner n) is = numbered_is n earlier ∙ is

  placed_parent : (earlier : List Inner) (r : ImageRef) → IsParent media (in_names earlier) (image_named names r) → IsPlacedParent media earlier r
  placed_parent earlier (refs.Medium place) is = placed_mode is_layered place is
  placed_parent earlier (refs.Inner n) is = sym (numbered_is n earlier) ∙ is

  named_down : (bound : ℕ) (xs : List Inner) → ArePlacedInners media bound xs → AreInners media bound (in_names xs)
  named_down bound [] are = tt
  named_down bound (x ∷ xs) are = (are.0, named_parent xs x.parent are.1, named_down x.number xs are.2)

  placed_down : (bound : ℕ) (xs : List Inner) → AreInners media bound (in_names xs) → ArePlacedInners media bound xs
  placed_down bound [] are = tt
  placed_down bound (x ∷ xs) are = (are.0, placed_parent xs x.parent are.1, placed_down x.number xs are.2)

  pub named_inners : (bound : ℕ) (xs : List Inner) → ArePlacedInners media bound (reverse xs) → AreInners media bound (reverse (in_names xs))
  named_inners bound xs are = subst (AreInners media bound) (sym (reverse_map (inner_named names) xs)) (named_down bound (reverse xs) are)

  pub placed_inners : (bound : ℕ) (xs : List Inner) → AreInners media bound (reverse (in_names xs)) → ArePlacedInners media bound (reverse xs)
  placed_inners bound xs are = placed_down bound (reverse xs) (subst (AreInners media bound) (reverse_map (inner_named names) xs) are)

  -- the medium at the end of the parents
  below_named : (xs : List Inner) (r : ImageRef)
      → medium_below (images_down (in_names xs) (image_named names r)) ≡ option_map (name_in names) (base_down xs r)
  unfolding inner_down
  below_named [] (refs.Medium place) = refl
  below_named [] (refs.Inner n) = refl
  below_named (x ∷ xs) (refs.Medium place) = refl
  below_named (x ∷ xs) (refs.Inner n) =
      elim (eqb_tells x.number n) [
        | inl e ↦ rw e.0 (below_named xs x.parent)
        | inr e ↦ rw e.0 (below_named xs (refs.Inner n))
      ]

  pub chain_named : (xs : List Inner) (n : ℕ)
      → medium_below (chain_of (in_names xs) (OfInner n)) ≡ option_map (name_in names) (base_of xs (refs.Inner n))
  chain_named xs n =
      ap (λ (ys : List NamedInner). medium_below (images_down ys (OfInner n))) (reverse_map (inner_named names) xs)
      ∙ below_named (reverse xs) (refs.Inner n)

  -- an inner image that stands on a medium is listed
  pub based_numbered : (xs : List Inner) (n place : ℕ) → base_down xs (refs.Inner n) ≡ Some place → IsTrue (is_numbered n xs)
  based_numbered [] n place e = absurd cc
  based_numbered (x ∷ xs) n place e =
      elim (eqb_tells x.number n) [
        | inl s ↦ rw s.0 refl
        | inr s ↦ rw s.0 (based_numbered xs n place (rw s.0 at e))
      ]
