-- Images whose staged entries are taken as settled.
use Rattle.std.proofs.Common.{◌≡◌, ◌≢◌, ℕ, suc, ◌+◌, ◌<◌, ◌≤◌, List, [], ◌∷◌, length, set, slice_get, Option, Some, None, inl, inr, refl, sym, ap, subst, ◌∙◌, arith}
use Rattle.std.specs.Prelude.{All}
use Rattle.std.proofs.lemmas.Bool.{cases_lt}
use Rattle.std.proofs.lemmas.Bool.Decides.{eqb_tells}
use Rattle.std.proofs.lemmas.Option.{slice_get_past, slice_get_within}
use Rattle.vbm_image.specs.declared.image.Image.{Image}
use Rattle.vbm_image.specs.Image.{IsInForm}
use Rattle.vbm_image.specs.Settling.{TakesAsSettled}
use Rattle.vbm_chain.proofs.ResolvedSectors.{at_item}
use Rattle.vbm_guest.specs.Flushing.{staged_in, IsTakenAsSettled, AreTakenAsSettled}
use Rattle.vbm_guest.proofs.EditedImages.{get-set_same, get-set_other, all_from, same_image}

-- ---- one after the other

-- those of the first n images are
pub record TakenTo (n : ℕ) (images others : List Image) : Type 0 where
  pub done : (k : ℕ) → k < n → IsTakenAsSettled (slice_get images k) (slice_get others k)
  pub rest : (k : ℕ) → n ≤ k → slice_get others k ≡ slice_get images k

pub taken_none : (images : List Image) → TakenTo 0 images images
taken_none images = record { done = λ k low. absurd (omega arith); rest = λ k low. refl }

pub taken_next : (n : ℕ) (images others : List Image) (old new : Image) → TakenTo n images others → slice_get others n ≡ Some old
    → TakesAsSettled old new → TakenTo (n + 1) images (set others n new)
taken_next n images others old new to is takes =
    let inside = slice_get_within others n old is in
    record {
      done = λ k low. elim (eqb_tells k n) [
        | inl same ↦
            subst (λ (j : ℕ). IsTakenAsSettled (slice_get images j) (slice_get (set others n new) j)) (sym same.1)
            (subst (IsTakenAsSettled (slice_get images n)) (sym (get-set_same others n new inside))
            (subst (λ (o : Option Image). IsTakenAsSettled o (Some new)) (sym (sym (to.rest n (omega arith)) ∙ is)) takes))
        | inr apart ↦
            let differ : k ≢ n = apart.1 in
            subst (IsTakenAsSettled (slice_get images k)) (sym (get-set_other others n k new differ)) (to.done k (omega (arith, differ)))
      ];
      rest = λ k low. get-set_other others n k new (λ e. absurd (omega (arith, e))) ∙ to.rest k (omega arith);
    }

no_item : (o : Option Image) → o ≡ None → IsTakenAsSettled o o
no_item None is = tt
no_item (Some x) is = absurd cc

pub taken_all : (n : ℕ) (images others : List Image) → length images ≤ n → TakenTo n images others → AreTakenAsSettled images others
taken_all n images others past to k = elim (cases_lt k n) [
  | inl low ↦ to.done k low
  | inr high ↦
      subst (λ (o : Option Image). IsTakenAsSettled (slice_get images k) o) (sym (to.rest k high))
      (no_item (slice_get images k) (slice_get_past images k (omega arith)))
]

-- one image is replaced by another one in form
pub form_set : (images : List Image) (i : ℕ) (new : Image) → All IsInForm images → i < length images → IsInForm new → All IsInForm (set images i new)
form_set images i new form inside here = all_from IsInForm (set images i new) (λ k x is. elim (eqb_tells k i) [
  | inl same ↦
      subst IsInForm
      (same_image (set images i new) i new x (get-set_same images i new inside) (ap (slice_get (set images i new)) (sym same.1) ∙ is)) here
  | inr apart ↦ at_item IsInForm images k x form (sym (get-set_other images i k new apart.1) ∙ is)
])

-- ---- what they were, and what they have staged

pub was_item : (o : Option Image) (new : Image) → IsTakenAsSettled o (Some new) → (old : Image) × (o ≡ Some old) × TakesAsSettled old new
was_item None new is = absurd is
was_item (Some old) new is = (old, refl, is)

pub was_image : (images others : List Image) → AreTakenAsSettled images others → (k : ℕ) (new : Image) → slice_get others k ≡ Some new
    → (old : Image) × (slice_get images k ≡ Some old) × TakesAsSettled old new
was_image images others taken k new is = was_item (slice_get images k) new (subst (IsTakenAsSettled (slice_get images k)) is (taken k))

none_in : (others : List Image) → ((k : ℕ) (image : Image) → slice_get others k ≡ Some image → image.pending.staged ≡ []) → staged_in others ≡ 0
none_in [] none = refl
none_in (x ∷ xs) none = omega (arith, ap length (none 0 x refl), none_in xs (λ k image is. none (suc k) image is))

pub taken_staged : (images others : List Image) → AreTakenAsSettled images others → staged_in others ≡ 0
taken_staged images others taken = none_in others (λ k new is. (was_image images others taken k new is).2.staged)
