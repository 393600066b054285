-- Images after a write and after a settling: as many as before, under their names. For callers.
use Rattle.std.proofs.Common.{◌≡◌, ⊎_elim, ℕ, suc, ◌<◌, List, [], ◌∷◌, length, refl, sym, ap, subst, ◌∙◌}
use Rattle.std.specs.Prelude.{All}
use Rattle.vbm_image.specs.declared.image.Image.{Image}
use Rattle.vbm_guest.specs.Edited.{AreNamedApart, StagesAtMost}
use Rattle.vbm_guest.specs.Flushing.{AreTakenAsSettled}
use Rattle.vbm_guest.specs.Writing.{AreWritten}
use Rattle.vbm_guest.proofs.EditedImages.{changes_names}
use Rattle.vbm_guest.proofs.TakenImages.{was_image}

pub taken_count : (images others : List Image) → AreTakenAsSettled images others → length others ≡ length images
taken_count [] [] taken = refl
taken_count [] (y ∷ ys) taken = absurd (taken 0)
taken_count (x ∷ xs) [] taken = absurd (taken 0)
taken_count (x ∷ xs) (y ∷ ys) taken = ap suc (taken_count xs ys (λ k. taken (suc k)))

pub taken_names : (images others : List Image) → AreTakenAsSettled images others → AreNamedApart images → AreNamedApart others
taken_names images others taken apart i j a b at_a at_b differ e =
    let a_was = was_image images others taken i a at_a in
    let b_was = was_image images others taken j b at_b in
    apart i j a_was.0 b_was.0 a_was.1 b_was.1 differ (sym a_was.2.name ∙ e ∙ b_was.2.name)

module _ (at : ℕ) (images others : List Image) (written : AreWritten at images others) where
  pub written_count : length others ≡ length images
  written_count = ⊎_elim (λ same. ap length same) (λ taken. taken_count written.between others taken) written.taken ∙ written.edited.count

  pub written_names : AreNamedApart images → AreNamedApart others
  written_names apart =
      let between = changes_names (StagesAtMost 2) at images written.between written.edited (λ old new stages. stages.name) apart in
      ⊎_elim (λ same. subst AreNamedApart (sym same) between) (λ taken. taken_names written.between others taken between) written.taken

  pub written_chain : (chain : List ℕ) → All (λ k. k < length images) chain → All (λ k. k < length others) chain
  written_chain chain all = subst (λ (n : ℕ). All (λ k. k < n) chain) (sym written_count) all
