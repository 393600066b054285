-- Lists of images, of which one is edited.
use Rattle.std.proofs.Common.{◌≡◌, ◌≢◌, ℕ, zero, suc, ◌+◌, ◌-◌, ◌<◌, ◌≤◌, List, [], ◌∷◌, length, get_or, set, slice_get, Some, inl, inr, refl, sym, ap, subst, ◌∙◌, arith}
use Rattle.std.specs.Prelude.{All}
use Rattle.std.proofs.lemmas.List.{length-set}
use Rattle.std.proofs.lemmas.List.Elements.{All-get_or}
use Rattle.std.proofs.lemmas.Bool.Decides.{eqb_tells}
use Rattle.std.proofs.lemmas.Option.{slice_get_within, slice_get-get_or}
use Rattle.vbm_image.specs.declared.image.Image.{Image}
use Rattle.vbm_guest.specs.Runs.{last_of, EndsOnce}
use Rattle.vbm_guest.specs.Edited.{AreNamedApart, ChangesAt, StagesAtMost, TakesAtMost, IsRoomed}

pub get-set_same : (xs : List Image) (i : ℕ) (x : Image) → i < length xs → slice_get (set xs i x) i ≡ Some x
get-set_same [] i x inside = absurd (omega arith)
get-set_same (y ∷ ys) zero x inside = refl
get-set_same (y ∷ ys) (suc i) x inside = get-set_same ys i x (omega arith)

pub get-set_other : (xs : List Image) (i k : ℕ) (x : Image) → k ≢ i → slice_get (set xs i x) k ≡ slice_get xs k
get-set_other [] i k x differ = refl
get-set_other (y ∷ ys) zero zero x differ = absurd (differ refl)
get-set_other (y ∷ ys) zero (suc k) x differ = refl
get-set_other (y ∷ ys) (suc i) zero x differ = refl
get-set_other (y ∷ ys) (suc i) (suc k) x differ = get-set_other ys i k x (λ e. differ (ap suc e))

pub all_from : (P : Image → Type 0) (images : List Image) → ((k : ℕ) (image : Image) → slice_get images k ≡ Some image → P image) → All P images
all_from P images each k d inside = each k (get_or images k d) (slice_get-get_or images k d inside)

pub last_in : (images : List Image) (chain : List ℕ) → All (λ k. k < length images) chain → EndsOnce chain → last_of chain < length images
last_in images chain all ends =
    All-get_or (λ k. k < length images) chain (length chain - 1) 0 (let some = ends.some in omega arith) all

pub image_at : (images : List Image) (k : ℕ) → k < length images → (image : Image) × (slice_get images k ≡ Some image)
image_at [] k inside = absurd (omega arith)
image_at (x ∷ xs) zero inside = (x, refl)
image_at (x ∷ xs) (suc k) inside = image_at xs k (omega arith)

pub same_image : (images : List Image) (k : ℕ) (a b : Image) → slice_get images k ≡ Some a → slice_get images k ≡ Some b → a ≡ b
same_image images k a b at_a at_b = (let both : Some a ≡ Some b = sym at_a ∙ at_b in cc both)

-- ---- edits

pub changes_refl : (P : Image → Image → Type 0) (at : ℕ) (images : List Image) → ((x : Image) → P x x) → ChangesAt P at images images
changes_refl P at images same = record {
  count = refl;
  rest = λ k differ. refl;
  here = λ old new is_old is_new. subst (P old) (same_image images at old new is_old is_new) (same old);
}

pub changes_set : (P : Image → Image → Type 0) (at : ℕ) (images : List Image) (old new : Image) → slice_get images at ≡ Some old → P old new
    → ChangesAt P at images (set images at new)
changes_set P at images old new is holds =
    let inside : at < length images = slice_get_within images at old is in
    record {
      count = length-set images at new;
      rest = λ k differ. get-set_other images at k new differ;
      here = λ x y at_x at_y.
          subst (λ (z : Image). P z y) (same_image images at old x is at_x)
          (subst (λ (z : Image). P old z) (same_image (set images at new) at new y (get-set_same images at new inside) at_y) holds);
    }

module _ (P : Image → Image → Type 0) (at : ℕ) (images others : List Image) (changes : ChangesAt P at images others) where
  -- what the edited image became, and what it was
  pub changed_to : (old : Image) → slice_get images at ≡ Some old → (new : Image) × (slice_get others at ≡ Some new) × P old new
  changed_to old is =
      let same = changes.count in
      let inside = slice_get_within images at old is in
      let found = image_at others at (omega arith) in
      (found.0, found.1, changes.here old found.0 is found.1)

  pub changed_from : (new : Image) → slice_get others at ≡ Some new → (old : Image) × (slice_get images at ≡ Some old) × P old new
  changed_from new is =
      let same = changes.count in
      let inside = slice_get_within others at new is in
      let found = image_at images at (omega arith) in
      (found.0, found.1, changes.here found.0 new found.1 is)

  pub changes_all : (Q : Image → Type 0) → ((k : ℕ) (image : Image) → k ≢ at → slice_get images k ≡ Some image → Q image)
      → ((new : Image) → slice_get others at ≡ Some new → Q new) → All Q others
  changes_all Q all here = all_from Q others (λ k image is. elim (eqb_tells k at) [
    | inl same ↦ here image (ap (slice_get others) (sym same.1) ∙ is)
    | inr apart ↦ all k image apart.1 (sym (changes.rest k apart.1) ∙ is)
  ])

  pub changes_chain : (chain : List ℕ) → All (λ k. k < length images) chain → All (λ k. k < length others) chain
  changes_chain chain all = subst (λ (n : ℕ). All (λ k. k < n) chain) (sym changes.count) all

  name_from : ((old new : Image) → P old new → new.name ≡ old.name) → (k : ℕ) (image : Image) → slice_get others k ≡ Some image
      → (was : Image) × (slice_get images k ≡ Some was) × (image.name ≡ was.name)
  name_from names k image is = elim (eqb_tells k at) [
    | inl same ↦
        let found = changed_from image (ap (slice_get others) (sym same.1) ∙ is) in
        (found.0, ap (slice_get images) same.1 ∙ found.1, names found.0 image found.2)
    | inr apart ↦ (image, sym (changes.rest k apart.1) ∙ is, refl)
  ]

  pub changes_names : ((old new : Image) → P old new → new.name ≡ old.name) → AreNamedApart images → AreNamedApart others
  changes_names names apart i j a b at_a at_b differ e =
      let a_was = name_from names i a at_a in
      let b_was = name_from names j b at_b in
      apart i j a_was.0 b_was.0 a_was.1 b_was.1 differ (sym a_was.2 ∙ e ∙ b_was.2)

pub changes_weaker : (P Q : Image → Image → Type 0) (at : ℕ) (images others : List Image) → ((x y : Image) → P x y → Q x y)
    → ChangesAt P at images others → ChangesAt Q at images others
changes_weaker P Q at images others weaker changes = record {
  count = changes.count;
  rest = changes.rest;
  here = λ old new is_old is_new. weaker old new (changes.here old new is_old is_new);
}

pub changes_trans : (P Q R : Image → Image → Type 0) (at : ℕ) (images between others : List Image)
    → ((x y z : Image) → P x y → Q y z → R x z) → ChangesAt P at images between → ChangesAt Q at between others → ChangesAt R at images others
changes_trans P Q R at images between others both one two = record {
  count = two.count ∙ one.count;
  rest = λ k differ. two.rest k differ ∙ one.rest k differ;
  here = λ old new is_old is_new.
      let mid = changed_to P at images between one old is_old in
      both old mid.0 new mid.2 (two.here mid.0 new mid.1 is_new);
}

-- ---- images of which blocks are staged

pub stages_more : (m n : ℕ) (old new : Image) → m ≤ n → StagesAtMost m old new → StagesAtMost n old new
stages_more m n old new le stages = record { name = stages.name; header = stages.header; staged = omega (arith, stages.staged) }

pub stages_trans : (m n : ℕ) (a b d : Image) → StagesAtMost m a b → StagesAtMost n b d → StagesAtMost (m + n) a d
stages_trans m n a b d one two = record {
  name = two.name ∙ one.name;
  header = two.header ∙ one.header;
  staged = omega (arith, one.staged, two.staged);
}

pub takes_none : (n : ℕ) (image : Image) → TakesAtMost n image image
takes_none n image =
    record { stages = record { name = refl; header = refl; staged = omega arith }; spare = omega arith; left = omega arith }

pub stages_roomed : (n : ℕ) (a b d : Image) → IsRoomed a b → StagesAtMost n b d → StagesAtMost n a d
stages_roomed n a b d roomed stages = record {
  name = stages.name ∙ roomed.name;
  header = stages.header ∙ roomed.header;
  staged = omega (arith, stages.staged, ap length roomed.staged);
}

pub roomed_stages : (n : ℕ) (old new : Image) → IsRoomed old new → StagesAtMost n old new
roomed_stages n old new roomed = record { name = roomed.name; header = roomed.header; staged = omega (arith, ap length roomed.staged) }
