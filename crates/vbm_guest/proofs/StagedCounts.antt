-- How many entries are staged in all.
use Rattle.std.proofs.Common.{◌≡◌, ◌≢◌, ℕ, zero, suc, ◌+◌, ◌≤◌, List, [], ◌∷◌, ◌++◌, length, take, slice_get, Some, refl, ap, ◌∙◌, arith}
use Rattle.vbm_image.specs.declared.image.Image.{Image}
use Rattle.vbm_guest.specs.Edited.{ChangesAt, StagesAtMost, IsRoomed}
use Rattle.vbm_guest.specs.Flushing.{staged_in}
use Rattle.vbm_guest.proofs.EditedImages.{changed_to}

-- lists with the same images
same_counts : (xs ys : List Image) → ((k : ℕ) → slice_get ys k ≡ slice_get xs k) → staged_in ys ≡ staged_in xs
same_counts [] [] each = refl
same_counts [] (y ∷ ys) each = let e = each 0 in absurd cc
same_counts (x ∷ xs) [] each = let e = each 0 in absurd cc
same_counts (x ∷ xs) (y ∷ ys) each =
    let first : Some y ≡ Some x = each 0 in
    let same : y ≡ x = cc first in
    let here : length y.pending.staged ≡ length x.pending.staged = ap (λ (z : Image). length z.pending.staged) same in
    omega (arith, here, same_counts xs ys (λ k. each (suc k)))

-- one image differs
pub staged_but_one : (images others : List Image) (at : ℕ) (old new : Image) → ((k : ℕ) → k ≢ at → slice_get others k ≡ slice_get images k)
    → slice_get images at ≡ Some old → slice_get others at ≡ Some new
    → staged_in others + length old.pending.staged ≡ staged_in images + length new.pending.staged
staged_but_one [] others at old new rest is_old is_new = absurd cc
staged_but_one (x ∷ xs) [] at old new rest is_old is_new = absurd cc
staged_but_one (x ∷ xs) (y ∷ ys) zero old new rest is_old is_new =
    let old_is : x ≡ old = cc is_old in
    let new_is : y ≡ new = cc is_new in
    let old_count : length x.pending.staged ≡ length old.pending.staged = ap (λ (z : Image). length z.pending.staged) old_is in
    let new_count : length y.pending.staged ≡ length new.pending.staged = ap (λ (z : Image). length z.pending.staged) new_is in
    omega (arith, old_count, new_count, same_counts xs ys (λ k. rest (suc k) (λ e. absurd (let bad : suc k ≡ 0 = e in omega arith))))
staged_but_one (x ∷ xs) (y ∷ ys) (suc at) old new rest is_old is_new =
    let first : Some y ≡ Some x = rest 0 (λ e. absurd (let bad : 0 ≡ suc at = e in omega arith)) in
    let same : y ≡ x = cc first in
    let here : length y.pending.staged ≡ length x.pending.staged = ap (λ (z : Image). length z.pending.staged) same in
    let later : (k : ℕ) → k ≢ at → slice_get ys k ≡ slice_get xs k =
    (λ k differ. rest (suc k) (λ e. differ (let one : suc k ≡ suc at = e in let two : k ≡ at = omega arith in two))) in
    omega (arith, here, staged_but_one xs ys at old new later is_old is_new)

-- of the edited image at most n blocks were staged
pub staged_more : (n at : ℕ) (images others : List Image) (old : Image) → slice_get images at ≡ Some old
    → ChangesAt (StagesAtMost n) at images others → staged_in others ≤ staged_in images + n
staged_more n at images others old is changes =
    let new = changed_to (StagesAtMost n) at images others changes old is in
    omega (arith, staged_but_one images others at old new.0 changes.rest is new.1, new.2.staged)

pub staged_roomed : (at : ℕ) (images others : List Image) (old : Image) → slice_get images at ≡ Some old → ChangesAt IsRoomed at images others
    → staged_in others ≡ staged_in images
staged_roomed at images others old is changes =
    let new = changed_to IsRoomed at images others changes old is in
    omega (arith, staged_but_one images others at old new.0 changes.rest is new.1, ap length new.2.staged)

pub one_of : (images : List Image) (k : ℕ) (image : Image) → slice_get images k ≡ Some image → length image.pending.staged ≤ staged_in images
one_of [] k image is = absurd cc
one_of (x ∷ xs) zero image is =
    let e : length x.pending.staged ≡ length image.pending.staged = (let same : x ≡ image = cc in ap (λ (z : Image). length z.pending.staged) same) in
    omega (arith, e)
one_of (x ∷ xs) (suc k) image is = omega (arith, one_of xs k image is)

-- ---- in their order

pub take_image : (images : List Image) (i : ℕ) (image : Image) → slice_get images i ≡ Some image → take (i + 1) images ≡ take i images ++ image ∷ []
take_image [] i image is = absurd cc
take_image (x ∷ images) zero image is = let e : x ≡ image = cc in ap (λ (y : Image). y ∷ []) e
take_image (x ∷ images) (suc i) image is =
    let n : suc i + 1 ≡ suc (i + 1) = omega arith in
    ap (λ (k : ℕ). take k (x ∷ images)) n ∙ ap (λ (xs : List Image). x ∷ xs) (take_image images i image is)

pub staged_push : (images : List Image) (image : Image) → staged_in (images ++ image ∷ []) ≡ staged_in images + length image.pending.staged
staged_push [] image = omega arith
staged_push (i ∷ images) image = omega (arith, staged_push images image)

pub staged_first : (images : List Image) (i : ℕ) (image : Image) → slice_get images i ≡ Some image
    → staged_in (take i images) + length image.pending.staged ≤ staged_in images
staged_first [] i image is = absurd cc
staged_first (x ∷ images) zero image is =
    let e : x ≡ image = cc in
    let n : length x.pending.staged ≡ length image.pending.staged = ap (λ (y : Image). length y.pending.staged) e in
    omega (arith, n)
staged_first (x ∷ images) (suc i) image is = omega (arith, staged_first images i image is)
