-- The settling of all staged entries is that of each file.
use Rattle.std.proofs.Common.{◌≡◌, ◌≢◌, ⊎_elim, ℕ, zero, suc, ◌*◌, ◌<◌, ◌≤◌, false, List, [], ◌∷◌, ◌++◌, length, map, take, slice_get, Some, None, bytes_eq, refl, sym, ◌∙◌, ap, arith, length-append}
use Rattle.std.specs.Prelude.{All}
use Rattle.std.proofs.lemmas.List.{append-nil, append_assoc}
use Rattle.vbm_header.specs.declared.Header.{Header}
use Rattle.vbm_intent.specs.Changes.{of_file}
use Rattle.vbm_intent.specs.Plan.{body_size}
use Rattle.vbm_intent.proofs.Applying.{cases_name, of_file-append, of_file_no}
use Rattle.vbm_blockmap.specs.Pending.{Staged}
use Rattle.vbm_image.specs.declared.image.Image.{Image}
use Rattle.vbm_image.specs.Image.{IsInForm}
use Rattle.vbm_image.specs.Settling.{allocated_with, allocated_change, word_change, settling}
use Rattle.vbm_image.proofs.SettlingPlans.{settling_named, settling_size_some, settling_count, body_size-append}
use Rattle.vbm_guest.specs.Edited.{AreNamedApart}
use Rattle.vbm_guest.specs.Flushing.{settling_all, staged_in}

-- the changes of one image
abbrev pub settling_of : Image → List Rattle.vbm_intent.specs.declared.change.Change.Change
settling_of image = settling image.name image.header image.pending.staged

-- ---- the changes of one file

module _ (name other : List ℕ) (h : Header) (differ : bytes_eq name other ≡ false) where
  no_words : (staged : Staged) → of_file other (map (word_change name h) staged) ≡ []
  no_words [] = refl
  no_words (s ∷ staged) = of_file_no other (word_change name h s) (map (word_change name h) staged) differ ∙ no_words staged

  of_other : (staged : Staged) → of_file other (settling name h staged) ≡ []
  of_other [] = refl
  of_other (s ∷ staged) =
      of_file_no other (allocated_change name (allocated_with h.allocated (s ∷ staged))) (map (word_change name h) (s ∷ staged)) differ
      ∙ no_words (s ∷ staged)

-- no image has this name
pub of_nobody : (images : List Image) (name : List ℕ) → ((k : ℕ) (image : Image) → slice_get images k ≡ Some image → image.name ≢ name)
    → of_file name (settling_all images) ≡ []
of_nobody [] name none = refl
of_nobody (i ∷ images) name none =
    of_file-append name (settling_of i) (settling_all images)
    ∙ ap (λ cs. cs ++ of_file name (settling_all images)) (⊎_elim (λ same. absurd (none 0 i refl same.1))
    (λ other. of_other i.name name i.header other.0 i.pending.staged) (cases_name i.name name))
    ∙ of_nobody images name (λ k image is. none (suc k) image is)

tail_apart : (image : Image) (images : List Image) → AreNamedApart (image ∷ images) → AreNamedApart images
tail_apart image images apart i j a b is_a is_b differ =
    apart (suc i) (suc j) a b is_a is_b (λ e. differ (let s : i ≡ j = omega arith in s))

-- an image's own
pub of_image : (images : List Image) (k : ℕ) (image : Image) → AreNamedApart images → slice_get images k ≡ Some image
    → of_file image.name (settling_all images) ≡ settling_of image
of_image [] k image apart is = absurd cc
of_image (i ∷ images) zero image apart is =
    let e : i ≡ image = cc is in
    let rest = of_nobody images image.name (λ k x is_x same.
    apart (suc k) 0 x i is_x refl (λ bad. absurd (let b : suc k ≡ 0 = bad in omega arith)) (same ∙ sym (ap (λ (y : Image). y.name) e))) in
    of_file-append image.name (settling_of i) (settling_all images)
    ∙ ap (λ cs. of_file image.name (settling_of i) ++ cs) rest
    ∙ append-nil (of_file image.name (settling_of i))
    ∙ ap (λ (y : Image). of_file image.name (settling_of y)) e
    ∙ settling_named image.name image.header image.pending.staged
of_image (i ∷ images) (suc k) image apart is =
    of_file-append image.name (settling_of i) (settling_all images)
    ∙ ap (λ cs. cs ++ of_file image.name (settling_all images)) (⊎_elim
    (λ same. absurd (apart 0 (suc k) i image refl is (λ bad. absurd (let b : 0 ≡ suc k = bad in omega arith)) same.1))
    (λ other. of_other i.name image.name i.header other.0 i.pending.staged) (cases_name i.name image.name))
    ∙ of_image images k image (tail_apart i images apart) is

-- ---- one image more

pub all_push : (images : List Image) (image : Image) → settling_all (images ++ image ∷ []) ≡ settling_all images ++ settling_of image
all_push [] image = append-nil (settling_of image)
all_push (i ∷ images) image =
    ap (λ cs. settling_of i ++ cs) (all_push images image) ∙ sym (append_assoc (settling_of i) (settling_all images) (settling_of image))

get_taken : (images : List Image) (i k : ℕ) (x : Image) → slice_get (take i images) k ≡ Some x → (k < i) × (slice_get images k ≡ Some x)
get_taken images zero k x is = let none : slice_get (take zero images) k ≡ None = refl in absurd cc
get_taken [] (suc i) k x is = absurd cc
get_taken (y ∷ images) (suc i) zero x is = (omega arith, is)
get_taken (y ∷ images) (suc i) (suc k) x is = let rest = get_taken images i k x is in (omega (arith, rest.0), rest.1)

pub none_before : (images : List Image) (i : ℕ) (image : Image) → AreNamedApart images → slice_get images i ≡ Some image
    → of_file image.name (settling_all (take i images)) ≡ []
none_before images i image apart is = of_nobody (take i images) image.name (λ k x is_x.
    let got = get_taken images i k x is_x in
    apart k i x image got.1 is (let low = got.0 in λ e. absurd (omega arith)))

-- ---- its size

pub settling_few : (image : Image) → length (settling_of image) ≤ 2 * length image.pending.staged
settling_few image = by image.pending.staged refl
  where
    by : (staged : Staged) → image.pending.staged ≡ staged → length (settling_of image) ≤ 2 * length image.pending.staged
    by [] is = let none : length (settling_of image) ≡ 0 = ap (λ (s : Staged). length (settling image.name image.header s)) is in omega arith
    by (s ∷ staged) is =
        let some : length image.pending.staged ≡ length (s ∷ staged) = ap length is in
        omega (arith, settling_count image.name image.header image.pending.staged)

pub all_few : (images : List Image) → length (settling_all images) ≤ 2 * staged_in images
all_few [] = omega arith
all_few (i ∷ images) = omega (arith, length-append (settling_of i) (settling_all images), settling_few i, all_few images)

-- of the first images
pub first_size : (images : List Image) (n : ℕ) → All IsInForm images → body_size (settling_all (take n images)) ≤ 200 * staged_in (take n images)
first_size images zero form = omega arith
first_size [] (suc n) form = omega arith
first_size (i ∷ images) (suc n) form =
    omega (
      arith,
      body_size-append (settling_of i) (settling_all (take n images)),
      settling_size_some i.name i.header (form 0 i (omega arith)).name i.pending.staged,
      first_size images n (λ k d low. form (suc k) d (omega arith)),
    )
