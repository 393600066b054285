-- The words of a block map, read piece by piece.
use Rattle.std.proofs.Common.{◌≡◌, ℕ, zero, suc, ◌+◌, ◌*◌, ◌<◌, List, [], ◌∷◌, ◌++◌, refl, sym, ap, ◌∙◌, arith, add-one, add-zero}
use Rattle.std.proofs.lemmas.List.{append_assoc, append-nil}
use Rattle.std.proofs.lemmas.List.Elements.{filter-append}
use Rattle.vbm_header.specs.Field.{number_at}
use Rattle.std.specs.List.{filter}
use Rattle.vbm_volume.specs.Image.{words_at, is_position}

pub words_at-zero : (f : List ℕ) (at : ℕ) → words_at f at 0 ≡ []
unfolding words_at
words_at-zero f at = refl

pub words_at-one_more : (f : List ℕ) (at n : ℕ) → words_at f at (n + 1) ≡ words_at f at n ++ number_at f (at + 4 * n) 4 ∷ []
unfolding words_at
words_at-one_more f at n = rw add-one refl

pub words_at-add : (f : List ℕ) (at m n : ℕ) → words_at f at (m + n) ≡ words_at f at m ++ words_at f (at + 4 * m) n
unfolding words_at
words_at-add f at m zero = rw (add-zero, append-nil) refl
words_at-add f at m (suc n) =
    let places : at + 4 * m + 4 * n ≡ at + 4 * (m + n) = omega arith in
    let sum : m + suc n ≡ suc (m + n) = omega arith in
    rw (sum, words_at-add f at m n, places, append_assoc) refl

-- words are the same where their fields are
pub words_at-same : (xs ys : List ℕ) (x y n : ℕ) → ((k : ℕ) → k < n → number_at xs (x + 4 * k) 4 ≡ number_at ys (y + 4 * k) 4)
    → words_at xs x n ≡ words_at ys y n
unfolding words_at
words_at-same xs ys x y zero same = refl
words_at-same xs ys x y (suc n) same =
    rw (words_at-same xs ys x y n (λ k lt. same k (omega arith)), same n (omega arith)) refl

-- the positions among more words
pub positions-add : (ps f : List ℕ) (at m n : ℕ)
    → (ps ++ filter is_position (words_at f at m)) ++ filter is_position (words_at f (at + 4 * m) n) ≡ ps ++ filter is_position (words_at f at (m + n))
positions-add ps f at m n =
    append_assoc ps (filter is_position (words_at f at m)) (filter is_position (words_at f (at + 4 * m) n))
    ∙ ap (λ xs. ps ++ xs) (sym (filter-append is_position (words_at f at m) (words_at f (at + 4 * m) n)))
    ∙ ap (λ ws. ps ++ filter is_position ws) (sym (words_at-add f at m n))
