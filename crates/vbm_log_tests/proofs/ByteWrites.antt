-- Writes of one byte each, at rising places of one file.
use Rattle.std.proofs.Common.{◌≡◌, inl, inr, ℕ, zero, suc, ◌+◌, ◌*◌, ◌%◌, ◌<◌, ◌≤◌, ◌^◌, List, [], ◌∷◌, ◌++◌, length, Option}
use Rattle.std.proofs.Common.{Bool, true, false, cond, refl, sym, ◌∙◌, ap, subst, arith}
use Rattle.std.specs.Prelude.{codes}
use Rattle.std.specs.Str.{bytes_eq}
use Rattle.vbm_ports.specs.Files.{bytes_of}
use Rattle.vbm_memdisk.specs.Laws.{length-put}
use Rattle.vbm_intent.specs.declared.change.Change.{Change}
use Rattle.vbm_intent.specs.Changes.{name_of, of_file, effect, TouchesByte, ApartFrom, IsApart, FitsFile}
use Rattle.vbm_intent.specs.Plan.{body_size, text_size}
use Rattle.vbm_log_tests.specs.Plans.{a_byte, a_bytes, FitsAll}

pub count : (at n : ℕ) → length (a_bytes at n) ≡ n
count at zero = refl
count at (suc n) = ap suc (count (suc at) n)

pub body : (at n : ℕ) → body_size (a_bytes at n) ≡ 20 * n
body at zero = refl
body at (suc n) = omega (arith, body (suc at) n)

one_more : (at n k : ℕ) → k ≡ at + n → a_bytes at n ++ a_byte k ∷ [] ≡ a_bytes at (suc n)
one_more at zero k is = let same : k ≡ at = omega (arith, is) in ap (λ (j : ℕ). a_byte j ∷ []) same
one_more at (suc n) k is = ap (λ (l : List Change). a_byte at ∷ l) (one_more (suc at) n k (omega (arith, is)))

of_bytes : (name : List ℕ) (at n : ℕ) (b : Bool) → bytes_eq (codes "a.vdi") name ≡ b → of_file name (a_bytes at n) ≡ cond b (a_bytes at n) []
of_bytes name at zero true is = refl
of_bytes name at zero false is = refl
of_bytes name at (suc n) true is =
    (λ i. cond (is i) (a_byte at ∷ of_file name (a_bytes (suc at) n)) (of_file name (a_bytes (suc at) n)))
    ∙ ap (λ (l : List Change). a_byte at ∷ l) (of_bytes name (suc at) n true is)
of_bytes name at (suc n) false is =
    (λ i. cond (is i) (a_byte at ∷ of_file name (a_bytes (suc at) n)) (of_file name (a_bytes (suc at) n))) ∙ of_bytes name (suc at) n false is

its_place : (at i : ℕ) → TouchesByte (a_byte at) i → i ≡ at
its_place at i (inl w) = omega (arith, w.low, w.high)
its_place at i (inr t) = absurd t

apart_from : (at from n : ℕ) → at < from → ApartFrom (a_byte at) (a_bytes from n)
apart_from at from zero less = tt
apart_from at from (suc n) less = (
  λ i t u. absurd (omega (arith, less, its_place at i t, its_place from i u)),
  apart_from at (suc from) n (omega (arith, less)),
)

apart : (at n : ℕ) → IsApart (a_bytes at n)
apart at zero = tt
apart at (suc n) = (apart_from at (suc at) n (omega arith), apart (suc at) n)

-- one more of them, behind n
module _ (cs : List Change) (c : Change) (n : ℕ) (are : cs ≡ a_bytes 0 n) (is : c ≡ a_byte n) where
  pub next_is : cs ++ c ∷ [] ≡ a_bytes 0 (n + 1)
  next_is =
      let same : suc n ≡ n + 1 = omega arith in
      (λ i. are i ++ is i ∷ []) ∙ one_more 0 n n (omega arith) ∙ ap (λ (k : ℕ). a_bytes 0 k) same

  pub next_apart : IsApart (of_file (name_of c) (cs ++ c ∷ []))
  next_apart = subst IsApart (sym all) (apart 0 (n + 1))
    where
      all : of_file (name_of c) (cs ++ c ∷ []) ≡ a_bytes 0 (n + 1)
      all = (λ i. of_file (name_of (is i)) (next_is i)) ∙ of_bytes (codes "a.vdi") 0 (n + 1) true refl

  pub next_small : n < 2 ^ 16 → body_size cs + text_size c ≤ 2 ^ 25
  next_small few = omega (arith, few, ap body_size are, body 0 n, ap text_size is)

fits_file : (at n : ℕ) (file : Option (List ℕ)) → at ≤ length (bytes_of file) → FitsFile (a_bytes at n) file
fits_file at zero file within = tt
fits_file at (suc n) file within = (
  within,
  fits_file (suc at) n (effect (a_byte at) file) (omega (arith, within, length-put at (at % 251 ∷ []) (bytes_of file))),
)

pub fits : (cs : List Change) (n : ℕ) → cs ≡ a_bytes 0 n → FitsAll cs
fits cs n are files name = subst (λ (l : List Change). FitsFile l (files name)) (sym all) (either (bytes_eq (codes "a.vdi") name))
  where
    all : of_file name cs ≡ cond (bytes_eq (codes "a.vdi") name) (a_bytes 0 n) []
    all = ap (λ (l : List Change). of_file name l) are ∙ of_bytes name 0 n (bytes_eq (codes "a.vdi") name) refl

    either : (b : Bool) → FitsFile (cond b (a_bytes 0 n) []) (files name)
    either true = fits_file 0 n (files name) (omega arith)
    either false = tt
