-- The runs of a line.
use Rattle.std.proofs.Common.{◌≡◌, ◌≢◌, ◌<◌, get_or, ℕ, suc, Bool, true, false, List, [], ◌∷◌, length, take, drop, refl, ap, sym, subst, ◌∙◌, arith, inl, inr}
use Rattle.std.specs.Prelude.{not, if◌then◌else◌}
use Rattle.std.proofs.Math.Seq.{drop-cons}
use Rattle.std.proofs.lemmas.List.{length-drop}
use Rattle.std.proofs.lemmas.List.Sums.{prefix_len_stops}
use Rattle.std.specs.List.{prefix_len}
use Rattle.std.proofs.lemmas.Bool.{cases_Bool}
use Rattle.vbm_lines.specs.Lines.{Words, is_blank, words_in, before_first}

-- not a blank
abbrev pub is_other : ℕ → Bool
is_other b = not (is_blank b)

longer : (p : ℕ → Bool) (b : ℕ) (bytes : List ℕ) → p b ≡ true → prefix_len p (b ∷ bytes) ≡ suc (prefix_len p bytes)
longer p b bytes e = rw e (omega arith)

ended : (p : ℕ → Bool) (b : ℕ) (bytes : List ℕ) → p b ≡ false → prefix_len p (b ∷ bytes) ≡ 0
ended p b bytes e = rw e refl

alone : (b : ℕ) (blank next : Bool) (words : Words) → blank ≡ false → next ≡ true
    → (if blank then words else if next then (b ∷ []) ∷ words else before_first b words) ≡ (b ∷ []) ∷ words
alone b blank next words e f = rw (e, f) refl

joined : (b : ℕ) (blank next : Bool) (words : Words) → blank ≡ false → next ≡ false
    → (if blank then words else if next then (b ∷ []) ∷ words else before_first b words) ≡ before_first b words
joined b blank next words e f = rw (e, f) refl

-- blanks at the front make no words
pub words_in-blanks : (line : List ℕ) → words_in line ≡ words_in (drop (prefix_len is_blank line) line)
words_in-blanks [] = refl
words_in-blanks (b ∷ bytes) = elim (cases_Bool (is_blank b)) [
  | inl blank ↦
      subst (λ (n : ℕ). words_in (b ∷ bytes) ≡ words_in (drop n (b ∷ bytes))) (sym (longer is_blank b bytes blank))
      (rw blank (words_in-blanks bytes))
  | inr other ↦ subst (λ (n : ℕ). words_in (b ∷ bytes) ≡ words_in (drop n (b ∷ bytes))) (sym (ended is_blank b bytes other)) refl
]

-- the first n bytes are a word
abbrev IsWord : List ℕ → ℕ → Type 0
IsWord line n = words_in line ≡ take n line ∷ words_in (drop n line)

-- a line that begins with no blank begins with a word
pub words_in-word : (b : ℕ) (bytes : List ℕ) → is_blank b ≡ false → IsWord (b ∷ bytes) (prefix_len is_other (b ∷ bytes))
words_in-word b [] other = rw other refl
words_in-word b (c ∷ bytes) other =
    let n = longer is_other b (c ∷ bytes) (ap not other) in
    elim (cases_Bool (is_blank c)) [
      | inl blank ↦
          subst (IsWord (b ∷ c ∷ bytes)) (sym (n ∙ ap (λ k. suc k) (ended is_other c bytes (ap not blank))))
          (alone b (is_blank b) (is_blank c) (words_in (c ∷ bytes)) other blank)
      | inr more ↦
          subst (IsWord (b ∷ c ∷ bytes)) (sym n)
          (joined b (is_blank b) (is_blank c) (words_in (c ∷ bytes)) other more ∙ ap (before_first b) (words_in-word c bytes more))
    ]

-- no words, where only blanks stand in a line
pub no_words : (line rest : List ℕ) → rest ≡ drop (prefix_len is_blank line) line → length rest ≡ 0 → words_in line ≡ []
no_words line [] e none = words_in-blanks line ∙ ap words_in (sym e)
no_words line (b ∷ rest) e none = absurd (omega arith)

-- the first word, behind the blanks
pub one_word : (line rest : List ℕ) → rest ≡ drop (prefix_len is_blank line) line → length rest ≢ 0
    → words_in line ≡ take (prefix_len is_other rest) rest ∷ words_in (drop (prefix_len is_other rest) rest)
one_word line [] e some = absurd (omega arith)
one_word line (b ∷ rest) e some =
    let inside : prefix_len is_blank line < length line = omega (arith, length-drop (prefix_len is_blank line) line, ap length e) in
    let cut = drop-cons line (prefix_len is_blank line) 0 inside in
    let first : get_or line (prefix_len is_blank line) 0 ≡ b = cc in
    let other = subst (λ (x : ℕ). is_blank x ≡ false) first (prefix_len_stops is_blank line 0 inside) in
    words_in-blanks line ∙ ap words_in (sym e) ∙ words_in-word b rest other
