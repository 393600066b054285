-- The words of staged entries, and the lists of these.
use Rattle.std.proofs.Common.{◌≡◌, ◌≢◌, ℕ, ◌+◌, ◌<◌, ◌≤◌, true, List, [], ◌∷◌, ◌++◌, length, Option, Some, None, Ok, refl, sym, ◌∙◌, ap, arith, inl, inr}
use Rattle.std.proofs.Common.{◌⊎◌, zero, suc, slice_get, subst}
use Rattle.std.specs.Prelude.{◌==◌, unwrap_or}
use Rattle.std.proofs.lemmas.Bool.{cases_Bool, ltb-true}
use Rattle.std.proofs.lemmas.Bool.Decides.{eqb_tells}
use Rattle.vbm_header.specs.declared.Header.{Header}
use Rattle.vbm_volume.specs.Image.{image_of, word_of, is_position, data_at}
use Rattle.vbm_volume.proofs.Blocks.{words_once}
use Rattle.vbm_volume.proofs.Sectors.{data_within}
use Rattle.vbm_blockmap.specs.Pending.{Staged, position_in}
use Rattle.vbm_blockmap.specs.declared.used.TheConstants.{POSITION_LIMIT}
use Rattle.vbm_image.specs.Image.{staged_word, HasEachOnce, AreStagedIn, FitStaged}

-- ---- one word, staged or not

module _ (f : List ℕ) (h : Header) (staged : Staged) (e : image_of f ≡ Ok h) (fits : FitStaged h staged f) where
  -- no two blocks have one position
  pub staged_once : (a b : ℕ) → a < h.blocks → b < h.blocks → is_position (staged_word f h staged a) ≡ true
      → staged_word f h staged a ≡ staged_word f h staged b → a ≡ b
  staged_once a b lt_a lt_b is same = by (position_in staged a) (position_in staged b) refl refl is same
    where
      by : (x y : Option ℕ) → position_in staged a ≡ x → position_in staged b ≡ y → is_position (unwrap_or x (word_of f h a)) ≡ true
          → unwrap_or x (word_of f h a) ≡ unwrap_or y (word_of f h b) → a ≡ b
      by None None at_a at_b is same = words_once f h e a b lt_a lt_b is same
      by None (Some q) at_a at_b is same = absurd (fits.unused b q a at_b lt_a same)
      by (Some p) None at_a at_b is same = absurd (fits.unused a p b at_a lt_b (sym same))
      by (Some p) (Some q) at_a at_b is same = fits.apart a b p at_a (at_b ∙ ap Some (sym same))

  -- the data of each position lies in the file
  pub staged_within : (b : ℕ) → b < h.blocks → is_position (staged_word f h staged b) ≡ true
      → data_at h (staged_word f h staged b + 1) ≤ length f
  staged_within b lt is = by (position_in staged b) refl is
    where
      by : (o : Option ℕ) → position_in staged b ≡ o → is_position (unwrap_or o (word_of f h b)) ≡ true
          → data_at h (unwrap_or o (word_of f h b) + 1) ≤ length f
      by None at is = data_within f h b e lt (ltb-true _ _ is)
      by (Some p) at is = fits.reach b p at

-- ---- look-ups

pub found_first : (s : ℕ × ℕ) (staged : Staged) → position_in (s ∷ staged) s.0 ≡ Some s.1
found_first s staged = elim (eqb_tells s.0 s.0) [ inl same ↦ rw same.0 refl | inr apart ↦ absurd (apart.1 refl) ]

pub found_later : (s : ℕ × ℕ) (staged : Staged) (b p : ℕ) → position_in staged s.0 ≡ None → position_in staged b ≡ Some p
    → position_in (s ∷ staged) b ≡ Some p
found_later s staged b p none is = elim (eqb_tells b s.0) [
  | inl same ↦ let e : Some p ≡ None = sym is ∙ ap (position_in staged) same.1 ∙ none in absurd cc
  | inr apart ↦ rw apart.0 is
]

-- a staged entry by its place in the list
pub found_at : (staged : Staged) (i : ℕ) (s : ℕ × ℕ) → HasEachOnce staged → slice_get staged i ≡ Some s
    → position_in staged s.0 ≡ Some s.1
found_at [] i s once is = absurd cc
found_at (t ∷ staged) zero s once is =
    let e : t ≡ s = cc in
    subst (λ (x : ℕ × ℕ). position_in (t ∷ staged) x.0 ≡ Some x.1) e (found_first t staged)
found_at (t ∷ staged) (suc i) s once is = found_later t staged s.0 s.1 once.0 (found_at staged i s once.1 is)

-- and its place
pub place_of : (staged : Staged) (b p : ℕ) → position_in staged b ≡ Some p
    → (k : ℕ) × (s : ℕ × ℕ) × (k < length staged) × (slice_get staged k ≡ Some s) × (s.1 ≡ p)
place_of [] b p is = absurd cc
place_of (t ∷ staged) b p is = elim (eqb_tells b t.0) [
  | inl same ↦ (0, t, omega arith, refl, (let both : Some t.1 ≡ Some p = sym (rw same.0 refl) ∙ is in cc both))
  | inr apart ↦
      let later = place_of staged b p (rw apart.0 at is) in
      (suc later.0, later.1, omega (arith, later.2), later.3, later.4)
]

-- ---- one entry more

pub pushed : (staged : Staged) (block at b p : ℕ) → position_in (staged ++ (block, at) ∷ []) b ≡ Some p
    → (position_in staged b ≡ Some p) ⊎ ((b ≡ block) × (at ≡ p))
pushed [] block at b p is = elim (eqb_tells b block) [
  | inl same ↦ inr (same.1, (let e : Some at ≡ Some p = sym (rw same.0 refl) ∙ is in cc e))
  | inr apart ↦ inl (rw apart.0 at is)
]
pushed (s ∷ staged) block at b p is = elim (cases_Bool (b == s.0)) [
  | inl here ↦ inl (rw here (rw here at is))
  | inr other ↦ rw other (pushed staged block at b p (rw other at is))
]

pub pushed_none : (staged : Staged) (block at b : ℕ) → position_in staged b ≡ None → b ≢ block
    → position_in (staged ++ (block, at) ∷ []) b ≡ None
pushed_none [] block at b is differ = elim (eqb_tells b block) [
  | inl same ↦ absurd (differ same.1)
  | inr apart ↦ rw apart.0 refl
]
pushed_none (s ∷ staged) block at b is differ = elim (cases_Bool (b == s.0)) [
  | inl here ↦ let e : Some s.1 ≡ None = sym (rw here refl) ∙ is in absurd cc
  | inr other ↦ rw other (pushed_none staged block at b (rw other at is) differ)
]

pushed_once : (staged : Staged) (block at : ℕ) → HasEachOnce staged → position_in staged block ≡ None
    → HasEachOnce (staged ++ (block, at) ∷ [])
pushed_once [] block at once none = (refl, tt)
pushed_once (s ∷ staged) block at once none = elim (eqb_tells block s.0) [
  | inl same ↦ let e : Some s.1 ≡ None = sym (rw same.0 refl) ∙ none in absurd cc
  | inr other ↦
      (pushed_none staged block at s.0 once.0 (λ e. other.1 (sym e)), pushed_once staged block at once.1 (rw other.0 at none))
]

pub pushed_form : (h : Header) (staged : Staged) (block at : ℕ) → AreStagedIn h staged → position_in staged block ≡ None
    → block < h.blocks → at < POSITION_LIMIT → AreStagedIn h (staged ++ (block, at) ∷ [])
pushed_form h staged block at form none inside low = record {
  once = pushed_once staged block at form.once none;
  block = λ b p is. elim (pushed staged block at b p is) [
    | inl old ↦ form.block b p old
    | inr new ↦ omega (arith, new.0)
  ];
  low = λ b p is. elim (pushed staged block at b p is) [
    | inl old ↦ form.low b p old
    | inr new ↦ omega (arith, new.1)
  ];
}
