-- The bytes of a window, and the first newline among them.
use Rattle.std.proofs.Common.{◌≡◌, ℕ, zero, suc, ◌+◌, ◌-◌, ◌<◌, ◌≤◌, true, false, List, [], ◌∷◌, ◌++◌, append_assoc, length, take, drop, get_or, Some, None, Result, Ok, Err, inl, inr, refl, sym, ap, ◌∙◌, arith, length-take, length-drop}
use Rattle.std.specs.Result.{OnErr, is_err}
use Rattle.std.specs.List.{list_any, position, position_or_len}
use Rattle.std.proofs.Math.Seq.{take-add}
use Rattle.std.proofs.lemmas.Bool.{eqb-true, or_from, cases_lt, cond-true, lt-ltb}
use Rattle.std.proofs.lemmas.List.{take-append-drop, drop_more, drop-append-le, drop-drop, take-take, take_all}
use Rattle.std.proofs.lemmas.List.Sums.{fails_before_first}
use Rattle.std.proofs.lemmas.List.Quantifiers.{position-Some}
use Rattle.std.proofs.lemmas.Slice.{between_is}
use Rattle.vbm_lines.specs.Lines.{is_newline, HasNoNewline}
use Rattle.vbm_lines.specs.Window.{IsFirstNewline}
use Rattle.vbm_lines.proofs.Splits.{no_newline-append}

-- the window when the part behind it changes
module _ (start end : ℕ) (old new : List ℕ) (order : start ≤ end) where
  pub window-kept : take end new ≡ take end old → take (end - start) (drop start new) ≡ take (end - start) (drop start old)
  window-kept same = between_is new start end ∙ ap (drop start) same ∙ sym (between_is old start end)

  pub window-more : (n : ℕ) (more : List ℕ) → end ≤ length old → take (end + n) new ≡ take end old ++ more
      → take (end + n - start) (drop start new) ≡ take (end - start) (drop start old) ++ more
  window-more n more within filled =
      let whole : length (take end old) ≡ end = omega (arith, length-take end old) in
      between_is new start (end + n) ∙ ap (drop start) filled ∙ drop-append-le start (take end old) more (omega (arith, whole))
      ∙ ap (λ xs. xs ++ more) (sym (between_is old start end))

  pub window-begins : (n : ℕ) → take end new ≡ take end old
      → take (end - start) (take (end + n - start) (drop start new)) ≡ take (end - start) (drop start old)
  window-begins n same = take-take (end - start) (end + n - start) (drop start new) (omega arith) ∙ window-kept same

-- no newline in front of a place
none_below : (bytes : List ℕ) (i : ℕ) → ((k : ℕ) → k < i → is_newline (get_or bytes k 0) ≡ false) → HasNoNewline (take i bytes)
none_below bytes zero each = refl
none_below [] (suc i) each = refl
none_below (b ∷ bytes) (suc i) each =
    or_from (is_newline b) (list_any is_newline (take i bytes)) (each 0 (omega arith)) (none_below bytes i (λ k h. each (suc k) (omega arith)))

first_place : (bytes : List ℕ) (i : ℕ) → position is_newline bytes ≡ Some i → IsFirstNewline bytes i
first_place bytes i is =
    let found = position-Some is_newline bytes i 0 is in
    record {
      within = found.0;
      split = sym (take-append-drop i bytes)
          ∙ ap (λ xs. take i bytes ++ xs) (drop_more bytes i 0 found.0 ∙ ap (λ b. b ∷ drop (i + 1) bytes) (eqb-true _ _ found.1));
      first = none_below bytes i found.2;
    }

no_place : (bytes : List ℕ) → position is_newline bytes ≡ None → HasNoNewline bytes
no_place bytes is = ap (list_any is_newline) (sym (take_all (length bytes) bytes (omega arith))) ∙ none_below bytes (length bytes) each
  where
    past : length bytes ≤ position_or_len is_newline bytes
    past = elim (cases_lt (position_or_len is_newline bytes) (length bytes)) [
      | inl within ↦
          let found : position is_newline bytes ≡ Some (position_or_len is_newline bytes) = cond-true _ _ _ (lt-ltb _ _ within) in
          absurd (cc (found, is))
      | inr beyond ↦ beyond
    ]

    each : (k : ℕ) → k < length bytes → is_newline (get_or bytes k 0) ≡ false
    each k h = fails_before_first is_newline bytes k 0 (omega (arith, past))

-- a search that goes on where the last one ended
pub searched-none : (bytes : List ℕ) (from : ℕ) → HasNoNewline (take from bytes) → position is_newline (drop from bytes) ≡ None → HasNoNewline bytes
searched-none bytes from before is =
    sym (ap (list_any is_newline) (take-append-drop from bytes))
    ∙ no_newline-append (take from bytes) (drop from bytes) before (no_place (drop from bytes) is)

pub searched-some : (bytes : List ℕ) (from i : ℕ) → HasNoNewline (take from bytes) → position is_newline (drop from bytes) ≡ Some i
    → IsFirstNewline bytes (from + i)
searched-some bytes from i before is =
    let found = first_place (drop from bytes) i is in
    let long : from + i < length bytes = omega (arith, found.within, length-drop from bytes) in
    let front : take (from + i) bytes ≡ take from bytes ++ take i (drop from bytes) = take-add from i bytes in
    record {
      within = long;
      split = sym (take-append-drop from bytes) ∙ ap (λ xs. take from bytes ++ xs) found.split
          ∙ sym (append_assoc (take from bytes) (take i (drop from bytes)) (10 ∷ drop (i + 1) (drop from bytes)))
          ∙ ap (λ xs. xs ++ 10 ∷ drop (i + 1) (drop from bytes)) (sym front)
          ∙ ap (λ xs. take (from + i) bytes ++ 10 ∷ xs)
          (drop-drop (i + 1) from bytes ∙ ap (λ k. drop k bytes) (let e : from + (i + 1) ≡ from + i + 1 = omega arith in e));
      first = ap (list_any is_newline) front ∙ no_newline-append (take from bytes) (take i (drop from bytes)) before found.first;
    }

-- bytes that are let go at the front
pub window-behind : (start end n : ℕ) (room : List ℕ)
    → take (end - (start + n)) (drop (start + n) room) ≡ drop n (take (end - start) (drop start room))
window-behind start end n room =
    between_is room (start + n) end ∙ sym (drop-drop n start (take end room)) ∙ ap (drop n) (sym (between_is room start end))

pub always_on_err : {T E P : Type 0} → (r : Result T E) → P → OnErr r P
always_on_err (Ok x) p = tt
always_on_err (Err e) p = p

pub from_on_err : {T E P : Type 0} → (r : Result T E) → OnErr r P → true ≡ is_err r → P
from_on_err (Ok x) held is = absurd (cc is)
from_on_err (Err e) held is = held
