-- Where a reader of lines is in an input.
use Rattle.std.proofs.Common.{◌≡◌, ℕ, ◌+◌, ◌-◌, ◌<◌, ◌≤◌, min, Bool, true, false, List, [], ◌∷◌, ◌++◌, append_assoc, length, take, drop, ◌⊎◌, inl, inr, IsTrue, IsFalse, ltb, refl, sym, ap, subst, ◌∙◌, arith, length-append, length-drop, length-take}
use Rattle.std.specs.Prelude.{nat_lt, if◌then◌else◌}
use Rattle.std.proofs.Math.Seq.{take-add, take-append-add}
use Rattle.std.proofs.lemmas.Bool.{cases_lt, cond-true, cond-false, cond_both, lt-ltb, ltb-true, le-ltb, eqb-true}
use Rattle.std.proofs.lemmas.List.{append-nil, take-append-drop, take_all, drop_all, take-take, drop-drop}
use Rattle.vbm_lines.specs.declared.lines.TheConstants.{LONGEST_LINE}
use Rattle.vbm_lines.specs.Lines.{Line as ReadLine, Short, TooLong, line_in, read_lines, lines_done, up_to_newline, AreWhole, HasNoNewline}
use Rattle.vbm_lines.specs.declared.reader.Next.{Next}
use Rattle.vbm_lines.specs.declared.reader.Next.TheVariants.{Line, Long, End, ReadFault, Spent}
use Rattle.vbm_lines.specs.Inputs.{AreFirst, AreRead, IsAllRead, IsCutOff, IsTooLong}
use Rattle.vbm_lines.specs.Reader.{Reader, new_reader, AreLost, IsAt, GivesLine}
use Rattle.vbm_lines.specs.Steps.{IsNext, with_counted}
use Rattle.vbm_lines.specs.Window.{without_return, IsFirstNewline, Extends}
use Rattle.vbm_lines.proofs.Splits.{no_newline-append, read-append, read-ended, read-last, line_in-long, line_in-short, are_first, up_to-append, whole-ended, length-without_return}

-- a new reader is at the beginning
pub starts_at : (most : ℕ) (input : List ℕ) → IsAt (new_reader most) input input []
starts_at most input = record {
  bound = omega arith;
  within = omega arith;
  source = refl;
  done = [];
  left = [];
  split = ap (λ k. take k input) (let none : min 0 most ≡ 0 = omega arith in none);
  are = refl;
  holds = record { lost = []; split = refl; are_lost = refl };
  whole = inl (inl refl);
  end = λ ended. absurd (cc ended);
}

-- a reader that holds other bytes
pub moved : (r : Reader) (most taken : ℕ) (held new kept : List ℕ) (before skipping ended : Bool)
    → record { most = most; taken = taken; held = held; skipping = before; ended = ended } ≡ r → kept ≡ new
    → record r { held = new; skipping = skipping } ≡ record { most = most; taken = taken; held = kept; skipping = skipping; ended = ended }
moved r most taken held new kept before skipping ended is same =
    ap (λ (r : Reader). record r { held = new; skipping = skipping }) (sym is)
    ∙ ap (λ (bytes : List ℕ). record { most = most; taken = taken; held = bytes; skipping = skipping; ended = ended }) (sym same)

-- what was let go has no newline
lost-none : (skipping : Bool) (lost : List ℕ) → AreLost skipping lost → HasNoNewline lost
lost-none false lost none = rw none refl
lost-none true lost are = are.1

-- what is given is this line
abbrev Is : Next → ReadLine → Type 0
Is (Line text) line = line ≡ Short text
Is Long line = line ≡ TooLong
Is End line = ⊥
Is ReadFault line = ⊥
Is Spent line = ⊥

ended_is : (next : Next) (skipping : Bool) (lost body : List ℕ) → AreLost skipping lost → IsNext next skipping (without_return body)
    → Is next (line_in (without_return (lost ++ body)))
ended_is (Line text) false lost body none is = rw none (line_in-short (without_return body) is.1 ∙ ap Short (sym is.2))
ended_is (Line text) true lost body are is = absurd (cc is.0)
ended_is Long false lost body none (inl is) = absurd (cc is)
ended_is Long false lost body none (inr long) = rw none (line_in-long (without_return body) long)
ended_is Long true lost body are is =
    line_in-long (without_return (lost ++ body)) (omega (arith, are.0, length-without_return (lost ++ body), length-append lost body))
ended_is End skipping lost body are is = is
ended_is ReadFault skipping lost body are is = is
ended_is Spent skipping lost body are is = is

last_is : (next : Next) (skipping : Bool) (lost body : List ℕ) → AreLost skipping lost → IsNext next skipping body → Is next (line_in (lost ++ body))
last_is (Line text) false lost body none is = rw none (line_in-short body is.1 ∙ ap Short (sym is.2))
last_is (Line text) true lost body are is = absurd (cc is.0)
last_is Long false lost body none (inl is) = absurd (cc is)
last_is Long false lost body none (inr long) = rw none (line_in-long body long)
last_is Long true lost body are is = line_in-long (lost ++ body) (omega (arith, are.0, length-append lost body))
last_is End skipping lost body are is = is
last_is ReadFault skipping lost body are is = is
last_is Spent skipping lost body are is = is

gives : (next : Next) (line : ReadLine) (r : Reader) (input rest : List ℕ) (lines : List ReadLine) → Is next line
    → IsAt r input rest (lines ++ line ∷ []) → GivesLine next r input rest lines
gives (Line text) line r input rest lines is at = subst (λ line. IsAt r input rest (lines ++ line ∷ [])) is at
gives Long line r input rest lines is at = subst (λ line. IsAt r input rest (lines ++ line ∷ [])) is at
gives End line r input rest lines is at = absurd is
gives ReadFault line r input rest lines is at = absurd is
gives Spent line r input rest lines is at = absurd is

module _ (r : Reader) (input rest : List ℕ) (lines : List ReadLine) (at : IsAt r input rest lines) where
  -- lines end where bytes are left behind them
  whole : 0 < length at.left → AreWhole at.done
  whole some = elim at.whole [ inl is ↦ is | inr end ↦ absurd (omega (arith, some, ap length end.1)) ]

  none_left : HasNoNewline r.held → HasNoNewline at.left
  none_left none =
      subst HasNoNewline (sym at.holds.split)
      (no_newline-append at.holds.lost r.held (lost-none r.skipping at.holds.lost at.holds.are_lost) none)

  -- the line that the first newline ends
  pub ended-line : (i : ℕ) → IsFirstNewline r.held i
      → IsAt (record r { held = drop (i + 1) r.held; skipping = false }) input rest
      (lines ++ line_in (without_return (at.holds.lost ++ take i r.held)) ∷ [])
  ended-line i first = record {
    bound = at.bound;
    within = at.within;
    source = at.source;
    done = at.done ++ (body ++ 10 ∷ []);
    left = drop (i + 1) r.held;
    split = at.split ∙ ap (λ xs. at.done ++ xs) left ∙ sym (append_assoc at.done (body ++ 10 ∷ []) (drop (i + 1) r.held));
    are = sym (read-append at.done (body ++ 10 ∷ []) (whole some) ∙ ap (λ xs. xs ++ read_lines (body ++ 10 ∷ [])) (sym at.are)
        ∙ ap (λ xs. lines ++ xs) (read-ended body none));
    holds = record { lost = []; split = refl; are_lost = refl };
    whole = inl (whole-ended at.done body);
    end = at.end;
  }
    where
      body : List ℕ
      body = at.holds.lost ++ take i r.held

      none : HasNoNewline body
      none = no_newline-append at.holds.lost (take i r.held) (lost-none r.skipping at.holds.lost at.holds.are_lost) first.first

      left : at.left ≡ (body ++ 10 ∷ []) ++ drop (i + 1) r.held
      left = at.holds.split ∙ ap (λ xs. at.holds.lost ++ xs) first.split ∙ sym (append_assoc at.holds.lost (take i r.held) (10 ∷ drop (i + 1) r.held))
          ∙ sym (append_assoc body (10 ∷ []) (drop (i + 1) r.held))

      some : 0 < length at.left
      some = omega (arith, ap length at.holds.split, length-append at.holds.lost r.held, first.within)

  pub gives_line : (i : ℕ) (next : Next) → IsFirstNewline r.held i → IsNext next r.skipping (without_return (take i r.held))
      → GivesLine next (record r { held = drop (i + 1) r.held; skipping = false }) input rest lines
  gives_line i next first is =
      gives next (line_in (without_return (at.holds.lost ++ take i r.held)))
      (record r { held = drop (i + 1) r.held; skipping = false }) input rest lines
      (ended_is next r.skipping at.holds.lost (take i r.held) at.holds.are_lost is) (ended-line i first)

  -- the last line, which has no newline
  last-line : IsTrue r.ended → HasNoNewline r.held → 0 < length at.left
      → IsAt (record r { held = []; skipping = false }) input rest (lines ++ line_in at.left ∷ [])
  last-line ended none some = record {
    bound = at.bound;
    within = at.within;
    source = at.source;
    done = at.done ++ at.left;
    left = [];
    split = at.split ∙ sym (append-nil (at.done ++ at.left));
    are = sym (read-append at.done at.left (whole some) ∙ ap (λ xs. xs ++ read_lines at.left) (sym at.are)
        ∙ ap (λ xs. lines ++ xs) (read-last at.left some (none_left none)));
    holds = record { lost = []; split = refl; are_lost = refl };
    whole = inr (ended, refl);
    end = at.end;
  }

  pub gives_last : (next : Next) → IsTrue r.ended → HasNoNewline r.held → IsNext next r.skipping r.held → (0 < length r.held) ⊎ IsTrue r.skipping
      → GivesLine next (record r { held = []; skipping = false }) input rest lines
  gives_last next ended none is some =
      gives next (line_in at.left) (record r { held = []; skipping = false }) input rest lines
      (subst (λ bytes. Is next (line_in bytes)) (sym at.holds.split) (last_is next r.skipping at.holds.lost r.held at.holds.are_lost is))
      (last-line ended none (omega (arith, ap length at.holds.split, length-append at.holds.lost r.held, long)))
    where
      lost-some : (skipping : Bool) (lost : List ℕ) → AreLost skipping lost → IsTrue skipping → 0 < length lost
      lost-some false lost are is = absurd (cc is)
      lost-some true lost are is = omega (arith, are.0)

      long : 0 < length at.holds.lost + length r.held
      long = elim some [ inl held ↦ omega arith | inr skipping ↦ omega (arith, lost-some r.skipping at.holds.lost at.holds.are_lost skipping) ]

  -- bytes of a line that is too long are let go
  pub dropped : LONGEST_LINE + 1 < length r.held → HasNoNewline r.held → IsAt (record r { held = []; skipping = true }) input rest lines
  dropped long none = record {
    bound = at.bound;
    within = at.within;
    source = at.source;
    done = at.done;
    left = at.left;
    split = at.split;
    are = at.are;
    holds = record {
      lost = at.holds.lost ++ r.held;
      split = at.holds.split ∙ sym (append-nil (at.holds.lost ++ r.held));
      are_lost = (
        omega (arith, long, length-append at.holds.lost r.held),
        no_newline-append at.holds.lost r.held (lost-none r.skipping at.holds.lost at.holds.are_lost) none,
      );
    };
    whole = at.whole;
    end = at.end;
  }

  -- all was read, where the source came to its end and nothing is held
  pub all_read : IsTrue r.ended → length r.held ≡ 0 → IsFalse r.skipping → IsAllRead r.most input rest lines
  all_read ended empty other = record {
    none = end.0;
    short = omega (arith, past, end.1);
    are = at.are ∙ ap read_lines (sym (append-nil at.done) ∙ ap (λ xs. at.done ++ xs) (sym none)
        ∙ sym at.split ∙ take_all (min r.taken r.most) input (omega (arith, past, end.1)));
  }
    where
      end : (rest ≡ []) × (r.taken ≤ r.most)
      end = at.end ended

      past : length input ≤ r.taken
      past = omega (arith, ap length end.0, ap length at.source, length-drop r.taken input)

      nothing-lost : (skipping : Bool) (lost : List ℕ) → AreLost skipping lost → IsFalse skipping → length lost ≡ 0
      nothing-lost false lost are is = ap length are
      nothing-lost true lost are is = absurd (cc is)

      none : at.left ≡ []
      none = sym (take_all 0 at.left (omega (
        arith,
        ap length at.holds.split,
        length-append at.holds.lost r.held,
        empty,
        nothing-lost r.skipping at.holds.lost at.holds.are_lost other,
      )))

  -- the lines that a newline ended, where more is to come
  unended : IsFalse r.ended → AreWhole at.done
  unended more = elim at.whole [ inl is ↦ is | inr end ↦ absurd (cc (end.0, more)) ]

  pub cut_off : IsFalse r.ended → r.taken ≤ r.most → HasNoNewline r.held → IsCutOff r.most input rest lines
  cut_off more within none = record {
    taken = take r.taken input;
    split = sym (take-append-drop r.taken input) ∙ ap (λ xs. take r.taken input ++ xs) (sym at.source);
    short = omega (arith, length-take r.taken input, within);
    ended = record {
      front = at.done;
      tail = at.left;
      split = ap (λ k. take k input) (let all : r.taken ≡ min r.taken r.most = omega (arith, within) in all) ∙ at.split;
      whole = unended more;
      unended = none_left none;
      are = at.are;
    };
  }

  pub too_long : r.most < r.taken → r.taken ≤ r.most + 1 → HasNoNewline r.held → IsTooLong r.most input rest lines
  too_long past near none = record {
    long = omega (arith, at.within, past);
    split = at.source ∙ ap (λ k. drop k input) (let all : r.taken ≡ r.most + 1 = omega (arith, past, near) in all);
    ended = record {
      front = at.done;
      tail = at.left;
      split = ap (λ k. take k input) (let all : r.most ≡ min r.taken r.most = omega (arith, past) in all) ∙ at.split;
      whole = elim at.whole [ inl is ↦ is | inr end ↦ absurd (omega (arith, past, (at.end end.0).1)) ];
      unended = none_left none;
      are = at.are;
    };
  }

  -- more bytes are taken
  module _ (new_rest window : List ℕ) (n : ℕ) (more : IsFalse r.ended) (within : r.taken ≤ r.most) (fits : r.taken + n ≤ r.most + 1)
      (took : Extends rest new_rest r.held window n) where
    -- so many of them are kept
    abbrev keep : ℕ
    keep = min n (r.most - r.taken)

    kept : (if nat_lt r.most (r.taken + n) then take (length window - 1) window else window) ≡ r.held ++ take keep rest
    kept = elim (cases_lt r.most (r.taken + n)) [
      | inl past ↦
          cond-true (ltb r.most (r.taken + n)) (take (length window - 1) window) window (lt-ltb _ _ past)
          ∙ ap (λ k. take k window) (let e : length window - 1 ≡ length r.held + keep = omega (arith, past, len) in e)
          ∙ ap (take (length r.held + keep)) took.held ∙ take-append-add r.held (take n rest) keep
          ∙ ap (λ xs. r.held ++ xs) (take-take keep n rest (omega arith))
      | inr near ↦
          cond-false (ltb r.most (r.taken + n)) (take (length window - 1) window) window (le-ltb _ _ near) ∙ took.held
          ∙ ap (λ k. r.held ++ take k rest) (let e : n ≡ keep = omega (arith, near) in e)
    ]
      where
        len : length window ≡ length r.held + n
        len = omega (arith, ap length took.held, length-append r.held (take n rest), length-take n rest, took.within)

    pub more_taken : IsAt (with_counted (record r { held = window }) n) input new_rest lines
    more_taken = record {
      bound = fits;
      within = omega (arith, at.within, took.within, ap length at.source, length-drop r.taken input);
      source = took.rest ∙ ap (drop n) at.source ∙ drop-drop n r.taken input;
      done = at.done;
      left = at.left ++ take keep rest;
      split = ap (λ k. take k input) (let e : min (r.taken + n) r.most ≡ r.taken + keep = omega (arith, within) in e)
          ∙ take-add r.taken keep input ∙ ap (λ xs. take r.taken input ++ take keep xs) (sym at.source)
          ∙ ap (λ xs. xs ++ take keep rest) (ap (λ k. take k input) (let e : r.taken ≡ min r.taken r.most = omega (arith, within) in e) ∙ at.split)
          ∙ append_assoc at.done at.left (take keep rest);
      are = at.are;
      holds = record {
        lost = at.holds.lost;
        split = ap (λ xs. xs ++ take keep rest) at.holds.split ∙ append_assoc at.holds.lost r.held (take keep rest)
            ∙ ap (λ xs. at.holds.lost ++ xs) (sym kept);
        are_lost = at.holds.are_lost;
      };
      whole = inl (unended more);
      end = λ none. let zero_taken : n ≡ 0 = eqb-true n 0 none in
          (took.rest ∙ drop_all n rest (omega (arith, ap length (took.end zero_taken))), omega (arith, within, zero_taken));
    }

  -- the lines are the first of bytes that begin with those that were read
  first : (bytes behind : List ℕ) → bytes ≡ at.done ++ (at.left ++ behind) → (IsTrue r.ended → behind ≡ []) → AreFirst (read_lines bytes) lines
  first bytes behind split end = elim at.whole [
    | inl is ↦
        let begins = are_first at.done (at.left ++ behind) is in
        (begins.0, ap read_lines split ∙ begins.1 ∙ ap (λ xs. xs ++ begins.0) (sym at.are))
    | inr last ↦ (
      [],
      ap read_lines (split ∙ ap (λ xs. at.done ++ (xs ++ behind)) last.1 ∙ ap (λ xs. at.done ++ xs) (end last.0) ∙ append-nil at.done)
          ∙ sym at.are ∙ sym (append-nil lines),
    )
  ]

  of_done : AreFirst (lines_done r.most input) lines
  of_done = cond_both (nat_lt r.most (length input)) (read_lines (up_to_newline (take r.most input))) (read_lines input) (λ all. AreFirst all lines)
      (λ long. of_long (ltb-true r.most (length input) long)) (λ short. of_input)
    where
      near : ℕ
      near = min r.taken r.most

      of_input : AreFirst (read_lines input) lines
      of_input = first input (drop near input)
          (sym (take-append-drop near input) ∙ ap (λ xs. xs ++ drop near input) at.split ∙ append_assoc at.done at.left (drop near input))
          (λ ended. ap (λ k. drop k input) (let e : near ≡ r.taken = omega (arith, (at.end ended).1) in e) ∙ sym at.source ∙ (at.end ended).0)

      -- behind them stand bytes that a run may make lines of
      behind : List ℕ
      behind = drop near (take r.most input)

      cut : take r.most input ≡ at.done ++ (at.left ++ behind)
      cut = sym (take-append-drop near (take r.most input))
          ∙ ap (λ xs. xs ++ behind) (take-take near r.most input (omega arith) ∙ at.split) ∙ append_assoc at.done at.left behind

      of_long : r.most < length input → AreFirst (read_lines (up_to_newline (take r.most input))) lines
      of_long long = elim at.whole [
        | inl is ↦
            let more = up_to_newline (at.left ++ behind) in
            let begins = are_first at.done more is in
            (begins.0, ap read_lines (ap up_to_newline cut ∙ up_to-append at.done (at.left ++ behind) is) ∙ begins.1 ∙ ap (λ xs. xs ++ begins.0) (sym at.are))
        | inr last ↦
            let end = at.end last.0 in
            absurd (omega (arith, long, end.1, ap length end.0, ap length at.source, length-drop r.taken input))
      ]

-- The lines are the first of those that a run does, and of what was taken.
pub are_read : (r : Reader) (input rest : List ℕ) (lines : List ReadLine) → IsAt r input rest lines → AreRead r.most input rest lines
are_read r input rest lines at = record {
  taken = take r.taken input;
  split = sym (take-append-drop r.taken input) ∙ ap (λ xs. take r.taken input ++ xs) (sym at.source);
  bound = omega (arith, length-take r.taken input, at.bound);
  of_input = of_done r input rest lines at;
  of_taken = first r input rest lines at (take r.taken input) (drop (min r.taken r.most) (take r.taken input))
      (sym (take-append-drop (min r.taken r.most) (take r.taken input))
      ∙ ap (λ xs. xs ++ drop (min r.taken r.most) (take r.taken input)) (take-take (min r.taken r.most) r.taken input (omega arith) ∙ at.split)
      ∙ append_assoc at.done at.left (drop (min r.taken r.most) (take r.taken input)))
      (λ ended. drop_all (min r.taken r.most) (take r.taken input) (omega (arith, length-take r.taken input, (at.end ended).1)));
}
