-- How an input splits into lines.
use Rattle.std.proofs.Common.{◌≡◌, ℕ, ◌+◌, ◌<◌, ◌≤◌, ltb, Bool, true, false, List, [], ◌∷◌, ◌++◌, append_assoc, length, take, drop, refl, sym, ap, subst, ◌∙◌, arith, inl, inr}
use Rattle.std.specs.Prelude.{◌==◌, ◌&&◌, ◌||◌, map, nat_lt, if◌then◌else◌}
use Rattle.std.specs.List.{list_any}
use Rattle.std.proofs.lemmas.Bool.{or_parts, or_from, cond-true, cond-false, cond_both, lt-ltb, le-ltb, eqb-true}
use Rattle.std.proofs.lemmas.List.{append-nil, map-append, take-append-drop}
use Rattle.std.proofs.lemmas.List.Folds.{list_any-append}
use Rattle.vbm_lines.specs.declared.lines.TheConstants.{LONGEST_LINE}
use Rattle.vbm_lines.specs.Lines.{Line, lines_of, before_first, begins_with, is_newline, Short, TooLong, line_in, read_lines, lines_done, up_to_newline, AreWhole, AreEnded, HasNoNewline}
use Rattle.vbm_lines.specs.Inputs.{AreFirst, IsAllRead, IsTooLong}
use Rattle.vbm_lines.specs.Window.{without_return}

-- no newline among bytes: none is the first, and none is behind it
pub no_newline-parts : (b : ℕ) (bytes : List ℕ) → HasNoNewline (b ∷ bytes) → (is_newline b ≡ false) × HasNoNewline bytes
no_newline-parts b bytes none = or_parts (is_newline b) (list_any is_newline bytes) none

pub no_newline-append : (front back : List ℕ) → HasNoNewline front → HasNoNewline back → HasNoNewline (front ++ back)
no_newline-append front back none none_behind =
    list_any-append is_newline front back ∙ or_from (list_any is_newline front) (list_any is_newline back) none none_behind

-- a byte that neither ends a line nor is dropped before a newline
kept : (b : ℕ) (newline next : Bool) (lines : List (List ℕ)) → newline ≡ false → next ≡ false
    → (if newline then [] ∷ lines else if (b == 13) && next then lines else before_first b lines) ≡ before_first b lines
kept b newline next lines other more = rw (other, more) (returns (b == 13))
  where
    returns : (is : Bool) → (if is && false then lines else before_first b lines) ≡ before_first b lines
    returns true = refl
    returns false = refl

lines_before : (b c : ℕ) (bytes : List ℕ) → is_newline b ≡ false → is_newline c ≡ false
    → lines_of (b ∷ c ∷ bytes) ≡ before_first b (lines_of (c ∷ bytes))
lines_before b c bytes other next = kept b (is_newline b) (is_newline c) (lines_of (c ∷ bytes)) other next

one_byte : (b : ℕ) (tail : List ℕ) → is_newline b ≡ false → lines_of (b ∷ 10 ∷ tail) ≡ without_return (b ∷ []) ∷ lines_of tail
one_byte b tail other = rw other (returns b (b == 13) (lines_of tail))
  where
    returns : (b : ℕ) (is : Bool) (lines : List (List ℕ))
        → (if is && true then [] ∷ lines else (b ∷ []) ∷ lines) ≡ (if is then [] else b ∷ []) ∷ lines
    returns b true lines = refl
    returns b false lines = refl

-- a newline ends a line
pub lines-ended : (body tail : List ℕ) → HasNoNewline body → lines_of (body ++ 10 ∷ tail) ≡ without_return body ∷ lines_of tail
lines-ended [] tail none = refl
lines-ended (b ∷ []) tail none = one_byte b tail (no_newline-parts b [] none).0
lines-ended (b ∷ c ∷ bytes) tail none =
    let parts = no_newline-parts b (c ∷ bytes) none in
    let next = no_newline-parts c bytes parts.1 in
    lines_before b c (bytes ++ 10 ∷ tail) parts.0 next.0 ∙ ap (before_first b) (lines-ended (c ∷ bytes) tail parts.1)

last_byte : (b : ℕ) → is_newline b ≡ false → lines_of (b ∷ []) ≡ (b ∷ []) ∷ []
last_byte b other = rw other (returns b (b == 13))
  where
    returns : (b : ℕ) (is : Bool) → (if is && false then [] else (b ∷ []) ∷ []) ≡ (b ∷ []) ∷ []
    returns b true = refl
    returns b false = refl

-- the last line may have no newline
pub lines-last : (b : ℕ) (bytes : List ℕ) → HasNoNewline (b ∷ bytes) → lines_of (b ∷ bytes) ≡ (b ∷ bytes) ∷ []
lines-last b [] none = last_byte b (no_newline-parts b [] none).0
lines-last b (c ∷ bytes) none =
    let parts = no_newline-parts b (c ∷ bytes) none in
    let next = no_newline-parts c bytes parts.1 in
    lines_before b c bytes parts.0 next.0 ∙ ap (before_first b) (lines-last c bytes parts.1)

-- what whole lines split into, before anything
record Split (front : List ℕ) : Type 0 where
  line : List ℕ
  more : List (List ℕ)
  is : (back : List ℕ) → lines_of (front ++ 10 ∷ back) ≡ line ∷ (more ++ lines_of back)

split_next : (b : ℕ) (front : List ℕ) → (newline returned : Bool) → is_newline b ≡ newline
    → ((back : List ℕ) → ((b == 13) && begins_with is_newline (front ++ 10 ∷ back)) ≡ returned) → Split front → Split (b ∷ front)
split_next b front true returned is same s = record { line = []; more = s.line ∷ s.more; is = λ back. rw is (ap (λ lines. [] ∷ lines) (s.is back)) }
split_next b front false true is same s = record { line = s.line; more = s.more; is = λ back. rw (is, same back) (s.is back) }
split_next b front false false is same s =
    record { line = b ∷ s.line; more = s.more; is = λ back. rw (is, same back) (ap (before_first b) (s.is back)) }

begins_alike : (b : ℕ) (front : List ℕ) (back : List ℕ)
    → ((b == 13) && begins_with is_newline (front ++ 10 ∷ back)) ≡ ((b == 13) && begins_with is_newline (front ++ 10 ∷ []))
begins_alike b [] back = refl
begins_alike b (c ∷ front) back = refl

split : (front : List ℕ) → Split front
split [] = record { line = []; more = []; is = λ back. refl }
split (b ∷ front) = split_next b front (is_newline b) _ refl (begins_alike b front) (split front)

-- behind whole lines the lines begin anew
pub lines-append : (front back : List ℕ) → AreWhole front → lines_of (front ++ back) ≡ lines_of front ++ lines_of back
lines-append front back (inl none) = rw none refl
lines-append front back (inr whole) =
    let s = split whole.0 in
    ap (λ bytes. lines_of (bytes ++ back)) whole.1 ∙ ap lines_of (append_assoc whole.0 (10 ∷ []) back) ∙ s.is back
    ∙ sym (ap (λ bytes. lines_of bytes ++ lines_of back) whole.1
    ∙ ap (λ lines. lines ++ lines_of back) (s.is [] ∙ ap (λ lines. s.line ∷ lines) (append-nil s.more)))

-- the same for lines as they are read
pub read-append : (front back : List ℕ) → AreWhole front → read_lines (front ++ back) ≡ read_lines front ++ read_lines back
read-append front back whole = ap (map line_in) (lines-append front back whole) ∙ map-append line_in (lines_of front) (lines_of back)

pub read-ended : (body : List ℕ) → HasNoNewline body → read_lines (body ++ 10 ∷ []) ≡ line_in (without_return body) ∷ []
read-ended body none = ap (map line_in) (lines-ended body [] none)

pub read-last : (body : List ℕ) → 0 < length body → HasNoNewline body → read_lines body ≡ line_in body ∷ []
read-last [] some none = absurd (omega arith)
read-last (b ∷ bytes) some none = ap (map line_in) (lines-last b bytes none)

pub line_in-long : (line : List ℕ) → LONGEST_LINE < length line → line_in line ≡ TooLong
line_in-long line long = cond-true (ltb LONGEST_LINE (length line)) TooLong (Short line) (lt-ltb LONGEST_LINE (length line) long)

pub line_in-short : (line : List ℕ) → length line ≤ LONGEST_LINE → line_in line ≡ Short line
line_in-short line short = cond-false (ltb LONGEST_LINE (length line)) TooLong (Short line) (le-ltb LONGEST_LINE (length line) short)

pub are_first : (front back : List ℕ) → AreWhole front → AreFirst (read_lines (front ++ back)) (read_lines front)
are_first front back whole = (read_lines back, read-append front back whole)

-- ---- the bytes up to the last newline

has_newline : (front back : List ℕ) → list_any is_newline (front ++ 10 ∷ back) ≡ true
has_newline [] back = refl
has_newline (b ∷ front) back = or_right (is_newline b) (list_any is_newline (front ++ 10 ∷ back)) (has_newline front back)
  where
    or_right : (a b : Bool) → b ≡ true → (a || b) ≡ true
    or_right true b is = refl
    or_right false b is = is

up_to-ended : (front back : List ℕ) → up_to_newline (front ++ 10 ∷ back) ≡ front ++ 10 ∷ up_to_newline back
up_to-ended [] back = refl
up_to-ended (b ∷ front) back = rw (has_newline (b ∷ front) back) (ap (λ bytes. b ∷ bytes) (up_to-ended front back))

pub up_to-append : (front back : List ℕ) → AreWhole front → up_to_newline (front ++ back) ≡ front ++ up_to_newline back
up_to-append front back (inl none) = rw none refl
up_to-append front back (inr whole) =
    rw whole.1 (ap up_to_newline (append_assoc whole.0 (10 ∷ []) back) ∙ up_to-ended whole.0 back
    ∙ sym (append_assoc whole.0 (10 ∷ []) (up_to_newline back)))

pub up_to-none : (bytes : List ℕ) → HasNoNewline bytes → up_to_newline bytes ≡ []
up_to-none [] none = refl
up_to-none (b ∷ bytes) none = rw none refl

up_to-whole : (bytes : List ℕ) → AreWhole (up_to_newline bytes)
up_to-whole [] = inl refl
up_to-whole (b ∷ bytes) = cond_both (list_any is_newline (b ∷ bytes)) (b ∷ up_to_newline bytes) [] AreWhole
    (λ some. longer b bytes some (up_to-whole bytes)) (λ none. inl refl)
  where
    empty : (some : Bool) (b : ℕ) (bytes : List ℕ) → some ≡ true → (if some then b ∷ bytes else []) ≡ [] → false ≡ true
    empty true b bytes is none = absurd cc
    empty false b bytes is none = is

    alone : (first : Bool) (bytes : List ℕ) → (first || list_any is_newline bytes) ≡ true → up_to_newline bytes ≡ [] → first ≡ true
    alone true bytes some none = refl
    alone false [] some none = some
    alone false (c ∷ bytes) some none = empty (list_any is_newline (c ∷ bytes)) c (up_to_newline bytes) some none

    -- the newline is the first byte, or among those behind it
    longer : (b : ℕ) (bytes : List ℕ) → list_any is_newline (b ∷ bytes) ≡ true → AreWhole (up_to_newline bytes)
        → AreWhole (b ∷ up_to_newline bytes)
    longer b bytes some (inr whole) = inr (b ∷ whole.0, ap (λ xs. b ∷ xs) whole.1)
    longer b bytes some (inl none) = inr ([], rw none (ap (λ c. c ∷ []) (eqb-true b 10 (alone (is_newline b) bytes some none))))

up_to-split : (bytes : List ℕ) → (tail : List ℕ) × (bytes ≡ up_to_newline bytes ++ tail)
up_to-split [] = ([], refl)
up_to-split (b ∷ bytes) = cond_both (list_any is_newline (b ∷ bytes)) (b ∷ up_to_newline bytes) []
    (λ front. (tail : List ℕ) × (b ∷ bytes ≡ front ++ tail))
    (λ some. let rest = up_to-split bytes in (rest.0, ap (λ xs. b ∷ xs) rest.1)) (λ none. (b ∷ bytes, refl))

-- the lines that a run does are the first of the input
pub done_first : (most : ℕ) (input : List ℕ) → AreFirst (read_lines input) (lines_done most input)
done_first most input = cond_both (nat_lt most (length input)) (read_lines (up_to_newline (take most input))) (read_lines input)
    (AreFirst (read_lines input))
    (λ long. subst (λ bytes. AreFirst (read_lines bytes) (read_lines front)) whole (are_first front (tail.0 ++ drop most input) (up_to-whole cut)))
    (λ short. ([], sym (append-nil (read_lines input))))
  where
    cut : List ℕ
    cut = take most input

    front : List ℕ
    front = up_to_newline cut

    tail : (tail : List ℕ) × (cut ≡ front ++ tail)
    tail = up_to-split cut

    whole : front ++ (tail.0 ++ drop most input) ≡ input
    whole = sym (append_assoc front tail.0 (drop most input)) ∙ ap (λ bytes. bytes ++ drop most input) (sym tail.1) ∙ take-append-drop most input

-- where all is read, and where the input is too long, all lines that a run does are read
pub done_all : (most : ℕ) (input rest : List ℕ) (lines : List Line) → IsAllRead most input rest lines → lines ≡ lines_done most input
done_all most input rest lines all = all.are ∙ sym (cond-false (nat_lt most (length input)) _ _ (le-ltb most (length input) all.short))

pub done_long : (most : ℕ) (input rest : List ℕ) (lines : List Line) → IsTooLong most input rest lines → lines ≡ lines_done most input
done_long most input rest lines long =
    ended.are ∙ ap read_lines (sym (ap up_to_newline ended.split ∙ up_to-append ended.front ended.tail ended.whole
    ∙ ap (λ bytes. ended.front ++ bytes) (up_to-none ended.tail ended.unended) ∙ append-nil ended.front))
    ∙ sym (cond-true (nat_lt most (length input)) _ _ (lt-ltb most (length input) long.long))
  where
    ended : AreEnded (take most input) lines
    ended = long.ended

-- a newline ends whole lines
pub whole-ended : (front body : List ℕ) → AreWhole (front ++ (body ++ 10 ∷ []))
whole-ended front body = inr (front ++ body, sym (append_assoc front body (10 ∷ [])))

-- a carriage return at the end
pub without_return-is : (front : List ℕ) → without_return (front ++ 13 ∷ []) ≡ front
without_return-is [] = refl
without_return-is (b ∷ []) = refl
without_return-is (b ∷ c ∷ front) = ap (λ bytes. b ∷ bytes) (without_return-is (c ∷ front))

pub without_return-other : (front : List ℕ) (last : ℕ) → (last == 13) ≡ false → without_return (front ++ last ∷ []) ≡ front ++ last ∷ []
without_return-other [] last other = rw other refl
without_return-other (b ∷ []) last other = ap (λ bytes. b ∷ bytes) (without_return-other [] last other)
without_return-other (b ∷ c ∷ front) last other = ap (λ bytes. b ∷ bytes) (without_return-other (c ∷ front) last other)

pub length-without_return : (bytes : List ℕ) → length bytes ≤ length (without_return bytes) + 1
length-without_return [] = omega arith
length-without_return (b ∷ []) = omega arith
length-without_return (b ∷ c ∷ bytes) = let fewer = length-without_return (c ∷ bytes) in omega arith
