-- The places of a record's changes, noted one after the other.
use Rattle.std.proofs.Common.{All, ◌≡◌, inl, inr, ℕ, suc, ◌+◌, ◌-◌, ◌<◌, ◌≤◌, List, [], ◌∷◌, ◌++◌, length, take, drop, Option, Some, None, refl, sym, ◌∙◌, ap, subst, arith, append_assoc, length-append}
use Rattle.std.specs.Prelude.{slice_set, option_and_then, unwrap_or, IsSome}
use Rattle.std.proofs.lemmas.List.{drop_at, take_all, take_more_set, append-nil}
use Rattle.std.proofs.lemmas.List.Elements.{All-nil}
use Rattle.std.proofs.lemmas.Bool.{false≢true}
use Rattle.vbm_intent.specs.declared.change.Change.{Change}
use Rattle.vbm_intent.specs.declared.change.Change.TheVariants.{Write, Fill, Cut, Remove}
use Rattle.vbm_intent.specs.Record.{Part, change_of, changes_of}
use Rattle.vbm_intent.specs.Plan.{text_size}
use Rattle.vbm_intent.specs.Index.{place_of, change_read, change_at, changes_at, IsRising}
use Rattle.vbm_intent.proofs.Members.{each_in, all_of, in_either, pairs_end}
use Rattle.vbm_intent.proofs.Pushes.{Ending, Ends, good_change}

pub changes_at-append : (body : List ℕ) (xs ys : List (List ℕ)) → changes_at body (xs ++ ys) ≡ changes_at body xs ++ changes_at body ys
changes_at-append body [] ys = refl
changes_at-append body (x ∷ xs) ys = ap (λ (l : List Change). change_at body x ∷ l) (changes_at-append body xs ys)

-- The first places are noted; the changes of the rest are left.
pub record Noted (body : List ℕ) (count : ℕ) (index : List (List ℕ)) (noted : ℕ) (rest : List ℕ) : Type 0 where
  pub front : List ℕ
  pub parts : body ≡ front ++ rest
  pub long : length index ≡ count
  pub most : noted ≤ count
  pub left : List Change
  pub holds : changes_of (count - noted) rest ≡ Some left
  pub all : changes_of count body ≡ Some (changes_at body (take noted index) ++ left)
  pub rising : IsRising (take noted index)
  pub low : All (λ e. place_of e < length front) (take noted index)

pub none_noted : (body : List ℕ) (index : List (List ℕ)) → IsSome (changes_of (length index) body) → Noted body (length index) index 0 body
none_noted body index some = begin (changes_of (length index) body) refl some
  where
    begin : (o : Option (List Change)) → changes_of (length index) body ≡ o → IsSome o → Noted body (length index) index 0 body
    begin None is some = absurd (false≢true some)
    begin (Some cs) is some = record {
      front = [];
      parts = refl;
      long = refl;
      most = omega arith;
      left = cs;
      holds = (let same : length index - 0 ≡ length index = omega arith in ap (λ (n : ℕ). changes_of n body) same) ∙ is;
      all = is;
      rising = tt;
      low = All-nil (λ e. place_of e < 0);
    }

-- the changes behind the first
abbrev behind_first : ℕ → Part → Option (List Change)
behind_first n part = option_and_then (λ (p : Change × List ℕ). option_and_then (λ (cs : List Change). Some (p.0 ∷ cs)) (changes_of n p.1)) part

-- one change is read
module _ (body : List ℕ) (count : ℕ) (index : List (List ℕ)) (noted : ℕ) (rest : List ℕ) (so_far : Noted body count index noted rest) (more : noted < count) where
  one_more : count - noted ≡ suc (count - (noted + 1))
  one_more = omega arith

  read : changes_of (suc (count - (noted + 1))) rest ≡ Some so_far.left
  read = ap (λ (n : ℕ). changes_of n rest) (sym one_more) ∙ so_far.holds

  pub not_none : change_of rest ≡ None → ⊥
  not_none none = cc (read, ap (behind_first (count - (noted + 1))) none)

  module _ (c : Change) (next : List ℕ) (is : change_of rest ≡ Some (c, next)) where
    ending : Ending change_of 0 rest c next
    ending = subst (Ends change_of 0 rest) is (good_change rest)

    longer : 0 < length ending.front
    longer = omega (arith, ending.size, some_text c)
      where
        some_text : (c : Change) → 0 < text_size c
        some_text (Write name at bytes) = omega arith
        some_text (Fill name at len byte) = omega arith
        some_text (Cut name len) = omega arith
        some_text (Remove name) = omega arith

    record Left : Type 0 where
      rest_left : List Change
      rest_holds : changes_of (count - (noted + 1)) next ≡ Some rest_left
      is_left : so_far.left ≡ c ∷ rest_left

    left_of : (o : Option (List Change)) → changes_of (count - (noted + 1)) next ≡ o → Left
    left_of None none = absurd (cc (
      read,
      ap (behind_first (count - (noted + 1))) is,
      ap (λ (o : Option (List Change)). option_and_then (λ (cs : List Change). Some (c ∷ cs)) o) none,
    ))
    left_of (Some cs) holds =
        let same : Some so_far.left ≡ Some (c ∷ cs) = sym read ∙ ap (behind_first (count - (noted + 1))) is
        ∙ ap (λ (o : Option (List Change)). option_and_then (λ (cs : List Change). Some (c ∷ cs)) o) holds in
        record { rest_left = cs; rest_holds = holds; is_left = ap (λ (o : Option (List Change)). unwrap_or o []) same }

    left : Left
    left = left_of (changes_of (count - (noted + 1)) next) refl

    module _ (entry : List ℕ) (new : List (List ℕ)) (is_place : place_of entry ≡ length body - length rest) (is_new : new ≡ slice_set index noted entry) where
      place : place_of entry ≡ length so_far.front
      place = omega (arith, is_place, ap (λ (l : List ℕ). length l) so_far.parts, length-append so_far.front rest)

      is_change : change_at body entry ≡ c
      is_change = ap (λ (n : ℕ). change_read (change_of (drop n body))) place
          ∙ ap (λ (l : List ℕ). change_read (change_of (drop (length so_far.front) l))) so_far.parts
          ∙ ap (λ (l : List ℕ). change_read (change_of l)) (drop_at so_far.front rest (length so_far.front) refl)
          ∙ ap change_read is

      taken : take (noted + 1) new ≡ take noted index ++ entry ∷ []
      taken = ap (λ (l : List (List ℕ)). take (noted + 1) l) is_new ∙ take_more_set index noted entry (omega (arith, so_far.long, more))

      pub note_more : length new ≡ length index → Noted body count new (noted + 1) next
      note_more long = record {
        front = so_far.front ++ ending.front;
        parts = so_far.parts ∙ ap (λ (l : List ℕ). so_far.front ++ l) ending.is ∙ sym (append_assoc so_far.front ending.front next);
        long = long ∙ so_far.long;
        most = omega (arith, more);
        left = left.rest_left;
        holds = left.rest_holds;
        all = so_far.all ∙ ap (λ (l : List Change). Some l)
            (ap (λ (l : List Change). changes_at body (take noted index) ++ l) left.is_left
            ∙ sym (append_assoc (changes_at body (take noted index)) (c ∷ []) left.rest_left)
            ∙ ap (λ (d : Change). (changes_at body (take noted index) ++ d ∷ []) ++ left.rest_left) (sym is_change)
            ∙ ap (λ (l : List Change). l ++ left.rest_left) (sym (changes_at-append body (take noted index) (entry ∷ [])))
            ∙ ap (λ (l : List (List ℕ)). changes_at body l ++ left.rest_left) (sym taken));
        rising = subst IsRising (sym taken) (pairs_end (λ e d. place_of e < place_of d) (take noted index) entry so_far.rising
            (λ e is_in. let low = each_in (λ e. place_of e < length so_far.front) (take noted index) so_far.low e is_in in omega (arith, low, place)));
        low = subst (λ l. All (λ e. place_of e < length (so_far.front ++ ending.front)) l) (sym taken)
            (all_of (λ e. place_of e < length (so_far.front ++ ending.front)) (take noted index ++ entry ∷ []) (λ e is_in. elim (in_either (take noted index) (entry ∷ []) e is_in) [
              | inl before ↦ let low = each_in (λ e. place_of e < length so_far.front) (take noted index) so_far.low e before in omega (arith, low, length-append so_far.front ending.front)
              | inr (inl here) ↦ omega (arith, ap place_of here, place, longer, length-append so_far.front ending.front)
              | inr (inr none) ↦ absurd none
            ]));
      }

-- all places are noted
pub all_noted : (body : List ℕ) (count : ℕ) (index : List (List ℕ)) (noted : ℕ) (rest : List ℕ) → Noted body count index noted rest → length index ≤ noted
    → (changes_of count body ≡ Some (changes_at body index)) × IsRising index
all_noted body count index noted rest so_far end =
    let whole : take noted index ≡ index = take_all noted index end in
    let none : count - noted ≡ 0 = omega (arith, so_far.long, end) in
    let nothing_left : so_far.left ≡ [] = nothing rest so_far.left (ap (λ (n : ℕ). changes_of n rest) (sym none) ∙ so_far.holds) in (
      so_far.all ∙ ap (λ (l : List Change). Some (changes_at body (take noted index) ++ l)) nothing_left
          ∙ ap (λ (l : List Change). Some l) (append-nil (changes_at body (take noted index)))
          ∙ ap (λ (l : List (List ℕ)). Some (changes_at body l)) whole,
      subst IsRising whole so_far.rising,
    )
  where
    nothing : (rest : List ℕ) (left : List Change) → changes_of 0 rest ≡ Some left → left ≡ []
    nothing [] left is = sym (ap (λ (o : Option (List Change)). unwrap_or o []) is)
    nothing (b ∷ rest) left is = absurd (cc is)
