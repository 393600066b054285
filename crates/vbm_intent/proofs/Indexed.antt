-- Changes by an index of them.
use Rattle.std.proofs.Common.{All, ◌≡◌, ◌↔◌, inl, inr, ⊎_elim, ℕ, ◌<◌, List, [], ◌∷◌, Bool, true, cond, Option, Some, None, refl, sym, ◌∙◌, ap, subst, arith}
use Rattle.std.specs.Prelude.{filter, IsPermutation, unwrap_or, IfSome, IfOk, IsTrue, Result, Ok, Err}
use Rattle.std.specs.Str.{bytes_eq}
use Rattle.std.proofs.lemmas.Bool.{cases_Bool}
use Rattle.std.proofs.lemmas.List.Elements.{All-nil, All-cons, All-head, All-tail}
use Rattle.std.proofs.lemmas.List.Sorted.{All-permutation, IsPermutation-map}
use Rattle.std.proofs.lemmas.Slice.Eq.{bytes_eq-Decides}
use Rattle.vbm_ports.specs.Files.{Files}
use Rattle.vbm_intent.specs.declared.change.Change.{Change}
use Rattle.vbm_intent.specs.Changes.{name_of, of_file, IsAllowed, ApartFrom, FitsFile, Fits}
use Rattle.vbm_intent.specs.Record.{changes_of}
use Rattle.vbm_intent.specs.Check.{AreApart}
use Rattle.vbm_intent.specs.Index.{place_of, change_at, changes_at, IsIn, Pairs, IsRising, AreApartIn, IsNameBefore, ComesBefore, StandsBefore}
use Rattle.vbm_intent.proofs.Applying.{of_file_yes, of_file_no}
use Rattle.vbm_intent.proofs.Apart.{not_empty, apart_spans, apart_next, AllApart, all_apart_next}
use Rattle.vbm_intent.proofs.Names.{not_before_itself, names_before}
use Rattle.vbm_intent.proofs.Members.{in_shuffled, in_original, pairs_in, pairs_from, Chain, chain_pairs, same_rising, in_filtered, into_filtered, filtered_pairs}

pub apart_turned : (c d : Change) → AreApart c d → AreApart d c
apart_turned c d apart = λ named i td tc. apart (sym named) i tc td

comes_apart : (c d : Change) → IsAllowed c → IsAllowed d → ComesBefore c d → AreApart c d
comes_apart c d is_c is_d (inl names) = λ named i tc td. not_before_itself (name_of c) (subst (λ n. IsNameBefore (name_of c) n) named names)
comes_apart c d is_c is_d (inr same) = λ named. (apart_spans c d is_c is_d).0 (inl same.1)

comes_on : (c d e : Change) → IsAllowed d → ComesBefore c d → ComesBefore d e → ComesBefore c e
comes_on c d e is_d (inl a) (inl b) = inl (names_before (name_of c) (name_of d) (name_of e) a b)
comes_on c d e is_d (inl a) (inr b) = inl (subst (λ n. IsNameBefore (name_of c) n) b.0 a)
comes_on c d e is_d (inr a) (inl b) = inl (subst (λ n. IsNameBefore n (name_of e)) (sym a.0) b)
comes_on c d e is_d (inr a) (inr b) = inr (a.0 ∙ b.0, omega (arith, a.1, b.1, not_empty d is_d))

-- an answer to one question is one to another that comes to the same
pub told_iff : (r : Option Bool) (A B : Type 0) → A ↔ B → IfSome r (λ b. IsTrue b ↔ A) → IfSome r (λ b. IsTrue b ↔ B)
told_iff None A B same told = tt
told_iff (Some b) A B same told = ((λ hit. same.0 (told.0 hit)), (λ all. told.1 (same.1 all)))

pub told_iff_ok : {E : Type 0} (r : Result (Option Bool) E) (A B : Type 0) → A ↔ B → IfOk r (λ o. IfSome o (λ b. IsTrue b ↔ A)) → IfOk r (λ o. IfSome o (λ b. IsTrue b ↔ B))
told_iff_ok (Ok o) A B same told = told_iff o A B same told
told_iff_ok (Err e) A B same told = tt

module _ (body : List ℕ) where
  pub stands_on : (a b c : List ℕ) → StandsBefore body a b → StandsBefore body b c → StandsBefore body a c
  stands_on a b c (inl first) (inl second) = inl (names_before (name_of (change_at body a)) (name_of (change_at body b)) (name_of (change_at body c)) first second)
  stands_on a b c (inl first) (inr second) = inl (subst (λ n. IsNameBefore (name_of (change_at body a)) n) second.0 first)
  stands_on a b c (inr first) (inl second) = inl (subst (λ n. IsNameBefore n (name_of (change_at body c))) (sym first.0) second)
  stands_on a b c (inr first) (inr second) = inr (first.0 ∙ second.0, omega (arith, first.1, second.1))

  pub allowed_in : (index : List (List ℕ)) → All IsAllowed (changes_at body index) → (e : List ℕ) → IsIn index e → IsAllowed (change_at body e)
  allowed_in [] allowed e is = absurd is
  allowed_in (d ∷ index) allowed e (inl is) = subst (λ x. IsAllowed (change_at body x)) is (All-head IsAllowed (change_at body d) (changes_at body index) allowed)
  allowed_in (d ∷ index) allowed e (inr is) = allowed_in index (All-tail IsAllowed (change_at body d) (changes_at body index) allowed) e is

  -- neighbours that come before one another
  abbrev pub InTurn : List ℕ → List ℕ → Type 0
  InTurn e d = ComesBefore (change_at body e) (change_at body d)

  pub chain_apart : (index : List (List ℕ)) → All IsAllowed (changes_at body index) → Chain InTurn index → AreApartIn body index
  chain_apart index allowed chain = λ e d is_e is_d differ. elim (pairs_in InTurn index pairs e d is_e is_d differ) [
    | inl first ↦ comes_apart (change_at body e) (change_at body d) (allowed_in index allowed e is_e) (allowed_in index allowed d is_d) first
    | inr second ↦ apart_turned (change_at body d) (change_at body e)
        (comes_apart (change_at body d) (change_at body e) (allowed_in index allowed d is_d) (allowed_in index allowed e is_e) second)
  ]
    where
      pairs : Pairs InTurn index
      pairs = chain_pairs InTurn index
          (λ a b c is. comes_on (change_at body a) (change_at body b) (change_at body c) (allowed_in index allowed b is)) chain

  -- the changes of a rising index touch different bytes exactly where those of its entries do
  abbrev EntriesApart : List ℕ → List ℕ → Type 0
  EntriesApart e d = AreApart (change_at body e) (change_at body d)

  first_apart : (c : Change) (index : List (List ℕ)) → ApartFrom c (of_file (name_of c) (changes_at body index)) ↔ All (λ e. AreApart c (change_at body e)) index
  first_apart c [] = ((λ none. All-nil (λ e. AreApart c (change_at body e))), (λ none. tt))
  first_apart c (e ∷ index) =
      let next = apart_next c (change_at body e) (changes_at body index) (changes_at body (e ∷ index)) refl in
      let rest = first_apart c index in (
        (λ all. let both = next.0 all in All-cons (λ d. AreApart c (change_at body d)) e index both.0 (rest.0 both.1)),
        (λ all. next.1 (All-head (λ d. AreApart c (change_at body d)) e index all, rest.1 (All-tail (λ d. AreApart c (change_at body d)) e index all))),
      )

  apart_pairs : (index : List (List ℕ)) → AllApart (changes_at body index) ↔ Pairs EntriesApart index
  apart_pairs [] = ((λ none. tt), (λ none name. tt))
  apart_pairs (e ∷ index) =
      let c = change_at body e in
      let next = all_apart_next c (changes_at body index) (changes_at body (e ∷ index)) refl in
      let rest = apart_pairs index in (
        (λ all. let both = next.0 all in ((first_apart c index).0 both.0, rest.0 both.1)),
        (λ pairs. next.1 ((first_apart c index).1 pairs.0, rest.1 pairs.1)),
      )

  pub apart_entries : (index : List (List ℕ)) → IsRising index → AllApart (changes_at body index) ↔ AreApartIn body index
  apart_entries index rising = (
    (λ all e d is_e is_d differ. ⊎_elim (λ first. first) (λ second. apart_turned (change_at body d) (change_at body e) second)
        (pairs_in EntriesApart index ((apart_pairs index).0 all) e d is_e is_d differ)),
    (λ entries. (apart_pairs index).1 (pairs_from (λ e d. place_of e < place_of d) EntriesApart index rising
        (λ e d is_e is_d up. entries e d is_e is_d (λ same. let places = ap place_of same in omega (arith, up, places))))),
  )

  -- the same for an index in another order
  pub apart_shuffled : (index sorted : List (List ℕ)) → IsPermutation index sorted → IsRising index
      → AreApartIn body sorted ↔ AllApart (changes_at body index)
  apart_shuffled index sorted same rising =
      let entries = apart_entries index rising in (
        (λ apart. entries.1 (λ e d is_e is_d differ. apart e d (in_original index sorted same e is_e) (in_original index sorted same d is_d) differ)),
        (λ all e d is_e is_d differ. entries.0 all e d (in_shuffled index sorted same e is_e) (in_shuffled index sorted same d is_d) differ),
      )

  pub allowed_shuffled : (index sorted : List (List ℕ)) → IsPermutation index sorted → All IsAllowed (changes_at body index) → All IsAllowed (changes_at body sorted)
  allowed_shuffled index sorted same allowed =
      All-permutation IsAllowed (changes_at body index) (changes_at body sorted) (IsPermutation-map (change_at body) index sorted same) allowed

  -- the changes of one file, by their entries
  abbrev is_named : List ℕ → List ℕ → Bool
  is_named name e = bytes_eq (name_of (change_at body e)) name

  of_file_entries : (name : List ℕ) (index : List (List ℕ)) → of_file name (changes_at body index) ≡ changes_at body (filter (is_named name) index)
  of_file_entries name [] = refl
  of_file_entries name (e ∷ index) = elim (cases_Bool (is_named name e)) [
    | inl hit ↦ of_file_yes name (change_at body e) (changes_at body index) hit ∙ ap (λ (l : List Change). change_at body e ∷ l) (of_file_entries name index)
        ∙ ap (λ (b : Bool). changes_at body (cond b (e ∷ filter (is_named name) index) (filter (is_named name) index))) (sym hit)
    | inr miss ↦ of_file_no name (change_at body e) (changes_at body index) miss ∙ of_file_entries name index
        ∙ ap (λ (b : Bool). changes_at body (cond b (e ∷ filter (is_named name) index) (filter (is_named name) index))) (sym miss)
  ]

  of_file_sorted : (index sorted : List (List ℕ)) → IsPermutation index sorted → IsRising index → Pairs (StandsBefore body) sorted → (name : List ℕ)
      → of_file name (changes_at body sorted) ≡ of_file name (changes_at body index)
  of_file_sorted index sorted same rising order name =
      of_file_entries name sorted
      ∙ ap (changes_at body) (same_rising place_of (filter (is_named name) sorted) (filter (is_named name) index)
      (filtered_pairs (is_named name) (StandsBefore body) (λ e d. place_of e < place_of d) sorted order in_file)
      (filtered_pairs (is_named name) (λ e d. place_of e < place_of d) (λ e d. place_of e < place_of d) index rising (λ e d hit hit' up. up))
      (λ e is. let both = in_filtered (is_named name) sorted e is in into_filtered (is_named name) index e (in_shuffled index sorted same e both.0) both.1)
      (λ e is. let both = in_filtered (is_named name) index e is in into_filtered (is_named name) sorted e (in_original index sorted same e both.0) both.1))
      ∙ sym (of_file_entries name index)
    where
      in_file : (e d : List ℕ) → (is_named name) e ≡ true → (is_named name) d ≡ true → StandsBefore body e d → place_of e < place_of d
      in_file e d hit is_d (inl names) =
          let first = (bytes_eq-Decides (name_of (change_at body e)) name).0 hit in
          let second = (bytes_eq-Decides (name_of (change_at body d)) name).0 is_d in
          absurd (not_before_itself name (subst (λ n. IsNameBefore n name) first (subst (λ n. IsNameBefore (name_of (change_at body e)) n) second names)))
      in_file e d hit is_d (inr here) = here.1

  pub fits_shuffled : (index sorted : List (List ℕ)) → IsPermutation index sorted → IsRising index → Pairs (StandsBefore body) sorted → (files : Files)
      → Fits (changes_at body sorted) files ↔ Fits (changes_at body index) files
  fits_shuffled index sorted same rising order files = (
    (λ fits name. subst (λ l. FitsFile l (files name)) (of_file_sorted index sorted same rising order name) (fits name)),
    (λ fits name. subst (λ l. FitsFile l (files name)) (sym (of_file_sorted index sorted same rising order name)) (fits name)),
  )

  -- what the index of a body tells are its changes
  pub index_told : (count n : ℕ) (index : List (List ℕ)) (cs : List Change) → n ≡ count → changes_of count body ≡ Some cs → changes_of n body ≡ Some (changes_at body index)
      → changes_at body index ≡ cs
  index_told count n index cs same is told =
      ap (λ (o : Option (List Change)). unwrap_or o []) (sym told ∙ ap (λ (k : ℕ). changes_of k body) same ∙ is)
