-- Changes that fit the files, by an index of them that stands by file.
use Rattle.std.proofs.Common.{All, ◌≡◌, ◌≢◌, ◌⊎◌, inl, inr, ℕ, ◌^◌, ◌<◌, ◌≤◌, List, [], ◌∷◌, ◌++◌, length, Option, refl, sym, ◌∙◌, ap, subst, arith, append_assoc}
use Rattle.std.proofs.lemmas.Bool.{false≢true}
use Rattle.std.proofs.lemmas.List.{append-nil}
use Rattle.vbm_ports.specs.Files.{Files, bytes_of}
use Rattle.vbm_ports.specs.Names.{is_medium_name, is_inner_name, IsStoreName}
use Rattle.vbm_intent.specs.declared.change.Change.{Change}
use Rattle.vbm_intent.specs.Changes.{name_of, effect, file_after, of_file, changed, start_of, IsAllowed, Fits}
use Rattle.vbm_intent.specs.Index.{change_at, changes_at, IsIn, Pairs, IsNameBefore, StandsBefore}
use Rattle.vbm_intent.proofs.Applying.{cases_name, of_file_yes, of_file_no, of_file-append, file_after-append, named_self, next_fits}
use Rattle.vbm_intent.proofs.Fitting.{fits_one_more}
use Rattle.vbm_intent.proofs.Indexed.{allowed_in}
use Rattle.vbm_intent.proofs.Names.{not_before_itself, names_before}
use Rattle.vbm_intent.proofs.Members.{in_back, in_either, pairs_split}
use Rattle.vbm_intent.proofs.Notes.{changes_at-append}
use Rattle.vbm_ports.specs.declared.disk.TheConstants.{LONGEST_FILE}

abbrev pub IsNameUpTo : List ℕ → List ℕ → Type 0
IsNameUpTo first second = (first ≡ second) ⊎ IsNameBefore first second

-- The changes of the first entries fit the files, and leave the file of this name with this length.
pub record FitSoFar (tells : Type 0) (body : List ℕ) (index rest : List (List ℕ)) (name : List ℕ) (len : ℕ) (files : Files) : Type 0 where
  pub done : List (List ℕ)
  pub parts : index ≡ done ++ rest
  pub before : (e : List ℕ) → IsIn done e → IsNameUpTo (name_of (change_at body e)) name
  pub ahead : (e : List ℕ) → IsIn rest e → IsNameUpTo name (name_of (change_at body e))
  pub bound : len ≤ LONGEST_FILE
  pub fits : tells → Fits (changes_at body done) files
  pub long : tells → 0 < length name → length (bytes_of (changed (changes_at body done) files name)) ≡ len

no_empty_name : IsStoreName [] → ⊥
unfolding is_medium_name is_inner_name
no_empty_name is = false≢true is

some_name : (name : List ℕ) → IsStoreName name → 0 < length name
some_name [] is = absurd (no_empty_name is)
some_name (b ∷ name) is = omega arith

pub none_fit_yet : (tells : Type 0) (body : List ℕ) (index : List (List ℕ)) (files : Files) → FitSoFar tells body index index [] 0 files
none_fit_yet tells body index files = record {
  done = [];
  parts = refl;
  before = λ e is. absurd is;
  ahead = λ e is. first (name_of (change_at body e));
  bound = omega arith;
  fits = λ told name. tt;
  long = λ told some. absurd (omega (arith, some));
}
  where
    first : (name : List ℕ) → IsNameUpTo [] name
    first [] = inl refl
    first (b ∷ name) = inr refl

of_no_file : (body : List ℕ) (done : List (List ℕ)) (name : List ℕ) → ((e : List ℕ) → IsIn done e → name_of (change_at body e) ≢ name) → of_file name (changes_at body done) ≡ []
of_no_file body [] name other = refl
of_no_file body (e ∷ done) name other = elim (cases_name (name_of (change_at body e)) name) [
  | inl same ↦ absurd (other e (inl refl) same.1)
  | inr miss ↦ of_file_no name (change_at body e) (changes_at body done) miss.0 ∙ of_no_file body done name (λ d is. other d (inr is))
]

module _ (tells : Type 0) (body : List ℕ) (index rest behind : List (List ℕ)) (entry name : List ℕ) (len : ℕ) (files : Files)
    (so_far : FitSoFar tells body index rest name len files) (next : rest ≡ entry ∷ behind) where
  abbrev here : Change
  here = change_at body entry

  entry_in : IsIn rest entry
  entry_in = subst (λ l. IsIn l entry) (sym next) (inl refl)

  -- no earlier change is of a file whose name is new
  new_file : (name_of here ≢ name) → of_file (name_of here) (changes_at body so_far.done) ≡ []
  new_file differ = of_no_file body so_far.done (name_of here) (λ e is same. elim (so_far.before e is) [
    | inl last ↦ differ (sym same ∙ last)
    | inr before ↦ elim (so_far.ahead entry entry_in) [
      | inl last ↦ differ (sym last)
      | inr after ↦ not_before_itself (name_of here) (names_before (name_of here) name (name_of here) (subst (λ n. IsNameBefore n name) same before) after)
    ]
  ])

  -- the length of its file by now
  pub length_by_now : (now : ℕ) → tells → 0 < length (name_of here) → (name_of here ≡ name → now ≡ len) → ((name_of here ≡ name → ⊥) → now ≡ length (bytes_of (files (name_of here))))
      → length (bytes_of (changed (changes_at body so_far.done) files (name_of here))) ≡ now
  length_by_now now told some same other = elim (cases_name (name_of here) name) [
    | inl hit ↦
        let named = hit.1 in
        subst (λ n. length (bytes_of (changed (changes_at body so_far.done) files n)) ≡ len) (sym named) (so_far.long told (subst (λ n. 0 < length n) named some)) ∙ sym (same named)
    | inr miss ↦
        ap (λ (l : List Change). length (bytes_of (file_after l (files (name_of here))))) (new_file miss.1) ∙ sym (other miss.1)
  ]

  pub whole : changes_at body index ≡ changes_at body so_far.done ++ here ∷ changes_at body behind
  whole = ap (changes_at body) (so_far.parts ∙ ap (λ (l : List (List ℕ)). so_far.done ++ l) next) ∙ changes_at-append body so_far.done (entry ∷ behind)

  -- it begins within its file if all fit
  pub begins : Fits (changes_at body index) files → start_of here ≤ length (bytes_of (changed (changes_at body so_far.done) files (name_of here)))
  begins fits = next_fits (changes_at body index) (changes_at body so_far.done) here (changes_at body behind) files whole fits

  pub fit_more : (now new : ℕ) → Pairs (StandsBefore body) index → (tells → length (bytes_of (changed (changes_at body so_far.done) files (name_of here))) ≡ now) → start_of here ≤ now
      → new ≤ LONGEST_FILE → ((file : Option (List ℕ)) → length (bytes_of file) ≡ now → length (bytes_of (effect here file)) ≡ new)
      → FitSoFar tells body index behind (name_of here) new files
  fit_more now new order is_now within bound leaves = record {
    done = so_far.done ++ entry ∷ [];
    parts = all ∙ sym (append_assoc so_far.done (entry ∷ []) behind);
    before = λ e is. elim (in_either so_far.done (entry ∷ []) e is) [
      | inl earlier ↦ up_to e entry (pairs_split (StandsBefore body) so_far.done (entry ∷ behind) (subst (Pairs (StandsBefore body)) all order) e entry earlier (inl refl))
      | inr (inl same) ↦ inl (ap (λ (x : List ℕ). name_of (change_at body x)) (sym same))
      | inr (inr none) ↦ absurd none
    ];
    ahead = λ e is. up_to entry e (pairs_split (StandsBefore body) (so_far.done ++ entry ∷ []) behind
        (subst (Pairs (StandsBefore body)) (all ∙ sym (append_assoc so_far.done (entry ∷ []) behind)) order) entry e (in_end so_far.done) is);
    bound = bound;
    fits = λ told. subst (λ l. Fits l files) (sym one_more)
        (fits_one_more (changes_at body so_far.done) here files (so_far.fits told) (omega (arith, is_now told, within)));
    long = λ told some.
        ap (λ (l : List Change). length (bytes_of (changed l files (name_of here)))) one_more
        ∙ ap (λ (l : List Change). length (bytes_of (file_after l (files (name_of here)))))
        (of_file-append (name_of here) (changes_at body so_far.done) (here ∷ [])
        ∙ ap (λ (l : List Change). of_file (name_of here) (changes_at body so_far.done) ++ l) (of_file_yes (name_of here) here [] (named_self here)))
        ∙ ap (λ (f : Option (List ℕ)). length (bytes_of f)) (file_after-append (of_file (name_of here) (changes_at body so_far.done)) (here ∷ []) (files (name_of here)))
        ∙ leaves (changed (changes_at body so_far.done) files (name_of here)) (is_now told);
  }
    where
      all : index ≡ so_far.done ++ entry ∷ behind
      all = so_far.parts ∙ ap (λ (l : List (List ℕ)). so_far.done ++ l) next

      one_more : changes_at body (so_far.done ++ entry ∷ []) ≡ changes_at body so_far.done ++ here ∷ []
      one_more = changes_at-append body so_far.done (entry ∷ [])

      up_to : (e d : List ℕ) → StandsBefore body e d → IsNameUpTo (name_of (change_at body e)) (name_of (change_at body d))
      up_to e d (inl before) = inr before
      up_to e d (inr same) = inl same.0

      in_end : (xs : List (List ℕ)) → IsIn (xs ++ entry ∷ []) entry
      in_end [] = inl refl
      in_end (x ∷ xs) = inr (in_end xs)

  here_allowed : All IsAllowed (changes_at body index) → IsAllowed here
  here_allowed allowed = allowed_in body index allowed entry (subst (λ l. IsIn l entry) (sym so_far.parts) (in_back so_far.done rest entry entry_in))

  pub named_allowed : (c : Change) → c ≡ here → All IsAllowed (changes_at body index) → IsAllowed c
  named_allowed c is_c allowed = subst IsAllowed (sym is_c) (here_allowed allowed)

  pub named_store : (c : Change) (n : List ℕ) → c ≡ here → n ≡ name_of c → All IsAllowed (changes_at body index) → IsStoreName n
  named_store c n is_c is_n allowed = subst IsStoreName (sym is_n) (named_allowed c is_c allowed).store

  -- the walk comes to this change, and its file has this length by now
  module _ (c : Change) (n : List ℕ) (now : ℕ) (current : Files) (is_c : c ≡ here) (is_n : n ≡ name_of c) (allowed : All IsAllowed (changes_at body index))
      (same_files : tells → current ≡ files) (same : n ≡ name → now ≡ len) (other : tells → (n ≡ name → ⊥) → now ≡ length (bytes_of (current n))) where
    named : n ≡ name_of here
    named = is_n ∙ ap name_of is_c

    by_now : tells → length (bytes_of (changed (changes_at body so_far.done) files (name_of here))) ≡ now
    by_now told = length_by_now now told (some_name (name_of here) (here_allowed allowed).store)
        (λ is. same (named ∙ is))
        (λ differ. other told (λ is. differ (sym named ∙ is)) ∙ (λ i. length (bytes_of (same_files told i (named i)))))

    pub goes_on : (new at : ℕ) → Pairs (StandsBefore body) index → at ≡ start_of c → at ≤ now → new ≤ LONGEST_FILE
        → ((file : Option (List ℕ)) → length (bytes_of file) ≡ now → length (bytes_of (effect c file)) ≡ new) → FitSoFar tells body index behind n new files
    goes_on new at order is_at within bound leaves =
        subst (λ m. FitSoFar tells body index behind m new files) (sym named)
        (fit_more now new order by_now (omega (arith, within, is_at, ap start_of is_c)) bound
        (λ file is. ap (λ (x : Change). length (bytes_of (effect x file))) (sym is_c) ∙ leaves file is))

    pub stops : (at : ℕ) → at ≡ start_of c → now < at → tells → Fits (changes_at body index) files → ⊥
    stops at is_at beyond told fits = omega (arith, begins fits, by_now told, is_at, beyond, ap start_of is_c)

pub all_fit : (tells : Type 0) (body : List ℕ) (index rest : List (List ℕ)) (name : List ℕ) (len : ℕ) (files : Files) → FitSoFar tells body index rest name len files → rest ≡ [] → tells
    → Fits (changes_at body index) files
all_fit tells body index rest name len files so_far end told =
    subst (λ l. Fits (changes_at body l) files) (sym (so_far.parts ∙ ap (λ (l : List (List ℕ)). so_far.done ++ l) end ∙ append-nil so_far.done)) (so_far.fits told)
