-- Maps by name, as lists of what they hold.
use Rattle.std.proofs.Common.{◌≡◌, ℕ, zero, suc, ◌≤◌, ◌<◌, inl, inr, Bool, true, false, not, cond, ltb, ◌||◌, List, [], ◌∷◌, ◌++◌, length, get_or, take, Option, Some, None, IsTrue, IsFalse, refl, sym, ap, ◌∙◌, arith}
use Rattle.std.specs.List.{AllByRecursion, IsDistinct, insert, position_or_len, slice_get}
use Rattle.std.specs.List.Sorted.{IsStrictlySortedBy, IsNonDecreasingBy}
use Rattle.std.specs.Map.{keys_of, values_of, lookup, remove_entry}
use Rattle.std.specs.Str.{bytes_eq}
use Rattle.std.specs.Ordering.{nat_cmp, ordering_index, ordering_reverse, is_eq}
use Rattle.std.specs.Cmp.Lexicographic.{slice_cmp}
use Rattle.std.specs.declared.cmp.Ordering.{Ordering}
use Rattle.std.specs.declared.cmp.Ordering.TheVariants.{Less, Equal, Greater}
use Rattle.std.proofs.lemmas.Bool.{cases_lt, le-ltb}
use Rattle.std.proofs.lemmas.Cmp.{nat_list_cmp_total, nat_list_eq_equiv, alike_right}
use Rattle.std.proofs.lemmas.List.{map-append, length-map, get_or_past}
use Rattle.std.proofs.lemmas.Map.Keys.{Less-from_sorted, IsDistinct-head, IsDistinct-tail}
use Rattle.std.proofs.lemmas.Map.Text.{is_eq-slice_cmp}
use Rattle.indexmap.specs.Calls.{IsSearchIndex}
use Rattle.indexmap.specs.IndexMap.{insert_entry, move_index, index_before}
use Rattle.indexmap.proofs.MoveLemmas.{push_moved}
use Rattle.vbm_named.specs.Names.{Name, is_before, find_by, has_name, put_by, without, Rises}
use Rattle.vbm_named.specs.Keyed.{AreKeyed}
use Rattle.vbm_named.proofs.Lists.{less_is, All-push}

abbrev order : Name → Name → Ordering
order = slice_cmp nat_cmp

index_top : (o : Ordering) → ordering_index o ≤ 2
index_top Less = omega arith
index_top Equal = omega arith
index_top Greater = omega arith

-- what comes first compares as low
ranks : (a b c : Name) (o : Ordering) → order b c ≡ o → order a b ≡ Less → ordering_index (order a c) ≤ ordering_index o
ranks a b c Less e h = rw (nat_list_cmp_total.trans a b c h e) (omega arith)
ranks a b c Equal e h = rw (sym (alike_right nat_list_cmp_total b c a e) ∙ h) (omega arith)
ranks a b c Greater e h = index_top (order a c)

neither : (a b : Bool) → (a || b) ≡ false → (a ≡ false) × (b ≡ false)
neither true b h = absurd cc
neither false b h = (refl, h)

module _ {K X : Type 0} (text : K → Name) (name_of : X → Name) where
  abbrev Keyed : List (K × X) → Type 0
  Keyed es = AreKeyed text name_of es

  abbrev Lacks : Name → List X → Type 0
  Lacks name xs = IsFalse (has_name name_of name xs)

  abbrev named : Name → K → Bool
  named name k = bytes_eq name (text k)

  abbrev found : Name → List (K × X) → Option X
  found name es = lookup (named name) es

  -- a key is found as its item's name is
  turned : (name : Name) (e : K × X) → text e.0 ≡ name_of e.1 → named name e.0 ≡ bytes_eq (name_of e.1) name
  turned name e h = ap (bytes_eq name) h ∙ nat_list_eq_equiv.symm name (name_of e.1)

  not_first : (b : Bool) (x : X) (r : Option X) → cond b (Some x) r ≡ None → (b ≡ false) × (r ≡ None)
  not_first true x r h = absurd cc
  not_first false x r h = (refl, h)

  pub found_is : (name : Name) (es : List (K × X)) → Keyed es → found name es ≡ find_by name_of name (values_of es)
  found_is name [] keyed = refl
  found_is name (e ∷ es) keyed = rw (turned name e keyed.0, found_is name es keyed.1) refl

  lacks_found : (name : Name) (es : List (K × X)) → Keyed es → Lacks name (values_of es) → found name es ≡ None
  lacks_found name [] keyed lacks = refl
  lacks_found name (e ∷ es) keyed lacks =
      let h = neither (bytes_eq (name_of e.1) name) (has_name name_of name (values_of es)) lacks in
      rw (turned name e keyed.0, h.0) (lacks_found name es keyed.1 h.1)

  found_lacks : (name : Name) (es : List (K × X)) → Keyed es → found name es ≡ None → Lacks name (values_of es)
  found_lacks name [] keyed none = refl
  found_lacks name (e ∷ es) keyed none =
      let h = not_first (named name e.0) e.1 (found name es) none in
      rw (sym (turned name e keyed.0) ∙ h.0) (found_lacks name es keyed.1 h.1)

  -- ---- a removal

  pub keyed_remove : (test : K → Bool) (es : List (K × X)) → Keyed es → Keyed (remove_entry test es)
  keyed_remove test [] keyed = tt
  keyed_remove test (e ∷ es) keyed =
      elim (test e.0) as (λ b. Keyed (cond b es (e ∷ remove_entry test es))) [ true ↦ keyed.1 | false ↦ (keyed.0, keyed_remove test es keyed.1) ]

  keeps_all : (name : Name) (xs : List X) → Lacks name xs → without name_of name xs ≡ xs
  keeps_all name [] lacks = refl
  keeps_all name (x ∷ xs) lacks =
      let h = neither (bytes_eq (name_of x) name) (has_name name_of name xs) lacks in
      rw h.0 (ap (λ ys. x ∷ ys) (keeps_all name xs h.1))

  -- a name that a removal leaves no more of was there once at most
  pub remove_is : (name : Name) (es : List (K × X)) → Keyed es → found name (remove_entry (named name) es) ≡ None
      → values_of (remove_entry (named name) es) ≡ without name_of name (values_of es)
  remove_is name [] keyed none = refl
  remove_is name (e ∷ es) keyed none =
      let left = remove_entry (named name) es in
      let others = without name_of name (values_of es) in
      rw (sym (turned name e keyed.0)) (elim (named name e.0) as (λ b. named name e.0 ≡ b → found name (cond b es (e ∷ left)) ≡ None
      → values_of (cond b es (e ∷ left)) ≡ cond (not b) (e.1 ∷ others) others) [
        | true ↦ λ t h. sym (keeps_all name (values_of es) (found_lacks name es keyed.1 h))
        | false ↦ λ t h. ap (λ xs. e.1 ∷ xs) (remove_is name es keyed.1 (rw t at h))
      ] refl none)

  -- ---- a new entry

  keyed_insert : (es : List (K × X)) (i : ℕ) (key : K) (x : X) → Keyed es → text key ≡ name_of x → Keyed (insert es i (key, x))
  keyed_insert es zero key x keyed is = (is, keyed)
  keyed_insert [] (suc i) key x keyed is = (is, tt)
  keyed_insert (e ∷ es) (suc i) key x keyed is = (keyed.0, keyed_insert es i key x keyed.1 is)

  last_place : (name : Name) (es : List (K × X)) → found name es ≡ None → position_or_len (named name) (keys_of es) ≡ length es
  last_place name [] none = refl
  last_place name (e ∷ es) none =
      let h = not_first (named name e.0) e.1 (found name es) none in
      rw h.0 (omega (arith, last_place name es h.1))

  abbrev Stands : Ordering → List (K × X) → K → ℕ → Type 0
  Stands o es key j = order (text (get_or (keys_of es) j key)) (text key) ≡ o

  -- between the names before it and the names after it an item is at its place
  put_is : (es : List (K × X)) (i : ℕ) (key : K) (x : X) → Keyed es → text key ≡ name_of x → i ≤ length es
      → ((j : ℕ) → j < i → Stands Less es key j) → ((j : ℕ) → i ≤ j → j < length es → Stands Greater es key j)
      → values_of (insert es i (key, x)) ≡ put_by name_of x (values_of es)
  unfolding put_by
  put_is [] zero key x keyed is le low high = refl
  put_is [] (suc i) key x keyed is le low high = absurd (omega (arith, le))
  put_is (e ∷ es) zero key x keyed is le low high =
      let first : order (name_of x) (name_of e.1) ≡ Less =
      rw (← is, ← keyed.0) (nat_list_cmp_total.antisymm (text key) (text e.0) ∙ ap ordering_reverse (high 0 (omega arith) (omega arith))) in
      rw first refl
  put_is (e ∷ es) (suc i) key x keyed is le low high =
      let later : order (name_of x) (name_of e.1) ≡ Greater =
      rw (← is, ← keyed.0) (nat_list_cmp_total.antisymm (text key) (text e.0) ∙ ap ordering_reverse (low 0 (omega arith))) in
      rw later (ap (λ xs. e.1 ∷ xs) (put_is es i key x keyed.1 is (omega (arith, le)) (λ j lt. low (suc j) (omega (arith, lt)))
      (λ j ge lt. high (suc j) (omega (arith, ge)) (omega (arith, lt)))))

  after_each : (name : Name) (k : K) (es : List (K × X)) → Keyed es → text k ≡ name
      → AllByRecursion (λ y. IsTrue (is_before name (name_of y))) (values_of es) → AllByRecursion (λ j. order (text k) (text j) ≡ Less) (keys_of es)
  after_each name k [] keyed is all = tt
  after_each name k (e ∷ es) keyed is all =
      (rw (is, keyed.0) (less_is (order name (name_of e.1)) all.0), after_each name k es keyed.1 is all.1)

  strictly : (es : List (K × X)) → Keyed es → Rises name_of (values_of es) → IsStrictlySortedBy (λ j k. order (text j) (text k)) (keys_of es)
  unfolding IsStrictlySortedBy
  strictly [] keyed rises = tt
  strictly (e ∷ es) keyed rises = (after_each (name_of e.1) e.0 es keyed.1 keyed.0 rises.0, strictly es keyed.1 rises.1)

  ranks_rise : (name : Name) (es : List (K × X)) → Keyed es → Rises name_of (values_of es)
      → IsNonDecreasingBy (λ k. ordering_index (order (text k) name)) (keys_of es)
  ranks_rise name es keyed rises i j d le lt =
      elim (cases_lt i j) [
        | inl less ↦ ranks (text (get_or (keys_of es) i d)) (text (get_or (keys_of es) j d)) name _ refl
            (Less-from_sorted (λ a b. order (text a) (text b)) (keys_of es) i j d (strictly es keyed rises) less lt)
        | inr ge ↦ let same : i ≡ j = omega arith in rw same (omega arith)
      ]

  other_name : (name : Name) (es : List (K × X)) → found name es ≡ None → (j : ℕ) (d : K) → j < length es
      → order (text (get_or (keys_of es) j d)) name ≡ Equal → ⊥
  other_name name [] none j d lt e = omega arith
  other_name name (e ∷ es) none zero d lt same =
      let is : named name e.0 ≡ true = nat_list_eq_equiv.symm name (text e.0) ∙ sym (is_eq-slice_cmp (text e.0) name) ∙ ap is_eq same in
      let bad : Some e.1 ≡ None = rw is at none in
      absurd cc
  other_name name (e ∷ es) none (suc j) d lt same =
      other_name name es (not_first (named name e.0) e.1 (found name es) none).1 j d (omega (arith, lt)) same

  -- where a search of rising names ends, a new item is at its place
  searched_is : (es : List (K × X)) (i : ℕ) (key : K) (x : X) → Keyed es → Rises name_of (values_of es) → text key ≡ name_of x
      → found (text key) es ≡ None → IsSearchIndex (λ k. order (text k) (text key)) (keys_of es) i
      → values_of (insert es i (key, x)) ≡ put_by name_of x (values_of es)
  searched_is [] i key x keyed rises is none ends =
      put_is [] i key x keyed is ends.0 (λ j lt. absurd (omega (arith, ends.0, lt))) (λ j ge lt. absurd (omega (arith, lt)))
  searched_is (e ∷ es) i key x keyed rises is none ends =
      let len : length (keys_of (e ∷ es)) ≡ length (e ∷ es) = length-map (e ∷ es) (λ (p : K × X). p.0) in
      elim ends.1 [
        | inl at ↦ absurd (elim (cases_lt i (length (e ∷ es))) [
          | inl lt ↦ other_name (text key) (e ∷ es) none i key lt (at key)
          | inr ge ↦ other_name (text key) (e ∷ es) none 0 key (omega arith)
              (rw (get_or_past (keys_of (e ∷ es)) i e.0 (omega (arith, ge, len))) at (at e.0))
        ])
        | inr gap ↦
            let parted = gap (ranks_rise (text key) (e ∷ es) keyed rises) in
            put_is (e ∷ es) i key x keyed is (omega (arith, ends.0, len)) (λ j lt. parted.0 j key (omega arith) lt)
            (λ j ge lt. parted.1 j key ge (omega (arith, lt, len)))
      ]

  abbrev equal : K → K → Bool
  equal j k = bytes_eq (text j) (text k)

  appended : (es : List (K × X)) (key : K) (x : X) → found (text key) es ≡ None → insert_entry equal es key x ≡ es ++ (key, x) ∷ []
  appended [] key x none = refl
  appended (e ∷ es) key x none =
      let h = not_first (equal key e.0) e.1 (found (text key) es) none in
      rw h.0 (ap (λ fs. e ∷ fs) (appended es key x h.1))

  module _ (es new : List (K × X)) (key : K) (x : X) (keyed : Keyed es) (is : text key ≡ name_of x) (lacks : Lacks (name_of x) (values_of es)) where
    none : found (text key) es ≡ None
    none = lacks_found (text key) es keyed (rw is lacks)

    -- an item of another name is appended
    pub pushed : new ≡ insert_entry equal es key x → Keyed new × (values_of new ≡ values_of es ++ x ∷ [])
    pushed entries =
        rw (entries ∙ appended es key x none)
        (All-push (λ (e : K × X). text e.0 ≡ name_of e.1) es (key, x) keyed is, map-append (λ (e : K × X). e.1) es ((key, x) ∷ []))

    -- an item of another name is put where a search of rising names ends
    pub put : Rises name_of (values_of es) → (at i : ℕ) → IsSearchIndex (λ k. order (text k) (text key)) (keys_of es) i
        → at ≡ index_before (position_or_len (equal key) (keys_of es)) i
        → new ≡ move_index (insert_entry equal es key x) (position_or_len (equal key) (keys_of es)) at
        → Keyed new × (values_of new ≡ put_by name_of x (values_of es))
    put rises at i ends place entries =
        let le : i ≤ length es = omega (arith, ends.0, length-map es (λ (e : K × X). e.0)) in
        let early : ltb (length es) i ≡ false = le-ltb _ _ le in
        let at-is : at ≡ i = place ∙ rw (last_place (text key) es none, early) refl in
        let moved : new ≡ insert es i (key, x) =
        entries ∙ rw (appended es key x none, last_place (text key) es none, at-is) (push_moved es (key, x) i le) in
        rw moved (keyed_insert es i key x keyed is, searched_is es i key x keyed rises is none ends)

  -- ---- each name once

  first_other : (name : Name) (es : List (K × X)) (i : ℕ) (x : X) → Keyed es → AllByRecursion (λ k. named name k ≡ false) (keys_of es)
      → slice_get (values_of es) i ≡ Some x → bytes_eq name (name_of x) ≡ false
  first_other name [] i x keyed all at = absurd cc
  first_other name (e ∷ es) zero x keyed all at =
      let same : e.1 ≡ x = cc in ap (λ y. bytes_eq name (name_of y)) (sym same) ∙ ap (bytes_eq name) (sym keyed.0) ∙ all.0
  first_other name (e ∷ es) (suc i) x keyed all at = first_other name es i x keyed.1 all.1 at

  -- no item before has the name
  pub earlier_lack : (es : List (K × X)) (i : ℕ) (x : X) → Keyed es → IsDistinct equal (keys_of es) → slice_get (values_of es) i ≡ Some x
      → Lacks (name_of x) (take i (values_of es))
  earlier_lack es zero x keyed distinct at = refl
  earlier_lack [] (suc i) x keyed distinct at = refl
  earlier_lack (e ∷ es) (suc i) x keyed distinct at =
      let other : bytes_eq (name_of e.1) (name_of x) ≡ false =
      rw (← keyed.0) (first_other (text e.0) es i x keyed.1 (IsDistinct-head equal e.0 (keys_of es) distinct) at) in
      rw (other, earlier_lack es i x keyed.1 (IsDistinct-tail equal e.0 (keys_of es) distinct) at) refl
