-- The record of a plan, with one change more.
use Rattle.std.proofs.Common.{◌≡◌, ⊎_elim, ℕ, suc, ◌+◌, ◌-◌, ◌<◌, ◌≤◌, ◌^◌, List, [], ◌∷◌, ◌++◌, length, take, drop, Option, Some, None, Bool, false, cond, sym, ◌∙◌, ap, subst, arith, length-append, length-drop}
use Rattle.std.proofs.lemmas.List.{take_all, take_at, drop-append-le}
use Rattle.std.proofs.lemmas.List.Elements.{All-push}
use Rattle.std.proofs.lemmas.Nat.{from_le_bytes-to_le_bytes_4}
use Rattle.std.proofs.lemmas.Bool.{cases_Bool, le-leb}
use Rattle.std.proofs.lemmas.Slice.Eq.{bytes_eq-Decides}
use Rattle.std.specs.Int.{to_le_bytes, w32}
use Rattle.std.specs.Str.{bytes_eq}
use Rattle.std.specs.Prelude.{nat_le, unwrap_or}
use Rattle.vbm_ports.proofs.NameLemmas.{store_name_short}
use Rattle.vbm_intent.specs.declared.change.Change.{Change}
use Rattle.vbm_intent.specs.declared.change.Change.TheVariants.{Write, Fill, Cut, Remove}
use Rattle.vbm_intent.specs.Changes.{name_of, of_file, IsWithinLimits, IsAllowed, IsApart}
use Rattle.vbm_intent.specs.Record.{body_length, count_of, changes_of, changes_in, IsPlan, IsRecord}
use Rattle.vbm_intent.specs.Plan.{change_bytes, text_size, body_size, record_of, plan_of, spare_in, with_change, IsWholeRecord}
use Rattle.vbm_intent.proofs.Pushes.{text_length, NumbersFit, read_change, Pushed, pushed}
use Rattle.vbm_intent.specs.declared.limits.TheConstants.{LONGEST_BODY, MOST_CHANGES}

-- what the changes of a record are read from
pub read_whole : (text : List ℕ) → length text ≡ 8 + body_length text → changes_in text ≡ changes_of (count_of text) (drop 8 text)
read_whole text whole =
    ap (λ (b : Bool). cond b (changes_of (count_of text) (take (body_length text) (drop 8 text))) None) (le-leb (8 + body_length text) (length text) (omega (arith, whole)))
    ∙ ap (λ (l : List ℕ). changes_of (count_of text) l) (take_all (body_length text) (drop 8 text) (omega (arith, whole, length-drop 8 text)))

module _ (text : List ℕ) (cs : List Change) (is : IsWholeRecord text cs) where
  pub body_read : changes_of (count_of text) (drop 8 text) ≡ Some cs
  body_read = sym (read_whole text is.whole) ∙ is.plan.changes

  pub parts : Pushed (count_of text) (drop 8 text) (Some cs)
  parts = subst (λ o. Pushed (count_of text) (drop 8 text) o) body_read (pushed (count_of text) (drop 8 text))

  pub whole_count : length cs ≡ count_of text
  whole_count = parts.0

  pub whole_size : length text ≡ 8 + body_size cs
  whole_size = omega (arith, is.whole, length-drop 8 text, parts.1)

pub numbers_fit : (c : Change) → IsWithinLimits c → text_size c ≤ LONGEST_BODY → NumbersFit c
numbers_fit (Write name at bytes) limits size = (omega (arith, limits.1), omega (arith, size))
numbers_fit (Fill name at len byte) limits size = (omega (arith, limits.2), omega (arith, limits.1))
numbers_fit (Cut name len) limits size = omega (arith, limits)
numbers_fit (Remove name) limits size = tt

pub of_file_end : (name : List ℕ) (c : Change) (cs : List Change) → bytes_eq (name_of c) name ≡ false → of_file name (cs ++ c ∷ []) ≡ of_file name cs
of_file_end name c [] other = ap (λ (b : Bool). cond b (c ∷ []) []) other
of_file_end name c (d ∷ cs) other = ap (λ (l : List Change). cond (bytes_eq (name_of d) name) (d ∷ l) l) (of_file_end name c cs other)

pub plan_push : (cs : List Change) (c : Change) → IsPlan cs → IsAllowed c → IsApart (of_file (name_of c) (cs ++ c ∷ [])) → IsPlan (cs ++ c ∷ [])
plan_push cs c plan allowed apart = record {
  allowed = All-push IsAllowed cs c plan.allowed allowed;
  apart = λ name. ⊎_elim
      (λ is. subst (λ n. IsApart (of_file n (cs ++ c ∷ []))) ((bytes_eq-Decides (name_of c) name).0 is) apart)
      (λ no. subst IsApart (sym (of_file_end name c cs no)) (plan.apart name))
      (cases_Bool (bytes_eq (name_of c) name));
}

-- a record with one change more has the changes, and that one at their end
pub whole_push : (text : List ℕ) (cs : List Change) (c : Change) → IsWholeRecord text cs → IsAllowed c → IsApart (of_file (name_of c) (cs ++ c ∷ []))
    → body_size cs + text_size c ≤ LONGEST_BODY → length cs < MOST_CHANGES → IsWholeRecord (with_change text c) (cs ++ c ∷ [])
whole_push text cs c is allowed apart small few = record {
  plan = record {
    changes = read_whole new new_whole ∙ ap (λ (n : ℕ). changes_of n body) new_count ∙ read_more;
    plan = plan_push cs c is.plan.plan allowed apart;
    size = subst (λ n. n ≤ LONGEST_BODY) (sym new_size) (omega (arith, old_size, small));
    count = subst (λ n. n ≤ MOST_CHANGES) (sym new_count) (omega (arith, old_count, few));
  };
  whole = new_whole;
}
  where
    new : List ℕ
    new = with_change text c

    body : List ℕ
    body = drop 8 text ++ change_bytes c

    size : ℕ
    size = (length text - 8) + text_size c

    old_size : length text ≡ 8 + body_size cs
    old_size = whole_size text cs is

    old_count : length cs ≡ count_of text
    old_count = whole_count text cs is

    new_size : body_length new ≡ size
    new_size = from_le_bytes-to_le_bytes_4 size (omega (arith, old_size, small))

    new_count : count_of new ≡ count_of text + 1
    new_count = from_le_bytes-to_le_bytes_4 (count_of text + 1) (omega (arith, old_count, few))

    body_long : length body ≡ size
    body_long = omega (arith, length-append (drop 8 text) (change_bytes c), length-drop 8 text, text_length c)

    new_whole : length new ≡ 8 + body_length new
    new_whole = omega (arith, body_long, new_size)

    next_count : suc (count_of text) ≡ count_of text + 1
    next_count = omega arith

    read_more : changes_of (count_of text + 1) body ≡ Some (cs ++ c ∷ [])
    read_more = subst (λ n. changes_of n body ≡ Some (cs ++ c ∷ [])) next_count
        ((parts text cs is).2 (change_bytes c) c (read_change c (numbers_fit c allowed.limits (omega (arith, small)))))

-- the size of a plan, from the length of its bytes
pub size_shown : (bytes : List ℕ) (cs : List Change) (n : ℕ) → IsWholeRecord (record_of bytes) cs → n ≡ length bytes → n - 8 ≡ body_size cs
size_shown [] cs n is same = omega (arith, whole_size (record_of []) cs is, same)
size_shown (b ∷ bytes) cs n is same = omega (arith, whole_size (b ∷ bytes) cs is, same)

pub text_some : (c : Change) → 2 ≤ text_size c
text_some (Write name at bytes) = omega arith
text_some (Fill name at len byte) = omega arith
text_some (Cut name len) = omega arith
text_some (Remove name) = omega arith

pub name_short : (c : Change) → IsAllowed c → length (name_of c) < 256
name_short c allowed = omega (arith, store_name_short (name_of c) allowed.store)

-- bytes that have one change more hold a plan with that change at its end
pub push_done : (old new : List ℕ) (cs : List Change) (c : Change) → new ≡ with_change (record_of old) c
    → plan_of old ≡ cs → IsWholeRecord (record_of old) (plan_of old) → IsAllowed c → IsApart (of_file (name_of c) (cs ++ c ∷ []))
    → body_size cs + text_size c ≤ LONGEST_BODY → length cs < MOST_CHANGES → IsWholeRecord (record_of new) (plan_of new) × (plan_of new ≡ cs ++ c ∷ [])
push_done old new cs c done was is allowed apart small few =
    let whole : IsWholeRecord (with_change (record_of old) c) (cs ++ c ∷ []) = whole_push (record_of old) cs c (subst (λ l. IsWholeRecord (record_of old) l) was is) allowed apart small few in
    let here : IsWholeRecord (record_of new) (cs ++ c ∷ []) = subst (λ l. IsWholeRecord l (cs ++ c ∷ [])) (sym (ap record_of done)) whole in
    let changes : plan_of new ≡ cs ++ c ∷ [] = ap (λ (o : Option (List Change)). unwrap_or o []) here.plan.changes in
    (subst (λ l. IsWholeRecord (record_of new) l) (sym changes) here, changes)

-- it takes no more room than its bytes
pub push_spare : (old new : List ℕ) (c : Change) (capacity capacity' : ℕ) → new ≡ with_change (record_of old) c
    → 8 ≤ length (record_of old) → capacity ≤ capacity' → spare_in capacity old ≤ spare_in capacity' new + text_size c
push_spare old new c capacity capacity' done head more =
    let grown : length (record_of new) ≡ length (with_change (record_of old) c) = ap (λ (l : List ℕ). length (record_of l)) done in
    omega (arith, grown, length-append (drop 8 (record_of old)) (change_bytes c), length-drop 8 (record_of old), text_length c, head, more)

-- a plan that is cleared gets back the room of its changes
pub clear_spare : (bytes : List ℕ) (cs : List Change) (capacity capacity' : ℕ) → IsWholeRecord (record_of bytes) cs → length bytes ≤ capacity → capacity ≤ capacity'
    → spare_in capacity bytes + body_size cs ≤ spare_in capacity' []
clear_spare [] cs capacity capacity' is room more = omega (arith, whole_size (record_of []) cs is, more)
clear_spare (b ∷ bytes) cs capacity capacity' is room more = omega (arith, whole_size (b ∷ bytes) cs is, room, more)

-- the head is set once the change stands behind the record
pub head_set : (text : List ℕ) (c : Change) (long new : List ℕ) (n size count : ℕ) → 8 ≤ length text → long ≡ text ++ change_bytes c
    → new ≡ to_le_bytes w32 size ++ (to_le_bytes w32 count ++ drop 8 long) → n ≡ length long → size ≡ n - 8 → count ≡ count_of text + 1
    → take n (new ++ drop (length new) long) ≡ with_change text c
head_set text c long new n size count head is_long is_new is_n is_size is_count =
    take_at new (drop (length new) long) n (omega (arith, ap (λ (l : List ℕ). length l) is_new, length-drop 8 long, is_n, long_enough))
    ∙ is_new
    ∙ (λ i. to_le_bytes w32 (same_size i) ++ (to_le_bytes w32 (is_count i) ++ same_body i))
  where
    long_length : length long ≡ length text + text_size c
    long_length = ap (λ (l : List ℕ). length l) is_long ∙ length-append text (change_bytes c) ∙ ap (λ (k : ℕ). length text + k) (text_length c)

    long_enough : 8 ≤ length long
    long_enough = omega (arith, long_length, head)

    same_size : size ≡ (length text - 8) + text_size c
    same_size = omega (arith, is_size, is_n, long_length, head)

    same_body : drop 8 long ≡ drop 8 text ++ change_bytes c
    same_body = ap (λ (l : List ℕ). drop 8 l) is_long ∙ drop-append-le 8 text (change_bytes c) head

-- a record has as many changes as it counts
pub record_count : (text : List ℕ) (cs : List Change) → IsRecord text cs → length cs ≡ count_of text
record_count text cs is = ⊎_elim
    (λ fits.
    let read : changes_of (count_of text) body ≡ Some cs = sym (ap (λ (b : Bool). cond b (changes_of (count_of text) body) None) fits) ∙ is.changes in
    let all : Pushed (count_of text) body (Some cs) = subst (λ o. Pushed (count_of text) body o) read (pushed (count_of text) body) in
    all.0)
    (λ no. let none : changes_in text ≡ None = ap (λ (b : Bool). cond b (changes_of (count_of text) body) None) no in absurd (cc (none, is.changes)))
    (cases_Bool (nat_le (8 + body_length text) (length text)))
  where
    body : List ℕ
    body = take (body_length text) (drop 8 text)
