-- A plan with other bytes in one of its writes.
use Rattle.std.proofs.Common.{◌≡◌, ℕ, zero, suc, ◌+◌, ◌<◌, ◌≤◌, ◌^◌, List, [], ◌∷◌, ◌++◌, length, take, drop, Option, Bool, true, false, cond, refl, sym, ◌∙◌, ap, subst, arith, inl, inr, append_assoc, length-append, length-take, length-drop}
use Rattle.std.proofs.lemmas.List.{take_at, drop_at, take-append-le, drop-append-le, take-append-drop}
use Rattle.std.proofs.lemmas.List.Elements.{All-head, All-tail, All-cons, filter-append}
use Rattle.std.specs.List.{All}
use Rattle.std.specs.Str.{bytes_eq}
use Rattle.std.specs.Int.{from_le_bytes, w32}
use Rattle.std.specs.Prelude.{unwrap_or}
use Rattle.vbm_intent.specs.declared.change.Change.{Change}
use Rattle.vbm_intent.specs.declared.change.Change.TheVariants.{Write, Fill, Cut, Remove}
use Rattle.vbm_intent.specs.Changes.{name_of, of_file, TouchesByte, IsAllowed, ApartFrom, IsApart}
use Rattle.vbm_intent.specs.Record.{body_length, count_of, changes_in, IsPlan}
use Rattle.vbm_intent.specs.Plan.{record_of, changes_of_record, plan_of, with_bytes, set_bytes, HasBytesAt, IsPlaceOf, IsWholeRecord}
use Rattle.vbm_intent.specs.declared.limits.TheConstants.{LONGEST_BODY, MOST_CHANGES}

pub no_fewer : (k from n : ℕ) (cs : List Change) → HasBytesAt k from n cs → HasBytesAt k 0 0 cs
no_fewer k from n [] has = has
no_fewer zero from n (Write name at bytes ∷ cs) has = omega arith
no_fewer zero from n (Fill name at len byte ∷ cs) has = has
no_fewer zero from n (Cut name len ∷ cs) has = has
no_fewer zero from n (Remove name ∷ cs) has = has
no_fewer (suc k) from n (c ∷ cs) has = no_fewer k from n cs has

-- an empty plan has no write
pub some_record : (k from n : ℕ) (bytes : List ℕ) → HasBytesAt k from n (plan_of bytes) → record_of bytes ≡ bytes
some_record k from n [] has = absurd has
some_record k from n (b ∷ bytes) has = refl

module _ (name : List ℕ) (at : ℕ) (all bytes : List ℕ) (from : ℕ) where
  changed : List ℕ
  changed = take from all ++ (bytes ++ drop (from + length bytes) all)

  set_here : (before behind : List Change) → set_bytes (length before) from bytes (before ++ Write name at all ∷ behind) ≡ before ++ with_bytes from bytes (Write name at all) ∷ behind
  set_here [] behind = refl
  set_here (c ∷ before) behind = ap (λ (l : List Change). c ∷ l) (set_here before behind)

  has_here : (n : ℕ) (before behind : List Change) → HasBytesAt (length before) from n (before ++ Write name at all ∷ behind) → from + n ≤ length all
  has_here n [] behind has = has
  has_here n (c ∷ before) behind has = has_here n before behind has

-- a change that touches no more than another of the same file
module _ (c d : Change) (less : (i : ℕ) → TouchesByte d i → TouchesByte c i) where
  swap_apart_from : (e : Change) (xs ys : List Change) → ApartFrom e (xs ++ c ∷ ys) → ApartFrom e (xs ++ d ∷ ys)
  swap_apart_from e [] ys apart = (λ i t u. apart.0 i t (less i u), apart.1)
  swap_apart_from e (x ∷ xs) ys apart = (apart.0, swap_apart_from e xs ys apart.1)

  less_apart_from : (ys : List Change) → ApartFrom c ys → ApartFrom d ys
  less_apart_from [] apart = tt
  less_apart_from (y ∷ ys) apart = (λ i t u. apart.0 i (less i t) u, less_apart_from ys apart.1)

  swap_apart : (xs ys : List Change) → IsApart (xs ++ c ∷ ys) → IsApart (xs ++ d ∷ ys)
  swap_apart [] ys apart = (less_apart_from ys apart.0, apart.1)
  swap_apart (x ∷ xs) ys apart = (swap_apart_from x xs ys apart.0, swap_apart xs ys apart.1)

  swap_allowed : (xs ys : List Change) → (IsAllowed c → IsAllowed d) → All IsAllowed (xs ++ c ∷ ys) → All IsAllowed (xs ++ d ∷ ys)
  swap_allowed [] ys to all = All-cons IsAllowed d ys (to (All-head IsAllowed c ys all)) (All-tail IsAllowed c ys all)
  swap_allowed (x ∷ xs) ys to all = All-cons IsAllowed x (xs ++ d ∷ ys) (All-head IsAllowed x (xs ++ c ∷ ys) all) (swap_allowed xs ys to (All-tail IsAllowed x (xs ++ c ∷ ys) all))

  swap_plan : (xs ys : List Change) → name_of d ≡ name_of c → (IsAllowed c → IsAllowed d) → IsPlan (xs ++ c ∷ ys) → IsPlan (xs ++ d ∷ ys)
  swap_plan xs ys same to plan = record {
    allowed = swap_allowed xs ys to plan.allowed;
    apart = λ name. subst IsApart (sym (filter-append (λ e. bytes_eq (name_of e) name) xs (d ∷ ys)))
        (by_name name (subst IsApart (filter-append (λ e. bytes_eq (name_of e) name) xs (c ∷ ys)) (plan.apart name)));
  }
    where
      by_name : (name : List ℕ) → IsApart (of_file name xs ++ of_file name (c ∷ ys)) → IsApart (of_file name xs ++ of_file name (d ∷ ys))
      by_name name apart = subst (λ n. IsApart (of_file name xs ++ cond (bytes_eq n name) (d ∷ of_file name ys) (of_file name ys))) (sym same)
          (by_cond (bytes_eq (name_of c) name) apart)
        where
          by_cond : (b : Bool) → IsApart (of_file name xs ++ cond b (c ∷ of_file name ys) (of_file name ys)) → IsApart (of_file name xs ++ cond b (d ∷ of_file name ys) (of_file name ys))
          by_cond true apart = swap_apart (of_file name xs) (of_file name ys) apart
          by_cond false apart = apart

-- a write with as many other bytes
module _ (name : List ℕ) (at : ℕ) (old new : List ℕ) (long : length new ≡ length old) where
  touches_less : (i : ℕ) → TouchesByte (Write name at new) i → TouchesByte (Write name at old) i
  touches_less i (inl w) = inl (record { low = w.low; high = omega (arith, w.high, long) })
  touches_less i (inr t) = inr t

  stays_allowed : IsAllowed (Write name at old) → IsAllowed (Write name at new)
  stays_allowed is = record { store = is.store; not_log = is.not_log; limits = (omega (arith, is.limits.0, long), is.limits.1) }

  pub other_plan : (xs ys : List Change) → IsPlan (xs ++ Write name at old ∷ ys) → IsPlan (xs ++ Write name at new ∷ ys)
  other_plan xs ys plan = swap_plan (Write name at old) (Write name at new) touches_less xs ys refl stays_allowed plan

splice : (front old back bytes : List ℕ) (place from : ℕ) → length front ≡ place → from + length bytes ≤ length old
    → take (place + from) (front ++ (old ++ back)) ++ (bytes ++ drop (place + from + length bytes) (front ++ (old ++ back)))
    ≡ front ++ ((take from old ++ (bytes ++ drop (from + length bytes) old)) ++ back)
splice front old back bytes place from is fits =
    (λ i. kept i ++ (bytes ++ left i))
    ∙ append_assoc front (take from old) (bytes ++ (drop (from + length bytes) old ++ back))
    ∙ ap (λ (l : List ℕ). front ++ (take from old ++ l)) (sym (append_assoc bytes (drop (from + length bytes) old) back))
    ∙ ap (λ (l : List ℕ). front ++ l) (sym (append_assoc (take from old) (bytes ++ drop (from + length bytes) old) back))
  where
    all : List ℕ
    all = front ++ (old ++ back)

    as_taken : (n : ℕ) → front ++ (old ++ back) ≡ (front ++ take n old) ++ (drop n old ++ back)
    as_taken n = ap (λ (l : List ℕ). front ++ (l ++ back)) (sym (take-append-drop n old))
        ∙ ap (λ (l : List ℕ). front ++ l) (append_assoc (take n old) (drop n old) back)
        ∙ sym (append_assoc front (take n old) (drop n old ++ back))

    kept : take (place + from) (front ++ (old ++ back)) ≡ front ++ take from old
    kept = ap (λ (l : List ℕ). take (place + from) l) (as_taken from)
        ∙ take_at (front ++ take from old) (drop from old ++ back) (place + from) (omega (arith, is, fits, length-append front (take from old), length-take from old))

    left : drop (place + from + length bytes) (front ++ (old ++ back)) ≡ drop (from + length bytes) old ++ back
    left = ap (λ (l : List ℕ). drop (place + from + length bytes) l) (as_taken (from + length bytes))
        ∙ drop_at (front ++ take (from + length bytes) old) (drop (from + length bytes) old ++ back) (place + from + length bytes)
        (omega (arith, is, fits, length-append front (take (from + length bytes) old), length-take (from + length bytes) old))

same_size : (front r s : List ℕ) → 8 ≤ length front → body_length (front ++ r) ≡ body_length (front ++ s)
same_size front r s long = ap (λ (l : List ℕ). from_le_bytes w32 l) (take-append-le 4 front r (omega (arith, long)) ∙ sym (take-append-le 4 front s (omega (arith, long))))

same_count : (front r s : List ℕ) → 8 ≤ length front → count_of (front ++ r) ≡ count_of (front ++ s)
same_count front r s long = ap (λ (l : List ℕ). from_le_bytes w32 l) (at_four r ∙ sym (at_four s))
  where
    at_four : (t : List ℕ) → take 4 (drop 4 (front ++ t)) ≡ take 4 (drop 4 front)
    at_four t = ap (λ (l : List ℕ). take 4 l) (drop-append-le 4 front t (omega (arith, long)))
        ∙ take-append-le 4 (drop 4 front) t (omega (arith, long, length-drop 4 front))

module _ (text : List ℕ) (cs : List Change) (k from place : ℕ) (bytes : List ℕ) (p : IsPlaceOf text cs k place) (has : HasBytesAt k from (length bytes) cs) where
  within : from + length bytes ≤ length p.bytes
  within = has_here p.name p.at p.bytes bytes from (length bytes) p.before p.behind
      (subst (λ l. HasBytesAt (length p.before) from (length bytes) l) p.is_changes (subst (λ n. HasBytesAt n from (length bytes) cs) (sym p.is_index) has))

  pub set_fits : place + from + length bytes ≤ length text
  set_fits = omega (arith, within, p.is_place, ap (λ (l : List ℕ). length l) p.is_text, length-append p.front (p.bytes ++ p.back), length-append p.bytes p.back)

  other : List ℕ
  other = take from p.bytes ++ (bytes ++ drop (from + length bytes) p.bytes)

  other_long : length other ≡ length p.bytes
  unfolding other
  other_long = omega (
    arith,
    within,
    length-append (take from p.bytes) (bytes ++ drop (from + length bytes) p.bytes),
    length-take from p.bytes,
    length-append bytes (drop (from + length bytes) p.bytes),
    length-drop (from + length bytes) p.bytes,
  )

  changes : set_bytes k from bytes cs ≡ p.before ++ Write p.name p.at other ∷ p.behind
  unfolding other
  changes = ap (λ (l : List Change). set_bytes k from bytes l) p.is_changes
      ∙ ap (λ (n : ℕ). set_bytes n from bytes (p.before ++ Write p.name p.at p.bytes ∷ p.behind)) (sym p.is_index)
      ∙ set_here p.name p.at p.bytes bytes from p.before p.behind

  module _ (new : List ℕ) (is_new : new ≡ take (place + from) text ++ (bytes ++ drop (place + from + length bytes) text)) (is : IsWholeRecord text cs) where
    new_text : new ≡ p.front ++ (other ++ p.back)
    unfolding other
    new_text = is_new ∙ ap (λ (l : List ℕ). take (place + from) l ++ (bytes ++ drop (place + from + length bytes) l)) p.is_text
        ∙ splice p.front p.bytes p.back bytes place from p.is_place within

    long : 8 ≤ length p.front
    long = omega (arith, p.is_place, p.behind_head)

    new_size : body_length new ≡ body_length text
    new_size = ap body_length new_text ∙ same_size p.front (other ++ p.back) (p.bytes ++ p.back) long ∙ sym (ap body_length p.is_text)

    new_count : count_of new ≡ count_of text
    new_count = ap count_of new_text ∙ same_count p.front (other ++ p.back) (p.bytes ++ p.back) long ∙ sym (ap count_of p.is_text)

    pub new_long : length new ≡ length text
    new_long = omega (
      arith,
      ap (λ (l : List ℕ). length l) new_text,
      ap (λ (l : List ℕ). length l) p.is_text,
      length-append p.front (other ++ p.back),
      length-append other p.back,
      length-append p.front (p.bytes ++ p.back),
      length-append p.bytes p.back,
      other_long,
    )

    pub set_done : IsWholeRecord new (set_bytes k from bytes cs)
    set_done = subst (λ l. IsWholeRecord new l) (sym changes) (record {
      plan = record {
        changes = ap changes_in new_text ∙ p.other other other_long;
        plan = other_plan p.name p.at p.bytes other other_long p.before p.behind (subst IsPlan p.is_changes is.plan.plan);
        size = subst (λ n. n ≤ LONGEST_BODY) (sym new_size) is.plan.size;
        count = subst (λ n. n ≤ MOST_CHANGES) (sym new_count) is.plan.count;
      };
      whole = omega (arith, new_long, new_size, is.whole);
    })

own_record : (bytes : List ℕ) → 0 < length bytes → record_of bytes ≡ bytes
own_record [] some = absurd (omega (arith, some))
own_record (b ∷ bytes) some = refl

-- a plan's bytes, before and after
module _ (old r new : List ℕ) (cs : List Change) (k from place : ℕ) (bytes : List ℕ) (is_record : r ≡ record_of old) (is_plan : plan_of old ≡ cs)
    (has : HasBytesAt k from (length bytes) cs) where
  has_old : HasBytesAt k from (length bytes) (plan_of old)
  has_old = subst (λ l. HasBytesAt k from (length bytes) l) (sym is_plan) has

  pub has_write : HasBytesAt k 0 0 (changes_of_record r)
  has_write = subst (λ l. HasBytesAt k 0 0 (changes_of_record l)) (sym is_record) (no_fewer k from (length bytes) (plan_of old) has_old)

  own : record_of old ≡ old
  own = some_record k from (length bytes) old has_old

  module _ (p : IsPlaceOf r (changes_of_record r) k place) where
    there : IsPlaceOf (record_of old) (plan_of old) k place
    there = subst (λ l. IsPlaceOf l (changes_of_record l) k place) is_record p

    pub plan_fits : place + from + length bytes ≤ length old
    plan_fits = subst (λ l. place + from + length bytes ≤ length l) own (set_fits (record_of old) (plan_of old) k from place bytes there has_old)

    module _ (is_new : new ≡ take (place + from) old ++ (bytes ++ drop (place + from + length bytes) old)) (is : IsWholeRecord (record_of old) (plan_of old)) where
      is_new_record : new ≡ take (place + from) (record_of old) ++ (bytes ++ drop (place + from + length bytes) (record_of old))
      is_new_record = subst (λ l. new ≡ take (place + from) l ++ (bytes ++ drop (place + from + length bytes) l)) (sym own) is_new

      as_long : length new ≡ length (record_of old)
      as_long = new_long (record_of old) (plan_of old) k from place bytes there has_old new is_new_record is

      own_new : record_of new ≡ new
      own_new = own_record new (omega (arith, as_long, is.whole))

      pub plan_long : length (record_of new) ≡ length (record_of old)
      plan_long = ap (λ (l : List ℕ). length l) own_new ∙ as_long

      done : IsWholeRecord (record_of new) (set_bytes k from bytes cs)
      done = subst (λ l. IsWholeRecord (record_of new) (set_bytes k from bytes l)) is_plan
          (subst (λ l. IsWholeRecord l (set_bytes k from bytes (plan_of old))) (sym own_new)
          (set_done (record_of old) (plan_of old) k from place bytes there has_old new is_new_record is))

      pub plan_set : plan_of new ≡ set_bytes k from bytes cs
      plan_set = ap (λ (o : Option (List Change)). unwrap_or o []) done.plan.changes

      pub plan_whole : IsWholeRecord (record_of new) (plan_of new)
      plan_whole = subst (λ l. IsWholeRecord (record_of new) l) (sym plan_set) done
