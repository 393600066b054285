-- Where the bytes of a write lie in a record.
use Rattle.std.proofs.Common.{◌≡◌, ℕ, zero, suc, ◌+◌, ◌-◌, ◌<◌, ◌≤◌, List, [], ◌∷◌, ◌++◌, length, take, drop, Option, Some, None, refl, sym, ◌∙◌, ap, subst, arith, append_assoc, length-append, length-take, length-drop}
use Rattle.std.proofs.lemmas.List.{drop_at, take-append-le, drop-append-le, take-append-drop}
use Rattle.std.specs.Prelude.{option_and_then}
use Rattle.std.specs.Int.{from_le_bytes, w32}
use Rattle.vbm_intent.specs.declared.change.Change.{Change}
use Rattle.vbm_intent.specs.declared.change.Change.TheVariants.{Write, Fill, Cut, Remove}
use Rattle.vbm_intent.specs.Changes.{name_of}
use Rattle.vbm_intent.specs.Record.{Part, body_length, count_of, change_of, changes_of, changes_in}
use Rattle.vbm_intent.specs.Plan.{HasBytes, HasBytesAt, IsPlaceOf, IsWholeRecord}
use Rattle.vbm_intent.proofs.Pushes.{WriteEnd, Ending, Ends, good_change}
use Rattle.vbm_intent.proofs.Wholes.{read_whole, body_read}

-- What is left of a record's bytes, in front of the write with an index; other bytes of that length may stand there.
pub record Left (text : List ℕ) (cs : List Change) (k left : ℕ) (rest : List ℕ) : Type 0 where
  pub front : List ℕ
  pub before : List Change
  pub behind : List Change
  pub count : ℕ
  pub is_text : text ≡ front ++ rest
  pub behind_head : 8 ≤ length front
  pub is_changes : cs ≡ before ++ behind
  pub is_index : length before + left ≡ k
  pub write : HasBytesAt left 0 0 behind
  pub reads : changes_of count rest ≡ Some behind
  pub more : (other : List ℕ) (ds : List Change) → length other ≡ length rest → changes_of count other ≡ Some ds → changes_in (front ++ other) ≡ Some (before ++ ds)

pub at_start : (text : List ℕ) (cs : List Change) (k : ℕ) → IsWholeRecord text cs → HasBytesAt k 0 0 cs → Left text cs k k (drop 8 text)
at_start text cs k is write = record {
  front = head;
  before = [];
  behind = cs;
  count = count_of text;
  is_text = sym halves;
  behind_head = omega (arith, eight);
  is_changes = refl;
  is_index = omega arith;
  write = write;
  reads = body_read text cs is;
  more = λ other ds long read. more other ds long read;
}
  where
    head : List ℕ
    head = take 8 text

    halves : head ++ drop 8 text ≡ text
    halves = take-append-drop 8 text

    eight : length head ≡ 8
    eight = omega (arith, length-take 8 text, is.whole)

    size_in : (r : List ℕ) → body_length (head ++ r) ≡ from_le_bytes w32 (take 4 head)
    size_in r = ap (λ (l : List ℕ). from_le_bytes w32 l) (take-append-le 4 head r (omega (arith, eight)))

    count_in : (r : List ℕ) → count_of (head ++ r) ≡ from_le_bytes w32 (take 4 (drop 4 head))
    count_in r = ap (λ (l : List ℕ). from_le_bytes w32 (take 4 l)) (drop-append-le 4 head r (omega (arith, eight)))
        ∙ ap (λ (l : List ℕ). from_le_bytes w32 l) (take-append-le 4 (drop 4 head) r (omega (arith, eight, length-drop 4 head)))

    same_size : (r : List ℕ) → body_length (head ++ r) ≡ body_length text
    same_size r = size_in r ∙ sym (size_in (drop 8 text)) ∙ ap body_length halves

    same_count : (r : List ℕ) → count_of (head ++ r) ≡ count_of text
    same_count r = count_in r ∙ sym (count_in (drop 8 text)) ∙ ap count_of halves

    more : (other : List ℕ) (ds : List Change) → length other ≡ length (drop 8 text) → changes_of (count_of text) other ≡ Some ds → changes_in (head ++ other) ≡ Some ds
    more other ds long read =
        read_whole (head ++ other) (omega (arith, length-append head other, eight, long, length-drop 8 text, is.whole, same_size other))
        ∙ ap (λ (l : List ℕ). changes_of (count_of (head ++ other)) l) (drop_at head other 8 eight)
        ∙ ap (λ (n : ℕ). changes_of n other) (same_count other)
        ∙ read

-- the first of some changes that are read
record First (count : ℕ) (rest : List ℕ) (c : Change) (next : List ℕ) (d : Change) (ds : List Change) : Type 0 where
  left : ℕ
  is_count : count ≡ suc left
  same : c ≡ d
  reads : changes_of left next ≡ Some ds

joined : (c : Change) (o : Option (List Change)) (d : Change) (ds : List Change) → option_and_then (λ (cs : List Change). Some (c ∷ cs)) o ≡ Some (d ∷ ds) → (c ≡ d) × (o ≡ Some ds)
joined c None d ds is = cc is
joined c (Some es) d ds is = (cc is, cc is)

first : (count : ℕ) (rest : List ℕ) (c : Change) (next : List ℕ) (d : Change) (ds : List Change) → change_of rest ≡ Some (c, next) → changes_of count rest ≡ Some (d ∷ ds) → First count rest c next d ds
first zero [] c next d ds is reads = cc
first zero (b ∷ rest) c next d ds is reads = cc reads
first (suc n) rest c next d ds is reads =
    let both = joined c (changes_of n next) d ds
    (sym (ap (λ (o : Part). option_and_then (λ (p : Change × List ℕ). option_and_then (λ (cs : List Change). Some (p.0 ∷ cs)) (changes_of n p.1)) o) is) ∙ reads) in
    record { left = n; is_count = refl; same = both.0; reads = both.1 }

pub none_left : (text : List ℕ) (cs : List Change) (k left : ℕ) (rest : List ℕ) → Left text cs k left rest → change_of rest ≡ None → ⊥
none_left text cs k left rest l none = no_changes l.behind l.write l.count l.reads
  where
    no_changes : (ds : List Change) → HasBytesAt left 0 0 ds → (n : ℕ) → changes_of n rest ≡ Some ds → ⊥
    no_changes [] write n reads = write
    no_changes (d ∷ ds) write zero reads = none_read rest reads where
      none_read : (r : List ℕ) → changes_of 0 r ≡ Some (d ∷ ds) → ⊥
      none_read [] is = cc is
      none_read (b ∷ r) is = cc is
    no_changes (d ∷ ds) write (suc n) reads = cc (ap (λ (o : Part). option_and_then (λ (p : Change × List ℕ). option_and_then (λ (es : List Change). Some (p.0 ∷ es)) (changes_of n p.1)) o) none, reads)

module _ (text : List ℕ) (cs : List Change) (k : ℕ) (rest : List ℕ) (c : Change) (next : List ℕ) (is : change_of rest ≡ Some (c, next)) where
  ending : Ending change_of 0 rest c next
  ending = subst (λ o. Ends change_of 0 rest o) is (good_change rest)

  -- one change further
  further : (left : ℕ) (d : Change) (ds : List Change) (l : Left text cs k (suc left) rest) → l.behind ≡ d ∷ ds → HasBytesAt left 0 0 ds → Left text cs k left next
  further left d ds l is_behind write = record {
    front = l.front ++ ending.front;
    before = l.before ++ d ∷ [];
    behind = ds;
    count = f.left;
    is_text = l.is_text ∙ ap (λ (x : List ℕ). l.front ++ x) ending.is ∙ sym (append_assoc l.front ending.front next);
    behind_head = omega (arith, l.behind_head, length-append l.front ending.front);
    is_changes = l.is_changes ∙ ap (λ (x : List Change). l.before ++ x) is_behind ∙ sym (append_assoc l.before (d ∷ []) ds);
    is_index = omega (arith, l.is_index, length-append l.before (d ∷ []));
    write = write;
    reads = f.reads;
    more = λ other es long read. ap changes_in (append_assoc l.front ending.front other)
        ∙ l.more (ending.front ++ other) (d ∷ es) (omega (arith, long, length-append ending.front other, length-append ending.front next, ap (λ (x : List ℕ). length x) ending.is)) (again other es read)
        ∙ ap (λ (x : List Change). Some x) (sym (append_assoc l.before (d ∷ []) es));
  }
    where
      f : First l.count rest c next d ds
      f = first l.count rest c next d ds is (l.reads ∙ ap (λ (x : List Change). Some x) is_behind)

      again : (other : List ℕ) (es : List Change) → changes_of f.left other ≡ Some es → changes_of l.count (ending.front ++ other) ≡ Some (d ∷ es)
      again other es read =
          ap (λ (n : ℕ). changes_of n (ending.front ++ other)) f.is_count
          ∙ ap (λ (o : Part). option_and_then (λ (p : Change × List ℕ). option_and_then (λ (x : List Change). Some (p.0 ∷ x)) (changes_of f.left p.1)) o) (ending.more other)
          ∙ ap (λ (o : Option (List Change)). option_and_then (λ (x : List Change). Some (c ∷ x)) o) read
          ∙ ap (λ (e : Change). Some (e ∷ es)) f.same

  pub step : (left : ℕ) → 0 < left → Left text cs k left rest → Left text cs k (left - 1) next
  step zero some l = absurd (omega arith)
  step (suc m) some l = by_behind l.behind refl l.write
    where
      back : m ≡ suc m - 1
      back = omega arith

      by_behind : (ds : List Change) → l.behind ≡ ds → HasBytesAt (suc m) 0 0 ds → Left text cs k (suc m - 1) next
      by_behind [] same write = absurd write
      by_behind (d ∷ ds) same write = subst (λ n. Left text cs k n next) back (further m d ds l same write)

  -- at the write itself
  arrived : (d : Change) (ds : List Change) (l : Left text cs k 0 rest) → l.behind ≡ d ∷ ds → HasBytes 0 0 d → (place : ℕ)
      → place ≡ (length text - length rest) + (14 + length (name_of c)) → IsPlaceOf text cs k place
  arrived (Fill name at len byte) ds l is_behind write place is_place = absurd write
  arrived (Cut name len) ds l is_behind write place is_place = absurd write
  arrived (Remove name) ds l is_behind write place is_place = absurd write
  arrived (Write name at bytes) ds l is_behind write place is_place = record {
    front = l.front ++ w.head;
    back = next;
    name = name;
    at = at;
    bytes = bytes;
    before = l.before;
    behind = ds;
    is_text = l.is_text ∙ ap (λ (x : List ℕ). l.front ++ x) e.is ∙ ap (λ (x : List ℕ). l.front ++ (x ++ next)) w.is
        ∙ ap (λ (x : List ℕ). l.front ++ x) (append_assoc w.head bytes next) ∙ sym (append_assoc l.front w.head (bytes ++ next));
    is_place = omega (arith, is_place, w.size, same_name, length-append l.front w.head, length-append l.front rest, ap (λ (x : List ℕ). length x) l.is_text);
    behind_head = omega (arith, is_place, l.behind_head, length-append l.front rest, ap (λ (x : List ℕ). length x) l.is_text);
    is_changes = l.is_changes ∙ ap (λ (x : List Change). l.before ++ x) is_behind;
    is_index = omega (arith, l.is_index);
    other = λ b long. ap changes_in (append_assoc l.front w.head (b ++ next))
        ∙ l.more (w.head ++ (b ++ next)) (Write name at b ∷ ds) (same_length b long) (again b long);
  }
    where
      f : First l.count rest c next (Write name at bytes) ds
      f = first l.count rest c next (Write name at bytes) ds is (l.reads ∙ ap (λ (x : List Change). Some x) is_behind)

      e : Ending change_of 0 rest (Write name at bytes) next
      e = subst (λ x. Ending change_of 0 rest x next) f.same ending

      w : WriteEnd change_of 0 e.front name at bytes
      w = e.write

      same_name : length (name_of c) ≡ length name
      same_name = ap (λ (x : Change). length (name_of x)) f.same

      same_length : (b : List ℕ) → length b ≡ length bytes → length (w.head ++ (b ++ next)) ≡ length rest
      same_length b long = omega (
        arith,
        long,
        length-append w.head (b ++ next),
        length-append b next,
        length-append w.head bytes,
        length-append e.front next,
        ap (λ (x : List ℕ). length x) e.is,
        ap (λ (x : List ℕ). length x) w.is,
      )

      again : (b : List ℕ) → length b ≡ length bytes → changes_of l.count (w.head ++ (b ++ next)) ≡ Some (Write name at b ∷ ds)
      again b long =
          ap (λ (n : ℕ). changes_of n (w.head ++ (b ++ next))) f.is_count
          ∙ ap (λ (o : Part). option_and_then (λ (p : Change × List ℕ). option_and_then (λ (x : List Change). Some (p.0 ∷ x)) (changes_of f.left p.1)) o) (w.other b next long)
          ∙ ap (λ (o : Option (List Change)). option_and_then (λ (x : List Change). Some (Write name at b ∷ x)) o) f.reads

  pub arrive : (l : Left text cs k 0 rest) (place : ℕ) → place ≡ (length text - length rest) + (14 + length (name_of c)) → IsPlaceOf text cs k place
  arrive l place is_place = by_behind l.behind refl l.write
    where
      by_behind : (ds : List Change) → l.behind ≡ ds → HasBytesAt 0 0 0 ds → IsPlaceOf text cs k place
      by_behind [] same write = absurd write
      by_behind (d ∷ ds) same write = arrived d ds l same write place is_place
