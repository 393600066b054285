-- Files with some of the changes made, and the next change.
use Rattle.std.proofs.Common.{All, ◌≡◌, ◌≢◌, ◌⊎◌, inl, inr, ⊎_elim, ℕ, ◌+◌, ◌^◌, ◌<◌, ◌≤◌, max, List, [], ◌∷◌, ◌++◌, length, true, false, Option, refl, append_assoc, sym, ◌∙◌, ap, subst, arith}
use Rattle.std.proofs.lemmas.Bool.{cases_Bool}
use Rattle.std.proofs.lemmas.List.{append-nil}
use Rattle.std.proofs.lemmas.List.Elements.{All-filter, All-head, All-tail}
use Rattle.std.proofs.lemmas.Slice.Eq.{bytes_eq-Decides}
use Rattle.std.specs.Str.{bytes_eq}
use Rattle.vbm_ports.specs.Files.{Files, bytes_of, Sets}
use Rattle.vbm_ports.specs.Crash.{WriteLeaves, Only, Through, Follows}
use Rattle.vbm_ports.specs.Disk.{DiskState, Passes}
use Rattle.vbm_ports.proofs.States.{Passes-refl, Passes-trans}
use Rattle.vbm_intent.specs.Changes.{name_of, effect, file_after, of_file, changed, start_of, size_of, WritesByte, TakesByte, TouchesByte, IsAllowed, IsRecordable, ApartFrom, IsApart, FitsFile, Fits}
use Rattle.vbm_intent.specs.Record.{IsPlan}
use Rattle.vbm_intent.specs.declared.change.Change.{Change}
use Rattle.vbm_intent.specs.declared.change.Change.TheVariants.{Write, Fill, Cut, Remove}
use Rattle.vbm_intent.specs.Partly.{IsKept, IsWrittenBy, top_of, Stays, IsFilePartly, IsPartly, ChangeLeaves}
use Rattle.vbm_intent.proofs.FilePartly.{untouched, Arrives, arrives, torn_between, cut_between, removed_between}
use Rattle.vbm_intent.specs.declared.limits.TheConstants.{LONGEST_FILL}

-- The change is one of them.
abbrev pub Has : List Change → Change → Type 0
Has [] c = ⊥
Has (d ∷ ds) c = (d ≡ c) ⊎ Has ds c

All_has : (cs : List Change) (c : Change) → All IsAllowed cs → Has cs c → IsAllowed c
All_has [] c allowed has = absurd has
All_has (d ∷ ds) c allowed (inl is) = subst IsAllowed is (All-head IsAllowed d ds allowed)
All_has (d ∷ ds) c allowed (inr has) = All_has ds c (All-tail IsAllowed d ds allowed) has

has_written : (cs : List Change) (c : Change) (i : ℕ) → Has cs c → WritesByte c i → IsWrittenBy cs i
has_written [] c i has w = absurd has
has_written (d ∷ ds) c i (inl is) w = inl (subst (λ x. WritesByte x i) (sym is) w)
has_written (d ∷ ds) c i (inr has) w = inr (has_written ds c i has w)

has_top : (cs : List Change) (c : Change) → Has cs c → start_of c + size_of c ≤ top_of cs
has_top [] c has = absurd has
has_top (d ∷ ds) c (inl is) = subst (λ x. start_of x + size_of x ≤ max (start_of d + size_of d) (top_of ds)) is (omega arith)
has_top (d ∷ ds) c (inr has) = let h = has_top ds c has in omega arith

has_kept : (cs : List Change) (c : Change) (i : ℕ) → Has cs c → IsKept cs i → TakesByte c i → ⊥
has_kept [] c i has kept takes = absurd has
has_kept (d ∷ ds) c i (inl is) kept takes = kept.0 (subst (λ x. TakesByte x i) (sym is) takes)
has_kept (d ∷ ds) c i (inr has) kept takes = has_kept ds c i has kept.1 takes

writes_not_takes : (c : Change) (i : ℕ) → WritesByte c i → TakesByte c i → ⊥
writes_not_takes (Write name at bytes) i w takes = takes
writes_not_takes (Fill name at len byte) i w takes = takes
writes_not_takes (Cut name len) i w takes = let l = w.low in let h = w.high in omega arith
writes_not_takes (Remove name) i w takes = let l = w.low in let h = w.high in omega arith

apart_has : (d : Change) (ds : List Change) (c : Change) (i : ℕ) → ApartFrom d ds → Has ds c → TouchesByte d i → TouchesByte c i → ⊥
apart_has d [] c i apart has td tc = has
apart_has d (e ∷ es) c i apart (inl is) td tc = apart.0 i td (subst (λ x. TouchesByte x i) (sym is) tc)
apart_has d (e ∷ es) c i apart (inr has) td tc = apart_has d es c i apart.1 has td tc

-- what one change writes none takes away
pub writes_kept : (cs : List Change) (c : Change) (i : ℕ) → IsApart cs → Has cs c → WritesByte c i → IsKept cs i
writes_kept [] c i apart has w = absurd has
writes_kept (d ∷ ds) c i apart (inl is) w =
    let here : WritesByte d i = subst (λ x. WritesByte x i) (sym is) w in
    (writes_not_takes d i here, all_kept d ds i apart.0 here)
  where
    all_kept : (d : Change) (es : List Change) (i : ℕ) → ApartFrom d es → WritesByte d i → IsKept es i
    all_kept d [] i apart w = tt
    all_kept d (e ∷ es) i apart w = ((λ takes. apart.0 i (inl w) (inr takes)), all_kept d es i apart.1 w)
writes_kept (d ∷ ds) c i apart (inr has) w = ((λ takes. apart_has d ds c i apart.0 has (inr takes) (inl w)), writes_kept ds c i apart.1 has w)

kept_stays : (cs : List Change) (i : ℕ) → IsKept cs i → Stays cs
kept_stays [] i kept = tt
kept_stays (Write name at bytes ∷ cs) i kept = kept_stays cs i kept.1
kept_stays (Fill name at len byte ∷ cs) i kept = kept_stays cs i kept.1
kept_stays (Cut name len ∷ cs) i kept = kept_stays cs i kept.1
kept_stays (Remove name ∷ cs) i kept = absurd (kept.0 tt)

removed_not_stays : (cs : List Change) (name : List ℕ) → Has cs (Remove name) → Stays cs → ⊥
removed_not_stays [] name has stays = has
removed_not_stays (Write m at bytes ∷ cs) name (inl is) stays = absurd (cc is)
removed_not_stays (Write m at bytes ∷ cs) name (inr has) stays = removed_not_stays cs name has stays
removed_not_stays (Fill m at len byte ∷ cs) name (inl is) stays = absurd (cc is)
removed_not_stays (Fill m at len byte ∷ cs) name (inr has) stays = removed_not_stays cs name has stays
removed_not_stays (Cut m len ∷ cs) name (inl is) stays = absurd (cc is)
removed_not_stays (Cut m len ∷ cs) name (inr has) stays = removed_not_stays cs name has stays
removed_not_stays (Remove m ∷ cs) name has stays = stays

pub cases_name : (a b : List ℕ) → ((bytes_eq a b ≡ true) × (a ≡ b)) ⊎ ((bytes_eq a b ≡ false) × (a ≢ b))
cases_name a b = ⊎_elim (λ is. inl (is, (bytes_eq-Decides a b).0 is)) (λ no. inr (no, (λ same. cc ((bytes_eq-Decides a b).1 same, no)))) (cases_Bool (bytes_eq a b))

pub of_file_yes : (n : List ℕ) (d : Change) (ds : List Change) → bytes_eq (name_of d) n ≡ true → of_file n (d ∷ ds) ≡ d ∷ of_file n ds
of_file_yes n d ds is = rw is

pub of_file_no : (n : List ℕ) (d : Change) (ds : List Change) → bytes_eq (name_of d) n ≡ false → of_file n (d ∷ ds) ≡ of_file n ds
of_file_no n d ds is = rw is

pub of_file-append : (n : List ℕ) (cs ds : List Change) → of_file n (cs ++ ds) ≡ of_file n cs ++ of_file n ds
of_file-append n [] ds = refl
of_file-append n (c ∷ cs) ds = ⊎_elim
    (λ is. of_file_yes n c (cs ++ ds) is ∙ ap (λ (l : List Change). c ∷ l) (of_file-append n cs ds) ∙ ap (λ (l : List Change). l ++ of_file n ds) (sym (of_file_yes n c cs is)))
    (λ no. of_file_no n c (cs ++ ds) no ∙ of_file-append n cs ds ∙ ap (λ (l : List Change). l ++ of_file n ds) (sym (of_file_no n c cs no)))
    (cases_Bool (bytes_eq (name_of c) n))

pub has_of_file : (cs : List Change) (c : Change) → Has cs c → Has (of_file (name_of c) cs) c
has_of_file [] c has = absurd has
has_of_file (d ∷ ds) c (inl is) =
    let named : bytes_eq (name_of d) (name_of c) ≡ true = (bytes_eq-Decides (name_of d) (name_of c)).1 (ap name_of is) in
    subst (λ l. Has l c) (sym (of_file_yes (name_of c) d ds named)) (inl is)
has_of_file (d ∷ ds) c (inr has) = ⊎_elim
    (λ is. subst (λ l. Has l c) (sym (of_file_yes (name_of c) d ds is)) (inr (has_of_file ds c has)))
    (λ no. subst (λ l. Has l c) (sym (of_file_no (name_of c) d ds no)) (has_of_file ds c has))
    (cases_Bool (bytes_eq (name_of d) (name_of c)))

none_made : (cs : List Change) (files : Files) → IsPartly cs files files
none_made cs files name = untouched (of_file name cs) (files name)

-- a file other than the one that changes, or this one
module _ (cs : List Change) (files old new : Files) (name : List ℕ) (partly : IsPartly cs files old) (others : (m : List ℕ) → m ≢ name → new m ≡ old m) (here : IsFilePartly (of_file name cs) (files name) (new name)) where
  joined : IsPartly cs files new
  joined m = ⊎_elim
      (λ is. subst (λ n. IsFilePartly (of_file n cs) (files n) (new n)) (sym is.1) here)
      (λ no. subst (λ r. IsFilePartly (of_file m cs) (files m) r) (sym (others m no.1)) (partly m))
      (cases_name m name)

-- a write of a change, whole or torn
torn_partly : (cs : List Change) (files cur old new : Files) (c : Change) (name : List ℕ) (at n : ℕ) → name_of c ≡ name → start_of c ≤ at → at + n ≤ start_of c + size_of c → 0 < n
    → IsPlan cs → Has cs c → IsPartly cs files cur → IsPartly cs files old → at ≤ length (bytes_of (cur name)) → WriteLeaves name at n cur old new → IsPartly cs files new
torn_partly cs files cur old new c name at n named low high some plan has partly_cur partly at_end leaves =
    let of_name : Has (of_file name cs) c = subst (λ m. Has (of_file m cs) c) named (has_of_file cs c has) in
    let first : WritesByte c at = record { low = low; high = omega arith } in
    let kept : IsKept (of_file name cs) at = writes_kept (of_file name cs) c at (plan.apart name) of_name first in
    joined cs files old new name partly leaves.others
    (torn_between (of_file name cs) (files name) at n (cur name) (old name) (new name) (partly_cur name) (partly name) (kept_stays (of_file name cs) at kept) at_end
    (λ i from to. has_written (of_file name cs) c i of_name (record { low = omega arith; high = omega arith }))
    (let top = has_top (of_file name cs) c of_name in omega arith) some leaves.here)

-- what a crash leaves while one of the changes is made
change_partly : (cs : List Change) (files cur old new : Files) (c : Change) → IsAllowed c → IsPlan cs → Has cs c → IsPartly cs files cur → IsPartly cs files old
    → start_of c ≤ length (bytes_of (cur (name_of c))) → ChangeLeaves c cur old new → IsPartly cs files new
change_partly cs files cur old new (Write name at bytes) allowed plan has partly_cur partly at_end leaves =
    torn_partly cs files cur old new (Write name at bytes) name at (length bytes) refl (omega arith) (omega arith) allowed.limits.0 plan has partly_cur partly at_end leaves
change_partly cs files cur old new (Fill name at len byte) allowed plan has partly_cur partly at_end leaves =
    torn_partly cs files cur old new (Fill name at len byte) name at len refl (omega arith) (omega arith) allowed.limits.0 plan has partly_cur partly at_end leaves
change_partly cs files cur old new (Cut name len) allowed plan has partly_cur partly at_end leaves =
    let of_name : Has (of_file name cs) (Cut name len) = has_of_file cs (Cut name len) has in
    joined cs files old new name partly leaves.others
    (cut_between (of_file name cs) (files name) len (old name) (new name) (partly name)
    (λ i kept. below i (has_kept (of_file name cs) (Cut name len) i of_name kept)) leaves.here)
  where
    below : (i : ℕ) → (len ≤ i → ⊥) → i < len
    below i not = omega arith
change_partly cs files cur old new (Remove name) allowed plan has partly_cur partly at_end (inl same) = subst (λ f. IsPartly cs files f) (sym same) partly
change_partly cs files cur old new (Remove name) allowed plan has partly_cur partly at_end (inr sets) =
    let of_name : Has (of_file name cs) (Remove name) = has_of_file cs (Remove name) has in
    joined cs files old new name partly sets.others
    (subst (λ r. IsFilePartly (of_file name cs) (files name) r) (sym sets.here)
    (removed_between (of_file name cs) (files name) (removed_not_stays (of_file name cs) name of_name) (λ i kept. has_kept (of_file name cs) (Remove name) i of_name kept tt)))

pub file_after-append : (cs ds : List Change) (file : Option (List ℕ)) → file_after (cs ++ ds) file ≡ file_after ds (file_after cs file)
file_after-append [] ds file = refl
file_after-append (c ∷ cs) ds file = file_after-append cs ds (effect c file)

fits_next : (pre : List Change) (c : Change) (post : List Change) (file : Option (List ℕ)) → FitsFile (pre ++ c ∷ post) file → start_of c ≤ length (bytes_of (file_after pre file))
fits_next [] c post file fits = fits.0
fits_next (d ∷ pre) c post file fits = fits_next pre c post (effect d file) fits.1

pub named_self : (c : Change) → bytes_eq (name_of c) (name_of c) ≡ true
named_self c = (bytes_eq-Decides (name_of c) (name_of c)).1 refl

-- the next change begins within its file as it is by then
pub next_fits : (cs pre : List Change) (c : Change) (post : List Change) (files : Files) → cs ≡ pre ++ c ∷ post → Fits cs files → start_of c ≤ length (bytes_of (changed pre files (name_of c)))
next_fits cs pre c post files is fits =
    let named : of_file (name_of c) cs ≡ of_file (name_of c) pre ++ c ∷ of_file (name_of c) post =
    ap (λ (l : List Change). of_file (name_of c) l) is ∙ of_file-append (name_of c) pre (c ∷ post)
    ∙ ap (λ (l : List Change). of_file (name_of c) pre ++ l) (of_file_yes (name_of c) c post (named_self c)) in
    fits_next (of_file (name_of c) pre) c (of_file (name_of c) post) (files (name_of c)) (subst (λ l. FitsFile l (files (name_of c))) named (fits (name_of c)))

-- one change more is done
one_more : (pre : List Change) (c : Change) (files cur new : Files) → cur ≡ changed pre files → Sets (name_of c) (effect c (cur (name_of c))) cur new → new ≡ changed (pre ++ c ∷ []) files
one_more pre c files cur new is sets = λ i name. at name i
  where
    with_it : (name : List ℕ) → of_file name (pre ++ c ∷ []) ≡ of_file name pre ++ of_file name (c ∷ [])
    with_it name = of_file-append name pre (c ∷ [])

    at : (name : List ℕ) → new name ≡ changed (pre ++ c ∷ []) files name
    at name = ⊎_elim
        (λ same.
        subst (λ n. new n ≡ changed (pre ++ c ∷ []) files n) (sym same.1)
        (sets.here ∙ ap (λ (f : Files). effect c (f (name_of c))) is
        ∙ sym (file_after-append (of_file (name_of c) pre) (c ∷ []) (files (name_of c)))
        ∙ ap (λ (l : List Change). file_after l (files (name_of c))) (ap (λ (l : List Change). of_file (name_of c) pre ++ l) (sym (of_file_yes (name_of c) c [] (named_self c))) ∙ sym (with_it (name_of c)))))
        (λ other.
        sets.others name other.1 ∙ ap (λ (f : Files). f name) is
        ∙ ap (λ (l : List Change). file_after l (files name)) (sym (with_it name ∙ ap (λ (l : List Change). of_file name pre ++ l) (of_file_no name c [] (not_named name other.1)) ∙ append-nil (of_file name pre))))
        (cases_name name (name_of c))
      where
        not_named : (name : List ℕ) → (name ≢ name_of c) → bytes_eq (name_of c) name ≡ false
        not_named name other = ⊎_elim (λ is. absurd (other (sym ((bytes_eq-Decides (name_of c) name).0 is)))) (λ shut. shut) (cases_Bool (bytes_eq (name_of c) name))

pub has_middle : (pre : List Change) (c : Change) (post : List Change) → Has (pre ++ c ∷ post) c
has_middle [] c post = inl refl
has_middle (d ∷ pre) c post = inr (has_middle pre c post)

-- All changes, made to files that have some of them, fit them, and end where they end from the start.
pub all_arrive : (cs : List Change) (files now : Files) → IsPlan cs → Fits cs files → IsPartly cs files now → Fits cs now × (changed cs now ≡ changed cs files)
all_arrive cs files now plan fits partly =
    let each : (name : List ℕ) → Arrives (of_file name cs) (files name) (now name) = λ name. arrives (of_file name cs) (files name) (now name) (All-filter (λ c. bytes_eq (name_of c) name) IsAllowed cs plan.allowed) (plan.apart name) (fits name) (partly name) in
    ((λ name. (each name).fits), (λ i name. (each name).same i))

-- how many bytes a change of a record writes
pub size_within : (c : Change) → IsAllowed c → IsRecordable c → size_of c ≤ 2 ^ 32
size_within (Write name at bytes) allowed short = let h : length bytes < 2 ^ 32 = short in omega arith
size_within (Fill name at len byte) allowed short = let h : len ≤ LONGEST_FILL = allowed.limits.1 in omega arith
size_within (Cut name len) allowed short = omega arith
size_within (Remove name) allowed short = omega arith

-- The first changes are made.
pub record Applying (cs made : List Change) (old now : DiskState) : Type 0 where
  pub files : now.files ≡ changed made old.files
  pub images : (image : Files) → now.may_leave image → IsPartly cs old.files image
  pub time : Passes old now (IsPartly cs old.files)

pub apply_begins : (cs : List Change) (disk : DiskState) → Only disk.files disk.may_leave → Applying cs [] disk disk
apply_begins cs disk only = record {
  files = refl;
  images = λ image left. subst (λ f. IsPartly cs disk.files f) (sym (only image left)) (none_made cs disk.files);
  time = Passes-refl disk _;
}

-- the change that comes next
module _ (cs made left post : List Change) (c : Change) (all : cs ≡ made ++ left) (next : left ≡ c ∷ post) (plan : IsPlan cs) where
  is_next : cs ≡ made ++ c ∷ post
  is_next = cc (all, next)

  is_one : Has cs c
  is_one = subst (λ l. Has l c) (sym is_next) (has_middle made c post)

  pub next_allowed : IsAllowed c
  next_allowed = All_has cs c plan.allowed is_one

  pub one_more_made : cs ≡ (made ++ c ∷ []) ++ post
  one_more_made = is_next ∙ sym (append_assoc made (c ∷ []) post)

  -- what it needs, what a crash leaves while it is made, and what is then
  module _ (old now : DiskState) (fits : Fits cs old.files) (so_far : Applying cs made old now) (read_is_image : now.may_leave now.files) where
    pub begins_within : start_of c ≤ length (bytes_of (now.files (name_of c)))
    begins_within = subst (λ f. start_of c ≤ length (bytes_of (f (name_of c)))) (sym so_far.files) (next_fits cs made c post old.files is_next fits)

    through_partly : (image : Files) → Through (ChangeLeaves c now.files) now.may_leave image → IsPartly cs old.files image
    through_partly image from =
        change_partly cs old.files now.files from.0 image c next_allowed plan is_one (so_far.images now.files read_is_image) (so_far.images from.0 from.1) begins_within from.2

    pub apply_time : (new : DiskState) → Passes now new (Through (ChangeLeaves c now.files) now.may_leave) → Passes old new (IsPartly cs old.files)
    apply_time new time = Passes-trans old now new _ _ _ so_far.time time (λ image had. had) through_partly

    pub apply_goes_on : (new : DiskState) → Passes now new (Through (ChangeLeaves c now.files) now.may_leave) → Follows (ChangeLeaves c now.files) now.may_leave new.may_leave
        → Sets (name_of c) (effect c (now.files (name_of c))) now.files new.files → Applying cs (made ++ c ∷ []) old new
    apply_goes_on new time images sets = record {
      files = one_more made c old.files now.files new.files so_far.files sets;
      images = λ image left. through_partly image (images image left);
      time = apply_time new time;
    }
