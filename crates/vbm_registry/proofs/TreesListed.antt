-- Snapshots of which no parent is bad are a tree by names, and the reverse.
use Rattle.std.proofs.Common.{◌≡◌, ℕ, zero, suc, ◌+◌, ◌<◌, ◌≤◌, Bool, true, false, not, cond, ltb, ◌||◌, List, [], ◌∷◌, length, map, count_by, IsTrue, IfSome, Option, Some, None, is_none, refl, sym, ap, subst, ◌∙◌, arith}
use Rattle.std.specs.Prelude.{◌==◌}
use Rattle.std.specs.List.{AllByRecursion, slice_get, position_or_len}
use Rattle.std.specs.Option.{option_map}
use Rattle.std.specs.Str.{bytes_eq}
use Rattle.std.proofs.lemmas.Bool.{ltb-true, lt-ltb, eqb-true, eq-eqb}
use Rattle.std.proofs.lemmas.Bool.Decides.{nat_tests}
use Rattle.std.proofs.lemmas.List.{length-map}
use Rattle.std.proofs.lemmas.List.Sums.{sum_by-cons}
use Rattle.std.proofs.lemmas.Option.{slice_get-map, slice_get_within}
use Rattle.vbm_named.specs.Names.{Name, has_name, Rises}
use Rattle.vbm_named.proofs.Lists.{name_refl, before_other, has_map, rises_map, All-map, All-of_map, All-get}
use Rattle.vbm_world.specs.Tree.{Branch, branch_name, is_root, Has, IsTree}
use Rattle.vbm_machines.specs.declared.Snapshot.{Snapshot}
use Rattle.vbm_registry.specs.Grammar.{lead, is_good, is_current, snapshot_entry_name}
use Rattle.vbm_registry.specs.Named.{name_in, snapshot_names}
use Rattle.vbm_registry.proofs.PartLaws.{and_both, both_and}
use Rattle.vbm_registry.proofs.GrammarLaws.{not_true}
use Rattle.vbm_registry.proofs.CountedLists.{it_not}
use Rattle.vbm_registry.proofs.ListLaws.{All-from_map}
use Rattle.vbm_registry.proofs.SnapshotsListed.{AreGoodParents, parents_of}
use Rattle.vbm_registry.proofs.NamesAtPlaces.{NotEmpty, item_at, all_places, name_of_item, has_at, within_has}

-- ---- ranks of places

eq_self : (n : ℕ) → (n == n) ≡ true
eq_self n = eq-eqb n n refl

-- a rank that falls from each snapshot to its parent, above the places of a list
abbrev Falls : (rank : ℕ → ℕ) → (from : ℕ) → List (Option ℕ) → Type 0
Falls rank from parents = (k p : ℕ) → slice_get parents k ≡ Some (Some p) → rank p < rank (from + k)

record IsRanked (at : ℕ) (ends rank : ℕ → ℕ) (parents : List (Option ℕ)) : Type 0 where
  now : ℕ → ℕ
  keeps : (x y : ℕ) → ends x ≡ ends y → rank x < rank y → now x < now y
  falls : Falls now at parents

more_falls : (now : ℕ → ℕ) (at : ℕ) (parent : Option ℕ) (parents : List (Option ℕ)) → ((p : ℕ) → parent ≡ Some p → now p < now at)
    → Falls now (at + 1) parents → Falls now at (parent ∷ parents)
more_falls now at parent parents here later zero p there =
    let same : at + 0 ≡ at = omega arith in
    let is : parent ≡ Some p = cc in
    subst (λ n. now p < now n) (sym same) (here p is)
more_falls now at parent parents here later (suc k) p there =
    let same : at + suc k ≡ at + 1 + k = omega arith in
    subst (λ n. now p < now n) (sym same) (later k p there)

lead_other : (at p : ℕ) (ends : ℕ → ℕ) (x : ℕ) → (ends x == at) ≡ false → lead at (Some p) ends x ≡ ends x
lead_other at p ends x other = rw other refl

lead_it : (at p : ℕ) (ends : ℕ → ℕ) (x : ℕ) → (ends x == at) ≡ true → lead at (Some p) ends x ≡ ends p
lead_it at p ends x it = rw it refl

-- ranks after one more parent: raised by its rank for all that it follows
abbrev raised : (at p : ℕ) (ends rank : ℕ → ℕ) → ℕ → ℕ
raised at p ends rank x = rank x + cond (ends x == at) (rank p + 1) 0

module _ (at p : ℕ) (ends rank : ℕ → ℕ) (open_ends : (x : ℕ) → at ≤ x → ends x ≡ x) where
  still_open : (x : ℕ) → at + 1 ≤ x → lead at (Some p) ends x ≡ x
  still_open x le =
      let is : ends x ≡ x = open_ends x (omega (arith, le)) in
      let other : (ends x == at) ≡ false = apart (ends x) (omega (arith, is, le)) in
      lead_other at p ends x other ∙ is
    where
      apart : (i : ℕ) → at < i → (i == at) ≡ false
      apart i less = grind (arith, nat_tests)

  one_more_ranked : (parents : List (Option ℕ)) → (ends p == at) ≡ false → IsRanked (at + 1) (lead at (Some p) ends) (raised at p ends rank) parents
      → IsRanked at ends rank (Some p ∷ parents)
  one_more_ranked parents other rest = record {
    now = rest.now;
    keeps = λ x y e less.
        let bumps : cond {A = ℕ} (ends x == at) (rank p + 1) 0 ≡ cond (ends y == at) (rank p + 1) 0 =
        ap (λ n. cond {A = ℕ} (n == at) (rank p + 1) 0) e in
        rest.keeps x y (ap (λ n. cond {A = ℕ} (n == at) (ends p) n) e) (omega (arith, bumps, less));
    falls = more_falls rest.now at (Some p) parents (λ q is. let same : p ≡ q = cc in subst (λ n. rest.now n < rest.now at) same below) rest.falls;
  } where
    it : (ends at == at) ≡ true
    it = let is : ends at ≡ at = open_ends at (omega arith) in ap (λ n. n == at) is ∙ eq_self at

    low : raised at p ends rank p ≡ rank p + 0
    low = ap (λ b. rank p + cond {A = ℕ} b (rank p + 1) 0) other

    high : raised at p ends rank at ≡ rank at + (rank p + 1)
    high = ap (λ b. rank at + cond {A = ℕ} b (rank p + 1) 0) it

    below : rest.now p < rest.now at
    below = rest.keeps p at (lead_other at p ends p other ∙ sym (lead_it at p ends at it)) (omega (arith, low, high))

record ParentIsGood (count at : ℕ) (ends : ℕ → ℕ) (p : ℕ) : Type 0 where
  within : p < count
  apart : (ends p == at) ≡ false

good_is : (count at : ℕ) (rooted : Bool) (ends : ℕ → ℕ) (p : ℕ) → IsTrue (is_good count at rooted ends (Some p)) → ParentIsGood count at ends p
good_is count at rooted ends p good =
    let both = and_both (ltb p count) (not (ends p == at)) good in
    record { within = ltb-true p count both.0; apart = not_true (ends p == at) both.1 }

-- parents that are not bad are ranked
ranked : (count at : ℕ) (rooted : Bool) (ends rank : ℕ → ℕ) (parents : List (Option ℕ)) → ((x : ℕ) → at ≤ x → ends x ≡ x)
    → AreGoodParents count at rooted ends parents → IsRanked at ends rank parents
ranked count at rooted ends rank [] open_ends good = record { now = rank; keeps = λ x y e less. less; falls = λ k p there. absurd cc }
ranked count at rooted ends rank (None ∷ parents) open_ends good =
    let rest = ranked count (at + 1) (rooted || true) (lead at None ends) rank parents (λ x le. open_ends x (omega (arith, le))) good.1 in
    record { now = rest.now; keeps = rest.keeps; falls = more_falls rest.now at None parents (λ p e. absurd cc) rest.falls }
ranked count at rooted ends rank (Some p ∷ parents) open_ends good =
    one_more_ranked at p ends rank open_ends parents (good_is count at rooted ends p good.0).apart
    (ranked count (at + 1) (rooted || false) (lead at (Some p) ends) (raised at p ends rank) parents (still_open at p ends rank open_ends) good.1)

-- and in range
in_range : (count at : ℕ) (rooted : Bool) (ends : ℕ → ℕ) (parents : List (Option ℕ)) → AreGoodParents count at rooted ends parents
    → AllByRecursion (λ (o : Option ℕ). IfSome o (λ p. p < count)) parents
in_range count at rooted ends [] good = tt
in_range count at rooted ends (None ∷ parents) good = (tt, in_range count (at + 1) (rooted || true) (lead at None ends) parents good.1)
in_range count at rooted ends (Some p ∷ parents) good =
    ((good_is count at rooted ends p good.0).within, in_range count (at + 1) (rooted || false) (lead at (Some p) ends) parents good.1)

-- with one root at most
abbrev roots_of : List (Option ℕ) → ℕ
roots_of parents = count_by (λ (o : Option ℕ). is_none o) parents

roots_more : (o : Option ℕ) (parents : List (Option ℕ)) → roots_of (o ∷ parents) ≡ cond (is_none o) 1 0 + roots_of parents
roots_more o parents = sum_by-cons (λ (q : Option ℕ). cond {A = ℕ} (is_none q) 1 0) o parents

one_root : (count at : ℕ) (rooted : Bool) (ends : ℕ → ℕ) (parents : List (Option ℕ)) → AreGoodParents count at rooted ends parents
    → roots_of parents ≤ cond rooted 0 1
one_root count at true ends [] good = omega arith
one_root count at false ends [] good = omega arith
one_root count at true ends (None ∷ parents) good = absurd cc
one_root count at false ends (None ∷ parents) good =
    omega (arith, roots_more None parents, one_root count (at + 1) true (lead at None ends) parents good.1)
one_root count at true ends (Some p ∷ parents) good =
    omega (arith, roots_more (Some p) parents, one_root count (at + 1) true (lead at (Some p) ends) parents good.1)
one_root count at false ends (Some p ∷ parents) good =
    omega (arith, roots_more (Some p) parents, one_root count (at + 1) false (lead at (Some p) ends) parents good.1)

-- ---- the reverse

later_falls : (rank : ℕ → ℕ) (at : ℕ) (parent : Option ℕ) (parents : List (Option ℕ)) → Falls rank at (parent ∷ parents) → Falls rank (at + 1) parents
later_falls rank at parent parents falls k p there =
    let same : at + suc k ≡ at + 1 + k = omega arith in subst (λ n. rank p < rank n) same (falls (suc k) p there)

all_good : (count at : ℕ) (rooted : Bool) (ends rank : ℕ → ℕ) (parents : List (Option ℕ)) → ((x : ℕ) → rank (ends x) ≤ rank x)
    → AllByRecursion (λ (o : Option ℕ). IfSome o (λ p. p < count)) parents → roots_of parents ≤ cond rooted 0 1
    → Falls rank at parents → AreGoodParents count at rooted ends parents
all_good count at rooted ends rank [] down within roots falls = tt
all_good count at true ends rank (None ∷ parents) down within roots falls = absurd (omega (arith, roots, roots_more None parents))
all_good count at false ends rank (None ∷ parents) down within roots falls = (
  refl,
  all_good count (at + 1) true (lead at None ends) rank parents down within.1 (omega (arith, roots, roots_more None parents))
      (later_falls rank at None parents falls),
)
all_good count at rooted ends rank (Some p ∷ parents) down within roots falls = (
  both_and (ltb p count) (not (ends p == at)) (lt-ltb p count within.0) (it_not (ends p == at) (other (ends p == at) refl)),
  all_good count (at + 1) (rooted || false) (lead at (Some p) ends) rank parents lower within.1 (fewer rooted roots)
      (later_falls rank at (Some p) parents falls),
) where
  here : rank p < rank at
  here = let same : at + 0 ≡ at = omega arith in subst (λ n. rank p < rank n) same (falls 0 p refl)

  other : (b : Bool) → (ends p == at) ≡ b → b ≡ false
  other true e =
      let same : rank (ends p) ≡ rank at = ap rank (eqb-true (ends p) at e) in
      absurd (omega (arith, down p, here, same))
  other false e = refl

  lower : (x : ℕ) → rank (lead at (Some p) ends x) ≤ rank x
  lower x = elim (ends x == at) as (λ b. (ends x == at) ≡ b → rank (cond b (ends p) (ends x)) ≤ rank x) [
    | true ↦ λ e.
        let same : rank (ends x) ≡ rank at = ap rank (eqb-true (ends x) at e) in
        omega (arith, down p, here, same, down x)
    | false ↦ λ e. down x
  ] refl

  fewer : (b : Bool) → roots_of (Some p ∷ parents) ≤ cond b 0 1 → roots_of parents ≤ cond (b || false) 0 1
  fewer true r = omega (arith, r, roots_more (Some p) parents)
  fewer false r = omega (arith, r, roots_more (Some p) parents)

-- ---- by names

one_more : (n : ℕ) → 1 + n ≡ suc n
one_more n = omega arith

name_place : (xs : List Snapshot) (i : ℕ) (s : Snapshot) → Rises snapshot_entry_name xs → slice_get xs i ≡ Some s
    → position_or_len (λ (k : Snapshot). bytes_eq k.name s.name) xs ≡ i
name_place [] i s rises there = absurd cc
name_place (x ∷ xs) zero s rises there =
    let is : x ≡ s = cc in
    let same : bytes_eq x.name s.name ≡ true = ap (λ (k : Snapshot). bytes_eq k.name s.name) is ∙ name_refl s.name in
    rw same refl
name_place (x ∷ xs) (suc i) s rises there =
    let other : bytes_eq x.name s.name ≡ false = before_other x.name s.name (All-get _ xs i s rises.0 there) in
    rw (other, name_place xs i s rises.1 there) (one_more i)

none_same : (f : ℕ → Name) (o : Option ℕ) → is_none (option_map f o) ≡ is_none o
none_same f None = refl
none_same f (Some p) = refl

known : {X : Type 0} (o : Option X) (x : X) (P : X → Type 0) → o ≡ Some x → IfSome o P → P x
known None x P e p = absurd cc
known (Some y) x P e p = let same : y ≡ x = cc in subst P same p

module _ (snapshots : List Snapshot) (rises : Rises snapshot_entry_name snapshots) where
  abbrev names : List Name
  names = snapshot_names snapshots

  abbrev branch_in : Snapshot → Branch
  branch_in s = (s.name, option_map (name_in names) s.parent)

  abbrev pub branches : List Branch
  branches = map branch_in snapshots

  abbrev parents : List (Option ℕ)
  parents = parents_of snapshots

  has_branch : (name : Name) → has_name branch_name name branches ≡ has_name snapshot_entry_name name snapshots
  has_branch name = has_map branch_in snapshot_entry_name branch_name (λ s. refl) name snapshots

  roots_same : (xs : List Snapshot) → count_by is_root (map branch_in xs) ≡ roots_of (parents_of xs)
  roots_same [] = refl
  roots_same (s ∷ xs) =
      let one = sum_by-cons (λ (b : Branch). cond {A = ℕ} (is_root b) 1 0) (branch_in s) (map branch_in xs) in
      let here : cond {A = ℕ} (is_none (option_map (name_in names) s.parent)) 1 0 ≡ cond (is_none s.parent) 1 0 =
      ap (λ (b : Bool). cond {A = ℕ} b 1 0) (none_same (name_in names) s.parent) in
      omega (arith, one, here, roots_more s.parent (parents_of xs), roots_same xs)

  count_is : length branches ≡ length snapshots
  count_is = length-map snapshots branch_in

  there_named : (o : Option ℕ) → IfSome o (λ p. p < length snapshots) → IfSome (option_map (name_in names) o) (Has branches)
  there_named None less = tt
  there_named (Some p) less = has_branch (name_in names p) ∙ has_at snapshot_entry_name snapshots rises p less

  module _ (good : AreGoodParents (length snapshots) 0 false (λ from. from) parents) where
    all_within : AllByRecursion (λ (s : Snapshot). IfSome s.parent (λ p. p < length snapshots)) snapshots
    all_within = All-from_map (λ (s : Snapshot). s.parent) (λ (o : Option ℕ). IfSome o (λ p. p < length snapshots)) snapshots
        (in_range (length snapshots) 0 false (λ from. from) parents good)

    ranks : IsRanked 0 (λ x. x) (λ x. 0) parents
    ranks = ranked (length snapshots) 0 false (λ x. x) (λ x. 0) parents (λ x le. refl) good

    depth : Name → ℕ
    depth name = ranks.now (position_or_len (λ (s : Snapshot). bytes_eq s.name name) snapshots)

    depth_at : (i : ℕ) (s : Snapshot) → slice_get snapshots i ≡ Some s → depth s.name ≡ ranks.now i
    unfolding depth
    depth_at i s there = ap ranks.now (name_place snapshots i s rises there)

    below_at : (i : ℕ) (s : Snapshot) → slice_get snapshots i ≡ Some s → (o : Option ℕ) → s.parent ≡ o → IfSome o (λ p. p < length snapshots)
        → IfSome (option_map (name_in names) o) (λ parent. depth parent < depth s.name)
    below_at i s there None is less = tt
    below_at i s there (Some p) is less =
        let t = item_at snapshots p less in
        let named : depth (name_in names p) ≡ ranks.now p = ap depth (name_of_item snapshot_entry_name snapshots p t.0 t.1) ∙ depth_at p t.0 t.1 in
        let parent : slice_get parents i ≡ Some (Some p) =
        slice_get-map (λ (k : Snapshot). k.parent) snapshots i ∙ ap (option_map (λ (k : Snapshot). k.parent)) there
        ∙ ap (λ (q : Option ℕ). Some q) is in
        let falls : ranks.now p < ranks.now (0 + i) = ranks.falls i p parent in
        let plain : 0 + i ≡ i = omega arith in
        let same : ranks.now (0 + i) ≡ ranks.now i = ap ranks.now plain in
        omega (arith, named, falls, same, depth_at i s there)

    none_is : (current : Option ℕ) → IsTrue (is_current (length snapshots) current)
        → is_none (option_map (name_in names) current) ≡ (length branches == 0)
    none_is None is = sym (ap (λ (n : ℕ). n == 0) count_is ∙ is)
    none_is (Some p) is =
        let less : p < length branches = omega (arith, ltb-true p (length snapshots) is, count_is) in
        sym (some_of (length branches) less)
      where
        some_of : (n : ℕ) → p < n → (n == 0) ≡ false
        some_of n lt = grind (arith, nat_tests)

    current_within : (current : Option ℕ) → IsTrue (is_current (length snapshots) current) → IfSome current (λ p. p < length snapshots)
    current_within None is = tt
    current_within (Some p) is = ltb-true p (length snapshots) is

    pub good_tree : (current : Option ℕ) → IsTrue (is_current (length snapshots) current) → IsTree branches (option_map (name_in names) current)
    good_tree current is = record {
      names = rises_map branch_in snapshot_entry_name branch_name (λ s. refl) snapshots rises;
      parents = All-of_map branch_in (λ (b : Branch). IfSome b.1 (Has branches)) snapshots
          (All-map _ _ (λ s less. there_named s.parent less) snapshots all_within);
      depth = depth;
      below = All-of_map branch_in (λ (b : Branch). IfSome b.1 (λ parent. depth parent < depth b.0)) snapshots
          (all_places (λ (s : Snapshot). IfSome (option_map (name_in names) s.parent) (λ parent. depth parent < depth s.name)) snapshots
          (λ i s there. below_at i s there s.parent refl
          (All-get (λ (k : Snapshot). IfSome k.parent (λ p. p < length snapshots)) snapshots i s all_within there)));
      root = omega (arith, roots_same snapshots, one_root (length snapshots) 0 false (λ from. from) parents good);
      there = there_named current (current_within current is);
      none = none_is current is;
    }

  module _ (full : AllByRecursion (λ (s : Snapshot). NotEmpty s.name) snapshots) where
    within_named : (o : Option ℕ) → IfSome (option_map (name_in names) o) (Has branches) → IfSome o (λ p. p < length snapshots)
    within_named None has = tt
    within_named (Some p) has =
        within_has snapshot_entry_name snapshots rises full p (sym (has_branch (name_in names p)) ∙ has)

    module _ (current : Option ℕ) (tree : IsTree branches (option_map (name_in names) current)) where
      rank : ℕ → ℕ
      rank p = tree.depth (name_in names p)

      falling : Falls rank 0 parents
      unfolding rank
      falling k p there =
          let len : length parents ≡ length snapshots = length-map snapshots (λ (s : Snapshot). s.parent) in
          let s = item_at snapshots k (omega (arith, len, slice_get_within parents k (Some p) there)) in
          let at : slice_get parents k ≡ Some s.0.parent =
          slice_get-map (λ (x : Snapshot). x.parent) snapshots k ∙ ap (option_map (λ (x : Snapshot). x.parent)) s.1 in
          let is : s.0.parent ≡ Some p = cc in
          let below = All-get (λ (x : Snapshot). IfSome (option_map (name_in names) x.parent) (λ parent. tree.depth parent < tree.depth x.name))
          snapshots k s.0
          (All-from_map branch_in (λ (b : Branch). IfSome b.1 (λ parent. tree.depth parent < tree.depth b.0)) snapshots tree.below) s.1 in
          let less : tree.depth (name_in names p) < tree.depth s.0.name =
          known (option_map (name_in names) s.0.parent) (name_in names p) (λ parent. tree.depth parent < tree.depth s.0.name)
          (ap (option_map (name_in names)) is) below in
          let named : tree.depth (name_in names k) ≡ tree.depth s.0.name = ap tree.depth (name_of_item snapshot_entry_name snapshots k s.0 s.1) in
          let plain : 0 + k ≡ k = omega arith in
          let same : tree.depth (name_in names (0 + k)) ≡ tree.depth (name_in names k) = ap (λ (n : ℕ). tree.depth (name_in names n)) plain in
          omega (arith, less, named, same)

      pub tree_good : AreGoodParents (length snapshots) 0 false (λ from. from) parents
      tree_good = all_good (length snapshots) 0 false (λ x. x) rank parents (λ x. omega arith)
          (All-of_map (λ (s : Snapshot). s.parent) (λ (o : Option ℕ). IfSome o (λ p. p < length snapshots)) snapshots
          (All-map _ _ (λ s has. within_named s.parent has) snapshots
          (All-from_map branch_in (λ (b : Branch). IfSome b.1 (Has branches)) snapshots tree.parents)))
          (omega (arith, roots_same snapshots, tree.root))
          falling

      is_current_of : (o : Option ℕ) → IfSome (option_map (name_in names) o) (Has branches)
          → is_none (option_map (name_in names) o) ≡ (length branches == 0) → IsTrue (is_current (length snapshots) o)
      is_current_of None has none = sym (none ∙ ap (λ (n : ℕ). n == 0) count_is)
      is_current_of (Some p) has none = lt-ltb p (length snapshots) (within_named (Some p) has)

      pub tree_current : IsTrue (is_current (length snapshots) current)
      tree_current = is_current_of current tree.there tree.none
