-- A tree of snapshots is a tree without one that has few dependents.
use Rattle.std.proofs.Common.{◌≡◌, ◌<◌, ◌≤◌, ℕ, zero, suc, ◌+◌, Bool, true, false, not, cond, List, [], ◌∷◌, map, length, count_by, Option, Some, None, is_some, is_none, refl, sym, ap, subst, ◌∙◌, arith, IfSome, if◌then◌else◌}
use Rattle.std.specs.Prelude.{◌==◌}
use Rattle.std.specs.List.{AllByRecursion}
use Rattle.std.specs.Option.{option_map}
use Rattle.std.specs.Str.{bytes_eq}
use Rattle.std.proofs.lemmas.Bool.{cond_both}
use Rattle.std.proofs.lemmas.Bool.Decides.{nat_tests}
use Rattle.std.proofs.lemmas.List.Sums.{sum_by-cons}
use Rattle.std.proofs.lemmas.Simd.{map-map}
use Rattle.vbm_world.specs.declared.world.WorldSnapshot.{WorldSnapshot}
use Rattle.vbm_world.specs.declared.world.WorldMachine.{WorldMachine}
use Rattle.vbm_named.specs.Names.{Name, find_by, without}
use Rattle.vbm_named.proofs.Lists.{name_sym, same_name, has_found, find_named, All-find, All-without, find_without_other, rises_without, find_map, has_map, rises_map, without_map, All-of_map, All-map, All-join}
use Rattle.vbm_named.proofs.Sums.{count_none, count_without, count_gone}
use Rattle.vbm_world.specs.World.{snapshot_name}
use Rattle.vbm_world.specs.Tree.{Branch, branch_of, branch_name, is_root, Has, IsTree}
use Rattle.vbm_world.specs.Snapshots.{is_this, dependents, parent_after, adopted, snapshots_after}

-- ---- names that are there

true_some : (name : Name) (branches : List Branch) → Has branches name → is_some (find_by branch_name name branches) ≡ true
true_some name branches has = sym (has_found branch_name name branches) ∙ has

-- a branch of a name that is there
branch_there : (name : Name) (branches : List Branch) → Has branches name → (b : Branch) × (find_by branch_name name branches ≡ Some b)
branch_there name branches has = elim (find_by branch_name name branches) as (λ o. is_some o ≡ true → (b : Branch) × (o ≡ Some b)) [
  | None ↦ λ e. absurd cc
  | Some b ↦ λ e. (b, refl)
] (true_some name branches has)

has_any : (name : Name) (branches : List Branch) → Has branches name → (length branches == 0) ≡ false
has_any name [] has = absurd cc
has_any name (b ∷ bs) has = grind (arith, nat_tests)

-- ---- counts

module _ {X : Type 0} (nx : X → Name) (p : X → Bool) where
  pub count-cons : (x : X) (xs : List X) → count_by p (x ∷ xs) ≡ cond (p x) 1 0 + count_by p xs
  count-cons x xs = sum_by-cons (λ y. cond (p y) 1 0) x xs

-- ---- a snapshot with at most one dependent goes

-- what holds of all that are left
of_left : (P : Branch → Type 0) (name : Name) (bs : List Branch) → AllByRecursion P (without branch_name name bs)
    → AllByRecursion (λ (b : Branch). bytes_eq b.0 name ≡ false → P b) bs
of_left P name [] all = tt
of_left P name (l ∷ ls) all = elim (bytes_eq l.0 name) as (λ b. AllByRecursion P (cond (not b) (l ∷ without branch_name name ls) (without branch_name name ls))
    → (b ≡ false → P l) × AllByRecursion (λ (k : Branch). bytes_eq k.0 name ≡ false → P k) ls) [
      | true ↦ λ h. (λ e. absurd cc, of_left P name ls h)
      | false ↦ λ h. (λ e. h.0, of_left P name ls h.1)
    ] all

none_left : (name : Name) (bs : List Branch) → AllByRecursion (λ (b : Branch). bytes_eq b.0 name ≡ true) bs → without branch_name name bs ≡ []
none_left name [] all = refl
none_left name (b ∷ bs) all = rw all.0 (none_left name bs all.1)

-- where a snapshot is named that goes, its parent is named
abbrev heir : (gone : Name) → (parent named : Option Name) → Option Name
heir gone parent named = if is_this gone named then parent else named

abbrev with_heir : (gone : Name) → (parent : Option Name) → Branch → Branch
with_heir gone parent b = (b.0, heir gone parent b.1)

abbrev standing : Name → List Branch → (current : Option Name) → ℕ
standing name branches current = count_by (λ (b : Branch). is_this name b.1) branches + (if is_this name current then 1 else 0)

module _ (branches : List Branch) (current : Option Name) (name : Name) (parent : Option Name) (tree : IsTree branches current)
    (found : find_by branch_name name branches ≡ Some (name, parent)) (few : standing name branches current ≤ 1) where
  abbrev left : List Branch
  left = without branch_name name branches

  abbrev after : List Branch
  after = map (with_heir name parent) left

  -- the parent is another one
  parent_below : IfSome parent (λ q. tree.depth q < tree.depth name)
  parent_below = All-find branch_name _ name (name, parent) branches tree.below found

  parent_there : IfSome parent (Has branches)
  parent_there = All-find branch_name _ name (name, parent) branches tree.parents found

  has_after : (other : Name) → bytes_eq name other ≡ false → Has branches other → Has after other
  has_after other apart has =
      has_map (with_heir name parent) branch_name branch_name (λ l. refl) other left
      ∙ has_found branch_name other left ∙ ap is_some (find_without_other branch_name name other branches apart) ∙ true_some other branches has

  other_parent : (q : Name) → parent ≡ Some q → bytes_eq name q ≡ false
  other_parent q is = elim (bytes_eq name q) as (λ b. bytes_eq name q ≡ b → b ≡ false) [
    | true ↦ λ e.
        let same : name ≡ q = same_name name q e in
        let less : tree.depth q < tree.depth name = rw is at parent_below in
        let equal : tree.depth name ≡ tree.depth q = ap tree.depth same in absurd (omega arith)
    | false ↦ λ e. refl
  ] refl

  parent_has : (o : Option Name) → o ≡ parent → IfSome o (Has after)
  parent_has None is = tt
  parent_has (Some q) is = has_after q (other_parent q (sym is)) (rw (sym is) at parent_there)

  heir_there : (o : Option Name) → IfSome o (Has branches) → IfSome (heir name parent o) (Has after)
  heir_there None has = tt
  heir_there (Some q) has = cond_both (bytes_eq q name) parent (Some q) (λ o. IfSome o (Has after))
      (λ e. parent_has parent refl) (λ e. has_after q (name_sym name q ∙ e) has)

  heir_below : (d : ℕ) (o : Option Name) → IfSome o (λ q. tree.depth q < d) → IfSome (heir name parent o) (λ q. tree.depth q < d)
  heir_below d None less = tt
  heir_below d (Some q) less = cond_both (bytes_eq q name) parent (Some q) (λ o. IfSome o (λ r. tree.depth r < d))
      (λ e. lower parent parent_below (ap tree.depth (same_name q name e))) (λ e. less)
    where
      lower : (o : Option Name) → IfSome o (λ r. tree.depth r < tree.depth name) → tree.depth q ≡ tree.depth name → IfSome o (λ r. tree.depth r < d)
      lower None h e = tt
      lower (Some r) h e = omega (arith, h, e, less)

  -- the roots after it: the roots before, and the children where it was the root
  roots_or_children : (bs : List Branch) → count_by is_root (map (with_heir name parent) bs) ≤ count_by is_root bs + count_by (λ (b : Branch). is_this name b.1) bs
  roots_or_children [] = omega arith
  roots_or_children (l ∷ ls) =
      let one = sum_by-cons (λ (k : Branch). cond (is_root k) 1 0) (with_heir name parent l) (map (with_heir name parent) ls) in
      let two = sum_by-cons (λ (k : Branch). cond (is_root k) 1 0) l ls in
      let three = sum_by-cons (λ (k : Branch). cond (is_this name k.1) 1 0) l ls in
      let more = roots_or_children ls in
      let here = root_or_child l.1 in
      omega arith
    where
      at_most : (b : Bool) → cond b 1 0 ≤ 0 + 1
      at_most true = omega arith
      at_most false = omega arith

      root_or_child : (o : Option Name) → cond (is_none (heir name parent o)) 1 0 ≤ cond (is_none o) 1 0 + cond (is_this name o) 1 0
      root_or_child None = omega arith
      root_or_child (Some q) = elim (bytes_eq q name) as (λ b. cond (is_none (cond b parent (Some q))) 1 0 ≤ 0 + cond b 1 0) [
        | true ↦ at_most (is_none parent)
        | false ↦ omega arith
      ]

  same_root : (o : Option Name) → is_none parent ≡ false → is_none (heir name parent o) ≡ is_none o
  same_root None below = refl
  same_root (Some q) below = cond_both (bytes_eq q name) parent (Some q) (λ r. is_none r ≡ false) (λ e. below) (λ e. refl)

  same_roots : (bs : List Branch) → is_none parent ≡ false → count_by is_root (map (with_heir name parent) bs) ≡ count_by is_root bs
  same_roots [] below = refl
  same_roots (l ∷ ls) below =
      let one = sum_by-cons (λ (k : Branch). cond (is_root k) 1 0) (with_heir name parent l) (map (with_heir name parent) ls) in
      let two = sum_by-cons (λ (k : Branch). cond (is_root k) 1 0) l ls in
      let more = same_roots ls below in
      let here : cond {A = ℕ} (is_none (heir name parent l.1)) 1 0 ≡ cond (is_none l.1) 1 0 = ap (λ (b : Bool). cond {A = ℕ} b 1 0) (same_root l.1 below) in
      omega arith

  abbrev children : ℕ
  children = count_by (λ (b : Branch). is_this name b.1) branches

  -- where the root goes, no other root is left
  rootless : is_none parent ≡ true → count_by is_root left ≤ 0
  rootless root = let gone = count_gone branch_name is_root name (name, parent) branches found root in let old = tree.root in omega arith

  root_after : count_by is_root after ≤ 1
  root_after = elim (is_none parent) as (λ b. is_none parent ≡ b → count_by is_root after ≤ 1) [
    | true ↦ λ e.
        let none = rootless e in let all = roots_or_children left in
        let some = count_without branch_name (λ (b : Branch). is_this name b.1) name branches in omega arith
    | false ↦ λ e. let same = same_roots left e in let less = count_without branch_name is_root name branches in let old = tree.root in omega arith
  ] refl

  -- ---- where the root goes and is current, it was alone

  record IsLone (b : Branch) : Type 0 where
    pub has : IfSome b.1 (Has branches)
    pub below : IfSome b.1 (λ q. tree.depth q < tree.depth b.0)
    pub no_child : is_this name b.1 ≡ false
    pub no_root : bytes_eq b.0 name ≡ false → is_root b ≡ false

  module _ (root : is_none parent ≡ true) (mine : is_this name current ≡ true) where
    no_children : children ≤ 0
    no_children = let one : cond {A = ℕ} (is_this name current) 1 0 ≡ 1 = ap (λ (b : Bool). cond {A = ℕ} b 1 0) mine in omega arith

    each_lone : AllByRecursion IsLone branches
    each_lone = All-join _ (λ (b : Branch). (is_this name b.1 ≡ false) × (bytes_eq b.0 name ≡ false → is_root b ≡ false)) IsLone
        (λ b p q. record { has = p.0; below = p.1; no_child = q.0; no_root = q.1 }) branches
        (All-join _ _ (λ (b : Branch). IfSome b.1 (Has branches) × IfSome b.1 (λ q. tree.depth q < tree.depth b.0)) (λ l a b. (a, b)) branches tree.parents tree.below)
        (All-join _ _ (λ (b : Branch). (is_this name b.1 ≡ false) × (bytes_eq b.0 name ≡ false → is_root b ≡ false)) (λ l a b. (a, b)) branches
        (count_none branch_name (λ (b : Branch). is_this name b.1) branches no_children)
        (of_left (λ b. is_root b ≡ false) name branches (count_none branch_name is_root left (rootless root))))

    lone : (n : ℕ) (b : Branch) → IsLone b → tree.depth b.0 < n → bytes_eq b.0 name ≡ true
    lone zero l is less = absurd (omega arith)
    lone (suc n) l is less = elim (bytes_eq l.0 name) as (λ b. bytes_eq l.0 name ≡ b → b ≡ true) [
      | true ↦ λ e. refl
      | false ↦ λ e. elim l.1 as (λ o. IfSome o (Has branches) → IfSome o (λ q. tree.depth q < tree.depth l.0) → is_this name o ≡ false → is_none o ≡ false
          → false ≡ true) [
            | None ↦ λ has below child no_root. absurd cc
            | Some q ↦ λ has below child no_root.
                let there = branch_there q branches has in
                let named : there.0.0 ≡ q = same_name there.0.0 q (find_named branch_name q there.0 branches there.1) in
                let depth : tree.depth there.0.0 ≡ tree.depth q = ap tree.depth named in
                let up : bytes_eq there.0.0 name ≡ true = lone n there.0 (All-find branch_name IsLone q there.0 branches each_lone there.1) (omega arith) in
                sym child ∙ ap (λ k. bytes_eq k name) (sym named) ∙ up
          ] is.has is.below is.no_child (is.no_root e)
    ] refl

    alone : left ≡ []
    alone = none_left name branches (All-map IsLone _ (λ l is. lone (tree.depth l.0 + 1) l is (omega arith)) branches each_lone)

  is_left : (c : Option Name) → IfSome c (Has branches) → c ≡ current → is_none c ≡ false → is_none (heir name parent c) ≡ (length after == 0)
  is_left None has is some = absurd cc
  is_left (Some c) has is some = elim (bytes_eq c name) as (λ b. bytes_eq c name ≡ b → is_none (cond b parent (Some c)) ≡ (length after == 0)) [
    | true ↦ λ e. elim parent as (λ o. o ≡ parent → is_none o ≡ (length after == 0)) [
      | None ↦ λ p.
          let empty : left ≡ [] = alone (ap is_none (sym p)) (ap (is_this name) (sym is) ∙ e) in
          ap (λ (bs : List Branch). length (map (with_heir name parent) bs) == 0) (sym empty)
      | Some q ↦ λ p. sym (has_any q after (parent_has (Some q) p))
    ] refl
    | false ↦ λ e. sym (has_any c after (has_after c (name_sym name c ∙ e) has))
  ] refl

  some_current : is_none current ≡ false
  some_current = tree.none ∙ has_any name branches (has_found branch_name name branches ∙ ap is_some found)

  removed_tree : IsTree after (heir name parent current)
  removed_tree = record {
    names = rises_map (with_heir name parent) branch_name branch_name (λ l. refl) left (rises_without branch_name name branches tree.names);
    parents = All-of_map (with_heir name parent) _ left
        (All-without branch_name _ name branches (All-map _ (λ (b : Branch). IfSome (heir name parent b.1) (Has after)) (λ l has. heir_there l.1 has) branches tree.parents));
    depth = tree.depth;
    below = All-of_map (with_heir name parent) _ left
        (All-without branch_name _ name branches
        (All-map _ (λ (b : Branch). IfSome (heir name parent b.1) (λ q. tree.depth q < tree.depth b.0)) (λ l less. heir_below (tree.depth l.0) l.1 less) branches tree.below));
    root = root_after;
    there = heir_there current tree.there;
    none = is_left current tree.there refl some_current;
  }

-- ---- the snapshots of a machine

pub count-map : {X Y : Type 0} (p : Y → Bool) (f : X → Y) (xs : List X) → count_by p (map f xs) ≡ count_by (λ x. p (f x)) xs
count-map p f [] = refl
count-map {X} {Y} p f (x ∷ xs) =
    let one = sum_by-cons (λ (y : Y). cond (p y) 1 0) (f x) (map f xs) in
    let two = sum_by-cons (λ (y : X). cond (p (f y)) 1 0) x xs in let more = count-map p f xs in omega arith

-- the parent of a snapshot is another one
pub not_own_parent : (m : WorldMachine) (gone : WorldSnapshot) → IsTree (map branch_of m.snapshots) m.current
    → find_by snapshot_name gone.name m.snapshots ≡ Some gone → is_this gone.name gone.parent ≡ false
not_own_parent m gone tree found = elim gone.parent as (λ o. IfSome o (λ q. tree.depth q < tree.depth gone.name) → is_this gone.name o ≡ false) [
  | None ↦ λ less. refl
  | Some q ↦ λ less. elim (bytes_eq q gone.name) as (λ b. bytes_eq q gone.name ≡ b → b ≡ false) [
    | true ↦ λ e. let equal : tree.depth q ≡ tree.depth gone.name = ap tree.depth (same_name q gone.name e) in absurd (omega (arith, less, equal))
    | false ↦ λ e. refl
  ] refl
] (All-find branch_name _ gone.name (gone.name, gone.parent) (map branch_of m.snapshots) tree.below
    (find_map branch_of snapshot_name branch_name (λ s. refl) gone.name m.snapshots ∙ ap (option_map branch_of) found))

pub deleted_tree : (m : WorldMachine) (gone : WorldSnapshot) → IsTree (map branch_of m.snapshots) m.current
    → find_by snapshot_name gone.name m.snapshots ≡ Some gone → dependents m gone.name ≤ 1
    → IsTree (map branch_of (snapshots_after m gone)) (parent_after gone m.current)
deleted_tree m gone tree found few =
    let branches = map branch_of m.snapshots in
    let there : find_by branch_name gone.name branches ≡ Some (gone.name, gone.parent) =
    find_map branch_of snapshot_name branch_name (λ s. refl) gone.name m.snapshots ∙ ap (option_map branch_of) found in
    let count : count_by (λ (b : Branch). is_this gone.name b.1) branches ≡ count_by (λ (s : WorldSnapshot). is_this gone.name s.parent) m.snapshots =
    count-map (λ (b : Branch). is_this gone.name b.1) branch_of m.snapshots in
    let less = without snapshot_name gone.name m.snapshots in
    let same : map (with_heir gone.name gone.parent) (without branch_name gone.name branches) ≡ map branch_of (map (adopted gone) less) =
    ap (map (with_heir gone.name gone.parent)) (sym (without_map branch_of snapshot_name branch_name (λ s. refl) gone.name m.snapshots))
    ∙ map-map (with_heir gone.name gone.parent) branch_of less ∙ sym (map-map branch_of (adopted gone) less) in
    subst (λ bs. IsTree bs (parent_after gone m.current)) same
    (removed_tree branches m.current gone.name gone.parent tree there (omega (arith, count, few)))
