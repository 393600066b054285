-- Where media came into the snapshots of a machine, when one snapshot is deleted.
use Rattle.std.proofs.Common.{◌≡◌, ◌<◌, ◌≤◌, ℕ, zero, suc, ◌+◌, Bool, true, false, not, ◌&&◌, ◌||◌, cond, List, [], ◌∷◌, map, count_by, Option, Some, None, refl, sym, ap, subst, ◌∙◌, arith, IfSome, IsTrue}
use Rattle.std.specs.List.{AllByRecursion, list_any, sum_by}
use Rattle.std.specs.Option.{option_map}
use Rattle.std.proofs.lemmas.List.Sums.{sum_by-cons}
use Rattle.vbm_world.specs.declared.world.WorldSnapshot.{WorldSnapshot}
use Rattle.vbm_world.specs.declared.world.WorldMachine.{WorldMachine}
use Rattle.vbm_named.specs.Names.{Name, find_by, without, is_before, Rises}
use Rattle.vbm_named.proofs.Lists.{name_sym, same_name, find_named, All-find, find_without_other, find_map, each_found}
use Rattle.vbm_named.proofs.Sums.{count_without, count_gone}
use Rattle.vbm_world.specs.World.{snapshot_name, has_medium, is_in_snapshot}
use Rattle.vbm_world.specs.Places.{slots_of, slots_named}
use Rattle.vbm_world.specs.Tree.{Branch, branch_of, branch_name, IsTree}
use Rattle.vbm_world.specs.Sound.{first_count}
use Rattle.vbm_world.specs.Snapshots.{is_this, parent_after, adopted, snapshots_after}
use Rattle.vbm_world.proofs.Parted.{sum-parted}
use Rattle.vbm_world.proofs.DeletingTree.{count-map, not_own_parent}

-- ---- lists

All-back : {X Y : Type 0} (f : X → Y) (P : Y → Type 0) (xs : List X) → AllByRecursion P (map f xs) → AllByRecursion (λ x. P (f x)) xs
All-back f P [] all = tt
All-back f P (x ∷ xs) all = (all.0, All-back f P xs all.1)

rises_back : (xs : List WorldSnapshot) → Rises branch_name (map branch_of xs) → Rises snapshot_name xs
rises_back [] rises = tt
rises_back (x ∷ xs) rises = (All-back branch_of (λ (b : Branch). IsTrue (is_before x.name b.0)) xs rises.0, rises_back xs rises.1)

pub tree_rises : (snapshots : List WorldSnapshot) (current : Option Name) → IsTree (map branch_of snapshots) current → Rises snapshot_name snapshots
tree_rises snapshots current tree = rises_back snapshots tree.names

module _ {X : Type 0} where
  -- what follows from each item that passes a test, where some item passes it
  pub any-some : (p : X → Bool) (P : X → Type 0) (Q : Type 0) → ((x : X) → P x → p x ≡ true → Q) → (xs : List X) → AllByRecursion P xs
      → list_any p xs ≡ true → Q
  any-some p P Q f [] all some = absurd cc
  any-some p P Q f (x ∷ xs) all some = elim (p x) as (λ b. p x ≡ b → b || list_any p xs ≡ true → Q) [
    | true ↦ λ e h. f x all.0 e
    | false ↦ λ e h. any-some p P Q f xs all.1 h
  ] refl some

  counts_le : (p q r : X → Bool) → ((x : X) → cond (p x) 1 0 ≤ cond (q x) 1 0 + cond (r x) 1 0) → (xs : List X)
      → count_by p xs ≤ count_by q xs + count_by r xs
  counts_le p q r each [] = omega arith
  counts_le p q r each (x ∷ xs) =
      let one = sum_by-cons (λ y. cond (p y) 1 0) x xs in let two = sum_by-cons (λ y. cond (q y) 1 0) x xs in
      let three = sum_by-cons (λ y. cond (r y) 1 0) x xs in
      let here = each x in let more = counts_le p q r each xs in omega arith

  counts_none : (xs : List X) → count_by (λ x. false) xs ≡ 0
  counts_none [] = refl
  counts_none (x ∷ xs) = let one = sum_by-cons (λ (y : X). cond {A = ℕ} false 1 0) x xs in let more = counts_none xs in omega arith

-- ---- the slots of a named snapshot, after another one is gone

same_slots : (gone : WorldSnapshot) (o : Option WorldSnapshot) → slots_of (option_map (adopted gone) o) ≡ slots_of o
same_slots gone None = refl
same_slots gone (Some s) = refl

module _ (m : WorldMachine) (gone : WorldSnapshot) (tree : IsTree (map branch_of m.snapshots) m.current)
    (found : find_by snapshot_name gone.name m.snapshots ≡ Some gone) where
  abbrev left : List WorldSnapshot
  left = without snapshot_name gone.name m.snapshots

  pub named_other : (p : Option Name) → is_this gone.name p ≡ false → slots_named p (snapshots_after m gone) ≡ slots_named p m.snapshots
  named_other None other = refl
  named_other (Some q) other =
      ap slots_of (find_map (adopted gone) snapshot_name snapshot_name (λ s. refl) q left) ∙ same_slots gone (find_by snapshot_name q left)
      ∙ ap slots_of (find_without_other snapshot_name gone.name q m.snapshots (name_sym gone.name q ∙ other))

  pub named_gone : (p : Option Name) → is_this gone.name p ≡ true → slots_named p m.snapshots ≡ gone.slots
  named_gone None is = absurd cc
  named_gone (Some q) is =
      ap slots_of (subst (λ n. find_by snapshot_name n m.snapshots ≡ Some gone) (sym (same_name q gone.name is)) found)

  -- where the one that goes is named, its parent's are named after it
  pub heir_gone : (p : Option Name) → is_this gone.name p ≡ true
      → slots_named (parent_after gone p) (snapshots_after m gone) ≡ slots_named gone.parent m.snapshots
  heir_gone p is = ap (λ (b : Bool). slots_named (cond b gone.parent p) (snapshots_after m gone)) is
      ∙ named_other gone.parent (not_own_parent m gone tree found)

  pub heir_other : (p : Option Name) → is_this gone.name p ≡ false
      → slots_named (parent_after gone p) (snapshots_after m gone) ≡ slots_named p m.snapshots
  heir_other p is = ap (λ (b : Bool). slots_named (cond b gone.parent p) (snapshots_after m gone)) is ∙ named_other p is

  -- ---- where a medium came in

  module _ (n : Name) where
    abbrev came_in : List WorldSnapshot → WorldSnapshot → Bool
    came_in snapshots s = has_medium n s.slots && not (has_medium n (slots_named s.parent snapshots))

    abbrev is_child : WorldSnapshot → Bool
    is_child s = is_this gone.name s.parent

    children_bools : (s g u x y : Bool) → x ≡ u → y ≡ g → cond (s && not x) 1 0 ≤ cond (s && not y) 1 0 + cond ((g && not u) && true) 1 0
    children_bools s true u x y ex ey = rw (ex, ey) (at s u) where
      at : (s u : Bool) → cond (s && not u) 1 0 ≤ cond (s && false) 1 0 + cond (not u && true) 1 0
      at true true = omega arith
      at true false = omega arith
      at false true = omega arith
      at false false = omega arith
    children_bools s false u x y ex ey = rw (ex, ey) (at s u) where
      at : (s u : Bool) → cond (s && not u) 1 0 ≤ cond (s && true) 1 0 + 0
      at true true = omega arith
      at true false = omega arith
      at false true = omega arith
      at false false = omega arith

    other_bools : (s g x y : Bool) → x ≡ y → cond (s && not x) 1 0 ≤ cond (s && not y) 1 0 + cond (g && false) 1 0
    other_bools s g x y e = rw e (omega arith)

    each_comes : (s : WorldSnapshot) → cond (came_in (snapshots_after m gone) (adopted gone s)) 1 0
        ≤ cond (came_in m.snapshots s) 1 0 + cond (came_in m.snapshots gone && is_child s) 1 0
    each_comes s = elim (is_child s) as (λ b. is_child s ≡ b → cond (came_in (snapshots_after m gone) (adopted gone s)) 1 0
        ≤ cond (came_in m.snapshots s) 1 0 + cond (came_in m.snapshots gone && b) 1 0) [
          | true ↦ λ e. children_bools (has_medium n s.slots) (has_medium n gone.slots) (has_medium n (slots_named gone.parent m.snapshots)) _ _
              (ap (has_medium n) (heir_gone s.parent e)) (ap (has_medium n) (named_gone s.parent e))
          | false ↦ λ e. other_bools (has_medium n s.slots) (came_in m.snapshots gone) _ _ (ap (has_medium n) (heir_other s.parent e))
        ] refl

    all_come : count_by (came_in (snapshots_after m gone)) (snapshots_after m gone)
        ≤ count_by (came_in m.snapshots) left + count_by (λ s. came_in m.snapshots gone && is_child s) left
    all_come =
        let same = count-map (came_in (snapshots_after m gone)) (adopted gone) left in
        let less = counts_le (λ s. came_in (snapshots_after m gone) (adopted gone s)) (came_in m.snapshots) (λ s. came_in m.snapshots gone && is_child s)
        each_comes left in omega arith

    came_before : count_by (came_in m.snapshots) m.snapshots ≡ cond (came_in m.snapshots gone) 1 0 + count_by (came_in m.snapshots) left
    came_before = sum-parted snapshot_name gone.name m.snapshots gone (tree_rises m.snapshots m.current tree) found (λ s. cond (came_in m.snapshots s) 1 0)

    children_left : (c : Bool) → count_by (λ s. c && is_child s) left ≤ cond c (count_by is_child m.snapshots) 0
    children_left true = count_without snapshot_name is_child gone.name m.snapshots
    children_left false = omega (arith, counts_none left)

    -- with at most one child it came in at most as often after
    pub first_kept : count_by is_child m.snapshots ≤ 1
        → count_by (came_in (snapshots_after m gone)) (snapshots_after m gone) ≤ count_by (came_in m.snapshots) m.snapshots
    first_kept few = let all = all_come in let before = came_before in let some = children_left (came_in m.snapshots gone) in
        elim (came_in m.snapshots gone) as (λ c. count_by (came_in m.snapshots) m.snapshots ≡ cond c 1 0 + count_by (came_in m.snapshots) left
        → count_by (λ s. came_in m.snapshots gone && is_child s) left ≤ cond c (count_by is_child m.snapshots) 0
        → count_by (came_in (snapshots_after m gone)) (snapshots_after m gone) ≤ count_by (came_in m.snapshots) m.snapshots) [
          | true ↦ λ before some. omega arith
          | false ↦ λ before some. omega arith
        ] before some

    -- without a child it came in once less, if it came in at the one that goes
    pub first_gone : count_by is_child m.snapshots ≤ 0
        → count_by (came_in (snapshots_after m gone)) (snapshots_after m gone) + cond (came_in m.snapshots gone) 1 0 ≤ count_by (came_in m.snapshots) m.snapshots
    first_gone few = let all = all_come in let before = came_before in let some = children_left (came_in m.snapshots gone) in
        elim (came_in m.snapshots gone) as (λ c. count_by (came_in m.snapshots) m.snapshots ≡ cond c 1 0 + count_by (came_in m.snapshots) left
        → count_by (λ s. came_in m.snapshots gone && is_child s) left ≤ cond c (count_by is_child m.snapshots) 0
        → count_by (came_in (snapshots_after m gone)) (snapshots_after m gone) + cond c 1 0 ≤ count_by (came_in m.snapshots) m.snapshots) [
          | true ↦ λ before some. omega arith
          | false ↦ λ before some. omega arith
        ] before some

-- ---- a medium that some snapshot has came in somewhere

module _ (m : WorldMachine) (n : Name) (tree : IsTree (map branch_of m.snapshots) m.current) where
  climb : (k : ℕ) (s : WorldSnapshot) → find_by snapshot_name s.name m.snapshots ≡ Some s → tree.depth s.name < k → has_medium n s.slots ≡ true
      → 1 ≤ first_count n m
  climb zero s found less has = absurd (omega (arith, less))
  climb (suc k) s found less has =
      elim (has_medium n (slots_named s.parent m.snapshots)) as (λ b. has_medium n (slots_named s.parent m.snapshots) ≡ b → 1 ≤ first_count n m) [
        | false ↦ λ e.
            let more = count_gone snapshot_name (λ (t : WorldSnapshot). has_medium n t.slots && not (has_medium n (slots_named t.parent m.snapshots)))
            s.name s m.snapshots found (both (has_medium n s.slots) (has_medium n (slots_named s.parent m.snapshots)) has e) in omega arith
        | true ↦ λ e. elim s.parent as (λ o. IfSome o (λ q. tree.depth q < tree.depth s.name) → has_medium n (slots_named o m.snapshots) ≡ true → 1 ≤ first_count n m) [
          | None ↦ λ lower h. absurd cc
          | Some q ↦ λ lower h.
              elim (find_by snapshot_name q m.snapshots) as (λ o. find_by snapshot_name q m.snapshots ≡ o → has_medium n (slots_of o) ≡ true → 1 ≤ first_count n m) [
                | None ↦ λ at h. absurd cc
                | Some t ↦ λ at h.
                    let named : t.name ≡ q = same_name t.name q (find_named snapshot_name q t m.snapshots at) in
                    let depth : tree.depth t.name ≡ tree.depth q = ap tree.depth named in
                    climb k t (subst (λ x. find_by snapshot_name x m.snapshots ≡ Some t) (sym named) at) (omega arith) h
              ] refl h
        ] (All-find branch_name _ s.name (s.name, s.parent) (map branch_of m.snapshots) tree.below
            (find_map branch_of snapshot_name branch_name (λ s. refl) s.name m.snapshots ∙ ap (option_map branch_of) found)) e
      ] refl
    where
      both : (a b : Bool) → a ≡ true → b ≡ false → (a && not b) ≡ true
      both a b ea eb = rw (ea, eb) refl

  pub came_once : is_in_snapshot n m ≡ true → 1 ≤ first_count n m
  came_once has = any-some (λ (s : WorldSnapshot). has_medium n s.slots) _ (1 ≤ first_count n m)
      (λ s found h. climb (tree.depth s.name + 1) s found (omega arith) h) m.snapshots
      (each_found snapshot_name m.snapshots (tree_rises m.snapshots m.current tree)) has

pub came_somewhere : (n : Name) (machines : List WorldMachine)
    → AllByRecursion (λ (m : WorldMachine). IsTree (map branch_of m.snapshots) m.current) machines
    → list_any (is_in_snapshot n) machines ≡ true → 1 ≤ sum_by (first_count n) machines
came_somewhere n [] trees some = absurd cc
came_somewhere n (m ∷ ms) trees some =
    let all = sum_by-cons (first_count n) m ms in
    elim (is_in_snapshot n m) as (λ b. is_in_snapshot n m ≡ b → b || list_any (is_in_snapshot n) ms ≡ true → 1 ≤ sum_by (first_count n) (m ∷ ms)) [
      | true ↦ λ e h. let here = came_once m n trees.0 e in omega arith
      | false ↦ λ e h. let more = came_somewhere n ms trees.1 h in omega arith
    ] refl some
