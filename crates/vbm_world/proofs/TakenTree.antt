-- A snapshot below the current one: the snapshots are a tree again.
use Rattle.std.proofs.Common.{◌≡◌, ℕ, suc, ◌<◌, ◌≤◌, true, false, cond, ◌||◌, List, [], ◌∷◌, map, length, Option, Some, None, refl, sym, ap, subst, ◌∙◌, arith, is_some, is_none, eqb-true}
use Rattle.std.specs.Prelude.{◌==◌, count_by, IfSome}
use Rattle.std.specs.Option.{option_map}
use Rattle.std.specs.Str.{bytes_eq}
use Rattle.std.proofs.lemmas.Bool.{false_from_ne_true, ne_eqb, or_left, or_right}
use Rattle.vbm_world.specs.declared.world.WorldSnapshot.{WorldSnapshot}
use Rattle.vbm_named.specs.Names.{Name, find_by, has_name, put_by}
use Rattle.vbm_world.specs.World.{snapshot_name}
use Rattle.vbm_world.specs.Tree.{Branch, branch_of, branch_name, is_root, Has, IsTree}
use Rattle.vbm_named.proofs.Lists.{name_refl, same_name, has_found, All-map, All-join, All-both, All-put, rises_put, length-put, find_map, put_map, others-none}
use Rattle.vbm_named.proofs.Sums.{count_put}
use Rattle.vbm_world.proofs.InPlace.{any_put}

module _ (branches : List Branch) (current : Option Name) (b : Branch) (tree : IsTree branches current) (below : b.1 ≡ current)
    (new : find_by branch_name b.0 branches ≡ None) where
  abbrev after : List Branch
  after = put_by branch_name b branches

  has_put : (name : Name) → has_name branch_name name after ≡ (bytes_eq b.0 name || has_name branch_name name branches)
  has_put name = any_put branch_name (λ (x : Branch). bytes_eq x.0 name) b branches

  stays : (name : Name) → Has branches name → Has after name
  stays name there = has_put name ∙ or_right (bytes_eq b.0 name) _ there

  -- a name that is there is another
  apart : (name : Name) → Has branches name → bytes_eq name b.0 ≡ false
  apart name there = false_from_ne_true (bytes_eq name b.0) (λ same.
      let none : has_name branch_name b.0 branches ≡ false = has_found branch_name b.0 branches ∙ ap is_some new in
      let clash : true ≡ false = sym there ∙ ap (λ n. has_name branch_name n branches) (same_name name b.0 same) ∙ none in absurd cc)

  if_some : (P Q : Name → Type 0) → ((name : Name) → P name → Q name) → (o : Option Name) → IfSome o P → IfSome o Q
  if_some P Q f None p = p
  if_some P Q f (Some name) p = f name p

  depth_of : Option Name → ℕ
  depth_of None = 0
  depth_of (Some name) = tree.depth name

  depth : Name → ℕ
  depth name = cond (bytes_eq name b.0) (suc (depth_of current)) (tree.depth name)

  depth_other : (name : Name) → bytes_eq name b.0 ≡ false → depth name ≡ tree.depth name
  unfolding depth
  depth_other name other = rw other refl

  depth_new : depth b.0 ≡ suc (depth_of current)
  unfolding depth
  depth_new = let same = name_refl b.0 in rw same refl

  below_new : (o : Option Name) → o ≡ current → IfSome o (Has branches) → IfSome o (λ parent. depth parent < depth b.0)
  unfolding depth_of
  below_new None e there = tt
  below_new (Some p) e there =
      let up : depth_of current ≡ tree.depth p = ap depth_of (sym e) in
      omega (arith, depth_other p (apart p there), depth_new, up)

  below_old : (x : Branch) → bytes_eq x.0 b.0 ≡ false → (o : Option Name) → IfSome o (Has branches)
      → IfSome o (λ parent. tree.depth parent < tree.depth x.0) → IfSome o (λ parent. depth parent < depth x.0)
  below_old x other None there deep = tt
  below_old x other (Some p) there deep = omega (arith, depth_other p (apart p there), depth_other x.0 other, deep)

  roots : (o : Option Name) → b.1 ≡ o → o ≡ current → count_by is_root after ≤ 1
  roots None e is =
      let empty : (length branches == 0) ≡ true = sym tree.none ∙ ap is_none (sym is) in
      let none : count_by is_root branches ≡ 0 = few branches (eqb-true (length branches) 0 empty) in
      rw (count_put branch_name is_root b branches, e) (omega (arith, none))
    where
      few : (xs : List Branch) → length xs ≡ 0 → count_by is_root xs ≡ 0
      few [] e = refl
      few (x ∷ xs) e = absurd (omega arith)
  roots (Some p) e is = rw (count_put branch_name is_root b branches, e) (omega (arith, tree.root))

  pub tree_put : IsTree after (Some b.0)
  tree_put =
      let there : IfSome b.1 (Has branches) = subst (λ o. IfSome o (Has branches)) (sym below) tree.there in
      let others = others-none branch_name b.0 branches new in
      record {
        names = rises_put branch_name b branches new tree.names;
        parents = All-put branch_name (λ (x : Branch). IfSome x.1 (Has after)) b branches (if_some (Has branches) (Has after) stays b.1 there)
            (All-map _ _ (λ (x : Branch) h. if_some (Has branches) (Has after) stays x.1 h) branches tree.parents);
        depth = depth;
        below = All-put branch_name (λ (x : Branch). IfSome x.1 (λ parent. depth parent < depth x.0)) b branches (below_new b.1 below there)
            (All-join _ _ _ (λ (x : Branch) both deep. below_old x both.0 x.1 both.1 deep) branches
            (All-both (λ (x : Branch). bytes_eq x.0 b.0 ≡ false) _ branches others tree.parents) tree.below);
        root = roots b.1 refl below;
        there = has_put b.0 ∙ or_left (bytes_eq b.0 b.0) _ (name_refl b.0);
        none = sym (ne_eqb (length after) 0 (λ e. omega (arith, e, length-put branch_name b branches)));
      }

-- the snapshots of a machine with a new one below the current one
pub tree_taken : (snapshots : List WorldSnapshot) (current : Option Name) (s : WorldSnapshot) → IsTree (map branch_of snapshots) current
    → s.parent ≡ current → find_by snapshot_name s.name snapshots ≡ None
    → IsTree (map branch_of (put_by snapshot_name s snapshots)) (Some s.name)
tree_taken snapshots current s tree below new =
    let none : find_by branch_name s.name (map branch_of snapshots) ≡ None =
    find_map branch_of snapshot_name branch_name (λ s. refl) s.name snapshots ∙ ap (option_map branch_of) new in
    subst (λ branches. IsTree branches (Some s.name)) (sym (put_map branch_of snapshot_name branch_name (λ s. refl) s snapshots))
    (tree_put (map branch_of snapshots) current (branch_of s) tree below none)
