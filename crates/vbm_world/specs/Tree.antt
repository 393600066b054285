-- The tree of a machine's snapshots, by their names.
use Rattle.std.specs.Prelude.{◌≡◌, ℕ, ◌<◌, ◌≤◌, ◌==◌, Bool, List, length, count_by, Option, is_none, IfSome, IsTrue}
use Rattle.std.specs.List.{AllByRecursion}
use Rattle.vbm_named.specs.Names.{Name, has_name, Rises}
use Rattle.vbm_world.specs.declared.world.WorldSnapshot.{WorldSnapshot}

-- a snapshot's name, and that of the snapshot that it was taken after
abbrev pub Branch : Type 0
Branch = Name × Option Name

abbrev pub branch_of : WorldSnapshot → Branch
branch_of s = (s.name, s.parent)

abbrev pub branch_name : Branch → Name
branch_name branch = branch.0

abbrev pub is_root : Branch → Bool
is_root branch = is_none branch.1

abbrev pub Has : List Branch → Name → Type 0
Has branches name = IsTrue (has_name branch_name name branches)

-- The snapshots are one tree with one root: each parent is one of them, and less deep. The current one is none exactly where there are
-- no snapshots.
pub record IsTree (branches : List Branch) (current : Option Name) : Type 0 where
  pub names : Rises branch_name branches
  pub parents : AllByRecursion (λ (b : Branch). IfSome b.1 (Has branches)) branches
  pub depth : Name → ℕ
  pub below : AllByRecursion (λ (b : Branch). IfSome b.1 (λ parent. depth parent < depth b.0)) branches
  pub root : count_by is_root branches ≤ 1
  pub there : IfSome current (Has branches)
  pub none : is_none current ≡ (length branches == 0)
