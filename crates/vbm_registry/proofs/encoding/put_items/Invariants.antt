use Rattle.std.proofs.Common.{◌≡◌, ◌++◌, ℕ, List, drop}
use Rattle.vbm_registry.specs.Spelling.{items_onto}
use Rattle.vbm_registry.proofs.encoding.put_items.Given as goal

abbrev pub invariant-loop-i : goal.invariant-loop-i
invariant-loop-i g l = (rest : List ℕ)
    → l.out.items ++ items_onto g.T.Spelled.onto (drop l.i l.items) rest ≡ l.fn.out.items ++ items_onto g.T.Spelled.onto l.items rest
