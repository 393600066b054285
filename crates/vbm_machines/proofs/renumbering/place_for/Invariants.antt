use Rattle.std.proofs.Common.{◌≡◌, ◌+◌, length}
use Rattle.vbm_named.specs.Places.{place_for}
use Rattle.vbm_machines.proofs.renumbering.place_for.Given as goal

abbrev pub invariant-loop-rest : goal.invariant-loop-rest
invariant-loop-rest g l =
    (l.place + place_for g.T.Named.name_of l.name l.rest ≡ place_for g.T.Named.name_of l.name l.items) × (l.place + length l.rest ≡ length l.items)

abbrev pub decreases-loop-rest : goal.decreases-loop-rest
decreases-loop-rest g l = length l.rest
