use Rattle.std.proofs.Common.{◌≡◌, ◌+◌, drop}
use Rattle.vbm_world.specs.Clones.{files_of, broken_link}
use Rattle.vbm_world.specs.Seen.{seen}
use Rattle.vbm_world.proofs.world.World.broken_link.Given as goal

abbrev pub invariant-loop-name : goal.invariant-loop-name
invariant-loop-name l = record {
  place : l.place ≡ l.name-index + 1;
  rest : broken_link l.place l.below.id l.below.modify l.below.capacity (files_of (seen l.self) (drop l.name-index l.above))
      ≡ broken_link 1 l.base.id l.base.modify l.base.capacity (files_of (seen l.self) l.above);
}
