use Rattle.std.proofs.Common.{◌≡◌, map, drop}
use Rattle.vbm_named.specs.Names.{Name}
use Rattle.vbm_world.specs.Refusals.{first_refusal}
use Rattle.vbm_world.specs.Clones.{bad_check}
use Rattle.vbm_world.specs.Seen.{on_shelf}
use Rattle.vbm_world.proofs.world.World.image_refusal.Given as goal

abbrev pub invariant-loop-file : goal.invariant-loop-file
invariant-loop-file l = first_refusal (map (λ (file : Name). bad_check (on_shelf l.self.shelf file)) (drop l.file-index l.files))
    ≡ first_refusal (map (λ (file : Name). bad_check (on_shelf l.self.shelf file)) l.files)
