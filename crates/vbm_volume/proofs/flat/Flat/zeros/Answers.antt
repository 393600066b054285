use Rattle.std.proofs.Common.{replicate}
use Rattle.std.specs.List.{each_same}
use Rattle.vbm_volume.proofs.flat.Flat.zeros.Goals as goal

pub returns-in-Ok : goal.returns-in-Ok
returns-in-Ok c = c.in-Ok.ensures.items_if_clones_equal (λ sector same. each_same (replicate 512 0) sector same.whole)
