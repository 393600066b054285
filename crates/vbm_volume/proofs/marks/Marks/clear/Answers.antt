use Rattle.std.proofs.Common.{ap, ◌∙◌}
use Rattle.vbm_volume.specs.Marks.{is_marked}
use Rattle.vbm_volume.proofs.MarkLemmas.{is_marked-zeros}
use Rattle.vbm_volume.proofs.marks.Marks.clear.Goals as goal

pub returns-clause-empty : goal.returns-clause-empty
returns-clause-empty c = λ n. ap (λ words. is_marked words n) (c.fill.ensures.items (λ y e. e)) ∙ is_marked-zeros _ n
