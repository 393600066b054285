use Rattle.std.proofs.Common.{leb, ap, ◌∙◌}
use Rattle.vbm_volume.proofs.TallyLemmas.{list_all-counted}
use Rattle.vbm_volume.proofs.tally.Tally.are_counted.Goals as goal

pub returns : goal.returns
returns c = λ ps is.
    let limits = c.args.self.now.limits in
    ap (λ n. leb n limits.allocated) is.end ∙ list_all-counted limits.allocated ps
