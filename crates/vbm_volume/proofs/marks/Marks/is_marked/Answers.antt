use Rattle.std.proofs.Common.{ap, ◌∙◌, length, arith}
use Rattle.vbm_volume.specs.Marks.{is_marked}
use Rattle.vbm_volume.proofs.MarkLemmas.{read_bit}
use Rattle.vbm_volume.proofs.marks.Marks.is_marked.Goals as goal

pub returns : goal.returns
returns c =
    read_bit c.self.inside.words.items c.args.n c.index.result.now c.index.ensures (omega (arith, ap length c.self.view_is))
    ∙ ap (λ words. is_marked words c.args.n) c.self.view_is
