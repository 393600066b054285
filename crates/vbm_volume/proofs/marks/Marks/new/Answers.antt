use Rattle.std.proofs.Common.{◌≡◌, ap, ◌∙◌, replicate, rules}
use Rattle.std.specs.Int.{div_ceil}
use Rattle.vbm_volume.specs.Marks.{is_marked}
use Rattle.vbm_volume.proofs.MarkLemmas.{is_marked-zeros}
use Rattle.vbm_volume.proofs.marks.Marks.new.Goals as goal

pub returns-in-Ok-clause-empty : goal.returns-in-Ok-clause-empty
returns-in-Ok-clause-empty c = λ n.
    let zeros : c.in-Ok.words.items ≡ replicate (div_ceil c.args.end 64) 0 = search rules in
    ap (λ words. is_marked words n) zeros ∙ is_marked-zeros (div_ceil c.args.end 64) n
