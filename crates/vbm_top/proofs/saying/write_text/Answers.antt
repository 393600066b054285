use Rattle.std.proofs.Common.{refl, subst, ◌∙◌, inl, inr}
use Rattle.vbm_top.specs.Streams.{stream}
use Rattle.vbm_top.specs.Run.{WritesLine}
use Rattle.vbm_top.proofs.saying.write_text.Goals as goal

pub returns-in-Ok : goal.returns-in-Ok
returns-in-Ok g c =
    let sink = stream g.K.Sink.tells g.K.Sink.written g.K.Sink.faults c.args.sink.now c.write_line.new.sink in
    inl (subst (λ line. WritesLine sink line c.args.status c.write_line.result) (c.as_slice.ensures.value ∙ c.in-Ok.ensures) c.write_line.ensures)

pub returns-in-Err : goal.returns-in-Err
returns-in-Err g c = inr (refl, (λ told. refl, refl))
