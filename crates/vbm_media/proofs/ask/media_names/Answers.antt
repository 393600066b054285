use Rattle.std.proofs.Common.{◌∙◌}
use Rattle.vbm_media.proofs.Asks.{names_more}
use Rattle.vbm_media.proofs.ask.media_names.Goals as goal

pub loop-i-preserved : goal.loop-i-preserved
loop-i-preserved c =
    c.in_ok-push.ensures.ok
    ∙ names_more c.args.media.now c.loop-i.i c.get.result.now c.loop-i.names c.in_ok-new.field-0 c.loop-i.invariant c.get.ensures
    (c.in_ok-new.ensures ∙ c.bytes.ensures)
