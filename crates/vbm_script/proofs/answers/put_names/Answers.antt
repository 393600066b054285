use Rattle.std.proofs.Common.{take}
use Rattle.std.proofs.lemmas.List.{take_more}
use Rattle.vbm_script.proofs.Spaces.{grow}
use Rattle.vbm_script.proofs.answers.put_names.Goals as goal

pub loop-name-preserved : goal.loop-name-preserved
loop-name-preserved c =
    let more = take_more c.args.names.now c.loop-name.name-index c.name-item.result c.loop-name-test.true in
    let grown = grow (take c.loop-name.name-index c.args.names.now) c.name-item.result c.args.line.now.items in
    cc c.in_ok-put_word.ensures
