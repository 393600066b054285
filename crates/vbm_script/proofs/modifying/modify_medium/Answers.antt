use Rattle.vbm_script.proofs.Modifications.{no_modification}
use Rattle.vbm_script.proofs.modifying.modify_medium.Goals as goal

pub returns : goal.returns
returns c =
    no_modification c.args.tail.now c.if-tail-eq2.false c.in_default.ensures c.in_default-setting_autoreset.ensures c.in_default-resizing.ensures
