use Rattle.std.proofs.Common.{refl}
use Rattle.vbm_memdisk.proofs.Outcomes.{OnOk-map}
use Rattle.vbm_memdisk.proofs.Replays.{writes_it}
use Rattle.vbm_memdisk.proofs.history.History.write.Goals as goal

pub returns-clause-ok : goal.returns-clause-ok
returns-clause-ok c = OnOk-map c.add.result (λ now. writes_it _ _ _ _ _ _ _ now c.in_ok-name.ensures refl c.in_ok-bytes.ensures refl) c.add.ensures.ok
