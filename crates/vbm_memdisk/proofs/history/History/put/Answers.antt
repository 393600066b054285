use Rattle.vbm_memdisk.proofs.Outcomes.{OnOk-map}
use Rattle.vbm_memdisk.proofs.Replays.{puts_it}
use Rattle.vbm_memdisk.proofs.history.History.put.Goals as goal

pub returns-clause-ok : goal.returns-clause-ok
returns-clause-ok c = OnOk-map c.add.result (λ now. puts_it _ _ _ _ _ now c.in_ok-name.ensures c.in_ok-bytes.ensures) c.add.ensures.ok
