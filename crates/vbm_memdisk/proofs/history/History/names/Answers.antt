use Rattle.vbm_memdisk.specs.Past.{past_in, files_now}
use Rattle.vbm_memdisk.proofs.FileNames.{names_told}
use Rattle.vbm_memdisk.proofs.Outcomes.{IfOk-map}
use Rattle.vbm_memdisk.proofs.history.History.names.Goals as goal

pub returns : goal.returns
returns c = IfOk-map c.names.result
    (λ names is. names_told c.args.self.now.present.files.items names (files_now (past_in c.args.self.now)) is c.args.self.now.cached) c.names.ensures
