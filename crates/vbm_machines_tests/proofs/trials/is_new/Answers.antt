use Rattle.std.proofs.Common.{rules, ◌≡◌, ◌∙◌, ap, None, is_some}
use Rattle.vbm_named.specs.Names.{find_by}
use Rattle.vbm_named.proofs.Lists.{has_found}
use Rattle.vbm_machines.specs.Snapshots.{name_of_snapshot}
use Rattle.vbm_machines_tests.proofs.trials.is_new.Goals as goal

pub returns-clause-another : goal.returns-clause-another
returns-clause-another c = λ new.
    let none : find_by name_of_snapshot c.args.name.now c.args.snapshots.now ≡ None = search rules in
    has_found name_of_snapshot c.args.name.now c.args.snapshots.now ∙ ap is_some none
