use Rattle.vbm_machines.proofs.MediaNamed.{place_kept}
use Rattle.vbm_machines.proofs.renumbering.Renumbering.place.Goals as goal

pub returns-clause-name : goal.returns-clause-name
returns-clause-name c = λ old new became stays. rw c.moved.ensures (place_kept c.args.self old new became c.args.place stays)
