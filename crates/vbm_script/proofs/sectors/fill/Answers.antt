use Rattle.vbm_world.proofs.Verbs.{fills, none_of_verb}
use Rattle.vbm_script.proofs.sectors.fill.Goals as goal

pub returns-in_default : goal.returns-in_default
returns-in_default c = none_of_verb fills c.args.tail.now (λ a form. c.in_default.ensures a.0 a.1 a.2 a.3 a.4 form)
