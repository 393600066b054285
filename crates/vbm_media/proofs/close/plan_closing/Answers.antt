use Rattle.std.proofs.Common.{ap, ◌∙◌, arith}
use Rattle.vbm_intent.specs.Changes.{of_file}
use Rattle.vbm_intent.specs.Plan.{body_size}
use Rattle.vbm_registry.specs.Library.{library_name}
use Rattle.vbm_media.proofs.Closes.{removal_apart, removal_small}
use Rattle.vbm_media.proofs.close.plan_closing.Goals as goal

pub plan_library-requires-clause-apart : goal.plan_library-requires-clause-apart
plan_library-requires-clause-apart c = ap (of_file library_name) c.in_ok-plan.ensures ∙ removal_apart c.args.name.now c.args.delete c.requires.name

pub plan_library-requires-clause-small : goal.plan_library-requires-clause-small
plan_library-requires-clause-small c = omega (arith, ap body_size c.in_ok-plan.ensures, removal_small c.args.name.now c.args.delete c.requires.name)
