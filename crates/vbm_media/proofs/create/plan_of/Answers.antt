use Rattle.std.proofs.Common.{List, ◌++◌, ap, ◌∙◌}
use Rattle.vbm_intent.specs.declared.change.Change.{Change}
use Rattle.vbm_intent.specs.Changes.{of_file}
use Rattle.vbm_named.proofs.Lists.{name_sym}
use Rattle.vbm_registry.specs.Library.{library_name}
use Rattle.vbm_store.specs.Plans.{image_changes}
use Rattle.vbm_store.proofs.Decisions.{medium_not_library}
use Rattle.vbm_store.proofs.Planned.{image_alone}
use Rattle.vbm_media.proofs.create.plan_of.Goals as goal

pub plan_library-requires-clause-apart : goal.plan_library-requires-clause-apart
plan_library-requires-clause-apart c =
    let name = c.args.name.now in
    let h = c.args.header.now in
    ap (of_file library_name) (c.in_ok-plan_image.ensures.ok ∙ ap (λ (cs : List Change). cs ++ image_changes name h) c.new-plan.ensures)
    ∙ image_alone name library_name h (name_sym name library_name ∙ medium_not_library name c.requires.name)
