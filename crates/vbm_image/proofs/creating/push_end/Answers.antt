use Rattle.std.proofs.Common.{[], ◌∷◌, ◌++◌, sym, ap, subst, ◌∙◌, arith}
use Rattle.vbm_intent.specs.declared.change.Change.TheVariants.{Cut}
use Rattle.vbm_intent.specs.Changes.{IsApart}
use Rattle.vbm_intent.specs.Plan.{body_size}
use Rattle.vbm_ports.proofs.NameLemmas.{store_name_short}
use Rattle.vbm_image.specs.Creating.{creating_map, creating_gap}
use Rattle.vbm_image.proofs.CreatingPlans.{of_file-behind, cut_named, creating_apart}
use Rattle.vbm_image.proofs.SettlingPlans.{body_size-append}
use Rattle.vbm_image.proofs.creating.push_end.Goals as goal

pub push_cut-requires-clause-apart : goal.push_cut-requires-clause-apart
push_cut-requires-clause-apart c =
    let name = c.args.name.now in
    let h = c.args.header.now in
    subst IsApart (sym (of_file-behind name c.args.plan.now.changes (creating_map name h ++ creating_gap name h) (Cut name h.off_data ∷ [])
    c.requires.before (cut_named name h.off_data)))
    (creating_apart name h c.requires.header)

pub push_cut-requires-clause-small : goal.push_cut-requires-clause-small
push_cut-requires-clause-small c = omega (arith, c.requires.small, store_name_short c.args.name.now c.requires.name)

pub push_cut-requires-clause-room : goal.push_cut-requires-clause-room
push_cut-requires-clause-room c = omega (arith, c.requires.room, store_name_short c.args.name.now c.requires.name)

pub returns-clause-size : goal.returns-clause-size
returns-clause-size c =
    let first = ap body_size c.push_cut.ensures.changes ∙ body_size-append c.args.plan.now.changes _ in
    omega (arith, store_name_short c.args.name.now c.requires.name, first)

pub returns-clause-spare : goal.returns-clause-spare
returns-clause-spare c = omega (arith, store_name_short c.args.name.now c.requires.name, c.push_cut.ensures.spare)
