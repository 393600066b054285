use Rattle.std.proofs.Common.{◌-◌, [], ◌∷◌, ◌++◌, sym, ap, subst, ◌∙◌, arith}
use Rattle.vbm_intent.specs.declared.change.Change.TheVariants.{Fill, Cut}
use Rattle.vbm_intent.specs.Changes.{IsApart}
use Rattle.vbm_intent.specs.Plan.{body_size}
use Rattle.vbm_ports.proofs.NameLemmas.{store_name_short}
use Rattle.vbm_volume.specs.Like.{map_end}
use Rattle.vbm_image.specs.Creating.{creating_map}
use Rattle.vbm_image.proofs.CreatingPlans.{apart_front, of_file-behind, fill_named, with_gap}
use Rattle.vbm_image.proofs.SettlingPlans.{body_size-append}
use Rattle.vbm_image.proofs.creating.push_gap.Goals as goal

pub push_fill-requires-clause-apart : goal.push_fill-requires-clause-apart
push_fill-requires-clause-apart c =
    let name = c.args.name.now in
    let h = c.args.header.now in
    let gap = Fill name (map_end h) (h.off_data - map_end h) 0 in
    subst IsApart (sym (of_file-behind name c.args.plan.now.changes (creating_map name h) (gap ∷ []) c.requires.before
    (fill_named name (map_end h) (h.off_data - map_end h) 0)))
    (apart_front (creating_map name h ++ gap ∷ []) (Cut name h.off_data ∷ []) (with_gap name h c.requires.header))

pub push_fill-requires-clause-small : goal.push_fill-requires-clause-small
push_fill-requires-clause-small c = omega (arith, c.requires.small, store_name_short c.args.name.now c.requires.name)

pub push_fill-requires-clause-room : goal.push_fill-requires-clause-room
push_fill-requires-clause-room c = omega (arith, c.requires.room, store_name_short c.args.name.now c.requires.name)

pub returns-then-map_end-off_data-clause-size : goal.returns-then-map_end-off_data-clause-size
returns-then-map_end-off_data-clause-size c =
    let first = ap body_size c.push_fill.ensures.changes ∙ body_size-append c.args.plan.now.changes _ in
    omega (arith, store_name_short c.args.name.now c.requires.name, first)

pub returns-then-map_end-off_data-clause-spare : goal.returns-then-map_end-off_data-clause-spare
returns-then-map_end-off_data-clause-spare c = omega (arith, store_name_short c.args.name.now c.requires.name, c.push_fill.ensures.spare)
