use Rattle.std.proofs.Common.{[], ap, ◌∙◌}
use Rattle.vbm_intent.specs.Changes.{of_file}
use Rattle.vbm_image.specs.Creating.{creating_map, creating_gap}
use Rattle.vbm_image.proofs.CreatingPlans.{of_file-behind, map_named, gap_named, creates}
use Rattle.vbm_image.proofs.creating.plan_create.Goals as goal

pub returns-in_err-reserve-clause-creates : goal.returns-in_err-reserve-clause-creates
returns-in_err-reserve-clause-creates c = creates c.args.name.now c.args.header.now c.requires.header

pub push_gap-requires-clause-before : goal.push_gap-requires-clause-before
push_gap-requires-clause-before c =
    let name = c.args.name.now in
    let h = c.args.header.now in
    let none = ap (of_file name) c.in_ok-reserve.ensures.same ∙ c.requires.none in
    ap (of_file name) c.push_map.ensures.changes ∙ of_file-behind name c.reserve.new.self.changes [] (creating_map name h) none (map_named name h)

pub push_end-requires-clause-before : goal.push_end-requires-clause-before
push_end-requires-clause-before c =
    let name = c.args.name.now in
    let h = c.args.header.now in
    let none = ap (of_file name) c.in_ok-reserve.ensures.same ∙ c.requires.none in
    let before = ap (of_file name) c.push_map.ensures.changes
    ∙ of_file-behind name c.reserve.new.self.changes [] (creating_map name h) none (map_named name h) in
    ap (of_file name) c.push_gap.ensures.changes
    ∙ of_file-behind name c.push_map.new.plan.changes (creating_map name h) (creating_gap name h) before (gap_named name h)

pub returns-clause-creates : goal.returns-clause-creates
returns-clause-creates c = creates c.args.name.now c.args.header.now c.requires.header
