use Rattle.std.proofs.Common.{◌≡◌, ◌≤◌, map, length, refl, ap, ◌∙◌}
use Rattle.std.proofs.lemmas.List.{take_all}
use Rattle.vbm_named.proofs.Places.{earlier_lack_map, map_item}
use Rattle.vbm_machines.specs.Renumbering.{machine_renumbered, name_of_machine, slot_by}
use Rattle.vbm_machines.specs.Snapshots.{machine_in}
use Rattle.vbm_machines.proofs.MediaNamed.{machines_same}
use Rattle.vbm_machines.proofs.renumbering.renumbered.Goals as goal

pub push-requires : goal.push-requires
push-requires c =
    rw (c.loop-i.invariant, c.in_ok-machine_renumbered.ensures)
    (earlier_lack_map (machine_renumbered c.args.renumbering) name_of_machine (λ x. refl) c.args.machines.now c.loop-i.i c.get.result.now
    c.requires.names c.get.ensures)

pub loop-i-preserved : goal.loop-i-preserved
loop-i-preserved c =
    rw (c.in_ok-push.ensures.ok, c.loop-i.invariant, c.in_ok-machine_renumbered.ensures)
    (map_item (machine_renumbered c.args.renumbering) c.args.machines.now c.loop-i.i c.get.result.now c.get.ensures)

pub returns-clause-named : goal.returns-clause-named
returns-clause-named c = λ old new became stay sight.
    let reached : length c.args.machines.now ≤ c.loop-i.i = rw (← c.len-i-end.ensures) c.loop-i-test.false in
    let all : c.loop-i.all ≡ map (machine_renumbered c.args.renumbering) c.args.machines.now =
    c.loop-i.invariant ∙ ap (map (machine_renumbered c.args.renumbering)) (take_all c.loop-i.i c.args.machines.now reached) in
    ap (map (machine_in (slot_by sight new))) all ∙ machines_same c.args.renumbering old new became sight c.args.machines.now stay
