use Rattle.std.proofs.Common.{rules}
use Rattle.vbm_world.specs.Outcomes.{Outcome}
use Rattle.vbm_world.specs.Seen.{seen}
use Rattle.vbm_world.proofs.Steps.{few_files, of_command, ok_ap, sound_after}
use Rattle.vbm_world.proofs.world.World.step.Goals as goal

pub returns-in-CreateMedium-clause-sound : goal.returns-in-CreateMedium-clause-sound
returns-in-CreateMedium-clause-sound c =
    sound_after (seen c.args.self.now) c.args.command.now c.create_medium.result c.requires.sound c.requires.spelled (search rules)

pub returns-in-OpenMedium-clause-sound : goal.returns-in-OpenMedium-clause-sound
returns-in-OpenMedium-clause-sound c =
    sound_after (seen c.args.self.now) c.args.command.now c.open_medium.result c.requires.sound c.requires.spelled (search rules)

pub returns-in-CloseMedium-clause-sound : goal.returns-in-CloseMedium-clause-sound
returns-in-CloseMedium-clause-sound c =
    sound_after (seen c.args.self.now) c.args.command.now c.close_medium.result c.requires.sound c.requires.spelled (search rules)

pub returns-in-SetMode-clause-sound : goal.returns-in-SetMode-clause-sound
returns-in-SetMode-clause-sound c =
    sound_after (seen c.args.self.now) c.args.command.now c.set_mode.result c.requires.sound c.requires.spelled (search rules)

pub returns-in-SetAutoreset-clause-sound : goal.returns-in-SetAutoreset-clause-sound
returns-in-SetAutoreset-clause-sound c =
    sound_after (seen c.args.self.now) c.args.command.now c.set_autoreset.result c.requires.sound c.requires.spelled (search rules)

pub returns-in-Compact-clause-sound : goal.returns-in-Compact-clause-sound
returns-in-Compact-clause-sound c =
    sound_after (seen c.args.self.now) c.args.command.now c.compact.result c.requires.sound c.requires.spelled (search rules)

pub returns-in-Resize-clause-sound : goal.returns-in-Resize-clause-sound
returns-in-Resize-clause-sound c =
    sound_after (seen c.args.self.now) c.args.command.now c.resize.result c.requires.sound c.requires.spelled (search rules)

pub returns-in-CloneNew-clause-sound : goal.returns-in-CloneNew-clause-sound
returns-in-CloneNew-clause-sound c =
    sound_after (seen c.args.self.now) c.args.command.now c.clone_new.result c.requires.sound c.requires.spelled (search rules)

pub returns-in-CloneExisting-clause-sound : goal.returns-in-CloneExisting-clause-sound
returns-in-CloneExisting-clause-sound c =
    sound_after (seen c.args.self.now) c.args.command.now c.clone_existing.result c.requires.sound c.requires.spelled (search rules)

pub returns-in-ImportChain-clause-sound : goal.returns-in-ImportChain-clause-sound
returns-in-ImportChain-clause-sound c =
    sound_after (seen c.args.self.now) c.args.command.now c.import_chain.result c.requires.sound c.requires.spelled (search rules)

pub returns-in-ShowMediumInfo-clause-sound : goal.returns-in-ShowMediumInfo-clause-sound
returns-in-ShowMediumInfo-clause-sound c =
    sound_after (seen c.args.self.now) c.args.command.now c.show_medium_info.result c.requires.sound c.requires.spelled (search rules)

pub returns-in-Usage-clause-sound : goal.returns-in-Usage-clause-sound
returns-in-Usage-clause-sound c =
    sound_after (seen c.args.self.now) c.args.command.now c.usage.result c.requires.sound c.requires.spelled (search rules)

pub returns-in-ListHdds-clause-sound : goal.returns-in-ListHdds-clause-sound
returns-in-ListHdds-clause-sound c =
    sound_after (seen c.args.self.now) c.args.command.now c.list_hdds.result c.requires.sound c.requires.spelled (search rules)

pub returns-in-ListVms-clause-sound : goal.returns-in-ListVms-clause-sound
returns-in-ListVms-clause-sound c =
    sound_after (seen c.args.self.now) c.args.command.now c.list_vms.result c.requires.sound c.requires.spelled (search rules)

pub returns-in-CreateVm-clause-sound : goal.returns-in-CreateVm-clause-sound
returns-in-CreateVm-clause-sound c =
    sound_after (seen c.args.self.now) c.args.command.now c.create_vm.result c.requires.sound c.requires.spelled (search rules)

pub returns-in-UnregisterVm-clause-sound : goal.returns-in-UnregisterVm-clause-sound
returns-in-UnregisterVm-clause-sound c =
    sound_after (seen c.args.self.now) c.args.command.now c.unregister_vm.result c.requires.sound c.requires.spelled (search rules)

pub returns-in-Attach-clause-sound : goal.returns-in-Attach-clause-sound
returns-in-Attach-clause-sound c =
    sound_after (seen c.args.self.now) c.args.command.now c.attach_medium.result c.requires.sound c.requires.spelled (search rules)

pub returns-in-Detach-clause-sound : goal.returns-in-Detach-clause-sound
returns-in-Detach-clause-sound c =
    sound_after (seen c.args.self.now) c.args.command.now c.detach_medium.result c.requires.sound c.requires.spelled (search rules)

pub returns-in-StartVm-clause-sound : goal.returns-in-StartVm-clause-sound
returns-in-StartVm-clause-sound c =
    sound_after (seen c.args.self.now) c.args.command.now c.start_vm.result c.requires.sound c.requires.spelled (search rules)

pub returns-in-PowerOff-clause-sound : goal.returns-in-PowerOff-clause-sound
returns-in-PowerOff-clause-sound c =
    sound_after (seen c.args.self.now) c.args.command.now c.power_off.result c.requires.sound c.requires.spelled (search rules)

pub returns-in-Take-clause-sound : goal.returns-in-Take-clause-sound
returns-in-Take-clause-sound c =
    sound_after (seen c.args.self.now) c.args.command.now c.take_snapshot.result c.requires.sound c.requires.spelled (search rules)

pub returns-in-Restore-clause-sound : goal.returns-in-Restore-clause-sound
returns-in-Restore-clause-sound c =
    sound_after (seen c.args.self.now) c.args.command.now c.restore_snapshot.result c.requires.sound c.requires.spelled (search rules)

pub returns-in-RestoreCurrent-clause-sound : goal.returns-in-RestoreCurrent-clause-sound
returns-in-RestoreCurrent-clause-sound c =
    sound_after (seen c.args.self.now) c.args.command.now c.restore_current.result c.requires.sound c.requires.spelled (search rules)

pub returns-in-DeleteSnapshot-clause-sound : goal.returns-in-DeleteSnapshot-clause-sound
returns-in-DeleteSnapshot-clause-sound c =
    sound_after (seen c.args.self.now) c.args.command.now c.delete_snapshot.result c.requires.sound c.requires.spelled (search rules)

pub returns-in-ListSnapshots-clause-sound : goal.returns-in-ListSnapshots-clause-sound
returns-in-ListSnapshots-clause-sound c =
    sound_after (seen c.args.self.now) c.args.command.now c.list_snapshots.result c.requires.sound c.requires.spelled (search rules)

pub returns-in-Read-clause-sound : goal.returns-in-Read-clause-sound
returns-in-Read-clause-sound c =
    sound_after (seen c.args.self.now) c.args.command.now c.read.result c.requires.sound c.requires.spelled (search rules)

pub returns-in-Write-clause-sound : goal.returns-in-Write-clause-sound
returns-in-Write-clause-sound c =
    sound_after (seen c.args.self.now) c.args.command.now c.write.result c.requires.sound c.requires.spelled (search rules)

pub returns-in-Flush-clause-sound : goal.returns-in-Flush-clause-sound
returns-in-Flush-clause-sound c =
    sound_after (seen c.args.self.now) c.args.command.now c.flush.result c.requires.sound c.requires.spelled (search rules)

pub import_chain-requires-clause-few : goal.import_chain-requires-clause-few
import_chain-requires-clause-few c = rw c.as_slice.ensures (few_files c.args.command.now c.requires.spelled _ _ c.in-ImportChain.is)

pub returns-in-Fill-clause-answer : goal.returns-in-Fill-clause-answer
returns-in-Fill-clause-answer c =
    ok_ap c.fill.result _ (λ (o : Outcome). o.0)
    (of_command (seen c.args.self.now) c.args.command.now _ c.fill.result c.in-Fill.is (rw c.bytes-in-Fill.ensures at c.fill.ensures.outcome))

pub returns-in-Fill-clause-world : goal.returns-in-Fill-clause-world
returns-in-Fill-clause-world c =
    ok_ap c.fill.result _ (λ (o : Outcome). o.1)
    (of_command (seen c.args.self.now) c.args.command.now _ c.fill.result c.in-Fill.is (rw c.bytes-in-Fill.ensures at c.fill.ensures.outcome))

pub returns-in-Fill-clause-sound : goal.returns-in-Fill-clause-sound
returns-in-Fill-clause-sound c =
    sound_after (seen c.args.self.now) c.args.command.now c.fill.result c.requires.sound c.requires.spelled
    (of_command (seen c.args.self.now) c.args.command.now _ c.fill.result c.in-Fill.is (rw c.bytes-in-Fill.ensures at c.fill.ensures.outcome))
