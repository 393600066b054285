use Rattle.std.proofs.Common.{sym, subst}
use Rattle.std.proofs.lemmas.Result.{IfOk-weaker}
use Rattle.vbm_world.specs.declared.world.World.{World}
use Rattle.vbm_world.specs.Seen.{seen, file_name}
use Rattle.vbm_world.specs.Sound.{IsSound}
use Rattle.vbm_named.specs.Names.{Rises}
use Rattle.vbm_machine.proofs.Shelves.{shelf_sound, shelf_rises}
use Rattle.vbm_machine.proofs.worlds.with_shelved.Goals as goal

pub returns-clause-sound : goal.returns-clause-sound
returns-clause-sound c = IfOk-weaker c.shelved.result _ _ (λ new is. subst (λ (w : World). IsSound (seen w)) (sym is)
    (shelf_sound c.args.world.now c.args.file c.requires.sound c.requires.named c.requires.free c.requires.absent c.requires.content))
    c.shelved.ensures

pub returns-clause-order : goal.returns-clause-order
returns-clause-order c = IfOk-weaker c.shelved.result _ _ (λ new is. subst (λ (w : World). Rises file_name w.shelf) (sym is)
    (shelf_rises c.args.world.now c.args.file c.requires.sound c.requires.named c.requires.free c.requires.absent c.requires.content
    c.requires.order)) c.shelved.ensures
