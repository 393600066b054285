use Rattle.std.proofs.Common.{IfOk, sym, subst}
use Rattle.std.proofs.lemmas.Result.{IfOk-weaker}
use Rattle.vbm_world.specs.declared.command.Command.TheVariants.{CreateMedium}
use Rattle.vbm_world.specs.Refusals.{capacity_of}
use Rattle.vbm_media.specs.Creates.{Creates}
use Rattle.vbm_store.specs.Steps.{Plans}
use Rattle.vbm_media.proofs.Creating.{turned, turned_sound}
use Rattle.vbm_media.proofs.create.plan_create.Goals as goal

pub returns-clause-plans : goal.returns-clause-plans
returns-clause-plans c files holds may =
    let e = c.args.store.now in
    let name = c.args.name.now in
    let creates = subst (λ k. IfOk c.turn_of.result (Creates e name k)) c.capacity.ensures c.turn_of.ensures in
    subst (λ v. IfOk c.turn_of.result (Plans files e (CreateMedium name c.args.size v))) (sym c.requires.variant)
    (IfOk-weaker c.turn_of.result _ _ (λ turn made. turned files e name c.args.size turn c.requires.sound holds c.requires.name c.requires.can may made) creates)

pub returns-clause-sound : goal.returns-clause-sound
returns-clause-sound c =
    let e = c.args.store.now in
    let name = c.args.name.now in
    let creates = subst (λ k. IfOk c.turn_of.result (Creates e name k)) c.capacity.ensures c.turn_of.ensures in
    IfOk-weaker c.turn_of.result _ _
    (λ turn made. turned_sound e name (capacity_of c.args.size) turn c.requires.sound c.requires.name c.requires.can made) creates
