use Rattle.std.proofs.Common.{Ok, sym, subst}
use Rattle.vbm_ports.proofs.States.{OnlyReads-trans}
use Rattle.vbm_store.specs.Commits.{HandsBack}
use Rattle.vbm_store.specs.Steps.{Stays, Decides, DecidesSound}
use Rattle.vbm_store.specs.declared.store.Committed.TheVariants.{Done, NoMemory}
use Rattle.vbm_intent.specs.Changes.{Fits}
use Rattle.vbm_world.specs.Loose.{all_settled}
use Rattle.vbm_store.proofs.Turning.{read_stays, turned_by, manage_advances}
use Rattle.vbm_engine.proofs.Serving.{command_reads, command_commits, sound_turn}
use Rattle.vbm_engine.proofs.engine.Engine.step.Goals as goal

pub turn-requires-clause-fits : goal.turn-requires-clause-fits
turn-requires-clause-fits g c told =
    let plans = subst (λ d. Decides (g.D.Disk.state c.args.disk.now).files c.args.self.store c.args.command.now (Ok d))
    c.in-Ok-Turn.field-0-is (c.in-Ok-Turn.ensures.decides told) in
    subst (Fits c.in-Ok-Turn.turn.plan.changes) (sym (c.in-Ok-Turn.ensures.reads.files told))
    ((plans c.args.self.store.log).turns all_settled).fits

pub returns-in-Done-clause-step : goal.returns-in-Done-clause-step
returns-in-Done-clause-step g c told =
    let turn = c.in-Ok-Turn.ensures in
    let taken = c.in-Ok-Turn.turn in
    let plans = subst (λ d. Decides (g.D.Disk.state c.args.disk.now).files c.args.self.store c.args.command.now (Ok d))
    c.in-Ok-Turn.field-0-is (turn.decides told) in
    let commits = c.in-Done.ensures.commits told in
    let store = subst (λ e. HandsBack e taken.library taken.edit (Done c.in-Done.store)) c.decide.ensures.store c.in-Done.ensures.store in
    manage_advances told turn.reads c.requires.sound (turned_by taken.library taken.edit c.in-Done.store store plans)
    (g.D.Disk.state c.turn.new.disk) commits.0 commits.1 commits.2 ((g.met.D.Disk.coherent c.turn.new.disk).read_is_image told)

pub returns-in-Done-clause-sound : goal.returns-in-Done-clause-sound
returns-in-Done-clause-sound g c =
    let turn = c.in-Ok-Turn.turn in
    let store = subst (λ e. HandsBack e turn.library turn.edit (Done c.in-Done.store)) c.decide.ensures.store c.in-Done.ensures.store in
    let sound = subst (λ d. DecidesSound c.args.self.store (Ok d)) c.in-Ok-Turn.field-0-is c.in-Ok-Turn.ensures.sound in
    sound_turn c.args.self.store turn c.requires.sound sound c.in-Done.store store

pub returns-in-Done-clause-any_moment : goal.returns-in-Done-clause-any_moment
returns-in-Done-clause-any_moment g c told u ready =
    let turn = c.in-Ok-Turn.ensures in
    let plans = subst (λ d. Decides (g.D.Disk.state c.args.disk.now).files c.args.self.store c.args.command.now (Ok d))
    c.in-Ok-Turn.field-0-is (turn.decides told) in
    command_commits c.args.self.store c.args.command.now turn.reads c.requires.sound u ready told (plans c.args.self.store.log)
    (g.D.Disk.state c.turn.new.disk) (c.turn.ensures.any_moment told)

pub returns-in-NoMemory-clause-step : goal.returns-in-NoMemory-clause-step
returns-in-NoMemory-clause-step g c told =
    let turn = c.in-Ok-Turn.turn in
    let old = g.D.Disk.state c.args.disk.now in
    let reads = OnlyReads-trans _ _ _ _ c.in-Ok-Turn.ensures.reads c.in-NoMemory.ensures.reads in
    let store = subst (λ e. HandsBack e turn.library turn.edit (NoMemory c.in-NoMemory.store)) c.decide.ensures.store
    c.in-NoMemory.ensures.store in
    subst (λ n. Stays old (g.D.Disk.state c.turn.new.disk) c.args.self.store n) (sym store)
    (read_stays told c.args.self.store reads c.requires.sound (c.requires.fits told))

pub returns-in-NoMemory-clause-any_moment : goal.returns-in-NoMemory-clause-any_moment
returns-in-NoMemory-clause-any_moment g c told u ready =
    let turn = c.in-Ok-Turn.ensures in
    let plans = subst (λ d. Decides (g.D.Disk.state c.args.disk.now).files c.args.self.store c.args.command.now (Ok d))
    c.in-Ok-Turn.field-0-is (turn.decides told) in
    command_commits c.args.self.store c.args.command.now turn.reads c.requires.sound u ready told (plans c.args.self.store.log)
    (g.D.Disk.state c.turn.new.disk) (c.turn.ensures.any_moment told)

pub returns-in-Ok-Turn-clause-any_moment : goal.returns-in-Ok-Turn-clause-any_moment
returns-in-Ok-Turn-clause-any_moment g c told u ready =
    let turn = c.in-Ok-Turn.ensures in
    let plans = subst (λ d. Decides (g.D.Disk.state c.args.disk.now).files c.args.self.store c.args.command.now (Ok d))
    c.in-Ok-Turn.field-0-is (turn.decides told) in
    command_commits c.args.self.store c.args.command.now turn.reads c.requires.sound u ready told (plans c.args.self.store.log)
    (g.D.Disk.state c.turn.new.disk) (c.turn.ensures.any_moment told)

pub returns-in-Err-Refused-clause-any_moment : goal.returns-in-Err-Refused-clause-any_moment
returns-in-Err-Refused-clause-any_moment g c told = command_reads c.args.self.store c.args.command.now c.in-Err-Refused.ensures.reads c.requires.sound

pub returns-in-Err-Failed-clause-any_moment : goal.returns-in-Err-Failed-clause-any_moment
returns-in-Err-Failed-clause-any_moment g c told = command_reads c.args.self.store c.args.command.now c.in-Err-Failed.ensures.reads c.requires.sound

pub returns-clause-any_moment : goal.returns-clause-any_moment
returns-clause-any_moment g c told = command_reads c.args.self.store c.args.command.now c.decide.ensures.reads c.requires.sound
