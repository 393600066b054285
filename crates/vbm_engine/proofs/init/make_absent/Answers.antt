use Rattle.vbm_engine.proofs.Making.{commit_over}
use Rattle.vbm_engine.proofs.init.make_absent.Goals as goal

pub returns-in-Ok-commit-clause-any_moment : goal.returns-in-Ok-commit-clause-any_moment
returns-in-Ok-commit-clause-any_moment g c = λ told.
    commit_over c.args.seed (g.D.Disk.state c.args.disk.now) (g.D.Disk.state c.commit.new.disk) c.in-Ok.plan.changes c.in-Ok.ensures (c.commit.ensures.any_moment told)

pub returns-clause-any_moment : goal.returns-clause-any_moment
returns-clause-any_moment g c = λ told.
    commit_over c.args.seed (g.D.Disk.state c.args.disk.now) (g.D.Disk.state c.commit.new.disk) c.in-Ok.plan.changes c.in-Ok.ensures (c.commit.ensures.any_moment told)
