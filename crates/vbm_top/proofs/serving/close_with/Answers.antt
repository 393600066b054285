use Rattle.std.proofs.Common.{refl, inl, inr}
use Rattle.vbm_top.proofs.Commands.{leaves_served}
use Rattle.vbm_top.proofs.serving.close_with.Goals as goal

pub returns-in-Ok-clause-closes : goal.returns-in-Ok-clause-closes
returns-in-Ok-clause-closes g c =
    inl (refl, λ told. record { stands = c.in-Ok.ensures.stands told; settled = c.in-Ok.ensures.settled told }, c.in-Ok.ensures.no_fault)

pub returns-in-Ok-clause-images : goal.returns-in-Ok-clause-images
returns-in-Ok-clause-images g c told =
    leaves_served c.requires.sound (g.met.D.Disk.coherent c.args.disk.now) (g.met.D.Disk.coherent c.close.new.disk)
    (c.close.ensures.any_moment told)

pub returns-in-Err-clause-images : goal.returns-in-Err-clause-images
returns-in-Err-clause-images g c told =
    leaves_served c.requires.sound (g.met.D.Disk.coherent c.args.disk.now) (g.met.D.Disk.coherent c.close.new.disk)
    (c.close.ensures.any_moment told)

pub returns-in-Err-clause-closes : goal.returns-in-Err-clause-closes
returns-in-Err-clause-closes g c = inr (refl, (c.close.ensures.faults, c.in-Err.ensures.cause))
