use Rattle.std.proofs.Common.{refl, inl, inr}
use Rattle.vbm_top.proofs.saying.write_line.Goals as goal

pub returns-in-Ok : goal.returns-in-Ok
returns-in-Ok g c = inl (refl, (c.in-Ok.ensures.ok, c.in-Ok.ensures.no_fault))

pub returns-in-Err : goal.returns-in-Err
returns-in-Err g c = inr (refl, (c.in-Err.ensures.err, (c.put_all.ensures.faults, c.in-Err.ensures.cause)))
