use Rattle.std.proofs.Common.{arith}
use Rattle.vbm_world.proofs.deleting.delete_refusal.Goals as goal

pub overflow_cast-result : goal.overflow_cast-result
overflow_cast-result c = omega (arith, c.requires.few, rw c.bytes.ensures at c.dependents-dependents.ensures)
