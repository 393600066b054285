use Rattle.std.proofs.Common.{sym}
use Rattle.vbm_world.proofs.DisksMade.{first-drop}
use Rattle.vbm_world.proofs.disks.sector_over.Goals as goal

pub returns-in-None : goal.returns-in-None
returns-in-None c = rw c.in-None.is (sym (first-drop c.args.disk.now c.args.i c.get.result.now c.get.ensures))
