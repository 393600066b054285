use Rattle.std.proofs.Common.{List, ℕ, Some, OnOk, subst}
use Rattle.vbm_ports.specs.Files.{bytes_of, Sets}
use Rattle.vbm_ports.proofs.Puts.{put_last_zero}
use Rattle.vbm_intent.proofs.apply.write_last_zero.Goals as goal

pub returns-clause-ok : goal.returns-clause-ok
returns-clause-ok g c = λ told.
    subst (λ (l : List ℕ). OnOk c.write.result (Sets c.args.name.now (Some l) (g.D.Disk.state c.args.disk.now).files (g.D.Disk.state c.write.new.self).files))
    (put_last_zero c.args.end c.args.n (bytes_of ((g.D.Disk.state c.args.disk.now).files c.args.name.now)) (c.requires.end told) c.requires.some) (c.write.ensures.ok told)
