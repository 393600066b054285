use Rattle.std.proofs.Common.{List, ℕ, sym, ◌∙◌, ap, ◌++◌}
use Rattle.vbm_world.proofs.GuestDisks.{bytes_more}
use Rattle.vbm_world.proofs.guests.bytes_at.Goals as goal

pub loop-i-preserved : goal.loop-i-preserved
loop-i-preserved c =
    c.in-Ok.ensures.items ∙ ap (λ (l : List ℕ). l ++ c.get.result.now) c.loop-i.invariant
    ∙ sym (bytes_more c.args.disk.now c.args.lba c.loop-i.i c.get.result.now c.get.ensures)
