use Rattle.std.proofs.lemmas.List.{append_assoc}
use Rattle.vbm_header.specs.Written.{start}
use Rattle.vbm_header.proofs.writing.put_start.Goals as goal

pub returns : goal.returns
unfolding start
returns c =
    rw (
      c.put_zeros-2.ensures,
      c.put_u32-4.ensures.written,
      c.number.ensures,
      c.put_u32-3.ensures.written,
      c.put_u32-2.ensures.written,
      c.put_u32.ensures.written,
      c.put_zeros.ensures,
      c.put.ensures,
    )
    (simp append_assoc)
