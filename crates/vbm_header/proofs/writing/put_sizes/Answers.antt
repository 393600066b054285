use Rattle.std.proofs.lemmas.List.{append_assoc}
use Rattle.vbm_header.specs.Written.{sizes}
use Rattle.vbm_header.proofs.writing.put_sizes.Goals as goal

pub returns-clause-written : goal.returns-clause-written
unfolding sizes
returns-clause-written c =
    rw (
      c.put_u32-6.ensures.written,
      c.put_u32-5.ensures.written,
      c.put_u32-4.ensures.written,
      c.put_u32-3.ensures.written,
      c.put_u64.ensures.written,
      c.put_zeros.ensures,
      c.put_geometry.ensures,
      c.put_u32-2.ensures.written,
      c.put_u32.ensures.written,
    )
    (simp append_assoc)
