use Rattle.std.proofs.lemmas.List.{append_assoc}
use Rattle.vbm_header.specs.Written.{identifiers}
use Rattle.vbm_header.proofs.writing.put_identifiers.Goals as goal

pub returns-clause-written : goal.returns-clause-written
unfolding identifiers
returns-clause-written c =
    rw (
      c.put_geometry.ensures,
      c.put_uuid-4.ensures.written,
      c.put_uuid-3.ensures.written,
      c.put_uuid-2.ensures.written,
      c.put_uuid.ensures.written,
    )
    (simp append_assoc)
