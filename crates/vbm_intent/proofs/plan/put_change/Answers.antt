use Rattle.std.proofs.Common.{append_assoc, refl}
use Rattle.vbm_intent.proofs.plan.put_change.Goals as goal

pub returns-in-Write-clause-items : goal.returns-in-Write-clause-items
returns-in-Write-clause-items c = simp (c.in-Write.is, c.put-in-Write-2.ensures.items, c.put-in-Write.ensures.items, c.put.ensures.items, c.put_name.ensures.items, c.to_le_bytes.ensures, c.to_le_bytes-in-Write.ensures, append_assoc) refl

pub returns-in-Fill-clause-items : goal.returns-in-Fill-clause-items
returns-in-Fill-clause-items c = simp (c.in-Fill.is, c.put-in-Fill-3.ensures.items, c.put-in-Fill-2.ensures.items, c.put-in-Fill.ensures.items, c.put_name-in-Fill.ensures.items, c.to_le_bytes-in-Fill.ensures, c.to_le_bytes-in-Fill-2.ensures, append_assoc) refl
