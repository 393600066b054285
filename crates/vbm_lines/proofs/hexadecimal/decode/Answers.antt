use Rattle.std.proofs.Common.{inl, inr, arith}
use Rattle.vbm_lines.proofs.Unhex.{unspelled-refused}
use Rattle.vbm_lines.proofs.hexadecimal.decode.Goals as goal

pub returns-in-Err-2 : goal.returns-in-Err-2
returns-in-Err-2 c = elim c.in-Err.ensures.err [
  | inl none ↦ absurd (grind (arith, c.eq.ensures, c.if-eq.ensures))
  | inr refused ↦ unspelled-refused c.args.word.now _ refused
]
