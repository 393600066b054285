use Rattle.std.proofs.Common.{arith}
use Rattle.vbm_script.proofs.Forms.{not_true}
use Rattle.vbm_script.proofs.HexDigits.{byte_in_digits, byte_length, byte_spelled}
use Rattle.vbm_script.proofs.digits.byte.Goals as goal

pub returns-in_default : goal.returns-in_default
returns-in_default c = λ byte spells. omega (arith, byte_length c.args.word.now byte spells)

pub returns-in_default-2 : goal.returns-in_default-2
returns-in_default-2 c = λ byte spells. omega (arith, byte_length c.args.word.now byte spells)

pub returns-in_default-value : goal.returns-in_default-value
returns-in_default-value c = λ byte spells. not_true c.in_default-value.ensures (byte_in_digits c.args.word.now byte spells).0

pub returns-in_default-value-2 : goal.returns-in_default-value-2
returns-in_default-value-2 c = λ byte spells. not_true c.in_default-value-2.ensures (byte_in_digits c.args.word.now byte spells).1

pub returns : goal.returns
returns c =
    byte_spelled c.args.word.now c.in-Some.high c.in-Some-value.low (omega arith) c.in-Some.ensures.0 c.in-Some.ensures.1 c.in-Some-value.ensures.0
    c.in-Some-value.ensures.1
