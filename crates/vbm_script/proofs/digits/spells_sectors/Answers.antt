use Rattle.std.proofs.Common.{sym, ◌∙◌, ◌/◌, length, arith}
use Rattle.vbm_script.proofs.Forms.{not_true}
use Rattle.vbm_script.proofs.HexDigits.{sectors_in_digits, sectors_long, sectors_spelled}
use Rattle.vbm_script.proofs.digits.spells_sectors.Goals as goal
use Rattle.vbm_script.proofs.digits.spells_sectors.Goals.{then-word-ne0-via-then-word-ne0, then-word-ne0-via-else-word-ne0+then-count-eq0, then-word-ne0-via-else-word-ne0+else-count-eq0+then-count-gt-WRITE_LIMIT}

pub returns-then-word-ne0-clause-none : goal.returns-then-word-ne0-clause-none
returns-then-word-ne0-clause-none c = λ no bytes spells.
    let long = sectors_long c.args.word.now bytes spells in
    let are = spells.are_sectors in
    elim c.then-word-ne0.branch [
      | then-word-ne0-via-then-word-ne0 w ↦ omega (arith, long, are.some, are.few)
      | then-word-ne0-via-else-word-ne0+then-count-eq0 w ↦ omega (arith, long, are.some, are.few)
      | then-word-ne0-via-else-word-ne0+else-count-eq0+then-count-gt-WRITE_LIMIT w ↦ omega (arith, long, are.some, are.few)
    ]

pub returns-clause-some : goal.returns-clause-some
returns-clause-some c = λ yes.
    sectors_spelled c.args.word.now (length c.args.word.now / 1024) (omega arith) (omega arith) (omega arith) (sym c.are_digits.ensures ∙ yes)

pub returns-clause-none : goal.returns-clause-none
returns-clause-none c = λ no bytes spells. not_true no (c.are_digits.ensures ∙ sectors_in_digits c.args.word.now bytes spells)
