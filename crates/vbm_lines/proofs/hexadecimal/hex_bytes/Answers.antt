use Rattle.std.proofs.Common.{◌≡◌, ◌≢◌, length, sym, Ok, ◌∙◌, arith}
use Rattle.std.proofs.lemmas.Bool.{eqb-true, eqb-false}
use Rattle.hex.specs.Hex.{decode_of, encode_lower}
use Rattle.vbm_lines.proofs.Unhex.{unspelled-other, unspelled-empty, spelled}
use Rattle.vbm_lines.proofs.hexadecimal.hex_bytes.Goals as goal

pub returns-then-is_empty : goal.returns-then-is_empty
returns-then-is_empty c = unspelled-empty c.args.word.now (eqb-true _ _ (sym c.is_empty.ensures ∙ c.if-is_empty.true))

pub returns-then-not-branch : goal.returns-then-not-branch
returns-then-not-branch c =
    let read : decode_of c.args.word.now ≡ Ok c.in-Some.bytes.items = rw c.in-Some.is at c.in_ok-bytes.ensures in
    unspelled-other c.args.word.now c.in-Some.bytes.items read (λ same. grind (arith, c.in_ok-spells.ensures))

pub returns : goal.returns
returns c =
    let some : length c.args.word.now ≢ 0 = eqb-false _ _ (sym c.is_empty.ensures ∙ c.if-is_empty.false) in
    let read : decode_of c.args.word.now ≡ Ok c.in-Some.bytes.items = rw c.in-Some.is at c.in_ok-bytes.ensures in
    let same : encode_lower c.in-Some.bytes.items ≡ c.args.word.now = grind (arith, c.in_ok-spells.ensures) in
    let copy : c.in_ok-from_slice.field-0 ≡ c.in-Some.bytes.items = cc c.in_ok-from_slice.ensures in
    rw copy (spelled c.args.word.now c.in-Some.bytes.items some read same)
