use Rattle.std.proofs.Common.{refl}
use Rattle.vbm_script.proofs.HexDigits.{bytes_of_sectors}
use Rattle.vbm_script.proofs.writing.sector_bytes.Goals as goal

pub returns-in-Ok-Some : goal.returns-in-Ok-Some
returns-in-Ok-Some c =
    let some = c.if-not-spells_sectors.ensures.some refl in
    let bytes = rw c.in-Ok-Some.field-0-is at c.in-Ok-Some.ensures in
    bytes_of_sectors c.args.word.now c.in-Ok-Some.bytes some.0 bytes some.1
