use Rattle.std.proofs.Common.{◌/◌, length, arith}
use Rattle.vbm_guest.proofs.FoundEntries.{keeps_placed, on_ok_told}
use Rattle.vbm_image.proofs.Results.{on_ok}
use Rattle.vbm_guest.proofs.WrittenParts.{on_both, placed_serves, placed_wrote}
use Rattle.vbm_guest.proofs.parts.write_in_place.Goals as goal

pub returns-clause-serves : goal.returns-clause-serves
returns-clause-serves g c = λ told.
    on_both c.write_in_block.result
    (placed_serves (g.D.Disk.state c.args.disk.now).files (g.D.Disk.state c.write_in_block.new.disk).files c.args.image.now c.args.at c.args.block
    c.args.first (length c.args.bytes.now / 512) c.args.bytes.now c.requires.form (c.requires.fits told) c.requires.position c.requires.inside
    c.requires.range (omega (arith, c.requires.some, c.requires.whole)) c.requires.whole (c.requires.here told))
    (c.write_in_block.ensures.written told) (c.write_in_block.ensures.fits told)

pub returns-clause-entries : goal.returns-clause-entries
returns-clause-entries g c =
    on_ok c.write_in_block.result
    (keeps_placed g.D.Disk.tells (g.D.Disk.state c.args.disk.now).files (g.D.Disk.state c.write_in_block.new.disk).files c.args.image.now c.args.block
    c.args.at c.args.first c.args.bytes.now c.requires.fits)
    (on_ok_told g.D.Disk.tells _ c.write_in_block.result c.write_in_block.ensures.written)

pub returns-clause-wrote : goal.returns-clause-wrote
returns-clause-wrote g c = λ told.
    placed_wrote (g.D.Disk.state c.args.disk.now).files (g.D.Disk.state c.write_in_block.new.disk).files c.args.image.now c.args.at c.args.block
    c.args.first (length c.args.bytes.now / 512) c.args.bytes.now c.requires.form (c.requires.fits told) c.requires.position c.requires.inside
    c.requires.range (omega (arith, c.requires.some, c.requires.whole)) c.requires.whole (c.requires.here told)
    (g.D.Disk.state c.args.disk.now) (g.D.Disk.state c.write_in_block.new.disk) (c.write_in_block.ensures.wrote told)
