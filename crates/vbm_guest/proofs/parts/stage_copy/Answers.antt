use Rattle.std.proofs.Common.{◌≡◌, ◌/◌, ◌^◌, length, arith}
use Rattle.vbm_guest.proofs.FoundEntries.{block_in, keeps_staged, on_ok_told}
use Rattle.vbm_guest.proofs.WrittenParts.{on_both, copied_serves, takes_one}
use Rattle.vbm_guest.proofs.parts.stage_copy.Goals as goal

pub stage_block-requires-clause-block : goal.stage_block-requires-clause-block
stage_block-requires-clause-block g c = block_in c.args.image.now c.args.block c.args.first c.requires.form
    (omega (arith, c.requires.some, c.requires.whole, c.requires.range))

pub returns-clause-serves : goal.returns-clause-serves
returns-clause-serves g c = λ told.
    let full : length c.overlay.new.buf ≡ 2 ^ 20 = omega (arith, c.overlay.auto.buf, c.requires.buf) in
    on_both c.stage_block.result
    (λ stages fits. copied_serves (g.D.Disk.state c.args.disk.now).files (g.D.Disk.state c.stage_block.new.disk).files c.args.image.now
    c.stage_block.new.image c.args.block c.args.first (length c.args.bytes.now / 512) c.args.bytes.now c.args.buf.now c.overlay.new.buf
    c.requires.form (c.requires.fits told) c.requires.inside c.requires.range (omega (arith, c.requires.some, c.requires.whole)) c.requires.whole
    c.requires.buf c.overlay.ensures full c.requires.another c.stage_block.ensures.same c.stage_block.ensures.form stages fits)
    (c.stage_block.ensures.ok told) (c.stage_block.ensures.fits told)

pub returns-clause-entries : goal.returns-clause-entries
returns-clause-entries g c =
    on_both c.stage_block.result
    (λ entry stages. keeps_staged g.D.Disk.tells (g.D.Disk.state c.args.disk.now).files (g.D.Disk.state c.stage_block.new.disk).files
    c.args.image.now c.stage_block.new.image c.args.block c.overlay.new.buf c.stage_block.ensures.same entry c.requires.fits stages)
    c.stage_block.ensures.staged (on_ok_told g.D.Disk.tells _ c.stage_block.result c.stage_block.ensures.ok)

pub returns-clause-same : goal.returns-clause-same
returns-clause-same g c = takes_one c.stage_block.result c.args.image.now c.stage_block.new.image c.args.block c.stage_block.ensures.same
    c.stage_block.ensures.staged c.stage_block.ensures.stay c.stage_block.ensures.spare c.stage_block.ensures.left
