use Rattle.std.proofs.Common.{◌/◌, List, ℕ, length, subst}
use Rattle.vbm_ports.specs.Files.{Files, IsWritten}
use Rattle.vbm_volume.specs.Like.{sector_at}
use Rattle.vbm_volume.proofs.Writings.{sectors_wrote}
use Rattle.vbm_image.proofs.StagedBlocks.{fits_in_written}
use Rattle.vbm_image.proofs.Results.{on_ok}
use Rattle.vbm_image.proofs.image.write_in_block.Goals as goal

pub returns-clause-written : goal.returns-clause-written
returns-clause-written g c = λ told.
    let files : Files = (g.D.Disk.state c.args.disk.now).files in
    let now : Files = (g.D.Disk.state c.write.new.self).files in
    on_ok c.write.result (λ is.
    subst (λ (n : List ℕ). IsWritten n (sector_at c.args.image.now.header c.args.at c.args.first) c.args.bytes.now files now) c.bytes.ensures
    (subst (λ (o : ℕ). IsWritten c.bytes.result.now o c.args.bytes.now files now) c.place.ensures.place is)) (c.write.ensures.ok told)

pub returns-clause-fits : goal.returns-clause-fits
returns-clause-fits g c = λ told.
    let files : Files = (g.D.Disk.state c.args.disk.now).files in
    let now : Files = (g.D.Disk.state c.write.new.self).files in
    let image = c.args.image.now in
    on_ok c.write.result (λ is.
    fits_in_written image.name image.header c.args.at c.args.first (length c.args.bytes.now / 512) c.args.bytes.now image.pending.staged image.used
    files now (c.requires.fits told) c.requires.inside c.requires.whole
    (subst (λ (n : List ℕ). IsWritten n (sector_at image.header c.args.at c.args.first) c.args.bytes.now files now) c.bytes.ensures
    (subst (λ (o : ℕ). IsWritten c.bytes.result.now o c.args.bytes.now files now) c.place.ensures.place is))) (c.write.ensures.ok told)

pub returns-clause-wrote : goal.returns-clause-wrote
returns-clause-wrote g c = λ told.
    sectors_wrote c.write.result c.args.image.now.name c.args.image.now.header c.args.at c.args.first (length c.args.bytes.now / 512) c.args.bytes.now
    (g.D.Disk.state c.args.disk.now) (g.D.Disk.state c.write.new.self)
    (c.requires.fits told).accepted c.requires.inside c.requires.whole
    c.bytes.result.now c.place.result c.bytes.ensures c.place.ensures.place
    (c.write.ensures.ok told) (c.write.ensures.err told) (c.write.ensures.crash told) c.write.ensures.time
