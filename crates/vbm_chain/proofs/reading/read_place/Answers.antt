use Rattle.std.proofs.Common.{◌≡◌, ◌*◌, ◌/◌, ℕ, List, length, ap, ◌∙◌, arith}
use Rattle.vbm_ports.specs.Files.{Files, piece}
use Rattle.vbm_volume.specs.Like.{sector_at}
use Rattle.vbm_image.specs.Image.{file_in}
use Rattle.vbm_chain.proofs.ReadingPieces.{sectors_read}
use Rattle.vbm_chain.proofs.reading.read_place.Goals as goal

pub returns-clause-sectors : goal.returns-clause-sectors
returns-clause-sectors g c = λ told.
    let files : Files = (g.D.Disk.state c.args.disk.now).files in
    let n : ℕ = length c.args.out.now / 512 in
    let f : List ℕ = file_in files c.args.image.now in
    let whole : length c.args.out.now ≡ n * 512 = c.requires.whole in
    let read : c.read_in_block.new.out ≡ piece f (sector_at c.args.image.now.header c.args.at c.args.first) (n * 512) =
    c.in_ok-read_in_block.ensures.bytes told ∙ ap (λ (k : ℕ). piece f (sector_at c.args.image.now.header c.args.at c.args.first) k) whole in
    sectors_read files c.args.image.now c.args.at c.args.block c.args.first n c.min-count.result c.read_in_block.new.out c.zero_from.new.out
    (c.requires.in_file told) c.requires.inside read (omega (arith, c.zero_from.auto.out, c.read_in_block.auto.out, whole))
    (omega (arith, c.min-count.ensures, c.saturating_sub.ensures, c.from.ensures, c.from-2.ensures)) c.zero_from.ensures.kept
    (λ s m low fits. c.zero_from.ensures.zeros s m low (omega (arith, fits, c.zero_from.auto.out)))
