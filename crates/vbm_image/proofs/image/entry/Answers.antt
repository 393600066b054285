use Rattle.std.proofs.Common.{List, ℕ, length, arith, ap}
use Rattle.vbm_ports.specs.Files.{bytes_of}
use Rattle.vbm_volume.proofs.Torn.{map_within}
use Rattle.vbm_image.proofs.image.entry.Goals as goal

pub read_word-requires-clause-map : goal.read_word-requires-clause-map
read_word-requires-clause-map g c = λ told.
    let files = (g.D.Disk.state c.args.disk.now).files in
    let within = map_within (bytes_of (files c.args.image.now.name)) c.args.image.now.header (c.requires.fits told).accepted in
    omega (arith, within.1, ap (λ (n : List ℕ). length (bytes_of (files n))) c.bytes.ensures, c.requires.block)
