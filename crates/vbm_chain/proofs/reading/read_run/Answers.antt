use borrow.Rule.Slice.PartMut.{put_mid, post_of}
use Rattle.std.proofs.Common.{◌≡◌, ◌-◌, ◌+◌, ◌*◌, ◌/◌, ◌%◌, ℕ, length, take, drop, length-take, length-drop, ap, ◌∙◌, arith}
use Rattle.vbm_ports.specs.Files.{Files, piece}
use Rattle.vbm_volume.specs.Chain.{chain_sector}
use Rattle.vbm_chain.specs.Settled.{settled_links}
use Rattle.vbm_chain.proofs.ReadingPieces.{piece_before, piece_inside}
use Rattle.vbm_chain.proofs.reading.read_run.Goals as goal

pub returns-in_err-read_part-clause-kept : goal.returns-in_err-read_part-clause-kept
returns-in_err-read_part-clause-kept g c = λ s m inside.
    piece_before (c.args.done * 512) c.args.out.now c.read_part.new.out
    (post_of (c.args.done * 512) ((c.args.done + c.min-count.result) * 512 - c.args.done * 512) c.args.out.now)
    (omega (arith, c.requires.some)) s m inside

pub returns-clause-kept : goal.returns-clause-kept
returns-clause-kept g c = λ s m inside.
    piece_before (c.args.done * 512) c.args.out.now c.read_part.new.out
    (post_of (c.args.done * 512) ((c.args.done + c.min-count.result) * 512 - c.args.done * 512) c.args.out.now)
    (omega (arith, c.requires.some)) s m inside

pub returns-clause-sectors : goal.returns-clause-sectors
returns-clause-sectors g c = λ told k low.
    let n : ℕ = c.min-count.result in
    let a : ℕ = c.args.done * 512 in
    let files : Files = (g.D.Disk.state c.args.disk.now).files in
    let part : length (take ((c.args.done + n) * 512 - a) (drop a c.args.out.now)) ≡ n * 512 =
    omega (
      arith,
      c.min-count.ensures,
      c.requires.some,
      length-take ((c.args.done + n) * 512 - a) (drop a c.args.out.now),
      length-drop a c.args.out.now,
    ) in
    let size : length c.read_part.new.out ≡ n * 512 = omega (arith, c.read_part.auto.out, part) in
    let place : (c.args.done + k) * 512 ≡ a + k * 512 = omega arith in
    let sector : c.args.lba / 2048 * 2048 + c.args.lba % 2048 + k ≡ c.args.lba + k = omega arith in
    ap (λ (o : ℕ). piece (put_mid a ((c.args.done + n) * 512 - a) c.args.out.now c.read_part.new.out) o 512) place
    ∙ piece_inside a c.args.out.now c.read_part.new.out (post_of a ((c.args.done + n) * 512 - a) c.args.out.now)
    (omega (arith, c.requires.some)) (k * 512) 512 (omega (arith, size, low))
    ∙ c.in_ok-read_part.ensures.sectors told k (omega (arith, part, low))
    ∙ ap (chain_sector (settled_links files c.args.images.now.items c.args.chain.now)) sector
