use Rattle.std.proofs.Common.{◌≡◌, ◌+◌, ◌*◌, ◌/◌, ◌<◌, ◌≤◌, ℕ, length, sym, ap, ◌∙◌, arith}
use Rattle.vbm_ports.specs.Files.{Files}
use Rattle.vbm_chain.specs.Resolved.{place_sector}
use Rattle.vbm_chain.proofs.reading.read_part.Goals as goal

block_of : (block first n k : ℕ) → first + n ≤ 2048 → k < n → (block * 2048 + first + k) / 2048 ≡ block
block_of block first n k inside low = omega arith

pub returns-in-Zeros-clause-sectors : goal.returns-in-Zeros-clause-sectors
returns-in-Zeros-clause-sectors g c = λ told k low.
    let files : Files = (g.D.Disk.state c.args.disk.now).files in
    let i : ℕ = c.args.block * 2048 + c.args.first + k in
    c.zero_from.ensures.zeros (k * 512) 512 (omega arith) (omega (arith, low, c.requires.whole))
    ∙ sym (c.in_ok-resolve.ensures.sectors told i (block_of c.args.block c.args.first (length c.args.out.now / 512) k c.requires.inside low)
    ∙ ap (λ place. place_sector files c.args.images.now.items place i) c.in-Zeros.is)
