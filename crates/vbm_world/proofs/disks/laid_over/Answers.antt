use Rattle.std.proofs.Common.{◌≡◌, ℕ, List, Some, None, length, set, replicate, ap, sym, ◌∙◌, arith}
use Rattle.std.proofs.lemmas.Option.{slice_get-get_or}
use Rattle.vbm_world.specs.Clones.{laid_over}
use Rattle.vbm_world.proofs.DisksMade.{set_next, length-laid_over, get-laid_over, length-so_far, so_far-all}
use Rattle.vbm_world.proofs.disks.laid_over.Goals as goal

pub set-requires : goal.set-requires
set-requires c =
    let size : length c.loop-i.flat ≡ length c.args.sectors.now = ap length c.loop-i.invariant
    ∙ length-so_far (laid_over c.args.disk.now c.args.sectors.now) (replicate 512 0) (length c.args.sectors.now) c.loop-i.i
    (length-laid_over c.args.disk.now c.args.sectors.now) (omega arith) in
    omega arith

pub loop-i-preserved : goal.loop-i-preserved
loop-i-preserved c =
    let disk = c.args.disk.now in
    let sectors = c.args.sectors.now in
    let i = c.loop-i.i in
    let made = get-laid_over disk sectors i _ (slice_get-get_or sectors i None c.loop-i-test.true) in
    c.set.ensures
    ∙ ap (λ (l : List (List ℕ)). set l i c.sector_over-sector.result) c.loop-i.invariant
    ∙ set_next (laid_over disk sectors) (replicate 512 0) (length sectors) i c.sector_over-sector.result
    (made ∙ ap (λ (s : List ℕ). Some s) (sym c.sector_over-sector.ensures)) c.loop-i-test.true

pub returns : goal.returns
returns c = c.loop-i.invariant ∙ so_far-all (laid_over c.args.disk.now c.args.sectors.now) (replicate 512 0) (length c.args.sectors.now) c.loop-i.i
    (length-laid_over c.args.disk.now c.args.sectors.now) (omega arith)
