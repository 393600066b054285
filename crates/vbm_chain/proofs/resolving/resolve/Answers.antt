use Rattle.std.proofs.Common.{◌≡◌, ◌-◌, ℕ, get_or, take, sym, ap, subst, ◌∙◌, arith}
use Rattle.vbm_ports.specs.Files.{Files}
use Rattle.vbm_blockmap.specs.declared.entry.Entry.TheVariants.{Zero, At}
use Rattle.vbm_blockmap.specs.Entry.{IsEntry}
use Rattle.vbm_chain.specs.declared.resolving.Place.TheVariants.{Zeros, In}
use Rattle.vbm_chain.specs.Resolved.{block_place}
use Rattle.vbm_chain.proofs.ResolvedSectors.{chain_reads, chain_data, place_next}
use Rattle.vbm_chain.proofs.resolving.resolve.Goals as goal

pub returns-in-Zero-clause-sectors : goal.returns-in-Zero-clause-sectors
returns-in-Zero-clause-sectors g c = λ told i here.
    let files : Files = (g.D.Disk.state c.args.disk.now).files in
    let place : block_place files c.args.images.now.items c.args.chain.now c.args.block ≡ Zeros =
    place_next files (g.D.Disk.state c.loop-left.disk).files c.args.images.now.items c.args.chain.now c.loop-left.left c.args.block
    c.get.result.now Zero (c.loop-left.invariant.reads.files told) (c.loop-left.invariant.place told) c.loop-left-test.true
    c.loop-left.invariant.within c.get.ensures (sym c.in-Zero.is ∙ c.in_ok-entry_in.ensures.entry told) in
    chain_reads files c.args.images.now.items c.requires.form (c.requires.fits told) c.args.chain.now c.args.block i Zeros (sym place) tt
    (c.requires.rising told) here

pub returns-in-At-clause-sectors : goal.returns-in-At-clause-sectors
returns-in-At-clause-sectors g c = λ told i here.
    let files : Files = (g.D.Disk.state c.args.disk.now).files in
    let k : ℕ = get_or c.args.chain.now (c.loop-left.left - 1) 0 in
    let place : block_place files c.args.images.now.items c.args.chain.now c.args.block ≡ In k c.in-At.at =
    place_next files (g.D.Disk.state c.loop-left.disk).files c.args.images.now.items c.args.chain.now c.loop-left.left c.args.block
    c.get.result.now (At c.in-At.at) (c.loop-left.invariant.reads.files told) (c.loop-left.invariant.place told) c.loop-left-test.true
    c.loop-left.invariant.within c.get.ensures (sym c.in-At.is ∙ c.in_ok-entry_in.ensures.entry told) in
    chain_reads files c.args.images.now.items c.requires.form (c.requires.fits told) c.args.chain.now c.args.block i (In k c.in-At.at)
    (sym place) (subst IsEntry c.in-At.is c.in_ok-entry_in.ensures.is) (c.requires.rising told) here

pub returns-in-At-clause-in_file : goal.returns-in-At-clause-in_file
returns-in-At-clause-in_file g c = λ told.
    let files : Files = (g.D.Disk.state c.args.disk.now).files in
    let k : ℕ = get_or c.args.chain.now (c.loop-left.left - 1) 0 in
    let place : block_place files c.args.images.now.items c.args.chain.now c.args.block ≡ In k c.in-At.at =
    place_next files (g.D.Disk.state c.loop-left.disk).files c.args.images.now.items c.args.chain.now c.loop-left.left c.args.block
    c.get.result.now (At c.in-At.at) (c.loop-left.invariant.reads.files told) (c.loop-left.invariant.place told) c.loop-left-test.true
    c.loop-left.invariant.within c.get.ensures (sym c.in-At.is ∙ c.in_ok-entry_in.ensures.entry told) in
    chain_data files c.args.images.now.items c.requires.form (c.requires.fits told) c.args.chain.now c.args.block (In k c.in-At.at)
    (sym place) (subst IsEntry c.in-At.is c.in_ok-entry_in.ensures.is)

pub returns-clause-sectors : goal.returns-clause-sectors
returns-clause-sectors g c = λ told i here.
    let files : Files = (g.D.Disk.state c.args.disk.now).files in
    let place : block_place files c.args.images.now.items c.args.chain.now c.args.block ≡ Zeros =
    c.loop-left.invariant.place told
    ∙ ap (λ (n : ℕ). block_place files c.args.images.now.items (take n c.args.chain.now) c.args.block)
    (let none : c.loop-left.left ≡ 0 = omega (arith, c.loop-left-test.false) in none) in
    chain_reads files c.args.images.now.items c.requires.form (c.requires.fits told) c.args.chain.now c.args.block i Zeros (sym place) tt
    (c.requires.rising told) here
