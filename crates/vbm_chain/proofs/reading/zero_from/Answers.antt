use borrow.Rule.Slice.PartMut.{put_mid, post_of}
use Rattle.std.proofs.Common.{◌≡◌, ◌-◌, ◌+◌, ℕ, length, replicate, sym, ap, ◌∙◌, arith, take, drop, length-take, length-drop}
use Rattle.std.proofs.lemmas.List.{length-replicate}
use Rattle.vbm_ports.specs.Files.{piece}
use Rattle.vbm_chain.proofs.ReadingPieces.{piece_before, piece_inside, piece-zeros}
use Rattle.vbm_chain.proofs.reading.zero_from.Goals as goal

pub returns-clause-kept : goal.returns-clause-kept
returns-clause-kept c = λ s m inside.
    piece_before c.args.from c.args.out.now c.fill.new.self (post_of c.args.from (length c.args.out.now - c.args.from) c.args.out.now) c.requires
    s m inside

pub returns-clause-zeros : goal.returns-clause-zeros
returns-clause-zeros c = λ s m low fits.
    let n : ℕ = length c.args.out.now - c.args.from in
    let whole : length (take n (drop c.args.from c.args.out.now)) ≡ n =
    omega (arith, length-take n (drop c.args.from c.args.out.now), length-drop c.args.from c.args.out.now) in
    let zeros : c.fill.new.self ≡ replicate n 0 = c.fill.ensures.after (λ y e. e) ∙ ap (λ k. replicate k 0) whole in
    let size : length c.fill.new.self ≡ n = ap length zeros ∙ length-replicate {A = ℕ} n 0 in
    let place : c.args.from + (s - c.args.from) ≡ s = omega (arith, low) in
    ap (λ (k : ℕ). piece (put_mid c.args.from n c.args.out.now c.fill.new.self) k m) (sym place)
    ∙ piece_inside c.args.from c.args.out.now c.fill.new.self (post_of c.args.from n c.args.out.now) c.requires (s - c.args.from) m
    (omega (arith, size, low, fits))
    ∙ ap (λ xs. piece xs (s - c.args.from) m) zeros
    ∙ piece-zeros n (s - c.args.from) m (omega (arith, low, fits))
