use Rattle.std.proofs.Common.{List, ℕ, ◌≡◌, OnOk, take, length, replicate, subst, ap, arith, ◌∙◌}
use Rattle.std.proofs.lemmas.List.{take-replicate, length-replicate}
use Rattle.vbm_ports.specs.Files.{IsWritten}
use Rattle.vbm_ports.specs.Crash.{WriteLeaves, Follows}
use Rattle.vbm_intent.proofs.apply.write_copies.Goals as goal
use Rattle.vbm_intent.specs.declared.apply.TheConstants.{PIECE}

pub write-requires-clause-end : goal.write-requires-clause-end
write-requires-clause-end g c =
    let same : take c.args.n (replicate PIECE c.args.byte) ≡ replicate c.args.n c.args.byte = take-replicate c.args.n PIECE c.args.byte (omega arith) in
    let long : length (take c.args.n (replicate PIECE c.args.byte)) ≡ c.args.n = ap length same ∙ length-replicate c.args.n c.args.byte in
    omega (arith, long, c.requires.room)

pub returns-clause-ok : goal.returns-clause-ok
returns-clause-ok g c = λ told.
    let same : take c.args.n (replicate PIECE c.args.byte) ≡ replicate c.args.n c.args.byte = take-replicate c.args.n PIECE c.args.byte (omega arith) in
    subst (λ (l : List ℕ). OnOk c.write.result (IsWritten c.args.name.now c.args.at l (g.D.Disk.state c.args.disk.now).files (g.D.Disk.state c.write.new.self).files)) same (c.write.ensures.ok told)

pub returns-clause-images : goal.returns-clause-images
returns-clause-images g c = λ told.
    let same : take c.args.n (replicate PIECE c.args.byte) ≡ replicate c.args.n c.args.byte = take-replicate c.args.n PIECE c.args.byte (omega arith) in
    let long : length (take c.args.n (replicate PIECE c.args.byte)) ≡ c.args.n = ap length same ∙ length-replicate c.args.n c.args.byte in
    subst (λ (k : ℕ). Follows (WriteLeaves c.args.name.now c.args.at k (g.D.Disk.state c.args.disk.now).files)
    (g.D.Disk.state c.args.disk.now).may_leave (g.D.Disk.state c.write.new.self).may_leave) long (c.write.ensures.crash told)
