use Rattle.std.proofs.Common.{ℕ, ◌≤◌, List, length, take, refl, ap, arith}
use Rattle.vbm_ports.specs.Files.{bytes_of}
use Rattle.vbm_intent.specs.Changes.{name_of, of_file, start_of}
use Rattle.vbm_intent.specs.Pieces.{change_in}
use Rattle.vbm_intent.proofs.Starts.{length_told}
use Rattle.vbm_intent.proofs.Fitting.{begins_within_still}
use Rattle.vbm_intent.proofs.check.begins_within.Goals as goal

pub returns-then-at-len-clause-answer : goal.returns-then-at-len-clause-answer
returns-then-at-len-clause-answer g c = λ told.
    let change = change_in c.args.piece.now in
    let files = (g.D.Disk.state c.args.disk.now).files in
    let named = ap (λ (name : List ℕ). length (bytes_of (files name))) c.name.ensures in
    let is_len = length_told (files c.name.result.now) c.in_ok-length.field-0 (c.in_ok-length.ensures.answer told) in
    let reaches : start_of change ≤ length (bytes_of (files (name_of change))) =
    omega (arith, is_len, named, c.unwrap_or-len.ensures, c.if-at-len.true, c.start-at.ensures) in
    let earlier = of_file (name_of change) (take c.args.made c.args.changes) in
    ((λ yes. begins_within_still earlier (start_of change) (files (name_of change)) c.requires.kept reaches), (λ within. refl))
