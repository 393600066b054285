use Rattle.std.proofs.Common.{◌∙◌, ◌-◌, length, refl, ap, arith}
use Rattle.std.specs.Prelude.{slice_set}
use lib.ListN.{length-set}
use Rattle.std.proofs.lemmas.Nat.{from_le_bytes-to_le_bytes_4}
use Rattle.vbm_intent.specs.Index.{place_of}
use Rattle.vbm_intent.specs.Pieces.{change_in}
use Rattle.vbm_intent.proofs.Notes.{none_noted, not_none, note_more, all_noted}
use Rattle.vbm_intent.proofs.index.note_places.Goals as goal

pub loop-noted-init : goal.loop-noted-init
loop-noted-init c = none_noted c.args.body.now c.args.index.now c.requires.changes

pub returns-in_default-clause-changes : goal.returns-in_default-clause-changes
returns-in_default-clause-changes c =
    absurd (not_none c.args.body.now (length c.args.index.now) c.loop-noted.index c.loop-noted.noted c.loop-noted.rest.now c.loop-noted.invariant
    (omega (arith, c.loop-noted-test.true, c.loop-noted.invariant.long)) c.in_default.ensures.parts)

pub loop-noted-preserved : goal.loop-noted-preserved
loop-noted-preserved c =
    let body = c.args.body.now in
    let rest = c.loop-noted.rest.now in
    note_more body (length c.args.index.now) c.loop-noted.index c.loop-noted.noted rest c.loop-noted.invariant
    (omega (arith, c.loop-noted-test.true, c.loop-noted.invariant.long)) (change_in c.in-Some.field-0-0) c.in-Some.next.now c.in-Some.ensures.parts
    c.to_le_bytes.result (slice_set c.loop-noted.index c.loop-noted.noted c.to_le_bytes.result)
    (ap place_of c.to_le_bytes.ensures ∙ from_le_bytes-to_le_bytes_4 (length body - length rest) (omega (arith, c.requires.short)))
    refl (length-set c.loop-noted.index c.loop-noted.noted c.to_le_bytes.result)

pub returns-clause-changes : goal.returns-clause-changes
returns-clause-changes c =
    (all_noted c.args.body.now (length c.args.index.now) c.loop-noted.index c.loop-noted.noted c.loop-noted.rest.now c.loop-noted.invariant
    (omega (arith, c.loop-noted-test.false))).0

pub returns-clause-rising : goal.returns-clause-rising
returns-clause-rising c =
    (all_noted c.args.body.now (length c.args.index.now) c.loop-noted.index c.loop-noted.noted c.loop-noted.rest.now c.loop-noted.invariant
    (omega (arith, c.loop-noted-test.false))).1
