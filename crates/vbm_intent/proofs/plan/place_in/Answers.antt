use Rattle.std.proofs.Common.{◌≡◌, ℕ, ◌+◌, ◌-◌, List, length, drop, ap, sym, subst, arith, length-drop}
use Rattle.std.proofs.lemmas.List.{take_all}
use Rattle.vbm_intent.specs.Plan.{changes_of_record}
use Rattle.vbm_intent.specs.Pieces.{change_in}
use Rattle.vbm_intent.proofs.Places.{Left, at_start, none_left, step, arrive}
use Rattle.vbm_intent.proofs.plan.place_in.Goals as goal

pub loop-left-init : goal.loop-left-init
loop-left-init c =
    let text = c.args.text.now in
    subst (λ l. Left text (changes_of_record text) c.args.change c.args.change l) (sym (take_all (length text - 8) (drop 8 text) (omega (arith, length-drop 8 text))))
    (at_start text (changes_of_record text) c.args.change c.requires.record c.requires.write)

pub returns-in_default : goal.returns-in_default
returns-in_default c = absurd (none_left c.args.text.now (changes_of_record c.args.text.now) c.args.change c.loop-left.left c.loop-left.rest.now c.loop-left.invariant c.in_default.ensures.parts)

pub loop-left-preserved : goal.loop-left-preserved
loop-left-preserved c =
    step c.args.text.now (changes_of_record c.args.text.now) c.args.change c.loop-left.rest.now (change_in c.in-Some.field-0-0) c.in-Some.next.now c.in-Some.ensures.parts
    c.loop-left.left c.loop-left-test.true c.loop-left.invariant

pub returns-in_default-first_piece : goal.returns-in_default-first_piece
returns-in_default-first_piece c =
    absurd (none_left c.args.text.now (changes_of_record c.args.text.now) c.args.change c.loop-left.left c.loop-left.rest.now c.loop-left.invariant c.in_default-first_piece.ensures.parts)

pub returns : goal.returns
returns c =
    let none_more : c.loop-left.left ≡ 0 = omega (arith, c.loop-left-test.false) in
    arrive c.args.text.now (changes_of_record c.args.text.now) c.args.change c.loop-left.rest.now (change_in c.in-Some-first_piece.piece) c.in-Some-first_piece.field-0-1.now c.in-Some-first_piece.ensures.parts
    (subst (λ n. Left c.args.text.now (changes_of_record c.args.text.now) c.args.change n c.loop-left.rest.now) none_more c.loop-left.invariant)
    (length c.args.text.now - length c.loop-left.rest.now + (14 + length c.name.result.now))
    (ap (λ (l : List ℕ). length c.args.text.now - length c.loop-left.rest.now + (14 + length l)) c.name.ensures)
