use Rattle.std.proofs.Common.{◌≡◌, ℕ, ◌+◌, ◌-◌, ◌∙◌, List, ◌++◌, drop, ap}
use Rattle.std.specs.Int.{to_le_bytes, w32}
use Rattle.vbm_intent.specs.Pieces.{change_in}
use Rattle.vbm_intent.specs.Record.{count_of}
use Rattle.vbm_intent.specs.Plan.{change_bytes, record_of}
use Rattle.vbm_intent.proofs.Wholes.{head_set}
use Rattle.vbm_intent.proofs.plan.push_onto.Goals as goal

pub returns-clause-items : goal.returns-clause-items
returns-clause-items c =
    let text = record_of c.args.text.now.items in
    let change = change_in c.args.piece.now in
    let head : c.put_head.new.text.items ≡ text = c.put_head.ensures.items in
    head_set text change c.put_change.new.text.items c.set_head.new.text c.put_change.new.text.len (c.len-size.result - 8) (c.u32_at-count.result + 1)
    c.requires.head
    (c.put_change.ensures.items ∙ ap (λ (l : List ℕ). l ++ change_bytes change) head)
    (c.set_head.ensures ∙ ap (λ (l : List ℕ). to_le_bytes w32 (c.len-size.result - 8) ++ (to_le_bytes w32 (c.u32_at-count.result + 1) ++ drop 8 l)) c.deref_mut.ensures.value)
    c.put_change.new.text.ok.0
    (ap (λ (k : ℕ). k - 8) c.len-size.ensures)
    (ap (λ (k : ℕ). k + 1) (c.u32_at-count.ensures ∙ ap count_of (c.deref.ensures.value ∙ head)))
