use Rattle.std.proofs.Common.{◌<◌, ◌+◌, ◌*◌, ◌++◌, ◌∷◌, [], List, ℕ, length, sym, ap, subst, ◌∙◌, arith}
use Rattle.byteorder.specs.Endian.{little_bytes}
use Rattle.vbm_intent.specs.declared.change.Change.TheVariants.{Write}
use Rattle.vbm_intent.specs.Changes.{of_file, IsApart}
use Rattle.vbm_intent.specs.Plan.{body_size}
use Rattle.vbm_image.specs.Settling.{allocated_with, word_change}
use Rattle.vbm_image.proofs.SettlingPlans.{first_changes, first_next, first_within, push_apart, push_next, body_size-append, settling_whole}
use Rattle.vbm_image.proofs.settling.push_pending.Goals as goal

pub push_number-requires-in-loop-i-clause-apart : goal.push_number-requires-in-loop-i-clause-apart
push_number-requires-in-loop-i-clause-apart c =
    let image = c.args.image.now in
    let staged = image.pending.staged in
    let s : ℕ × ℕ = (c.entry-block.result.0, c.entry-block.result.1) in
    subst (λ (n : List ℕ). IsApart (of_file n (c.loop-i.plan.changes ++ Write n (image.header.off_blocks + 4 * s.0) (little_bytes 4 s.1) ∷ [])))
    (sym c.bytes-in-loop-i.ensures)
    (push_apart image.name image.header c.args.plan.now.changes c.loop-i.plan.changes (allocated_with image.header.allocated staged) staged
    c.loop-i.i s c.entry-block.ensures c.loop-i.invariant.changes c.requires.none c.requires.form.header.header_end c.requires.form.staged.once)

pub push_number-requires-in-loop-i-clause-small : goal.push_number-requires-in-loop-i-clause-small
push_number-requires-in-loop-i-clause-small c =
    let image = c.args.image.now in
    let staged = image.pending.staged in
    let n : ℕ = allocated_with image.header.allocated staged in
    let s : ℕ × ℕ = (c.entry-block.result.0, c.entry-block.result.1) in
    let some : 0 < length staged = omega arith in
    let whole = ap body_size (settling_whole image.name image.header staged some) in
    let sum = ap body_size c.loop-i.invariant.changes
    ∙ body_size-append c.args.plan.now.changes (first_changes image.name image.header n staged c.loop-i.i) in
    let within = first_within image.name image.header n staged c.loop-i.i s c.entry-block.ensures in
    omega (arith, whole, sum, within, c.requires.small, ap length c.bytes-in-loop-i.ensures)

pub push_number-requires-in-loop-i-clause-room : goal.push_number-requires-in-loop-i-clause-room
push_number-requires-in-loop-i-clause-room c =
    let image = c.args.image.now in
    let staged = image.pending.staged in
    let n : ℕ = allocated_with image.header.allocated staged in
    let s : ℕ × ℕ = (c.entry-block.result.0, c.entry-block.result.1) in
    let some : 0 < length staged = omega arith in
    let whole = ap body_size (settling_whole image.name image.header staged some) in
    let within = first_within image.name image.header n staged c.loop-i.i s c.entry-block.ensures in
    omega (arith, whole, within, c.loop-i.invariant.spare, c.requires.room, ap length c.bytes-in-loop-i.ensures)

pub loop-i-preserved : goal.loop-i-preserved
loop-i-preserved c =
    let image = c.args.image.now in
    let h = image.header in
    let staged = image.pending.staged in
    let n : ℕ = allocated_with h.allocated staged in
    let s : ℕ × ℕ = (c.entry-block.result.0, c.entry-block.result.1) in
    let i : ℕ = c.loop-i.i in
    let sum = ap body_size (first_next image.name h n staged i s c.entry-block.ensures)
    ∙ body_size-append (first_changes image.name h n staged i) (word_change image.name h s ∷ []) in
    record {
      changes =
          c.push_number-in-loop-i.ensures.changes
          ∙ ap (λ (m : List ℕ). c.loop-i.plan.changes ++ Write m (h.off_blocks + 4 * s.0) (little_bytes 4 s.1) ∷ []) c.bytes-in-loop-i.ensures
          ∙ push_next image.name h c.args.plan.now.changes c.loop-i.plan.changes n staged i s c.entry-block.ensures c.loop-i.invariant.changes;
      count = omega (arith, c.push_number-in-loop-i.ensures.count, c.loop-i.invariant.count);
      spare = omega (arith, c.push_number-in-loop-i.ensures.spare, c.loop-i.invariant.spare, sum, ap length c.bytes-in-loop-i.ensures);
    }
