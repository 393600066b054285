use Rattle.std.proofs.Common.{ap, arith}
use Rattle.vbm_intent.specs.Plan.{body_size}
use Rattle.vbm_image.proofs.SettlingPlans.{settles, settling_size}
use Rattle.vbm_image.proofs.settling.plan_pending.Goals as goal

pub returns-in_err-reserve-clause-settles : goal.returns-in_err-reserve-clause-settles
returns-in_err-reserve-clause-settles c = λ f fits.
    let image = c.args.image.now in
    settles image.name image.header image.pending.staged f c.requires.form.header c.requires.form.staged fits.accepted fits.entries

pub push_pending-requires-clause-small : goal.push_pending-requires-clause-small
push_pending-requires-clause-small c =
    let image = c.args.image.now in
    let size = settling_size image.name image.header c.requires.form.name image.pending.staged in
    omega (arith, size, c.requires.small, ap body_size c.in_ok-reserve.ensures.same)

pub push_pending-requires-clause-room : goal.push_pending-requires-clause-room
push_pending-requires-clause-room c =
    let image = c.args.image.now in
    omega (arith, settling_size image.name image.header c.requires.form.name image.pending.staged, c.in_ok-reserve.ensures.ok)

pub returns-clause-settles : goal.returns-clause-settles
returns-clause-settles c = λ f fits.
    let image = c.args.image.now in
    settles image.name image.header image.pending.staged f c.requires.form.header c.requires.form.staged fits.accepted fits.entries
