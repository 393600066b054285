use Rattle.std.proofs.Common.{length, ap, arith}
use Rattle.vbm_intent.specs.declared.change.Change.TheVariants.{Cut}
use Rattle.vbm_intent.specs.Plan.{body_size}
use Rattle.vbm_ports.proofs.NameLemmas.{store_name_short}
use Rattle.vbm_store.proofs.Pushing.{on_ok, size_push, apart_behind, cut_from}
use Rattle.vbm_store.proofs.plans.push_cut.Goals as goal

pub push-requires-clause-apart : goal.push-requires-clause-apart
push-requires-clause-apart c =
    let cut = Cut c.in_ok-name.name c.args.len in
    apart_behind c.args.name.now c.args.plan.now.changes cut c.in_ok-name.ensures c.args.len c.requires.apart (cut_from c.in_ok-name.name c.args.len)

pub push-requires-clause-small : goal.push-requires-clause-small
push-requires-clause-small c =
    let short = store_name_short c.args.name.now c.requires.allowed.store in
    omega (arith, c.requires.small, short, ap length c.in_ok-name.ensures)

pub returns-clause-size : goal.returns-clause-size
returns-clause-size c =
    let short = store_name_short c.args.name.now c.requires.allowed.store in
    let cut = Cut c.in_ok-name.name c.args.len in
    on_ok c.push.result (λ is. omega (arith, short, ap length c.in_ok-name.ensures, ap body_size is, size_push c.args.plan.now.changes cut)) c.push.ensures.ok
