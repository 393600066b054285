use Rattle.std.proofs.Common.{◌+◌, length, sym, ap, subst, arith}
use Rattle.vbm_intent.specs.declared.change.Change.TheVariants.{Fill}
use Rattle.vbm_intent.specs.Changes.{of_file}
use Rattle.vbm_intent.specs.Plan.{body_size}
use Rattle.vbm_ports.proofs.NameLemmas.{store_name_short}
use Rattle.vbm_store.specs.Plans.{EndsBy}
use Rattle.vbm_store.proofs.Pushing.{on_ok, size_push, apart_behind, ends_behind, fill_from}
use Rattle.vbm_store.proofs.plans.push_fill.Goals as goal

pub push-requires-clause-apart : goal.push-requires-clause-apart
push-requires-clause-apart c =
    let fill = Fill c.in_ok-name.name c.args.at c.args.len c.args.byte in
    apart_behind c.args.name.now c.args.plan.now.changes fill c.in_ok-name.ensures c.args.at c.requires.apart
    (λ i t. (fill_from c.in_ok-name.name c.args.at c.args.len c.args.byte i t).0)

pub push-requires-clause-small : goal.push-requires-clause-small
push-requires-clause-small c =
    let short = store_name_short c.args.name.now c.requires.allowed.store in
    omega (arith, c.requires.small, short, ap length c.in_ok-name.ensures)

pub returns-clause-behind : goal.returns-clause-behind
returns-clause-behind c =
    let end = c.args.at + c.args.len in
    let fill = Fill c.in_ok-name.name c.args.at c.args.len c.args.byte in
    on_ok c.push.result (λ is. subst (λ l. EndsBy end (of_file c.args.name.now l)) (sym is)
    (ends_behind c.args.name.now c.args.plan.now.changes fill c.in_ok-name.ensures c.args.at end c.requires.apart (omega arith)
    (fill_from c.in_ok-name.name c.args.at c.args.len c.args.byte))) c.push.ensures.ok

pub returns-clause-size : goal.returns-clause-size
returns-clause-size c =
    let short = store_name_short c.args.name.now c.requires.allowed.store in
    let fill = Fill c.in_ok-name.name c.args.at c.args.len c.args.byte in
    on_ok c.push.result (λ is. omega (arith, short, ap length c.in_ok-name.ensures, ap body_size is, size_push c.args.plan.now.changes fill))
    c.push.ensures.ok
