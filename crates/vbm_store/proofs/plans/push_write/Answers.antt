use Rattle.std.proofs.Common.{length, sym, ap, subst, arith}
use Rattle.vbm_intent.specs.declared.change.Change.TheVariants.{Write}
use Rattle.vbm_intent.specs.Changes.{of_file}
use Rattle.vbm_intent.specs.Plan.{body_size}
use Rattle.vbm_ports.proofs.NameLemmas.{store_name_short}
use Rattle.vbm_store.specs.Plans.{EndsBy}
use Rattle.vbm_store.proofs.Pushing.{on_ok, size_push, apart_behind, ends_behind, write_from, none_ends}
use Rattle.vbm_store.proofs.plans.push_write.Goals as goal

pub push-requires-clause-apart : goal.push-requires-clause-apart
push-requires-clause-apart c =
    let write = Write c.in_ok-name.name 0 c.args.bytes in
    apart_behind c.args.name.now c.args.plan.now.changes write c.in_ok-name.ensures 0 (none_ends (of_file c.args.name.now c.args.plan.now.changes) c.requires.apart)
    (λ i t. omega arith)

pub push-requires-clause-small : goal.push-requires-clause-small
push-requires-clause-small c =
    let short = store_name_short c.args.name.now c.requires.allowed.store in
    omega (arith, c.requires.small, c.requires.bytes, short, ap length c.in_ok-name.ensures)

pub returns-clause-behind : goal.returns-clause-behind
returns-clause-behind c =
    let end = length c.args.bytes in
    let write = Write c.in_ok-name.name 0 c.args.bytes in
    on_ok c.push.result (λ is. subst (λ l. EndsBy end (of_file c.args.name.now l)) (sym is)
    (ends_behind c.args.name.now c.args.plan.now.changes write c.in_ok-name.ensures 0 end (none_ends (of_file c.args.name.now c.args.plan.now.changes) c.requires.apart)
    (omega arith) (λ i t. (omega arith, omega (arith, (write_from c.in_ok-name.name 0 c.args.bytes i t).1))))) c.push.ensures.ok

pub returns-clause-size : goal.returns-clause-size
returns-clause-size c =
    let short = store_name_short c.args.name.now c.requires.allowed.store in
    let write = Write c.in_ok-name.name 0 c.args.bytes in
    on_ok c.push.result (λ is. omega (arith, short, ap length c.in_ok-name.ensures, ap body_size is, size_push c.args.plan.now.changes write))
    c.push.ensures.ok
