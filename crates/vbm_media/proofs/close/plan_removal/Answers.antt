use Rattle.std.proofs.Common.{List, ℕ, sym, ap, subst, length, arith, IsTrue}
use Rattle.vbm_ports.specs.Names.{is_medium_name}
use Rattle.vbm_ports.proofs.NameLemmas.{store_name_short}
use Rattle.vbm_intent.specs.declared.change.Change.TheVariants.{Remove}
use Rattle.vbm_intent.specs.Plan.{body_size}
use Rattle.vbm_store.proofs.Pushing.{allowed, medium_store}
use Rattle.vbm_media.proofs.close.plan_removal.Goals as goal

pub push-requires-clause-allowed : goal.push-requires-clause-allowed
push-requires-clause-allowed c =
    allowed (Remove c.in_ok-name.name) (subst (λ (n : List ℕ). IsTrue (is_medium_name n)) (sym c.in_ok-name.ensures) c.requires.name) tt

pub push-requires-clause-small : goal.push-requires-clause-small
push-requires-clause-small c =
    let short = store_name_short c.args.name.now (medium_store c.args.name.now c.requires.name) in
    omega (arith, short, ap length c.in_ok-name.ensures, ap body_size c.new-plan.ensures)
