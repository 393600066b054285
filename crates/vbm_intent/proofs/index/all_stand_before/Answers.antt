use Rattle.vbm_intent.specs.Index.{StandsBefore}
use Rattle.vbm_intent.proofs.Members.{chain_end, chain_pairs}
use Rattle.vbm_intent.proofs.Indexed.{stands_on}
use Rattle.vbm_intent.proofs.index.all_stand_before.Goals as goal

pub returns : goal.returns
returns c = λ hit.
    chain_pairs (StandsBefore c.args.body.now) c.args.index.now (λ x y z is. stands_on c.args.body.now x y z)
    (c.loop-entry.invariant (chain_end (StandsBefore c.args.body.now) c.loop-entry.before.now c.loop-entry.rest.now c.in_default-split_first.ensures.cases))
