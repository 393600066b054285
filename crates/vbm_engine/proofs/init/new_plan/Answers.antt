use Rattle.std.proofs.Common.{sym, subst}
use Rattle.vbm_ids.specs.Identifier.{IsSeed}
use Rattle.vbm_store.specs.Serves.{IsWritable}
use Rattle.vbm_engine.proofs.Making.{empty_writable}
use Rattle.vbm_engine.proofs.init.new_plan.Goals as goal

pub plan_library-requires-clause-library : goal.plan_library-requires-clause-library
plan_library-requires-clause-library c =
    subst IsWritable (sym c.empty_library-library.ensures)
    (empty_writable c.seed_of.result (subst IsSeed (sym c.seed_of.ensures.value) c.seed_of.ensures.seed))
