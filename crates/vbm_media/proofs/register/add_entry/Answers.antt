use Rattle.std.proofs.Common.{List, ℕ, sym, ap, subst, ◌∙◌}
use Rattle.vbm_registry.specs.Renumbered.{with_medium_entry}
use Rattle.vbm_store.specs.Plans.{library_changes}
use Rattle.vbm_store.specs.Serves.{IsWritable}
use Rattle.vbm_media.specs.Creates.{new_entry}
use Rattle.vbm_media.proofs.register.add_entry.Goals as goal

pub library_plan-requires : goal.library_plan-requires
library_plan-requires c = record {
  library = subst IsWritable
      (sym (c.in_ok-library.ensures ∙ ap (λ (name : List ℕ). with_medium_entry c.args.store.now.library (new_entry name)) c.bytes.ensures)) c.requires.grown;
}

pub returns-clause-library : goal.returns-clause-library
returns-clause-library c =
    c.in_ok-library.ensures ∙ ap (λ (name : List ℕ). with_medium_entry c.args.store.now.library (new_entry name)) c.bytes.ensures

pub returns-clause-plan : goal.returns-clause-plan
returns-clause-plan c =
    c.in_ok-plan.ensures
    ∙ ap library_changes
    (c.in_ok-library.ensures ∙ ap (λ (name : List ℕ). with_medium_entry c.args.store.now.library (new_entry name)) c.bytes.ensures)
