use Rattle.std.proofs.Common.{sym, ap, subst, ◌∙◌}
use Rattle.vbm_store.specs.Plans.{library_changes}
use Rattle.vbm_store.specs.Serves.{IsWritable}
use Rattle.vbm_slots.proofs.OtherModes.{set_writable, set_images, sets}
use Rattle.vbm_slots.proofs.modes.plan_mode.Goals as goal

pub library_plan-requires : goal.library_plan-requires
library_plan-requires c = record {
  library = subst IsWritable (sym c.in_ok-library.ensures)
      (set_writable c.args.store.now c.args.name.now c.args.mode c.requires.sound c.requires.can c.requires.shared);
}

pub returns-clause-plans : goal.returns-clause-plans
returns-clause-plans c files holds log =
    sets c.args.store.now c.args.name.now c.args.mode c.requires.sound c.requires.can c.requires.shared files holds log c.in_ok-library.library
    c.in_ok-plan.plan.changes c.in_ok-library.ensures (c.in_ok-plan.ensures ∙ ap library_changes c.in_ok-library.ensures)

pub returns-clause-sound : goal.returns-clause-sound
returns-clause-sound c =
    let e = c.args.store.now in
    rw c.in_ok-library.ensures (
      set_writable e c.args.name.now c.args.mode c.requires.sound c.requires.can c.requires.shared,
      c.requires.sound.images ∙ sym (set_images e c.args.name.now c.args.mode c.requires.sound c.requires.can c.requires.shared),
      tt,
    )
