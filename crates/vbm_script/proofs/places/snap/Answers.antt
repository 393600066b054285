use Rattle.std.proofs.Common.{sym, ap, subst, ◌∙◌}
use Rattle.vbm_ports.specs.Names.{is_short_name}
use Rattle.vbm_world.specs.declared.command.PlaceName.TheVariants.{Slot}
use Rattle.vbm_world.specs.Texts.{place_text}
use Rattle.vbm_script.specs.Places.{IsPlace}
use Rattle.vbm_script.proofs.Forms.{behind_first, not_true}
use Rattle.vbm_script.proofs.Marks.{snap_parts}
use Rattle.vbm_script.proofs.places.snap.Goals as goal

pub returns-in_default : goal.returns-in_default
returns-in_default c = λ vm snapshot port place.
    let k = snap_parts c.args.word.now c.split.result.0.now c.split.result.1.now vm snapshot port c.split.ensures place in
    c.in_default.ensures (place_text (Slot snapshot port)) k.1

pub returns-then-not-names_machine : goal.returns-then-not-names_machine
returns-then-not-names_machine c = λ vm snapshot port place.
    let k = snap_parts c.args.word.now c.split.result.0.now c.split.result.1.now vm snapshot port c.split.ensures place in
    not_true c.if-not-names_machine.true (c.names_machine.ensures ∙ ap is_short_name k.0 ∙ k.2)

pub returns-in_default-slot : goal.returns-in_default-slot
returns-in_default-slot c = λ vm snapshot port place.
    let k = snap_parts c.args.word.now c.split.result.0.now c.split.result.1.now vm snapshot port c.split.ensures place in
    c.in_default-slot.ensures snapshot port
    (subst (λ text. IsPlace text (Slot snapshot port)) (sym (behind_first (sym c.in-Some.ensures ∙ k.1))) k.3)
