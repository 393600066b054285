use Rattle.std.proofs.Common.{sym, ap, ◌∙◌}
use Rattle.std.specs.Prelude.{decimal}
use Rattle.vbm_script.proofs.Forms.{behind_first, not_true}
use Rattle.vbm_script.proofs.Marks.{slot_parts}
use Rattle.vbm_ports.specs.Names.{is_short_name}
use Rattle.vbm_script.proofs.places.slot.Goals as goal

pub returns-in_default : goal.returns-in_default
returns-in_default c = λ vm port place.
    let k = slot_parts c.args.word.now c.split.result.0.now c.split.result.1.now vm port c.split.ensures place in
    c.in_default.ensures (decimal port) k.1

pub returns-then-not-names_machine : goal.returns-then-not-names_machine
returns-then-not-names_machine c = λ vm port place.
    let k = slot_parts c.args.word.now c.split.result.0.now c.split.result.1.now vm port c.split.ensures place in
    not_true c.if-not-names_machine.true (c.names_machine.ensures ∙ ap is_short_name k.0 ∙ k.2)

pub returns-in_default-port : goal.returns-in_default-port
returns-in_default-port c = λ vm port place.
    let k = slot_parts c.args.word.now c.split.result.0.now c.split.result.1.now vm port c.split.ensures place in
    c.in_default-port.ensures port (record { spelled = behind_first (sym c.in-Some.ensures ∙ k.1); is_port = k.3 })
