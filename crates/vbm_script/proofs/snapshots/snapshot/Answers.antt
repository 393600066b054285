use Rattle.std.proofs.Common.{◌∷◌, ap}
use Rattle.std.specs.Prelude.{codes}
use Rattle.vbm_world.specs.declared.command.Command.TheVariants.{Take, Restore, RestoreCurrent, DeleteSnapshot, ListSnapshots}
use Rattle.vbm_world.specs.Texts.{IsForm}
use Rattle.vbm_script.proofs.Forms.{wanting}
use Rattle.vbm_script.proofs.snapshots.snapshot.Goals as goal

pub returns-in_err-vm : goal.returns-in_err-vm
returns-in_err-vm c =
    let found = c.in-Some.ensures in
    wanting (IsForm (codes "snapshot" ∷ c.args.tail.now)) (Take c.in-Some.vm.now c.in-Some.name.now) c.in_err-vm.field-0.0 c.from_residual.result
    (record { is = ap (λ tail. codes "snapshot" ∷ tail) found.0; spelled = (found.1, found.2) }) c.in_err-vm.ensures c.from_residual.ensures.1

pub returns-in_err-vm-2 : goal.returns-in_err-vm-2
returns-in_err-vm-2 c =
    let in' = c.in-Some-of_snapshot in
    let found = c.in-Some-of_snapshot.ensures in
    wanting (IsForm (codes "snapshot" ∷ c.args.tail.now)) (Restore in'.vm.now in'.name.now) c.in_err-vm-2.field-0.0
    c.from_residual-in_err-vm-2.result
    (record { is = ap (λ tail. codes "snapshot" ∷ tail) found.0; spelled = (found.1, found.2) }) c.in_err-vm-2.ensures
    c.from_residual-in_err-vm-2.ensures.1

pub returns-in_err-vm-3 : goal.returns-in_err-vm-3
returns-in_err-vm-3 c =
    let in' = c.in-Some-of_snapshot-2 in
    let found = c.in-Some-of_snapshot-2.ensures in
    wanting (IsForm (codes "snapshot" ∷ c.args.tail.now)) (DeleteSnapshot in'.vm.now in'.name.now) c.in_err-vm-3.field-0.0
    c.from_residual-in_err-vm-3.result
    (record { is = ap (λ tail. codes "snapshot" ∷ tail) found.0; spelled = (found.1, found.2) }) c.in_err-vm-3.ensures
    c.from_residual-in_err-vm-3.ensures.1

pub returns-in_err-copy : goal.returns-in_err-copy
returns-in_err-copy c =
    let found = c.in-Some-of_machine.ensures in
    wanting (IsForm (codes "snapshot" ∷ c.args.tail.now)) (RestoreCurrent c.in-Some-of_machine.vm.now) c.in_err-copy.field-0.0
    c.from_residual-in_err-copy.result
    (record { is = ap (λ tail. codes "snapshot" ∷ tail) found.0; spelled = found.1 }) c.in_err-copy.ensures c.from_residual-in_err-copy.ensures.1

pub returns-in_err-copy-2 : goal.returns-in_err-copy-2
returns-in_err-copy-2 c =
    let found = c.in-Some-of_machine-2.ensures in
    wanting (IsForm (codes "snapshot" ∷ c.args.tail.now)) (ListSnapshots c.in-Some-of_machine-2.vm.now) c.in_err-copy-2.field-0.0
    c.from_residual-in_err-copy-2.result
    (record { is = ap (λ tail. codes "snapshot" ∷ tail) found.0; spelled = found.1 }) c.in_err-copy-2.ensures
    c.from_residual-in_err-copy-2.ensures.1
