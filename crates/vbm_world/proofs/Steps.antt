-- A step leads from a sound world to a sound one.
use Rattle.std.proofs.Common.{◌≡◌, ℕ, ◌≤◌, List, length, Result, Ok, Err, sym, ap, subst}
use Rattle.std.specs.Prelude.{IfOk}
use Rattle.vbm_world.specs.declared.command.Command.{Command}
use Rattle.vbm_world.specs.declared.command.Command.TheVariants.{CreateMedium, OpenMedium, CloseMedium, SetMode, SetAutoreset, Compact, Resize, CloneNew, CloneExisting, ImportChain, ShowMediumInfo, Usage, ListHdds, ListVms, CreateVm, UnregisterVm, Attach, Detach, StartVm, PowerOff, Take, Restore, RestoreCurrent, DeleteSnapshot, ListSnapshots, Read, Write, Fill, Flush}
use Rattle.vbm_world.specs.declared.limits.TheConstants.{CHAIN_LIMIT}
use Rattle.vbm_world.specs.declared.command.Answer.{Answer}
use Rattle.vbm_world.specs.declared.command.Refusal.TheVariants.{NoSuchMedium, NoSuchMachine}
use Rattle.vbm_world.specs.declared.world.World.{World as Shown}
use Rattle.vbm_named.specs.Names.{Name}
use Rattle.vbm_world.specs.World.{World, medium_of}
use Rattle.vbm_world.specs.Places.{machine_of}
use Rattle.vbm_world.specs.Refusals.{capacity_of}
use Rattle.vbm_world.specs.Outcomes.{Outcome}
use Rattle.vbm_world.specs.Guests.{sectors_in, filled}
use Rattle.vbm_world.specs.Step.{step_of}
use Rattle.vbm_world.specs.Texts.{IsSpelled}
use Rattle.vbm_world.specs.Seen.{seen, outcome_of}
use Rattle.vbm_world.specs.Sound.{IsSound}
use Rattle.vbm_world.proofs.Keeping.{LeadsToSound, found}
use Rattle.vbm_world.proofs.MediaKeep.{create_keeps, open_keeps, close_keeps}
use Rattle.vbm_world.proofs.ModesKeep.{set_mode_keeps}
use Rattle.vbm_world.proofs.MachinesKeep.{create_vm_keeps, unregister_vm_keeps, start_vm_keeps, power_off_keeps}
use Rattle.vbm_world.proofs.SlotsKeep.{attach_keeps, detach_keeps, autoreset_keeps}
use Rattle.vbm_world.proofs.GuestsKeep.{read_keeps, write_keeps, flush_keeps}
use Rattle.vbm_world.proofs.TakingKeep.{take_keeps}
use Rattle.vbm_world.proofs.SnapshotsKeep.{restore_keeps, restore_current_keeps}
use Rattle.vbm_world.proofs.DeletingKeep.{delete_keeps}
use Rattle.vbm_world.proofs.ClonesKeep.{clone_new_keeps, clone_existing_keeps}
use Rattle.vbm_world.proofs.ImportKeep.{import_keeps}
use Rattle.vbm_world.proofs.ShapesKeep.{compact_keeps, resize_keeps, usage_keeps}

pub step_keeps : (w : World) → IsSound w → (command : Command) → IsSpelled command → (number : ℕ) → IsSound (step_of w command number).1
step_keeps w ok (CreateMedium name size variant) spelled number = create_keeps w ok name spelled.0 (capacity_of size) variant
step_keeps w ok (OpenMedium name) spelled number = open_keeps w ok name spelled
step_keeps w ok (CloseMedium name delete) spelled number = close_keeps w ok name spelled delete
step_keeps w ok (SetMode name mode) spelled number = set_mode_keeps w ok name mode
step_keeps w ok (SetAutoreset vm port on) spelled number = autoreset_keeps w ok vm port on
step_keeps w ok (Compact place) spelled number = compact_keeps w ok place
step_keeps w ok (Resize name mb) spelled number = resize_keeps w ok name mb
step_keeps w ok (CloneNew place name) spelled number = clone_new_keeps w ok place name spelled.1
step_keeps w ok (CloneExisting place target) spelled number = clone_existing_keeps w ok place target
step_keeps w ok (ImportChain files name) spelled number = import_keeps w ok files name spelled.3
step_keeps w ok (ShowMediumInfo name) spelled number = found LeadsToSound w NoSuchMedium (medium_of w name) _ ok (λ m is. ok)
step_keeps w ok (Usage place) spelled number = usage_keeps w ok place number
step_keeps w ok ListHdds spelled number = ok
step_keeps w ok ListVms spelled number = ok
step_keeps w ok (CreateVm name) spelled number = create_vm_keeps w ok name
step_keeps w ok (UnregisterVm vm) spelled number = unregister_vm_keeps w ok vm
step_keeps w ok (Attach vm port name) spelled number = attach_keeps w ok vm port spelled.1 name
step_keeps w ok (Detach vm port) spelled number = detach_keeps w ok vm port
step_keeps w ok (StartVm vm) spelled number = start_vm_keeps w ok vm
step_keeps w ok (PowerOff vm) spelled number = power_off_keeps w ok vm
step_keeps w ok (Take vm name) spelled number = take_keeps w ok vm name
step_keeps w ok (Restore vm snapshot) spelled number = restore_keeps w ok vm snapshot
step_keeps w ok (RestoreCurrent vm) spelled number = restore_current_keeps w ok vm
step_keeps w ok (DeleteSnapshot vm snapshot) spelled number = delete_keeps w ok vm snapshot
step_keeps w ok (ListSnapshots vm) spelled number = found LeadsToSound w NoSuchMachine (machine_of w vm) _ ok (λ m is. ok)
step_keeps w ok (Read vm port lba count) spelled number = read_keeps w ok vm port lba count
step_keeps w ok (Write vm port lba bytes) spelled number = write_keeps w ok vm port lba (sectors_in bytes)
step_keeps w ok (Fill vm port lba count byte) spelled number = write_keeps w ok vm port lba (filled count byte)
step_keeps w ok (Flush vm) spelled number = flush_keeps w ok vm

-- and so does the result of a step
pub sound_after : {E : Type 0} (w : World) (command : Command) (r : Result (Shown × Answer) E) → IsSound w → IsSpelled command
    → IfOk r (λ (r : Shown × Answer). outcome_of r ≡ step_of w command 0) → IfOk r (λ (r : Shown × Answer). IsSound (seen r.0))
sound_after w command (Ok r) sound spelled is = subst IsSound (sym (ap (λ (o : Outcome). o.1) is)) (step_keeps w sound command spelled 0)
sound_after w command (Err e) sound spelled is = tt

-- the result of a step is that of the command that it is
pub of_command : {E : Type 0} (w : World) (command other : Command) (r : Result (Shown × Answer) E) → command ≡ other
    → IfOk r (λ (r : Shown × Answer). outcome_of r ≡ step_of w other 0) → IfOk r (λ (r : Shown × Answer). outcome_of r ≡ step_of w command 0)
of_command w command other r is = subst (λ c. IfOk r (λ (r : Shown × Answer). outcome_of r ≡ step_of w c 0)) (sym is)

-- what is made of an outcome
pub ok_ap : {E X : Type 0} (r : Result (Shown × Answer) E) (outcome : Outcome) (f : Outcome → X)
    → IfOk r (λ (r : Shown × Answer). outcome_of r ≡ outcome) → IfOk r (λ (r : Shown × Answer). f (outcome_of r) ≡ f outcome)
ok_ap (Ok r) outcome f is = ap f is
ok_ap (Err e) outcome f is = tt

-- no form of `importchain` has more files
pub few_files : (command : Command) → IsSpelled command → (files : List Name) (name : Name) → command ≡ ImportChain files name
    → length files ≤ CHAIN_LIMIT
few_files command spelled files name is =
    let known : IsSpelled (ImportChain files name) = subst IsSpelled is spelled in known.1
