-- Which commands leave the world and its unsettled sectors as they are, and which settle all sectors.
use Rattle.std.proofs.Common.{◌≡◌, ℕ, ◌*◌, ◌^◌, Bool, true, false, not, List, [], ◌∷◌, length, Option, Some, None, Result, refl, sym, ◌∙◌, IsTrue}
use Rattle.std.proofs.lemmas.Bool.{cond_both}
use Rattle.vbm_world.specs.declared.command.Command.{Command}
use Rattle.vbm_world.specs.declared.command.Command.TheVariants.{CreateMedium, OpenMedium, CloseMedium, SetMode, SetAutoreset, Compact, Resize, CloneNew, CloneExisting, ImportChain, ShowMediumInfo, Usage, ListHdds, ListVms, CreateVm, UnregisterVm, Attach, Detach, StartVm, PowerOff, Take, Restore, RestoreCurrent, DeleteSnapshot, ListSnapshots, Read, Write, Fill, Flush}
use Rattle.vbm_world.specs.declared.command.Refusal.{Refusal}
use Rattle.vbm_world.specs.declared.world.WorldMachine.{WorldMachine}
use Rattle.vbm_world.specs.declared.world.WorldSnapshot.{WorldSnapshot}
use Rattle.vbm_world.specs.declared.world.Shelved.{Shelved}
use Rattle.vbm_world.specs.declared.world.Shelved.TheVariants.{Volume, Link, Bad}
use Rattle.vbm_named.specs.Names.{Name}
use Rattle.vbm_world.specs.World.{World, medium_of}
use Rattle.vbm_world.specs.Places.{machine_of, snapshot_of, current_of, slot_at, find_place}
use Rattle.vbm_world.specs.declared.command.Refusal.TheVariants.{Running, NotRunning, NoCurrent}
use Rattle.vbm_world.specs.Refusals.{Check, capacity_of}
use Rattle.vbm_world.specs.Outcomes.{Outcome, refused, unless_refused, found_or, sought_or}
use Rattle.vbm_world.specs.Media.{opened, create_checks, open_checks, close_checks, mode_checks}
use Rattle.vbm_world.specs.Machines.{create_vm_checks, unregister_checks, start_checks}
use Rattle.vbm_world.specs.Slots.{attach_checks, detach_checks, autoreset_checks}
use Rattle.vbm_world.specs.Guests.{read_checks, write_checks, sectors_in, filled}
use Rattle.vbm_world.specs.Snapshots.{restored_to, take_checks, restore_checks, delete_checks}
use Rattle.vbm_world.specs.Clones.{clone_checks, overwrite_checks, import_checks}
use Rattle.vbm_world.specs.Shapes.{compact_checks, resize_checks}
use Rattle.vbm_world.specs.Step.{step_of}
use Rattle.vbm_world.specs.Loose.{Unsettled, all_settled, is_refused, left_unsettled, unsettled_after}
use Rattle.vbm_world.proofs.Keeping.{unless, found, sought}
use Rattle.vbm_world.proofs.Numbers.{same_refused}

-- ---- kinds of commands

-- asks, and changes nothing
abbrev pub is_asking : Command → Bool
is_asking (ShowMediumInfo name) = true
is_asking ListHdds = true
is_asking ListVms = true
is_asking (ListSnapshots vm) = true
is_asking (Read vm port lba count) = true
is_asking command = false

-- changes disks as a guest, or settles what one wrote
abbrev pub is_of_guest : Command → Bool
is_of_guest (Write vm port lba bytes) = true
is_of_guest (Fill vm port lba count byte) = true
is_of_guest (Flush vm) = true
is_of_guest command = false

-- ---- refused commands

-- a refused outcome has the world that was
record Stays (w : World) (outcome : Outcome) : Type 0 where
  same : is_refused outcome.0 ≡ true → outcome.1 ≡ w

refused_same : (w : World) (refusal : Refusal) → Stays w (refused w refusal)
refused_same w refusal = record { same = λ _. refl }

accepted : (w : World) (outcome : Outcome) → is_refused outcome.0 ≡ false → Stays w outcome
accepted w outcome ok = record { same = λ is. let clash : true ≡ false = sym is ∙ ok in absurd cc }

checked : (w : World) (checks : List Check) (outcome : Outcome) → is_refused outcome.0 ≡ false → Stays w (unless_refused w checks outcome)
checked w checks outcome ok = unless (Stays w) w checks outcome (refused_same w) (λ pass. accepted w outcome ok)

looked_up : {X : Type 0} (w : World) (refusal : Refusal) (o : Option X) (outcome : X → Outcome) → ((x : X) → Stays w (outcome x))
    → Stays w (found_or w refusal o outcome)
looked_up w refusal o outcome each = found (Stays w) w refusal o outcome (refused_same w refusal) (λ x is. each x)

looked_for : {X : Type 0} (w : World) (o : Result X Refusal) (outcome : X → Outcome) → ((x : X) → Stays w (outcome x))
    → Stays w (sought_or w o outcome)
looked_for w o outcome each = sought (Stays w) w o outcome (refused_same w) (λ x is. each x)

opened_accepted : (w : World) (name : Name) (o : Option Shelved) → is_refused (opened w name o).0 ≡ false
opened_accepted w name (Some (Volume v)) = refl
opened_accepted w name (Some (Link l)) = refl
opened_accepted w name (Some (Bad k)) = refl
opened_accepted w name None = refl

restored_same : (w : World) (m : WorldMachine) (o : Option WorldSnapshot) → Stays w (restored_to w m o)
restored_same w m None = unless (Stays w) w ((m.running, Running) ∷ []) _ (refused_same w) (λ pass. refused_same w NoCurrent)
restored_same w m (Some s) = checked w (restore_checks w m s) _ refl

step_same : (w : World) (command : Command) (n : ℕ) → Stays w (step_of w command n)
step_same w (CreateMedium name size variant) n = checked w (create_checks w name (capacity_of size)) _ refl
step_same w (OpenMedium name) n = checked w (open_checks w name) _ (opened_accepted w name (w.shelf name))
step_same w (CloseMedium name delete) n = looked_up w _ (medium_of w name) _ (λ m. checked w (close_checks w name) _ refl)
step_same w (SetMode name mode) n = looked_up w _ (medium_of w name) _ (λ m. checked w (mode_checks w name) _ refl)
step_same w (SetAutoreset vm port on) n =
    looked_up w _ (machine_of w vm) _ (λ m. looked_up w _ (slot_at port m.slots) _ (λ s. checked w (autoreset_checks w m s) _ refl))
step_same w (Compact place) n = looked_for w (find_place w place) _ (λ p. checked w (compact_checks w p) _ refl)
step_same w (Resize name mb) n = looked_up w _ (medium_of w name) _ (λ m. checked w (resize_checks w m (mb * 2 ^ 20)) _ refl)
step_same w (CloneNew place name) n = looked_for w (find_place w place) _ (λ p. checked w (clone_checks w p name) _ refl)
step_same w (CloneExisting place target) n =
    looked_for w (find_place w place) _ (λ p. looked_up w _ (medium_of w target) _ (λ m. checked w (overwrite_checks w p m) _ refl))
step_same w (ImportChain files name) n = checked w (import_checks w files name) _ refl
step_same w (ShowMediumInfo name) n = looked_up w _ (medium_of w name) _ (λ m. accepted w _ refl)
step_same w (Usage place) n = looked_for w (find_place w place) _ (λ p. accepted w _ refl)
step_same w ListHdds n = accepted w _ refl
step_same w ListVms n = accepted w _ refl
step_same w (CreateVm name) n = checked w (create_vm_checks w name) _ refl
step_same w (UnregisterVm vm) n = looked_up w _ (machine_of w vm) _ (λ m. checked w (unregister_checks m) _ refl)
step_same w (Attach vm port name) n =
    looked_up w _ (machine_of w vm) _ (λ m. looked_up w _ (medium_of w name) _ (λ d. checked w (attach_checks w m port d) _ refl))
step_same w (Detach vm port) n =
    looked_up w _ (machine_of w vm) _ (λ m. looked_up w _ (slot_at port m.slots) _ (λ s. checked w (detach_checks w m s) _ refl))
step_same w (StartVm vm) n = looked_up w _ (machine_of w vm) _ (λ m. checked w (start_checks w m) _ refl)
step_same w (PowerOff vm) n = looked_up w _ (machine_of w vm) _ (λ m. checked w ((not m.running, NotRunning) ∷ []) _ refl)
step_same w (Take vm name) n = looked_up w _ (machine_of w vm) _ (λ m. checked w (take_checks w m name) _ refl)
step_same w (Restore vm snapshot) n =
    looked_up w _ (machine_of w vm) _ (λ m. looked_up w _ (snapshot_of m snapshot) _ (λ s. checked w (restore_checks w m s) _ refl))
step_same w (RestoreCurrent vm) n = looked_up w _ (machine_of w vm) _ (λ m. restored_same w m (current_of m))
step_same w (DeleteSnapshot vm snapshot) n =
    looked_up w _ (machine_of w vm) _ (λ m. looked_up w _ (snapshot_of m snapshot) _ (λ s. checked w (delete_checks w m s) _ refl))
step_same w (ListSnapshots vm) n = looked_up w _ (machine_of w vm) _ (λ m. accepted w _ refl)
step_same w (Read vm port lba count) n =
    looked_up w _ (machine_of w vm) _ (λ m. looked_up w _ (slot_at port m.slots) _ (λ s. checked w (read_checks w m s lba count) _ refl))
step_same w (Write vm port lba bytes) n =
    looked_up w _ (machine_of w vm) _ (λ m. looked_up w _ (slot_at port m.slots) _ (λ s. looked_up w _ (medium_of w s.medium) _ (λ d.
    checked w (write_checks w m s d lba (length (sectors_in bytes))) _ refl)))
step_same w (Fill vm port lba count byte) n =
    looked_up w _ (machine_of w vm) _ (λ m. looked_up w _ (slot_at port m.slots) _ (λ s. looked_up w _ (medium_of w s.medium) _ (λ d.
    checked w (write_checks w m s d lba (length (filled count byte))) _ refl)))
step_same w (Flush vm) n = looked_up w _ (machine_of w vm) _ (λ m. checked w ((not m.running, NotRunning) ∷ []) _ refl)

-- A refused command changes nothing, and leaves unsettled what was.
pub refused_stays : (u : Unsettled) (w : World) (command : Command) (n : ℕ) → is_refused (step_of w command n).0 ≡ true
    → ((step_of w command n).1 ≡ w) × (unsettled_after u w command ≡ u)
refused_stays u w command n is = (
  (step_same w command n).same is,
  cond_both (is_refused (step_of w command 0).0) u (left_unsettled u command) (λ after. after ≡ u) (λ e. refl)
      (λ e. let clash : true ≡ false = sym is ∙ same_refused w command n 0 ∙ e in absurd cc),
)

-- ---- asking commands

-- an outcome with the world that was
record Asks (w : World) (outcome : Outcome) : Type 0 where
  same : outcome.1 ≡ w

asked : {X : Type 0} (w : World) (refusal : Refusal) (o : Option X) (outcome : X → Outcome) → ((x : X) → Asks w (outcome x))
    → Asks w (found_or w refusal o outcome)
asked w refusal o outcome each = found (Asks w) w refusal o outcome (record { same = refl }) (λ x is. each x)

asks : (w : World) (command : Command) (n : ℕ) → IsTrue (is_asking command) → Asks w (step_of w command n)
asks w (ShowMediumInfo name) n is = asked w _ (medium_of w name) _ (λ m. record { same = refl })
asks w ListHdds n is = record { same = refl }
asks w ListVms n is = record { same = refl }
asks w (ListSnapshots vm) n is = asked w _ (machine_of w vm) _ (λ m. record { same = refl })
asks w (Read vm port lba count) n is = asked w _ (machine_of w vm) _ (λ m. asked w _ (slot_at port m.slots) _ (λ s.
    unless (Asks w) w (read_checks w m s lba count) _ (λ refusal. record { same = refl }) (λ pass. record { same = refl })))
asks w command n is = absurd cc

asks_settled : (u : Unsettled) (command : Command) → IsTrue (is_asking command) → left_unsettled u command ≡ u
asks_settled u (ShowMediumInfo name) is = refl
asks_settled u ListHdds is = refl
asks_settled u ListVms is = refl
asks_settled u (ListSnapshots vm) is = refl
asks_settled u (Read vm port lba count) is = refl
asks_settled u command is = absurd cc

-- An asking command changes nothing, and leaves unsettled what was.
pub asking : (u : Unsettled) (w : World) (command : Command) (n : ℕ) → IsTrue (is_asking command)
    → ((step_of w command n).1 ≡ w) × (unsettled_after u w command ≡ u)
asking u w command n is = (
  (asks w command n is).same,
  cond_both (is_refused (step_of w command 0).0) u (left_unsettled u command) (λ after. after ≡ u) (λ e. refl) (λ e. asks_settled u command is),
)

-- ---- managing commands

managing_left : (u : Unsettled) (command : Command) → is_asking command ≡ false → is_of_guest command ≡ false
    → left_unsettled u command ≡ all_settled
managing_left u (ShowMediumInfo name) ask guest = absurd cc
managing_left u ListHdds ask guest = absurd cc
managing_left u ListVms ask guest = absurd cc
managing_left u (ListSnapshots vm) ask guest = absurd cc
managing_left u (Read vm port lba count) ask guest = absurd cc
managing_left u (Write vm port lba bytes) ask guest = absurd cc
managing_left u (Fill vm port lba count byte) ask guest = absurd cc
managing_left u (Flush vm) ask guest = absurd cc
managing_left u command ask guest = refl

-- An accepted managing command, one that neither asks nor is a guest's, leaves nothing unsettled.
pub managing_settles : (u : Unsettled) (w : World) (command : Command) (n : ℕ) → is_asking command ≡ false → is_of_guest command ≡ false
    → is_refused (step_of w command n).0 ≡ false → unsettled_after u w command ≡ all_settled
managing_settles u w command n ask guest ok =
    cond_both (is_refused (step_of w command 0).0) u (left_unsettled u command) (λ after. after ≡ all_settled)
    (λ e. let clash : true ≡ false = sym e ∙ same_refused w command 0 n ∙ ok in absurd cc) (λ e. managing_left u command ask guest)
