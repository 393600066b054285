-- Machines do not touch each other's sectors, but on a medium whose disk both share.
use Rattle.std.proofs.Common.{◌≡◌, ℕ, ◌+◌, ◌==◌, ◌&&◌, Bool, true, false, cond, List, [], ◌∷◌, length, map, Option, Some, None, refl, sym, ap, ◌∙◌, is_none, if◌then◌else◌, eqb-true}
use Rattle.std.specs.Option.{option_map, option_and_then}
use Rattle.std.specs.Str.{bytes_eq}
use Rattle.std.proofs.lemmas.Bool.{cond_both}
use Rattle.vbm_volume.specs.Sectors.{FlatDisk}
use Rattle.vbm_world.specs.declared.command.PlaceName.TheVariants.{Slot}
use Rattle.vbm_world.specs.declared.command.Refusal.TheVariants.{NoSuchMedium, NoSuchMachine, NoSuchSlot}
use Rattle.vbm_world.specs.declared.world.WorldMedium.{WorldMedium}
use Rattle.vbm_world.specs.declared.world.WorldSlot.{WorldSlot}
use Rattle.vbm_world.specs.declared.world.WorldMachine.{WorldMachine}
use Rattle.vbm_named.specs.Names.{Name, is_named, find_by}
use Rattle.vbm_world.specs.World.{World, medium_name, machine_name, medium_of, is_direct}
use Rattle.vbm_world.specs.Places.{machine_of, slot_at, own_or_medium, slot_disk, disk_at, disk_of, with_medium, with_machine, with_slot}
use Rattle.vbm_world.specs.Outcomes.{Outcome}
use Rattle.vbm_world.specs.Guests.{disk_in, with_sectors, written_medium, write_checks, write_sectors}
use Rattle.vbm_named.proofs.Lists.{same_name, name_refl, find_named, find_map}
use Rattle.vbm_world.proofs.Keeping.{unless, found}
use Rattle.vbm_world.proofs.Changing.{by_own_name}
use Rattle.vbm_world.proofs.GuestsKeep.{slot_port}

-- the slot of a machine at a port
abbrev pub slot_in : World → (vm : Name) → ℕ → Option WorldSlot
slot_in w vm port = option_and_then (λ (m : WorldMachine). slot_at port m.slots) (machine_of w vm)

-- two slots that share the disk of one medium
abbrev pub is_sharing : Option WorldSlot → Option WorldSlot → Bool
is_sharing (Some s) (Some t) = is_direct s && (is_direct t && bytes_eq t.medium s.medium)
is_sharing (Some s) None = false
is_sharing None (Some t) = false
is_sharing None None = false

-- ---- what is found where others change

module _ {X : Type 0} (nx : X → Name) (g : X → X) (keeps : (x : X) → nx (g x) ≡ nx x) where
  pub find_untouched : (name : Name) → ((x : X) → nx x ≡ name → g x ≡ x) → (xs : List X) → find_by nx name (map g xs) ≡ find_by nx name xs
  find_untouched name same xs = find_map g nx nx keeps name xs ∙
      (elim (find_by nx name xs) as (λ o. find_by nx name xs ≡ o → option_map g o ≡ o) [
        | None ↦ λ is. refl
        | Some x ↦ λ is. ap (λ (y : X). Some y) (same x (same_name (nx x) name (find_named nx name x xs is)))
      ] refl)

-- a slot keeps its place where one at another port changes
pub slot_at_other : (port p : ℕ) (f : WorldSlot → WorldSlot) → ((t : WorldSlot) → (f t).port ≡ t.port) → (port == p) ≡ false
    → (slots : List WorldSlot) → slot_at p (with_slot port f slots) ≡ slot_at p slots
slot_at_other port p f keeps apart [] = refl
slot_at_other port p f keeps apart (t ∷ slots) = elim (t.port == port) as (λ b. (t.port == port) ≡ b
    → cond ((cond b (f t) t).port == p) (Some (cond b (f t) t)) (slot_at p (with_slot port f slots))
    ≡ cond (t.port == p) (Some t) (slot_at p slots)) [
      | true ↦ λ e.
          let at : t.port ≡ port = eqb-true t.port port e in
          let new : ((f t).port == p) ≡ false = ap (λ (n : ℕ). n == p) (keeps t ∙ at) ∙ apart in
          let old : (t.port == p) ≡ false = ap (λ (n : ℕ). n == p) at ∙ apart in
          rw (new, old) (slot_at_other port p f keeps apart slots)
      | false ↦ λ e. ap (λ (o : Option WorldSlot). cond (t.port == p) (Some t) o) (slot_at_other port p f keeps apart slots)
    ] refl

-- ---- a machine in the place of that of its name

module _ (w : World) (m new : WorldMachine) (same : new.name ≡ m.name) (is : machine_of w m.name ≡ Some m) where
  abbrev in_its_place : WorldMachine → WorldMachine
  in_its_place x = cond (is_named machine_name new.name x) new x

  place_named : (x : WorldMachine) → (in_its_place x).name ≡ x.name
  place_named x = cond_both (is_named machine_name new.name x) new x (λ (y : WorldMachine). y.name ≡ x.name)
      (λ e. sym (same_name x.name new.name e)) (λ e. refl)

  pub other_machine : (other : Name) → bytes_eq other new.name ≡ false → machine_of (with_machine w new 0) other ≡ machine_of w other
  other_machine other apart = find_untouched machine_name in_its_place place_named other
      (λ x at. let none : bytes_eq x.name new.name ≡ false = ap (λ (n : Name). bytes_eq n new.name) at ∙ apart in rw none refl) w.machines

  pub machine_in_place : machine_of (with_machine w new 0) m.name ≡ Some new
  machine_in_place = find_map in_its_place machine_name machine_name place_named m.name w.machines ∙ ap (option_map in_its_place) is
      ∙ (let here : bytes_eq m.name new.name ≡ true = ap (λ (n : Name). bytes_eq m.name n) same ∙ name_refl m.name in rw here refl)

-- ---- a write at a slot, and the disk of another

module _ (w : World) (m : WorldMachine) (s : WorldSlot) (medium : WorldMedium) (disk : FlatDisk) (other : Name) (p : ℕ) where
  abbrev Same : World → Type 0
  Same v = disk_of v (Slot other p) ≡ disk_of w (Slot other p)

  module _ (next : ℕ) (name : medium.name ≡ s.medium) where
    abbrev with_disk : World
    with_disk = record (with_medium w medium.name (written_medium w disk)) { next = next }

    medium_same : (n : Name) → bytes_eq n s.medium ≡ false → medium_of with_disk n ≡ medium_of w n
    medium_same n apart = find_untouched medium_name
        (λ (x : WorldMedium). cond (is_named medium_name medium.name x) (written_medium w disk x) x)
        (λ x. cond_both (is_named medium_name medium.name x) (written_medium w disk x) x (λ (y : WorldMedium). y.name ≡ x.name)
        (λ e. refl) (λ e. refl))
        n (λ x at.
        let no : bytes_eq x.name medium.name ≡ false = (λ i. bytes_eq (at i) (name i)) ∙ apart in rw no refl) w.media

    disk_same : (own : Option FlatDisk) (n : Name) → (is_none own && bytes_eq n s.medium) ≡ false
        → own_or_medium with_disk n own ≡ own_or_medium w n own
    disk_same (Some own) n apart = refl
    disk_same None n apart = ap (option_and_then (λ (d : WorldMedium). d.flat)) (medium_same n apart)

    slot_same : (o : Option WorldSlot) → is_direct s ≡ true → is_sharing (Some s) o ≡ false
        → option_and_then (slot_disk with_disk) o ≡ option_and_then (slot_disk w) o
    slot_same None direct apart = refl
    slot_same (Some t) direct apart = disk_same t.own t.medium (rw direct at apart)

    machine_same : (o : Option WorldMachine) → is_direct s ≡ true
        → is_sharing (Some s) (option_and_then (λ (n : WorldMachine). slot_at p n.slots) o) ≡ false
        → option_and_then (λ (n : WorldMachine). disk_at with_disk p n.slots) o ≡ option_and_then (λ (n : WorldMachine). disk_at w p n.slots) o
    machine_same None direct apart = refl
    machine_same (Some n) direct apart = slot_same (slot_at p n.slots) direct apart

    medium_apart : is_direct s ≡ true → is_sharing (Some s) (slot_in w other p) ≡ false → Same with_disk
    medium_apart direct apart = machine_same (machine_of w other) direct apart

  module _ (is : machine_of w m.name ≡ Some m) where
    abbrev new_slot : WorldSlot → WorldSlot
    new_slot t = record t { own = Some disk }

    abbrev new_machine : WorldMachine
    new_machine = record m { slots = with_slot s.port new_slot m.slots }

    own_apart : (bytes_eq other m.name && (s.port == p)) ≡ false → Same (with_machine w new_machine 0)
    own_apart apart = elim (bytes_eq other m.name) as (λ b.
        bytes_eq other m.name ≡ b → (b && (s.port == p)) ≡ false → Same (with_machine w new_machine 0)) [
          | true ↦ λ e ports.
              let at : other ≡ m.name = same_name other m.name e in
              ap (option_and_then (λ (n : WorldMachine). disk_at w p n.slots))
              (ap (machine_of (with_machine w new_machine 0)) at ∙ machine_in_place w m new_machine refl is)
              ∙ ap (option_and_then (slot_disk w)) (slot_at_other s.port p new_slot (λ t. refl) ports m.slots)
              ∙ sym (ap (λ (n : Name). option_and_then (λ (k : WorldMachine). disk_at w p k.slots) (machine_of w n)) at
              ∙ ap (option_and_then (λ (n : WorldMachine). disk_at w p n.slots)) is)
          | false ↦ λ e ports. ap (option_and_then (λ (n : WorldMachine). disk_at w p n.slots)) (other_machine w m new_machine refl is other e)
        ] refl apart

-- an outcome that leaves the disk of a slot as it was
abbrev Untouched : World → (other : Name) → ℕ → Outcome → Type 0
Untouched w other p outcome = disk_of outcome.1 (Slot other p) ≡ disk_of w (Slot other p)

-- A guest's write or fill leaves the disk of each other slot as it was, of its own machine or another, unless both share one medium's disk.
pub write_apart : (w : World) (vm : Name) (port lba : ℕ) (sectors : List (List ℕ)) (other : Name) (p : ℕ)
    → (bytes_eq other vm && (port == p)) ≡ false → is_sharing (slot_in w vm port) (slot_in w other p) ≡ false
    → disk_of (write_sectors w vm port lba sectors).1 (Slot other p) ≡ disk_of w (Slot other p)
write_apart w vm port lba sectors other p place sharing =
    found (Untouched w other p) w NoSuchMachine (machine_of w vm) _ refl (λ m is.
    found (Untouched w other p) w NoSuchSlot (slot_at port m.slots) _ refl (λ s at.
    found (Untouched w other p) w NoSuchMedium (medium_of w s.medium) _ refl (λ medium there.
    unless (Untouched w other p) w (write_checks w m s medium lba (length sectors)) _ (λ refusal. refl) (λ pass.
    let disk : FlatDisk = with_sectors (disk_in w s) lba sectors in
    let vm_is : m.name ≡ vm = same_name m.name vm (find_named machine_name vm m w.machines is) in
    let port_is : s.port ≡ port = slot_port port s m.slots at in
    let slot : slot_in w vm port ≡ Some s = ap (option_and_then (λ (k : WorldMachine). slot_at port k.slots)) is ∙ at in
    cond_both (is_direct s)
    (record (with_medium w medium.name (written_medium w disk)) { next = if medium.changed then w.next else w.next + 1 })
    (with_machine w (record m { slots = with_slot s.port (λ (t : WorldSlot). record t { own = Some disk }) m.slots }) 0)
    (λ (v : World). disk_of v (Slot other p) ≡ disk_of w (Slot other p))
    (λ direct. medium_apart w m s medium disk other p (if medium.changed then w.next else w.next + 1)
    (same_name medium.name s.medium (find_named medium_name s.medium medium w.media there)) direct
    (ap (λ (o : Option WorldSlot). is_sharing o (slot_in w other p)) (sym slot) ∙ sharing))
    (λ own. own_apart w m s medium disk other p (by_own_name w vm m is)
    ((λ i. bytes_eq other (vm_is i) && (port_is i == p)) ∙ place))))))
