-- What a crash may leave of a machine: unsettled sectors, and worlds that differ in them alone.
--
-- A sector is unsettled where a guest wrote it since the last flush of its machine and the last accepted managing command.
use Rattle.std.specs.Prelude.{◌≡◌, ℕ, ◌+◌, ◌/◌, ◌==◌, ◌&&◌, ◌||◌, not, nat_le, nat_lt, Bool, true, false, if◌then◌else◌, List, [], ◌∷◌, length, slice_get, Option, Some, None, IsFalse}
use Rattle.std.specs.List.{list_any}
use Rattle.std.specs.Str.{bytes_eq}
use Rattle.vbm_volume.specs.Sectors.{FlatDisk}
use Rattle.vbm_world.specs.declared.command.Command.{Command}
use Rattle.vbm_world.specs.declared.command.Command.TheVariants.{CreateMedium, OpenMedium, CloseMedium, SetMode, SetAutoreset, Compact, Resize, CloneNew, CloneExisting, ImportChain, ShowMediumInfo, Usage, ListHdds, ListVms, CreateVm, UnregisterVm, Attach, Detach, StartVm, PowerOff, Take, Restore, RestoreCurrent, DeleteSnapshot, ListSnapshots, Read, Write, Fill, Flush}
use Rattle.vbm_world.specs.declared.command.Answer.{Answer}
use Rattle.vbm_world.specs.declared.command.Answer.TheVariants.{Done, Id, Info, Count, MediaList, VmList, SnapList, Sectors, Refused}
use Rattle.vbm_world.specs.declared.world.WorldMedium.{WorldMedium}
use Rattle.vbm_world.specs.declared.world.WorldSlot.{WorldSlot}
use Rattle.vbm_world.specs.declared.world.WorldMachine.{WorldMachine}
use Rattle.vbm_named.specs.Names.{Name}
use Rattle.vbm_world.specs.World.{World, is_direct}
use Rattle.vbm_world.specs.Step.{step_of}

-- the unsettled sectors, by machine, port and number
abbrev pub Unsettled : Type 0
Unsettled = Name → ℕ → ℕ → Bool

abbrev pub all_settled : Unsettled
all_settled = λ vm port sector. false

abbrev pub is_refused : Answer → Bool
is_refused (Refused refusal) = true
is_refused Done = false
is_refused (Id id) = false
is_refused (Info id modify mode variant capacity frozen) = false
is_refused (Count n) = false
is_refused (MediaList names) = false
is_refused (VmList lines) = false
is_refused (SnapList current lines) = false
is_refused (Sectors bytes) = false

-- with the sectors that a guest of a machine wrote
abbrev pub with_unsettled : Unsettled → (vm : Name) → (port lba count : ℕ) → Unsettled
with_unsettled u vm port lba count =
    λ name p sector. u name p sector || (bytes_eq name vm && p == port && nat_le lba sector && nat_lt sector (lba + count))

-- without those of a machine
abbrev pub without_machine : Unsettled → (vm : Name) → Unsettled
without_machine u vm = λ name port sector. not (bytes_eq name vm) && u name port sector

-- What an accepted command leaves unsettled. Guests write, and flush what their machine wrote; asking commands leave all as it was;
-- managing commands settle all.
abbrev pub left_unsettled : Unsettled → Command → Unsettled
left_unsettled u (Write vm port lba bytes) = with_unsettled u vm port lba (length bytes / 512)
left_unsettled u (Fill vm port lba count byte) = with_unsettled u vm port lba count
left_unsettled u (Flush vm) = without_machine u vm
left_unsettled u (Read vm port lba count) = u
left_unsettled u (ShowMediumInfo name) = u
left_unsettled u ListHdds = u
left_unsettled u ListVms = u
left_unsettled u (ListSnapshots vm) = u
left_unsettled u (CreateMedium name size variant) = all_settled
left_unsettled u (OpenMedium name) = all_settled
left_unsettled u (CloseMedium name delete) = all_settled
left_unsettled u (SetMode name mode) = all_settled
left_unsettled u (SetAutoreset vm port on) = all_settled
left_unsettled u (Compact place) = all_settled
left_unsettled u (Resize name mb) = all_settled
left_unsettled u (CloneNew place name) = all_settled
left_unsettled u (CloneExisting place target) = all_settled
left_unsettled u (ImportChain files name) = all_settled
left_unsettled u (Usage place) = all_settled
left_unsettled u (CreateVm name) = all_settled
left_unsettled u (UnregisterVm vm) = all_settled
left_unsettled u (Attach vm port name) = all_settled
left_unsettled u (Detach vm port) = all_settled
left_unsettled u (StartVm vm) = all_settled
left_unsettled u (PowerOff vm) = all_settled
left_unsettled u (Take vm name) = all_settled
left_unsettled u (Restore vm snapshot) = all_settled
left_unsettled u (RestoreCurrent vm) = all_settled
left_unsettled u (DeleteSnapshot vm snapshot) = all_settled

-- the sectors that are unsettled after a command, which a refused one leaves as they were
abbrev pub unsettled_after : Unsettled → World → Command → Unsettled
unsettled_after u w command = if is_refused (step_of w command 0).0 then u else left_unsettled u command

-- disks that differ in loose sectors alone
pub record IsLikeFlat (loose : ℕ → Bool) (a b : FlatDisk) : Type 0 where
  pub as_long : length b ≡ length a
  pub same : (i : ℕ) → IsFalse (loose i) → slice_get b i ≡ slice_get a i

abbrev pub IsLikeDisk : (ℕ → Bool) → Option FlatDisk → Option FlatDisk → Type 0
IsLikeDisk loose None None = Unit {0}
IsLikeDisk loose (Some a) (Some b) = IsLikeFlat loose a b
IsLikeDisk loose None (Some b) = ⊥
IsLikeDisk loose (Some a) None = ⊥

-- lists of the same length, item by item
abbrev pub AreAlike : {X : Type 0} → (X → X → Type 0) → List X → List X → Type 0
AreAlike like [] [] = Unit {0}
AreAlike like (x ∷ xs) (y ∷ ys) = like x y × AreAlike like xs ys
AreAlike like [] (y ∷ ys) = ⊥
AreAlike like (x ∷ xs) [] = ⊥

-- a sector of a medium is loose where it is unsettled at a slot that has the medium's disk
abbrev pub loose_of_medium : Unsettled → List WorldMachine → Name → ℕ → Bool
loose_of_medium u machines name i =
    list_any (λ (m : WorldMachine). list_any (λ (s : WorldSlot). is_direct s && bytes_eq s.medium name && u m.name s.port i) m.slots) machines

pub record IsLikeMedium (loose : ℕ → Bool) (a b : WorldMedium) : Type 0 where
  pub rest : b ≡ record a { flat = b.flat }
  pub disk : IsLikeDisk loose a.flat b.flat

pub record IsLikeSlot (loose : ℕ → Bool) (a b : WorldSlot) : Type 0 where
  pub rest : b ≡ record a { own = b.own }
  pub disk : IsLikeDisk loose a.own b.own

pub record IsLikeMachine (u : Unsettled) (a b : WorldMachine) : Type 0 where
  pub rest : b ≡ record a { slots = b.slots }
  pub slots : AreAlike (λ (s t : WorldSlot). IsLikeSlot (u a.name s.port) s t) a.slots b.slots

-- Loosely equal worlds: v is w but for the unsettled sectors of machines' disks, which may hold anything.
pub record IsLoosely (u : Unsettled) (w v : World) : Type 0 where
  pub rest : v ≡ record w { media = v.media; machines = v.machines }
  pub media : AreAlike (λ (m n : WorldMedium). IsLikeMedium (loose_of_medium u w.machines m.name) m n) w.media v.media
  pub machines : AreAlike (IsLikeMachine u) w.machines v.machines
