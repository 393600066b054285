-- Sound worlds: those that commands lead to.
use Rattle.std.specs.Prelude.{◌≡◌, ℕ, ◌+◌, ◌*◌, ◌≤◌, ◌&&◌, not, Bool, true, false, List, [], ◌∷◌, length, map, sum_by, count_by, ◌==◌, Option, Some, None, is_some, is_none, IfSome, IsTrue, IsFalse}
use Rattle.std.specs.List.{AllByRecursion, list_any}
use Rattle.std.specs.Str.{bytes_eq}
use Rattle.vbm_ports.specs.Names.{is_medium_name}
use Rattle.vbm_modes.specs.declared.Mode.{Mode}
use Rattle.vbm_modes.specs.declared.Mode.TheVariants.{Normal, Immutable, Writethrough, MultiAttach, Readonly}
use Rattle.vbm_volume.specs.Sectors.{FlatDisk}
use Rattle.vbm_ids.specs.declared.TheConstants.{NUMBER_LIMIT}
use Rattle.vbm_world.specs.declared.limits.TheConstants.{MEDIA_LIMIT, MACHINE_LIMIT, SNAPSHOT_LIMIT, PLACE_LIMIT, PORT_LIMIT}
use Rattle.vbm_world.specs.declared.world.WorldMedium.{WorldMedium}
use Rattle.vbm_world.specs.declared.world.WorldSlot.{WorldSlot}
use Rattle.vbm_world.specs.declared.world.WorldSnapshot.{WorldSnapshot}
use Rattle.vbm_world.specs.declared.world.WorldMachine.{WorldMachine}
use Rattle.vbm_world.specs.declared.world.Shelved.{Shelved}
use Rattle.vbm_world.specs.declared.world.Shelved.TheVariants.{Volume, Link, Bad}
use Rattle.vbm_named.specs.Names.{Name, find_by, has_name, Rises}
use Rattle.vbm_world.specs.World.{World, medium_name, machine_name, has_medium, is_direct, is_normal, is_immutable, is_frozen}
use Rattle.vbm_world.specs.Places.{slots_named}
use Rattle.vbm_world.specs.Refusals.{is_bad_size, snapshots_in, places_in}
use Rattle.vbm_world.specs.Tree.{IsTree, branch_of}

-- the disk, if there is one, has this capacity
abbrev pub HasCapacity : Option FlatDisk → ℕ → Type 0
HasCapacity flat capacity = IfSome flat (λ (disk : FlatDisk). capacity ≡ 512 * length disk)

-- a medium by itself: a frozen one has no disk
pub record IsSoundMedium (machines : List WorldMachine) (m : WorldMedium) : Type 0 where
  pub frozen : is_none m.flat ≡ is_frozen machines m
  pub disk : HasCapacity m.flat m.capacity
  pub capacity : IsFalse (is_bad_size m.capacity)

-- Which slots may have their own disk, by the medium's mode (User Manual, Special Image Write Modes): a machine's slot of a normal
-- medium shares its disk or has its own, a snapshot's has its own.
abbrev pub MayHold : Mode → (is_own of_snapshot : Bool) → Type 0
MayHold Normal is_own of_snapshot = IsTrue of_snapshot → IsTrue is_own
MayHold Immutable is_own of_snapshot = IsTrue is_own
MayHold MultiAttach is_own of_snapshot = IsTrue is_own
MayHold Writethrough is_own of_snapshot = IsFalse is_own
MayHold Readonly is_own of_snapshot = IsFalse is_own

-- a slot of a medium: a slot without its own disk needs the medium's
pub record IsSoundSlot (of_snapshot : Bool) (s : WorldSlot) (m : WorldMedium) : Type 0 where
  pub held : MayHold m.mode (is_some s.own) of_snapshot
  pub disk : HasCapacity s.own m.capacity
  pub shared : IsTrue (is_direct s) → IsTrue (is_some m.flat)
  pub autoreset : IsTrue s.autoreset → IsTrue (is_immutable m.mode)

-- the slot's medium is there, and the slot is one that it may have
abbrev pub IsPlaced : List WorldMedium → Bool → WorldSlot → Type 0
IsPlaced media of_snapshot s = (m : WorldMedium) × (find_by medium_name s.medium media ≡ Some m) × IsSoundSlot of_snapshot s m

-- ports rise strictly, from this one on, and are below the limit
abbrev pub RisingPorts : ℕ → List WorldSlot → Type 0
RisingPorts low [] = low ≤ PORT_LIMIT
RisingPorts low (s ∷ slots) = (low ≤ s.port) × RisingPorts (s.port + 1) slots

-- no medium stands twice
abbrev pub HaveOwnMedia : List WorldSlot → Type 0
HaveOwnMedia [] = Unit {0}
HaveOwnMedia (s ∷ slots) = IsFalse (has_medium s.medium slots) × HaveOwnMedia slots

-- the slots of a machine or of a snapshot
pub record AreSoundSlots (media : List WorldMedium) (of_snapshot : Bool) (slots : List WorldSlot) : Type 0 where
  pub ports : RisingPorts 0 slots
  pub distinct : HaveOwnMedia slots
  pub placed : AllByRecursion (IsPlaced media of_snapshot) slots

abbrev pub has_at : ℕ → Name → List WorldSlot → Bool
has_at port name slots = list_any (λ (s : WorldSlot). (s.port == port) && bytes_eq s.medium name) slots

abbrev pub is_some_normal : Option WorldMedium → Bool
is_some_normal None = false
is_some_normal (Some m) = is_normal m.mode

-- a slot of a normal medium
abbrev pub is_of_normal : List WorldMedium → WorldSlot → Bool
is_of_normal media s = is_some_normal (find_by medium_name s.medium media)

-- each normal medium that the upper slots have, the lower ones have at the same port
abbrev pub Inherits : List WorldMedium → List WorldSlot → List WorldSlot → Type 0
Inherits media upper lower =
    AllByRecursion (λ (s : WorldSlot). IsTrue (is_of_normal media s) → IsTrue (has_at s.port s.medium lower)) upper

pub record IsSoundMachine (media : List WorldMedium) (m : WorldMachine) : Type 0 where
  pub tree : IsTree (map branch_of m.snapshots) m.current
  pub slots : AreSoundSlots media false m.slots
  pub places : AllByRecursion (λ (s : WorldSnapshot). AreSoundSlots media true s.slots) m.snapshots
  -- a snapshot's normal media are those of its children too, and those of the current one are the machine's
  pub children : AllByRecursion (λ (s : WorldSnapshot). Inherits media (slots_named s.parent m.snapshots) s.slots) m.snapshots
  pub current : Inherits media (slots_named m.current m.snapshots) m.slots
  -- the machine has its own disk of a normal medium exactly where the current snapshot has that medium
  pub own : AllByRecursion (λ (s : WorldSlot). IsTrue (is_of_normal media s)
      → is_some s.own ≡ has_at s.port s.medium (slots_named m.current m.snapshots)) m.slots

-- how many snapshots of a machine have a medium that their parent has not
abbrev pub first_count : Name → WorldMachine → ℕ
first_count name m =
    count_by (λ (s : WorldSnapshot). has_medium name s.slots && not (has_medium name (slots_named s.parent m.snapshots))) m.snapshots

-- a disk of n sectors that has this capacity, which is one that a medium may have
pub record IsSized (n capacity : ℕ) : Type 0 where
  pub capacity_is : capacity ≡ 512 * n
  pub good : IsFalse (is_bad_size capacity)

-- what a file of the shelf holds, by itself
abbrev pub IsSoundFile : Shelved → Type 0
IsSoundFile (Volume v) = IsSized (length v.flat) v.capacity
IsSoundFile (Link l) = IsSized (length l.sectors) l.capacity
IsSoundFile (Bad k) = Unit {0}

-- a file of the shelf has a medium's name and is no medium
pub record IsSoundShelf (media : List WorldMedium) (name : Name) (content : Shelved) : Type 0 where
  pub named : IsTrue (is_medium_name name)
  pub no_medium : IsFalse (has_name medium_name name media)
  pub sound : IsSoundFile content

pub record IsSound (w : World) : Type 0 where
  pub seed : length w.seed ≡ 16
  pub next : w.next ≤ NUMBER_LIMIT
  pub inner : w.inner ≤ NUMBER_LIMIT
  pub media_order : Rises medium_name w.media
  pub media_names : AllByRecursion (λ (m : WorldMedium). IsTrue (is_medium_name m.name)) w.media
  pub media : AllByRecursion (IsSoundMedium w.machines) w.media
  pub machine_order : Rises machine_name w.machines
  pub machines : AllByRecursion (IsSoundMachine w.media) w.machines
  -- a frozen medium came into the snapshots of one machine, once
  pub first : AllByRecursion (λ (m : WorldMedium). IsTrue (is_frozen w.machines m) → sum_by (first_count m.name) w.machines ≡ 1) w.media
  pub shelf : (name : Name) → IfSome (w.shelf name) (IsSoundShelf w.media name)
  pub few_media : length w.media ≤ MEDIA_LIMIT
  pub few_machines : length w.machines ≤ MACHINE_LIMIT
  pub few_snapshots : snapshots_in w ≤ SNAPSHOT_LIMIT
  pub few_places : places_in w ≤ PLACE_LIMIT
