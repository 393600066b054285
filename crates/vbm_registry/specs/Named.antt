-- A library with names in place of places. All that a library means is said of this form, so an edit that moves places changes nothing here.
use Rattle.std.specs.Prelude.{ℕ, Bool, List, [], map, get_or, Option}
use Rattle.std.specs.Option.{option_map}
use Rattle.vbm_machines.specs.declared.Held.{Held}
use Rattle.vbm_machines.specs.declared.Slot.{Slot}
use Rattle.vbm_machines.specs.declared.Snapshot.{Snapshot}
use Rattle.vbm_machines.specs.declared.Machine.{Machine}
use Rattle.vbm_named.specs.Names.{Name}
use Rattle.vbm_world.specs.Tree.{Branch}
use Rattle.vbm_registry.specs.declared.media.Medium.{Medium}
use Rattle.vbm_registry.specs.declared.library.ImageRef.{ImageRef}
use Rattle.vbm_registry.specs.declared.library.ImageRef.TheVariants as refs
use Rattle.vbm_registry.specs.declared.library.Inner.{Inner}
use Rattle.vbm_registry.specs.declared.library.Merging.{Merging}
use Rattle.vbm_registry.specs.declared.library.Library.{Library}
use Rattle.vbm_registry.specs.Library.{medium_entry_name}

-- what names an image of the store: a medium's name, or the number of an inner image
pub data ImageName : Type 0 where
  OfMedium : Name → ImageName
  OfInner : ℕ → ImageName

pub record NamedInner : Type 0 where
  pub number : ℕ
  pub parent : ImageName

-- a slot of a machine, or a place of a snapshot
pub record NamedSlot : Type 0 where
  pub port : ℕ
  pub medium : Name
  pub autoreset : Bool
  pub held : Held

pub record NamedSnapshot : Type 0 where
  pub name : Name
  pub parent : Option Name
  pub slots : List NamedSlot

pub record NamedMachine : Type 0 where
  pub name : Name
  pub slots : List NamedSlot
  pub snapshots : List NamedSnapshot
  pub current : Option Name

pub record NamedMerging : Type 0 where
  pub parent : ImageName
  pub child : ℕ
  pub number : ℕ

pub record NamedLibrary : Type 0 where
  pub seed : List ℕ
  pub next : ℕ
  pub inner : ℕ
  pub media : List Medium
  pub inners : List NamedInner
  pub machines : List NamedMachine
  pub making : Option Name
  pub merging : List NamedMerging

-- the images that a library lists, and how they stand on each other: what slots and snapshots are judged by
pub record ListedImages : Type 0 where
  pub media : List Medium
  pub inners : List NamedInner
  pub merging : List NamedMerging

abbrev pub images_of : NamedLibrary → ListedImages
images_of l = record { media = l.media; inners = l.inners; merging = l.merging }

abbrev pub named_snapshot_name : NamedSnapshot → Name
named_snapshot_name s = s.name

abbrev pub named_machine_name : NamedMachine → Name
named_machine_name m = m.name

abbrev pub named_branch : NamedSnapshot → Branch
named_branch s = (s.name, s.parent)

-- ---- the names at places

-- The name at a place; out of range the empty one, which nothing has. So a rule on names is a rule on ranges too.
abbrev pub name_in : List Name → ℕ → Name
name_in names place = get_or names place []

abbrev pub image_named : List Name → ImageRef → ImageName
image_named media (refs.Medium place) = OfMedium (name_in media place)
image_named media (refs.Inner number) = OfInner number

abbrev pub inner_named : List Name → Inner → NamedInner
inner_named media x = record { number = x.number; parent = image_named media x.parent }

abbrev pub slot_named : List Name → Slot → NamedSlot
slot_named media s = record { port = s.port; medium = name_in media s.medium; autoreset = s.autoreset; held = s.held }

abbrev pub snapshot_named : (media snapshots : List Name) → Snapshot → NamedSnapshot
snapshot_named media snapshots s = record {
  name = s.name;
  parent = option_map (name_in snapshots) s.parent;
  slots = map (slot_named media) s.slots;
}

abbrev pub snapshot_names : List Snapshot → List Name
snapshot_names snapshots = map (λ (s : Snapshot). s.name) snapshots

abbrev pub machine_named : List Name → Machine → NamedMachine
machine_named media m = record {
  name = m.name;
  slots = map (slot_named media) m.slots;
  snapshots = map (snapshot_named media (snapshot_names m.snapshots)) m.snapshots;
  current = option_map (name_in (snapshot_names m.snapshots)) m.current;
}

abbrev pub merging_named : List Name → Merging → NamedMerging
merging_named media j = record { parent = image_named media j.parent; child = j.child; number = j.number }

abbrev pub medium_names : List Medium → List Name
medium_names media = map medium_entry_name media

-- The marks of running machines are no part of it.
abbrev pub named : Library → NamedLibrary
named l = record {
  seed = l.seed;
  next = l.next;
  inner = l.inner;
  media = l.media;
  inners = map (inner_named (medium_names l.media)) l.inners;
  machines = map (machine_named (medium_names l.media)) l.machines;
  making = l.making;
  merging = map (merging_named (medium_names l.media)) l.merging;
}
