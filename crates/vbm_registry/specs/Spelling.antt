-- The bytes of a library's file: version 1, all numbers little-endian. Spellings stand before the bytes that follow them, and test nothing.
use Rattle.std.specs.Prelude.{◌≡◌, ℕ, List, [], ◌∷◌, ◌++◌, length, codes, Bool, true, false, Option, Some, None}
use Rattle.std.specs.Int.{Width, w8, w16, w64, to_le_bytes}
use Rattle.vbm_modes.specs.declared.Mode.{Mode}
use Rattle.vbm_modes.specs.declared.Mode.TheVariants.{Normal, Immutable, Writethrough, MultiAttach, Readonly}
use Rattle.vbm_machines.specs.declared.Held.{Held}
use Rattle.vbm_machines.specs.declared.Held.TheVariants.{Direct, Own, Base}
use Rattle.vbm_machines.specs.declared.Slot.{Slot}
use Rattle.vbm_machines.specs.declared.Snapshot.{Snapshot}
use Rattle.vbm_machines.specs.declared.Machine.{Machine}
use Rattle.vbm_named.specs.Names.{Name}
use Rattle.vbm_registry.specs.declared.media.Medium.{Medium}
use Rattle.vbm_registry.specs.declared.library.Inner.{Inner}
use Rattle.vbm_registry.specs.declared.library.ImageRef.{ImageRef}
use Rattle.vbm_registry.specs.declared.library.ImageRef.TheVariants as refs
use Rattle.vbm_registry.specs.declared.library.Merging.{Merging}
use Rattle.vbm_registry.specs.declared.library.Library.{Library}

abbrev pub number_onto : Width → ℕ → List ℕ → List ℕ
number_onto w n rest = to_le_bytes w n ++ rest

-- a name: its length and its bytes
abbrev pub name_onto : Name → List ℕ → List ℕ
name_onto name rest = number_onto w8 (length name) (name ++ rest)

-- items one after the other
abbrev pub items_onto : {X : Type 0} → (X → List ℕ → List ℕ) → List X → List ℕ → List ℕ
items_onto onto [] rest = rest
items_onto onto (x ∷ xs) rest = onto x (items_onto onto xs rest)

-- a list: how many items there are, and the items
abbrev pub list_onto : {X : Type 0} → Width → (X → List ℕ → List ℕ) → List X → List ℕ → List ℕ
list_onto w onto xs rest = number_onto w (length xs) (items_onto onto xs rest)

abbrev pub mode_code : Mode → ℕ
mode_code Normal = 0
mode_code Immutable = 1
mode_code Writethrough = 2
mode_code MultiAttach = 3
mode_code Readonly = 4

abbrev pub medium_onto : Medium → List ℕ → List ℕ
medium_onto m rest = name_onto m.name (number_onto w8 (mode_code m.mode) rest)

abbrev pub ref_onto : ImageRef → List ℕ → List ℕ
ref_onto (refs.Medium place) rest = number_onto w8 0 (number_onto w16 place rest)
ref_onto (refs.Inner n) rest = number_onto w8 1 (number_onto w64 n rest)

abbrev pub inner_onto : Inner → List ℕ → List ℕ
inner_onto x rest = number_onto w64 x.number (ref_onto x.parent rest)

abbrev pub flag_code : Bool → ℕ
flag_code false = 0
flag_code true = 1

abbrev pub held_onto : Held → List ℕ → List ℕ
held_onto Direct rest = number_onto w8 0 rest
held_onto (Own n) rest = number_onto w8 1 (number_onto w64 n rest)
held_onto Base rest = number_onto w8 2 rest

abbrev pub slot_onto : Slot → List ℕ → List ℕ
slot_onto s rest = number_onto w8 s.port (number_onto w16 s.medium (number_onto w8 (flag_code s.autoreset) (held_onto s.held rest)))

-- what stands for no place in a list
abbrev pub no_place : ℕ
no_place = 0xFFFF

abbrev pub place_code : Option ℕ → ℕ
place_code None = no_place
place_code (Some place) = place

abbrev pub place_onto : Option ℕ → List ℕ → List ℕ
place_onto place rest = number_onto w16 (place_code place) rest

abbrev pub snapshot_onto : Snapshot → List ℕ → List ℕ
snapshot_onto s rest = name_onto s.name (place_onto s.parent (list_onto w8 slot_onto s.slots rest))

abbrev pub machine_onto : Machine → List ℕ → List ℕ
machine_onto m rest = name_onto m.name (list_onto w8 slot_onto m.slots (list_onto w16 snapshot_onto m.snapshots (place_onto m.current rest)))

abbrev pub merging_onto : Merging → List ℕ → List ℕ
merging_onto j rest = ref_onto j.parent (number_onto w64 j.child (number_onto w64 j.number rest))

-- a making is a list of one name at most
abbrev pub list_of : {X : Type 0} → Option X → List X
list_of None = []
list_of (Some x) = x ∷ []

-- what a library's file begins with
abbrev pub head : List ℕ
head = codes "VBMLIB01"

-- the fields behind the head, in their order; the marks of running machines are not spelled
abbrev pub fields_onto : Library → List ℕ → List ℕ
fields_onto l rest = l.seed ++ number_onto w64 l.next (number_onto w64 l.inner (list_onto w16 medium_onto l.media (list_onto w16 inner_onto l.inners
    (list_onto w16 machine_onto l.machines (list_onto w8 name_onto (list_of l.making) (list_onto w8 merging_onto l.merging rest))))))

-- the bytes of a library's file
unfoldable pub spelling : Library → List ℕ
spelling l = head ++ fields_onto l []

-- bytes that were appended, whatever follows them
abbrev pub Appends : List ℕ → List ℕ → (List ℕ → List ℕ) → Type 0
Appends old new onto = (rest : List ℕ) → new ++ rest ≡ old ++ onto rest
