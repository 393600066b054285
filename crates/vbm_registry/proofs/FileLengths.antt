-- How long the file of a library is at most.
use Rattle.std.proofs.Common.{◌≡◌, ℕ, suc, ◌+◌, ◌*◌, ◌≤◌, List, [], ◌∷◌, ◌++◌, length, Option, Some, None, IfSome, ap, arith}
use Rattle.std.specs.Int.{w8, w16, w64}
use Rattle.std.specs.List.{AllByRecursion}
use Rattle.std.proofs.lemmas.List.{length-append}
use Rattle.std.proofs.lemmas.List.Sums.{sum_by-cons}
use Rattle.vbm_named.specs.Names.{Name}
use Rattle.vbm_world.specs.declared.limits.TheConstants.{MEDIA_LIMIT, MACHINE_LIMIT, SNAPSHOT_LIMIT, PLACE_LIMIT, PORT_LIMIT}
use Rattle.vbm_ports.specs.declared.names.TheConstants.{LONGEST_NAME, LONGEST_SHORT_NAME}
use Rattle.vbm_machines.specs.declared.Held.{Held}
use Rattle.vbm_machines.specs.declared.Held.TheVariants.{Direct, Own, Base}
use Rattle.vbm_machines.specs.declared.Slot.{Slot}
use Rattle.vbm_machines.specs.declared.Snapshot.{Snapshot}
use Rattle.vbm_machines.specs.declared.Machine.{Machine}
use Rattle.vbm_registry.specs.declared.media.Medium.{Medium}
use Rattle.vbm_registry.specs.declared.library.Inner.{Inner}
use Rattle.vbm_registry.specs.declared.library.ImageRef.{ImageRef}
use Rattle.vbm_registry.specs.declared.library.ImageRef.TheVariants as refs
use Rattle.vbm_registry.specs.declared.library.Merging.{Merging}
use Rattle.vbm_registry.specs.declared.library.Library.{Library}
use Rattle.vbm_registry.specs.declared.library.TheConstants.{LONGEST_LIBRARY}
use Rattle.vbm_registry.specs.Spelling.{name_onto, number_onto, items_onto, list_onto, mode_code, medium_onto, ref_onto, inner_onto, held_onto, slot_onto, place_onto, snapshot_onto, machine_onto, merging_onto, list_of, spelling}
use Rattle.vbm_registry.specs.Grammar.{places_listed, snapshots_among, places_among}

-- ---- what bounds the length

pub record IsShortMachine (m : Machine) : Type 0 where
  pub name : length m.name ≤ LONGEST_SHORT_NAME
  pub slots : length m.slots ≤ PORT_LIMIT
  pub snapshots : AllByRecursion (λ (s : Snapshot). length s.name ≤ LONGEST_SHORT_NAME) m.snapshots

pub record IsShortLibrary (l : Library) : Type 0 where
  pub seed : length l.seed ≡ 16
  pub few_media : length l.media ≤ MEDIA_LIMIT
  pub media : AllByRecursion (λ (m : Medium). length m.name ≤ LONGEST_NAME) l.media
  pub few_inners : length l.inners ≤ 24094
  pub few_machines : length l.machines ≤ MACHINE_LIMIT
  pub machines : AllByRecursion IsShortMachine l.machines
  pub few_snapshots : snapshots_among l.machines ≤ SNAPSHOT_LIMIT
  pub few_places : places_among l.machines ≤ PLACE_LIMIT
  pub making : IfSome l.making (λ name. length name ≤ LONGEST_NAME)
  pub few_mergings : length l.merging ≤ PORT_LIMIT

-- ---- lengths of the parts

name_length : (name rest : List ℕ) → length (name_onto name rest) ≡ suc (length name + length rest)
name_length name rest = ap suc (length-append name rest)

media_length : (xs : List Medium) (rest : List ℕ) → AllByRecursion (λ (m : Medium). length m.name ≤ LONGEST_NAME) xs
    → length (items_onto medium_onto xs rest) ≤ 66 * length xs + length rest
media_length [] rest each = omega arith
media_length (m ∷ xs) rest each =
    let after = items_onto medium_onto xs rest in
    let one : length (medium_onto m after) ≡ suc (length m.name + suc (length after)) =
    name_length m.name (number_onto w8 (mode_code m.mode) after) in
    omega (arith, one, media_length xs rest each.1, each.0)

ref_length : (r : ImageRef) (rest : List ℕ) → length (ref_onto r rest) ≤ 9 + length rest
ref_length (refs.Medium place) rest = omega arith
ref_length (refs.Inner n) rest = omega arith

inners_length : (xs : List Inner) (rest : List ℕ) → length (items_onto inner_onto xs rest) ≤ 17 * length xs + length rest
inners_length [] rest = omega arith
inners_length (x ∷ xs) rest =
    let after = items_onto inner_onto xs rest in
    let one : length (inner_onto x after) ≡ 8 + length (ref_onto x.parent after) = omega arith in
    omega (arith, one, ref_length x.parent after, inners_length xs rest)

held_length : (h : Held) (rest : List ℕ) → length (held_onto h rest) ≤ 9 + length rest
held_length Direct rest = omega arith
held_length (Own n) rest = omega arith
held_length Base rest = omega arith

slots_length : (xs : List Slot) (rest : List ℕ) → length (items_onto slot_onto xs rest) ≤ 13 * length xs + length rest
slots_length [] rest = omega arith
slots_length (s ∷ xs) rest =
    let after = items_onto slot_onto xs rest in
    let one : length (slot_onto s after) ≡ 4 + length (held_onto s.held after) = omega arith in
    omega (arith, one, held_length s.held after, slots_length xs rest)

snapshots_length : (xs : List Snapshot) (rest : List ℕ) → AllByRecursion (λ (s : Snapshot). length s.name ≤ LONGEST_SHORT_NAME) xs
    → length (items_onto snapshot_onto xs rest) ≤ 36 * length xs + 13 * places_listed xs + length rest
snapshots_length [] rest each = omega arith
snapshots_length (s ∷ xs) rest each =
    let after = items_onto snapshot_onto xs rest in
    let slots = items_onto slot_onto s.slots after in
    let one : length (snapshot_onto s after) ≡ suc (length s.name + (3 + length slots)) =
    omega (arith, name_length s.name (place_onto s.parent (list_onto w8 slot_onto s.slots after))) in
    let sum : places_listed (s ∷ xs) ≡ length s.slots + places_listed xs = sum_by-cons (λ (x : Snapshot). length x.slots) s xs in
    omega (arith, one, sum, each.0, slots_length s.slots after, snapshots_length xs rest each.1)

machines_length : (xs : List Machine) (rest : List ℕ) → AllByRecursion IsShortMachine xs
    → length (items_onto machine_onto xs rest) ≤ 428 * length xs + 36 * snapshots_among xs + 13 * places_among xs + length rest
machines_length [] rest each = omega arith
machines_length (m ∷ xs) rest each =
    let after = items_onto machine_onto xs rest in
    let current = place_onto m.current after in
    let snapshots = items_onto snapshot_onto m.snapshots current in
    let slots = items_onto slot_onto m.slots (list_onto w16 snapshot_onto m.snapshots current) in
    let one : length (machine_onto m after) ≡ suc (length m.name + (1 + length slots)) =
    omega (arith, name_length m.name (list_onto w8 slot_onto m.slots (list_onto w16 snapshot_onto m.snapshots current))) in
    let two : length slots ≤ 13 * length m.slots + (2 + length snapshots) =
    omega (arith, slots_length m.slots (list_onto w16 snapshot_onto m.snapshots current)) in
    let three : length snapshots ≤ 36 * length m.snapshots + 13 * places_listed m.snapshots + (2 + length after) =
    omega (arith, snapshots_length m.snapshots current each.0.snapshots) in
    let s : snapshots_among (m ∷ xs) ≡ length m.snapshots + snapshots_among xs = sum_by-cons (λ (x : Machine). length x.snapshots) m xs in
    let p : places_among (m ∷ xs) ≡ places_listed m.snapshots + places_among xs = sum_by-cons (λ (x : Machine). places_listed x.snapshots) m xs in
    omega (arith, one, two, three, s, p, each.0.slots, each.0.name, machines_length xs rest each.1)

mergings_length : (xs : List Merging) (rest : List ℕ) → length (items_onto merging_onto xs rest) ≤ 25 * length xs + length rest
mergings_length [] rest = omega arith
mergings_length (j ∷ xs) rest =
    let after = items_onto merging_onto xs rest in
    let numbers = number_onto w64 j.child (number_onto w64 j.number after) in
    let sixteen : length numbers ≡ 16 + length after = omega arith in
    omega (arith, sixteen, ref_length j.parent numbers, mergings_length xs rest)

making_length : (o : Option Name) (rest : List ℕ) → IfSome o (λ name. length name ≤ LONGEST_NAME)
    → length (list_onto w8 name_onto (list_of o) rest) ≤ 66 + length rest
making_length None rest short = omega arith
making_length (Some name) rest short = omega (arith, name_length name rest, short)

pub file_length : (l : Library) → IsShortLibrary l → length (spelling l) ≤ LONGEST_LIBRARY
unfolding spelling
file_length l is =
    let t0 = list_onto w8 merging_onto l.merging [] in
    let t1 = list_onto w8 name_onto (list_of l.making) t0 in
    let t2 = list_onto w16 machine_onto l.machines t1 in
    let t3 = list_onto w16 inner_onto l.inners t2 in
    let t4 = list_onto w16 medium_onto l.media t3 in
    let e0 : length t0 ≤ 751 = omega (arith, mergings_length l.merging [], is.few_mergings) in
    let e1 : length t1 ≤ 817 = omega (arith, making_length l.making t0 is.making, e0) in
    let m = machines_length l.machines t1 is.machines in
    let e2 : length t2 ≤ 470835 = omega (arith, m, is.few_machines, is.few_snapshots, is.few_places, e1) in
    let e3 : length t3 ≤ 880435 = omega (arith, inners_length l.inners t2, is.few_inners, e2) in
    let e4 : length t4 ≤ 948021 = omega (arith, media_length l.media t3 is.media, is.few_media, e3) in
    let seed : length (l.seed ++ number_onto w64 l.next (number_onto w64 l.inner t4)) ≡ length l.seed + (16 + length t4) =
    omega (arith, length-append l.seed (number_onto w64 l.next (number_onto w64 l.inner t4))) in
    omega (arith, seed, is.seed, e4)
