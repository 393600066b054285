-- A machine without slots and snapshots comes or goes: the library keeps its rules.
use Rattle.std.proofs.Common.{[], ◌++◌, ◌+◌, ◌<◌, ◌||◌, ◌∙◌, ◌∷◌, ◌≡◌, ◌≤◌, Bool, IsTrue, List, None, Option, Some, ap, arith, false, inl, inr, length, not, refl, subst, sym, true, ℕ}
use Rattle.std.specs.List.{AllByRecursion, list_any}
use Rattle.std.specs.Prelude.{count_by, filter, nat_le, sum_by}
use Rattle.std.specs.Str.{bytes_eq}
use Rattle.std.proofs.lemmas.Bool.{cases_Bool}
use Rattle.std.proofs.lemmas.List.{append-nil}
use Rattle.vbm_ports.specs.Files.{Files}
use Rattle.vbm_ports.specs.Names.{is_short_name}
use Rattle.vbm_named.proofs.Lists.{All-map, All-put, All-without, length-put, length-without, name_refl, rises_put, rises_without}
use Rattle.vbm_named.proofs.Sums.{sum_put, sum_without}
use Rattle.vbm_named.specs.Names.{Name, Rises, change_by, find_by, has_name, put_by, without}
use Rattle.vbm_world.specs.Tree.{IsTree}
use Rattle.vbm_world.specs.declared.limits.TheConstants.{MACHINE_LIMIT, PLACE_LIMIT, SNAPSHOT_LIMIT}
use Rattle.vbm_registry.specs.Chains.{is_image}
use Rattle.vbm_registry.specs.Entries.{inners_left, machine_gone, machine_put}
use Rattle.vbm_registry.specs.Named.{ImageName, NamedInner, NamedLibrary, NamedMachine, NamedMerging, NamedSlot, NamedSnapshot, OfInner, OfMedium, images_of, named_machine_name}
use Rattle.vbm_registry.specs.Rules.{AreSlotsUnder, IsHeldOnce, IsInherited, IsLibrary, IsMachine, IsMerging, IsSnapshotOf, count_in, count_in_machine, has_directly, holds, is_based, named_place_count, named_snapshot_count, upper_places}
use Rattle.vbm_standing.proofs.DetachedRules.{cut_edit}
use Rattle.vbm_standing.proofs.KeptRules.{edited_rules}
use Rattle.vbm_standing.proofs.Stores.{absent}
use Rattle.vbm_standing.specs.Edits.{own_in, renewed_library}
use Rattle.vbm_standing.specs.Faults.{IsStore}

-- ---- machines whose slots pass each test as often as those of the library

module _ (l : NamedLibrary) (machines : List NamedMachine) (is : IsLibrary l)
    (same : (test : NamedSlot → Bool) → count_in test machines ≡ count_in test l.machines) where
  abbrev after : NamedLibrary
  after = record l { machines = machines }

  held-same : (image : ImageName) → IsHeldOnce l.machines l.merging image → IsHeldOnce machines l.merging image
  held-same image once = omega (arith, same (holds image), once)

  based-same : (name : Name) → is_based l.inners machines name ≡ is_based l.inners l.machines name
  based-same name = ap (λ n. list_any (λ (x : NamedInner). is_image x.parent (OfMedium name)) l.inners || nat_le 1 n) (same (holds (OfMedium name)))

  merging-same : (j : NamedMerging) → IsMerging (images_of l) l.machines j → IsMerging (images_of l) machines j
  merging-same j of = record {
    parent = of.parent;
    normal = of.normal;
    only = of.only;
    held = same (holds (OfInner j.child)) ∙ of.held;
    once = of.once;
  }

  rules-same : length machines ≤ MACHINE_LIMIT → named_snapshot_count machines ≤ SNAPSHOT_LIMIT → named_place_count machines ≤ PLACE_LIMIT
      → Rises named_machine_name machines → AllByRecursion (IsMachine (images_of l)) machines → IsLibrary after
  rules-same few snapshots places rises are = record {
    seed = is.seed;
    next = is.next;
    inner = is.inner;
    few_media = is.few_media;
    few_machines = few;
    few_snapshots = snapshots;
    few_places = places;
    few_mergings = is.few_mergings;
    media_rise = is.media_rise;
    media = is.media;
    inners = is.inners;
    machines_rise = rises;
    machines = are;
    making = is.making;
    held = All-map _ _ (λ x once. held-same (OfInner x.number) once) l.inners is.held;
    based = All-map _ _ (λ n based normal now.
        let before = based normal (sym (based-same n.name) ∙ now) in
        record { nowhere = same (has_directly n.name) ∙ before.nowhere; once = held-same (OfMedium n.name) before.once }) l.media is.based;
    merging = All-map _ _ merging-same l.merging is.merging;
    drawn = is.drawn;
  }

-- ---- a machine without slots and snapshots

-- A library with a new machine keeps the rules.
module _ (l : NamedLibrary) (m : NamedMachine) (is : IsLibrary l) (no_slots : m.slots ≡ []) (no_snapshots : m.snapshots ≡ [])
    (no_current : m.current ≡ None) (short : IsTrue (is_short_name m.name)) (new : has_name named_machine_name m.name l.machines ≡ false)
    (room : length l.machines < MACHINE_LIMIT) where
  empty-tree : IsTree [] None
  empty-tree = record { names = tt; parents = tt; depth = λ n. 0; below = tt; root = omega arith; there = tt; none = refl }

  empty-under : AreSlotsUnder (images_of l) false [] []
  empty-under = record { valid = record { ports = omega arith; different = tt; each = tt }; stacked = tt; inherits = tt }

  empty-rules : IsMachine (images_of l) m
  empty-rules = record {
    name = short;
    tree = rw (no_snapshots, no_current) empty-tree;
    slots = rw (no_slots, no_snapshots, no_current) empty-under;
    snapshots = subst (AllByRecursion (IsSnapshotOf (images_of l) m)) (sym no_snapshots) tt;
  }

  more : (f : NamedMachine → ℕ) → f m ≡ 0 → sum_by f (put_by named_machine_name m l.machines) ≡ sum_by f l.machines
  more f zero = omega (arith, sum_put named_machine_name f m l.machines, zero)

  pub machine_put_rules : IsLibrary (machine_put l m)
  machine_put_rules =
      rules-same l (put_by named_machine_name m l.machines) is (λ test. more (count_in_machine test)
      (λ i. count_by test (no_slots i) + sum_by (λ (s : NamedSnapshot). count_by test s.slots) (no_snapshots i)))
      (omega (arith, room, length-put named_machine_name m l.machines))
      (omega (arith, is.few_snapshots, more (λ (n : NamedMachine). length n.snapshots) (ap length no_snapshots)))
      (omega (
        arith,
        is.few_places,
        more (λ (n : NamedMachine). sum_by (λ (s : NamedSnapshot). length s.slots) n.snapshots)
            (ap (sum_by (λ (s : NamedSnapshot). length s.slots)) no_snapshots),
      ))
      (rises_put named_machine_name m l.machines (absent named_machine_name m.name l.machines new) is.machines_rise)
      (All-put named_machine_name (IsMachine (images_of l)) m l.machines empty-rules is.machines)

-- So does one without a machine that has no slots and no snapshots.
module _ (l : NamedLibrary) (m : NamedMachine) (is : IsLibrary l) (there : find_by named_machine_name m.name l.machines ≡ Some m)
    (no_slots : m.slots ≡ []) (no_snapshots : m.snapshots ≡ []) where
  less : (f : NamedMachine → ℕ) → sum_by f (without named_machine_name m.name l.machines) + f m ≡ sum_by f l.machines
  less f = sum_without named_machine_name f m.name m l.machines is.machines_rise there

  none : (test : NamedSlot → Bool) → count_in_machine test m ≡ 0
  none test = λ i. count_by test (no_slots i) + sum_by (λ (s : NamedSnapshot). count_by test s.slots) (no_snapshots i)

  pub machine_gone_rules : IsLibrary (machine_gone l m.name)
  machine_gone_rules =
      rules-same l (without named_machine_name m.name l.machines) is (λ test. omega (arith, less (count_in_machine test), none test))
      (omega (arith, is.few_machines, length-without named_machine_name m.name l.machines))
      (omega (arith, is.few_snapshots, less (λ (n : NamedMachine). length n.snapshots)))
      (omega (arith, is.few_places, less (λ (n : NamedMachine). sum_by (λ (s : NamedSnapshot). length s.slots) n.snapshots)))
      (rises_without named_machine_name m.name l.machines is.machines_rise)
      (All-without named_machine_name (IsMachine (images_of l)) m.name l.machines is.machines)

-- Where the media and the inner images are the same, and the files, they are those of a store.
pub machines_store : (l : NamedLibrary) (machines : List NamedMachine) (files : Files) → IsStore l files
    → IsStore (record l { machines = machines }) files
machines_store l machines files store = record {
  media = All-map _ _ (λ m of. record { image = of.image; whole = of.whole; known = of.known }) l.media store.media;
  distinct = store.distinct;
  inners = store.inners;
}

-- ---- a machine without snapshots goes, with the images of its slots

filter-all : {X : Type 0} (xs : List X) → filter (λ x. true) xs ≡ xs
filter-all [] = refl
filter-all (x ∷ xs) = ap (λ l. x ∷ l) (filter-all xs)

filter-none : {X : Type 0} (xs : List X) → filter (λ x. false) xs ≡ []
filter-none [] = refl
filter-none (x ∷ xs) = filter-none xs

-- a changed item goes as the item would
without-changed : (new : NamedMachine) (xs : List NamedMachine)
    → without named_machine_name new.name (change_by named_machine_name new.name (λ _. new) xs) ≡ without named_machine_name new.name xs
without-changed new [] = refl
without-changed new (x ∷ xs) =
    let same = without-changed new xs in
    let here = name_refl new.name in
    elim (cases_Bool (bytes_eq x.name new.name)) [
      | inl e ↦ rw (e, here) same
      | inr e ↦ rw (e, e) (ap (λ l. x ∷ l) same)
    ]

module _ (l : NamedLibrary) (m : NamedMachine) (is : IsLibrary l) (plain : l.merging ≡ []) (there : find_by named_machine_name m.name l.machines
    ≡ Some m)
    (no_snapshots : m.snapshots ≡ []) where
  abbrev every : NamedSlot → Bool
  every s = true

  abbrev emptied : NamedMachine
  emptied = record m { slots = filter (λ (s : NamedSlot). not (every s)) m.slots }

  abbrev cut : NamedLibrary
  cut = renewed_library l (own_in (filter every m.slots)) [] emptied

  no-upper : (o : Option Name) → upper_places o [] ≡ []
  no-upper None = refl
  no-upper (Some name) = refl

  cut-rules : IsLibrary cut
  cut-rules =
      let none : upper_places m.current m.snapshots ≡ [] = ap (upper_places m.current) no_snapshots ∙ no-upper m.current in
      let inherits : IsInherited l.media (upper_places m.current m.snapshots) emptied.slots =
      subst (λ u. IsInherited l.media u emptied.slots) (sym none) tt in
      edited_rules l (own_in (filter every m.slots)) [] m emptied is plain (cut_edit l m every is plain there inherits)

  cut-there : find_by named_machine_name m.name cut.machines ≡ Some emptied
  cut-there = found_now l.machines there
    where
      found_now : (xs : List NamedMachine) → find_by named_machine_name m.name xs ≡ Some m
          → find_by named_machine_name m.name (change_by named_machine_name m.name (λ _. emptied) xs) ≡ Some emptied
      found_now [] e = absurd cc
      found_now (x ∷ xs) e = let here = name_refl m.name in elim (cases_Bool (bytes_eq x.name m.name)) [
        | inl same ↦ rw (same, here) refl
        | inr other ↦ rw (other, other) (found_now xs (rw other at e))
      ]

  -- A library without the machine and without its images keeps the rules.
  pub machine_cut_rules : IsLibrary (machine_gone (record l { inners = inners_left (own_in m.slots) l.inners }) m.name)
  machine_cut_rules =
      let left : inners_left (own_in (filter every m.slots)) l.inners ++ [] ≡ inners_left (own_in m.slots) l.inners =
      append-nil (inners_left (own_in (filter every m.slots)) l.inners) ∙ ap (λ ss. inners_left (own_in ss) l.inners) (filter-all m.slots) in
      let machines = without-changed emptied l.machines in
      let count : l.inner + 0 ≡ l.inner = omega arith in
      let same : machine_gone cut m.name ≡ machine_gone (record l { inners = inners_left (own_in m.slots) l.inners }) m.name =
      λ i. record l { inner = count i; inners = left i; machines = machines i } in
      subst IsLibrary same (machine_gone_rules cut emptied cut-rules cut-there (filter-none m.slots) no_snapshots)
