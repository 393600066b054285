-- A library lists few inner images: each is held by a slot, a place of a snapshot or a merging, and none of these holds two.
use Rattle.std.proofs.Common.{[], ◌*◌, ◌+◌, ◌<◌, ◌∙◌, ◌∷◌, ◌≡◌, ◌≤◌, List, ap, arith, cond, false, inl, inr, length, refl, reverse, sym, true, ℕ}
use Rattle.std.specs.List.{AllByRecursion}
use Rattle.std.specs.Prelude.{◌==◌, count_by, sum_by}
use Rattle.std.proofs.lemmas.Bool.{cases_Bool, eq-eqb, eqb-true, ne_eqb}
use Rattle.std.proofs.lemmas.List.{length-reverse}
use Rattle.vbm_machines.specs.declared.Held.{Held}
use Rattle.vbm_machines.specs.declared.Held.TheVariants.{Base, Direct, Own}
use Rattle.vbm_named.proofs.Lists.{All-every, All-map}
use Rattle.vbm_named.specs.Names.{Name}
use Rattle.vbm_world.specs.declared.limits.TheConstants.{MACHINE_LIMIT, PLACE_LIMIT, PORT_LIMIT}
use Rattle.vbm_registry.proofs.Counts.{count-cons, sum-add, sum-constant, sum-same, swap-sums, zero-count, zero-sum}
use Rattle.vbm_registry.proofs.ListLaws.{All-reverse}
use Rattle.vbm_registry.specs.Chains.{is_image}
use Rattle.vbm_registry.specs.Named.{ImageName, NamedInner, NamedLibrary, NamedMachine, NamedMerging, NamedSlot, NamedSnapshot, OfInner, OfMedium, images_of}
use Rattle.vbm_registry.specs.Rules.{AreInners, IsLibrary, IsMachine, PortsRise, count_in, count_in_machine, holds, is_held, mergings_into}
use Rattle.vbm_registry.specs.declared.media.Medium.{Medium}

pub in_bound : (media : List Medium) (bound : ℕ) (xs : List NamedInner) → AreInners media bound xs
    → AllByRecursion (λ (x : NamedInner). x.number < bound) xs
in_bound media bound [] are = tt
in_bound media bound (x ∷ xs) are = (are.0, All-map _ _ (λ y lt. omega (arith, lt, are.0)) xs (in_bound media x.number xs are.2))

-- a number stands once
once-number : (media : List Medium) (bound n : ℕ) (xs : List NamedInner) → AreInners media bound xs
    → count_by (λ (x : NamedInner). x.number == n) xs ≤ 1
once-number media bound n [] are = omega arith
once-number media bound n (x ∷ xs) are = elim (cases_Bool (x.number == n)) [
  | inl here ↦
      let same = eqb-true x.number n here in
      let none = zero-count (λ (y : NamedInner). y.number == n) xs
      (All-map _ _ (λ y lt. ne_eqb y.number n (λ e. omega (arith, e, same, lt))) xs (in_bound media x.number xs are.2)) in
      rw (count-cons (λ (y : NamedInner). y.number == n) x xs) (rw here (omega (arith, none)))
  | inr other ↦ rw (count-cons (λ (y : NamedInner). y.number == n) x xs) (rw other (omega (arith, once-number media x.number n xs are.2)))
]

module _ (l : NamedLibrary) (is : IsLibrary l) where
  abbrev xs : List NamedInner
  xs = reverse l.inners

  no-sum : sum_by (λ (x : NamedInner). 0) xs ≡ 0
  no-sum = zero-sum (λ (x : NamedInner). 0) xs (All-every _ (λ x. refl) xs)

  -- an image is that of one number at most
  image-once : (image : ImageName) → sum_by (λ (x : NamedInner). cond (is_image image (OfInner x.number)) 1 0) xs ≤ 1
  image-once (OfMedium name) = omega (arith, no-sum)
  image-once (OfInner n) =
      let turned : sum_by (λ (x : NamedInner). cond (n == x.number) 1 0) xs ≡ count_by (λ (x : NamedInner). x.number == n) xs =
      sum-same _ _ xs (All-every _ (λ x. ap (λ b. cond b 1 0) (turn n x.number)) xs) in
      omega (arith, turned, once-number l.media l.inner n xs is.inners)
    where
      turn : (a b : ℕ) → (a == b) ≡ (b == a)
      turn a b = elim (cases_Bool (b == a)) [
        | inl same ↦ let e = eqb-true b a same in eq-eqb a b (sym e) ∙ sym same
        | inr other ↦ ne_eqb a b (λ e. let clash : true ≡ false = sym (eq-eqb b a (sym e)) ∙ other in absurd cc) ∙ sym other
      ]

  place-once : (medium : Name) (h : Held) → sum_by (λ (x : NamedInner). cond (is_held (OfInner x.number) medium h) 1 0) xs ≤ 1
  place-once medium Direct = omega (arith, no-sum)
  place-once medium (Own n) = once-number l.media l.inner n xs is.inners
  place-once medium Base = omega (arith, no-sum)

  slots-few : (ss : List NamedSlot) → sum_by (λ (x : NamedInner). count_by (holds (OfInner x.number)) ss) xs ≤ length ss
  slots-few ss =
      let most = swap-sums (λ (x : NamedInner) (s : NamedSlot). cond (holds (OfInner x.number) s) 1 0) (λ s. 1) xs ss
      (All-every _ (λ s. place-once s.medium s.held) ss) in
      omega (arith, most, sum-constant 1 ss)

  snapshots-few : (snapshots : List NamedSnapshot)
      → sum_by (λ (x : NamedInner). sum_by (λ (s : NamedSnapshot). count_by (holds (OfInner x.number)) s.slots) snapshots) xs
      ≤ sum_by (λ (s : NamedSnapshot). length s.slots) snapshots
  snapshots-few snapshots = swap-sums (λ (x : NamedInner) (s : NamedSnapshot). count_by (holds (OfInner x.number)) s.slots) (λ s. length s.slots)
      xs snapshots (All-every _ (λ s. slots-few s.slots) snapshots)

  ports-few : (ss : List NamedSlot) (low : ℕ) → PortsRise low ss → low + length ss ≤ PORT_LIMIT
  ports-few [] low rising = omega (arith, rising)
  ports-few (s ∷ ss) low rising = omega (arith, rising.0, ports-few ss (s.port + 1) rising.1)

  machine-few : (m : NamedMachine) → IsMachine (images_of l) m
      → sum_by (λ (x : NamedInner). count_in_machine (holds (OfInner x.number)) m) xs
      ≤ PORT_LIMIT + sum_by (λ (s : NamedSnapshot). length s.slots) m.snapshots
  machine-few m of =
      let parts = sum-add (λ (x : NamedInner). count_by (holds (OfInner x.number)) m.slots)
      (λ (x : NamedInner). sum_by (λ (s : NamedSnapshot). count_by (holds (OfInner x.number)) s.slots) m.snapshots) xs in
      omega (arith, parts, slots-few m.slots, snapshots-few m.snapshots, ports-few m.slots 0 of.slots.valid.ports)

  places-few : sum_by (λ (x : NamedInner). count_in (holds (OfInner x.number)) l.machines) xs ≤ PORT_LIMIT * MACHINE_LIMIT + PLACE_LIMIT
  places-few =
      let most = swap-sums (λ (x : NamedInner) (m : NamedMachine). count_in_machine (holds (OfInner x.number)) m)
      (λ m. PORT_LIMIT + sum_by (λ (s : NamedSnapshot). length s.slots) m.snapshots) xs l.machines
      (All-map (IsMachine (images_of l)) _ machine-few l.machines is.machines) in
      let parts = sum-add (λ (m : NamedMachine). PORT_LIMIT)
      (λ (m : NamedMachine). sum_by (λ (s : NamedSnapshot). length s.slots) m.snapshots) l.machines in
      omega (arith, most, parts, sum-constant PORT_LIMIT l.machines, is.few_machines, is.few_places)

  mergings-few : sum_by (λ (x : NamedInner). mergings_into (OfInner x.number) l.merging) xs ≤ PORT_LIMIT
  mergings-few =
      let most = swap-sums (λ (x : NamedInner) (j : NamedMerging). cond (is_image j.parent (OfInner x.number)) 1 0) (λ j. 1) xs l.merging
      (All-every _ (λ j. image-once j.parent) l.merging) in
      omega (arith, most, sum-constant 1 l.merging, is.few_mergings)

  -- their count fits its field
  pub few_inners : length l.inners ≤ 24094
  few_inners =
      let ones = sum-same (λ (x : NamedInner). count_in (holds (OfInner x.number)) l.machines + mergings_into (OfInner x.number) l.merging)
      (λ x. 1) xs
      (All-reverse _ l.inners is.held) in
      let parts = sum-add (λ (x : NamedInner). count_in (holds (OfInner x.number)) l.machines)
      (λ (x : NamedInner). mergings_into (OfInner x.number) l.merging) xs in
      omega (arith, ones, parts, sum-constant 1 xs, places-few, mergings-few, length-reverse l.inners)
