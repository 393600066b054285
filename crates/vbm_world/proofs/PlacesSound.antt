-- The disks of places in sound worlds.
use Rattle.std.proofs.Common.{◌≡◌, ℕ, ◌*◌, ◌≤◌, ◌^◌, ◌%◌, ◌==◌, ◌||◌, Bool, true, false, not, nat_lt, List, [], ◌∷◌, Option, Some, None, Result, Ok, refl, subst, arith, IsFalse}
use Rattle.std.specs.List.{AllByRecursion}
use Rattle.std.proofs.lemmas.Bool.{or_parts, cond_both, ltb-false}
use Rattle.vbm_volume.specs.Sectors.{FlatDisk}
use Rattle.vbm_world.specs.declared.command.PlaceName.{PlaceName}
use Rattle.vbm_world.specs.declared.command.PlaceName.TheVariants.{Medium, Slot, Snap}
use Rattle.vbm_world.specs.declared.command.Refusal.{Refusal}
use Rattle.vbm_world.specs.declared.command.Refusal.TheVariants.{NoSuchMedium, NoSuchMachine, NoSuchSnapshot, NoSuchSlot}
use Rattle.vbm_world.specs.declared.world.WorldMedium.{WorldMedium}
use Rattle.vbm_world.specs.declared.world.WorldSlot.{WorldSlot}
use Rattle.vbm_world.specs.declared.world.WorldSnapshot.{WorldSnapshot}
use Rattle.vbm_world.specs.declared.world.WorldMachine.{WorldMachine}
use Rattle.vbm_named.specs.Names.{Name}
use Rattle.vbm_world.specs.World.{World, medium_name, machine_name, snapshot_name, medium_of, is_direct}
use Rattle.vbm_world.specs.Places.{Place, machine_of, snapshot_of, slot_at, slots_named, own_or_medium, slot_disk, is_base_of, sought, found_slot, found_in_snapshot, find_place}
use Rattle.vbm_world.specs.Refusals.{is_bad_size}
use Rattle.vbm_world.specs.Clones.{disk_len}
use Rattle.vbm_world.specs.Sound.{HasCapacity, IsSoundMedium, IsPlaced, AreSoundSlots, IsSoundMachine, IsSound}
use Rattle.vbm_named.proofs.Lists.{All-find}

-- what was sought, where something was found
sought_ok : {X Y : Type 0} (refusal : Refusal) (o : Option X) (next : X → Result Y Refusal) (y : Y) → sought refusal o next ≡ Ok y
    → (x : X) × (o ≡ Some x) × (next x ≡ Ok y)
sought_ok refusal None next y e = absurd cc
sought_ok refusal (Some x) next y e = (x, refl, e)

-- what holds of each slot holds of the one at a port
pub All-at : (P : WorldSlot → Type 0) (port : ℕ) (slots : List WorldSlot) (s : WorldSlot) → AllByRecursion P slots
    → slot_at port slots ≡ Some s → P s
All-at P port [] s all at = absurd cc
All-at P port (t ∷ slots) s all at = cond_both (t.port == port) (Some t) (slot_at port slots) (λ o. o ≡ Some s → P s)
    (λ e is. let same : t ≡ s = cc in subst P same all.0) (λ e is. All-at P port slots s all.1 is) at

-- its disk has its medium's capacity, which is one that a medium may have
pub record IsSoundPlace (p : Place) : Type 0 where
  pub disk : HasCapacity p.disk p.medium.capacity
  pub capacity : IsFalse (is_bad_size p.medium.capacity)

module _ (w : World) (ok : IsSound w) where
  pub medium_sound : (name : Name) (m : WorldMedium) → medium_of w name ≡ Some m → IsSoundMedium w.machines m
  medium_sound name m is = All-find medium_name (IsSoundMedium w.machines) name m w.media ok.media is

  machine_sound : (name : Name) (m : WorldMachine) → machine_of w name ≡ Some m → IsSoundMachine w.media m
  machine_sound name m is = All-find machine_name (IsSoundMachine w.media) name m w.machines ok.machines is

  own_sized : (name : Name) (m : WorldMedium) → medium_of w name ≡ Some m → (own : Option FlatDisk) → HasCapacity own m.capacity
      → HasCapacity (own_or_medium w name own) m.capacity
  own_sized name m is None sized = rw is (medium_sound name m is).disk
  own_sized name m is (Some disk) sized = sized

  slot_sound : (of_snapshot is_base : Bool) (s : WorldSlot) (p : Place) → IsPlaced w.media of_snapshot s → found_slot w is_base s ≡ Ok p
      → IsSoundPlace p
  slot_sound of_snapshot is_base s p placed e =
      let f = sought_ok NoSuchMedium (medium_of w s.medium) _ p e in
      let m : WorldMedium = f.0 in
      let same : placed.0 ≡ m = cc (placed.1, f.1) in
      let made : Place = record { medium = m; disk = slot_disk w s; is_base = is_base } in
      let is : made ≡ p = cc (f.2) in
      let sized : HasCapacity s.own m.capacity = subst (λ (n : WorldMedium). HasCapacity s.own n.capacity) same placed.2.disk in
      subst IsSoundPlace is (record { disk = own_sized s.medium m f.1 s.own sized; capacity = (medium_sound s.medium m f.1).capacity })

  pub place_sound : (place : PlaceName) (p : Place) → find_place w place ≡ Ok p → IsSoundPlace p
  place_sound (Medium name) p e =
      let f = sought_ok NoSuchMedium (medium_of w name) _ p e in
      let m : WorldMedium = f.0 in
      let sound = medium_sound name m f.1 in
      let made : Place = record { medium = m; disk = m.flat; is_base = true } in
      let is : made ≡ p = cc (f.2) in
      subst IsSoundPlace is (record { disk = sound.disk; capacity = sound.capacity })
  place_sound (Slot vm port) p e =
      let f = sought_ok NoSuchMachine (machine_of w vm) _ p e in
      let m : WorldMachine = f.0 in
      let g = sought_ok NoSuchSlot (slot_at port m.slots) (λ s. found_slot w (is_direct s) s) p f.2 in
      let s : WorldSlot = g.0 in
      slot_sound false (is_direct s) s p (All-at (IsPlaced w.media false) port m.slots s (machine_sound vm m f.1).slots.placed g.1) g.2
  place_sound (Snap vm snapshot port) p e =
      let f = sought_ok NoSuchMachine (machine_of w vm) _ p e in
      let m : WorldMachine = f.0 in
      let g = sought_ok NoSuchSnapshot (snapshot_of m snapshot) (found_in_snapshot w m port) p f.2 in
      let taken : WorldSnapshot = g.0 in
      let h = sought_ok NoSuchSlot (slot_at port taken.slots)
      (λ s. found_slot w (is_base_of w (slots_named taken.parent m.snapshots) s) s) p g.2 in
      let s : WorldSlot = h.0 in
      let places = All-find snapshot_name (λ (s : WorldSnapshot). AreSoundSlots w.media true s.slots) snapshot taken m.snapshots
      (machine_sound vm m f.1).places g.1 in
      slot_sound true _ s p (All-at (IsPlaced w.media true) port taken.slots s places.placed h.1) h.2

-- the greatest capacity
pub size_below : (n : ℕ) → is_bad_size n ≡ false → n ≤ 2 ^ 41
size_below n good = ltb-false (2 ^ 41) n (or_parts (n == 0) (nat_lt (2 ^ 41) n) (or_parts ((n == 0) || nat_lt (2 ^ 41) n) (not (n % 512 == 0)) good).0).1

pub sized_disk : (disk : Option FlatDisk) (capacity : ℕ) → HasCapacity disk capacity → 512 * disk_len disk ≤ capacity
sized_disk None capacity sized = omega arith
sized_disk (Some disk) capacity sized = omega arith

-- a disk that a place of a sound world has
pub place_small : (p : Place) → IsSoundPlace p → 512 * disk_len p.disk ≤ 2 ^ 41
place_small p sound = omega (arith, sized_disk p.disk p.medium.capacity sound.disk, size_below p.medium.capacity sound.capacity)
