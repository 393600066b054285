-- Changes of the shape of media lead from a sound world to a sound one.
use Rattle.std.proofs.Common.{◌≡◌, ℕ, ◌*◌, ◌/◌, ◌%◌, ◌^◌, ◌≤◌, ◌==◌, ◌&&◌, ◌||◌, Bool, true, false, not, cond, nat_lt, List, length, Option, Some, None, refl, sym, ap, subst, ◌∙◌, arith, is_some, is_none, IsTrue}
use Rattle.std.specs.List.{AllByRecursion, list_any}
use Rattle.std.specs.Option.{option_map}
use Rattle.std.specs.Str.{bytes_eq}
use Rattle.std.proofs.lemmas.Bool.{or_parts, or_from, ltb-false, eqb-false, ne_eqb, eq-eqb, cond_both}
use Rattle.vbm_volume.specs.Sectors.{FlatDisk}
use Rattle.vbm_world.specs.declared.command.PlaceName.{PlaceName}
use Rattle.vbm_world.specs.declared.command.Refusal.TheVariants.{NoSuchMedium}
use Rattle.vbm_world.specs.declared.world.WorldMedium.{WorldMedium}
use Rattle.vbm_world.specs.declared.world.WorldSlot.{WorldSlot}
use Rattle.vbm_world.specs.declared.world.WorldSnapshot.{WorldSnapshot}
use Rattle.vbm_world.specs.declared.world.WorldMachine.{WorldMachine}
use Rattle.vbm_named.specs.Names.{Name, is_named, find_by, change_by}
use Rattle.vbm_world.specs.World.{World, medium_name, medium_of, has_own}
use Rattle.vbm_world.specs.Places.{find_place, slots_named}
use Rattle.vbm_world.specs.Refusals.{Check, is_bad_size}
use Rattle.vbm_world.specs.Clones.{padded, disk_len}
use Rattle.vbm_world.specs.Shapes.{compact_checks, compact, has_own_of, is_built_on, resize_checks, enlarged, resize, usage}
use Rattle.vbm_world.specs.Sound.{HasCapacity, IsSoundSlot, IsPlaced, AreSoundSlots, is_some_normal, is_of_normal, IsSoundMachine, IsSound}
use Rattle.vbm_named.proofs.Lists.{All-map, All-join, none_of_any, same_name, find_named, find_change}
use Rattle.vbm_world.proofs.Keeping.{LeadsToSound, unless, found, sought, EachSlot, EachSlot-map, All-named}
use Rattle.vbm_world.proofs.PlacesSound.{medium_sound, sized_disk}
use Rattle.vbm_world.proofs.ClonesKeep.{length-padded}
use Rattle.vbm_world.proofs.MediaChanged.{medium_changed_sound}

pub compact_keeps : (w : World) → IsSound w → (place : PlaceName) → IsSound (compact w place).1
compact_keeps w ok place = sought LeadsToSound w (find_place w place) _ (λ refusal. ok) (λ p is.
    unless LeadsToSound w (compact_checks w p) _ (λ refusal. ok) (λ pass. ok))

pub usage_keeps : (w : World) → IsSound w → (place : PlaceName) (number : ℕ) → IsSound (usage w place number).1
usage_keeps w ok place number = sought LeadsToSound w (find_place w place) _ (λ refusal. ok) (λ p is. ok)

-- ---- machines, where other media serve their slots as well

module _ (media other : List WorldMedium) where
  -- the slot is as sound over the other media, and its medium is as normal
  pub record Serves (s : WorldSlot) : Type 0 where
    pub placed : (of_snapshot : Bool) → IsPlaced media of_snapshot s → IsPlaced other of_snapshot s
    pub normal : is_of_normal other s ≡ is_of_normal media s

  slots_serve : (of_snapshot : Bool) (slots : List WorldSlot) → AllByRecursion Serves slots
      → AreSoundSlots media of_snapshot slots → AreSoundSlots other of_snapshot slots
  slots_serve of_snapshot slots serves sound = record {
    ports = sound.ports;
    distinct = sound.distinct;
    placed = All-join Serves _ (IsPlaced other of_snapshot) (λ s one. one.placed of_snapshot) slots serves sound.placed;
  }

  normals_serve : (P : WorldSlot → Type 0) (slots : List WorldSlot) → AllByRecursion Serves slots
      → AllByRecursion (λ s. IsTrue (is_of_normal media s) → P s) slots → AllByRecursion (λ s. IsTrue (is_of_normal other s) → P s) slots
  normals_serve P = All-join Serves _ _ (λ s one holds normal. holds (sym one.normal ∙ normal))

  pub machine_serves : (m : WorldMachine) → EachSlot Serves m → IsSoundMachine media m → IsSoundMachine other m
  machine_serves m serves sound = record {
    tree = sound.tree;
    slots = slots_serve false m.slots serves.0 sound.slots;
    places = All-join _ _ _ (λ s. slots_serve true s.slots) m.snapshots serves.1 sound.places;
    children = All-map _ _ (λ s. normals_serve _ (slots_named s.parent m.snapshots) (All-named _ s.parent m.snapshots serves.1))
        m.snapshots sound.children;
    current = normals_serve _ (slots_named m.current m.snapshots) (All-named _ m.current m.snapshots serves.1) sound.current;
    own = normals_serve _ m.slots serves.0 sound.own;
  }

-- ---- resize

-- a slot without a disk of its own
no_own : (own : Option FlatDisk) (n : ℕ) → not (is_none own) ≡ false → HasCapacity own n
no_own None n direct = tt
no_own (Some disk) n direct = absurd cc

and_first : (a b : Bool) → (a && b) ≡ false → b ≡ true → a ≡ false
and_first true b neither e = let clash : true ≡ false = sym e ∙ neither in absurd cc
and_first false b neither e = refl

map_some : {X Y : Type 0} (f : X → Y) (o : Option X) → is_some (option_map f o) ≡ is_some o
map_some f None = refl
map_some f (Some x) = refl

map_no : {X Y : Type 0} (f : X → Y) (o : Option X) → is_none (option_map f o) ≡ is_none o
map_no f None = refl
map_no f (Some x) = refl

module _ (name : Name) (capacity : ℕ) where
  abbrev larger : WorldMedium → WorldMedium
  larger m = cond (is_named medium_name name m) (enlarged capacity m) m

  normal_larger : (o : Option WorldMedium) → is_some_normal (option_map larger o) ≡ is_some_normal o
  normal_larger None = refl
  normal_larger (Some m) = cond_both (is_named medium_name name m) (enlarged capacity m) m (λ n. is_some_normal (Some n) ≡ is_some_normal (Some m))
      (λ e. refl) (λ e. refl)

  -- a slot that has no disk of its own of the medium
  slot_larger : (of_snapshot : Bool) (s : WorldSlot) (m : WorldMedium) → bytes_eq m.name s.medium ≡ true → (has_own s && bytes_eq s.medium name) ≡ false
      → IsSoundSlot of_snapshot s m → IsSoundSlot of_snapshot s (larger m)
  slot_larger of_snapshot s m its free sound = cond_both (is_named medium_name name m) (enlarged capacity m) m (IsSoundSlot of_snapshot s) (λ e.
      let one : bytes_eq s.medium name ≡ true = subst (λ n. bytes_eq n name ≡ true) (same_name m.name s.medium its) e in
      let direct = and_first (has_own s) (bytes_eq s.medium name) free one in
      record {
        held = sound.held;
        disk = no_own s.own capacity direct;
        shared = λ d. map_some (padded (capacity / 512)) m.flat ∙ sound.shared d;
        autoreset = sound.autoreset;
      }) (λ e. sound)

  serves_larger : (media : List WorldMedium) (s : WorldSlot) → (has_own s && bytes_eq s.medium name) ≡ false
      → Serves media (change_by medium_name name (enlarged capacity) media) s
  serves_larger media s free =
      let found = find_change medium_name name (enlarged capacity) (λ m. refl) s.medium media in
      record {
        placed = λ of_snapshot p. (
          larger p.0,
          found ∙ ap (option_map larger) p.1,
          slot_larger of_snapshot s p.0 (find_named medium_name s.medium p.0 media p.1) free p.2,
        );
        normal = ap is_some_normal found ∙ normal_larger (find_by medium_name s.medium media);
      }

  built_not : (machines : List WorldMachine)
      → list_any (λ (m : WorldMachine). has_own_of name m.slots || list_any (λ (s : WorldSnapshot). has_own_of name s.slots) m.snapshots) machines ≡ false
      → AllByRecursion (EachSlot (λ (s : WorldSlot). (has_own s && bytes_eq s.medium name) ≡ false)) machines
  built_not machines unbuilt = All-map _ _ (λ m none.
      let both = or_parts (has_own_of name m.slots) (list_any (λ (s : WorldSnapshot). has_own_of name s.slots) m.snapshots) none in
      (none_of_any _ m.slots both.0, All-map _ _ (λ s. none_of_any _ s.slots) m.snapshots (none_of_any _ m.snapshots both.1)))
      machines (none_of_any _ machines unbuilt)

-- the enlarged disk has the new capacity
larger_sized : (disk : Option FlatDisk) (old capacity : ℕ) → HasCapacity disk old → old ≤ capacity → capacity % 512 ≡ 0
    → HasCapacity (option_map (padded (capacity / 512)) disk) capacity
larger_sized None old capacity sized grows whole = tt
larger_sized (Some disk) old capacity sized grows whole =
    let fits : length disk ≤ capacity / 512 = omega arith in
    let long = length-padded (capacity / 512) disk fits in
    omega (arith, long)

larger_good : (old capacity : ℕ) → is_bad_size old ≡ false → old ≤ capacity → capacity % 512 ≡ 0 → nat_lt (2 ^ 41) capacity ≡ false
    → is_bad_size capacity ≡ false
larger_good old capacity good grows whole low =
    let small = or_parts ((old == 0) || nat_lt (2 ^ 41) old) (not (old % 512 == 0)) good in
    let some : old ≡ 0 → ⊥ = eqb-false old 0 (or_parts (old == 0) (nat_lt (2 ^ 41) old) small.0).0 in
    let there : (capacity == 0) ≡ false = ne_eqb capacity 0 (λ none. some (omega arith)) in
    or_from ((capacity == 0) || nat_lt (2 ^ 41) capacity) (not (capacity % 512 == 0)) (or_from (capacity == 0) (nat_lt (2 ^ 41) capacity) there low)
    (ap not (eq-eqb (capacity % 512) 0 whole))

resized_keeps : (w : World) → IsSound w → (name : Name) (capacity : ℕ) → capacity % 512 ≡ 0 → IsSound (resize w name capacity).1
resized_keeps w ok name capacity whole = found LeadsToSound w NoSuchMedium (medium_of w name) _ ok (λ m is.
    unless LeadsToSound w (resize_checks w m capacity) _ (λ refusal. ok) (λ pass.
    let sound = medium_sound w ok name m is in
    let grows : m.capacity ≤ capacity = ltb-false capacity m.capacity pass.1.1.1.0 in
    let unbuilt : is_built_on w name ≡ false =
    subst (λ n. is_built_on w n ≡ false) (same_name m.name name (find_named medium_name name m w.media is)) pass.0 in
    medium_changed_sound w ok name m is (enlarged capacity) (λ x. refl) refl (map_no (padded (capacity / 512)) m.flat)
    (larger_sized m.flat m.capacity capacity sound.disk grows whole)
    (larger_good m.capacity capacity sound.capacity grows whole pass.1.1.1.1.0)
    (All-join _ _ _ (λ machine free. machine_serves w.media (change_by medium_name name (enlarged capacity) w.media) machine
    (EachSlot-map _ (Serves w.media (change_by medium_name name (enlarged capacity) w.media)) (λ s. serves_larger name capacity w.media s) machine free))
    w.machines (built_not name capacity w.machines unbuilt) ok.machines)
    w.next ok.next))

-- a new capacity is given in units of 2^20 bytes
pub resize_keeps : (w : World) → IsSound w → (name : Name) (mb : ℕ) → IsSound (resize w name (mb * 2 ^ 20)).1
resize_keeps w ok name mb = let whole : mb * 2 ^ 20 % 512 ≡ 0 = omega arith in resized_keeps w ok name (mb * 2 ^ 20) whole

-- what enlarging asks of the new capacity
pub grows_over : (w : World) → IsSound w → (name : Name) (m : WorldMedium) → medium_of w name ≡ Some m → (capacity : ℕ)
    → AllByRecursion (λ (check : Check). check.0 ≡ false) (resize_checks w m capacity) → disk_len m.flat ≤ capacity / 512
grows_over w ok name m is capacity pass =
    let fits = sized_disk m.flat m.capacity (medium_sound w ok name m is).disk in
    omega (arith, fits, ltb-false capacity m.capacity pass.1.1.1.0)
