-- Slots as a snapshot has them, in a world whose frozen media have lost their disks.
use Rattle.std.proofs.Common.{◌≡◌, ℕ, ◌+◌, Bool, true, false, ◌&&◌, cond, List, [], ◌∷◌, map, Option, Some, None, refl, sym, ap, subst, ◌∙◌, is_some, is_none, IsTrue, ◌==◌, if◌then◌else◌}
use Rattle.std.specs.List.{AllByRecursion, list_any}
use Rattle.std.specs.Option.{option_map, option_and_then}
use Rattle.std.specs.Str.{bytes_eq}
use Rattle.std.proofs.lemmas.Bool.{or_right, eq-eqb}
use Rattle.vbm_modes.specs.declared.Mode.{Mode}
use Rattle.vbm_modes.specs.declared.Mode.TheVariants.{Normal, Immutable, Writethrough, MultiAttach, Readonly}
use Rattle.vbm_volume.specs.Sectors.{FlatDisk}
use Rattle.vbm_world.specs.declared.world.WorldMedium.{WorldMedium}
use Rattle.vbm_world.specs.declared.world.WorldSlot.{WorldSlot}
use Rattle.vbm_world.specs.declared.world.WorldMachine.{WorldMachine}
use Rattle.vbm_named.specs.Names.{Name, find_by}
use Rattle.vbm_world.specs.World.{World, medium_name, medium_of, has_medium, is_in_snapshot, is_normal, is_layered, is_of_mode, is_frozen}
use Rattle.vbm_world.specs.Places.{own_or_medium, slot_disk}
use Rattle.vbm_world.specs.Snapshots.{kept_slot, unless_frozen}
use Rattle.vbm_world.specs.Sound.{HasCapacity, MayHold, IsSoundMedium, IsSoundSlot, IsPlaced, RisingPorts, HaveOwnMedia, AreSoundSlots, has_at, is_some_normal, is_of_normal, Inherits}
use Rattle.vbm_named.proofs.Lists.{name_refl, All-map, All-join, All-of_map, All-find, any_map, find_map}
use Rattle.vbm_world.proofs.Keeping.{asked_of, Agree}

-- ---- slots that are there

-- each item that passes a test is one of the list
pub each_any : {X Y : Type 0} (test : Y → X → Bool) (xs : List X)
    → AllByRecursion (λ (x : X). (y : Y) → test y x ≡ true → list_any (test y) xs ≡ true) xs
each_any test [] = tt
each_any test (x ∷ xs) = (
  (λ y is. rw is refl),
  All-map _ _ (λ z there y is. or_right (test y x) _ (there y is)) xs (each_any test xs),
)

pub each_at : (slots : List WorldSlot) → AllByRecursion (λ (s : WorldSlot). has_at s.port s.medium slots ≡ true) slots
each_at slots = All-map _ _ (λ (s : WorldSlot) there. there (s.port, s.medium) (here s)) slots
    (each_any (λ (at : ℕ × Name) (s : WorldSlot). (s.port == at.0) && bytes_eq s.medium at.1) slots)
  where
    here : (s : WorldSlot) → ((s.port == s.port) && bytes_eq s.medium s.medium) ≡ true
    here s = rw (eq-eqb s.port s.port refl, name_refl s.medium) refl

-- slots that stand under themselves
pub inherits_self : (media : List WorldMedium) (slots : List WorldSlot) → Inherits media slots slots
inherits_self media slots = All-map _ (λ (s : WorldSlot). IsTrue (is_of_normal media s) → IsTrue (has_at s.port s.medium slots))
    (λ s there normal. there) slots (each_at slots)

-- ---- what of a slot is not its disk

module _ (w : World) where
  kept_ports : (slots : List WorldSlot) (low : ℕ) → RisingPorts low slots → RisingPorts low (map (kept_slot w) slots)
  kept_ports [] low rising = rising
  kept_ports (s ∷ slots) low rising = (rising.0, kept_ports slots (s.port + 1) rising.1)

  pub kept_has : (name : Name) (slots : List WorldSlot) → has_medium name (map (kept_slot w) slots) ≡ has_medium name slots
  kept_has name slots = any_map (kept_slot w) (λ (s : WorldSlot). bytes_eq s.medium name) slots

  pub kept_at : (port : ℕ) (name : Name) (slots : List WorldSlot) → has_at port name (map (kept_slot w) slots) ≡ has_at port name slots
  kept_at port name slots = any_map (kept_slot w) (λ (s : WorldSlot). (s.port == port) && bytes_eq s.medium name) slots

  kept_distinct : (slots : List WorldSlot) → HaveOwnMedia slots → HaveOwnMedia (map (kept_slot w) slots)
  kept_distinct [] distinct = tt
  kept_distinct (s ∷ slots) distinct = (kept_has s.medium slots ∙ distinct.0, kept_distinct slots distinct.1)

-- ---- its disk

-- the disk that a snapshot has of a slot, by the medium's mode, the slot's own disk and the medium's
abbrev kept_own : Mode → (own flat : Option FlatDisk) → Option FlatDisk
kept_own mode (Some own) flat = if is_layered mode then Some own else None
kept_own mode None flat = if is_layered mode then flat else None

kept_own_is : (w : World) (s : WorldSlot) (m : WorldMedium) → medium_of w s.medium ≡ Some m → (kept_slot w s).own ≡ kept_own m.mode s.own m.flat
kept_own_is w s m is = ap (λ (b : Bool). if b then slot_disk w s else None) (ap (is_of_mode is_layered) is) ∙ by_own s.own
  where
    by_own : (own : Option FlatDisk)
        → (if is_layered m.mode then own_or_medium w s.medium own else None) ≡ kept_own m.mode own m.flat
    by_own (Some own) = refl
    by_own None =
        ap (λ (flat : Option FlatDisk). if is_layered m.mode then flat else None) (ap (option_and_then (λ (n : WorldMedium). n.flat)) is)

-- a slot of a machine, which has a disk
abbrev HasDisk : (own flat : Option FlatDisk) → Type 0
HasDisk own flat = IsTrue (is_none own) → IsTrue (is_some flat)

kept_held : (mode : Mode) (own flat : Option FlatDisk) (of_snapshot : Bool) → MayHold mode (is_some own) false → HasDisk own flat
    → MayHold mode (is_some (kept_own mode own flat)) of_snapshot
kept_held Normal (Some own) flat of_snapshot held disk = λ is. refl
kept_held Normal None flat of_snapshot held disk = λ is. disk refl
kept_held Immutable (Some own) flat of_snapshot held disk = refl
kept_held Immutable None flat of_snapshot held disk = disk refl
kept_held MultiAttach (Some own) flat of_snapshot held disk = refl
kept_held MultiAttach None flat of_snapshot held disk = disk refl
kept_held Writethrough (Some own) flat of_snapshot held disk = refl
kept_held Writethrough None flat of_snapshot held disk = refl
kept_held Readonly (Some own) flat of_snapshot held disk = refl
kept_held Readonly None flat of_snapshot held disk = refl

kept_capacity : (mode : Mode) (own flat : Option FlatDisk) (capacity : ℕ) → HasCapacity own capacity → HasCapacity flat capacity
    → HasCapacity (kept_own mode own flat) capacity
kept_capacity Normal (Some own) flat capacity one two = one
kept_capacity Normal None flat capacity one two = two
kept_capacity Immutable (Some own) flat capacity one two = one
kept_capacity Immutable None flat capacity one two = two
kept_capacity MultiAttach (Some own) flat capacity one two = one
kept_capacity MultiAttach None flat capacity one two = two
kept_capacity Writethrough (Some own) flat capacity one two = tt
kept_capacity Writethrough None flat capacity one two = tt
kept_capacity Readonly (Some own) flat capacity one two = tt
kept_capacity Readonly None flat capacity one two = tt

-- a slot that shares its medium's disk afterwards
kept_shared : (mode : Mode) (own flat : Option FlatDisk) (snapped : Bool) → MayHold mode (is_some own) false → HasDisk own flat
    → IsTrue (is_none (kept_own mode own flat)) → IsTrue (is_some (cond (is_normal mode && snapped) None flat))
kept_shared Normal (Some own) flat snapped held disk none = absurd cc
kept_shared Normal None None snapped held disk none = let no : false ≡ true = disk refl in absurd cc
kept_shared Normal None (Some flat) snapped held disk none = absurd cc
kept_shared Immutable (Some own) flat snapped held disk none = absurd cc
kept_shared Immutable None flat snapped held disk none = absurd cc
kept_shared MultiAttach (Some own) flat snapped held disk none = absurd cc
kept_shared MultiAttach None flat snapped held disk none = absurd cc
kept_shared Writethrough (Some own) flat snapped held disk none = absurd cc
kept_shared Writethrough None flat snapped held disk none = disk refl
kept_shared Readonly (Some own) flat snapped held disk none = absurd cc
kept_shared Readonly None flat snapped held disk none = disk refl

-- ---- media that have lost their disks

module _ (w : World) (machines : List WorldMachine) where
  abbrev pub media_after : List WorldMedium
  media_after = map (unless_frozen machines) w.media

  find_after : (name : Name) → find_by medium_name name media_after ≡ option_map (unless_frozen machines) (medium_of w name)
  find_after name = find_map (unless_frozen machines) medium_name medium_name (λ m. refl) name w.media

  normal_after : (s : WorldSlot) → is_of_normal media_after s ≡ is_of_normal w.media s
  normal_after s = ap is_some_normal (find_after s.medium) ∙ same (medium_of w s.medium)
    where
      same : (o : Option WorldMedium) → is_some_normal (option_map (unless_frozen machines) o) ≡ is_some_normal o
      same None = refl
      same (Some m) = refl

  -- slots under others, also where those stand as a snapshot has them
  pub inherits_after : (upper lower below : List WorldSlot)
      → ((port : ℕ) (name : Name) → has_at port name below ≡ has_at port name lower)
      → Inherits w.media upper lower → Inherits media_after upper below
  inherits_after upper lower below same inherits =
      All-map _ (λ (s : WorldSlot). IsTrue (is_of_normal media_after s) → IsTrue (has_at s.port s.medium below))
      (λ s there normal. same s.port s.medium ∙ there (sym (normal_after s) ∙ normal)) upper inherits

  -- media keep what slots ask of them where they are frozen as before
  pub agree_after : AllByRecursion (IsSoundMedium w.machines) w.media → (s : WorldSlot)
      → ((m : WorldMedium) → medium_of w s.medium ≡ Some m → is_frozen machines m ≡ is_frozen w.machines m) → Agree w.media media_after s
  agree_after sound s same = ap (option_map asked_of) (find_after s.medium) ∙ by_found (medium_of w s.medium) refl
    where
      by_flat : (flat : Option FlatDisk) (frozen : Bool) → is_none flat ≡ frozen → is_some (cond frozen None flat) ≡ is_some flat
      by_flat None true is = refl
      by_flat None false is = absurd cc
      by_flat (Some flat) true is = absurd cc
      by_flat (Some flat) false is = refl

      by_found : (o : Option WorldMedium) → medium_of w s.medium ≡ o
          → option_map asked_of (option_map (unless_frozen machines) o) ≡ option_map asked_of o
      by_found None is = refl
      by_found (Some m) is =
          let frozen : is_none m.flat ≡ is_frozen machines m =
          (All-find medium_name (IsSoundMedium w.machines) s.medium m w.media sound is).frozen ∙ sym (same m is) in
          ap (λ (there : Bool). Some (m.mode, m.capacity, there)) (by_flat m.flat (is_frozen machines m) frozen)

  -- ---- slots of a machine as a snapshot has them

  kept_sound : (of_snapshot : Bool) (s : WorldSlot) (m : WorldMedium) → medium_of w s.medium ≡ Some m → HasCapacity m.flat m.capacity
      → IsSoundSlot false s m → IsSoundSlot of_snapshot (kept_slot w s) (unless_frozen machines m)
  kept_sound of_snapshot s m is capacity sound =
      let own : (kept_slot w s).own ≡ kept_own m.mode s.own m.flat = kept_own_is w s m is in
      record {
        held = subst (λ (o : Option FlatDisk). MayHold m.mode (is_some o) of_snapshot) (sym own)
            (kept_held m.mode s.own m.flat of_snapshot sound.held sound.shared);
        disk = subst (λ (o : Option FlatDisk). HasCapacity o m.capacity) (sym own)
            (kept_capacity m.mode s.own m.flat m.capacity sound.disk capacity);
        shared = λ direct. kept_shared m.mode s.own m.flat (list_any (is_in_snapshot m.name) machines) sound.held sound.shared
            (subst (λ (o : Option FlatDisk). IsTrue (is_none o)) own direct);
        autoreset = sound.autoreset;
      }

  pub kept_slots : AllByRecursion (IsSoundMedium w.machines) w.media → (of_snapshot : Bool) (slots : List WorldSlot)
      → AreSoundSlots w.media false slots → AreSoundSlots media_after of_snapshot (map (kept_slot w) slots)
  kept_slots media of_snapshot slots sound = record {
    ports = kept_ports w slots 0 sound.ports;
    distinct = kept_distinct w slots sound.distinct;
    placed = All-of_map (kept_slot w) (IsPlaced media_after of_snapshot) slots (All-map (IsPlaced w.media false) _ (λ s p. (
      unless_frozen machines p.0,
      find_after s.medium ∙ ap (option_map (unless_frozen machines)) p.1,
      kept_sound of_snapshot s p.0 p.1 (All-find medium_name (IsSoundMedium w.machines) s.medium p.0 w.media media p.1).disk p.2,
    )) slots sound.placed);
  }

-- the slots of a snapshot have their own disks of normal media
normal_own : (mode : Mode) (is_own : Bool) → is_normal mode ≡ true → MayHold mode is_own true → is_own ≡ true
normal_own Normal is_own normal held = held refl
normal_own Immutable is_own normal held = absurd cc
normal_own MultiAttach is_own normal held = absurd cc
normal_own Writethrough is_own normal held = absurd cc
normal_own Readonly is_own normal held = absurd cc

-- and so has a machine whose slots are those of its current snapshot
pub own_of_current : (media : List WorldMedium) (slots : List WorldSlot) → AreSoundSlots media true slots
    → AllByRecursion (λ (s : WorldSlot). IsTrue (is_of_normal media s) → is_some s.own ≡ has_at s.port s.medium slots) slots
own_of_current media slots sound = All-join (IsPlaced media true) _ _ (λ s p at normal.
    normal_own p.0.mode (is_some s.own) (sym (ap is_some_normal p.1) ∙ normal) p.2.held ∙ sym at) slots sound.placed (each_at slots)

-- a machine may have the slots of a snapshot
pub slots_of_snapshot : (media : List WorldMedium) (slots : List WorldSlot) → AreSoundSlots media true slots → AreSoundSlots media false slots
slots_of_snapshot media slots sound = record {
  ports = sound.ports;
  distinct = sound.distinct;
  placed = All-map (IsPlaced media true) (IsPlaced media false) (λ s p. (
    p.0,
    p.1,
    record {
      held = weaker p.0.mode (is_some s.own) p.2.held;
      disk = p.2.disk;
      shared = p.2.shared;
      autoreset = p.2.autoreset;
    },
  )) slots sound.placed;
}
  where
    weaker : (mode : Mode) (is_own : Bool) → MayHold mode is_own true → MayHold mode is_own false
    weaker Normal is_own held = λ is. absurd cc
    weaker Immutable is_own held = held
    weaker MultiAttach is_own held = held
    weaker Writethrough is_own held = held
    weaker Readonly is_own held = held
