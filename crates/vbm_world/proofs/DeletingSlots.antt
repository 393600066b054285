-- Slots where media get disks again, and what slots hand down.
use Rattle.std.proofs.Common.{◌≡◌, ℕ, ◌+◌, ◌==◌, Bool, true, false, ◌&&◌, ◌||◌, cond, List, [], ◌∷◌, map, Option, Some, None, is_some, is_none, refl, sym, ap, subst, ◌∙◌, arith, IsTrue, eqb-true}
use Rattle.std.specs.List.{AllByRecursion}
use Rattle.std.specs.Option.{option_map, option_and_then}
use Rattle.std.specs.Str.{bytes_eq}
use Rattle.std.proofs.lemmas.Bool.{and_parts}
use Rattle.std.proofs.lemmas.Bool.Decides.{nat_tests}
use Rattle.vbm_modes.specs.declared.Mode.{Mode}
use Rattle.vbm_modes.specs.declared.Mode.TheVariants.{Normal, Immutable, Writethrough, MultiAttach, Readonly}
use Rattle.vbm_volume.specs.Sectors.{FlatDisk}
use Rattle.vbm_world.specs.declared.world.WorldMedium.{WorldMedium}
use Rattle.vbm_world.specs.declared.world.WorldSlot.{WorldSlot}
use Rattle.vbm_world.specs.declared.world.WorldSnapshot.{WorldSnapshot}
use Rattle.vbm_world.specs.declared.world.WorldMachine.{WorldMachine}
use Rattle.vbm_named.specs.Names.{Name, find_by}
use Rattle.vbm_named.proofs.Lists.{same_name, All-map, All-find, find_map}
use Rattle.vbm_world.specs.World.{medium_name, has_medium, is_normal}
use Rattle.vbm_world.specs.Places.{slots_named}
use Rattle.vbm_world.specs.Snapshots.{own_of, slot_of}
use Rattle.vbm_world.specs.Sound.{HasCapacity, MayHold, IsSoundSlot, IsPlaced, RisingPorts, HaveOwnMedia, AreSoundSlots, has_at, is_some_normal, is_of_normal, Inherits, IsSoundMachine}

-- ---- media at ports

-- what is at a port is there
pub at_has : (port : ℕ) (name : Name) (slots : List WorldSlot) → has_at port name slots ≡ true → has_medium name slots ≡ true
at_has port name [] at = absurd cc
at_has port name (s ∷ slots) at = step (s.port == port) (bytes_eq s.medium name) (has_at port name slots) (has_medium name slots) (at_has port name slots) at where
  step : (p b x y : Bool) → (x ≡ true → y ≡ true) → ((p && b) || x) ≡ true → (b || y) ≡ true
  step p true x y f e = refl
  step true false x y f e = f e
  step false false x y f e = f e

-- and what is there is at some port
pub has_port : (name : Name) (slots : List WorldSlot) → has_medium name slots ≡ true → (port : ℕ) × (has_at port name slots ≡ true)
has_port name [] has = absurd cc
has_port name (s ∷ slots) has = elim (bytes_eq s.medium name) as (λ b. bytes_eq s.medium name ≡ b → b || has_medium name slots ≡ true → (port : ℕ) × (has_at port name (s ∷ slots) ≡ true)) [
  | true ↦ λ e h. (s.port, here (s.port == s.port) (bytes_eq s.medium name) (has_at s.port name slots) (same s.port) e)
  | false ↦ λ e h. let rest = has_port name slots h in (rest.0, more (s.port == rest.0) (bytes_eq s.medium name) (has_at rest.0 name slots) rest.1)
] refl has where
  same : (n : ℕ) → (n == n) ≡ true
  same n = grind (arith, nat_tests)

  here : (p b x : Bool) → p ≡ true → b ≡ true → ((p && b) || x) ≡ true
  here p b x ep eb = rw (ep, eb) refl

  more : (p b x : Bool) → x ≡ true → ((p && b) || x) ≡ true
  more true true x e = refl
  more true false x e = e
  more false b x e = e

-- a medium is at one port alone
pub one_port : (p q : ℕ) (name : Name) (slots : List WorldSlot) → HaveOwnMedia slots → has_at p name slots ≡ true → has_at q name slots ≡ true → p ≡ q
one_port p q name [] own at too = absurd cc
one_port p q name (s ∷ slots) own at too =
    elim (bytes_eq s.medium name) as (λ b. bytes_eq s.medium name ≡ b → ((s.port == p) && b) || has_at p name slots ≡ true
    → ((s.port == q) && b) || has_at q name slots ≡ true → p ≡ q) [
      | true ↦ λ e at too.
          let alone : has_medium name slots ≡ false = subst (λ n. has_medium n slots ≡ false) (same_name s.medium name e) own.0 in
          sym (eqb-true s.port p (here p alone (s.port == p) at)) ∙ eqb-true s.port q (here q alone (s.port == q) too)
      | false ↦ λ e at too. one_port p q name slots own.1 (there (s.port == p) (has_at p name slots) at) (there (s.port == q) (has_at q name slots) too)
    ] refl at too
  where
    here : (r : ℕ) → has_medium name slots ≡ false → (b : Bool) → ((b && true) || has_at r name slots) ≡ true → b ≡ true
    here r alone true e = refl
    here r alone false e = let has : true ≡ false = sym (at_has r name slots e) ∙ alone in absurd cc

    there : (b x : Bool) → ((b && false) || x) ≡ true → x ≡ true
    there true x e = e
    there false x e = e

-- a normal medium that is handed down
pub handed : (media : List WorldMedium) (upper lower : List WorldSlot) → Inherits media upper lower → (port : ℕ) (name : Name)
    → IsTrue (is_some_normal (find_by medium_name name media)) → has_at port name upper ≡ true → has_at port name lower ≡ true
handed media [] lower inherits port name normal at = absurd cc
handed media (s ∷ upper) lower inherits port name normal at =
    elim ((s.port == port) && bytes_eq s.medium name) as (λ b. (s.port == port) && bytes_eq s.medium name ≡ b → b || has_at port name upper ≡ true
    → has_at port name lower ≡ true) [
      | true ↦ λ e h.
          let both = and_parts (s.port == port) (bytes_eq s.medium name) e in
          let named : s.medium ≡ name = same_name s.medium name both.1 in
          let here : has_at s.port s.medium lower ≡ true = inherits.0 (subst (λ n. IsTrue (is_some_normal (find_by medium_name n media))) (sym named) normal) in
          subst (λ n. has_at port n lower ≡ true) named (subst (λ p. has_at p s.medium lower ≡ true) (eqb-true s.port port both.0) here)
      | false ↦ λ e h. handed media upper lower inherits.1 port name normal h
    ] refl at

pub inherits_through : (media : List WorldMedium) (upper middle lower : List WorldSlot) → Inherits media upper middle → Inherits media middle lower
    → Inherits media upper lower
inherits_through media upper middle lower from to = All-map _ (λ (s : WorldSlot). IsTrue (is_of_normal media s) → IsTrue (has_at s.port s.medium lower))
    (λ s down normal. handed media middle lower to s.port s.medium normal (down normal)) upper from

-- a normal medium that the lower slots have at a port, the upper ones have there if they have it
pub at_same : (media : List WorldMedium) (upper lower : List WorldSlot) → Inherits media upper lower → HaveOwnMedia lower → (port : ℕ) (name : Name)
    → IsTrue (is_some_normal (find_by medium_name name media)) → has_at port name lower ≡ true → has_medium name upper ≡ true
    → has_at port name upper ≡ true
at_same media upper lower inherits own port name normal at has =
    let up = has_port name upper has in
    subst (λ p. has_at p name upper ≡ true)
    (one_port up.0 port name lower own (handed media upper lower inherits up.0 name normal up.1) at) up.1

-- ---- slots in another form, at the same ports and of the same media

module _ (f : WorldSlot → WorldSlot) (ports : (s : WorldSlot) → (f s).port ≡ s.port) (media : (s : WorldSlot) → (f s).medium ≡ s.medium) where
  pub has-map : (name : Name) (slots : List WorldSlot) → has_medium name (map f slots) ≡ has_medium name slots
  has-map name [] = refl
  has-map name (s ∷ slots) = rw (media s, has-map name slots) refl

  pub at-map : (port : ℕ) (name : Name) (slots : List WorldSlot) → has_at port name (map f slots) ≡ has_at port name slots
  at-map port name [] = refl
  at-map port name (s ∷ slots) = rw (media s, ports s, at-map port name slots) refl

  pub ports-map : (low : ℕ) (slots : List WorldSlot) → RisingPorts low slots → RisingPorts low (map f slots)
  ports-map low [] rising = rising
  ports-map low (s ∷ slots) rising = (rw (ports s) rising.0, rw (ports s) (ports-map (s.port + 1) slots rising.1))

  pub own-map : (slots : List WorldSlot) → HaveOwnMedia slots → HaveOwnMedia (map f slots)
  own-map [] own = tt
  own-map (s ∷ slots) own = (rw (media s) (has-map s.medium slots ∙ own.0), own-map slots own.1)

-- ---- media in another form, where some more have a disk of their own

module _ (media : List WorldMedium) (f : WorldMedium → WorldMedium) (names : (d : WorldMedium) → (f d).name ≡ d.name)
    (modes : (d : WorldMedium) → (f d).mode ≡ d.mode) (capacities : (d : WorldMedium) → (f d).capacity ≡ d.capacity)
    (more : AllByRecursion (λ (d : WorldMedium). is_some d.flat ≡ true → is_some (f d).flat ≡ true) media) where
  pub medium_found : (name : Name) (d : WorldMedium) → find_by medium_name name media ≡ Some d → find_by medium_name name (map f media) ≡ Some (f d)
  medium_found name d found = find_map f medium_name medium_name names name media ∙ ap (option_map f) found

  slot_more : (of_snapshot : Bool) (s : WorldSlot) (d : WorldMedium) → find_by medium_name s.medium media ≡ Some d
      → IsSoundSlot of_snapshot s d → IsSoundSlot of_snapshot s (f d)
  slot_more of_snapshot s d found sound = record {
    held = rw (modes d) sound.held;
    disk = rw (capacities d) sound.disk;
    shared = λ direct. All-find medium_name _ s.medium d media more found (sound.shared direct);
    autoreset = rw (modes d) sound.autoreset;
  }

  placed_more : (of_snapshot : Bool) (s : WorldSlot) → IsPlaced media of_snapshot s → IsPlaced (map f media) of_snapshot s
  placed_more of_snapshot s placed =
      (f placed.0, medium_found s.medium placed.0 placed.1, slot_more of_snapshot s placed.0 placed.1 placed.2)

  pub slots_more : (of_snapshot : Bool) (slots : List WorldSlot) → AreSoundSlots media of_snapshot slots → AreSoundSlots (map f media) of_snapshot slots
  slots_more of_snapshot slots sound = record {
    ports = sound.ports;
    distinct = sound.distinct;
    placed = All-map (IsPlaced media of_snapshot) (IsPlaced (map f media) of_snapshot) (placed_more of_snapshot) slots sound.placed;
  }

  some_same : (o : Option WorldMedium) → is_some_normal (option_map f o) ≡ is_some_normal o
  some_same None = refl
  some_same (Some d) = ap is_normal (modes d)

  pub normal_same : (s : WorldSlot) → is_of_normal (map f media) s ≡ is_of_normal media s
  normal_same s = ap is_some_normal (find_map f medium_name medium_name names s.medium media) ∙ some_same (find_by medium_name s.medium media)

  -- what holds of slots of normal media
  pub normals_more : (P : WorldSlot → Type 0) (slots : List WorldSlot) → AllByRecursion (λ s. IsTrue (is_of_normal media s) → P s) slots
      → AllByRecursion (λ s. IsTrue (is_of_normal (map f media) s) → P s) slots
  normals_more P = All-map _ _ (λ s holds normal. holds (sym (normal_same s) ∙ normal))

  pub machine_more : (m : WorldMachine) → IsSoundMachine media m → IsSoundMachine (map f media) m
  machine_more m sound = record {
    tree = sound.tree;
    slots = slots_more false m.slots sound.slots;
    places = All-map _ _ (λ (s : WorldSnapshot). slots_more true s.slots) m.snapshots sound.places;
    children = All-map _ _ (λ (s : WorldSnapshot). normals_more _ (slots_named s.parent m.snapshots)) m.snapshots sound.children;
    current = normals_more _ (slots_named m.current m.snapshots) sound.current;
    own = normals_more _ m.slots sound.own;
  }

-- ---- the own disk of a medium's slot

-- a disk of a capacity
abbrev pub IsDisk : Option FlatDisk → ℕ → Type 0
IsDisk disk capacity = (is_some disk ≡ true) × HasCapacity disk capacity

own_found : (name : Name) (P : WorldSlot → Type 0) (capacity : ℕ) (slots : List WorldSlot) → AllByRecursion P slots
    → ((s : WorldSlot) → P s → s.medium ≡ name → IsDisk s.own capacity) → has_medium name slots ≡ true → IsDisk (own_of name slots) capacity
own_found name P capacity [] all f has = absurd cc
own_found name P capacity (s ∷ slots) all f has =
    elim (bytes_eq s.medium name) as (λ b. bytes_eq s.medium name ≡ b → b || has_medium name slots ≡ true
    → IsDisk (option_and_then (λ (t : WorldSlot). t.own) (cond b (Some s) (slot_of name slots))) capacity) [
      | true ↦ λ e h. f s all.0 (same_name s.medium name e)
      | false ↦ λ e h. own_found name P capacity slots all.1 f h
    ] refl has

module _ (media : List WorldMedium) (d : WorldMedium) (found : find_by medium_name d.name media ≡ Some d) where
  placed_at : (of_snapshot : Bool) (s : WorldSlot) → s.medium ≡ d.name → IsPlaced media of_snapshot s → IsSoundSlot of_snapshot s d
  placed_at of_snapshot s named placed =
      let there : find_by medium_name s.medium media ≡ Some d = ap (λ (n : Name). find_by medium_name n media) named ∙ found in
      let same : placed.0 ≡ d = let one : Some placed.0 ≡ Some d = sym placed.1 ∙ there in cc in
      subst (λ e. IsSoundSlot of_snapshot s e) same placed.2

  -- a snapshot's slot of a normal medium has a copy
  held_normal : (mode : Mode) (is_own : Bool) → is_normal mode ≡ true → MayHold mode is_own true → is_own ≡ true
  held_normal Normal is_own normal held = held refl
  held_normal Immutable is_own normal held = absurd cc
  held_normal Writethrough is_own normal held = absurd cc
  held_normal MultiAttach is_own normal held = absurd cc
  held_normal Readonly is_own normal held = absurd cc

  pub snapshot_own : is_normal d.mode ≡ true → (slots : List WorldSlot) → AreSoundSlots media true slots → has_medium d.name slots ≡ true
      → IsDisk (own_of d.name slots) d.capacity
  snapshot_own normal slots sound = own_found d.name (IsPlaced media true) d.capacity slots sound.placed (λ s placed named.
      let slot = placed_at true s named placed in (held_normal d.mode (is_some s.own) normal slot.held, slot.disk))

  -- and where the medium has no disk, a machine's slot has its own
  pub machine_own : is_some d.flat ≡ false → (slots : List WorldSlot) → AreSoundSlots media false slots → has_medium d.name slots ≡ true
      → IsDisk (own_of d.name slots) d.capacity
  machine_own bare slots sound = own_found d.name (IsPlaced media false) d.capacity slots sound.placed (λ s placed named.
      let slot = placed_at false s named placed in (not_direct s.own slot.shared, slot.disk)) where
        not_direct : (own : Option FlatDisk) → (IsTrue (is_none own) → IsTrue (is_some d.flat)) → is_some own ≡ true
        not_direct None shared = let clash : true ≡ false = sym (shared refl) ∙ bare in absurd cc
        not_direct (Some disk) shared = refl
