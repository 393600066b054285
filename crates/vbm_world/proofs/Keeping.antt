-- A step leads from a sound world to a sound one.
use Rattle.std.proofs.Common.{◌≡◌, ℕ, ◌+◌, ◌*◌, ◌/◌, ◌%◌, ◌^◌, ◌≤◌, Bool, true, false, ◌&&◌, ◌||◌, List, [], ◌∷◌, length, Option, Some, None, Result, Ok, Err, refl, sym, ap, subst, ◌∙◌, arith, is_some, is_none, IsTrue, IsFalse, IfSome, replicate, nat_lt, ◌==◌, if◌then◌else◌, leb-false, eqb-true}
use Rattle.std.specs.List.{AllByRecursion, list_any}
use Rattle.std.specs.Option.{option_map}
use Rattle.std.specs.Str.{bytes_eq}
use Rattle.std.proofs.lemmas.Bool.{and_right, or_parts, or_from, not-false, false_from_ne_true, cond_both}
use Rattle.std.proofs.lemmas.List.{length-replicate}
use Rattle.std.proofs.lemmas.Slice.Eq.{bytes_eq-Decides}
use Rattle.vbm_ports.specs.Names.{is_medium_name}
use Rattle.vbm_ids.specs.declared.TheConstants.{NUMBER_LIMIT}
use Rattle.vbm_modes.specs.declared.Mode.{Mode}
use Rattle.vbm_volume.specs.Sectors.{FlatDisk}
use Rattle.vbm_world.specs.declared.limits.TheConstants.{MEDIA_LIMIT}
use Rattle.vbm_world.specs.declared.command.Refusal.{Refusal}
use Rattle.vbm_world.specs.declared.world.WorldMedium.{WorldMedium}
use Rattle.vbm_world.specs.declared.world.WorldSlot.{WorldSlot}
use Rattle.vbm_world.specs.declared.world.WorldSnapshot.{WorldSnapshot}
use Rattle.vbm_world.specs.declared.world.WorldMachine.{WorldMachine}
use Rattle.vbm_world.specs.declared.world.Shelved.{Shelved}
use Rattle.vbm_named.specs.Names.{Name, find_by, has_name, put_by, without}
use Rattle.vbm_world.specs.World.{World, medium_name, medium_of, snapshot_name, has_medium, is_in_snapshot, is_in_use, is_normal, zero_disk, with_shelved}
use Rattle.vbm_world.specs.Places.{slots_of, slots_named}
use Rattle.vbm_world.specs.Refusals.{Check, first_refusal, is_bad_size, is_full}
use Rattle.vbm_world.specs.Outcomes.{Outcome, refused, refused_or, unless_refused, found_or, sought_or}
use Rattle.vbm_world.specs.Sound.{HasCapacity, IsSoundMedium, IsSoundSlot, IsPlaced, AreSoundSlots, is_some_normal, is_of_normal, IsSoundMachine, IsSoundShelf, IsSound}
use Rattle.vbm_named.proofs.Lists.{name_refl, name_sym, All-map, All-join, any_none, none_of_any, All-find, All-put, find_put_other, rises_put, length-put, All-without, others-without, find_without_other, rises_without, length-without}

-- ---- outcomes

-- what holds of a refusal, and of the outcome where no check refuses
pub unless : (P : Outcome → Type 0) (w : World) (checks : List Check) (outcome : Outcome) → ((refusal : Refusal) → P (refused w refusal))
    → (AllByRecursion (λ (check : Check). check.0 ≡ false) checks → P outcome) → P (unless_refused w checks outcome)
unless P w [] outcome stays goes = goes tt
unless P w (check ∷ checks) outcome stays goes =
    cond_both check.0 (Some check.1) (first_refusal checks) (λ refusal. P (refused_or w refusal outcome))
    (λ e. stays check.1) (λ e. unless P w checks outcome stays (λ pass. goes (e, pass)))

-- what holds where nothing is found, and of the outcome of what is found
pub found : {X : Type 0} (P : Outcome → Type 0) (w : World) (refusal : Refusal) (o : Option X) (outcome : X → Outcome) → P (refused w refusal)
    → ((x : X) → o ≡ Some x → P (outcome x)) → P (found_or w refusal o outcome)
found P w refusal None outcome stays goes = stays
found P w refusal (Some x) outcome stays goes = goes x refl

pub sought : {X : Type 0} (P : Outcome → Type 0) (w : World) (o : Result X Refusal) (outcome : X → Outcome) → ((refusal : Refusal) → P (refused w refusal))
    → ((x : X) → o ≡ Ok x → P (outcome x)) → P (sought_or w o outcome)
sought P w (Err refusal) outcome stays goes = stays refusal
sought P w (Ok x) outcome stays goes = goes x refl

-- ---- machines, where other media agree in what slots ask of them

-- what a slot asks of its medium
abbrev pub asked_of : WorldMedium → Mode × ℕ × Bool
asked_of m = (m.mode, m.capacity, is_some m.flat)

abbrev pub Agree : List WorldMedium → List WorldMedium → WorldSlot → Type 0
Agree media other s = option_map asked_of (find_by medium_name s.medium other) ≡ option_map asked_of (find_by medium_name s.medium media)

-- it holds of a machine's slots and of those of its snapshots
abbrev pub EachSlot : (WorldSlot → Type 0) → WorldMachine → Type 0
EachSlot P m = AllByRecursion P m.slots × AllByRecursion (λ (s : WorldSnapshot). AllByRecursion P s.slots) m.snapshots

pub EachSlot-map : (P Q : WorldSlot → Type 0) → ((s : WorldSlot) → P s → Q s) → (m : WorldMachine) → EachSlot P m → EachSlot Q m
EachSlot-map P Q f m each = (All-map P Q f m.slots each.0, All-map _ _ (λ s all. All-map P Q f s.slots all) m.snapshots each.1)

slots_found : (P : WorldSlot → Type 0) (o : Option WorldSnapshot) → ((s : WorldSnapshot) → o ≡ Some s → AllByRecursion P s.slots)
    → AllByRecursion P (slots_of o)
slots_found P None all = tt
slots_found P (Some s) all = all s refl

pub All-named : (P : WorldSlot → Type 0) (name : Option Name) (snapshots : List WorldSnapshot)
    → AllByRecursion (λ (s : WorldSnapshot). AllByRecursion P s.slots) snapshots → AllByRecursion P (slots_named name snapshots)
All-named P None snapshots all = tt
All-named P (Some name) snapshots all =
    slots_found P (find_by snapshot_name name snapshots) (λ s is. All-find snapshot_name (λ s. AllByRecursion P s.slots) name s snapshots all is)

found_asked : (o : Option WorldMedium) (m : WorldMedium) → option_map asked_of o ≡ Some (asked_of m)
    → (n : WorldMedium) × (o ≡ Some n) × (asked_of n ≡ asked_of m)
found_asked None m e = absurd cc
found_asked (Some n) m e = (n, refl, cc)

slot_kept : (of_snapshot : Bool) (s : WorldSlot) (m n : WorldMedium) → asked_of n ≡ asked_of m
    → IsSoundSlot of_snapshot s m → IsSoundSlot of_snapshot s n
slot_kept of_snapshot s m n e sound =
    let mode : n.mode ≡ m.mode = ap (λ (k : Mode × ℕ × Bool). k.0) e in
    let capacity : n.capacity ≡ m.capacity = ap (λ (k : Mode × ℕ × Bool). k.1) e in
    let flat : is_some n.flat ≡ is_some m.flat = ap (λ (k : Mode × ℕ × Bool). k.2) e in
    record {
      held = rw mode sound.held;
      disk = rw capacity sound.disk;
      shared = λ direct. flat ∙ sound.shared direct;
      autoreset = rw mode sound.autoreset;
    }

normal_kept : (o p : Option WorldMedium) → option_map asked_of o ≡ option_map asked_of p → is_some_normal o ≡ is_some_normal p
normal_kept None None e = refl
normal_kept (Some m) (Some n) e = let same : asked_of m ≡ asked_of n = cc in ap (λ (k : Mode × ℕ × Bool). is_normal k.0) same
normal_kept o p e = absurd cc

module _ (media other : List WorldMedium) where
  placed_kept : (of_snapshot : Bool) (s : WorldSlot) → Agree media other s → IsPlaced media of_snapshot s → IsPlaced other of_snapshot s
  placed_kept of_snapshot s agree placed =
      let f = found_asked (find_by medium_name s.medium other) placed.0 (agree ∙ ap (option_map asked_of) placed.1) in
      (f.0, f.1, slot_kept of_snapshot s placed.0 f.0 f.2 placed.2)

  pub slots_kept : (of_snapshot : Bool) (slots : List WorldSlot) → AllByRecursion (Agree media other) slots
      → AreSoundSlots media of_snapshot slots → AreSoundSlots other of_snapshot slots
  slots_kept of_snapshot slots agree sound = record {
    ports = sound.ports;
    distinct = sound.distinct;
    placed = All-join (Agree media other) _ (IsPlaced other of_snapshot) (placed_kept of_snapshot) slots agree sound.placed;
  }

  -- what holds of slots of normal media
  normals_kept : (P : WorldSlot → Type 0) (slots : List WorldSlot) → AllByRecursion (Agree media other) slots
      → AllByRecursion (λ s. IsTrue (is_of_normal media s) → P s) slots → AllByRecursion (λ s. IsTrue (is_of_normal other s) → P s) slots
  normals_kept P = All-join (Agree media other) _ _ (λ s same holds normal. holds (sym (normal_kept _ _ same) ∙ normal))

  pub machine_kept : (m : WorldMachine) → EachSlot (Agree media other) m → IsSoundMachine media m → IsSoundMachine other m
  machine_kept m agree sound = record {
    tree = sound.tree;
    slots = slots_kept false m.slots agree.0 sound.slots;
    places = All-join _ _ _ (λ s. slots_kept true s.slots) m.snapshots agree.1 sound.places;
    children = All-map _ _ (λ s. normals_kept _ (slots_named s.parent m.snapshots) (All-named _ s.parent m.snapshots agree.1))
        m.snapshots sound.children;
    current = normals_kept _ (slots_named m.current m.snapshots) (All-named _ m.current m.snapshots agree.1) sound.current;
    own = normals_kept _ m.slots agree.0 sound.own;
  }

-- ---- media that no slot has

module _ (name : Name) (machines : List WorldMachine) where
  pub used_not : is_in_use machines name ≡ false → AllByRecursion (EachSlot (λ (s : WorldSlot). bytes_eq s.medium name ≡ false)) machines
  used_not unused = All-map _ _ (λ m none.
      let both = or_parts (has_medium name m.slots) (is_in_snapshot name m) none in
      (none_of_any _ m.slots both.0, All-map _ _ (λ s. none_of_any _ s.slots) m.snapshots (none_of_any _ m.snapshots both.1)))
      machines (none_of_any _ machines unused)

  pub not_frozen : (mode : Mode) → is_in_use machines name ≡ false → (is_normal mode && list_any (is_in_snapshot name) machines) ≡ false
  not_frozen mode unused = and_right (is_normal mode) _ (any_none (is_in_snapshot name) machines
      (All-map _ _ (λ m none. (or_parts (has_medium name m.slots) (is_in_snapshot name m) none).1) machines (none_of_any _ machines unused)))

  -- other media that differ in one that no slot has
  pub machines_kept : (media other : List WorldMedium) → is_in_use machines name ≡ false
      → ((n : Name) → bytes_eq n name ≡ false → find_by medium_name n other ≡ find_by medium_name n media)
      → AllByRecursion (IsSoundMachine media) machines → AllByRecursion (IsSoundMachine other) machines
  machines_kept media other unused same sound = All-join _ _ _ (λ m others. machine_kept media other m
      (EachSlot-map _ (Agree media other) (λ s apart. ap (option_map asked_of) (same s.medium apart)) m others)) machines (used_not unused) sound

  has_none : (media : List WorldMedium) (of_snapshot : Bool) (slots : List WorldSlot) → find_by medium_name name media ≡ None
      → AreSoundSlots media of_snapshot slots → has_medium name slots ≡ false
  has_none media of_snapshot slots absent sound =
      any_none _ slots (All-map (IsPlaced media of_snapshot) _ (λ s p. false_from_ne_true (bytes_eq s.medium name) (λ t.
      let same : s.medium ≡ name = (bytes_eq-Decides s.medium name).0 t in
      let there : find_by medium_name name media ≡ Some p.0 = ap (λ (n : Name). find_by medium_name n media) (sym same) ∙ p.1 in
      absurd cc)) slots sound.placed)

  -- a name that no medium has is not in use
  pub not_used : (media : List WorldMedium) → find_by medium_name name media ≡ None → AllByRecursion (IsSoundMachine media) machines
      → is_in_use machines name ≡ false
  not_used media absent sound = any_none _ machines (All-map (IsSoundMachine media) _ (λ m h.
      or_from (has_medium name m.slots) (is_in_snapshot name m) (has_none media false m.slots absent h.slots)
      (any_none _ m.snapshots (All-map _ _ (λ s. has_none media true s.slots absent) m.snapshots h.places))) machines sound)

-- ---- the shelf

-- files of the shelf stay sound where their names stay free
pub shelf_kept : (media other : List WorldMedium) (name : Name) (o : Option Shelved)
    → (is_some o ≡ true → IsFalse (has_name medium_name name media) → IsFalse (has_name medium_name name other))
    → IfSome o (IsSoundShelf media name) → IfSome o (IsSoundShelf other name)
shelf_kept media other name None free h = tt
shelf_kept media other name (Some content) free h = record { named = h.named; no_medium = free refl h.no_medium; sound = h.sound }

-- ---- one medium more

-- a medium that a sound world may get
pub record IsNew (w : World) (m : WorldMedium) : Type 0 where
  pub absent : is_some (medium_of w m.name) ≡ false
  pub named : IsTrue (is_medium_name m.name)
  pub has_disk : is_none m.flat ≡ false
  pub disk : HasCapacity m.flat m.capacity
  pub capacity : IsFalse (is_bad_size m.capacity)
  pub room : is_full w ≡ false

-- a shelf that fits a world's media and has no file of this name
pub record FitsShelf (w : World) (name : Name) (shelf : Name → Option Shelved) : Type 0 where
  pub sound : (other : Name) → IfSome (shelf other) (IsSoundShelf w.media other)
  pub away : is_some (shelf name) ≡ false

none_from : {X : Type 0} (o : Option X) → is_some o ≡ false → o ≡ None
none_from None e = refl
none_from (Some x) e = absurd cc

pub added_sound : (w : World) → IsSound w → (m : WorldMedium) → IsNew w m → (next : ℕ) → next ≤ NUMBER_LIMIT
    → (shelf : Name → Option Shelved) → FitsShelf w m.name shelf
    → IsSound (record w { next = next; media = put_by medium_name m w.media; shelf = shelf })
added_sound w ok m new next low shelf fits =
    let absent = none_from (medium_of w m.name) new.absent in
    let unused = not_used m.name w.machines w.media absent ok.machines in
    let free = not_frozen m.name w.machines m.mode unused in
    record {
      seed = ok.seed;
      next = low;
      inner = ok.inner;
      media_order = rises_put medium_name m w.media absent ok.media_order;
      media_names = All-put medium_name _ m w.media new.named ok.media_names;
      media = All-put medium_name _ m w.media (record { frozen = new.has_disk ∙ sym free; disk = new.disk; capacity = new.capacity }) ok.media;
      machine_order = ok.machine_order;
      machines = machines_kept m.name w.machines w.media (put_by medium_name m w.media) unused
          (λ n apart. find_put_other medium_name n m w.media (name_sym m.name n ∙ apart)) ok.machines;
      first = All-put medium_name _ m w.media (λ frozen. let clash : true ≡ false = sym frozen ∙ free in absurd cc) ok.first;
      shelf = λ other. shelf_kept w.media (put_by medium_name m w.media) other (shelf other) (λ there none.
          any_none _ (put_by medium_name m w.media) (All-put medium_name _ m w.media (false_from_ne_true (bytes_eq m.name other) (λ t.
          let same : m.name ≡ other = (bytes_eq-Decides m.name other).0 t in
          let gone : is_some (shelf other) ≡ false = subst (λ n. is_some (shelf n) ≡ false) same fits.away in
          absurd cc)) (none_of_any _ w.media none))) (fits.sound other);
      few_media = omega (arith, length-put medium_name m w.media, leb-false MEDIA_LIMIT (length w.media) new.room);
      few_machines = ok.few_machines;
      few_snapshots = ok.few_snapshots;
      few_places = ok.few_places;
    }

-- ---- one medium less

pub shelf_without : (name : Name) (media : List WorldMedium) (other : Name) (o : Option Shelved)
    → IfSome o (IsSoundShelf media other) → IfSome o (IsSoundShelf (without medium_name name media) other)
shelf_without name media other o = shelf_kept media (without medium_name name media) other o
    (λ there free. any_none _ (without medium_name name media) (All-without medium_name _ name media (none_of_any _ media free)))

pub removed_sound : (w : World) → IsSound w → (name : Name) → is_in_use w.machines name ≡ false → (shelf : Name → Option Shelved)
    → ((other : Name) → IfSome (shelf other) (IsSoundShelf (without medium_name name w.media) other))
    → IsSound (record w { media = without medium_name name w.media; shelf = shelf })
removed_sound w ok name unused shelf sound = record {
  seed = ok.seed;
  next = ok.next;
  inner = ok.inner;
  media_order = rises_without medium_name name w.media ok.media_order;
  media_names = All-without medium_name _ name w.media ok.media_names;
  media = All-without medium_name _ name w.media ok.media;
  machine_order = ok.machine_order;
  machines = machines_kept name w.machines w.media (without medium_name name w.media) unused
      (λ n apart. find_without_other medium_name name n w.media (name_sym name n ∙ apart)) ok.machines;
  first = All-without medium_name _ name w.media ok.first;
  shelf = sound;
  few_media = omega (arith, length-without medium_name name w.media, ok.few_media);
  few_machines = ok.few_machines;
  few_snapshots = ok.few_snapshots;
  few_places = ok.few_places;
}

-- ---- capacities

whole_sectors : (n : ℕ) → is_bad_size n ≡ false → n ≡ 512 * (n / 512)
whole_sectors n good =
    let rest : n % 512 ≡ 0 = eqb-true (n % 512) 0 (not-false (n % 512 == 0) (or_parts ((n == 0) || nat_lt (2 ^ 41) n) _ good).1) in
    omega arith

pub zero_disk_fits : (capacity : ℕ) → is_bad_size capacity ≡ false → capacity ≡ 512 * length (zero_disk capacity)
unfolding zero_disk
zero_disk_fits capacity good = whole_sectors capacity good ∙ ap (λ (n : ℕ). 512 * n) (sym (length-replicate (capacity / 512) (replicate 512 0)))

-- ---- outcomes that lead to sound worlds

abbrev pub LeadsToSound : Outcome → Type 0
LeadsToSound outcome = IsSound outcome.1
