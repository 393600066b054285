-- Deleting a snapshot leads from a sound world to a sound one.
use Rattle.std.proofs.Common.{◌≡◌, ℕ, ◌+◌, ◌≤◌, Bool, true, false, not, ◌&&◌, ◌||◌, cond, if◌then◌else◌, List, [], ◌∷◌, length, map, count_by, Option, Some, None, is_some, is_none, refl, sym, ap, subst, ◌∙◌, arith, IsTrue}
use Rattle.std.specs.List.{AllByRecursion, list_any, sum_by}
use Rattle.std.specs.Str.{bytes_eq}
use Rattle.std.proofs.lemmas.Bool.{cond_both, or_parts, and_parts, ltb-false, false_from_ne_true}
use Rattle.std.proofs.lemmas.List.{length-map}
use Rattle.std.proofs.lemmas.List.Sums.{sum_by-cons}
use Rattle.vbm_ids.specs.declared.TheConstants.{NUMBER_LIMIT}
use Rattle.vbm_modes.specs.declared.Mode.{Mode}
use Rattle.vbm_modes.specs.declared.Mode.TheVariants.{Normal, Immutable, Writethrough, MultiAttach, Readonly}
use Rattle.vbm_volume.specs.Sectors.{FlatDisk}
use Rattle.vbm_world.specs.declared.command.Refusal.TheVariants.{NoSuchMachine, NoSuchSnapshot}
use Rattle.vbm_world.specs.declared.world.WorldMedium.{WorldMedium}
use Rattle.vbm_world.specs.declared.world.WorldSlot.{WorldSlot}
use Rattle.vbm_world.specs.declared.world.WorldSnapshot.{WorldSnapshot}
use Rattle.vbm_world.specs.declared.world.WorldMachine.{WorldMachine}
use Rattle.vbm_named.specs.Names.{Name, find_by, without, change_by, Rises}
use Rattle.vbm_world.specs.World.{World, medium_name, machine_name, snapshot_name, has_medium, is_in_snapshot, is_normal, is_frozen}
use Rattle.vbm_world.specs.Places.{machine_of, snapshot_of, slots_named}
use Rattle.vbm_world.specs.Refusals.{places_of}
use Rattle.vbm_world.specs.Snapshots.{is_this, dependents, parent_after, adopted, snapshots_after, base_slots, inner_slots, own_of, is_thawed, thawed_disk, medium_after, slot_after, deleted, delete_checks, delete_snapshot}
use Rattle.vbm_world.specs.Tree.{IsTree, branch_of}
use Rattle.vbm_world.specs.Sound.{HasCapacity, IsSoundMedium, MayHold, IsSoundSlot, IsPlaced, AreSoundSlots, has_at, is_some_normal, is_of_normal, Inherits, IsSoundMachine, first_count, IsSound}
use Rattle.vbm_named.proofs.Lists.{same_name, All-map, All-join, All-of_map, All-find, All-without, any_none, none_of_any, any_map, find_named, each_found, has_map, rises_map, length-without}
use Rattle.vbm_world.proofs.Keeping.{LeadsToSound, unless, found, All-named, shelf_kept}
use Rattle.vbm_world.proofs.Parted.{any-parted, any-changed, any-named, sum-parted, sum-changed, rises-swapped, All-swapped}
use Rattle.vbm_world.proofs.DeletingTree.{deleted_tree}
use Rattle.vbm_world.proofs.DeletingCounts.{tree_rises, named_gone, heir_gone, heir_other, first_kept, first_gone, came_somewhere}
use Rattle.vbm_world.proofs.DeletingSlots.{IsDisk, at_has, handed, inherits_through, at_same, at-map, ports-map, own-map, medium_found, slots_more, normal_same, normals_more, machine_more, snapshot_own, machine_own}

-- ---- tests of a medium: whether it is normal, whether the deleted snapshot has it, and whether another one has it

thaw_parts : (nrm g a : Bool) → (nrm && g && not a) ≡ true → (nrm ≡ true) × (g ≡ true) × (a ≡ false)
thaw_parts true true false e = (refl, refl, refl)
thaw_parts true true true e = absurd cc
thaw_parts true false true e = absurd cc
thaw_parts true false false e = absurd cc
thaw_parts false true true e = absurd cc
thaw_parts false true false e = absurd cc
thaw_parts false false true e = absurd cc
thaw_parts false false false e = absurd cc

held_still : (nrm g a : Bool) → nrm ≡ true → g ≡ true → (nrm && g && not a) ≡ false → a ≡ true
held_still nrm g true en eg e = refl
held_still true true false en eg e = absurd cc
held_still true false false en eg e = absurd cc
held_still false g false en eg e = absurd cc

-- a frozen medium has no disk
bare_is : (flat : Option FlatDisk) (nrm g a b : Bool) → is_none flat ≡ (nrm && b) → b ≡ (g || a) → nrm ≡ true → g ≡ true → is_some flat ≡ false
bare_is None nrm g a b f is en eg = refl
bare_is (Some disk) nrm g a b f is en eg =
    let all : (nrm && b) ≡ true = rw (en, is, eg) refl in let clash : false ≡ true = f ∙ all in absurd cc

some_none : (x : Option FlatDisk) → is_some x ≡ true → is_none x ≡ false
some_none None e = absurd cc
some_none (Some disk) e = refl

frozen_after : (nrm g a b : Bool) (x flat : Option FlatDisk) → is_none flat ≡ (nrm && b) → b ≡ (g || a)
    → ((nrm && g && not a) ≡ true → is_some x ≡ true) → is_none (if (nrm && g && not a) then x else flat) ≡ (nrm && a)
frozen_after false true true b x flat f is some = f
frozen_after false true false b x flat f is some = f
frozen_after false false true b x flat f is some = f
frozen_after false false false b x flat f is some = f
frozen_after true false true b x flat f is some = f ∙ is
frozen_after true false false b x flat f is some = f ∙ is
frozen_after true true true b x flat f is some = f ∙ is
frozen_after true true false b x flat f is some = some_none x (some refl)

shares : (t : Bool) (x flat own : Option FlatDisk) → (t ≡ true → is_some x ≡ true) → (is_none own ≡ true → is_some flat ≡ true)
    → is_none (if t then None else own) ≡ true → is_some (if t then x else flat) ≡ true
shares true x flat own some shared direct = some refl
shares false x flat own some shared direct = shared direct

direct_normal : (mode : Mode) → is_normal mode ≡ true → MayHold mode false false
direct_normal Normal normal = λ e. e
direct_normal Immutable normal = absurd cc
direct_normal Writethrough normal = absurd cc
direct_normal MultiAttach normal = absurd cc
direct_normal Readonly normal = absurd cc

-- ---- media, and the slots of the machine

module _ (w : World) (m : WorldMachine) (gone : WorldSnapshot) (after : List WorldMachine) (rises : Rises medium_name w.media)
    (each : AllByRecursion (IsSoundMedium w.machines) w.media)
    (was : (n : Name) → list_any (is_in_snapshot n) w.machines ≡ (has_medium n gone.slots || list_any (is_in_snapshot n) after))
    (mine : AreSoundSlots w.media false m.slots) (its : AreSoundSlots w.media true gone.slots) where
  record IsKnown (d : WorldMedium) : Type 0 where
    pub found : find_by medium_name d.name w.media ≡ Some d
    pub sound : IsSoundMedium w.machines d

  known : AllByRecursion IsKnown w.media
  known = All-join _ _ IsKnown (λ d found sound. record { found = found; sound = sound }) w.media (each_found medium_name w.media rises) each

  thawed_is : (d : WorldMedium) → IsKnown d → is_thawed gone after d ≡ true → IsDisk (thawed_disk m gone d.name) d.capacity
  thawed_is d is t =
      let held = list_any (is_in_snapshot d.name) w.machines in
      let parts = thaw_parts (is_normal d.mode) (has_medium d.name gone.slots) (list_any (is_in_snapshot d.name) after) t in
      let bare = bare_is d.flat (is_normal d.mode) (has_medium d.name gone.slots) (list_any (is_in_snapshot d.name) after) held
      is.sound.frozen (was d.name) parts.0 parts.1 in
      cond_both (has_medium d.name m.slots) (own_of d.name m.slots) (own_of d.name gone.slots) (λ o. IsDisk o d.capacity)
      (λ e. machine_own w.media d is.found bare m.slots mine e)
      (λ e. snapshot_own w.media d is.found parts.0 gone.slots its parts.1)

  medium_sound : (d : WorldMedium) → IsKnown d → IsSoundMedium after (medium_after w m gone after d)
  medium_sound d is = record {
    frozen = frozen_after (is_normal d.mode) (has_medium d.name gone.slots) (list_any (is_in_snapshot d.name) after)
        (list_any (is_in_snapshot d.name) w.machines) (thawed_disk m gone d.name) d.flat is.sound.frozen (was d.name) (λ t. (thawed_is d is t).0);
    disk = cond_both (is_thawed gone after d) (thawed_disk m gone d.name) d.flat (λ o. HasCapacity o d.capacity)
        (λ t. (thawed_is d is t).1) (λ t. is.sound.disk);
    capacity = is.sound.capacity;
  }

  pub media_sound : AllByRecursion (λ (d : WorldMedium). IsSoundMedium after (medium_after w m gone after d)) w.media
  media_sound = All-map IsKnown _ medium_sound w.media known

  pub media_more : AllByRecursion (λ (d : WorldMedium). is_some d.flat ≡ true → is_some (medium_after w m gone after d).flat ≡ true) w.media
  media_more = All-map IsKnown _ (λ d is some. cond_both (is_thawed gone after d) (thawed_disk m gone d.name) d.flat (λ o. is_some o ≡ true)
      (λ t. (thawed_is d is t).0) (λ t. some)) w.media known

  pub slot_is : (s : WorldSlot) (d : WorldMedium) → find_by medium_name s.medium w.media ≡ Some d
      → slot_after w gone after s ≡ record s { own = if is_thawed gone after d then None else s.own }
  slot_is s d at = ap (λ (b : Bool). record s { own = if b then None else s.own }) (any-named medium_name s.medium w.media d rises at (is_thawed gone after))

  slot_sound : (s : WorldSlot) (d : WorldMedium) → IsKnown d → IsSoundSlot false s d
      → IsSoundSlot false (record s { own = if is_thawed gone after d then None else s.own }) (medium_after w m gone after d)
  slot_sound s d is slot =
      let t = is_thawed gone after d in record {
        held = cond_both t None s.own (λ o. MayHold d.mode (is_some o) false)
            (λ e. direct_normal d.mode (thaw_parts (is_normal d.mode) (has_medium d.name gone.slots) (list_any (is_in_snapshot d.name) after) e).0)
            (λ e. slot.held);
        disk = cond_both t None s.own (λ o. HasCapacity o d.capacity) (λ e. tt) (λ e. slot.disk);
        shared = shares t (thawed_disk m gone d.name) d.flat s.own (λ e. (thawed_is d is e).0) slot.shared;
        autoreset = slot.autoreset;
      }

  pub slot_placed : (s : WorldSlot) → IsPlaced w.media false s → IsPlaced (map (medium_after w m gone after) w.media) false (slot_after w gone after s)
  slot_placed s placed =
      let d = placed.0 in
      subst (IsPlaced (map (medium_after w m gone after) w.media) false) (sym (slot_is s d placed.1)) (
        medium_after w m gone after d,
        medium_found w.media (medium_after w m gone after) (λ d. refl) (λ d. refl) (λ d. refl) media_more s.medium d placed.1,
        slot_sound s d (All-find medium_name IsKnown s.medium d w.media known placed.1) placed.2,
      )

-- ---- the deleted snapshot's slots, and what stands on them

sum-map : {X Y : Type 0} (f : Y → ℕ) (g : X → Y) (xs : List X) → sum_by f (map g xs) ≡ sum_by (λ x. f (g x)) xs
sum-map f g [] = refl
sum-map {X} {Y} f g (x ∷ xs) =
    let one = sum_by-cons f (g x) (map g xs) in let two = sum_by-cons (λ (y : X). f (g y)) x xs in let more = sum-map f g xs in omega arith

-- slots that no snapshot has, no named one has
none_named : (n : Name) (p : Option Name) (snapshots : List WorldSnapshot) → list_any (λ (s : WorldSnapshot). has_medium n s.slots) snapshots ≡ false
    → has_medium n (slots_named p snapshots) ≡ false
none_named n p snapshots none = any_none _ (slots_named p snapshots) (All-named (λ (s : WorldSlot). bytes_eq s.medium n ≡ false) p snapshots
    (All-map _ _ (λ (s : WorldSnapshot). none_of_any (λ (t : WorldSlot). bytes_eq t.medium n) s.slots) snapshots (none_of_any _ snapshots none)))

not_at : (port : ℕ) (n : Name) (slots : List WorldSlot) → has_medium n slots ≡ false → has_at port n slots ≡ false
not_at port n slots none = false_from_ne_true (has_at port n slots) (λ at. let clash : true ≡ false = sym (at_has port n slots at) ∙ none in absurd cc)

module _ (w : World) (ok : IsSound w) (m : WorldMachine) (gone : WorldSnapshot) (here : find_by machine_name m.name w.machines ≡ Some m)
    (there : find_by snapshot_name gone.name m.snapshots ≡ Some gone) (few : dependents m gone.name ≤ 1) where
  abbrev less : WorldMachine
  less = record m { snapshots = snapshots_after m gone; current = parent_after gone m.current }

  abbrev after : List WorldMachine
  after = change_by machine_name m.name (λ _. less) w.machines

  abbrev machine : WorldMachine
  machine = record less { slots = map (slot_after w gone after) m.slots }

  abbrev machines : List WorldMachine
  machines = change_by machine_name m.name (λ _. machine) w.machines

  abbrev media : List WorldMedium
  media = map (medium_after w m gone after) w.media

  abbrev left : List WorldSnapshot
  left = without snapshot_name gone.name m.snapshots

  abbrev upper : List WorldSlot
  upper = slots_named gone.parent m.snapshots

  before : IsSoundMachine w.media m
  before = All-find machine_name (IsSoundMachine w.media) m.name m w.machines ok.machines here

  its : AreSoundSlots w.media true gone.slots
  its = All-find snapshot_name _ gone.name gone m.snapshots before.places there

  down : Inherits w.media upper gone.slots
  down = All-find snapshot_name _ gone.name gone m.snapshots before.children there

  tree_after : IsTree (map branch_of (snapshots_after m gone)) (parent_after gone m.current)
  tree_after = deleted_tree m gone before.tree there few

  -- ---- which snapshots have a medium

  module _ (n : Name) where
    abbrev elsewhere : Bool
    elsewhere = list_any (is_in_snapshot n) (without machine_name m.name w.machines)

    was_in : is_in_snapshot n m ≡ (has_medium n gone.slots || is_in_snapshot n less)
    was_in = any-parted snapshot_name gone.name m.snapshots gone (tree_rises m.snapshots m.current before.tree) there (λ (s : WorldSnapshot). has_medium n s.slots)
        ∙ ap (λ (b : Bool). has_medium n gone.slots || b) (sym (any_map (adopted gone) (λ (s : WorldSnapshot). has_medium n s.slots) left))

    any_before : list_any (is_in_snapshot n) w.machines ≡ (is_in_snapshot n m || elsewhere)
    any_before = any-parted machine_name m.name w.machines m ok.machine_order here (is_in_snapshot n)

    any_after : list_any (is_in_snapshot n) after ≡ (is_in_snapshot n less || elsewhere)
    any_after = any-changed machine_name m.name w.machines m ok.machine_order here (is_in_snapshot n) less

    was : list_any (is_in_snapshot n) w.machines ≡ (has_medium n gone.slots || list_any (is_in_snapshot n) after)
    was = any_before ∙ ap (λ (b : Bool). b || elsewhere) was_in ∙ or_assoc (has_medium n gone.slots) (is_in_snapshot n less) elsewhere
        ∙ ap (λ (b : Bool). has_medium n gone.slots || b) (sym any_after) where
          or_assoc : (a b c : Bool) → ((a || b) || c) ≡ (a || (b || c))
          or_assoc true b c = refl
          or_assoc false b c = refl

    -- and which have it in the end
    any_now : list_any (is_in_snapshot n) machines ≡ list_any (is_in_snapshot n) after
    any_now = any-changed machine_name m.name w.machines m ok.machine_order here (is_in_snapshot n) machine ∙ sym any_after

    not_in_less : list_any (is_in_snapshot n) after ≡ false → is_in_snapshot n less ≡ false
    not_in_less none = (or_parts (is_in_snapshot n less) elsewhere (sym any_after ∙ none)).0

    -- ---- how often it came in

    sum_before : sum_by (first_count n) w.machines ≡ first_count n m + sum_by (first_count n) (without machine_name m.name w.machines)
    sum_before = sum-parted machine_name m.name w.machines m ok.machine_order here (first_count n)

    sum_after : sum_by (first_count n) after ≡ first_count n less + sum_by (first_count n) (without machine_name m.name w.machines)
    sum_after = sum-changed machine_name m.name w.machines m ok.machine_order here (first_count n) less

    sum_now : sum_by (first_count n) machines ≡ first_count n less + sum_by (first_count n) (without machine_name m.name w.machines)
    sum_now = sum-changed machine_name m.name w.machines m ok.machine_order here (first_count n) machine

    came : list_any (is_in_snapshot n) after ≡ true → 1 ≤ sum_by (first_count n) after
    came = came_somewhere n after (All-swapped machine_name (λ (k : WorldMachine). IsTree (map branch_of k.snapshots) k.current) m.name less tree_after w.machines
        (All-map _ (λ (k : WorldMachine). IsTree (map branch_of k.snapshots) k.current) (λ k sound. sound.tree) w.machines ok.machines))

    children_few : count_by (λ (s : WorldSnapshot). is_this gone.name s.parent) m.snapshots ≤ 1
    children_few = omega (arith, few)

    first_now : sum_by (first_count n) w.machines ≡ 1 → list_any (is_in_snapshot n) after ≡ true → sum_by (first_count n) machines ≡ 1
    first_now once some =
        let kept : first_count n less ≤ first_count n m = first_kept m gone before.tree there n children_few in
        let more = came some in let a = sum_before in let b = sum_after in let c = sum_now in omega arith

    -- Where the deleted snapshot is current, has the medium, and so has another snapshot, its parent has it.
    parent_has : is_this gone.name m.current ≡ true → sum_by (first_count n) w.machines ≡ 1 → list_any (is_in_snapshot n) after ≡ true
        → has_medium n gone.slots ≡ true → has_medium n upper ≡ true
    parent_has current once some has =
        let mine : cond {A = ℕ} (is_this gone.name m.current) 1 0 ≡ 1 = ap (λ (b : Bool). cond {A = ℕ} b 1 0) current in
        let fewer : first_count n less + cond (has_medium n gone.slots && not (has_medium n upper)) 1 0 ≤ first_count n m =
        first_gone m gone before.tree there n (omega (arith, few, mine)) in
        let more = came some in let a = sum_before in let b = sum_after in
        up (has_medium n gone.slots) (has_medium n upper) has (omega arith) where
          up : (g p : Bool) → g ≡ true → cond (g && not p) 1 0 ≤ 0 → p ≡ true
          up g true eg none = refl
          up true false eg none = absurd (omega (arith, none))
          up false false eg none = absurd cc

  -- ---- media

  media_now : AllByRecursion (λ (d : WorldMedium). IsSoundMedium machines (medium_after w m gone after d)) w.media
  media_now = All-map _ _ (λ (d : WorldMedium). λ (sound : IsSoundMedium after (medium_after w m gone after d)). record {
    frozen = sound.frozen ∙ ap (λ (b : Bool). is_normal d.mode && b) (sym (any_now d.name));
    disk = sound.disk;
    capacity = sound.capacity;
  }) w.media (media_sound w m gone after ok.media_order ok.media was before.slots its)

  more : AllByRecursion (λ (d : WorldMedium). is_some d.flat ≡ true → is_some (medium_after w m gone after d).flat ≡ true) w.media
  more = media_more w m gone after ok.media_order ok.media was before.slots its

  -- a frozen medium came in once
  once : (d : WorldMedium) → find_by medium_name d.name w.media ≡ Some d → is_normal d.mode ≡ true → list_any (is_in_snapshot d.name) after ≡ true
      → sum_by (first_count d.name) w.machines ≡ 1
  once d found normal some = All-find medium_name _ d.name d w.media ok.first found
      (both (is_normal d.mode) (list_any (is_in_snapshot d.name) w.machines) (has_medium d.name gone.slots) (list_any (is_in_snapshot d.name) after)
      normal some (was d.name)) where
        both : (nrm b g a : Bool) → nrm ≡ true → a ≡ true → b ≡ (g || a) → (nrm && b) ≡ true
        both nrm b true a en ea is = rw (en, is) refl
        both nrm b false a en ea is = rw (en, is, ea) refl

  first : AllByRecursion (λ (d : WorldMedium). IsTrue (is_frozen machines (medium_after w m gone after d)) → sum_by (first_count d.name) machines ≡ 1) w.media
  first = All-map _ _ (λ (d : WorldMedium). λ (found : find_by medium_name d.name w.media ≡ Some d). λ frozen.
      let parts = and_parts (is_normal d.mode) (list_any (is_in_snapshot d.name) machines) frozen in
      let some : list_any (is_in_snapshot d.name) after ≡ true = sym (any_now d.name) ∙ parts.1 in
      first_now d.name (once d found parts.0 some) some) w.media (each_found medium_name w.media ok.media_order)

  -- ---- the machine

  inherits_after : (p : Option Name) (lower : List WorldSlot) → Inherits w.media (slots_named p m.snapshots) lower
      → Inherits w.media (slots_named (parent_after gone p) (snapshots_after m gone)) lower
  inherits_after p lower inherits =
      elim (is_this gone.name p) as (λ b. is_this gone.name p ≡ b → Inherits w.media (slots_named (parent_after gone p) (snapshots_after m gone)) lower) [
        | true ↦ λ e. subst (λ u. Inherits w.media u lower) (sym (heir_gone m gone before.tree there p e))
            (inherits_through w.media upper gone.slots lower down (subst (λ u. Inherits w.media u lower) (named_gone m gone before.tree there p e) inherits))
        | false ↦ λ e. subst (λ u. Inherits w.media u lower) (sym (heir_other m gone before.tree there p e)) inherits
      ] refl

  -- the machine's own disks: those of media that its current snapshot has
  current_slots : List WorldSlot
  current_slots = slots_named (parent_after gone m.current) (snapshots_after m gone)

  same_at : (s : WorldSlot) (d : WorldMedium) → d.name ≡ s.medium → find_by medium_name d.name w.media ≡ Some d → is_normal d.mode ≡ true
      → is_thawed gone after d ≡ false
      → has_at s.port d.name (slots_named m.current m.snapshots) ≡ has_at s.port d.name (slots_named (parent_after gone m.current) (snapshots_after m gone))
  same_at s d named found normal still =
      let n = d.name in
      let of_normal : IsTrue (is_some_normal (find_by medium_name d.name w.media)) = ap is_some_normal found ∙ normal in
      elim (is_this gone.name m.current) as (λ b. is_this gone.name m.current ≡ b
      → has_at s.port d.name (slots_named m.current m.snapshots) ≡ has_at s.port d.name (slots_named (parent_after gone m.current) (snapshots_after m gone))) [
        | false ↦ λ e. ap (has_at s.port d.name) (sym (heir_other m gone before.tree there m.current e))
        | true ↦ λ e.
            ap (has_at s.port d.name) (named_gone m gone before.tree there m.current e)
            ∙ elim (has_at s.port d.name gone.slots) as (λ b. has_at s.port d.name gone.slots ≡ b → b ≡ has_at s.port d.name upper) [
              | false ↦ λ at. sym (false_from_ne_true (has_at s.port d.name upper) (λ up.
                  let clash : true ≡ false = sym (handed w.media upper gone.slots down s.port d.name of_normal up) ∙ at in absurd cc))
              | true ↦ λ at.
                  let has = at_has s.port d.name gone.slots at in
                  let some = held_still (is_normal d.mode) (has_medium d.name gone.slots) (list_any (is_in_snapshot d.name) after) normal has still in
                  sym (at_same w.media upper gone.slots down its.distinct s.port d.name of_normal at
                  (parent_has d.name e (once d found normal some) some has))
            ] refl
            ∙ ap (has_at s.port d.name) (sym (heir_gone m gone before.tree there m.current e))
      ] refl

  own_now : (s : WorldSlot) → IsPlaced w.media false s
      → (IsTrue (is_of_normal w.media s) → is_some s.own ≡ has_at s.port s.medium (slots_named m.current m.snapshots))
      → IsTrue (is_of_normal w.media s)
      → is_some (slot_after w gone after s).own ≡ has_at s.port s.medium (slots_named (parent_after gone m.current) (snapshots_after m gone))
  own_now s placed own normal =
      let d = placed.0 in
      let named : d.name ≡ s.medium = same_name d.name s.medium (find_named medium_name s.medium d w.media placed.1) in
      let found : find_by medium_name d.name w.media ≡ Some d = subst (λ n. find_by medium_name n w.media ≡ Some d) (sym named) placed.1 in
      let is_normal_medium : is_normal d.mode ≡ true = sym (ap is_some_normal placed.1) ∙ normal in
      let old : is_some s.own ≡ has_at s.port s.medium (slots_named m.current m.snapshots) = own normal in
      ap (λ (t : WorldSlot). is_some t.own) (slot_is w m gone after ok.media_order ok.media was before.slots its s d placed.1)
      ∙ subst (λ n. is_some (if is_thawed gone after d then None else s.own) ≡ has_at s.port n (slots_named (parent_after gone m.current) (snapshots_after m gone)))
      named (elim (is_thawed gone after d) as (λ t. is_thawed gone after d ≡ t
      → is_some (if t then None else s.own) ≡ has_at s.port d.name (slots_named (parent_after gone m.current) (snapshots_after m gone))) [
        | true ↦ λ t.
            let parts = thaw_parts (is_normal d.mode) (has_medium d.name gone.slots) (list_any (is_in_snapshot d.name) after) t in
            sym (not_at s.port d.name (slots_named (parent_after gone m.current) (snapshots_after m gone))
            (none_named d.name (parent_after gone m.current) (snapshots_after m gone) (not_in_less d.name parts.2)))
        | false ↦ λ t. old ∙ ap (λ (n : Name). has_at s.port n (slots_named m.current m.snapshots)) (sym named) ∙ same_at s d named found is_normal_medium t
      ] refl)

  abbrev changed : WorldMedium → WorldMedium
  changed = medium_after w m gone after

  current_now : Inherits w.media (slots_named (parent_after gone m.current) (snapshots_after m gone)) (map (slot_after w gone after) m.slots)
  current_now = All-map _ (λ (s : WorldSlot). IsTrue (is_of_normal w.media s) → IsTrue (has_at s.port s.medium (map (slot_after w gone after) m.slots)))
      (λ s at normal. at-map (slot_after w gone after) (λ s. refl) (λ s. refl) s.port s.medium m.slots ∙ at normal)
      (slots_named (parent_after gone m.current) (snapshots_after m gone)) (inherits_after m.current m.slots before.current)

  abbrev OwnsNow : WorldSlot → Type 0
  OwnsNow s = IsTrue (is_of_normal media s)
      → is_some (slot_after w gone after s).own ≡ has_at s.port s.medium (slots_named (parent_after gone m.current) (snapshots_after m gone))

  machine_now : IsSoundMachine media machine
  machine_now = record {
    tree = tree_after;
    slots = record {
      ports = ports-map (slot_after w gone after) (λ s. refl) (λ s. refl) 0 m.slots before.slots.ports;
      distinct = own-map (slot_after w gone after) (λ s. refl) (λ s. refl) m.slots before.slots.distinct;
      placed = All-of_map (slot_after w gone after) _ m.slots
          (All-map _ _ (slot_placed w m gone after ok.media_order ok.media was before.slots its) m.slots before.slots.placed);
    };
    places = All-of_map (adopted gone) _ left (All-without snapshot_name _ gone.name m.snapshots
        (All-map _ _ (λ (s : WorldSnapshot). slots_more w.media changed (λ d. refl) (λ d. refl) (λ d. refl) more true s.slots) m.snapshots before.places));
    children = All-of_map (adopted gone) _ left (All-without snapshot_name _ gone.name m.snapshots
        (All-map _ _ (λ (s : WorldSnapshot) inherits. normals_more w.media changed (λ d. refl) (λ d. refl) (λ d. refl) more _
        (slots_named (parent_after gone s.parent) (snapshots_after m gone)) (inherits_after s.parent s.slots inherits)) m.snapshots before.children));
    current = normals_more w.media changed (λ d. refl) (λ d. refl) (λ d. refl) more
        (λ (s : WorldSlot). IsTrue (has_at s.port s.medium (map (slot_after w gone after) m.slots)))
        (slots_named (parent_after gone m.current) (snapshots_after m gone)) current_now;
    own = All-of_map (slot_after w gone after) _ m.slots (All-join (IsPlaced w.media false)
        (λ s. IsTrue (is_of_normal w.media s) → is_some s.own ≡ has_at s.port s.medium (slots_named m.current m.snapshots)) OwnsNow
        (λ s placed own normal. own_now s placed own
        (sym (normal_same w.media changed (λ d. refl) (λ d. refl) (λ d. refl) more s) ∙ normal)) m.slots before.slots.placed before.own);
  }

  -- ---- limits

  fewer_snapshots : length (snapshots_after m gone) ≤ length m.snapshots
  fewer_snapshots = let same = length-map left (adopted gone) in let less = length-without snapshot_name gone.name m.snapshots in omega arith

  fewer_places : places_of less ≤ places_of m
  fewer_places =
      let same = sum-map (λ (s : WorldSnapshot). length s.slots) (adopted gone) left in
      let all = sum-parted snapshot_name gone.name m.snapshots gone (tree_rises m.snapshots m.current before.tree) there (λ (s : WorldSnapshot). length s.slots) in
      omega arith

  fewer : (f : WorldMachine → ℕ) → f machine ≤ f m → sum_by f machines ≤ sum_by f w.machines
  fewer f least =
      let old = sum-parted machine_name m.name w.machines m ok.machine_order here f in
      let new = sum-changed machine_name m.name w.machines m ok.machine_order here f machine in omega arith

  pub deleted_sound : w.next + length (base_slots w m gone) ≤ NUMBER_LIMIT → w.inner + length (inner_slots w m gone) ≤ NUMBER_LIMIT
      → IsSound (deleted w m gone)
  deleted_sound next inner = record {
    seed = ok.seed;
    next = next;
    inner = inner;
    media_order = rises_map changed medium_name medium_name (λ d. refl) w.media ok.media_order;
    media_names = All-of_map changed _ w.media ok.media_names;
    media = All-of_map changed _ w.media media_now;
    machine_order = rises-swapped machine_name m.name machine refl w.machines ok.machine_order;
    machines = All-swapped machine_name (IsSoundMachine media) m.name machine machine_now w.machines
        (All-map _ _ (machine_more w.media changed (λ d. refl) (λ d. refl) (λ d. refl) more) w.machines ok.machines);
    first = All-of_map changed _ w.media first;
    shelf = λ name. shelf_kept w.media media name (w.shelf name)
        (λ there none. has_map changed medium_name medium_name (λ d. refl) name w.media ∙ none) (ok.shelf name);
    few_media = let same = length-map w.media changed in omega (arith, ok.few_media);
    few_machines = let same = length-map w.machines (λ (k : WorldMachine). cond (bytes_eq k.name m.name) machine k) in omega (arith, ok.few_machines);
    few_snapshots = let at_most = fewer (λ (k : WorldMachine). length k.snapshots) fewer_snapshots in omega (arith, ok.few_snapshots);
    few_places = let at_most = fewer places_of fewer_places in omega (arith, ok.few_places);
  }

-- ---- the command

pub delete_keeps : (w : World) → IsSound w → (vm name : Name) → IsSound (delete_snapshot w vm name).1
delete_keeps w ok vm name =
    found LeadsToSound w NoSuchMachine (machine_of w vm) _ ok (λ m is.
    found LeadsToSound w NoSuchSnapshot (snapshot_of m name) _ ok (λ gone at.
    unless LeadsToSound w (delete_checks w m gone) _ (λ refusal. ok) (λ pass.
    let here : find_by machine_name m.name w.machines ≡ Some m =
    subst (λ n. find_by machine_name n w.machines ≡ Some m) (sym (same_name m.name vm (find_named machine_name vm m w.machines is))) is in
    let there : find_by snapshot_name gone.name m.snapshots ≡ Some gone =
    subst (λ n. find_by snapshot_name n m.snapshots ≡ Some gone) (sym (same_name gone.name name (find_named snapshot_name name gone m.snapshots at))) at in
    let few : dependents m gone.name ≤ 1 = ltb-false 1 (dependents m gone.name) pass.1.0 in
    let short = or_parts _ _ pass.1.1.0 in
    deleted_sound w ok m gone here there few
    (ltb-false NUMBER_LIMIT (w.next + length (base_slots w m gone)) short.0)
    (ltb-false NUMBER_LIMIT (w.inner + length (inner_slots w m gone)) short.1))))
