-- Taking a snapshot leads from a sound world to a sound one.
use Rattle.std.proofs.Common.{◌≡◌, ℕ, ◌+◌, Bool, true, false, not, cond, ◌||◌, ◌&&◌, List, [], ◌∷◌, map, length, Option, Some, None, refl, sym, ap, subst, ◌∙◌, arith, inl, inr, is_some, is_none, leb-false, sum_by}
use Rattle.std.specs.Prelude.{◌==◌, IfSome}
use Rattle.std.specs.List.{AllByRecursion, list_any}
use Rattle.std.specs.Str.{bytes_eq}
use Rattle.std.proofs.lemmas.Bool.{cases_Bool, cond_both, and_parts, and_left, and_right, false_from_ne_true, ltb-false}
use Rattle.std.proofs.lemmas.List.{length-map}
use Rattle.vbm_ids.specs.declared.TheConstants.{NUMBER_LIMIT}
use Rattle.vbm_world.specs.declared.limits.TheConstants.{SNAPSHOT_LIMIT, PLACE_LIMIT}
use Rattle.vbm_world.specs.declared.command.Refusal.TheVariants.{NoSuchMachine}
use Rattle.vbm_world.specs.declared.world.WorldMedium.{WorldMedium}
use Rattle.vbm_world.specs.declared.world.WorldSlot.{WorldSlot}
use Rattle.vbm_world.specs.declared.world.WorldSnapshot.{WorldSnapshot}
use Rattle.vbm_world.specs.declared.world.WorldMachine.{WorldMachine}
use Rattle.vbm_named.specs.Names.{Name, find_by, has_name, put_by, change_by}
use Rattle.vbm_world.specs.World.{World, medium_name, machine_name, snapshot_name, medium_of, is_direct, has_medium, is_in_snapshot, is_normal, is_of_mode, is_slot_of, is_frozen}
use Rattle.vbm_world.specs.Places.{machine_of, slots_of, slots_named}
use Rattle.vbm_world.specs.Refusals.{Check, snapshots_in, places_of, places_in}
use Rattle.vbm_world.specs.Slots.{drawn_for}
use Rattle.vbm_world.specs.Snapshots.{kept_slot, unless_frozen, new_snapshot, with_snapshot, taken, share_with, is_shared_with, take_checks, take_snapshot}
use Rattle.vbm_world.specs.Tree.{branch_of, branch_name, Has}
use Rattle.vbm_world.specs.Sound.{HasCapacity, IsSoundMedium, IsPlaced, AreSoundSlots, has_at, is_some_normal, Inherits, IsSoundMachine, first_count, IsSound}
use Rattle.vbm_named.proofs.Lists.{name_refl, same_name, has_found, has_map, All-every, All-map, All-join, All-both, All-of_map, All-find, All-put, any_none, none_of_any, find_named, find_put_same, find_put_other, each_found, rises_map, length-put}
use Rattle.vbm_named.proofs.Sums.{count_put, sum_put}
use Rattle.vbm_world.proofs.Keeping.{LeadsToSound, unless, found, Agree, All-named, slots_kept, machine_kept, shelf_kept}
use Rattle.vbm_world.proofs.Changing.{rises_in_place}
use Rattle.vbm_world.proofs.InPlace.{any_put, any_more, any_gives, count_same, sum_none, count_none, any_in_place, sum_in_place}
use Rattle.vbm_world.proofs.TakenTree.{tree_taken}
use Rattle.vbm_world.proofs.TakenSlots.{each_any, inherits_self, own_of_current, kept_has, kept_at, media_after, inherits_after, agree_after, kept_slots}

-- ---- a machine of which a snapshot is taken

module _ (w : World) (ok : IsSound w) (m : WorldMachine) (name : Name) (is : machine_of w m.name ≡ Some m)
    (pass : AllByRecursion (λ (check : Check). check.0 ≡ false) (take_checks w m name)) where
  abbrev snapshot : WorldSnapshot
  snapshot = new_snapshot m name (map (kept_slot w) m.slots)

  abbrev new : WorldMachine
  new = with_snapshot m snapshot

  abbrev machines : List WorldMachine
  machines = change_by machine_name m.name (λ _. new) w.machines

  abbrev media : List WorldMedium
  media = media_after w machines

  sound : IsSoundMachine w.media m
  sound = All-find machine_name (IsSoundMachine w.media) m.name m w.machines ok.machines is

  upper : List WorldSlot
  upper = slots_named m.current m.snapshots

  -- ---- frozen media

  abbrev is_snapped : Name → Bool
  is_snapped n = list_any (is_in_snapshot n) w.machines

  snapped_after : (n : Name) → list_any (is_in_snapshot n) machines ≡ (has_medium n m.slots || is_snapped n)
  snapped_after n = any_in_place machine_name new m (is_in_snapshot n) (has_medium n m.slots)
      (any_put snapshot_name (λ (s : WorldSnapshot). has_medium n s.slots) snapshot m.snapshots
      ∙ ap (λ (b : Bool). b || is_in_snapshot n m) (kept_has w n m.slots)) w.machines ok.machine_order is

  frozen_after : (d : WorldMedium) → is_frozen machines d ≡ (is_normal d.mode && (has_medium d.name m.slots || is_snapped d.name))
  frozen_after d = ap (λ (b : Bool). is_normal d.mode && b) (snapped_after d.name)

  -- a medium that was in a snapshot is frozen as before
  frozen_snapped : (d : WorldMedium) → is_snapped d.name ≡ true → is_frozen machines d ≡ is_frozen w.machines d
  frozen_snapped d snapped = frozen_after d
      ∙ ap (λ (b : Bool). is_normal d.mode && b) (either (has_medium d.name m.slots) (is_snapped d.name) snapped)
    where
      either : (a b : Bool) → b ≡ true → (a || b) ≡ b
      either true b e = sym e
      either false b e = refl

  -- and so is one that the machine does not have
  frozen_away : (d : WorldMedium) → (is_normal d.mode && has_medium d.name m.slots) ≡ false → is_frozen machines d ≡ is_frozen w.machines d
  frozen_away d away = frozen_after d ∙ neither (is_normal d.mode) (has_medium d.name m.slots) (is_snapped d.name) away
    where
      neither : (n a b : Bool) → (n && a) ≡ false → (n && (a || b)) ≡ (n && b)
      neither true false b e = refl
      neither true true b e = absurd cc
      neither false a b e = refl

  medium_named : (n : Name) (d : WorldMedium) → medium_of w n ≡ Some d → d.name ≡ n
  medium_named n d at = same_name d.name n (find_named medium_name n d w.media at)

  -- where no snapshot has a medium, the current one has not
  not_current : (n : Name) → is_in_snapshot n m ≡ false → has_medium n upper ≡ false
  unfolding upper
  not_current n none = any_none _ (slots_named m.current m.snapshots) (All-named _ m.current m.snapshots
      (All-map _ _ (λ (s : WorldSnapshot) e. none_of_any _ s.slots e) m.snapshots (none_of_any _ m.snapshots none)))

  none_at : (port : ℕ) (n : Name) (slots : List WorldSlot) → has_medium n slots ≡ false → has_at port n slots ≡ false
  none_at port n slots none = any_none _ slots (All-map _ _
      (λ (s : WorldSlot) e. and_right (s.port == port) _ e) slots (none_of_any _ slots none))

  at_has : (port : ℕ) (n : Name) (slots : List WorldSlot) → has_at port n slots ≡ true → has_medium n slots ≡ true
  at_has port n slots at = any_more (λ (s : WorldSlot). (s.port == port) && bytes_eq s.medium n) (λ (s : WorldSlot). bytes_eq s.medium n) slots
      (All-every (λ (s : WorldSlot). ((s.port == port) && bytes_eq s.medium n) ≡ true → bytes_eq s.medium n ≡ true)
      (λ s e. (and_parts (s.port == port) (bytes_eq s.medium n) e).1) slots) at

  not_snapped : (n : Name) → is_snapped n ≡ false → is_in_snapshot n m ≡ false
  not_snapped n none =
      All-find machine_name (λ (x : WorldMachine). is_in_snapshot n x ≡ false) m.name m w.machines (none_of_any _ w.machines none) is

  -- A normal medium of the machine that no snapshot has: the machine shares its disk, and no other machine has it.
  is_shared : (d : WorldMedium) → medium_of w d.name ≡ Some d → is_normal d.mode ≡ true → is_snapped d.name ≡ false
      → has_medium d.name m.slots ≡ true → (others : List WorldSlot) → has_medium d.name others ≡ true → share_with w m.slots others ≡ true
  unfolding upper
  is_shared d at normal none has others have = any_more (λ (s : WorldSlot). bytes_eq s.medium d.name)
      (λ (s : WorldSlot). is_direct s && is_slot_of is_normal w s && has_medium s.medium others) m.slots
      (All-map _ (λ (s : WorldSlot). bytes_eq s.medium d.name ≡ true
      → (is_direct s && is_slot_of is_normal w s && has_medium s.medium others) ≡ true) (λ s own same.
      let named : s.medium ≡ d.name = same_name s.medium d.name same in
      let found : medium_of w s.medium ≡ Some d = ap (medium_of w) named ∙ at in
      let direct : is_some s.own ≡ false = own (ap is_some_normal found ∙ normal)
      ∙ ap (λ (n : Name). has_at s.port n upper) named ∙ none_at s.port d.name upper (not_current d.name (not_snapped d.name none)) in
      all_three (is_direct s) (is_slot_of is_normal w s) (has_medium s.medium others)
      (no_own s.own direct) (ap (is_of_mode is_normal) found ∙ normal) (ap (λ (n : Name). has_medium n others) named ∙ have)) m.slots sound.own) has
    where
      all_three : (a b c : Bool) → a ≡ true → b ≡ true → c ≡ true → (a && b && c) ≡ true
      all_three a b c e f g = rw (e, f, g) refl

      no_own : {Y : Type 0} (o : Option Y) → is_some o ≡ false → is_none o ≡ true
      no_own None e = refl
      no_own (Some y) e = absurd cc

  -- ---- what slots ask of media

  slots_snapped : (slots : List WorldSlot) → AllByRecursion (λ (s : WorldSlot). is_snapped s.medium ≡ true) slots
      → AllByRecursion (Agree w.media media) slots
  slots_snapped slots all = All-map _ _ (λ (s : WorldSlot) snapped. agree_after w machines ok.media s (λ d at.
      frozen_snapped d (ap is_snapped (medium_named s.medium d at) ∙ snapped))) slots all

  IsIn : WorldMachine → Type 0
  IsIn x = (n : Name) → is_in_snapshot n x ≡ true → is_snapped n ≡ true

  places_agree : (x : WorldMachine) → IsIn x → AllByRecursion (λ (s : WorldSnapshot). AllByRecursion (Agree w.media media) s.slots) x.snapshots
  unfolding IsIn
  places_agree x of = All-map _ _ (λ (s : WorldSnapshot) there. slots_snapped s.slots (All-map _ _
      (λ (t : WorldSlot) has. of t.medium (there t.medium (has t.medium (name_refl t.medium)))) s.slots
      (each_any (λ (n : Name) (t : WorldSlot). bytes_eq t.medium n) s.slots))) x.snapshots
      (each_any (λ (n : Name) (s : WorldSnapshot). has_medium n s.slots) x.snapshots)

  each_in : AllByRecursion IsIn w.machines
  unfolding IsIn
  each_in = each_any is_in_snapshot w.machines

  -- of slots that share nothing with the machine
  others_agree : (slots : List WorldSlot) → share_with w m.slots slots ≡ false → AllByRecursion (Agree w.media media) slots
  others_agree slots apart = All-map _ _ (λ (s : WorldSlot) has. agree_after w machines ok.media s (λ d at.
      let named : d.name ≡ s.medium = medium_named s.medium d at in
      elim (cases_Bool (is_snapped d.name)) [
        | inl snapped ↦ frozen_snapped d snapped
        | inr none ↦ frozen_away d (false_from_ne_true _ (λ both.
            let parts = and_parts (is_normal d.mode) (has_medium d.name m.slots) both in
            let there : medium_of w d.name ≡ Some d = ap (medium_of w) named ∙ at in
            let have : has_medium d.name slots ≡ true = ap (λ (n : Name). has_medium n slots) named ∙ has s.medium (name_refl s.medium) in
            let clash : true ≡ false = sym (is_shared d there parts.0 none parts.1 slots have) ∙ apart in absurd cc))
      ])) slots (each_any (λ (n : Name) (t : WorldSlot). bytes_eq t.medium n) slots)

  -- ---- the machine

  absent : find_by snapshot_name name m.snapshots ≡ None
  absent = no_item (find_by snapshot_name name m.snapshots) (sym (has_found snapshot_name name m.snapshots) ∙ pass.0)
    where
      no_item : (o : Option WorldSnapshot) → is_some o ≡ false → o ≡ None
      no_item None e = refl
      no_item (Some s) e = absurd cc

  abbrev snapshots : List WorldSnapshot
  snapshots = put_by snapshot_name snapshot m.snapshots

  named_new : slots_named (Some name) snapshots ≡ map (kept_slot w) m.slots
  named_new = ap slots_of (find_put_same snapshot_name snapshot m.snapshots absent)

  -- the slots of a snapshot that was there
  named_old : (o : Option Name) → IfSome o (Has (map branch_of m.snapshots)) → slots_named o snapshots ≡ slots_named o m.snapshots
  named_old None there = refl
  named_old (Some n) there = ap slots_of (find_put_other snapshot_name n snapshot m.snapshots (false_from_ne_true (bytes_eq name n) (λ same.
      let has : has_name snapshot_name n m.snapshots ≡ true =
      sym (has_map branch_of snapshot_name branch_name (λ s. refl) n m.snapshots) ∙ there in
      let none : has_name snapshot_name n m.snapshots ≡ false =
      ap (λ (x : Name). has_name snapshot_name x m.snapshots) (sym (same_name name n same)) ∙ pass.0 in
      let clash : true ≡ false = sym has ∙ none in absurd cc)))

  -- each snapshot's parent is there
  parents : AllByRecursion (λ (s : WorldSnapshot). IfSome s.parent (Has (map branch_of m.snapshots))) m.snapshots
  parents = from_map m.snapshots sound.tree.parents
    where
      from_map : (l : List WorldSnapshot) → AllByRecursion (λ b. IfSome b.1 (Has (map branch_of m.snapshots))) (map branch_of l)
          → AllByRecursion (λ (s : WorldSnapshot). IfSome s.parent (Has (map branch_of m.snapshots))) l
      from_map [] all = tt
      from_map (s ∷ l) all = (all.0, from_map l all.1)

  new_sound : IsIn m → IsSoundMachine media new
  new_sound of = record {
    tree = tree_taken m.snapshots m.current snapshot sound.tree refl absent;
    slots = kept_slots w machines ok.media false m.slots sound.slots;
    places = All-put snapshot_name _ snapshot m.snapshots kept
        (All-join _ _ _ (λ (s : WorldSnapshot) agree h. slots_kept w.media media true s.slots agree h) m.snapshots (places_agree m of) sound.places);
    children = All-put snapshot_name _ snapshot m.snapshots
        (subst (λ (l : List WorldSlot). Inherits media l snapshot.slots) (sym (named_old m.current sound.tree.there))
        (inherits_after w machines (slots_named m.current m.snapshots) m.slots snapshot.slots (λ port n. kept_at w port n m.slots) sound.current))
        (All-join _ _ _ (λ (s : WorldSnapshot) there h. subst (λ (l : List WorldSlot). Inherits media l s.slots) (sym (named_old s.parent there))
        (inherits_after w machines (slots_named s.parent m.snapshots) s.slots s.slots (λ port n. refl) h)) m.snapshots parents sound.children);
    current = subst (λ (l : List WorldSlot). Inherits media l snapshot.slots) (sym named_new) (inherits_self media snapshot.slots);
    own = rw named_new (own_of_current media snapshot.slots kept);
  }
    where
      kept : AreSoundSlots media true snapshot.slots
      kept = kept_slots w machines ok.media true m.slots sound.slots

  -- another machine
  other_sound : (x : WorldMachine) → is_shared_with w m x ≡ false → IsIn x → bytes_eq x.name m.name ≡ false
      → IsSoundMachine w.media x → IsSoundMachine media x
  other_sound x apart of other h =
      machine_kept w.media media x (others_agree x.slots (rw other at apart), places_agree x of) h

  machines_sound : AllByRecursion (IsSoundMachine media) machines
  machines_sound = All-of_map _ (IsSoundMachine media) w.machines (All-join _ _ _ (λ (x : WorldMachine) apart both.
      cond_both (bytes_eq x.name m.name) new x (IsSoundMachine media)
      (λ e. new_sound (All-find machine_name IsIn m.name m w.machines each_in is)) (λ e. other_sound x apart both.0 e both.1)) w.machines
      (none_of_any (is_shared_with w m) w.machines pass.1.1.0) (All-both IsIn (IsSoundMachine w.media) w.machines each_in ok.machines))

  -- ---- media

  medium_sound : (d : WorldMedium) → IsSoundMedium w.machines d → IsSoundMedium machines (unless_frozen machines d)
  medium_sound d h = record {
    frozen = by_frozen (is_frozen machines d) refl;
    disk = cond_both (is_frozen machines d) None d.flat (λ flat. HasCapacity flat d.capacity) (λ e. tt) (λ e. h.disk);
    capacity = h.capacity;
  }
    where
      still_not : (n a b : Bool) → (n && (a || b)) ≡ false → (n && b) ≡ false
      still_not true true b e = absurd cc
      still_not true false b e = e
      still_not false a b e = refl

      by_frozen : (b : Bool) → is_frozen machines d ≡ b → is_none (cond (is_frozen machines d) None d.flat) ≡ is_frozen machines d
      by_frozen true e = rw e refl
      by_frozen false e = rw e (h.frozen ∙ still_not (is_normal d.mode) (has_medium d.name m.slots) (is_snapped d.name) (sym (frozen_after d) ∙ e))

  -- ---- where media came into the snapshots

  first_new : (n : Name) → first_count n new ≡ cond (has_medium n m.slots && not (has_medium n upper)) 1 0 + first_count n m
  unfolding upper
  first_new n =
      let test : (l : List WorldSnapshot) → WorldSnapshot → Bool = λ l s. has_medium n s.slots && not (has_medium n (slots_named s.parent l)) in
      count_put snapshot_name (test snapshots) snapshot m.snapshots
      ∙ (λ i. cond (kept_has w n m.slots i && not (has_medium n (named_old m.current sound.tree.there i))) 1 0
      + count_same (test snapshots) (test m.snapshots) m.snapshots (All-map _ _ (λ (s : WorldSnapshot) there.
      ap (λ (l : List WorldSlot). has_medium n s.slots && not (has_medium n l)) (named_old s.parent there)) m.snapshots parents) i)

  first_sum : (n : Name) → sum_by (first_count n) machines + first_count n m
      ≡ sum_by (first_count n) w.machines + (cond (has_medium n m.slots && not (has_medium n upper)) 1 0 + first_count n m)
  first_sum n = sum_in_place machine_name new m (first_count n) w.machines ok.machine_order is
      ∙ ap (λ (k : ℕ). sum_by (first_count n) w.machines + k) (first_new n)

  -- the current snapshot has a frozen medium that the machine has
  frozen_current : (d : WorldMedium) → medium_of w d.name ≡ Some d → is_normal d.mode ≡ true → is_none d.flat ≡ true
      → has_medium d.name m.slots ≡ true → has_medium d.name upper ≡ true
  unfolding upper
  frozen_current d at normal empty has = any_gives (λ (s : WorldSlot). bytes_eq s.medium d.name) (has_medium d.name upper ≡ true) m.slots
      (All-join (IsPlaced w.media false) _ (λ (s : WorldSlot). bytes_eq s.medium d.name ≡ true → has_medium d.name upper ≡ true)
      (λ s placed own same.
      let named : s.medium ≡ d.name = same_name s.medium d.name same in
      let found : medium_of w s.medium ≡ Some d = ap (medium_of w) named ∙ at in
      let both : Some placed.0 ≡ Some d = sym placed.1 ∙ found in
      let one : placed.0 ≡ d = cc in
      let its_own : is_some s.own ≡ true =
      has_own s.own d.flat empty (λ direct. subst (λ (k : WorldMedium). is_some k.flat ≡ true) one (placed.2.shared direct)) in
      let there : has_at s.port d.name upper ≡ true =
      ap (λ (n : Name). has_at s.port n upper) (sym named) ∙ sym (own (ap is_some_normal found ∙ normal)) ∙ its_own in
      at_has s.port d.name upper there)
      m.slots sound.slots.placed sound.own) has
    where
      has_own : {Y Z : Type 0} (own : Option Y) (flat : Option Z) → is_none flat ≡ true → (is_none own ≡ true → is_some flat ≡ true)
          → is_some own ≡ true
      has_own (Some y) flat e shared = refl
      has_own None None e shared = let no : false ≡ true = shared refl in absurd cc
      has_own None (Some z) e shared = absurd cc

  first_once : (d : WorldMedium) → medium_of w d.name ≡ Some d → IsSoundMedium w.machines d
      → (is_frozen w.machines d ≡ true → sum_by (first_count d.name) w.machines ≡ 1)
      → is_frozen machines d ≡ true → sum_by (first_count d.name) machines ≡ 1
  first_once d at h before frozen =
      let parts = and_parts (is_normal d.mode) _ (sym (frozen_after d) ∙ frozen) in
      elim (cases_Bool (is_snapped d.name)) [
        | inl snapped ↦
            let was : is_frozen w.machines d ≡ true = rw (parts.0, snapped) refl in
            let none : cond {A = ℕ} (has_medium d.name m.slots && not (has_medium d.name upper)) 1 0 ≡ 0 =
            not_first (has_medium d.name m.slots) (has_medium d.name upper) (frozen_current d at parts.0 (h.frozen ∙ was)) in
            omega (arith, first_sum d.name, none, before was)
        | inr away ↦
            let has : has_medium d.name m.slots ≡ true = left (has_medium d.name m.slots) (is_snapped d.name) away parts.1 in
            let one : cond {A = ℕ} (has_medium d.name m.slots && not (has_medium d.name upper)) 1 0 ≡ 1 =
            rw (has, not_current d.name (not_snapped d.name away)) refl in
            let zero : sum_by (first_count d.name) w.machines ≡ 0 = sum_none (first_count d.name) w.machines (All-map _ _ (λ (x : WorldMachine) none.
            count_none _ x.snapshots (All-map _ _ (λ (s : WorldSnapshot) e. and_left (has_medium d.name s.slots) _ e)
            x.snapshots (none_of_any _ x.snapshots none))) w.machines (none_of_any _ w.machines away)) in
            omega (arith, first_sum d.name, one, zero)
      ]
    where
      not_first : (a b : Bool) → (a ≡ true → b ≡ true) → cond {A = ℕ} (a && not b) 1 0 ≡ 0
      not_first true b f = rw (f refl) refl
      not_first false b f = refl

      left : (a b : Bool) → b ≡ false → (a || b) ≡ true → a ≡ true
      left true b e any = refl
      left false b e any = sym e ∙ any

  -- ---- the world

  pub taken_sound : IsSound (taken w m name)
  taken_sound = record {
    seed = ok.seed;
    next = ok.next;
    inner = ltb-false NUMBER_LIMIT (w.inner + drawn_for (map (kept_slot w) m.slots)) pass.1.1.1.1.1.0;
    media_order = rises_map (unless_frozen machines) medium_name medium_name (λ d. refl) w.media ok.media_order;
    media_names = All-of_map (unless_frozen machines) _ w.media ok.media_names;
    media = All-of_map (unless_frozen machines) (IsSoundMedium machines) w.media (All-map _ _ medium_sound w.media ok.media);
    machine_order = rises_in_place machine_name new w.machines ok.machine_order;
    machines = machines_sound;
    first = All-of_map (unless_frozen machines) _ w.media (All-join _ _ _ (λ (d : WorldMedium) at both. first_once d at both.0 both.1) w.media
        (each_found medium_name w.media ok.media_order) (All-both (IsSoundMedium w.machines) _ w.media ok.media ok.first));
    shelf = λ other. shelf_kept w.media media other (w.shelf other)
        (λ there free. has_map (unless_frozen machines) medium_name medium_name (λ d. refl) other w.media ∙ free) (ok.shelf other);
    few_media = rw length-map ok.few_media;
    few_machines = rw length-map ok.few_machines;
    few_snapshots =
        let sum = sum_in_place machine_name new m (λ (x : WorldMachine). length x.snapshots) w.machines ok.machine_order is in
        omega (arith, sum, length-put snapshot_name snapshot m.snapshots, leb-false SNAPSHOT_LIMIT (snapshots_in w) pass.1.1.1.0);
    few_places =
        let sum = sum_in_place machine_name new m places_of w.machines ok.machine_order is in
        let put = sum_put snapshot_name (λ (s : WorldSnapshot). length s.slots) snapshot m.snapshots in
        let same : length (map (kept_slot w) m.slots) ≡ length m.slots = length-map m.slots (kept_slot w) in
        omega (arith, sum, put, same, ltb-false PLACE_LIMIT (places_in w + length m.slots) pass.1.1.1.1.0);
  }

pub take_keeps : (w : World) → IsSound w → (vm name : Name) → IsSound (take_snapshot w vm name).1
take_keeps w ok vm name = found LeadsToSound w NoSuchMachine (machine_of w vm) _ ok (λ m is.
    unless LeadsToSound w (take_checks w m name) _ (λ refusal. ok) (λ pass.
    let named : m.name ≡ vm = same_name m.name vm (find_named machine_name vm m w.machines is) in
    taken_sound w ok m name (ap (machine_of w) named ∙ is) pass))
