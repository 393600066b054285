-- Worlds whose disks were written: each disk may hold other sectors, but as many, and marks and numbers may have moved on.
use Rattle.std.proofs.Common.{◌≡◌, ℕ, ◌+◌, ◌*◌, ◌≤◌, ◌==◌, Bool, true, false, ◌&&◌, ◌||◌, not, cond, List, [], ◌∷◌, map, fold, length, suc, Option, Some, None, refl, sym, ap, subst, ◌∙◌, is_some, is_none, sum_by, count_by, IsTrue, IfSome}
use Rattle.std.specs.List.{AllByRecursion, list_any}
use Rattle.std.specs.Option.{option_map}
use Rattle.std.specs.Str.{bytes_eq}
use Rattle.std.proofs.lemmas.Bool.{cond_both}
use Rattle.vbm_ids.specs.declared.TheConstants.{NUMBER_LIMIT}
use Rattle.vbm_volume.specs.Sectors.{FlatDisk}
use Rattle.vbm_world.specs.declared.world.WorldMedium.{WorldMedium}
use Rattle.vbm_world.specs.declared.world.WorldSlot.{WorldSlot}
use Rattle.vbm_world.specs.declared.world.WorldSnapshot.{WorldSnapshot}
use Rattle.vbm_world.specs.declared.world.WorldMachine.{WorldMachine}
use Rattle.vbm_world.specs.declared.world.Shelved.{Shelved}
use Rattle.vbm_named.specs.Names.{Name, is_named, find_by, has_name, Rises, is_before}
use Rattle.vbm_world.specs.World.{World, medium_name, machine_name, medium_of, has_medium, is_in_snapshot, is_normal, is_frozen}
use Rattle.vbm_world.specs.Places.{slots_named, with_medium}
use Rattle.vbm_world.specs.Refusals.{places_of}
use Rattle.vbm_world.specs.Loose.{AreAlike}
use Rattle.vbm_world.specs.Sound.{HasCapacity, MayHold, IsSoundSlot, IsPlaced, RisingPorts, HaveOwnMedia, AreSoundSlots, has_at, is_some_normal, is_of_normal, IsSoundMachine, IsSoundShelf, first_count, IsSound}
use Rattle.vbm_named.proofs.Lists.{same_name, All-every, All-map, each_found}
use Rattle.vbm_world.proofs.Keeping.{asked_of, Agree, EachSlot, machine_kept, shelf_kept}
use Rattle.vbm_world.proofs.Worlds.{alike_refl}

-- ---- lists that are alike

module _ {X : Type 0} (like : X → X → Type 0) where
  -- what holds of each of the one holds in another form of each of the other
  pub alike_all : (P Q : X → Type 0) → ((x y : X) → like x y → P x → Q y) → (xs ys : List X) → AreAlike like xs ys
      → AllByRecursion P xs → AllByRecursion Q ys
  alike_all P Q goes [] [] alike all = tt
  alike_all P Q goes (x ∷ xs) (y ∷ ys) alike all = (goes x y alike.0 all.0, alike_all P Q goes xs ys alike.1 all.1)
  alike_all P Q goes [] (y ∷ ys) alike all = absurd alike
  alike_all P Q goes (x ∷ xs) [] alike all = absurd alike

  pub alike_any : (p q : X → Bool) → ((x y : X) → like x y → q y ≡ p x) → (xs ys : List X) → AreAlike like xs ys
      → list_any q ys ≡ list_any p xs
  alike_any p q same [] [] alike = refl
  alike_any p q same (x ∷ xs) (y ∷ ys) alike = λ i. same x y alike.0 i || alike_any p q same xs ys alike.1 i
  alike_any p q same [] (y ∷ ys) alike = absurd alike
  alike_any p q same (x ∷ xs) [] alike = absurd alike

  pub alike_length : (xs ys : List X) → AreAlike like xs ys → length ys ≡ length xs
  alike_length [] [] alike = refl
  alike_length (x ∷ xs) (y ∷ ys) alike = ap suc (alike_length xs ys alike.1)
  alike_length [] (y ∷ ys) alike = absurd alike
  alike_length (x ∷ xs) [] alike = absurd alike

  alike_total : (f g : X → ℕ) → ((x y : X) → like x y → g y ≡ f x) → (n : ℕ) (xs ys : List X) → AreAlike like xs ys
      → fold (λ a x. a + g x) n ys ≡ fold (λ a x. a + f x) n xs
  alike_total f g same n [] [] alike = refl
  alike_total f g same n (x ∷ xs) (y ∷ ys) alike = rw (same x y alike.0) (alike_total f g same (n + f x) xs ys alike.1)
  alike_total f g same n [] (y ∷ ys) alike = absurd alike
  alike_total f g same n (x ∷ xs) [] alike = absurd alike

  pub alike_sum : (f g : X → ℕ) → ((x y : X) → like x y → g y ≡ f x) → (xs ys : List X) → AreAlike like xs ys → sum_by g ys ≡ sum_by f xs
  alike_sum f g same xs ys alike = alike_total f g same 0 xs ys alike

  -- where each one is like what a change makes of it
  pub alike_map : (f : X → X) (xs : List X) → AllByRecursion (λ x. like x (f x)) xs → AreAlike like xs (map f xs)
  alike_map f [] all = tt
  alike_map f (x ∷ xs) all = (all.0, alike_map f xs all.1)

  module _ (nx : X → Name) (named : (x y : X) → like x y → nx y ≡ nx x) where
    pub alike_rises : (xs ys : List X) → AreAlike like xs ys → Rises nx xs → Rises nx ys
    alike_rises [] [] alike rises = tt
    alike_rises (x ∷ xs) (y ∷ ys) alike rises = (
      alike_all (λ z. IsTrue (is_before (nx x) (nx z))) (λ z. IsTrue (is_before (nx y) (nx z)))
          (λ z t one before. rw (named x y alike.0, named z t one) before) xs ys alike.1 rises.0,
      alike_rises xs ys alike.1 rises.1,
    )
    alike_rises [] (y ∷ ys) alike rises = absurd alike
    alike_rises (x ∷ xs) [] alike rises = absurd alike

    -- what is found by a name in the one has in common with what is found in the other what the items have in common
    pub alike_find : {Y : Type 0} (f : X → Y) → ((x y : X) → like x y → f y ≡ f x) → (name : Name) (xs ys : List X) → AreAlike like xs ys
        → option_map f (find_by nx name ys) ≡ option_map f (find_by nx name xs)
    alike_find f same name [] [] alike = refl
    alike_find {Y} f same name (x ∷ xs) (y ∷ ys) alike = rw (named x y alike.0)
        (elim (bytes_eq (nx x) name) as (λ b. option_map f (cond b (Some y) (find_by nx name ys))
        ≡ option_map f (cond b (Some x) (find_by nx name xs))) [
          | true ↦ ap (λ (z : Y). Some z) (same x y alike.0)
          | false ↦ alike_find f same name xs ys alike.1
        ])
    alike_find f same name [] (y ∷ ys) alike = absurd alike
    alike_find f same name (x ∷ xs) [] alike = absurd alike

-- ---- what a write leaves of each thing

abbrev pub disk_length : Option FlatDisk → Option ℕ
disk_length disk = option_map length disk

pub record IsWrittenMedium (m n : WorldMedium) : Type 0 where
  pub name : n.name ≡ m.name
  pub mode : n.mode ≡ m.mode
  pub capacity : n.capacity ≡ m.capacity
  pub disk : disk_length n.flat ≡ disk_length m.flat

pub record IsWrittenSlot (s t : WorldSlot) : Type 0 where
  pub port : t.port ≡ s.port
  pub medium : t.medium ≡ s.medium
  pub autoreset : t.autoreset ≡ s.autoreset
  pub disk : disk_length t.own ≡ disk_length s.own

pub record IsWrittenMachine (a b : WorldMachine) : Type 0 where
  pub name : b.name ≡ a.name
  pub snapshots : b.snapshots ≡ a.snapshots
  pub current : b.current ≡ a.current
  pub slots : AreAlike IsWrittenSlot a.slots b.slots

-- The second world is the first but for what disks hold, which media have changed and how many identifiers of media were drawn.
pub record IsWritten (w v : World) : Type 0 where
  pub seed : v.seed ≡ w.seed
  pub next : v.next ≤ NUMBER_LIMIT
  pub inner : v.inner ≡ w.inner
  pub media : AreAlike IsWrittenMedium w.media v.media
  pub machines : AreAlike IsWrittenMachine w.machines v.machines
  pub shelf : v.shelf ≡ w.shelf

pub medium_refl : (m : WorldMedium) → IsWrittenMedium m m
medium_refl m = record { name = refl; mode = refl; capacity = refl; disk = refl }

pub slot_refl : (s : WorldSlot) → IsWrittenSlot s s
slot_refl s = record { port = refl; medium = refl; autoreset = refl; disk = refl }

pub written_refl : (m : WorldMachine) → IsWrittenMachine m m
written_refl m = record { name = refl; snapshots = refl; current = refl; slots = alike_refl IsWrittenSlot slot_refl m.slots }

-- ---- disks

pub same_some : (a b : Option FlatDisk) → disk_length b ≡ disk_length a → is_some b ≡ is_some a
same_some None None e = refl
same_some (Some a) (Some b) e = refl
same_some None (Some b) e = absurd cc
same_some (Some a) None e = absurd cc

pub same_none : (a b : Option FlatDisk) → disk_length b ≡ disk_length a → is_none b ≡ is_none a
same_none None None e = refl
same_none (Some a) (Some b) e = refl
same_none None (Some b) e = absurd cc
same_none (Some a) None e = absurd cc

same_capacity : (a b : Option FlatDisk) (capacity : ℕ) → disk_length b ≡ disk_length a → HasCapacity a capacity → HasCapacity b capacity
same_capacity None None capacity e fits = tt
same_capacity (Some a) (Some b) capacity e fits = let same : length b ≡ length a = cc in fits ∙ ap (λ (n : ℕ). 512 * n) (sym same)
same_capacity None (Some b) capacity e fits = absurd cc
same_capacity (Some a) None capacity e fits = absurd cc

-- ---- slots

module _ (media : List WorldMedium) where
  sound_slot : (of_snapshot : Bool) (s t : WorldSlot) (m : WorldMedium) → IsWrittenSlot s t → IsSoundSlot of_snapshot s m
      → IsSoundSlot of_snapshot t m
  sound_slot of_snapshot s t m like sound = record {
    held = subst (λ (own : Bool). MayHold m.mode own of_snapshot) (sym (same_some s.own t.own like.disk)) sound.held;
    disk = same_capacity s.own t.own m.capacity like.disk sound.disk;
    shared = λ direct. sound.shared (sym (same_none s.own t.own like.disk) ∙ direct);
    autoreset = λ on. sound.autoreset (sym like.autoreset ∙ on);
  }

  placed_slot : (of_snapshot : Bool) (s t : WorldSlot) → IsWrittenSlot s t → IsPlaced media of_snapshot s → IsPlaced media of_snapshot t
  placed_slot of_snapshot s t like placed =
      (placed.0, ap (λ (name : Name). find_by medium_name name media) like.medium ∙ placed.1, sound_slot of_snapshot s t placed.0 like placed.2)

  rising_ports : (low : ℕ) (xs ys : List WorldSlot) → AreAlike IsWrittenSlot xs ys → RisingPorts low xs → RisingPorts low ys
  rising_ports low [] [] alike rises = rises
  rising_ports low (s ∷ xs) (t ∷ ys) alike rises =
      let port : t.port ≡ s.port = alike.0.port in
      rw port (rises.0, rising_ports (s.port + 1) xs ys alike.1 rises.1)
  rising_ports low [] (t ∷ ys) alike rises = absurd alike
  rising_ports low (s ∷ xs) [] alike rises = absurd alike

  has_same : (name : Name) (xs ys : List WorldSlot) → AreAlike IsWrittenSlot xs ys → has_medium name ys ≡ has_medium name xs
  has_same name = alike_any IsWrittenSlot _ _ (λ s t like. ap (λ (n : Name). bytes_eq n name) like.medium)

  at_same : (port : ℕ) (name : Name) (xs ys : List WorldSlot) → AreAlike IsWrittenSlot xs ys → has_at port name ys ≡ has_at port name xs
  at_same port name = alike_any IsWrittenSlot _ _ (λ s t like. λ i. (like.port i == port) && bytes_eq (like.medium i) name)

  own_media : (xs ys : List WorldSlot) → AreAlike IsWrittenSlot xs ys → HaveOwnMedia xs → HaveOwnMedia ys
  own_media [] [] alike own = tt
  own_media (s ∷ xs) (t ∷ ys) alike own =
      (ap (λ (n : Name). has_medium n ys) alike.0.medium ∙ has_same s.medium xs ys alike.1 ∙ own.0, own_media xs ys alike.1 own.1)
  own_media [] (t ∷ ys) alike own = absurd alike
  own_media (s ∷ xs) [] alike own = absurd alike

  pub sound_slots : (of_snapshot : Bool) (xs ys : List WorldSlot) → AreAlike IsWrittenSlot xs ys → AreSoundSlots media of_snapshot xs
      → AreSoundSlots media of_snapshot ys
  sound_slots of_snapshot xs ys alike sound = record {
    ports = rising_ports 0 xs ys alike sound.ports;
    distinct = own_media xs ys alike sound.distinct;
    placed = alike_all IsWrittenSlot _ _ (placed_slot of_snapshot) xs ys alike sound.placed;
  }

  -- ---- machines

  abbrev OwnAsSnapshot : List WorldSlot → WorldSlot → Type 0
  OwnAsSnapshot current s = IsTrue (is_of_normal media s) → is_some s.own ≡ has_at s.port s.medium current

  own_as : (current : List WorldSlot) (s t : WorldSlot) → IsWrittenSlot s t → OwnAsSnapshot current s → OwnAsSnapshot current t
  own_as current s t like holds normal =
      same_some s.own t.own like.disk
      ∙ holds (ap (λ (n : Name). is_some_normal (find_by medium_name n media)) (sym like.medium) ∙ normal)
      ∙ (λ i. has_at (sym like.port i) (sym like.medium i) current)

  pub sound_machine : (a b : WorldMachine) → IsWrittenMachine a b → IsSoundMachine media a → IsSoundMachine media b
  sound_machine a b like sound = record {
    tree = rw (like.snapshots, like.current) sound.tree;
    slots = sound_slots false a.slots b.slots like.slots sound.slots;
    places = rw like.snapshots sound.places;
    children = rw like.snapshots sound.children;
    current = rw (like.snapshots, like.current) (All-map _ _ (λ s holds normal. at_same s.port s.medium a.slots b.slots like.slots ∙ holds normal)
        (slots_named a.current a.snapshots) sound.current);
    own = rw (like.snapshots, like.current)
        (alike_all IsWrittenSlot _ _ (own_as (slots_named a.current a.snapshots)) a.slots b.slots like.slots sound.own);
  }

-- ---- worlds

module _ (w v : World) (like : IsWritten w v) (ok : IsSound w) where
  frozen_same : (m n : WorldMedium) → IsWrittenMedium m n → is_frozen v.machines n ≡ is_frozen w.machines m
  frozen_same m n one = λ i. is_normal (one.mode i) && alike_any IsWrittenMachine (is_in_snapshot m.name) (is_in_snapshot n.name)
      (λ a b two. λ j. list_any (λ (s : WorldSnapshot). has_medium (one.name j) s.slots) (two.snapshots j)) w.machines v.machines like.machines i

  agrees : (s : WorldSlot) → Agree w.media v.media s
  agrees s = alike_find IsWrittenMedium medium_name (λ m n one. one.name) asked_of
      (λ m n one. λ i. (one.mode i, one.capacity i, same_some m.flat n.flat one.disk i)) s.medium w.media v.media like.media

  each_agrees : (m : WorldMachine) → EachSlot (Agree w.media v.media) m
  each_agrees m = (All-every _ agrees m.slots, All-every _ (λ s. All-every _ agrees s.slots) m.snapshots)

  first_same : (m n : WorldMedium) → IsWrittenMedium m n → sum_by (first_count n.name) v.machines ≡ sum_by (first_count m.name) w.machines
  first_same m n one = alike_sum IsWrittenMachine (first_count m.name) (first_count n.name) (λ a b two. λ i.
      count_by (λ (s : WorldSnapshot). has_medium (one.name i) s.slots && not (has_medium (one.name i) (slots_named s.parent (two.snapshots i))))
      (two.snapshots i)) w.machines v.machines like.machines

  free_same : (name : Name) → has_name medium_name name v.media ≡ has_name medium_name name w.media
  free_same name = alike_any IsWrittenMedium _ _ (λ m n one. ap (λ (x : Name). bytes_eq x name) one.name) w.media v.media like.media

  pub written_sound_of : IsSound v
  written_sound_of = record {
    seed = ap length like.seed ∙ ok.seed;
    next = like.next;
    inner = rw like.inner ok.inner;
    media_order = alike_rises IsWrittenMedium medium_name (λ m n one. one.name) w.media v.media like.media ok.media_order;
    media_names = alike_all IsWrittenMedium _ _ (λ m n one named. rw one.name named) w.media v.media like.media ok.media_names;
    media = alike_all IsWrittenMedium _ _ (λ m n one sound. record {
      frozen = same_none m.flat n.flat one.disk ∙ sound.frozen ∙ sym (frozen_same m n one);
      disk = rw one.capacity (same_capacity m.flat n.flat m.capacity one.disk sound.disk);
      capacity = rw one.capacity sound.capacity;
    }) w.media v.media like.media ok.media;
    machine_order = alike_rises IsWrittenMachine machine_name (λ a b two. two.name) w.machines v.machines like.machines ok.machine_order;
    machines = alike_all IsWrittenMachine _ _ (λ a b two sound. sound_machine v.media a b two (machine_kept w.media v.media a (each_agrees a) sound))
        w.machines v.machines like.machines ok.machines;
    first = alike_all IsWrittenMedium _ _ (λ m n one once frozen. first_same m n one ∙ once (sym (frozen_same m n one) ∙ frozen))
        w.media v.media like.media ok.first;
    shelf = λ name. subst (λ (shelf : Name → Option Shelved). IfSome (shelf name) (IsSoundShelf v.media name)) (sym like.shelf)
        (shelf_kept w.media v.media name (w.shelf name) (λ there free. free_same name ∙ free) (ok.shelf name));
    few_media = rw (alike_length IsWrittenMedium w.media v.media like.media) ok.few_media;
    few_machines = rw (alike_length IsWrittenMachine w.machines v.machines like.machines) ok.few_machines;
    few_snapshots = rw (alike_sum IsWrittenMachine _ _ (λ a b two. ap length two.snapshots) w.machines v.machines like.machines) ok.few_snapshots;
    few_places = rw (alike_sum IsWrittenMachine places_of places_of
        (λ a b two. ap (sum_by (λ (s : WorldSnapshot). length s.slots)) two.snapshots) w.machines v.machines like.machines) ok.few_places;
  }

-- A world that is sound is so after its disks were written.
pub written_sound : (w v : World) → IsWritten w v → IsSound w → IsSound v
written_sound w v like ok = written_sound_of w v like ok

-- where a medium is replaced by one of the same name, mode and capacity, with a disk of the same length where it had one
pub medium_changed : (w : World) → IsSound w → (name : Name) (change : WorldMedium → WorldMedium)
    → ((m : WorldMedium) → medium_of w name ≡ Some m → IsWrittenMedium m (change m)) → (next : ℕ) → next ≤ NUMBER_LIMIT
    → IsWritten w (record (with_medium w name change) { next = next })
medium_changed w ok name change kept next low = record {
  seed = refl;
  next = low;
  inner = refl;
  media = alike_map IsWrittenMedium _ w.media (All-map _ _ (λ m found.
      cond_both (is_named medium_name name m) (change m) m (IsWrittenMedium m)
      (λ e. kept m (subst (λ (n : Name). medium_of w n ≡ Some m) (same_name m.name name e) found)) (λ e. medium_refl m))
      w.media (each_found medium_name w.media ok.media_order));
  machines = alike_refl IsWrittenMachine written_refl w.machines;
  shelf = refl;
}

-- So the world stays sound.
pub medium_written : (w : World) → IsSound w → (name : Name) (change : WorldMedium → WorldMedium)
    → ((m : WorldMedium) → medium_of w name ≡ Some m → IsWrittenMedium m (change m)) → (next : ℕ) → next ≤ NUMBER_LIMIT
    → IsSound (record (with_medium w name change) { next = next })
medium_written w ok name change kept next low = written_sound w _ (medium_changed w ok name change kept next low) ok
