-- A machine is started: the world of the library and the files after it is the world that the step gives.
use Rattle.std.proofs.Common.{◌≡◌, ℕ, ◌+◌, Bool, true, false, not, cond, ◌&&◌, ◌||◌, List, [], ◌∷◌, map, Option, Some, None, refl, sym, ap, subst, ◌∙◌, arith, is_some}
use Rattle.std.specs.Prelude.{◌==◌, if◌then◌else◌, filter, find, count_by, option_and_then}
use Rattle.std.specs.List.{AllByRecursion, list_any}
use Rattle.std.specs.Option.{option_map}
use Rattle.std.specs.Str.{bytes_eq}
use Rattle.std.proofs.lemmas.Bool.{cond_both, and_parts, not-false}
use Rattle.std.proofs.lemmas.Simd.{map-map}
use Rattle.std.proofs.lemmas.List.Sums.{sum_by-cons}
use Rattle.std.proofs.lemmas.List.Folds.{fold-map}
use Rattle.std.proofs.lemmas.Slice.Eq.{bytes_eq-Decides}
use Rattle.vbm_ports.specs.Files.{Files}
use Rattle.vbm_modes.specs.declared.Mode.{Mode}
use Rattle.vbm_modes.specs.declared.Mode.TheVariants.{Normal, Immutable, Writethrough, MultiAttach, Readonly}
use Rattle.vbm_machines.specs.declared.Held.{Held}
use Rattle.vbm_machines.specs.declared.Held.TheVariants.{Direct, Own, Base}
use Rattle.vbm_world.specs.declared.world.WorldMedium.{WorldMedium}
use Rattle.vbm_world.specs.declared.world.WorldSlot.{WorldSlot}
use Rattle.vbm_world.specs.declared.world.WorldMachine.{WorldMachine}
use Rattle.vbm_named.specs.Names.{Name, find_by}
use Rattle.vbm_world.specs.World.{World, snapshot_name, is_normal, is_immutable, is_of_mode, is_direct_of}
use Rattle.vbm_world.specs.Places.{own_or_medium, slots_of, slots_named}
use Rattle.vbm_modes.specs.Modes.{is_reset}
use Rattle.vbm_world.specs.Machines.{disk_or_medium, is_resetting, reset_slot, unchanged_by, started}
use Rattle.vbm_named.proofs.Lists.{name_refl, has_found, find_named, find_map, All-map, All-join, All-every, All-find}
use Rattle.vbm_registry.specs.declared.media.Medium.{Medium}
use Rattle.vbm_registry.specs.Library.{medium_entry_name}
use Rattle.vbm_registry.specs.Named.{ImageName, OfMedium, NamedInner, NamedSlot, NamedSnapshot, NamedMachine, NamedLibrary, images_of, named_snapshot_name, named_machine_name}
use Rattle.vbm_registry.specs.Chains.{merging_into}
use Rattle.vbm_standing.specs.ChainDisks.{disk_by}
use Rattle.vbm_standing.specs.Meaning.{own_by, place_in, slot_in, snapshot_in, machine_in, has_snapshot_of, is_frozen_in, flat_at_end, medium_in, shelf_in, world_of}
use Rattle.vbm_registry.specs.Rules.{has_mode, is_medium_of, places_of_some, upper_places, IsNamedSlot, IsMachine, IsLibrary}
use Rattle.vbm_standing.specs.Edits.{Renewal, renewed_slots, new_inners, renewal_count, own_in, image_held, image_of_place, reset_image, is_reset_at_start, renewal_if, renewal_at_start, library_started}
use Rattle.vbm_registry.proofs.ListLaws.{map-same}
use Rattle.vbm_standing.proofs.ChainFrames.{disk-medium, IsRenewed, Remains, disk-stays, disk-new}
use Rattle.vbm_standing.proofs.WorldParts.{slot-plain, OfHeld, OfPlace, OfMachine, SameDisk, snapshots-stay, OfKept, renewed_in, slots-renewed, medium_of-world}
use Rattle.vbm_standing.proofs.PlacesHeld.{machine-listed, held-map, places-map, places-both, machine-both}
use Rattle.vbm_standing.proofs.WorldEdits.{IsOfMachine, world-kept, frozen-equal, named-is}
use Rattle.vbm_standing.proofs.EditedStores.{All-filter}
use Rattle.vbm_standing.proofs.LeafImages.{named-all, leaves-closed, snaps-stay, others-stay, going-own, left-stay}
use Rattle.vbm_standing.specs.EditedFiles.{AreEdited, IsStaying, HasImage}

-- ---- some slots of a list renewed

module _ (test : NamedSlot → Bool) (over : NamedSlot → ImageName) where
  abbrev some : NamedSlot → Renewal
  some s = renewal_if (test s) s (over s)

  module _ (P : ImageName → Type 0) where
    over-if : (c : Bool) (s : NamedSlot) (image : ImageName) (rs : List Renewal) (n : ℕ) → (c ≡ true → P image)
        → ((m : ℕ) → AllByRecursion (λ (x : NamedInner). P x.parent) (new_inners m rs))
        → AllByRecursion (λ (x : NamedInner). P x.parent) (new_inners n (renewal_if c s image ∷ rs))
    over-if true s image rs n p rest = (p refl, rest (n + 1))
    over-if false s image rs n p rest = rest n

    pub parents-some : (slots : List NamedSlot) (n : ℕ) → AllByRecursion (λ s. test s ≡ true → P (over s)) slots
        → AllByRecursion (λ (x : NamedInner). P x.parent) (new_inners n (map some slots))
    parents-some [] n all = tt
    parents-some (s ∷ slots) n all = over-if (test s) s (over s) (map some slots) n all.0 (λ m. parents-some slots m all.1)

    keep-if : (c : Bool) (s : NamedSlot) (image : ImageName) (rs : List Renewal) → (c ≡ false → OfPlace P s) → OfKept P rs → OfKept P (renewal_if c s image ∷ rs)
    keep-if true s image rs p rest = rest
    keep-if false s image rs p rest = (p refl, rest)

    keeps-some : (slots : List NamedSlot) → AllByRecursion (λ s. test s ≡ false → OfPlace P s) slots → OfKept P (map some slots)
    keeps-some [] all = tt
    keeps-some (s ∷ slots) all = keep-if (test s) s (over s) (map some slots) all.0 (keeps-some slots all.1)

  drawn-if : (c : Bool) (s : NamedSlot) (image : ImageName) (rs : List Renewal) → renewal_count (renewal_if c s image ∷ rs) ≡ cond c 1 0 + renewal_count rs
  drawn-if true s image rs = omega arith
  drawn-if false s image rs = omega arith

  drawn-some : (slots : List NamedSlot) → renewal_count (map some slots) ≡ count_by test slots
  drawn-some [] = refl
  drawn-some (s ∷ slots) =
      drawn-if (test s) s (over s) (map some slots) ∙ ap (λ n. cond (test s) 1 0 + n) (drawn-some slots)
      ∙ sym (sum_by-cons (λ (x : NamedSlot). cond (test x) 1 0) s slots)

-- what is found passes the test, and has what all have
pub find-passes : {X : Type 0} (p : X → Bool) (x : X) (xs : List X) → find p xs ≡ Some x → p x ≡ true
find-passes p x [] e = absurd cc
find-passes p x (y ∷ ys) e = cond_both (p y) (Some y) (find p ys) (λ o. o ≡ Some x → p x ≡ true)
    (λ t is. let same : y ≡ x = cc in subst (λ z. p z ≡ true) same t) (λ f is. find-passes p x ys is) e

pub find-has : {X : Type 0} (P : X → Type 0) (p : X → Bool) (x : X) (xs : List X) → AllByRecursion P xs → find p xs ≡ Some x → P x
find-has P p x [] all e = absurd cc
find-has P p x (y ∷ ys) all e = cond_both (p y) (Some y) (find p ys) (λ o. o ≡ Some x → P x)
    (λ t is. let same : y ≡ x = cc in subst P same all.0) (λ f is. find-has P p x ys all.1 is) e

find-over : {X Y : Type 0} (f : X → Y) (p : Y → Bool) (xs : List X) → find p (map f xs) ≡ option_map f (find (λ x. p (f x)) xs)
find-over f p [] = refl
find-over f p (x ∷ xs) = cond_both (p (f x)) (Some x) (find (λ y. p (f y)) xs) (λ o. find p (map f (x ∷ xs)) ≡ option_map f o)
    (λ e. rw e refl) (λ e. rw e (find-over f p xs))

pub unfilter : {X : Type 0} (P : X → Type 0) (p : X → Bool) (xs : List X) → AllByRecursion P (filter (λ x. not (p x)) xs) → AllByRecursion (λ x. p x ≡ false → P x) xs
unfilter P p [] all = tt
unfilter P p (x ∷ xs) all = cond_both (not (p x)) (x ∷ filter (λ y. not (p y)) xs) (filter (λ y. not (p y)) xs)
    (λ l. AllByRecursion P l → AllByRecursion (λ y. p y ≡ false → P y) (x ∷ xs))
    (λ e all. (λ no_so. all.0, unfilter P p xs all.1))
    (λ e all. ((λ no_so. let clash : true ≡ false = sym (not-false (p x) e) ∙ no_so in absurd cc), unfilter P p xs all)) all

-- ---- the slots of a snapshot

slots_of-map : (l : NamedLibrary) (files : Files) (o : Option NamedSnapshot) → slots_of (option_map (snapshot_in l files) o) ≡ map (place_in l files) (places_of_some o)
slots_of-map l files None = refl
slots_of-map l files (Some s) = refl

pub slots_named-map : (l : NamedLibrary) (files : Files) (name : Option Name) (snapshots : List NamedSnapshot)
    → slots_named name (map (snapshot_in l files) snapshots) ≡ map (place_in l files) (upper_places name snapshots)
slots_named-map l files None snapshots = refl
slots_named-map l files (Some name) snapshots =
    ap slots_of (find_map (snapshot_in l files) named_snapshot_name snapshot_name (λ s. refl) name snapshots) ∙ slots_of-map l files (find_by named_snapshot_name name snapshots)

immutable_not_normal : (mode : Mode) → is_immutable mode ≡ true → is_normal mode ≡ false
immutable_not_normal Normal e = absurd cc
immutable_not_normal Immutable e = refl
immutable_not_normal MultiAttach e = refl
immutable_not_normal Writethrough e = refl
immutable_not_normal Readonly e = refl

is_reset_of : (mode : Mode) (auto : Bool) → is_reset mode auto ≡ true → is_immutable mode ≡ true
is_reset_of Normal auto e = absurd cc
is_reset_of Immutable auto e = refl
is_reset_of MultiAttach auto e = absurd cc
is_reset_of Writethrough auto e = absurd cc
is_reset_of Readonly auto e = absurd cc

some_reset : (auto : Bool) (o : Option Medium) → has_mode (λ mode. is_reset mode auto) o ≡ true → has_mode is_immutable o ≡ true
some_reset auto None e = absurd cc
some_reset auto (Some m) e = is_reset_of m.mode auto e

-- media have changed since a start as before, but for those that these slots share
abbrev pub still_changed : (Name → Bool) → List WorldSlot → Name → Bool
still_changed changed slots name = if list_any (is_direct_of name) slots then false else changed name

-- ---- a slot that is reset

module _ (changed running : Name → Bool) (l : NamedLibrary) (files : Files) (plain : l.merging ≡ []) where
  abbrev w : World
  w = world_of changed running l files

  mode-map : (test : Mode → Bool) (o : Option Medium) → is_of_mode test (option_map (medium_in changed l files) o) ≡ has_mode test o
  unfolding medium_in
  mode-map test None = refl
  mode-map test (Some m) = refl

  resets-same : (s : NamedSlot) → is_resetting w (slot_in l files s) ≡ is_reset_at_start l.media s
  resets-same s = ap (is_of_mode (λ mode. is_reset mode s.autoreset)) (medium_of-world changed running l files s.medium)
      ∙ mode-map (λ mode. is_reset mode s.autoreset) (find_by medium_entry_name s.medium l.media)

  module _ (s : NamedSlot) (is : IsNamedSlot (images_of l) false s) (immutable : is_medium_of is_immutable l.media s.medium ≡ true) where
    -- the medium's disk
    flat-is : own_or_medium w s.medium None ≡ Some (disk_by l files (OfMedium s.medium))
    unfolding medium_in
    flat-is =
        let m = is.medium in
        let name : m.name ≡ s.medium = (bytes_eq-Decides m.name s.medium).0 (find_named medium_entry_name s.medium m l.media is.there) in
        let mode : is_immutable m.mode ≡ true = sym (ap (has_mode is_immutable) is.there) ∙ immutable in
        ap (option_and_then (λ (n : WorldMedium). n.flat)) (medium_of-world changed running l files s.medium ∙ ap (option_map (medium_in changed l files)) is.there)
        ∙ ap (λ t. cond (t && list_any (has_snapshot_of m.name) l.machines) None (Some (flat_at_end l files m.name (merging_into (OfMedium m.name) l.merging)))) (immutable_not_normal m.mode mode)
        ∙ ap (λ js. Some (flat_at_end l files m.name (merging_into (OfMedium m.name) js))) plain
        ∙ ap Some (sym (disk-medium l files m.name)) ∙ ap (λ n. Some (disk_by l files (OfMedium n))) name

    held-is : (t : NamedSlot) (h : Held) → t.held ≡ h → t.medium ≡ s.medium
        → Some (disk_by l files (image_held s.medium h)) ≡ own_or_medium w s.medium (own_by l files t.medium h)
    held-is t Direct held name = sym flat-is
    held-is t (Own n) held name = refl
    held-is t Base held name = ap (λ n. Some (disk_by l files (OfMedium n))) (sym name)

    found-is : (upper : List NamedSlot) (o : Option NamedSlot) → find (λ (t : NamedSlot). t.port == s.port && bytes_eq t.medium s.medium) upper ≡ o
        → Some (disk_by l files (image_of_place s.medium o)) ≡ disk_or_medium w s.medium (option_map (place_in l files) o)
    found-is upper None e = sym flat-is
    found-is upper (Some t) e =
        let passes = and_parts (t.port == s.port) (bytes_eq t.medium s.medium) (find-passes _ t upper e) in
        held-is t t.held refl ((bytes_eq-Decides t.medium s.medium).0 passes.1)

    reset-is : (upper : List NamedSlot) → Some (disk_by l files (reset_image upper s))
        ≡ disk_or_medium w s.medium (find (λ (t : WorldSlot). t.port == s.port && bytes_eq t.medium s.medium) (map (place_in l files) upper))
    reset-is upper =
        found-is upper (find (λ (t : NamedSlot). t.port == s.port && bytes_eq t.medium s.medium) upper) refl
        ∙ ap (disk_or_medium w s.medium) (sym (find-over (place_in l files) (λ (t : WorldSlot). t.port == s.port && bytes_eq t.medium s.medium) upper))

  -- the slot after a start
  start-is : (upper : List NamedSlot) (s : NamedSlot) → IsNamedSlot (images_of l) false s
      → renewed_in l files (renewal_at_start l.media upper s) ≡ reset_slot w (map (place_in l files) upper) (slot_in l files s)
  start-is upper s is = by (is_reset_at_start l.media s) refl
    where
      reset : WorldSlot
      reset = record (slot_in l files s) {
        own = disk_or_medium w s.medium (find (λ (t : WorldSlot). t.port == s.port && bytes_eq t.medium s.medium) (map (place_in l files) upper));
      }

      by : (c : Bool) → is_reset_at_start l.media s ≡ c
          → renewed_in l files (renewal_at_start l.media upper s) ≡ reset_slot w (map (place_in l files) upper) (slot_in l files s)
      by true e =
          let immutable = some_reset s.autoreset (find_by medium_entry_name s.medium l.media) e in
          let own = reset-is s is immutable upper in
          ap (λ t. renewed_in l files (renewal_if t s (reset_image upper s))) e
          ∙ (λ i. record { port = s.port; medium = s.medium; autoreset = s.autoreset; own = own i })
          ∙ sym (ap (λ t. cond t reset (slot_in l files s)) (resets-same s ∙ e))
      by false e =
          ap (λ t. renewed_in l files (renewal_if t s (reset_image upper s))) e
          ∙ sym (slot-plain l files plain s)
          ∙ sym (ap (λ t. cond t reset (slot_in l files s)) (resets-same s ∙ e))

-- ---- the world after it

-- which media have changed since a start makes no difference to the rest
module _ (l : NamedLibrary) (files : Files) (changed running : Name → Bool) (slots : List WorldSlot) where
  medium-still : (m : Medium) → medium_in (still_changed changed slots) l files m ≡ unchanged_by slots (medium_in changed l files m)
  unfolding medium_in
  medium-still m = refl

  pub world-still : world_of (still_changed changed slots) running l files
      ≡ (let w = world_of changed running l files in record w { media = map (unchanged_by slots) w.media })
  unfolding world_of
  world-still =
      let media : map (medium_in (still_changed changed slots) l files) l.media ≡ map (unchanged_by slots) (map (medium_in changed l files) l.media) =
      ap (λ f. map f l.media) (λ i m. medium-still m i) ∙ sym (map-map (unchanged_by slots) (medium_in changed l files) l.media) in
      λ i. record {
        seed = l.seed;
        next = l.next;
        inner = l.inner;
        media = media i;
        machines = map (machine_in running l files) l.machines;
        shelf = shelf_in l files;
      }

module _ (changed running : Name → Bool) (l : NamedLibrary) (a b : Files) (m : NamedMachine)
    (is : IsLibrary l) (plain : l.merging ≡ []) (there : find_by named_machine_name m.name l.machines ≡ Some m)
    (files : AreEdited l (own_in (filter (is_reset_at_start l.media) m.slots)) (map (renewal_at_start l.media (upper_places m.current m.snapshots)) m.slots) a b) where
  abbrev k : NamedLibrary
  k = library_started l m

  abbrev before : World
  before = world_of changed running l a

  abbrev resets : NamedSlot → Bool
  resets = is_reset_at_start l.media

  abbrev gone : ℕ → Bool
  gone = own_in (filter resets m.slots)

  abbrev upper : List NamedSlot
  upper = upper_places m.current m.snapshots

  abbrev rs : List Renewal
  rs = map (renewal_at_start l.media upper) m.slots

  abbrev edited : NamedMachine
  edited = record m { slots = renewed_slots l.inner rs }

  -- the machine runs
  abbrev more : Name → Bool
  more name = bytes_eq name m.name || running name

  of : (n : ℕ) → gone n ≡ true → own_in m.slots n ≡ true
  of = going-own l is plain m there resets

  ruled : IsMachine (images_of l) m
  ruled = All-find named_machine_name (IsMachine (images_of l)) m.name m l.machines is.machines there

  listed : OfMachine (HasImage l) m
  listed = machine-listed l m ruled

  snapshots-staying : AllByRecursion (λ (t : NamedSnapshot). AllByRecursion (OfPlace (Remains l gone)) t.slots) m.snapshots
  snapshots-staying = All-join _ _ _ (λ t on stays. places-both (HasImage l) (IsStaying gone) t.slots on stays) m.snapshots listed.1
      (All-find named_machine_name _ m.name m l.machines (snaps-stay l is plain m there gone of) there)

  kept-staying : AllByRecursion (λ s. resets s ≡ false → OfPlace (Remains l gone) s) m.slots
  kept-staying = unfilter (OfPlace (Remains l gone)) resets m.slots
      (places-both (HasImage l) (IsStaying gone) (filter (λ s. not (resets s)) m.slots)
      (All-filter _ (λ s. not (resets s)) m.slots (All-map _ _ (λ s on so. on) m.slots listed.0)) (left-stay l is plain m there resets))

  held-image : (medium : Name) (t : NamedSlot) (h : Held) → HasImage l (OfMedium medium) → OfHeld (Remains l gone) t.medium h → Remains l gone (image_held medium h)
  held-image medium t Direct on stays = (on, tt)
  held-image medium t (Own n) on stays = stays
  held-image medium t Base on stays = (on, tt)

  found-image : (medium : Name) (p : NamedSlot → Bool) (o : Option NamedSlot) → find p upper ≡ o → HasImage l (OfMedium medium) → Remains l gone (image_of_place medium o)
  found-image medium p None e on = (on, tt)
  found-image medium p (Some t) e on = held-image medium t t.held on
      (find-has (OfPlace (Remains l gone)) p t upper (named-all (OfPlace (Remains l gone)) m.current m.snapshots snapshots-staying) e)

  over-staying : AllByRecursion (λ s. resets s ≡ true → Remains l gone (reset_image upper s)) m.slots
  over-staying = All-map (IsNamedSlot (images_of l) false) _ (λ s of_rules so. found-image s.medium _ (find (λ (t : NamedSlot). t.port == s.port && bytes_eq t.medium s.medium) upper) refl
      (has_found medium_entry_name s.medium l.media ∙ ap is_some of_rules.there)) m.slots ruled.slots.valid.each

  renewed : IsRenewed l gone rs a b
  renewed = record {
    renewal = record {
      inners = is.inners;
      closed = leaves-closed l is plain m there gone of;
      over = parents-some resets (reset_image upper) (Remains l gone) m.slots l.inner over-staying;
    };
    same = files.same;
    made = files.made;
  }

  same-disk : (image : ImageName) → Remains l gone image → SameDisk l k a b image
  same-disk image stays = disk-stays l gone rs edited a b renewed image stays

  abbrev after : List WorldSlot
  after = map (reset_slot before (slots_named m.current (map (snapshot_in l a) m.snapshots))) (map (slot_in l a) m.slots)

  slots-after : map (slot_in k b) (renewed_slots l.inner rs) ≡ after
  slots-after =
      slots-renewed l k a b plain rs l.inner (keeps-some resets (reset_image upper) (SameDisk l k a b) m.slots
      (All-map _ _ (λ s stays so. held-map (Remains l gone) (SameDisk l k a b) same-disk s.medium s.held (stays so)) m.slots kept-staying)) (disk-new l gone rs edited a b renewed)
      ∙ map-map (renewed_in l a) (renewal_at_start l.media upper) m.slots
      ∙ map-same _ (λ s. reset_slot before (map (place_in l a) upper) (slot_in l a s)) m.slots (All-map _ _ (start-is changed running l a plain upper) m.slots ruled.slots.valid.each)
      ∙ sym (map-map (reset_slot before (map (place_in l a) upper)) (slot_in l a) m.slots)
      ∙ ap (λ u. map (reset_slot before u) (map (slot_in l a) m.slots)) (sym (slots_named-map l a m.current m.snapshots))

  snapshots-after : map (snapshot_in k b) m.snapshots ≡ map (snapshot_in l a) m.snapshots
  snapshots-after = snapshots-stay l k a b m.snapshots (All-map _ _ (λ t stays. places-map (Remains l gone) (SameDisk l k a b) same-disk t.slots stays) m.snapshots snapshots-staying)

  abbrev machine_after : WorldMachine
  machine_after = record (machine_in running l a m) { running = true; slots = after }

  machine-after : machine_in more k b edited ≡ machine_after
  machine-after =
      let runs : more m.name ≡ true = ap (λ t. t || running m.name) (name_refl m.name) in
      λ i. record { name = m.name; running = runs i; slots = slots-after i; snapshots = snapshots-after i; current = m.current }

  frozen : AllByRecursion (λ (n : Medium). is_frozen_in k.machines n ≡ is_frozen_in l.machines n) l.media
  frozen = All-every _ (λ n. frozen-equal l.machines edited n (All-map _ _
      (λ x same of_name. sym (ap (has_snapshot_of n.name) (same of_name))) l.machines (named-is l.machines m is.machines_rise there))) l.media

  of_machine : IsOfMachine running more l gone rs edited a b
  of_machine = record {
    plain = plain;
    renewed = renewed;
    others = All-join (IsMachine (images_of l)) _ _ (λ n of_rules stays other. machine-both (HasImage l) (IsStaying gone) n (machine-listed l n of_rules) (stays other))
        l.machines is.machines (others-stay l is plain m there gone of);
    runs = All-every _ (λ n other. ap (λ t. t || running n.name) other) l.machines;
    names = is.media;
    files = files.media;
    frozen = All-map _ _ (λ n same free. sym same ∙ free) l.media frozen;
  }

  drawn-is : renewal_count rs ≡ count_by (is_resetting before) (map (slot_in l a) m.slots)
  drawn-is =
      drawn-some resets (reset_image upper) m.slots
      ∙ ap (λ p. count_by p m.slots) (λ i s. sym (resets-same changed running l a plain s) i)
      ∙ sym (fold-map (λ n (s : WorldSlot). n + cond (is_resetting before s) 1 0) (slot_in l a) 0 m.slots)

  -- The library and the files after a machine is started stand for the world that the step gives.
  pub start-world : world_of (still_changed changed (map (slot_in l a) m.slots)) more k b ≡ started before (machine_in running l a m)
  start-world =
      world-still k b changed more (map (slot_in l a) m.slots)
      ∙ ap (λ (v : World). record v { media = map (unchanged_by (map (slot_in l a) m.slots)) v.media })
      (world-kept changed running more l gone rs edited a b of_machine machine_after (count_by (is_resetting before) (map (slot_in l a) m.slots)) machine-after refl drawn-is frozen)
