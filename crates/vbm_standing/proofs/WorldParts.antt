-- Parts of the world after an edit.
use Rattle.std.proofs.Common.{◌≡◌, ℕ, ◌+◌, Bool, true, false, not, cond, ◌&&◌, List, [], ◌∷◌, map, Option, Some, None, refl, sym, ap, ◌∙◌, arith, inl, inr}
use Rattle.std.specs.Prelude.{count_by}
use Rattle.std.specs.List.{AllByRecursion, list_any}
use Rattle.std.specs.Option.{option_map}
use Rattle.std.specs.Str.{bytes_eq}
use Rattle.std.proofs.lemmas.Bool.{cases_Bool}
use Rattle.std.proofs.lemmas.List.Sums.{sum_by-cons}
use Rattle.std.proofs.lemmas.Simd.{map-map}
use Rattle.vbm_ports.specs.Files.{Files, bytes_of}
use Rattle.vbm_ports.specs.Names.{is_medium_name}
use Rattle.vbm_volume.specs.Sectors.{flat_of_base}
use Rattle.vbm_machines.specs.declared.Held.{Held}
use Rattle.vbm_machines.specs.declared.Held.TheVariants.{Direct, Own, Base}
use Rattle.vbm_world.specs.declared.world.WorldMedium.{WorldMedium}
use Rattle.vbm_world.specs.declared.world.WorldSlot.{WorldSlot}
use Rattle.vbm_world.specs.declared.world.WorldSnapshot.{WorldSnapshot}
use Rattle.vbm_world.specs.declared.world.WorldMachine.{WorldMachine}
use Rattle.vbm_named.specs.Names.{Name, is_named, find_by, has_name, change_by}
use Rattle.vbm_world.specs.World.{medium_name, machine_name, medium_of, is_normal, has_own, has_medium, is_in_snapshot, is_frozen}
use Rattle.vbm_named.proofs.Lists.{All-map, any_map, find_map, change_map}
use Rattle.vbm_registry.specs.declared.media.Medium.{Medium}
use Rattle.vbm_registry.specs.Library.{medium_entry_name}
use Rattle.vbm_standing.specs.Headers.{header_in, variant_of, shelved_file}
use Rattle.vbm_standing.proofs.HeaderFacts.{header_frame}
use Rattle.vbm_registry.specs.Named.{ImageName, OfMedium, OfInner, NamedInner, NamedSlot, NamedSnapshot, NamedMachine, NamedMerging, NamedLibrary, named_machine_name}
use Rattle.vbm_registry.specs.Chains.{merging_into}
use Rattle.vbm_standing.specs.ChainDisks.{disk_by}
use Rattle.vbm_standing.specs.Meaning.{held_at_end, own_by, place_in, slot_in, snapshot_in, machine_in, has_slot_of, has_snapshot_of, is_frozen_in, modify_at_end, flat_at_end, medium_in, is_made, shelf_in, world_of}
use Rattle.vbm_standing.specs.Edits.{Renewal, Keep, Renew, renewed_slots, new_inners, renewal_count, renewal_over, renewal_of}
use Rattle.vbm_world.specs.Snapshots.{unless_frozen}
use Rattle.vbm_registry.proofs.ListLaws.{map-same}
use Rattle.vbm_standing.specs.EditedFiles.{SameMediumFiles}

-- ---- frozen media

module _ (running : Name → Bool) (l : NamedLibrary) (files : Files) where
  snapped-same : (name : Name) (m : NamedMachine) → is_in_snapshot name (machine_in running l files m) ≡ has_snapshot_of name m
  snapped-same name m =
      any_map (snapshot_in l files) (λ (s : WorldSnapshot). has_medium name s.slots) m.snapshots
      ∙ ap (λ p. list_any p m.snapshots) (λ i s. any_map (place_in l files) (λ (s : WorldSlot). bytes_eq s.medium name) s.slots i)

  -- a medium is frozen in the world where it is in the library
  pub frozen-same : (machines : List NamedMachine) (m : Medium) (v : WorldMedium) → v.name ≡ m.name → v.mode ≡ m.mode
      → is_frozen (map (machine_in running l files) machines) v ≡ is_frozen_in machines m
  frozen-same machines m v name mode =
      (λ i. is_normal (mode i) && list_any (is_in_snapshot (name i)) (map (machine_in running l files) machines))
      ∙ ap (λ b. is_normal m.mode && b) (any_map (machine_in running l files) (is_in_snapshot m.name) machines
      ∙ ap (λ p. list_any p machines) (λ i n. snapped-same m.name n i))

-- ---- media

-- what a medium's place in the world rests on stays: its file, whether it is frozen, and the disk of what is merged into it
pub record MediumStays (l k : NamedLibrary) (a b : Files) (m : Medium) : Type 0 where
  pub file : b m.name ≡ a m.name
  pub frozen : is_frozen_in k.machines m ≡ is_frozen_in l.machines m
  pub merged : (j : NamedMerging) → merging_into (OfMedium m.name) l.merging ≡ Some j → disk_by k b (OfInner j.child) ≡ disk_by l a (OfInner j.child)

module _ (changed : Name → Bool) (l k : NamedLibrary) (a b : Files) (seed : k.seed ≡ l.seed) (merging : k.merging ≡ l.merging) where
  flat-stays : (m : Medium) (o : Option NamedMerging) → b m.name ≡ a m.name
      → ((j : NamedMerging) → o ≡ Some j → disk_by k b (OfInner j.child) ≡ disk_by l a (OfInner j.child))
      → flat_at_end k b m.name o ≡ flat_at_end l a m.name o
  flat-stays m None file merged = λ i. flat_of_base (bytes_of (file i)) (header_frame a b m.name file i)
  flat-stays m (Some j) file merged = merged j refl

  flat-merged : (m : Medium) → b m.name ≡ a m.name
      → ((j : NamedMerging) → merging_into (OfMedium m.name) l.merging ≡ Some j → disk_by k b (OfInner j.child) ≡ disk_by l a (OfInner j.child))
      → flat_at_end k b m.name (merging_into (OfMedium m.name) k.merging) ≡ flat_at_end l a m.name (merging_into (OfMedium m.name) l.merging)
  flat-merged m file merged =
      ap (λ js. flat_at_end k b m.name (merging_into (OfMedium m.name) js)) merging
      ∙ flat-stays m (merging_into (OfMedium m.name) l.merging) file merged

  modify-merged : (m : Medium) → b m.name ≡ a m.name
      → modify_at_end k.seed (header_in b m.name) (merging_into (OfMedium m.name) k.merging)
      ≡ modify_at_end l.seed (header_in a m.name) (merging_into (OfMedium m.name) l.merging)
  modify-merged m file = λ i. modify_at_end (seed i) (header_frame a b m.name file i) (merging_into (OfMedium m.name) (merging i))

  pub medium-stays : (m : Medium) → MediumStays l k a b m → medium_in changed k b m ≡ medium_in changed l a m
  unfolding medium_in
  medium-stays m stays =
      let header = header_frame a b m.name stays.file in
      let modify = modify-merged m stays.file in
      let flat = flat-merged m stays.file stays.merged in
      λ i. record {
        name = m.name;
        id = (header i).id;
        modify = modify i;
        changed = changed m.name;
        mode = m.mode;
        variant = variant_of (header i).image_type;
        capacity = (header i).capacity;
        flat = cond (stays.frozen i) None (Some (flat i));
      }

  -- a medium that may be frozen now
  pub medium-frozen : (m : Medium) (machines : List WorldMachine) → b m.name ≡ a m.name
      → ((j : NamedMerging) → merging_into (OfMedium m.name) l.merging ≡ Some j → disk_by k b (OfInner j.child) ≡ disk_by l a (OfInner j.child))
      → is_frozen machines (medium_in changed l a m) ≡ is_frozen_in k.machines m
      → (is_frozen_in k.machines m ≡ false → is_frozen_in l.machines m ≡ false)
      → medium_in changed k b m ≡ unless_frozen machines (medium_in changed l a m)
  unfolding medium_in
  medium-frozen m machines file merged is less =
      let header = header_frame a b m.name file in
      let modify = modify-merged m file in
      let flat = flat-merged m file merged in
      let old = flat_at_end l a m.name (merging_into (OfMedium m.name) l.merging) in
      let new = flat_at_end k b m.name (merging_into (OfMedium m.name) k.merging) in
      let both : cond (is_frozen_in k.machines m) None (Some new) ≡ cond (is_frozen_in k.machines m) None (cond (is_frozen_in l.machines m) None (Some old)) =
      elim (cases_Bool (is_frozen_in k.machines m)) [
        | inl frozen ↦ rw frozen refl
        | inr free ↦ let before = less free in rw (free, before) (ap Some flat)
      ] in
      let flat_is = both ∙ ap (λ f. cond f None (cond (is_frozen_in l.machines m) None (Some old))) (sym is) in
      λ i. record {
        name = m.name;
        id = (header i).id;
        modify = modify i;
        changed = changed m.name;
        mode = m.mode;
        variant = variant_of (header i).image_type;
        capacity = (header i).capacity;
        flat = flat_is i;
      }

  pub media-stay : (ms : List Medium) → AllByRecursion (MediumStays l k a b) ms → map (medium_in changed k b) ms ≡ map (medium_in changed l a) ms
  media-stay ms stay = map-same _ _ ms (All-map _ _ medium-stays ms stay)

-- ---- slots and places

-- no merging
module _ (l : NamedLibrary) (files : Files) (plain : l.merging ≡ []) where
  held-plain : (h : Held) → held_at_end l.merging h ≡ h
  held-plain Direct = refl
  held-plain (Own n) = ap (λ js. held_at_end js (Own n)) plain
  held-plain Base = refl

  pub slot-plain : (s : NamedSlot) → slot_in l files s ≡ place_in l files s
  slot-plain s = ap (λ h. place_in l files (record s { held = h })) (held-plain s.held)

-- the image that a place holds has the property; a place that is Direct holds none
abbrev pub OfHeld : (ImageName → Type 0) → Name → Held → Type 0
OfHeld P medium Direct = Unit {0}
OfHeld P medium (Own n) = P (OfInner n)
OfHeld P medium Base = P (OfMedium medium)

abbrev pub OfPlace : (ImageName → Type 0) → NamedSlot → Type 0
OfPlace P s = OfHeld P s.medium s.held

-- of all slots and places of a machine
abbrev pub OfMachine : (ImageName → Type 0) → NamedMachine → Type 0
OfMachine P m = AllByRecursion (OfPlace P) m.slots × AllByRecursion (λ (s : NamedSnapshot). AllByRecursion (OfPlace P) s.slots) m.snapshots

module _ (l k : NamedLibrary) (a b : Files) where
  abbrev pub SameDisk : ImageName → Type 0
  SameDisk image = disk_by k b image ≡ disk_by l a image

  own-stays : (medium : Name) (h : Held) → OfHeld SameDisk medium h → own_by k b medium h ≡ own_by l a medium h
  own-stays medium Direct same = refl
  own-stays medium (Own n) same = ap Some same
  own-stays medium Base same = ap Some same

  pub place-stays : (s : NamedSlot) → OfPlace SameDisk s → place_in k b s ≡ place_in l a s
  place-stays s same = let own = own-stays s.medium s.held same in λ i. record { port = s.port; medium = s.medium; autoreset = s.autoreset; own = own i }

  pub places-stay : (slots : List NamedSlot) → AllByRecursion (OfPlace SameDisk) slots → map (place_in k b) slots ≡ map (place_in l a) slots
  places-stay slots same = map-same _ _ slots (All-map _ _ place-stays slots same)

  pub snapshots-stay : (snapshots : List NamedSnapshot) → AllByRecursion (λ (s : NamedSnapshot). AllByRecursion (OfPlace SameDisk) s.slots) snapshots
      → map (snapshot_in k b) snapshots ≡ map (snapshot_in l a) snapshots
  snapshots-stay snapshots same = map-same _ _ snapshots (All-map _ _
      (λ s h. let slots = places-stay s.slots h in λ i. record { name = s.name; parent = s.parent; slots = slots i }) snapshots same)

  module _ (plain : l.merging ≡ []) (plainly : k.merging ≡ []) where
    pub slots-stay : (slots : List NamedSlot) → AllByRecursion (OfPlace SameDisk) slots → map (slot_in k b) slots ≡ map (slot_in l a) slots
    slots-stay slots same = map-same _ _ slots (All-map _ _ (λ s h. slot-plain k b plainly s ∙ place-stays s h ∙ sym (slot-plain l a plain s)) slots same)

    pub machine-stays : (running : Name → Bool) (m : NamedMachine) → OfMachine SameDisk m → machine_in running k b m ≡ machine_in running l a m
    machine-stays running m same =
        let slots = slots-stay m.slots same.0 in
        let snapshots = snapshots-stay m.snapshots same.1 in
        λ i. record { name = m.name; running = running m.name; slots = slots i; snapshots = snapshots i; current = m.current }

-- ---- slots with new images

-- a slot as it is, or with the disk of an image
abbrev pub renewed_in : NamedLibrary → Files → Renewal → WorldSlot
renewed_in l files (Keep s) = place_in l files s
renewed_in l files (Renew s over) = record { port = s.port; medium = s.medium; autoreset = s.autoreset; own = Some (disk_by l files over) }

abbrev pub OfKept : (ImageName → Type 0) → List Renewal → Type 0
OfKept P [] = Unit {0}
OfKept P (Keep s ∷ rs) = OfPlace P s × OfKept P rs
OfKept P (Renew s over ∷ rs) = OfKept P rs

module _ (l k : NamedLibrary) (a b : Files) (plainly : k.merging ≡ []) where
  pub slots-renewed : (rs : List Renewal) (n : ℕ) → OfKept (SameDisk l k a b) rs
      → AllByRecursion (λ (x : NamedInner). disk_by k b (OfInner x.number) ≡ disk_by l a x.parent) (new_inners n rs)
      → map (slot_in k b) (renewed_slots n rs) ≡ map (renewed_in l a) rs
  slots-renewed [] n same new = refl
  slots-renewed (Keep s ∷ rs) n same new =
      let here = slot-plain k b plainly s ∙ place-stays l k a b s same.0 in
      let rest = slots-renewed rs n same.1 new in
      λ i. here i ∷ rest i
  slots-renewed (Renew s over ∷ rs) n same new =
      let here = slot-plain k b plainly (record s { held = Own n })
      ∙ (λ i. record { port = s.port; medium = s.medium; autoreset = s.autoreset; own = Some (new.0 i) }) in
      let rest = slots-renewed rs (n + 1) same new.1 in
      λ i. here i ∷ rest i

module _ (l : NamedLibrary) (files : Files) where
  over-held : (s : NamedSlot) (h : Held) → s.held ≡ h → renewed_in l files (renewal_over s h) ≡ place_in l files s
  over-held s Direct e = refl
  over-held s (Own n) e = λ i. record { port = s.port; medium = s.medium; autoreset = s.autoreset; own = sym (ap (own_by l files s.medium) e) i }
  over-held s Base e = λ i. record { port = s.port; medium = s.medium; autoreset = s.autoreset; own = sym (ap (own_by l files s.medium) e) i }

  -- a slot over what a place holds has the disk of the place
  pub over-places : (slots : List NamedSlot) → map (renewed_in l files) (map renewal_of slots) ≡ map (place_in l files) slots
  over-places slots = map-map (renewed_in l files) renewal_of slots ∙ ap (λ f. map f slots) (λ i s. over-held s s.held refl i)

  drawn-held : (s : NamedSlot) (h : Held) (rs : List Renewal)
      → renewal_count (renewal_over s h ∷ rs) ≡ cond (has_own (place_in l files (record s { held = h }))) 1 0 + renewal_count rs
  drawn-held s Direct rs = omega arith
  drawn-held s (Own n) rs = omega arith
  drawn-held s Base rs = omega arith

  -- a number is drawn for each place that has its own disk
  pub drawn-places : (slots : List NamedSlot) → renewal_count (map renewal_of slots) ≡ count_by has_own (map (place_in l files) slots)
  drawn-places [] = refl
  drawn-places (s ∷ slots) =
      drawn-held s s.held (map renewal_of slots)
      ∙ ap (λ n. cond (has_own (place_in l files s)) 1 0 + n) (drawn-places slots)
      ∙ sym (sum_by-cons (λ (x : WorldSlot). cond (has_own x) 1 0) (place_in l files s) (map (place_in l files) slots))

-- ---- look-ups

module _ (changed running : Name → Bool) (l : NamedLibrary) (files : Files) where
  medium_in-name : (m : Medium) → medium_name (medium_in changed l files m) ≡ medium_entry_name m
  unfolding medium_in
  medium_in-name m = refl

  pub medium_of-world : (name : Name) → medium_of (world_of changed running l files) name ≡ option_map (medium_in changed l files) (find_by medium_entry_name name l.media)
  unfolding world_of
  medium_of-world name = find_map (medium_in changed l files) medium_entry_name medium_name medium_in-name name l.media

-- ---- the shelf

pub shelf-stays : (l k : NamedLibrary) (a b : Files) → k.media ≡ l.media → k.making ≡ l.making → SameMediumFiles a b → shelf_in k b ≡ shelf_in l a
shelf-stays l k a b media making same = λ i name. at name i
  where
    at : (name : Name) → shelf_in k b name ≡ shelf_in l a name
    at name = (λ i. shelf_in (record k { media = media i; making = making i }) b name) ∙ of_name (is_medium_name name) (same name)
      where
        others : Bool
        others = not (has_name medium_entry_name name l.media)

        unmade : Bool
        unmade = not (is_made l.making name)

        of_name : (n : Bool) → (n ≡ true → b name ≡ a name)
            → cond (n && others && unmade) (option_map shelved_file (b name)) None
            ≡ cond (n && others && unmade) (option_map shelved_file (a name)) None
        of_name true file = ap (λ o. cond (others && unmade) (option_map shelved_file o) None) (file refl)
        of_name false file = refl

-- ---- machines

-- a machine is replaced by one of its name
pub machines-changed : (running more : Name → Bool) (l k : NamedLibrary) (a b : Files) (m : NamedMachine) (v : WorldMachine) (machines : List NamedMachine)
    → machine_in more k b m ≡ v → v.name ≡ m.name
    → AllByRecursion (λ (n : NamedMachine). bytes_eq n.name m.name ≡ false → machine_in more k b n ≡ machine_in running l a n) machines
    → map (machine_in more k b) (change_by named_machine_name m.name (λ _. m) machines)
    ≡ change_by machine_name v.name (λ _. v) (map (machine_in running l a) machines)
machines-changed running more l k a b m v machines here name others =
    map-map (machine_in more k b) (λ n. cond (is_named named_machine_name m.name n) m n) machines
    ∙ change_map (machine_in running l a) named_machine_name machine_name (λ n. refl) (λ n. machine_in more k b (cond (is_named named_machine_name m.name n) m n))
    m.name (λ _. v) machines (All-map _ _ each machines others)
    ∙ ap (λ x. change_by machine_name x (λ _. v) (map (machine_in running l a) machines)) (sym name)
  where
    each : (n : NamedMachine) → (bytes_eq n.name m.name ≡ false → machine_in more k b n ≡ machine_in running l a n)
        → machine_in more k b (cond (is_named named_machine_name m.name n) m n) ≡ cond (bytes_eq n.name m.name) v (machine_in running l a n)
    each n same = of_test (bytes_eq n.name m.name) same
      where
        of_test : (t : Bool) → (t ≡ false → machine_in more k b n ≡ machine_in running l a n)
            → machine_in more k b (cond t m n) ≡ cond t v (machine_in running l a n)
        of_test true other = here
        of_test false other = other refl
