-- The world of a library with a machine changed, some of whose slots have new images.
use Rattle.std.proofs.Common.{◌≡◌, ℕ, ◌+◌, Bool, true, false, cond, ◌&&◌, ◌||◌, List, [], ◌∷◌, map, Some, None, refl, sym, ap, ◌∙◌, IsTrue}
use Rattle.std.specs.List.{AllByRecursion, list_any}
use Rattle.std.specs.Str.{bytes_eq}
use Rattle.vbm_ports.specs.Files.{Files}
use Rattle.vbm_ports.specs.Names.{is_medium_name}
use Rattle.vbm_world.specs.declared.world.WorldMachine.{WorldMachine}
use Rattle.vbm_named.specs.Names.{Name, find_by, change_by, Rises}
use Rattle.vbm_world.specs.World.{machine_name, is_normal, is_frozen}
use Rattle.vbm_named.proofs.Lists.{each_found, All-map, All-join}
use Rattle.std.proofs.lemmas.Bool.{or_parts, or_from}
use Rattle.std.proofs.lemmas.Slice.Eq.{bytes_eq-Decides}
use Rattle.std.proofs.lemmas.Simd.{map-map}
use Rattle.vbm_registry.specs.declared.media.Medium.{Medium}
use Rattle.vbm_registry.specs.Named.{ImageName, OfMedium, NamedMachine, NamedMerging, NamedLibrary, named_machine_name}
use Rattle.vbm_registry.specs.Chains.{merging_into}
use Rattle.vbm_standing.specs.Meaning.{machine_in, has_snapshot_of, is_frozen_in, medium_in, world_of}
use Rattle.vbm_standing.specs.Edits.{Renewal, renewal_count, renewed_library}
use Rattle.vbm_world.specs.World.{World}
use Rattle.vbm_world.specs.Snapshots.{unless_frozen}
use Rattle.vbm_world.specs.Places.{with_machine}
use Rattle.vbm_registry.proofs.ListLaws.{map-same}
use Rattle.vbm_standing.proofs.ChainFrames.{IsRenewed, Remains, disk-stays}
use Rattle.vbm_standing.proofs.WorldParts.{frozen-same, MediumStays, medium-frozen, media-stay, OfMachine, SameDisk, machine-stays, shelf-stays, machines-changed}
use Rattle.vbm_standing.proofs.PlacesHeld.{machine-map}
use Rattle.vbm_standing.specs.EditedFiles.{SameMediumFiles}

-- The edit touches one machine: what others hold stays, they run as before, media's files are the same, and no medium is frozen no more.
pub record IsOfMachine (running more : Name → Bool) (l : NamedLibrary) (gone : ℕ → Bool) (rs : List Renewal) (m : NamedMachine) (a b : Files) : Type 0 where
  pub plain : l.merging ≡ []
  pub renewed : IsRenewed l gone rs a b
  pub others : AllByRecursion (λ (n : NamedMachine). bytes_eq n.name m.name ≡ false → OfMachine (Remains l gone) n) l.machines
  pub runs : AllByRecursion (λ (n : NamedMachine). bytes_eq n.name m.name ≡ false → more n.name ≡ running n.name) l.machines
  pub names : AllByRecursion (λ (n : Medium). IsTrue (is_medium_name n.name)) l.media
  pub files : SameMediumFiles a b
  pub frozen : AllByRecursion (λ (n : Medium). is_frozen_in (renewed_library l gone rs m).machines n ≡ false → is_frozen_in l.machines n ≡ false) l.media

pub no_merging : (image : ImageName) (js : List NamedMerging) (j : NamedMerging) → js ≡ [] → merging_into image js ≡ Some j → ⊥
no_merging image js j plain is = let none : None ≡ Some j = sym (ap (merging_into image) plain) ∙ is in absurd cc

-- media that are frozen now have no disk of their own
abbrev pub with_frozen : World → World
with_frozen w = record w { media = map (unless_frozen w.machines) w.media }

module _ (changed running more : Name → Bool) (l : NamedLibrary) (gone : ℕ → Bool) (rs : List Renewal) (m : NamedMachine) (a b : Files)
    (is : IsOfMachine running more l gone rs m a b) where
  abbrev k : NamedLibrary
  k = renewed_library l gone rs m

  same-disk : (image : ImageName) → Remains l gone image → SameDisk l k a b image
  same-disk image stays = disk-stays l gone rs m a b is.renewed image stays

  other-same : (n : NamedMachine) → OfMachine (Remains l gone) n → more n.name ≡ running n.name → machine_in more k b n ≡ machine_in running l a n
  other-same n stays runs =
      machine-stays l k a b is.plain is.plain more n (machine-map (Remains l gone) (SameDisk l k a b) same-disk n stays)
      ∙ (λ i. record (machine_in running l a n) { running = runs i })

  pub world-renewed : (v : WorldMachine) (drawn : ℕ) → machine_in more k b m ≡ v → v.name ≡ m.name → renewal_count rs ≡ drawn
      → world_of changed more k b ≡ with_frozen (with_machine (world_of changed running l a) v drawn)
  unfolding world_of
  world-renewed v drawn here name count =
      let each = All-join _ _ (λ (n : NamedMachine). bytes_eq n.name m.name ≡ false → machine_in more k b n ≡ machine_in running l a n)
      (λ n stays runs other. other-same n (stays other) (runs other)) l.machines is.others is.runs in
      let machines = machines-changed running more l k a b m v l.machines here name each in
      let after = change_by machine_name v.name (λ _. v) (map (machine_in running l a) l.machines) in
      let frozen_is = λ (n : Medium). ap (λ ms. is_frozen ms (medium_in changed l a n)) (sym machines)
      ∙ frozen-same more k b k.machines n (medium_in changed l a n) (unfold medium_in in refl) (unfold medium_in in refl) in
      let media : map (medium_in changed k b) l.media ≡ map (unless_frozen after) (map (medium_in changed l a) l.media) =
      map-same _ _ l.media (All-join _ _ _ (λ n named less. medium-frozen changed l k a b refl refl n after (is.files n.name named)
      (λ j into. absurd (no_merging (OfMedium n.name) l.merging j is.plain into)) (frozen_is n) less) l.media is.names is.frozen)
      ∙ sym (map-map (unless_frozen after) (medium_in changed l a) l.media) in
      let shelf = shelf-stays l k a b refl refl is.files in
      λ i. record { seed = l.seed; next = l.next; inner = l.inner + count i; media = media i; machines = machines i; shelf = shelf i }

  -- where the same media are frozen as before
  pub world-kept : (v : WorldMachine) (drawn : ℕ) → machine_in more k b m ≡ v → v.name ≡ m.name → renewal_count rs ≡ drawn
      → AllByRecursion (λ (n : Medium). is_frozen_in k.machines n ≡ is_frozen_in l.machines n) l.media
      → world_of changed more k b ≡ with_machine (world_of changed running l a) v drawn
  unfolding world_of
  world-kept v drawn here name count frozen =
      let each = All-join _ _ (λ (n : NamedMachine). bytes_eq n.name m.name ≡ false → machine_in more k b n ≡ machine_in running l a n)
      (λ n stays runs other. other-same n (stays other) (runs other)) l.machines is.others is.runs in
      let machines = machines-changed running more l k a b m v l.machines here name each in
      let stay = All-join _ _ (MediumStays l k a b) (λ n named same. record {
        file = is.files n.name named;
        frozen = same;
        merged = λ j into. absurd (no_merging (OfMedium n.name) l.merging j is.plain into);
      }) l.media is.names frozen in
      let media = media-stay changed l k a b refl refl l.media stay in
      let shelf = shelf-stays l k a b refl refl is.files in
      λ i. record { seed = l.seed; next = l.next; inner = l.inner + count i; media = media i; machines = machines i; shelf = shelf i }

-- ---- frozen media, before and after

and_less : (b x y : Bool) → (x ≡ false → y ≡ false) → (b && x) ≡ false → (b && y) ≡ false
and_less true x y less e = less e
and_less false x y less e = refl

-- where each machine snaps no less after than before, no medium is frozen no more
pub frozen-more : (machines : List NamedMachine) (m : NamedMachine) (n : Medium)
    → AllByRecursion (λ (x : NamedMachine). bytes_eq x.name m.name ≡ true → has_snapshot_of n.name m ≡ false → has_snapshot_of n.name x ≡ false) machines
    → is_frozen_in (change_by named_machine_name m.name (λ _. m) machines) n ≡ false → is_frozen_in machines n ≡ false
frozen-more machines m n more = and_less (is_normal n.mode) _ _ (any machines more)
  where
    one : (x : NamedMachine) (t : Bool) → (t ≡ true → has_snapshot_of n.name m ≡ false → has_snapshot_of n.name x ≡ false)
        → has_snapshot_of n.name (cond t m x) ≡ false → has_snapshot_of n.name x ≡ false
    one x true less e = less refl e
    one x false less e = e

    any : (xs : List NamedMachine) → AllByRecursion (λ (x : NamedMachine). bytes_eq x.name m.name ≡ true → has_snapshot_of n.name m ≡ false → has_snapshot_of n.name x ≡ false) xs
        → list_any (has_snapshot_of n.name) (change_by named_machine_name m.name (λ _. m) xs) ≡ false → list_any (has_snapshot_of n.name) xs ≡ false
    any [] less e = refl
    any (x ∷ xs) less e =
        let both = or_parts (has_snapshot_of n.name (cond (bytes_eq x.name m.name) m x)) (list_any (has_snapshot_of n.name) (change_by named_machine_name m.name (λ _. m) xs)) e in
        or_from (has_snapshot_of n.name x) (list_any (has_snapshot_of n.name) xs) (one x (bytes_eq x.name m.name) less.0 both.0) (any xs less.1 both.1)

-- in a list in the order of names, what has the name of the one that is found is that one
pub named-is : (machines : List NamedMachine) (m : NamedMachine) → Rises named_machine_name machines → find_by named_machine_name m.name machines ≡ Some m
    → AllByRecursion (λ (x : NamedMachine). bytes_eq x.name m.name ≡ true → x ≡ m) machines
named-is machines m rises there = All-map _ _ (λ x found same.
    let name : x.name ≡ m.name = (bytes_eq-Decides x.name m.name).0 same in
    let both : Some x ≡ Some m = sym found ∙ ap (λ y. find_by named_machine_name y machines) name ∙ there in
    cc) machines (each_found named_machine_name machines rises)

-- where a machine's snapshots have the media that they had, the same media are frozen
pub frozen-equal : (machines : List NamedMachine) (m : NamedMachine) (n : Medium)
    → AllByRecursion (λ (x : NamedMachine). bytes_eq x.name m.name ≡ true → has_snapshot_of n.name m ≡ has_snapshot_of n.name x) machines
    → is_frozen_in (change_by named_machine_name m.name (λ _. m) machines) n ≡ is_frozen_in machines n
frozen-equal machines m n equal = ap (λ b. is_normal n.mode && b) (any machines equal)
  where
    one : (x : NamedMachine) (t : Bool) → (t ≡ true → has_snapshot_of n.name m ≡ has_snapshot_of n.name x)
        → has_snapshot_of n.name (cond t m x) ≡ has_snapshot_of n.name x
    one x true same = same refl
    one x false same = refl

    any : (xs : List NamedMachine) → AllByRecursion (λ (x : NamedMachine). bytes_eq x.name m.name ≡ true → has_snapshot_of n.name m ≡ has_snapshot_of n.name x) xs
        → list_any (has_snapshot_of n.name) (change_by named_machine_name m.name (λ _. m) xs) ≡ list_any (has_snapshot_of n.name) xs
    any [] same = refl
    any (x ∷ xs) same = let here = one x (bytes_eq x.name m.name) same.0 in let rest = any xs same.1 in λ i. here i || rest i
