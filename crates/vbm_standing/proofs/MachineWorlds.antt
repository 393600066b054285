-- The world of a library after a machine without snapshots came or went, over files of which no image's changed.
use Rattle.std.proofs.Common.{◌≡◌, Bool, true, false, ◌&&◌, ◌||◌, List, [], ◌∷◌, map, reverse, Some, None, refl, ap, ◌∙◌, inl, inr}
use Rattle.std.specs.List.{AllByRecursion, list_any}
use Rattle.std.specs.Str.{bytes_eq}
use Rattle.std.proofs.lemmas.Bool.{cases_Bool}
use Rattle.vbm_ports.specs.Files.{Files}
use Rattle.vbm_named.specs.Names.{Name, find_by, put_by, without}
use Rattle.vbm_named.proofs.Lists.{All-map, put_map, without_map}
use Rattle.vbm_world.specs.World.{machine_name, is_normal}
use Rattle.vbm_world.specs.Machines.{new_machine}
use Rattle.vbm_registry.specs.Named.{ImageName, OfMedium, OfInner, NamedInner, NamedSnapshot, NamedMachine, NamedLibrary, named_machine_name}
use Rattle.vbm_registry.specs.Rules.{IsLibrary}
use Rattle.vbm_registry.specs.Entries.{machine_put, machine_gone, fresh_machine}
use Rattle.vbm_registry.proofs.ListLaws.{map-same, any_put, All-reverse}
use Rattle.vbm_standing.specs.ChainDisks.{inner_file}
use Rattle.vbm_standing.specs.Meaning.{machine_in, has_snapshot_of, medium_in, world_of}
use Rattle.vbm_standing.specs.EditedFiles.{HasImage, SameImage, SameMediumFiles}
use Rattle.vbm_standing.proofs.WorldParts.{MediumStays, media-stay, SameDisk, shelf-stays}
use Rattle.vbm_standing.proofs.PlacesHeld.{machine-listed, machine-map}
use Rattle.vbm_standing.proofs.WorldEdits.{named-is}
use Rattle.vbm_standing.proofs.ChainLaws.{images_down-all}
use Rattle.vbm_standing.proofs.ChainFrames.{parents-in, disk-frame}
use Rattle.vbm_standing.proofs.LeafImages.{All-number}
use Rattle.vbm_standing.proofs.FirstSnapshots.{merging-rules}
use Rattle.vbm_standing.proofs.MediaWorlds.{machine-kept, own-number, named-listed}

-- No file of a medium, of the shelf and of an inner image is another.
pub record SameImages (l : NamedLibrary) (a b : Files) : Type 0 where
  pub media : SameMediumFiles a b
  pub inners : AllByRecursion (λ (x : NamedInner). b (inner_file l.seed x.number) ≡ a (inner_file l.seed x.number)) l.inners

module _ (l : NamedLibrary) (is : IsLibrary l) (a b : Files) (same : SameImages l a b) where
  pub images-same : (image : ImageName) → HasImage l image → SameImage l.seed a b image
  images-same (OfMedium name) listed = same.media name (named-listed l is name listed)
  images-same (OfInner n) listed =
      All-number (λ k. b (inner_file l.seed k) ≡ a (inner_file l.seed k)) (reverse l.inners) n (All-reverse _ l.inners same.inners) listed

  -- a library with other machines
  module _ (ms : List NamedMachine) where
    abbrev k : NamedLibrary
    k = record l { machines = ms }

    disks-same : (image : ImageName) → HasImage l image → SameDisk l k a b image
    disks-same image listed = disk-frame l k a b image refl refl (All-map (HasImage l) _ images-same _
        (images_down-all (HasImage l) (reverse l.inners) image (All-map _ _ (λ x there listed. there) (reverse l.inners)
        (parents-in l.media l.inner (reverse l.inners) is.inners)) listed))

    machines-same : (running : Name → Bool) → map (machine_in running k b) l.machines ≡ map (machine_in running l a) l.machines
    machines-same running = map-same _ _ l.machines (All-map _ _ (λ m of.
        machine-kept l k a b refl running m (machine-map (HasImage l) (SameDisk l k a b) disks-same m (machine-listed l m of))) l.machines
        is.machines)

    media-same : (changed : Name → Bool) → ((name : Name) → list_any (has_snapshot_of name) ms ≡ list_any (has_snapshot_of name) l.machines)
        → map (medium_in changed k b) l.media ≡ map (medium_in changed l a) l.media
    media-same changed snapped = media-stay changed l k a b refl refl l.media (All-map _ (MediumStays l k a b) (λ m named. record {
      file = same.media m.name named;
      frozen = ap (λ t. is_normal m.mode && t) (snapped m.name);
      merged = λ j into. disks-same (OfInner j.child)
          (own-number (reverse l.inners) j.child j.parent (merging-rules l is (OfMedium m.name) j into).parent);
    }) l.media is.media)

-- ---- a machine comes

pub world-with_machine : (changed running : Name → Bool) (l : NamedLibrary) (a b : Files) (name : Name) → IsLibrary l → SameImages l a b
    → running name ≡ false
    → world_of changed running (machine_put l (fresh_machine name)) b
    ≡ (let w = world_of changed running l a in record w { machines = put_by machine_name (new_machine name) w.machines })
unfolding world_of
world-with_machine changed running l a b name is same off =
    let m = fresh_machine name in
    let ms = put_by named_machine_name m l.machines in
    let k = machine_put l m in
    let new : machine_in running k b m ≡ new_machine name = λ i. record { name = name; running = off i; slots = []; snapshots = []; current = None }
    in
    let machines = put_map (machine_in running k b) named_machine_name machine_name (λ x. refl) m l.machines
    ∙ (λ i. put_by machine_name (new i) (machines-same l is a b same ms running i)) in
    let media = media-same l is a b same ms changed (λ n. any_put named_machine_name (has_snapshot_of n) m l.machines) in
    let shelf = shelf-stays l k a b refl refl same.media in
    λ i. record { seed = l.seed; next = l.next; inner = l.inner; media = media i; machines = machines i; shelf = shelf i }

-- ---- a machine goes

any-without : {X : Type 0} (nx : X → Name) (p : X → Bool) (name : Name) (xs : List X)
    → AllByRecursion (λ x. bytes_eq (nx x) name ≡ true → p x ≡ false) xs
    → list_any p (without nx name xs) ≡ list_any p xs
any-without nx p name [] all = refl
any-without nx p name (x ∷ xs) all = elim (cases_Bool (bytes_eq (nx x) name)) [
  | inl here ↦ let none = all.0 here in rw (here, none) (any-without nx p name xs all.1)
  | inr other ↦ rw other (ap (λ b. p x || b) (any-without nx p name xs all.1))
]

pub world-without_machine : (changed running : Name → Bool) (l : NamedLibrary) (a b : Files) (m : NamedMachine) → IsLibrary l → SameImages l a b
    → find_by named_machine_name m.name l.machines ≡ Some m → m.snapshots ≡ []
    → world_of changed running (machine_gone l m.name) b
    ≡ (let w = world_of changed running l a in record w { machines = without machine_name m.name w.machines })
unfolding world_of
world-without_machine changed running l a b m is same there none =
    let ms = without named_machine_name m.name l.machines in
    let k = machine_gone l m.name in
    let machines = without_map (machine_in running k b) named_machine_name machine_name (λ x. refl) m.name l.machines
    ∙ ap (without machine_name m.name) (machines-same l is a b same ms running) in
    let snapless = λ (n : Name). All-map _ (λ (x : NamedMachine). bytes_eq x.name m.name ≡ true → has_snapshot_of n x ≡ false)
    (λ x one e. ap (has_snapshot_of n) (one e) ∙ ap (list_any (λ (s : NamedSnapshot). list_any (λ t. bytes_eq t.medium n) s.slots)) none) l.machines
    (named-is l.machines m is.machines_rise there) in
    let media = media-same l is a b same ms changed (λ n. any-without named_machine_name (has_snapshot_of n) m.name l.machines (snapless n)) in
    let shelf = shelf-stays l k a b refl refl same.media in
    λ i. record { seed = l.seed; next = l.next; inner = l.inner; media = media i; machines = machines i; shelf = shelf i }

-- ---- files of which no image's is another

pub world-frame : (changed running : Name → Bool) (l : NamedLibrary) (a b : Files) → IsLibrary l → SameImages l a b
    → world_of changed running l b ≡ world_of changed running l a
unfolding world_of
world-frame changed running l a b is same =
    let machines = machines-same l is a b same l.machines running in
    let media = media-same l is a b same l.machines changed (λ n. refl) in
    let shelf = shelf-stays l l a b refl refl same.media in
    λ i. record { seed = l.seed; next = l.next; inner = l.inner; media = media i; machines = machines i; shelf = shelf i }
