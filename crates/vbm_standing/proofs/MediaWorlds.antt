-- The world of a library after a medium that nothing uses came, went or got another mode, over files of which no other medium's and no
-- inner image's changed.
use Rattle.std.proofs.Common.{◌≡◌, ℕ, Bool, true, false, not, cond, ◌&&◌, ◌||◌, List, [], ◌∷◌, map, reverse, Option, Some, None, Ok, refl, sym, ap, subst, ◌∙◌, inl, inr, IsTrue, is_some}
use Rattle.std.specs.Prelude.{◌==◌, IfSome}
use Rattle.std.specs.List.{AllByRecursion}
use Rattle.std.specs.Option.{option_map}
use Rattle.std.specs.Str.{bytes_eq}
use Rattle.std.proofs.lemmas.Bool.{cases_Bool, cond_both, and_right, false_from_ne_true}
use Rattle.std.proofs.lemmas.Simd.{map-map}
use Rattle.std.proofs.lemmas.Slice.Eq.{bytes_eq-Decides}
use Rattle.vbm_ports.specs.Files.{Files, bytes_of}
use Rattle.vbm_ports.specs.Names.{is_medium_name}
use Rattle.vbm_header.specs.declared.Header.{Header}
use Rattle.vbm_volume.specs.Image.{image_of}
use Rattle.vbm_volume.specs.Sectors.{flat_of_base}
use Rattle.vbm_modes.specs.declared.Mode.{Mode}
use Rattle.vbm_machines.specs.declared.Held.{Held}
use Rattle.vbm_machines.specs.declared.Held.TheVariants.{Direct, Own, Base}
use Rattle.vbm_named.specs.Names.{Name, is_named, find_by, has_name, put_by, without, change_by}
use Rattle.vbm_named.proofs.Lists.{name_refl, name_sym, has_found, each_found, All-map, All-join, All-find, All-without, others-without, find_named, has_map, find_without_same, find_without_other, any_none, none_of_any, put_map, without_map, change_map}
use Rattle.vbm_world.specs.declared.world.WorldMedium.{WorldMedium}
use Rattle.vbm_world.specs.declared.world.Shelved.{Shelved}
use Rattle.vbm_world.specs.World.{medium_name, is_normal, with_shelved}
use Rattle.vbm_world.specs.Places.{with_medium}
use Rattle.vbm_registry.specs.declared.media.Medium.{Medium}
use Rattle.vbm_registry.specs.Library.{medium_entry_name}
use Rattle.vbm_registry.specs.Named.{ImageName, OfMedium, OfInner, NamedInner, NamedSlot, NamedMachine, NamedMerging, NamedLibrary}
use Rattle.vbm_registry.specs.Chains.{chain_of, parent_in, merging_into}
use Rattle.vbm_registry.specs.Rules.{has_number, IsLibrary}
use Rattle.vbm_registry.specs.Entries.{medium_put, medium_gone, library_with_mode, IsUnused}
use Rattle.vbm_registry.proofs.ListLaws.{map-same, any_put, All-reverse}
use Rattle.vbm_standing.specs.Headers.{header_in, variant_of, shelved_file}
use Rattle.vbm_standing.specs.ChainDisks.{inner_file}
use Rattle.vbm_standing.specs.Meaning.{is_ending, held_at_end, place_in, slot_in, machine_in, has_snapshot_of, is_frozen_in, modify_at_end, flat_at_end, medium_in, is_made, shelf_in, world_of}
use Rattle.vbm_standing.specs.EditedFiles.{HasImage, SameImage}
use Rattle.vbm_standing.proofs.Stores.{SameBesides}
use Rattle.vbm_standing.proofs.HeaderFacts.{header_of_file, header_frame}
use Rattle.vbm_standing.proofs.ChainLaws.{images_down-all}
use Rattle.vbm_standing.proofs.ChainFrames.{parents-in, disk-frame}
use Rattle.vbm_standing.proofs.WorldParts.{medium-stays, OfHeld, OfPlace, OfMachine, SameDisk, place-stays, snapshots-stay}
use Rattle.vbm_standing.proofs.PlacesHeld.{machine-listed, machine-map}
use Rattle.vbm_standing.proofs.LeafImages.{All-number}
use Rattle.vbm_standing.proofs.FirstSnapshots.{merging-rules, merging-parent}
use Rattle.vbm_standing.proofs.MediaRules.{IsOtherImage, slots-other, parents-other, parent-other, unused-new}

-- No file of another medium, and of the shelf, and of an inner image is another.
pub record SameOthers (l : NamedLibrary) (name : Name) (a b : Files) : Type 0 where
  pub media : SameBesides name a b
  pub inners : AllByRecursion (λ (x : NamedInner). b (inner_file l.seed x.number) ≡ a (inner_file l.seed x.number)) l.inners

-- ---- machines

-- a machine whose slots and snapshots hold the same disks is the same, in the middle of mergings too
module _ (l k : NamedLibrary) (a b : Files) (merging : k.merging ≡ l.merging) where
  end-held : (js : List NamedMerging) (medium : Name) (h : Held) → OfHeld (SameDisk l k a b) medium h
      → OfHeld (SameDisk l k a b) medium (held_at_end js h)
  end-held js medium Direct of = tt
  end-held js medium (Own n) of = cond_both (is_ending js n) Direct (Own n) (OfHeld (SameDisk l k a b) medium) (λ e. tt) (λ e. of)
  end-held js medium Base of = of

  slots-kept : (slots : List NamedSlot) → AllByRecursion (OfPlace (SameDisk l k a b)) slots → map (slot_in k b) slots ≡ map (slot_in l a) slots
  slots-kept slots of = map-same _ _ slots (All-map _ _ (λ s p.
      ap (λ js. place_in k b (record s { held = held_at_end js s.held })) merging
      ∙ place-stays l k a b (record s { held = held_at_end l.merging s.held }) (end-held l.merging s.medium s.held p)) slots of)

  pub machine-kept : (running : Name → Bool) (m : NamedMachine) → OfMachine (SameDisk l k a b) m → machine_in running k b m ≡ machine_in running l a m
  machine-kept running m same =
      let slots = slots-kept m.slots same.0 in
      let snapshots = snapshots-stay l k a b m.snapshots same.1 in
      λ i. record { name = m.name; running = running m.name; slots = slots i; snapshots = snapshots i; current = m.current }

-- an image that has a parent is listed
pub own-number : (xs : List NamedInner) (n : ℕ) (parent : ImageName) → parent_in xs n ≡ Some parent → has_number n xs ≡ true
own-number [] n parent e = absurd cc
own-number (x ∷ xs) n parent e = elim (cases_Bool (x.number == n)) [
  | inl here ↦ rw here refl
  | inr other ↦ rw other (own-number xs n parent (rw other at e))
]

-- a listed image that is not the medium's own
abbrev IsOtherListed : NamedLibrary → Name → ImageName → Type 0
IsOtherListed l name image = HasImage l image × IsOtherImage name image

-- a listed medium has a medium's name
pub named-listed : (l : NamedLibrary) → IsLibrary l → (name : Name) → has_name medium_entry_name name l.media ≡ true → IsTrue (is_medium_name name)
named-listed l is name there = of (find_by medium_entry_name name l.media) refl
  where
    of : (o : Option Medium) → find_by medium_entry_name name l.media ≡ o → IsTrue (is_medium_name name)
    of None e = let clash : true ≡ false = sym there ∙ has_found medium_entry_name name l.media ∙ ap is_some e in absurd cc
    of (Some m) e =
        subst (λ n. IsTrue (is_medium_name n)) ((bytes_eq-Decides m.name name).0 (find_named medium_entry_name name m l.media e))
        (All-find medium_entry_name (λ (x : Medium). IsTrue (is_medium_name x.name)) name m l.media is.media e)

module _ (l : NamedLibrary) (name : Name) (is : IsLibrary l) (unused : IsUnused l name) where
  pub others-same : (a b : Files) → SameOthers l name a b → (image : ImageName) → IsOtherListed l name image → SameImage l.seed a b image
  others-same a b same (OfMedium other) listed = same.media other (named-listed l is other listed.0) listed.1
  others-same a b same (OfInner n) listed =
      All-number (λ k. b (inner_file l.seed k) ≡ a (inner_file l.seed k)) (reverse l.inners) n (All-reverse _ l.inners same.inners) listed.0

  pub chain-other : (image : ImageName) → IsOtherListed l name image → AllByRecursion (IsOtherListed l name) (chain_of l.inners image)
  chain-other image listed = images_down-all (IsOtherListed l name) (reverse l.inners) image
      (All-join _ _ _ (λ x there apart listed. (there, apart)) (reverse l.inners)
      (parents-in l.media l.inner (reverse l.inners) is.inners) (All-reverse _ l.inners (parents-other l name unused))) listed

  held-other : (medium : Name) (h : Held) → bytes_eq medium name ≡ false → OfHeld (HasImage l) medium h → OfHeld (IsOtherListed l name) medium h
  held-other medium Direct apart listed = tt
  held-other medium (Own n) apart listed = (listed, refl)
  held-other medium Base apart listed = (listed, apart)

  pub machines-other : AllByRecursion (OfMachine (IsOtherListed l name)) l.machines
  machines-other = All-join _ _ _ (λ m of apart. let listed = machine-listed l m of in (
    All-join _ _ _ (λ s p q. held-other s.medium s.held q p) m.slots listed.0 apart.0,
    All-join _ _ _ (λ s p q. All-join _ _ _ (λ t x y. held-other t.medium t.held y x) s.slots p q) m.snapshots listed.1 apart.1,
  )) l.machines is.machines (slots-other l name unused)

  child-listed : (image : ImageName) (j : NamedMerging) → merging_into image l.merging ≡ Some j → IsOtherListed l name (OfInner j.child)
  child-listed image j into = (own-number (reverse l.inners) j.child j.parent (merging-rules l is image j into).parent, refl)

  -- libraries with the same inner images and mergings
  module _ (k : NamedLibrary) (a b : Files) (seed : k.seed ≡ l.seed) (inners : k.inners ≡ l.inners) (merging : k.merging ≡ l.merging)
      (same : SameOthers l name a b) where
    pub disks-stay : (image : ImageName) → IsOtherListed l name image → SameDisk l k a b image
    disks-stay image listed = disk-frame l k a b image seed (ap (λ xs. chain_of xs image) inners)
        (All-map (IsOtherListed l name) _ (others-same a b same) (chain_of l.inners image) (chain-other image listed))

    pub machines-stay : (running : Name → Bool) → map (machine_in running k b) l.machines ≡ map (machine_in running l a) l.machines
    machines-stay running = map-same _ _ l.machines (All-map _ _
        (λ m of. machine-kept l k a b merging running m (machine-map (IsOtherListed l name) (SameDisk l k a b) disks-stay m of)) l.machines
        machines-other)

    -- another medium stays
    pub media-stay : (changed : Name → Bool) → k.machines ≡ l.machines → (ms : List Medium)
        → AllByRecursion (λ (m : Medium). has_name medium_entry_name m.name l.media ≡ true) ms
        → AllByRecursion (λ (m : Medium). bytes_eq m.name name ≡ false) ms
        → map (medium_in changed k b) ms ≡ map (medium_in changed l a) ms
    media-stay changed machines ms there apart = map-same _ _ ms (All-join _ _ _ (λ m on other. medium-stays changed l k a b seed merging m (record {
      file = others-same a b same (OfMedium m.name) (on, other);
      frozen = ap (λ xs. is_frozen_in xs m) machines;
      merged = λ j into. disks-stay (OfInner j.child) (child-listed (OfMedium m.name) j into);
    })) ms there apart)

-- nothing is merged into it
pub unmerged-into : (l : NamedLibrary) (name : Name) → IsLibrary l → IsUnused l name → merging_into (OfMedium name) l.merging ≡ None
unmerged-into l name is unused = of (merging_into (OfMedium name) l.merging) refl
  where
    of : (o : Option NamedMerging) → merging_into (OfMedium name) l.merging ≡ o → o ≡ None
    of None e = refl
    of (Some j) e =
        let apart = parent-other l name unused j.child j.parent (merging-rules l is (OfMedium name) j e).parent in
        let clash : true ≡ false = sym (merging-parent l is (OfMedium name) j e) ∙ apart in absurd cc

-- and no snapshot has it
pub unused-free : (l : NamedLibrary) (m : Medium) → IsUnused l m.name → is_frozen_in l.machines m ≡ false
unused-free l m unused =
    ap (λ b. is_normal m.mode && b) (any_none (has_snapshot_of m.name) l.machines (All-map _ _ (λ x apart.
    any_none _ x.snapshots (All-map _ _ (λ s all. any_none _ s.slots all) x.snapshots apart.1)) l.machines (slots-other l m.name unused)))
    ∙ and_right (is_normal m.mode) false refl

-- An accepted file as that of a medium that nothing uses: the medium has the file's disk.
pub unused-medium : (changed : Name → Bool) (l : NamedLibrary) (files : Files) (m : Medium) (f : List ℕ) (h : Header)
    → merging_into (OfMedium m.name) l.merging ≡ None → is_frozen_in l.machines m ≡ false → files m.name ≡ Some f → image_of f ≡ Ok h
    → medium_in changed l files m ≡ (record {
      name = m.name;
      id = h.id;
      modify = h.modify;
      changed = changed m.name;
      mode = m.mode;
      variant = variant_of h.image_type;
      capacity = h.capacity;
      flat = Some (flat_of_base f h);
    })
unfolding medium_in
unused-medium changed l files m f h unmerged free there is =
    let header = header_of_file files m.name f h there is in
    let modify : modify_at_end l.seed (header_in files m.name) (merging_into (OfMedium m.name) l.merging) ≡ h.modify =
    ap (modify_at_end l.seed (header_in files m.name)) unmerged ∙ ap (λ (x : Header). x.modify) header in
    let flat : cond (is_frozen_in l.machines m) None (Some (flat_at_end l files m.name (merging_into (OfMedium m.name) l.merging))) ≡ Some
    (flat_of_base f h) =
    rw (free, unmerged) (λ i. Some (flat_of_base (bytes_of (there i)) (header i))) in
    λ i. record {
      name = m.name;
      id = (header i).id;
      modify = modify i;
      changed = changed m.name;
      mode = m.mode;
      variant = variant_of (header i).image_type;
      capacity = (header i).capacity;
      flat = flat i;
    }

-- ---- the shelf

-- two shelves that differ at a name alone
shelf-differs : (shelf other : Name → Option Shelved) (name : Name) (to : Option Shelved) → other name ≡ to
    → ((n : Name) → bytes_eq n name ≡ false → other n ≡ shelf n) → other ≡ with_shelved shelf name to
shelf-differs shelf other name to here others = λ i n. at n i
  where
    at : (n : Name) → other n ≡ with_shelved shelf name to n
    at n = elim (cases_Bool (bytes_eq n name)) [
      | inl same ↦ rw same (ap other ((bytes_eq-Decides n name).0 same) ∙ here)
      | inr apart ↦ rw apart (others n apart)
    ]

-- the shelf at another name
shelf-same : (l k : NamedLibrary) (a b : Files) (name : Name) → has_name medium_entry_name name k.media ≡ has_name medium_entry_name name l.media
    → is_made k.making name ≡ is_made l.making name → (IsTrue (is_medium_name name) → b name ≡ a name) → shelf_in k b name ≡ shelf_in l a name
shelf-same l k a b name media making file = rw (media, making) (of (is_medium_name name) file)
  where
    of : (n : Bool) → (n ≡ true → b name ≡ a name)
        → cond (n && not (has_name medium_entry_name name l.media) && not (is_made l.making name)) (option_map shelved_file (b name)) None
        ≡ cond (n && not (has_name medium_entry_name name l.media) && not (is_made l.making name)) (option_map shelved_file (a name)) None
    of true same = ap (λ o. cond (not (has_name medium_entry_name name l.media) && not (is_made l.making name)) (option_map shelved_file o) None)
        (same refl)
    of false same = refl

entry-name : (changed : Name → Bool) (l : NamedLibrary) (files : Files) (m : Medium) → medium_name (medium_in changed l files m) ≡ medium_entry_name m
unfolding medium_in
entry-name changed l files m = refl

pub each-listed : (l : NamedLibrary) → IsLibrary l → AllByRecursion (λ (m : Medium). has_name medium_entry_name m.name l.media ≡ true) l.media
each-listed l is = All-map _ _ (λ m found. has_found medium_entry_name m.name l.media ∙ ap is_some found) l.media
    (each_found medium_entry_name l.media is.media_rise)

-- ---- one medium more

-- While its file was made it was on no shelf.
pub world-with_medium : (changed running : Name → Bool) (l : NamedLibrary) (a b : Files) (m : Medium) (next : ℕ) (making : Option Name)
    → IsLibrary l → has_name medium_entry_name m.name l.media ≡ false → SameOthers l m.name a b
    → ((name : Name) → bytes_eq name m.name ≡ false → is_made making name ≡ is_made l.making name)
    → (let k = medium_put (record l { next = next; making = making }) m in let w = world_of changed running l a in
    world_of changed running k b
    ≡ record w { next = next; media = put_by medium_name (medium_in changed k b m) w.media; shelf = with_shelved w.shelf m.name None })
unfolding world_of
world-with_medium changed running l a b m next making is new same unmade =
    let unused = unused-new l is m.name new in
    let k = medium_put (record l { next = next; making = making }) m in
    let machines = machines-stay l m.name is unused k a b refl refl refl same running in
    let apart = none_of_any (is_named medium_entry_name m.name) l.media new in
    let media = put_map (medium_in changed k b) medium_entry_name medium_name (entry-name changed k b) m l.media
    ∙ ap (put_by medium_name (medium_in changed k b m))
    (media-stay l m.name is unused k a b refl refl refl same changed refl l.media (each-listed l is) apart) in
    let has = λ (n : Name). any_put medium_entry_name (λ (x : Medium). bytes_eq x.name n) m l.media in
    let here : shelf_in k b m.name ≡ None =
    let listed : has_name medium_entry_name m.name k.media ≡ true = has m.name
    ∙ ap (λ t. t || has_name medium_entry_name m.name l.media) (name_refl m.name) in
    rw (listed, and_right (is_medium_name m.name) false refl) refl in
    let shelf = shelf-differs (shelf_in l a) (shelf_in k b) m.name None here (λ n other. shelf-same l k a b n
    (has n ∙ ap (λ t. t || has_name medium_entry_name n l.media) (name_sym m.name n ∙ other)) (unmade n other) (λ named. same.media n named other)) in
    λ i. record { seed = l.seed; next = next; inner = l.inner; media = media i; machines = machines i; shelf = shelf i }

-- ---- one medium less

made-other : (l : NamedLibrary) (name : Name) → IsLibrary l → has_name medium_entry_name name l.media ≡ true → is_made l.making name ≡ false
made-other l name is there = of l.making is.making
  where
    of : (o : Option Name) → IfSome o (λ n. IsTrue (is_medium_name n) × (has_name medium_entry_name n l.media ≡ false)) → is_made o name ≡ false
    of None made = refl
    of (Some n) made = false_from_ne_true (bytes_eq n name) (λ same.
        let clash : true ≡ false = sym there ∙ ap (λ x. has_name medium_entry_name x l.media) (sym ((bytes_eq-Decides n name).0 same))
        ∙ made.1 in absurd cc)

-- Its file is on the shelf, if it is there.
pub world-without_medium : (changed running : Name → Bool) (l : NamedLibrary) (a b : Files) (name : Name)
    → IsLibrary l → IsUnused l name → has_name medium_entry_name name l.media ≡ true → SameOthers l name a b
    → world_of changed running (medium_gone l name) b
    ≡ (let w = world_of changed running l a in
    record w { media = without medium_name name w.media; shelf = with_shelved w.shelf name (option_map shelved_file (b name)) })
unfolding world_of
world-without_medium changed running l a b name is unused there same =
    let k = medium_gone l name in
    let machines = machines-stay l name is unused k a b refl refl refl same running in
    let left = without medium_entry_name name l.media in
    let media = media-stay l name is unused k a b refl refl refl same changed refl left
    (All-without medium_entry_name _ name l.media (each-listed l is)) (others-without medium_entry_name name l.media)
    ∙ without_map (medium_in changed l a) medium_entry_name medium_name (entry-name changed l a) name l.media in
    let has = λ (n : Name) (other : bytes_eq name n ≡ false).
    has_found medium_entry_name n left ∙ ap is_some (find_without_other medium_entry_name name n l.media other)
    ∙ sym (has_found medium_entry_name n l.media) in
    let gone : has_name medium_entry_name name left ≡ false = has_found medium_entry_name name left
    ∙ ap is_some (find_without_same medium_entry_name name l.media) in
    let named = named-listed l is name there in
    let here : shelf_in k b name ≡ option_map shelved_file (b name) = rw (named, gone, made-other l name is there) refl in
    let shelf = shelf-differs (shelf_in l a) (shelf_in k b) name (option_map shelved_file (b name)) here
    (λ n other. shelf-same l k a b n (has n (name_sym name n ∙ other)) refl (λ is_named. same.media n is_named other)) in
    λ i. record { seed = l.seed; next = l.next; inner = l.inner; media = media i; machines = machines i; shelf = shelf i }

-- ---- another mode

pub world-with_mode : (changed running : Name → Bool) (l : NamedLibrary) (a b : Files) (name : Name) (mode : Mode)
    → IsLibrary l → IsUnused l name → SameOthers l name a b → b name ≡ a name
    → world_of changed running (library_with_mode l name mode) b
    ≡ with_medium (world_of changed running l a) name (λ (m : WorldMedium). record m { mode = mode })
unfolding world_of medium_in
world-with_mode changed running l a b name mode is unused same file =
    let k = library_with_mode l name mode in
    let machines = machines-stay l name is unused k a b refl refl refl same running in
    let media : map (medium_in changed k b) (map renew l.media) ≡ change_by medium_name name change (map (medium_in changed l a) l.media) =
    map-map (medium_in changed k b) renew l.media
    ∙ change_map (medium_in changed l a) medium_entry_name medium_name (entry-name changed l a) (λ m. medium_in changed k b (renew m)) name change
    l.media
    (All-map _ _ (λ m on. each m (bytes_eq m.name name) refl on) l.media (each-listed l is)) in
    let shelf = shelf-renamed in
    λ i. record { seed = l.seed; next = l.next; inner = l.inner; media = media i; machines = machines i; shelf = shelf i }
  where
    renew : Medium → Medium
    renew x = cond (is_named medium_entry_name name x) (record x { mode = mode }) x

    keeps : (x : Medium) → medium_entry_name (renew x) ≡ medium_entry_name x
    keeps x = cond_both (is_named medium_entry_name name x) (record x { mode = mode }) x (λ y. y.name ≡ x.name) (λ e. refl) (λ e. refl)

    change : WorldMedium → WorldMedium
    change m = record m { mode = mode }

    shelf-renamed : shelf_in (library_with_mode l name mode) b ≡ shelf_in l a
    shelf-renamed = λ i n. shelf-same l (library_with_mode l name mode) a b n (has_map renew medium_entry_name medium_entry_name keeps n l.media)
        refl (file-same n) i
      where
        file-same : (n : Name) → IsTrue (is_medium_name n) → b n ≡ a n
        file-same n named = elim (cases_Bool (bytes_eq n name)) [
          | inl here ↦ let is_name = (bytes_eq-Decides n name).0 here in ap b is_name ∙ file ∙ ap a (sym is_name)
          | inr apart ↦ same.media n named apart
        ]

    here : (m : Medium) → m.name ≡ name
        → medium_in changed (library_with_mode l name mode) b (record m { mode = mode }) ≡ change (medium_in changed l a m)
    here m is_name =
        let same_file : b m.name ≡ a m.name = ap b is_name ∙ file ∙ ap a (sym is_name) in
        let header = header_frame a b m.name same_file in
        let of_name : IsUnused l m.name = subst (IsUnused l) (sym is_name) unused in
        let none = unmerged-into l m.name is of_name in
        let old_free = unused-free l m of_name in
        let new_free = unused-free l (record m { mode = mode }) of_name in
        let flat : cond (is_frozen_in l.machines (record m { mode = mode })) None
        (Some (flat_at_end (library_with_mode l name mode) b m.name (merging_into (OfMedium m.name) l.merging)))
        ≡ cond (is_frozen_in l.machines m) None (Some (flat_at_end l a m.name (merging_into (OfMedium m.name) l.merging))) =
        rw (new_free, old_free, none) (λ i. Some (flat_of_base (bytes_of (same_file i)) (header i))) in
        λ i. record {
          name = m.name;
          id = (header i).id;
          modify = modify_at_end l.seed (header i) (merging_into (OfMedium m.name) l.merging);
          changed = changed m.name;
          mode = mode;
          variant = variant_of (header i).image_type;
          capacity = (header i).capacity;
          flat = flat i;
        }

    each : (m : Medium) (t : Bool) → bytes_eq m.name name ≡ t → has_name medium_entry_name m.name l.media ≡ true
        → medium_in changed (library_with_mode l name mode) b (cond (bytes_eq m.name name) (record m { mode = mode }) m)
        ≡ cond (bytes_eq m.name name) (change (medium_in changed l a m)) (medium_in changed l a m)
    each m true e on = rw e (here m ((bytes_eq-Decides m.name name).0 e))
    each m false e on =
        let k = library_with_mode l name mode in
        rw e (medium-stays changed l k a b refl refl m (record {
          file = others-same l name is unused a b same (OfMedium m.name) (on, e);
          frozen = refl;
          merged = λ j into. disks-stay l name is unused k a b refl refl refl same (OfInner j.child)
              (child-listed l name is unused (OfMedium m.name) j into);
        }))
