-- Stores after a medium that nothing uses came, went or got another mode, and after a machine came or went.
use Rattle.std.proofs.Common.{◌≡◌, ℕ, ◌≤◌, true, false, cond, List, [], ◌∷◌, map, reverse, Option, refl, ap, ◌∙◌, arith}
use Rattle.std.specs.List.{AllByRecursion, list_any}
use Rattle.std.specs.Str.{bytes_eq}
use Rattle.std.proofs.lemmas.Bool.{cond_both}
use Rattle.vbm_ports.specs.Files.{Files}
use Rattle.vbm_header.specs.declared.Header.{Header}
use Rattle.vbm_header.specs.Header.{is_differencing}
use Rattle.vbm_modes.specs.declared.Mode.{Mode}
use Rattle.vbm_ids.specs.Identifier.{is_foreign}
use Rattle.vbm_named.specs.Names.{Name, is_named, has_name, without}
use Rattle.vbm_named.proofs.Lists.{name_sym, All-map, All-join, All-both, All-of_map, All-put, All-without, others-without, none_of_any}
use Rattle.vbm_registry.specs.declared.media.Medium.{Medium}
use Rattle.vbm_registry.specs.Library.{medium_entry_name}
use Rattle.vbm_registry.specs.Named.{OfMedium, OfInner, NamedInner, NamedMachine, NamedLibrary}
use Rattle.vbm_registry.specs.Rules.{IsLibrary}
use Rattle.vbm_registry.specs.Entries.{medium_put, medium_gone, library_with_mode, IsUnused}
use Rattle.vbm_registry.proofs.ListLaws.{All-of_reverse}
use Rattle.vbm_standing.specs.Headers.{header_in}
use Rattle.vbm_standing.specs.Faults.{id_in, HaveOwnIds, IsMediumFile, IsInnerFile, IsStore}
use Rattle.vbm_standing.specs.EditedFiles.{HasImage, SameImage}
use Rattle.vbm_standing.proofs.Stores.{still_known, distinct_put, distinct_without}
use Rattle.vbm_standing.proofs.HeaderFacts.{header_frame}
use Rattle.vbm_standing.proofs.ChainFrames.{parents-in}
use Rattle.vbm_standing.proofs.EditedStores.{accepted-frame, distinct-frame, inner-frame}
use Rattle.vbm_standing.proofs.MediaRules.{IsOtherImage, parents-other, unused-new}
use Rattle.vbm_standing.proofs.MediaWorlds.{SameOthers, others-same, each-listed}
use Rattle.vbm_standing.proofs.MachineWorlds.{SameImages, images-same}

-- ---- a library with more identifiers drawn

module _ (a b : Files) (l k : NamedLibrary) (seed : k.seed ≡ l.seed) (grows : l.next ≤ k.next) where
  -- a medium's file that is the same
  medium-kept : (m : Medium) → b m.name ≡ a m.name → IsMediumFile l a m → IsMediumFile k b m
  medium-kept m same is =
      let header = header_frame a b m.name same in
      let id = ap (λ (h : Header). h.id) header in
      let known : is_foreign l.seed k.next (id_in b m) ≡ false =
      ap (is_foreign l.seed k.next) id ∙ still_known l.seed l.next k.next (id_in a m) grows is.known in
      record {
        image = accepted-frame a b m.name same is.image;
        whole = ap (λ (h : Header). is_differencing h.image_type) header ∙ is.whole;
        known = ap (λ s. is_foreign s k.next (id_in b m)) seed ∙ known;
      }

  media-kept : (ms : List Medium) → AllByRecursion (λ (m : Medium). b m.name ≡ a m.name) ms → AllByRecursion (IsMediumFile l a) ms
      → AllByRecursion (IsMediumFile k b) ms
  media-kept ms same of = All-join _ _ _ medium-kept ms same of

module _ (l : NamedLibrary) (is : IsLibrary l) (a b : Files) (name : Name) (unused : IsUnused l name) (same : SameOthers l name a b) where
  others-kept : (ms : List Medium) → AllByRecursion (λ (m : Medium). has_name medium_entry_name m.name l.media ≡ true) ms
      → AllByRecursion (λ (m : Medium). bytes_eq m.name name ≡ false) ms → AllByRecursion (λ (m : Medium). b m.name ≡ a m.name) ms
  others-kept ms there apart = All-join _ _ _ (λ m on other. others-same l name is unused a b same (OfMedium m.name) (on, other)) ms there apart

  inners-kept : AllByRecursion (IsInnerFile l.seed a) l.inners → AllByRecursion (IsInnerFile l.seed b) l.inners
  inners-kept of = All-join _ _ _ (λ x files of. inner-frame a b l.seed x files.0 files.1 of) l.inners
      (All-join _ _ (λ (x : NamedInner). SameImage l.seed a b (OfInner x.number) × SameImage l.seed a b x.parent)
      (λ x own parent. (own, others-same l name is unused a b same x.parent parent)) l.inners same.inners
      (All-both (λ (x : NamedInner). HasImage l x.parent) (λ (x : NamedInner). IsOtherImage name x.parent) l.inners
      (All-of_reverse _ l.inners (parents-in l.media l.inner (reverse l.inners) is.inners)) (parents-other l name unused))) of

-- ---- one medium more, and one less

-- Its file is accepted, and no other medium has its identifier.
pub store-with_medium : (l : NamedLibrary) (a b : Files) (m : Medium) (next : ℕ) (making : Option Name) → IsLibrary l → IsStore l a
    → has_name medium_entry_name m.name l.media ≡ false → SameOthers l m.name a b → l.next ≤ next → IsMediumFile (record l { next = next }) b m
    → list_any (λ (n : Medium). bytes_eq (id_in a n) (id_in b m)) l.media ≡ false
    → IsStore (medium_put (record l { next = next; making = making }) m) b
store-with_medium l a b m next making is store none same grows file new =
    let k = medium_put (record l { next = next; making = making }) m in
    let unused = unused-new l is m.name none in
    let files = others-kept l is a b m.name unused same l.media (each-listed l is) (none_of_any (is_named medium_entry_name m.name) l.media none) in
    let ids = none_of_any (λ (n : Medium). bytes_eq (id_in a n) (id_in b m)) l.media new in
    record {
      media = All-put medium_entry_name (IsMediumFile k b) m l.media (record { image = file.image; whole = file.whole; known = file.known })
          (media-kept a b l k refl grows l.media files store.media);
      distinct = distinct_put b m l.media (distinct-frame a b l.media files store.distinct)
          (All-join _ _ (λ (n : Medium). bytes_eq (id_in b m) (id_in b n) ≡ false)
          (λ n e apart. name_sym (id_in b m) (id_in b n) ∙ ap (λ (h : Header). bytes_eq h.id (id_in b m)) (header_frame a b n.name e) ∙ apart)
          l.media files ids);
      inners = inners-kept l is a b m.name unused same store.inners;
    }

pub store-without_medium : (l : NamedLibrary) (a b : Files) (name : Name) → IsLibrary l → IsStore l a → IsUnused l name → SameOthers l name a b
    → IsStore (medium_gone l name) b
store-without_medium l a b name is store unused same =
    let left = without medium_entry_name name l.media in
    let files = others-kept l is a b name unused same left (All-without medium_entry_name _ name l.media (each-listed l is))
    (others-without medium_entry_name name l.media) in
    record {
      media = media-kept a b l (medium_gone l name) refl (omega arith) left files (All-without medium_entry_name _ name l.media store.media);
      distinct = distinct-frame a b left files (distinct_without a name l.media store.distinct);
      inners = inners-kept l is a b name unused same store.inners;
    }

-- ---- another mode, and other machines: no file is another

inners-same : (l : NamedLibrary) → IsLibrary l → (a b : Files) → SameImages l a b → AllByRecursion (IsInnerFile l.seed a) l.inners
    → AllByRecursion (IsInnerFile l.seed b) l.inners
inners-same l is a b same of = All-join _ _ _ (λ x files of. inner-frame a b l.seed x files.0 files.1 of) l.inners
    (All-join _ _ (λ (x : NamedInner). SameImage l.seed a b (OfInner x.number) × SameImage l.seed a b x.parent)
    (λ x own parent. (own, images-same l is a b same x.parent parent)) l.inners same.inners
    (All-of_reverse _ l.inners (parents-in l.media l.inner (reverse l.inners) is.inners))) of

pub store-with_mode : (l : NamedLibrary) (a b : Files) (name : Name) (mode : Mode) → IsLibrary l → IsStore l a → SameImages l a b
    → IsStore (library_with_mode l name mode) b
store-with_mode l a b name mode is store same =
    let files = All-map _ _ (λ (m : Medium) named. same.media m.name named) l.media is.media in
    record {
      media = All-of_map renew (IsMediumFile (library_with_mode l name mode) b) l.media
          (All-map _ _ renewed-file l.media (media-kept a b l (library_with_mode l name mode) refl (omega arith) l.media files store.media));
      distinct = renewed-ids l.media (distinct-frame a b l.media files store.distinct);
      inners = inners-same l is a b same store.inners;
    }
  where
    renew : Medium → Medium
    renew x = cond (is_named medium_entry_name name x) (record x { mode = mode }) x

    keeps : (x : Medium) → (renew x).name ≡ x.name
    keeps x = cond_both (is_named medium_entry_name name x) (record x { mode = mode }) x (λ y. y.name ≡ x.name) (λ e. refl) (λ e. refl)

    renewed-file : (m : Medium) → IsMediumFile (library_with_mode l name mode) b m → IsMediumFile (library_with_mode l name mode) b (renew m)
    renewed-file m of = cond_both (is_named medium_entry_name name m) (record m { mode = mode }) m (IsMediumFile (library_with_mode l name mode) b)
        (λ e. record { image = of.image; whole = of.whole; known = of.known }) (λ e. of)

    renewed-ids : (ms : List Medium) → HaveOwnIds b ms → HaveOwnIds b (map renew ms)
    renewed-ids [] distinct = tt
    renewed-ids (m ∷ ms) distinct = (
      All-of_map renew _ ms
          (All-map _ _ (λ n apart. (λ i. bytes_eq (header_in b (keeps m i)).id (header_in b (keeps n i)).id) ∙ apart) ms distinct.0),
      renewed-ids ms distinct.1,
    )

pub store-with_machines : (l : NamedLibrary) (a b : Files) (machines : List NamedMachine) → IsLibrary l → IsStore l a → SameImages l a b
    → IsStore (record l { machines = machines }) b
store-with_machines l a b machines is store same =
    let files = All-map _ _ (λ (m : Medium) named. same.media m.name named) l.media is.media in
    record {
      media = media-kept a b l (record l { machines = machines }) refl (omega arith) l.media files store.media;
      distinct = distinct-frame a b l.media files store.distinct;
      inners = inners-same l is a b same store.inners;
    }
