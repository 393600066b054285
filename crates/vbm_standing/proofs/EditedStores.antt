-- Stores after an edit: the files of a library with new images are those of a store.
use Rattle.std.proofs.Common.{◌≡◌, ℕ, Bool, true, false, not, ◌||◌, ◌&&◌, List, [], ◌∷◌, reverse, Ok, refl, sym, ap, ◌∙◌, arith, IsTrue, IsFalse}
use Rattle.std.specs.Prelude.{◌==◌, filter}
use Rattle.std.specs.List.{AllByRecursion, list_any}
use Rattle.std.specs.Str.{bytes_eq}
use Rattle.std.proofs.lemmas.Bool.{cond_both, not-true, eq-eqb, le-leb}
use Rattle.vbm_ports.specs.Files.{Files}
use Rattle.vbm_ports.specs.Names.{is_medium_name}
use Rattle.vbm_header.specs.declared.Header.{Header}
use Rattle.vbm_header.specs.Header.{is_differencing}
use Rattle.vbm_volume.specs.Made.{made_image}
use Rattle.vbm_volume.proofs.NewImages.{made_accepted}
use Rattle.vbm_ids.specs.Identifier.{is_foreign}
use Rattle.vbm_named.specs.Names.{Name}
use Rattle.vbm_named.proofs.Lists.{name_refl, All-map, All-join, All-both}
use Rattle.vbm_registry.specs.declared.media.Medium.{Medium}
use Rattle.vbm_standing.specs.Headers.{header_in}
use Rattle.vbm_standing.proofs.HeaderFacts.{header_of_file, header_frame}
use Rattle.vbm_registry.specs.Named.{OfInner, NamedInner, NamedMachine, NamedLibrary}
use Rattle.vbm_standing.specs.ChainDisks.{inner_file, image_file}
use Rattle.vbm_registry.specs.Rules.{has_number}
use Rattle.vbm_standing.specs.Edits.{Renewal, new_inners, renewed_library}
use Rattle.vbm_registry.specs.Entries.{inners_left}
use Rattle.vbm_standing.specs.Faults.{id_in, is_linked_whole, IsAccepted, IsMediumFile, IsInnerFile, HaveOwnIds, IsStore}
use Rattle.vbm_registry.proofs.ListLaws.{All-append, All-of_reverse}
use Rattle.vbm_standing.proofs.ChainFrames.{IsRenewed, parents-in}
use Rattle.vbm_standing.specs.EditedFiles.{IsNewInner, IsImageIn, SameImage, SameMediumFiles}

pub All-filter : {X : Type 0} (P : X → Type 0) (p : X → Bool) (xs : List X) → AllByRecursion (λ x. p x ≡ true → P x) xs → AllByRecursion P (filter p xs)
All-filter P p [] all = tt
All-filter P p (x ∷ xs) all = cond_both (p x) (x ∷ filter p xs) (filter p xs) (AllByRecursion P)
    (λ e. (all.0 e, All-filter P p xs all.1)) (λ e. All-filter P p xs all.1)

or_one : (b c : Bool) → c ≡ true → (b || c) ≡ true
or_one true c e = refl
or_one false c e = e

-- each listed number is listed
pub each-number : (xs : List NamedInner) → AllByRecursion (λ (x : NamedInner). has_number x.number xs ≡ true) xs
each-number [] = tt
each-number (x ∷ xs) = (
  (let same = eq-eqb x.number x.number refl in rw same refl),
  All-map _ _ (λ y is. or_one (x.number == y.number) _ is) xs (each-number xs),
)

module _ (a b : Files) where
  pub accepted-frame : (name : Name) → b name ≡ a name → IsAccepted a name → IsAccepted b name
  accepted-frame name same is = record { file = is.file; there = same ∙ is.there; accepted = is.accepted ∙ ap Ok (sym (header_frame a b name same)) }

  pub distinct-frame : (ms : List Medium) → AllByRecursion (λ (m : Medium). b m.name ≡ a m.name) ms → HaveOwnIds a ms → HaveOwnIds b ms
  distinct-frame [] same distinct = tt
  distinct-frame (m ∷ ms) same distinct =
      let id = λ (n : Medium) (e : b n.name ≡ a n.name). ap (λ (h : Header). h.id) (header_frame a b n.name e) in (
        All-join (λ n. bytes_eq (id_in a m) (id_in a n) ≡ false) (λ n. b n.name ≡ a n.name) (λ n. bytes_eq (id_in b m) (id_in b n) ≡ false)
            (λ n apart e. rw (id m same.0, id n e) apart) ms distinct.0 same.1,
        distinct-frame ms same.1 distinct.1,
      )

  pub medium-frame : (l k : NamedLibrary) → k.seed ≡ l.seed → k.next ≡ l.next → (m : Medium) → b m.name ≡ a m.name → IsMediumFile l a m → IsMediumFile k b m
  medium-frame l k seed next m same is =
      let header = header_frame a b m.name same in
      record {
        image = accepted-frame m.name same is.image;
        whole = ap (λ (h : Header). is_differencing h.image_type) header ∙ is.whole;
        known = (λ i. is_foreign (seed i) (next i) (header i).id) ∙ is.known;
      }

  pub inner-frame : (seed : List ℕ) (x : NamedInner) → SameImage seed a b (OfInner x.number) → SameImage seed a b x.parent
      → IsInnerFile seed a x → IsInnerFile seed b x
  inner-frame seed x own parent is =
      let header = header_frame a b (inner_file seed x.number) own in
      let below = header_frame a b (image_file seed x.parent) parent in
      record {
        image = accepted-frame (inner_file seed x.number) own is.image;
        id = ap (λ (h : Header). h.id) header ∙ is.id;
        linked = (λ i. is_linked_whole (below i) (header i)) ∙ is.linked;
      }

-- a new image is linked
new-file : (seed : List ℕ) (b : Files) (x : NamedInner) → IsNewInner seed b x → IsInnerFile seed b x
new-file seed b x new =
    let name = inner_file seed x.number in
    let h = new.header in
    let below = header_in b (image_file seed x.parent) in
    let accepted = made_accepted h new.good.new in
    let same : header_in b name ≡ h = header_of_file b name (made_image h) h new.there accepted in
    let differs : is_differencing h.image_type ≡ true = ap is_differencing new.good.type_is in
    let link : bytes_eq h.link below.id ≡ true = ap (bytes_eq h.link) (sym new.good.link) ∙ name_refl h.link in
    let modify : bytes_eq h.parent_modify below.modify ≡ true = ap (bytes_eq h.parent_modify) (sym new.good.parent_modify) ∙ name_refl h.parent_modify in
    let room : Rattle.std.specs.Prelude.nat_le below.capacity h.capacity ≡ true = le-leb _ _ (omega (arith, new.good.capacity)) in
    let equal : (h.capacity == below.capacity) ≡ true = eq-eqb _ _ new.good.capacity in
    record {
      image = record { file = made_image h; there = new.there; accepted = accepted ∙ ap Ok (sym same) };
      id = ap (λ (g : Header). g.id) same ∙ new.good.id;
      linked = ap (is_linked_whole below) same ∙ all_five _ _ _ _ _ differs link modify room equal;
    }
  where
    all_five : (p q r s t : Bool) → p ≡ true → q ≡ true → r ≡ true → s ≡ true → t ≡ true → (p && q && r && s && t) ≡ true
    all_five p q r s t e f g h i = rw (e, f, g, h, i) refl

-- the files after the edit are those of a store
pub store-renewed : (l : NamedLibrary) (gone : ℕ → Bool) (rs : List Renewal) (m : NamedMachine) (a b : Files) → IsRenewed l gone rs a b
    → AllByRecursion (λ (n : Medium). IsTrue (is_medium_name n.name)) l.media → SameMediumFiles a b → IsStore l a → IsStore (renewed_library l gone rs m) b
store-renewed l gone rs m a b is names same store =
    let k = renewed_library l gone rs m in
    let media = All-map _ _ (λ (n : Medium) named. same n.name named) l.media names in
    let parents = All-of_reverse _ l.inners (parents-in l.media l.inner (reverse l.inners) is.renewal.inners) in
    let numbers = All-of_reverse _ l.inners (each-number (reverse l.inners)) in
    let stays = All-join _ _ (λ (x : NamedInner). IsFalse (gone x.number) → SameImage l.seed a b (OfInner x.number) × SameImage l.seed a b x.parent)
    (λ x both closed here. (is.same (OfInner x.number) both.0 here, is.same x.parent both.1 (closed here))) l.inners
    (All-both (λ (x : NamedInner). has_number x.number (reverse l.inners) ≡ true) (λ (x : NamedInner). IsImageIn l.media (reverse l.inners) x.parent) l.inners numbers parents) is.renewal.closed in
    record {
      media = All-join _ _ _ (medium-frame a b l k refl refl) l.media media store.media;
      distinct = distinct-frame a b l.media media store.distinct;
      inners = All-append _ (inners_left gone l.inners) (new_inners l.inner rs)
          (All-filter _ (λ (x : NamedInner). not (gone x.number)) l.inners (All-join _ _ _
          (λ x stay of here. let files = stay (not-true (gone x.number) here) in inner-frame a b l.seed x files.0 files.1 of) l.inners stays store.inners))
          (All-map _ _ (new-file l.seed b) (new_inners l.inner rs) is.made);
    }
