-- Disks that stay, and those of new images.
use Rattle.std.proofs.Common.{◌≡◌, ◌≢◌, ℕ, ◌+◌, ◌/◌, ◌<◌, ◌≤◌, Bool, true, false, not, ◌||◌, List, [], ◌∷◌, ◌++◌, reverse, Option, Some, None, refl, sym, ap, subst, ◌∙◌, arith, inl, inr, is_some, eqb-true}
use Rattle.std.specs.Prelude.{◌==◌}
use Rattle.std.specs.List.{AllByRecursion}
use Rattle.std.proofs.lemmas.Bool.{cases_Bool}
use Rattle.std.proofs.lemmas.List.{reverse-append}
use Rattle.vbm_ports.specs.Files.{Files, bytes_of}
use Rattle.vbm_header.specs.Header.{fields}
use Rattle.vbm_volume.specs.Sectors.{sector_count, flat_of_base}
use Rattle.vbm_volume.specs.Made.{made_image}
use Rattle.vbm_volume.proofs.NewImages.{made_accepted}
use Rattle.vbm_modes.specs.declared.Mode.{Mode}
use Rattle.vbm_named.specs.Names.{Name, find_by}
use Rattle.vbm_named.proofs.Lists.{has_found, All-map, All-join, All-both}
use Rattle.vbm_registry.specs.declared.media.Medium.{Medium}
use Rattle.vbm_registry.specs.Library.{medium_entry_name}
use Rattle.vbm_standing.specs.Headers.{header_in}
use Rattle.vbm_standing.proofs.HeaderFacts.{header_of_file}
use Rattle.vbm_registry.specs.Named.{ImageName, OfMedium, OfInner, NamedInner, NamedMachine, NamedLibrary}
use Rattle.vbm_registry.specs.Chains.{images_down, chain_of}
use Rattle.vbm_standing.specs.ChainDisks.{inner_file, image_file, link_in, links_in, disk_by}
use Rattle.vbm_world.specs.World.{is_layered}
use Rattle.vbm_volume.specs.Chain.{count_down, flat_down}
use Rattle.vbm_header.specs.declared.ImageType.{ImageType}
use Rattle.vbm_header.specs.declared.ImageType.TheVariants.{Fixed, Differencing}
use Rattle.vbm_volume.proofs.Downs.{flat_down-one}
use Rattle.vbm_volume.proofs.FreeImages.{new_down}
use Rattle.vbm_registry.specs.Rules.{has_mode, has_number, IsParent, AreInners}
use Rattle.vbm_standing.specs.Edits.{Renewal, Keep, Renew, new_inners, renewed_library}
use Rattle.vbm_registry.specs.Entries.{inners_left}
use Rattle.vbm_registry.proofs.ListLaws.{All-append, All-reverse, All-of_reverse, filter-reverse, map-same, reverse-cons}
use Rattle.vbm_standing.proofs.ChainLaws.{IsUnder, AreFrom, Falls, images_down-more, images_down-new, AreClosed, images_down-staying, images_down-all, images_down-head}
use Rattle.vbm_standing.specs.EditedFiles.{IsNewInner, IsImageIn, IsStaying, SameImage, HasImage}

-- ---- files that agree

link-same : (a b : Files) (name : Name) → b name ≡ a name → link_in b name ≡ link_in a name
unfolding header_in
link-same a b name same = ap (λ o. (bytes_of o, fields (bytes_of o))) same

pub links-same : (seed : List ℕ) (a b : Files) (images : List ImageName) → AllByRecursion (SameImage seed a b) images
    → links_in seed b images ≡ links_in seed a images
links-same seed a b images same = map-same _ _ images (All-map _ _ (λ image e. link-same a b (image_file seed image) e) images same)

-- files that agree on a chain give the same disk
pub disk-frame : (l k : NamedLibrary) (a b : Files) (image : ImageName) → k.seed ≡ l.seed → chain_of k.inners image ≡ chain_of l.inners image
    → AllByRecursion (SameImage l.seed a b) (chain_of l.inners image) → disk_by k b image ≡ disk_by l a image
unfolding disk_by
disk-frame l k a b image seed chain same =
    ap flat_down ((λ i. links_in (seed i) b (chain i)) ∙ links-same l.seed a b (chain_of l.inners image) same)

-- the disk of a medium's own image
pub disk-medium : (l : NamedLibrary) (files : Files) (name : Name) → disk_by l files (OfMedium name) ≡ flat_of_base (bytes_of (files name)) (header_in files name)
unfolding disk_by
disk-medium l files name = flat_down-one (bytes_of (files name)) (header_in files name)

not_fixed : (t : ImageType) → t ≡ Differencing → t ≢ Fixed
not_fixed t is fixed = let no : Differencing ≡ Fixed = sym is ∙ fixed in absurd cc

-- ---- listed images

some_of : (test : Mode → Bool) (o : Option Medium) → has_mode test o ≡ true → is_some o ≡ true
some_of test None e = absurd cc
some_of test (Some m) e = refl

or_one : (b c : Bool) → c ≡ true → (b || c) ≡ true
or_one true c e = refl
or_one false c e = e

module _ (media : List Medium) where
  pub parent-in : (earlier : List NamedInner) (image : ImageName) → IsParent media earlier image → IsImageIn media earlier image
  parent-in earlier (OfMedium name) is = has_found medium_entry_name name media ∙ some_of is_layered (find_by medium_entry_name name media) is
  parent-in earlier (OfInner n) is = is

  pub in-more : (x : NamedInner) (xs : List NamedInner) (image : ImageName) → IsImageIn media xs image → IsImageIn media (x ∷ xs) image
  in-more x xs (OfMedium name) is = is
  in-more x xs (OfInner n) is = or_one (x.number == n) (has_number n xs) is

  pub parents-in : (bound : ℕ) (xs : List NamedInner) → AreInners media bound xs → AllByRecursion (λ (x : NamedInner). IsImageIn media xs x.parent) xs
  parents-in bound [] are = tt
  parents-in bound (x ∷ xs) are = (
    in-more x xs x.parent (parent-in xs x.parent are.1),
    All-map _ _ (λ y is. in-more x xs y.parent is) xs (parents-in x.number xs are.2),
  )

  pub in-under : (bound : ℕ) (xs : List NamedInner) (image : ImageName) → AreInners media bound xs → IsImageIn media xs image → IsUnder bound image
  in-under bound xs (OfMedium name) are is = tt
  in-under bound [] (OfInner n) are is = absurd cc
  in-under bound (x ∷ xs) (OfInner n) are is = elim (cases_Bool (x.number == n)) [
    | inl here ↦ let same : x.number ≡ n = eqb-true x.number n here in omega (arith, are.0)
    | inr other ↦
        let below : n < x.number = in-under x.number xs (OfInner n) are.2 (rw other at is) in
        omega (arith, below, are.0)
  ]

-- ---- numbers that are drawn

pub new-from : (rs : List Renewal) (bound n : ℕ) → bound ≤ n → AreFrom bound (new_inners n rs)
new-from [] bound n le = tt
new-from (Keep s ∷ rs) bound n le = new-from rs bound n le
new-from (Renew s over ∷ rs) bound n le = (le, new-from rs bound (n + 1) (omega arith))

falls-push : (ys : List NamedInner) (x : NamedInner) → Falls ys → AllByRecursion (λ (y : NamedInner). x.number < y.number) ys → Falls (ys ++ x ∷ [])
falls-push [] x falls above = (tt, tt)
falls-push (y ∷ ys) x falls above = (All-append _ ys (x ∷ []) falls.0 (above.0, tt), falls-push ys x falls.1 above.1)

new-falls : (rs : List Renewal) (n : ℕ) → Falls (reverse (new_inners n rs))
new-falls [] n = tt
new-falls (Keep s ∷ rs) n = new-falls rs n
new-falls (Renew s over ∷ rs) n =
    let x : NamedInner = record { number = n; parent = over } in
    let rest = new_inners (n + 1) rs in
    subst Falls (sym (reverse-cons x rest)) (falls-push (reverse rest) x (new-falls rs (n + 1))
    (All-map _ _ (λ y le. omega (arith, le)) (reverse rest) (All-reverse _ rest (new-from rs (n + 1) (n + 1) (omega arith)))))

-- ---- a library with new images, and without those that go

-- an image that is listed and stays
abbrev pub Remains : NamedLibrary → (gone : ℕ → Bool) → ImageName → Type 0
Remains l gone image = HasImage l image × IsStaying gone image

-- new images stand on listed ones that stay, and what stays on what stays
pub record IsRenewal (l : NamedLibrary) (gone : ℕ → Bool) (rs : List Renewal) : Type 0 where
  pub inners : AreInners l.media l.inner (reverse l.inners)
  pub closed : AreClosed gone l.inners
  pub over : AllByRecursion (λ (x : NamedInner). Remains l gone x.parent) (new_inners l.inner rs)

-- and so do the files: new images are linked to what they stand on, and no other listed image that stays is touched
pub record IsRenewed (l : NamedLibrary) (gone : ℕ → Bool) (rs : List Renewal) (a b : Files) : Type 0 where
  pub renewal : IsRenewal l gone rs
  pub same : (image : ImageName) → HasImage l image → IsStaying gone image → SameImage l.seed a b image
  pub made : AllByRecursion (IsNewInner l.seed b) (new_inners l.inner rs)

module _ (l : NamedLibrary) (gone : ℕ → Bool) (rs : List Renewal) (m : NamedMachine) (is : IsRenewal l gone rs) where
  abbrev listed : List NamedInner
  listed = reverse l.inners

  abbrev news : List NamedInner
  news = new_inners l.inner rs

  pub in_parts : reverse (inners_left gone l.inners ++ news) ≡ reverse news ++ inners_left gone listed
  in_parts = reverse-append (inners_left gone l.inners) news ∙ ap (λ xs. reverse news ++ xs) (filter-reverse (λ (x : NamedInner). not (gone x.number)) l.inners)

  closed : AreClosed gone listed
  closed = All-reverse _ l.inners is.closed

  pub from : AreFrom l.inner (reverse news)
  from = All-reverse _ news (new-from rs l.inner l.inner (omega arith))

  under : (image : ImageName) → IsImageIn l.media listed image → IsUnder l.inner image
  under image there = in-under l.media l.inner listed image is.inners there

  passes : AllByRecursion (λ (x : NamedInner). Remains l gone (OfInner x.number) → Remains l gone x.parent) listed
  passes = All-join _ _ _ (λ x there stays holds. (there, stays holds.1)) listed (parents-in l.media l.inner listed is.inners) closed

  pub chain-stays : (image : ImageName) → Remains l gone image → chain_of (renewed_library l gone rs m).inners image ≡ chain_of l.inners image
  chain-stays image stays =
      ap (λ xs. images_down xs image) in_parts
      ∙ images_down-more (reverse news) (inners_left gone listed) l.inner image from (under image stays.0)
      ∙ images_down-staying gone listed image closed stays.1

  pub chain-new : AllByRecursion (λ (x : NamedInner). chain_of (renewed_library l gone rs m).inners (OfInner x.number) ≡ OfInner x.number ∷ chain_of l.inners x.parent) news
  chain-new = All-join _ _ _ (λ x stays chain. ap (λ xs. images_down xs (OfInner x.number)) in_parts ∙ chain
      ∙ ap (λ below. OfInner x.number ∷ below) (images_down-staying gone listed x.parent closed stays.1)) news is.over
      (All-of_reverse _ news (images_down-new (reverse news) (inners_left gone listed) l.inner (new-falls rs l.inner) from
      (All-reverse _ news (All-map _ _ (λ x s. under x.parent s.0) news is.over))))

module _ (l : NamedLibrary) (gone : ℕ → Bool) (rs : List Renewal) (m : NamedMachine) (a b : Files) (is : IsRenewed l gone rs a b) where
  files-same : (image : ImageName) → Remains l gone image → AllByRecursion (SameImage l.seed a b) (images_down (reverse l.inners) image)
  files-same image stays = All-map (Remains l gone) _ (λ i s. is.same i s.0 s.1) (images_down (reverse l.inners) image) (images_down-all (Remains l gone) (reverse l.inners) image (passes l gone rs m is.renewal) stays)

  -- what stays has the same disk
  pub disk-stays : (image : ImageName) → Remains l gone image → disk_by (renewed_library l gone rs m) b image ≡ disk_by l a image
  disk-stays image stays = disk-frame l (renewed_library l gone rs m) a b image refl (chain-stays l gone rs m is.renewal image stays) (files-same image stays)

  count-head : (image : ImageName) → Remains l gone image
      → count_down (links_in l.seed b (images_down (reverse l.inners) image)) ≡ sector_count (header_in b (image_file l.seed image))
  count-head image stays = let head = images_down-head l.media (reverse l.inners) image stays.0 in ap (λ images. count_down (links_in l.seed b images)) head.1

  new-flat : (x : NamedInner) → Remains l gone x.parent → IsNewInner l.seed b x
      → chain_of (renewed_library l gone rs m).inners (OfInner x.number) ≡ OfInner x.number ∷ chain_of l.inners x.parent
      → disk_by (renewed_library l gone rs m) b (OfInner x.number) ≡ disk_by l a x.parent
  unfolding disk_by
  new-flat x stays made chain =
      let below = links_in l.seed b (chain_of l.inners x.parent) in
      let link : link_in b (inner_file l.seed x.number) ≡ (made_image made.header, made.header) =
      (λ i. (
        bytes_of (made.there i),
        header_of_file b (inner_file l.seed x.number) (made_image made.header) made.header made.there
            (made_accepted made.header made.good.new) i,
      )) in
      let large : sector_count made.header ≡ count_down below = ap (λ n. n / 512) made.good.capacity ∙ sym (count-head x.parent stays) in
      ap (λ images. flat_down (links_in l.seed b images)) chain
      ∙ ap (λ first. flat_down (first ∷ below)) link
      ∙ new_down made.header below made.good.new (not_fixed made.header.image_type made.good.type_is) large
      ∙ ap flat_down (links-same l.seed a b (chain_of l.inners x.parent) (files-same x.parent stays))

  -- a new image has the disk that it stands on had
  pub disk-new : AllByRecursion (λ (x : NamedInner). disk_by (renewed_library l gone rs m) b (OfInner x.number) ≡ disk_by l a x.parent) (new_inners l.inner rs)
  disk-new = All-join _ _ _ (λ x both chain. new-flat x both.0 both.1 chain) (new_inners l.inner rs) (All-both (λ (x : NamedInner). Remains l gone x.parent) (IsNewInner l.seed b) (new_inners l.inner rs) is.renewal.over is.made) (chain-new l gone rs m is.renewal)
