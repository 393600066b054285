-- What is answered of files of which some were opened.
use Rattle.std.proofs.Common.{◌≡◌, ◌≢◌, ℕ, zero, suc, ◌+◌, ◌<◌, ◌≤◌, true, false, leb, List, [], ◌∷◌, ◌++◌, length, map, take, drop, Option, Some, None, refl, sym, ap, ◌∙◌}
use Rattle.std.specs.Prelude.{All, slice_get, Ok, Err}
use Rattle.std.specs.Option.{option_map}
use Rattle.std.proofs.lemmas.List.{append-nil, append_assoc, map-append, take_more, take-append-drop}
use Rattle.std.proofs.lemmas.List.Elements.{All-head, All-tail}
use Rattle.std.proofs.lemmas.Bool.{lt-leb, le-leb}
use Rattle.std.proofs.lemmas.Option.{slice_get-map, slice_get_within, get_or_from_slice_get}
use Rattle.vbm_ports.specs.Files.{Files, bytes_of}
use Rattle.vbm_header.specs.declared.BadImage.{BadImage}
use Rattle.vbm_header.specs.declared.Header.{Header}
use Rattle.vbm_header.specs.Header.{condition_number}
use Rattle.vbm_volume.specs.Chain.{Link, headers_of, broken_at, chain_count, chain_sector}
use Rattle.vbm_volume.specs.Image.{image_of}
use Rattle.vbm_image.specs.declared.image.Image.{Image}
use Rattle.vbm_image.specs.Image.{file_in}
use Rattle.vbm_world.specs.declared.command.Refusal.TheVariants.{NoSuchFile, NotAnImage, OutOfRange, BrokenChain}
use Rattle.vbm_peek.specs.declared.opening.OpenedFiles.{OpenedFiles}
use Rattle.vbm_peek.specs.Opened.{opened_images, opened_names, image_links, opened_links, AreOpened, IsImageOf, AreOpenedFrom}
use Rattle.vbm_peek.specs.Peek.{all_there, links_of, sector_of_links, sector_of_files, peeked, unless_missing}
use Rattle.vbm_peek.proofs.OpenedFiles.{all_in_chain, links_headers}

-- ---- files that are there

pub take_item : {X : Type 0} (xs : List X) (i : ℕ) (x : X) → slice_get xs i ≡ Some x → take (i + 1) xs ≡ take i xs ++ x ∷ []
take_item xs i x at =
    take_more xs i x (slice_get_within xs i x at) ∙ ap (λ y. take i xs ++ y ∷ []) (get_or_from_slice_get xs i x x at)

map_map : {A B C : Type 0} (f : B → C) (g : A → B) (o : Option A) → option_map f (option_map g o) ≡ option_map (λ x. f (g x)) o
map_map f g None = refl
map_map f g (Some x) = refl

there_behind : (xs : List (List ℕ)) (ys : List (Option (List ℕ)))
    → all_there (map (λ x. Some x) xs ++ ys) ≡ option_map (λ zs. xs ++ zs) (all_there ys)
there_behind [] ys = id_map (all_there ys)
  where
    id_map : (o : Option (List (List ℕ))) → o ≡ option_map (λ zs. [] ++ zs) o
    id_map None = refl
    id_map (Some zs) = refl
there_behind (x ∷ xs) ys =
    ap (option_map (λ zs. x ∷ zs)) (there_behind xs ys) ∙ map_map (λ zs. x ∷ zs) (λ zs. xs ++ zs) (all_there ys)

missing_among : (fs : List (Option (List ℕ))) (i : ℕ) → slice_get fs i ≡ Some None → all_there fs ≡ None
missing_among [] i at = absurd cc
missing_among (None ∷ fs) i at = refl
missing_among (Some f ∷ fs) zero at = absurd cc
missing_among (Some f ∷ fs) (suc i) at = ap (option_map (λ ks. f ∷ ks)) (missing_among fs i at)

pub there-missing : (files : Files) (names : List (List ℕ)) (i : ℕ) (name : List ℕ) → slice_get names i ≡ Some name → files name ≡ None
    → all_there (map files names) ≡ None
there-missing files names i name at missing =
    missing_among (map files names) i (slice_get-map files names i ∙ ap (option_map files) at ∙ ap (λ file. Some file) missing)

-- a file that is not there is refused
pub peeked-missing : (files : Files) (names : List (List ℕ)) (i : ℕ) (name : List ℕ) (lba : ℕ) → slice_get names i ≡ Some name → files name ≡ None
    → peeked (map files names) lba ≡ Err NoSuchFile
peeked-missing files names i name lba at missing = ap (λ there. sector_of_files there lba) (there-missing files names i name at missing)

one_more : (x : List ℕ) (o next : Option (List (List ℕ))) (fs : List (List ℕ)) (f : List ℕ)
    → ((ks : List (List ℕ)) → o ≡ Some ks → next ≡ Some (ks ++ f ∷ []))
    → option_map (λ ks. x ∷ ks) o ≡ Some fs → option_map (λ ks. x ∷ ks) next ≡ Some (fs ++ f ∷ [])
one_more x None next fs f more is = absurd cc
one_more x (Some ks) next fs f more is =
    let same : x ∷ ks ≡ fs = cc in
    ap (option_map (λ zs. x ∷ zs)) (more ks refl) ∙ ap (λ (zs : List (List ℕ)). Some (zs ++ f ∷ [])) same

pub there-more : (os : List (Option (List ℕ))) (fs : List (List ℕ)) (f : List ℕ) → all_there os ≡ Some fs
    → all_there (os ++ Some f ∷ []) ≡ Some (fs ++ f ∷ [])
there-more [] fs f is = let none : [] ≡ fs = cc in ap (λ (zs : List (List ℕ)). Some (zs ++ f ∷ [])) none
there-more (None ∷ os) fs f is = absurd cc
there-more (Some x ∷ os) fs f is =
    one_more x (all_there os) (all_there (os ++ Some f ∷ [])) fs f (λ ks e. there-more os ks f e) is

-- one more file that is there
pub more_there : (files : Files) (names : List (List ℕ)) (i : ℕ) (name : List ℕ) → slice_get names i ≡ Some name → files name ≢ None
    → (fs : List (List ℕ)) × (all_there (map files (take i names)) ≡ Some fs)
    → (fs : List (List ℕ)) × (all_there (map files (take (i + 1) names)) ≡ Some fs)
more_there files names i name at there (fs, is) = by_file (files name) refl there
  where
    by_file : (file : Option (List ℕ)) → files name ≡ file → files name ≢ None
        → (gs : List (List ℕ)) × (all_there (map files (take (i + 1) names)) ≡ Some gs)
    by_file None e there = absurd (there e)
    by_file (Some f) e there = (
      fs ++ f ∷ [],
      ap (λ ns. all_there (map files ns)) (take_item names i name at) ∙ ap all_there (map-append files (take i names) (name ∷ []))
          ∙ ap (λ file. all_there (map files (take i names) ++ file ∷ [])) e ∙ there-more (map files (take i names)) fs f is,
    )

-- ---- files that were opened

image_there : (file : Option (List ℕ)) (h : Header) → option_map image_of file ≡ Some (Ok h)
    → (file ≡ Some (bytes_of file)) × (image_of (bytes_of file) ≡ Ok h)
image_there None h is = absurd cc
image_there (Some f) h is = let image : image_of f ≡ Ok h = cc in (refl, image)

bad_there : (file : Option (List ℕ)) (bad : BadImage) → option_map image_of file ≡ Some (Err bad)
    → (file ≡ Some (bytes_of file)) × (image_of (bytes_of file) ≡ Err bad)
bad_there None bad is = absurd cc
bad_there (Some f) bad is = let image : image_of f ≡ Err bad = cc in (refl, image)

module _ (files : Files) where
  files_of : List Image → List (List ℕ)
  files_of images = map (λ image. file_in files image) images

  images_there : (images : List Image) → All (IsImageOf files) images
      → map files (map (λ image. image.name) images) ≡ map (λ f. Some f) (files_of images)
  unfolding files_of
  images_there [] of = refl
  images_there (image ∷ images) of =
      ap (λ file. file ∷ map files (map (λ i. i.name) images)) (image_there (files image.name) image.header (All-head
      (IsImageOf files) image images of)).0
      ∙ ap (λ fs. Some (file_in files image) ∷ fs) (images_there images (All-tail (IsImageOf files) image images of))

  image_here : (image : Image) (images : List Image) → All (IsImageOf files) (image ∷ images) → image_of (file_in files image) ≡ Ok image.header
  image_here image images of = (image_there (files image.name) image.header (All-head (IsImageOf files) image images of)).1

  links-opened : (images : List Image) → All (IsImageOf files) images → links_of (files_of images) ≡ Ok (image_links files images)
  unfolding files_of
  links-opened [] of = refl
  links-opened (image ∷ images) of = rw (image_here image images of, links-opened images (All-tail (IsImageOf files) image images of))

  links-bad : (images : List Image) (f : List ℕ) (above : List (List ℕ)) (bad : BadImage) → All (IsImageOf files) images → image_of f ≡ Err bad
      → links_of (files_of images ++ f ∷ above) ≡ Err bad
  unfolding files_of
  links-bad [] f above bad of is = rw is
  links-bad (image ∷ images) f above bad of is =
      rw (image_here image images of, links-bad images f above bad (All-tail (IsImageOf files) image images of) is)

  -- opened files alone
  pub peeked-opened : (images : List Image) (lba : ℕ) → All (IsImageOf files) images
      → peeked (map files (map (λ image. image.name) images)) lba ≡ sector_of_links (Ok (image_links files images)) lba
  peeked-opened images lba of =
      let there : all_there (map (λ f. Some f) (files_of images) ++ []) ≡ Some (files_of images ++ []) = there_behind (files_of images) [] in
      ap (λ fs. sector_of_files (all_there fs) lba) (images_there images of ∙ sym (append-nil (map (λ f. Some f) (files_of images))))
      ∙ ap (λ found. sector_of_files found lba) (there ∙ ap (λ fs. Some fs) (append-nil (files_of images)))
      ∙ ap (λ links. sector_of_links links lba) (links-opened images of)

  sector-bad : (images : List Image) (f : List ℕ) (above : Option (List (List ℕ))) (bad : BadImage) (lba : ℕ) → All (IsImageOf files) images
      → image_of f ≡ Err bad
      → sector_of_files (option_map (λ zs. files_of images ++ zs) (option_map (λ zs. f ∷ zs) above)) lba
      ≡ unless_missing above (NotAnImage (condition_number bad))
  sector-bad images f None bad lba of is = refl
  sector-bad images f (Some above) bad lba of is = ap (λ links. sector_of_links links lba) (links-bad images f above bad of is)

  -- opened files below one that is no image
  pub peeked-bad : (images : List Image) (name : List ℕ) (above : List (List ℕ)) (bad : BadImage) (lba : ℕ) → All (IsImageOf files) images
      → option_map image_of (files name) ≡ Some (Err bad)
      → peeked (map files (map (λ image. image.name) images ++ name ∷ above)) lba
      ≡ unless_missing (all_there (map files above)) (NotAnImage (condition_number bad))
  peeked-bad images name above bad lba of is =
      let names = map (λ (image : Image). image.name) images in
      let xs = files_of images in
      let here = bad_there (files name) bad is in
      let all : map files (names ++ name ∷ above) ≡ map (λ f. Some f) xs ++ Some (bytes_of (files name)) ∷ map files above =
      map-append files names (name ∷ above) ∙ ap (λ fs. fs ++ files name ∷ map files above) (images_there images of)
      ∙ ap (λ file. map (λ f. Some f) xs ++ file ∷ map files above) here.0 in
      ap (λ fs. sector_of_files (all_there fs) lba) all
      ∙ ap (λ found. sector_of_files found lba) (there_behind xs (Some (bytes_of (files name)) ∷ map files above))
      ∙ sector-bad images (bytes_of (files name)) (all_there (map files above)) bad lba of here.1

-- ---- opened files, where the disk tells its files

links-out : (links : List Link) (lba : ℕ) → chain_count links ≤ lba → sector_of_links (Ok links) lba ≡ Err OutOfRange
links-out links lba out = let past : leb (chain_count links) lba ≡ true = le-leb _ _ out in rw past refl

links-broken : (links : List Link) (lba i : ℕ) → lba < chain_count links → broken_at (headers_of links) ≡ Some i
    → sector_of_links (Ok links) lba ≡ Err (BrokenChain i)
links-broken links lba i inside broken = let within : leb (chain_count links) lba ≡ false = lt-leb _ _ inside in rw (within, broken) refl

links-chain : (links : List Link) (lba : ℕ) → lba < chain_count links → broken_at (headers_of links) ≡ None
    → sector_of_links (Ok links) lba ≡ Ok (chain_sector links lba)
links-chain links lba inside chain = let within : leb (chain_count links) lba ≡ false = lt-leb _ _ inside in rw (within, chain) refl

module _ (files : Files) (opened : OpenedFiles) (are : AreOpened opened) (from : AreOpenedFrom files opened) (lba : ℕ) where
  whole : peeked (map files (opened_names opened)) lba ≡ sector_of_links (Ok (opened_links files opened)) lba
  whole = peeked-opened files (opened_images opened) lba (all_in_chain (IsImageOf files) opened.images.items opened.chain.items from.images)

  pub peeked-out : chain_count (opened_links files opened) ≤ lba → peeked (map files (opened_names opened)) lba ≡ Err OutOfRange
  peeked-out out = whole ∙ links-out (opened_links files opened) lba out

  pub peeked-broken : (i : ℕ) → lba < chain_count (opened_links files opened) → broken_at opened.headers.items ≡ Some i
      → peeked (map files (opened_names opened)) lba ≡ Err (BrokenChain i)
  peeked-broken i inside broken =
      whole ∙ links-broken (opened_links files opened) lba i inside (ap broken_at (links_headers files opened are) ∙ broken)

  pub peeked-chain : lba < chain_count (opened_links files opened) → broken_at opened.headers.items ≡ None
      → peeked (map files (opened_names opened)) lba ≡ Ok (chain_sector (opened_links files opened) lba)
  peeked-chain inside chain = whole ∙ links-chain (opened_links files opened) lba inside (ap broken_at (links_headers files opened are) ∙ chain)

-- the first files were opened, and the next is no image
pub peeked-stopped : (files : Files) (opened : OpenedFiles) (names : List (List ℕ)) (i : ℕ) (name : List ℕ) (bad : BadImage) (lba : ℕ)
    → AreOpenedFrom files opened
    → opened_names opened ≡ take i names → slice_get names i ≡ Some name → option_map image_of (files name) ≡ Some (Err bad)
    → peeked (map files names) lba ≡ unless_missing (all_there (map files (drop (i + 1) names))) (NotAnImage (condition_number bad))
peeked-stopped files opened names i name bad lba from front at is =
    let above = drop (i + 1) names in
    let all : names ≡ opened_names opened ++ name ∷ above =
    sym (take-append-drop (i + 1) names) ∙ ap (λ ns. ns ++ above) (take_item names i name at) ∙ append_assoc (take i names) (name ∷ []) above
    ∙ ap (λ ns. ns ++ name ∷ above) (sym front) in
    ap (λ ns. peeked (map files ns) lba) all
    ∙ peeked-bad files (opened_images opened) name above bad lba
    (all_in_chain (IsImageOf files) opened.images.items opened.chain.items from.images) is

-- ---- what a length tells

pub no_length : (file : Option (List ℕ)) → None ≡ option_map length file → file ≡ None
no_length None is = refl
no_length (Some f) is = absurd cc

pub has_length : (file : Option (List ℕ)) (n : ℕ) → Some n ≡ option_map length file → file ≢ None
has_length None n is = λ e. absurd cc
has_length (Some f) n is = λ e. absurd cc
