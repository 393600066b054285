-- Opened files with one more.
use Rattle.std.proofs.Common.{◌≡◌, ◌≢◌, ℕ, zero, suc, ◌+◌, ◌-◌, ◌<◌, true, false, List, [], ◌∷◌, ◌++◌, length, map, reverse, get_or, Option, Some, None, Ok, IsTrue, refl, sym, ap, subst, ◌∙◌, arith}
use Rattle.std.specs.Prelude.{All, slice_get, Result, Err, OnOk, is_err}
use Rattle.std.specs.List.{cons_option}
use Rattle.std.specs.Option.{option_map}
use Rattle.std.proofs.lemmas.List.{append-nil, map-append, length-append, length-map, length-reverse, get_or-reverse}
use Rattle.std.proofs.lemmas.List.Elements.{All-nil, All-cons, All-head, All-tail, All-append, All-push, All-weaker, All-map, All-get_or, filter_map-append}
use Rattle.std.proofs.lemmas.Option.{slice_get_within, slice_get-get_or, slice_get-map, get_or_from_slice_get}
use Rattle.vbm_ports.specs.Files.{Files}
use Rattle.vbm_ports.specs.Names.{is_medium_name}
use Rattle.vbm_header.specs.declared.Header.{Header}
use Rattle.vbm_intent.specs.Changes.{log_name}
use Rattle.vbm_volume.specs.Chain.{Link, headers_of, broken_at, count_down, chain_count, IsRising}
use Rattle.vbm_volume.specs.Image.{IsSoundHeader}
use Rattle.vbm_volume.specs.Sectors.{sector_count}
use Rattle.vbm_volume.proofs.Rising.{rising_from_chain}
use Rattle.vbm_image.specs.declared.image.Image.{Image}
use Rattle.vbm_image.specs.Image.{file_in, IsInForm, FitsIn}
use Rattle.vbm_image.specs.Opened.{IsFresh}
use Rattle.vbm_chain.specs.Settled.{chain_images, settled_link, settled_links}
use Rattle.vbm_chain.proofs.SettledLinks.{fresh_link}
use Rattle.vbm_peek.specs.declared.opening.OpenedFiles.{OpenedFiles}
use Rattle.vbm_peek.specs.Opened.{opened_images, opened_names, image_links, opened_links, AreOpened, IsImageOf, AreOpenedFrom, AddsFile}

-- a medium's file is not the log
pub medium_no_log : (name : List ℕ) → IsTrue (is_medium_name name) → name ≢ log_name
unfolding is_medium_name
medium_no_log name named e = let t : false ≡ true = ap is_medium_name (sym e) ∙ named in absurd cc

get_front : {X : Type 0} (xs ys : List X) (i : ℕ) → i < length xs → slice_get (xs ++ ys) i ≡ slice_get xs i
get_front [] ys i inside = absurd (omega arith)
get_front (x ∷ xs) ys zero inside = refl
get_front (x ∷ xs) ys (suc i) inside = get_front xs ys i (omega arith)

-- more images leave those of a chain
chain_images-more : (images more : List Image) (chain : List ℕ) → All (λ k. k < length images) chain
    → chain_images (images ++ more) chain ≡ chain_images images chain
chain_images-more images more [] numbers = refl
chain_images-more images more (k ∷ chain) numbers =
    ap (λ o. cons_option o (chain_images (images ++ more) chain)) (get_front images more k (All-head (λ j. j < length images) k chain numbers))
    ∙ ap (λ rest. cons_option (slice_get images k) rest) (chain_images-more images more chain (All-tail (λ j. j < length images) k chain numbers))

module _ (old new : OpenedFiles) (more : List Image) (image : Image) (was : AreOpened old) (adds : AddsFile old new more image) where
  pub images_pushed : opened_images new ≡ opened_images old ++ image ∷ []
  images_pushed =
      ap (chain_images new.images.items) adds.chain
      ∙ filter_map-append (λ k. slice_get new.images.items k) old.chain.items (adds.number ∷ [])
      ∙ ap (λ o. chain_images new.images.items old.chain.items ++ cons_option o []) adds.at
      ∙ ap (λ xs. chain_images xs old.chain.items ++ image ∷ []) adds.images
      ∙ ap (λ xs. xs ++ image ∷ []) (chain_images-more old.images.items more old.chain.items was.numbers)

  pub names_pushed : opened_names new ≡ opened_names old ++ image.name ∷ []
  names_pushed = ap (map (λ (i : Image). i.name)) images_pushed ∙ map-append (λ (i : Image). i.name) (opened_images old) (image ∷ [])

  pub count_pushed : length new.images.items ≡ length old.images.items + length more
  count_pushed = ap length adds.images ∙ length-append old.images.items more

  pub pushed : All IsFresh more → All IsInForm more → AreOpened new
  pushed fresh form =
      let longer : length new.images.items ≡ length old.images.items + length more = count_pushed in
      record {
        numbers = subst (All (λ k. k < length new.images.items)) (sym adds.chain)
            (All-push (λ k. k < length new.images.items) old.chain.items adds.number
            (All-weaker (λ k. k < length old.images.items) (λ k. k < length new.images.items) (λ k low. omega arith) old.chain.items was.numbers)
            (slice_get_within new.images.items adds.number image adds.at));
        headers = adds.headers ∙ ap (λ hs. hs ++ image.header ∷ []) was.headers
            ∙ sym (map-append (λ (i : Image). i.header) (opened_images old) (image ∷ []))
            ∙ ap (map (λ (i : Image). i.header)) (sym images_pushed);
        fresh = subst (All IsFresh) (sym adds.images) (All-append IsFresh old.images.items more was.fresh fresh);
        form = subst (All IsInForm) (sym adds.images) (All-append IsInForm old.images.items more was.form form);
      }

  pub pushed_from : (files : Files) → All (IsImageOf files) more → All (FitsIn files) more → AreOpenedFrom files old → AreOpenedFrom files new
  pushed_from files of fits from = record {
    images = subst (All (IsImageOf files)) (sym adds.images) (All-append (IsImageOf files) old.images.items more from.images of);
    fits = subst (All (FitsIn files)) (sym adds.images) (All-append (FitsIn files) old.images.items more from.fits fits);
  }

pub get_last : {X : Type 0} (xs : List X) (x : X) → slice_get (xs ++ x ∷ []) (length xs) ≡ Some x
get_last [] x = refl
get_last (y ∷ xs) x = get_last xs x

-- a file whose image was appended before
pub adds_behind : (old mid new : OpenedFiles) (image : Image) → mid.images.items ≡ old.images.items ++ image ∷ [] → mid.chain.items ≡ old.chain.items
    → mid.headers.items ≡ old.headers.items → AddsFile mid new [] image → AddsFile old new (image ∷ []) image
adds_behind old mid new image images chain headers adds = record {
  images = adds.images ∙ append-nil mid.images.items ∙ images;
  number = adds.number;
  at = adds.at;
  chain = adds.chain ∙ ap (λ (ks : List ℕ). ks ++ adds.number ∷ []) chain;
  headers = adds.headers ∙ ap (λ (hs : List Header). hs ++ image.header ∷ []) headers;
}

-- ---- answers of calls

pub on_ok : {A B P Q : Type 0} (r : Result A B) → (P → Q) → OnOk r P → OnOk r Q
on_ok (Ok x) f p = f p
on_ok (Err e) f p = tt

pub of_ok : {A B P : Type 0} (r : Result A B) → is_err r ≡ false → OnOk r P → P
of_ok (Ok x) ok p = p
of_ok (Err e) ok p = absurd cc

-- ---- the images of a chain

pub all_at : {X : Type 0} (P : X → Type 0) (xs : List X) (i : ℕ) (x : X) → All P xs → slice_get xs i ≡ Some x → P x
all_at P xs i x all at = subst P (get_or_from_slice_get xs i x x at) (All-get_or P xs i x (slice_get_within xs i x at) all)

all_with : (P : Image → Type 0) (o : Option Image) (images : List Image) → ((x : Image) → o ≡ Some x → P x) → All P images
    → All P (cons_option o images)
all_with P None images this all = all
all_with P (Some x) images this all = All-cons P x images (this x refl) all

-- what holds of all images holds of those of a chain
pub all_in_chain : (P : Image → Type 0) (images : List Image) (chain : List ℕ) → All P images → All P (chain_images images chain)
all_in_chain P images [] all = All-nil P
all_in_chain P images (k ∷ chain) all =
    all_with P (slice_get images k) (chain_images images chain) (λ x at. all_at P images k x all at) (all_in_chain P images chain all)

-- where nothing is staged, the settled files are the files
settled_fresh : (files : Files) (images : List Image) → All IsFresh images → map (λ image. settled_link files image) images ≡ image_links files images
settled_fresh files [] fresh = refl
settled_fresh files (image ∷ images) fresh =
    ap (λ (link : Link). link ∷ map (λ i. settled_link files i) images) (fresh_link files image (All-head IsFresh image images fresh).staged)
    ∙ ap (λ (links : List Link). (file_in files image, image.header) ∷ links) (settled_fresh files images (All-tail IsFresh image images fresh))

headers-links : (files : Files) (images : List Image) → headers_of (image_links files images) ≡ map (λ image. image.header) images
headers-links files [] = refl
headers-links files (image ∷ images) = ap (λ (hs : List Header). image.header ∷ hs) (headers-links files images)

module _ (files : Files) (opened : OpenedFiles) (are : AreOpened opened) where
  pub links_settled : settled_links files opened.images.items opened.chain.items ≡ opened_links files opened
  links_settled = settled_fresh files (opened_images opened) (all_in_chain IsFresh opened.images.items opened.chain.items are.fresh)

  pub links_headers : headers_of (opened_links files opened) ≡ opened.headers.items
  links_headers = headers-links files (opened_images opened) ∙ sym are.headers

  pub opened_rising : broken_at opened.headers.items ≡ None → IsRising (settled_links files opened.images.items opened.chain.items)
  opened_rising chain =
      subst IsRising (sym links_settled) (rising_from_chain (opened_links files opened) (ap broken_at links_headers ∙ chain))

-- ---- the last file

count_first : (links : List Link) (d : Link) → 0 < length links → count_down links ≡ sector_count (get_or links 0 d).1
count_first [] d some = absurd (omega arith)
count_first (link ∷ links) d some = refl

-- the sectors of a chain are those of its last file
pub count_last : (links : List Link) (h : Header) → slice_get (headers_of links) (length (headers_of links) - 1) ≡ Some h
    → chain_count links ≡ sector_count h
count_last links h at =
    let d : Link = ([], h) in
    let n : length (headers_of links) ≡ length links = length-map links (λ (l : Link). l.1) in
    let inside : length links - 1 < length links = omega (arith, slice_get_within (headers_of links) _ h at) in
    let link = get_or links (length links - 1) d in
    let here : slice_get links (length links - 1) ≡ Some link = slice_get-get_or links (length links - 1) d inside in
    let top : Some link.1 ≡ Some h =
    sym (ap (option_map (λ (l : Link). l.1)) here) ∙ sym (slice_get-map (λ (l : Link). l.1) links (length links - 1))
    ∙ ap (λ (k : ℕ). slice_get (headers_of links) (k - 1)) (sym n) ∙ at in
    let header : link.1 ≡ h = cc in
    let first : length links - 1 - 0 ≡ length links - 1 = omega arith in
    let turned : get_or (reverse links) 0 d ≡ link = get_or-reverse links 0 d (omega arith) ∙ ap (λ (k : ℕ). get_or links k d) first in
    count_first (reverse links) d (omega (arith, length-reverse links, inside)) ∙ ap (λ (l : Link). sector_count l.1) turned ∙ ap sector_count header

pub sound_headers : (opened : OpenedFiles) → AreOpened opened → All IsSoundHeader opened.headers.items
sound_headers opened are =
    subst (All IsSoundHeader) (sym are.headers)
    (All-map IsSoundHeader (λ (i : Image). i.header) (opened_images opened)
    (All-weaker IsInForm (λ (i : Image). IsSoundHeader i.header) (λ i form. form.header) (opened_images opened)
    (all_in_chain IsInForm opened.images.items opened.chain.items are.form)))
