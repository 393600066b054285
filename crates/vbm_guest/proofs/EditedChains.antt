-- The settled files of a chain of images, of which one is edited.
use Rattle.std.proofs.Common.{◌≡◌, ◌≢◌, ℕ, suc, ◌+◌, ◌-◌, ◌<◌, ◌≤◌, List, [], ◌∷◌, ◌++◌, length, get_or, take, map, reverse, slice_get, Option, Some, None, inl, inr, refl, sym, ap, subst, ◌∙◌, arith, take_all}
use Rattle.std.specs.List.{cons_option}
use Rattle.std.proofs.lemmas.List.{get_or-take, length-take, reverse-append, map-append, take_more}
use Rattle.std.proofs.lemmas.Bool.Decides.{eqb_tells}
use Rattle.vbm_header.specs.declared.Header.{Header}
use Rattle.vbm_ports.specs.Files.{Files, bytes_of}
use Rattle.vbm_volume.specs.Sectors.{sector_count}
use Rattle.vbm_volume.specs.Chain.{Link, headers_of, sector_down, chain_sector, FallsFrom, Falls, IsRising}
use Rattle.vbm_blockmap.specs.Pending.{Staged}
use Rattle.vbm_image.specs.declared.image.Image.{Image}
use Rattle.vbm_image.specs.Image.{file_in}
use Rattle.vbm_image.specs.Settling.{settled}
use Rattle.vbm_chain.specs.Settled.{chain_images, settled_link, settled_links}
use Rattle.vbm_chain.proofs.SettledLinks.{links-reverse, settled_headers}
use Rattle.vbm_guest.specs.Runs.{with_run, last_of, EndsOnce, ReplacesRun, KeepsOtherChains}
use Rattle.vbm_guest.specs.Edited.{ChangesAt, IsRoomed}
use Rattle.vbm_guest.proofs.EditedImages.{changed_from, changed_to}

-- ---- a chain from its last image down

down_link : (files : Files) (images : List Image) (k : ℕ) (below : List ℕ) (image : Image) → slice_get images k ≡ Some image
    → settled_links files images (k ∷ below) ≡ settled_link files image ∷ settled_links files images below
down_link files images k below image is =
    ap (λ (o : Option Image). map (λ image. settled_link files image) (cons_option o (chain_images images below))) is

-- the chain below its last image, told from there down
abbrev pub below_last : List ℕ → List ℕ
below_last chain = reverse (take (length chain - 1) chain)

last_first : (chain : List ℕ) → EndsOnce chain → reverse chain ≡ last_of chain ∷ below_last chain
last_first chain ends =
    let n : ℕ = length chain - 1 in
    let some = ends.some in
    let whole : take (n + 1) chain ≡ chain = take_all (n + 1) chain (omega arith) in
    ap reverse (sym whole ∙ take_more chain n 0 (omega arith)) ∙ reverse-append (take n chain) (get_or chain n 0 ∷ [])

pub down_of : (files : Files) (images : List Image) (chain : List ℕ) (image : Image) → EndsOnce chain → slice_get images (last_of chain) ≡ Some image
    → reverse (settled_links files images chain) ≡ settled_link files image ∷ settled_links files images (below_last chain)
down_of files images chain image ends is =
    links-reverse files images chain
    ∙ ap (settled_links files images) (last_first chain ends)
    ∙ down_link files images (last_of chain) (below_last chain) image is

-- ---- the images beside the one that is edited

module _ (P : Image → Image → Type 0) (at : ℕ) (images others : List Image) (changes : ChangesAt P at images others) (files now : Files)
    (same : (k : ℕ) (image : Image) → k ≢ at → slice_get images k ≡ Some image → file_in now image ≡ file_in files image) where
  one_same : (k : ℕ) (ks : List ℕ) (o : Option Image) → k ≢ at → slice_get images k ≡ o
      → settled_links now others ks ≡ settled_links files images ks → settled_links now others (k ∷ ks) ≡ settled_links files images (k ∷ ks)
  one_same k ks None differ is later =
      ap (λ (o : Option Image). map (λ image. settled_link now image) (cons_option o (chain_images others ks))) (changes.rest k differ ∙ is)
      ∙ later
      ∙ sym (ap (λ (o : Option Image). map (λ image. settled_link files image) (cons_option o (chain_images images ks))) is)
  one_same k ks (Some image) differ is later =
      down_link now others k ks image (changes.rest k differ ∙ is)
      ∙ ap (λ (f : List ℕ). (settled image.header image.pending.staged f, image.header) ∷ settled_links now others ks) (same k image differ is)
      ∙ ap (λ (links : List Link). settled_link files image ∷ links) later
      ∙ sym (down_link files images k ks image is)

  pub links_same : (ks : List ℕ) → ((j : ℕ) → j < length ks → get_or ks j 0 ≢ at) → settled_links now others ks ≡ settled_links files images ks
  links_same [] differ = refl
  links_same (k ∷ ks) differ =
      one_same k ks (slice_get images k) (differ 0 (omega arith)) refl (links_same ks (λ j low. differ (suc j) (omega arith)))

  pub keeps_others : KeepsOtherChains at files images now others
  keeps_others chain without i = ap (λ (links : List Link). chain_sector links i) (links_same chain without)

  -- the links below the last image of a chain, where that is edited
  front_same : (chain : List ℕ) → EndsOnce chain → at ≡ last_of chain
      → settled_links now others (take (length chain - 1) chain) ≡ settled_links files images (take (length chain - 1) chain)
  front_same chain ends is = links_same (take (length chain - 1) chain) (λ j low e.
      let inside : j < length chain - 1 = omega (arith, length-take (length chain - 1) chain) in
      ends.once j inside (sym (get_or-take (length chain - 1) chain j 0 inside) ∙ e ∙ is))

  pub below_same : (chain : List ℕ) → EndsOnce chain → at ≡ last_of chain
      → settled_links now others (below_last chain) ≡ settled_links files images (below_last chain)
  below_same chain ends is =
      sym (links-reverse now others (take (length chain - 1) chain))
      ∙ ap reverse (front_same chain ends is)
      ∙ links-reverse files images (take (length chain - 1) chain)

  -- the disk of a chain by what its last image serves
  pub replaces_of : (chain : List ℕ) (lba n : ℕ) (bytes : List ℕ) (image new : Image) → EndsOnce chain → at ≡ last_of chain
      → slice_get images at ≡ Some image → slice_get others at ≡ Some new
      → ((i : ℕ) → sector_down (settled_link now new ∷ settled_links files images (below_last chain)) i
      ≡ with_run lba n bytes (sector_down (settled_link files image ∷ settled_links files images (below_last chain))) i)
      → ReplacesRun chain files images now others lba n bytes
  replaces_of chain lba n bytes image new ends is is_old is_new serves i =
      let old_down = down_of files images chain image ends (ap (slice_get images) (sym is) ∙ is_old) in
      let new_down = down_of now others chain new ends (ap (slice_get others) (sym is) ∙ is_new) in
      ap (λ (links : List Link). sector_down links i)
      (new_down ∙ ap (λ (links : List Link). settled_link now new ∷ links) (below_same chain ends is))
      ∙ serves i
      ∙ ap (λ (links : List Link). with_run lba n bytes (sector_down links) i) (sym old_down)

-- ---- chains that rise, by their headers

falls_from_same : (xs ys : List Link) (a : ℕ) → headers_of ys ≡ headers_of xs → FallsFrom a xs → FallsFrom a ys
falls_from_same [] [] a same falls = tt
falls_from_same [] (y ∷ ys) a same falls = absurd cc
falls_from_same (x ∷ xs) [] a same falls = absurd cc
falls_from_same (x ∷ xs) (y ∷ ys) a same falls =
    let head : y.1 ≡ x.1 = cc same in
    let tail : headers_of ys ≡ headers_of xs = cc same in (
      subst (λ (h : Header). sector_count h ≤ a) (sym head) falls.0,
      subst (λ (h : Header). FallsFrom (sector_count h) ys) (sym head) (falls_from_same xs ys (sector_count x.1) tail falls.1),
    )

falls_same : (xs ys : List Link) → headers_of ys ≡ headers_of xs → Falls xs → Falls ys
falls_same [] [] same falls = tt
falls_same [] (y ∷ ys) same falls = absurd cc
falls_same (x ∷ xs) [] same falls = absurd cc
falls_same (x ∷ xs) (y ∷ ys) same falls =
    let head : y.1 ≡ x.1 = cc same in
    let tail : headers_of ys ≡ headers_of xs = cc same in
    subst (λ (h : Header). FallsFrom (sector_count h) ys) (sym head) (falls_from_same xs ys (sector_count x.1) tail falls)

headers_reverse : (links : List Link) → headers_of (reverse links) ≡ reverse (headers_of links)
headers_reverse [] = refl
headers_reverse (l ∷ ls) =
    ap headers_of (reverse-append (l ∷ []) ls)
    ∙ map-append (λ (link : Link). link.1) (reverse ls) (l ∷ [])
    ∙ ap (λ hs. hs ++ l.1 ∷ []) (headers_reverse ls)
    ∙ sym (reverse-append (l.1 ∷ []) (headers_of ls))

pub rising_same : (xs ys : List Link) → headers_of ys ≡ headers_of xs → IsRising xs → IsRising ys
rising_same xs ys same rising =
    falls_same (reverse xs) (reverse ys) (headers_reverse ys ∙ ap reverse same ∙ sym (headers_reverse xs)) rising

-- what each of the images gives, where the edited one gives the same
module _ {X : Type 0} (give : Image → X) (P : Image → Image → Type 0) (at : ℕ) (images others : List Image) (changes : ChangesAt P at images others)
    (same : (old new : Image) → P old new → give new ≡ give old) where
  gives_at : (k : ℕ) (o : Option Image) → slice_get images k ≡ o → (p : Option Image) → slice_get others k ≡ p → (xs ys : List Image)
      → map give ys ≡ map give xs → map give (cons_option p ys) ≡ map give (cons_option o xs)
  gives_at k None is None is_new xs ys later = later
  gives_at k None is (Some new) is_new xs ys later = elim (eqb_tells k at) [
    | inl here ↦
        let old = changed_from P at images others changes new (ap (slice_get others) (sym here.1) ∙ is_new) in
        absurd (let e : None ≡ Some old.0 = sym is ∙ ap (slice_get images) here.1 ∙ old.1 in cc)
    | inr apart ↦ absurd (let e : None ≡ Some new = sym is ∙ sym (changes.rest k apart.1) ∙ is_new in cc)
  ]
  gives_at k (Some old) is None is_new xs ys later = elim (eqb_tells k at) [
    | inl here ↦
        let new = changed_to P at images others changes old (ap (slice_get images) (sym here.1) ∙ is) in
        absurd (let e : None ≡ Some new.0 = sym is_new ∙ ap (slice_get others) here.1 ∙ new.1 in cc)
    | inr apart ↦ absurd (let e : None ≡ Some old = sym is_new ∙ changes.rest k apart.1 ∙ is in cc)
  ]
  gives_at k (Some old) is (Some new) is_new xs ys later =
      let here : give new ≡ give old = elim (eqb_tells k at) [
        | inl here ↦ same old new (changes.here old new (ap (slice_get images) (sym here.1) ∙ is) (ap (slice_get others) (sym here.1) ∙ is_new))
        | inr apart ↦
            let both : Some new ≡ Some old = sym is_new ∙ changes.rest k apart.1 ∙ is in
            let e : new ≡ old = cc both in
            ap give e
      ] in
      ap (λ (x : X). x ∷ map give ys) here ∙ ap (λ xs. give old ∷ xs) later

  pub gives_same : (chain : List ℕ) → map give (chain_images others chain) ≡ map give (chain_images images chain)
  gives_same [] = refl
  gives_same (k ∷ chain) =
      gives_at k (slice_get images k) refl (slice_get others k) refl (chain_images images chain) (chain_images others chain) (gives_same chain)

pub changes_rising : (P : Image → Image → Type 0) (at : ℕ) (images others : List Image) → ChangesAt P at images others
    → ((old new : Image) → P old new → new.header ≡ old.header) → (files now : Files) (chain : List ℕ)
    → IsRising (settled_links files images chain) → IsRising (settled_links now others chain)
changes_rising P at images others changes same files now chain rising =
    rising_same (settled_links files images chain) (settled_links now others chain)
    (settled_headers now others chain
    ∙ gives_same (λ image. image.header) P at images others changes same chain
    ∙ sym (settled_headers files images chain)) rising

-- ---- an image that only got room

roomed_link : (files : Files) (old new : Image) → IsRoomed old new → settled_link files new ≡ settled_link files old
roomed_link files old new same =
    ap (λ (h : Header). (settled h new.pending.staged (file_in files new), h)) same.header
    ∙ ap (λ (s : Staged). (settled old.header s (file_in files new), old.header)) same.staged
    ∙ ap (λ (n : List ℕ). (settled old.header old.pending.staged (bytes_of (files n)), old.header)) same.name

pub roomed_links : (at : ℕ) (images others : List Image) → ChangesAt IsRoomed at images others → (files : Files) (chain : List ℕ)
    → settled_links files others chain ≡ settled_links files images chain
roomed_links at images others changes files chain =
    gives_same (λ image. settled_link files image) IsRoomed at images others changes (λ old new same. roomed_link files old new same) chain
