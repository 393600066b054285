-- The place of a block has the sectors of the chain.
use Rattle.std.proofs.Common.{◌≡◌, ℕ, ◌+◌, ◌*◌, ◌-◌, ◌/◌, ◌%◌, ◌<◌, ◌≤◌, true, false, List, [], ◌∷◌, ◌++◌, length, get_or, take, replicate, map, reverse, slice_get, Option, Some, None, refl, sym, ◌∙◌, ap, subst, arith, inl, inr}
use Rattle.std.specs.Prelude.{nat_lt, All}
use Rattle.std.specs.List.{cons_option}
use Rattle.std.proofs.lemmas.Bool.{cases_lt, lt-ltb, le-ltb}
use Rattle.std.proofs.lemmas.Bool.Decides.{eqb_tells}
use Rattle.std.proofs.lemmas.List.{reverse-append, take_more}
use Rattle.std.proofs.lemmas.List.Elements.{All-get_or}
use Rattle.std.proofs.lemmas.Option.{get_or_from_slice_get, slice_get_within}
use Rattle.vbm_ports.specs.Files.{Files}
use Rattle.vbm_header.specs.declared.Header.{Header}
use Rattle.vbm_volume.specs.Image.{word_of, data_at, is_free, is_position}
use Rattle.vbm_volume.specs.Sectors.{sector_count, sector_by}
use Rattle.vbm_volume.specs.Chain.{Link, sector_down, chain_sector, FallsFrom, Falls, IsRising}
use Rattle.vbm_volume.proofs.Downs.{down-free, down-here, falls-below}
use Rattle.vbm_volume.proofs.Torn.{map_within}
use Rattle.vbm_blockmap.specs.declared.entry.Entry.{Entry}
use Rattle.vbm_blockmap.specs.declared.entry.Entry.TheVariants.{Free, Zero, At}
use Rattle.vbm_blockmap.specs.Entry.{entry_of_word}
use Rattle.vbm_image.specs.declared.image.Image.{Image}
use Rattle.vbm_image.specs.Image.{file_in, staged_word, IsInForm, FitsIn}
use Rattle.vbm_image.specs.Settling.{settled}
use Rattle.vbm_image.proofs.SettledFiles.{settled_word, settled_data}
use Rattle.vbm_image.proofs.StagedWords.{staged_within}
use Rattle.vbm_chain.specs.declared.resolving.Place.{Place}
use Rattle.vbm_chain.specs.Settled.{chain_images, settled_link, settled_links}
use Rattle.vbm_chain.specs.Resolved.{entry_in, entry_at, place_by, place_down, block_place, image_sector, place_sector, HasData, IsInFile, IsPosition}
use Rattle.vbm_chain.proofs.SettledLinks.{links-reverse}

-- an item of a list of which all have a property
pub at_item : {X : Type 0} (P : X → Type 0) (xs : List X) (k : ℕ) (x : X) → All P xs → slice_get xs k ≡ Some x → P x
at_item P xs k x all is =
    subst P (get_or_from_slice_get xs k x x is) (All-get_or P xs k x (slice_get_within xs k x is) all)

-- ---- the entry of one image

module _ (files : Files) (image : Image) (form : IsInForm image) (fits : FitsIn files image) (b : ℕ) where
  abbrev h : Header
  h = image.header

  abbrev f : List ℕ
  f = file_in files image

  abbrev g : List ℕ
  g = settled image.header image.pending.staged (file_in files image)

  abbrev word : ℕ
  word = staged_word (file_in files image) image.header image.pending.staged b

  in_map : b * 2048 < sector_count image.header → b < image.header.blocks
  in_map inside = let enough = form.header.enough in omega arith

  served : (i : ℕ) → i / 2048 ≡ b → i < sector_count image.header → word_of g h (i / 2048) ≡ word
  served i here inside =
      ap (word_of g h) here
      ∙ settled_word image.header form.header image.pending.staged (file_in files image) form.staged (map_within f h fits.accepted).1 b
      (in_map (omega arith))

  entry_inside : b * 2048 < sector_count image.header → entry_in files image b ≡ entry_of_word word
  entry_inside inside = let counted : nat_lt (b * 2048) (sector_count image.header) ≡ true = lt-ltb _ _ inside in rw counted refl

  entry_past : sector_count image.header ≤ b * 2048 → entry_in files image b ≡ Free
  entry_past past = let none : nat_lt (b * 2048) (sector_count image.header) ≡ false = le-ltb _ _ past in rw none refl

  -- the data of a position
  entry_data : (p : ℕ) → entry_in files image b ≡ At p → p < 0xFFFFFFFE → data_at image.header (p + 1) ≤ length (file_in files image)
  entry_data p is low = elim (cases_lt (b * 2048) (sector_count image.header)) [
    | inr past ↦ let e : Free ≡ At p = sym (entry_past past) ∙ is in absurd cc
    | inl inside ↦ elim (eqb_tells word 4294967295) [
      | inl free ↦ let e : Free ≡ At p = sym (rw free.0 refl) ∙ sym (entry_inside inside) ∙ is in absurd cc
      | inr some ↦ elim (eqb_tells word 4294967294) [
        | inl zeros ↦ let e : Zero ≡ At p = sym (rw (some.0, zeros.0) refl) ∙ sym (entry_inside inside) ∙ is in absurd cc
        | inr other ↦
            let e : At word ≡ At p = sym (rw (some.0, other.0) refl) ∙ sym (entry_inside inside) ∙ is in
            let same : word ≡ p = cc e in
            let position : is_position word ≡ true = lt-ltb _ _ (omega arith) in
            subst (λ (q : ℕ). data_at image.header (q + 1) ≤ length (file_in files image)) same
            (staged_within f h image.pending.staged fits.accepted fits.entries b (in_map inside) position)
      ]
    ]
  ]

  -- a sector of the block, above other files
  module _ (below : List Link) (i : ℕ) (here : i / 2048 ≡ b) where
    abbrev sector : List ℕ
    sector = sector_down ((g, h) ∷ below) i

    sector_past : sector_count image.header ≤ b * 2048 → sector ≡ sector_down below i
    sector_past past = down-free g h below i 4294967295 (λ inside. absurd (omega arith)) refl

    sector_free : is_free word ≡ true → sector ≡ sector_down below i
    sector_free free = down-free g h below i word (served i here) free

    sector_zero : word ≡ 4294967294 → is_free word ≡ false → FallsFrom (sector_count image.header) below → sector ≡ replicate 512 0
    sector_zero zeros some falls =
        down-here g h below i word (served i here) some falls
        ∙ elim (cases_lt i (sector_count image.header)) [
          | inl inside ↦
              let counted : nat_lt i (sector_count image.header) ≡ true = lt-ltb _ _ inside in
              rw counted (ap (λ (w : ℕ). sector_by g h w i) zeros)
          | inr past ↦ let none : nat_lt i (sector_count image.header) ≡ false = le-ltb _ _ past in rw none refl
        ]

    sector_there : word < 0xFFFFFFFE → b * 2048 < sector_count image.header → is_free word ≡ false → FallsFrom (sector_count image.header) below
        → sector ≡ image_sector files (Some image) word i
    sector_there low first some falls =
        down-here g h below i word (served i here) some falls
        ∙ elim (cases_lt i (sector_count image.header)) [
          | inl inside ↦
              let counted : nat_lt i (sector_count image.header) ≡ true = lt-ltb _ _ inside in
              let position : is_position word ≡ true = lt-ltb _ _ low in
              let order = map_within f h fits.accepted in
              let room = staged_within f h image.pending.staged fits.accepted fits.entries b (in_map first) position in
              rw (counted, position)
              (settled_data h form.header image.pending.staged f form.staged order.1 (data_at h word + i % 2048 * 512) 512
              (let o = order.0 in omega arith) (omega arith))
          | inr past ↦ let none : nat_lt i (sector_count image.header) ≡ false = le-ltb _ _ past in rw none refl
        ]

    -- by the entry, where `place` is that of the files below
    module _ (images : List Image) (k : ℕ) (place : Place) (is : slice_get images k ≡ Some image)
        (falls : FallsFrom (sector_count image.header) below)
        (same : IsPosition place → sector_down below i ≡ place_sector files images place i) where
      abbrev Gives : Entry → Type 0
      Gives e = IsPosition (place_by e k place) → sector ≡ place_sector files images (place_by e k place) i

      gives_here : b * 2048 < sector_count image.header → Gives (entry_of_word word)
      gives_here inside = elim (eqb_tells word 4294967295) [
        | inl free ↦ rw free.0 (λ low. sector_free free.0 ∙ same low)
        | inr some ↦ elim (eqb_tells word 4294967294) [
          | inl zeros ↦ rw (some.0, zeros.0) (λ low. sector_zero zeros.1 some.0 falls)
          | inr other ↦
              rw (some.0, other.0)
              (λ low. sector_there low inside some.0 falls ∙ ap (λ (o : Option Image). image_sector files o word i) (sym is))
        ]
      ]

      pub gives : Gives (entry_in files image b)
      gives = elim (cases_lt (b * 2048) (sector_count image.header)) [
        | inl inside ↦ subst Gives (sym (entry_inside inside)) (gives_here inside)
        | inr past ↦ subst Gives (sym (entry_past past)) (λ low. sector_past past ∙ same low)
      ]

-- ---- the images of a chain

module _ (files : Files) (images : List Image) (form : All IsInForm images) (fits : All (FitsIn files) images) where
  abbrev down_links : Option Image → List ℕ → List Link
  down_links o down = map (λ image. settled_link files image) (cons_option o (chain_images images down))

  abbrev SameSector : List Link → Place → ℕ → Type 0
  SameSector links place i = Falls links → IsPosition place → sector_down links i ≡ place_sector files images place i

  next_reads : (k : ℕ) (down : List ℕ) (b i : ℕ) (o : Option Image) → i / 2048 ≡ b → slice_get images k ≡ o
      → SameSector (settled_links files images down) (place_down files images down b) i
      → SameSector (down_links o down) (place_by (entry_at files o b) k (place_down files images down b)) i
  next_reads k down b i None here is later = later
  next_reads k down b i (Some image) here is later = λ falls low.
      gives files image (at_item IsInForm images k image form is) (at_item (FitsIn files) images k image fits is) b
      (settled_links files images down) i here images k (place_down files images down b) is falls
      (later (falls-below (sector_count image.header) (settled_links files images down) falls)) low

  down_reads : (down : List ℕ) (b i : ℕ) → i / 2048 ≡ b → SameSector (settled_links files images down) (place_down files images down b) i
  down_reads [] b i here = λ falls low. refl
  down_reads (k ∷ down) b i here = next_reads k down b i (slice_get images k) here refl (down_reads down b i here)

  -- the sectors of a block, by its place
  pub chain_reads : (chain : List ℕ) (b i : ℕ) (place : Place) → place ≡ block_place files images chain b → IsPosition place
      → IsRising (settled_links files images chain) → i / 2048 ≡ b
      → chain_sector (settled_links files images chain) i ≡ place_sector files images place i
  chain_reads chain b i place is low rising here =
      let down = links-reverse files images chain in
      ap (λ (links : List Link). sector_down links i) down
      ∙ down_reads (reverse chain) b i here (subst Falls down rising) (subst IsPosition is low)
      ∙ ap (λ (p : Place). place_sector files images p i) (sym is)

  next_data : (k : ℕ) (b : ℕ) (o : Option Image) (e : Entry) (below : Place) → slice_get images k ≡ o → entry_at files o b ≡ e
      → IsPosition (place_by e k below) → (IsPosition below → IsInFile files images below) → IsInFile files images (place_by e k below)
  next_data k b o Free below at is low later = later low
  next_data k b o Zero below at is low later = tt
  next_data k b None (At p) below at is low later = absurd cc
  next_data k b (Some image) (At p) below at is low later =
      subst (λ (o : Option Image). HasData files o p) (sym at)
      (entry_data files image (at_item IsInForm images k image form at) (at_item (FitsIn files) images k image fits at) b p is low)

  down_data : (down : List ℕ) (b : ℕ) → IsPosition (place_down files images down b) → IsInFile files images (place_down files images down b)
  down_data [] b low = tt
  down_data (k ∷ down) b low =
      next_data k b (slice_get images k) (entry_at files (slice_get images k) b) (place_down files images down b) refl refl low (down_data down b)

  -- and its data
  pub chain_data : (chain : List ℕ) (b : ℕ) (place : Place) → place ≡ block_place files images chain b → IsPosition place
      → IsInFile files images place
  chain_data chain b place is low = subst (IsInFile files images) (sym is) (down_data (reverse chain) b (subst IsPosition is low))

-- one image more was looked at, by files that are the same
pub place_next : (files now : Files) (images : List Image) (chain : List ℕ) (left b : ℕ) (image : Image) (e : Entry) → now ≡ files
    → block_place files images chain b ≡ block_place files images (take left chain) b → 0 < left → left ≤ length chain
    → slice_get images (get_or chain (left - 1) 0) ≡ Some image → e ≡ entry_in now image b
    → block_place files images chain b ≡ place_by e (get_or chain (left - 1) 0) (block_place files images (take (left - 1) chain) b)
place_next files now images chain left b image e same so_far some within at is =
    let n : ℕ = left - 1 in
    let k : ℕ = get_or chain n 0 in
    let next : n + 1 ≡ left = omega arith in
    let parts : take left chain ≡ take n chain ++ k ∷ [] = ap (λ (m : ℕ). take m chain) (sym next) ∙ take_more chain n 0 (omega arith) in
    let order : reverse (take left chain) ≡ k ∷ reverse (take n chain) = ap reverse parts ∙ reverse-append (take n chain) (k ∷ []) in
    so_far
    ∙ ap (λ (down : List ℕ). place_down files images down b) order
    ∙ ap (λ (o : Option Image). place_by (entry_at files o b) k (block_place files images (take n chain) b)) at
    ∙ ap (λ (x : Files). place_by (entry_in x image b) k (block_place files images (take n chain) b)) (sym same)
    ∙ ap (λ (x : Entry). place_by x k (block_place files images (take n chain) b)) (sym is)
