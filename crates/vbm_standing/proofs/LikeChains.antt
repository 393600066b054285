-- Disks of chains whose files are as a crash may leave them: they are the same but for the loose sectors of those files.
use Rattle.std.proofs.Common.{◌≡◌, ℕ, Bool, false, List, [], ◌∷◌, Some, Ok, refl, sym, ap, ◌∙◌, arith, inl, inr}
use Rattle.std.specs.Prelude.{reverse}
use Rattle.std.specs.List.{AllByRecursion, list_any}
use Rattle.std.specs.Str.{bytes_eq}
use Rattle.std.proofs.lemmas.Bool.{cases_Bool, cases_lt, or_parts}
use Rattle.std.proofs.lemmas.Slice.Eq.{bytes_eq-Decides}
use Rattle.std.proofs.lemmas.Option.{slice_get_past}
use Rattle.vbm_ports.specs.Files.{Files, bytes_of}
use Rattle.vbm_volume.specs.Image.{image_of}
use Rattle.vbm_volume.specs.Like.{IsLikeFile}
use Rattle.vbm_volume.specs.Sectors.{FlatDisk, sector_count, first_sectors}
use Rattle.vbm_volume.specs.Chain.{Link, sector_down, count_down, flat_down}
use Rattle.vbm_volume.proofs.Likes.{like_image, length-first_sectors, slice_get-first_sectors}
use Rattle.vbm_volume.proofs.Downs.{first_sectors-same, sector_down-above, like_sector_down}
use Rattle.vbm_named.specs.Names.{Name}
use Rattle.vbm_named.proofs.Lists.{All-every, All-map, any_none}
use Rattle.vbm_world.specs.Loose.{IsLikeFlat}
use Rattle.vbm_registry.specs.Named.{ImageName, NamedLibrary}
use Rattle.vbm_registry.specs.Chains.{chain_of}
use Rattle.vbm_registry.specs.Rules.{IsLibrary}
use Rattle.vbm_standing.specs.Headers.{header_in}
use Rattle.vbm_standing.specs.ChainDisks.{image_file, link_in, links_in, disk_by}
use Rattle.vbm_standing.specs.EditedFiles.{HasImage}
use Rattle.vbm_standing.proofs.HeaderFacts.{header_of_file}
use Rattle.vbm_standing.proofs.ChainLaws.{images_down-all}
use Rattle.vbm_standing.proofs.ChainFrames.{parents-in}

-- the file of a name is an image's, and after a crash it is one but for its loose sectors
pub record IsLikeImage (loose : Name → ℕ → Bool) (a b : Files) (name : Name) : Type 0 where
  pub file : List ℕ
  pub there : a name ≡ Some file
  pub accepted : image_of file ≡ Ok (header_in a name)
  pub left : List ℕ
  pub after : b name ≡ Some left
  pub like : IsLikeFile (header_in a name) (loose name) file left

module _ (loose : Name → ℕ → Bool) (a b : Files) (name : Name) (is : IsLikeImage loose a b name) where
  link-before : link_in a name ≡ (is.file, header_in a name)
  link-before = ap (λ o. (bytes_of o, header_in a name)) is.there

  pub header-like : header_in b name ≡ header_in a name
  header-like = header_of_file b name is.left (header_in a name) is.after
      (like_image is.file is.left (header_in a name) (loose name) is.accepted is.like)

  link-after : link_in b name ≡ (is.left, header_in a name)
  link-after = λ i. (bytes_of (is.after i), header-like i)

  -- a sector that is not loose
  sector-like : (below : List Link) (i : ℕ) → loose name i ≡ false → sector_down (link_in b name ∷ below) i ≡ sector_down (link_in a name ∷ below) i
  sector-like below i settled =
      ap (λ link. sector_down (link ∷ below) i) link-after
      ∙ like_sector_down is.file is.left (header_in a name) (loose name) below i is.accepted is.like (λ inside. settled)
      ∙ ap (λ link. sector_down (link ∷ below) i) (sym link-before)

-- more sectors may differ
pub like-weaker : (loose more : ℕ → Bool) (x y : FlatDisk) → ((i : ℕ) → more i ≡ false → loose i ≡ false) → IsLikeFlat loose x y → IsLikeFlat more x y
like-weaker loose more x y less like = record { as_long = like.as_long; same = λ i settled. like.same i (less i settled) }

-- some file of these images is loose in the sector
abbrev pub is_loose_in : (seed : List ℕ) → (Name → ℕ → Bool) → List ImageName → ℕ → Bool
is_loose_in seed loose images i = list_any (λ image. loose (image_file seed image) i) images

module _ (seed : List ℕ) (loose : Name → ℕ → Bool) (a b : Files) where
  abbrev pub AreLike : List ImageName → Type 0
  AreLike images = AllByRecursion (λ image. IsLikeImage loose a b (image_file seed image)) images

  sectors-like : (images : List ImageName) → AreLike images → (i : ℕ) → is_loose_in seed loose images i ≡ false
      → sector_down (links_in seed b images) i ≡ sector_down (links_in seed a images) i
  sectors-like [] like i settled = refl
  sectors-like (image ∷ images) like i settled =
      let both = or_parts (loose (image_file seed image) i) (is_loose_in seed loose images i) settled in
      sector_down-above (link_in b (image_file seed image) ∷ []) (links_in seed b images) (links_in seed a images) i
      (sectors-like images like.1 i both.1)
      ∙ sector-like loose a b (image_file seed image) like.0 (links_in seed a images) i both.0

  count-like : (images : List ImageName) → AreLike images → count_down (links_in seed b images) ≡ count_down (links_in seed a images)
  count-like [] like = refl
  count-like (image ∷ images) like = ap sector_count (header-like loose a b (image_file seed image) like.0)

  -- the disk of a chain is the same but for the sectors in which one of its files is loose
  pub flat-like : (images : List ImageName) → AreLike images
      → IsLikeFlat (is_loose_in seed loose images) (flat_down (links_in seed a images)) (flat_down (links_in seed b images))
  flat-like images like =
      let n = count_down (links_in seed a images) in
      let m = count_down (links_in seed b images) in
      let s = sector_down (links_in seed a images) in
      let t = sector_down (links_in seed b images) in
      let same : m ≡ n = count-like images like in
      let before = length-first_sectors s n in
      let after = length-first_sectors t m in
      record {
        as_long = after ∙ same ∙ sym before;
        same = λ i settled. elim (cases_lt i n) [
          | inl inside ↦
              slice_get-first_sectors t m i (omega (arith, same, inside)) ∙ ap Some (sectors-like images like i settled)
              ∙ sym (slice_get-first_sectors s n i inside)
          | inr out ↦
              slice_get_past (first_sectors t m) i (omega (arith, after, same, out))
              ∙ sym (slice_get_past (first_sectors s n) i (omega (arith, before, out)))
        ];
      }

  -- where none is loose the disk is the same
  pub flat-settled : (images : List ImageName) → AreLike images → ((i : ℕ) → is_loose_in seed loose images i ≡ false)
      → flat_down (links_in seed b images) ≡ flat_down (links_in seed a images)
  flat-settled images like settled =
      first_sectors-same (sector_down (links_in seed b images)) (sector_down (links_in seed a images)) (count_down (links_in seed b images))
      (λ i lt. sectors-like images like i (settled i))
      ∙ ap (first_sectors (sector_down (links_in seed a images))) (count-like images like)

-- ---- the images of a library

-- each listed image's file is as a crash may leave it
abbrev pub AreLikeImages : NamedLibrary → (Name → ℕ → Bool) → Files → Files → Type 0
AreLikeImages l loose a b = (image : ImageName) → HasImage l image → IsLikeImage loose a b (image_file l.seed image)

-- the sectors of an image's disk that may differ
abbrev pub loose_through : NamedLibrary → (Name → ℕ → Bool) → ImageName → ℕ → Bool
loose_through l loose image i = is_loose_in l.seed loose (chain_of l.inners image) i

module _ (l : NamedLibrary) (is : IsLibrary l) (loose : Name → ℕ → Bool) (a b : Files) (like : AreLikeImages l loose a b) (image : ImageName)
    (listed : HasImage l image) where
  chain-like : AreLike l.seed loose a b (chain_of l.inners image)
  chain-like = All-map (HasImage l) _ like (chain_of l.inners image)
      (images_down-all (HasImage l) (reverse l.inners) image (All-map _ _ (λ x there listed. there) (reverse l.inners)
      (parents-in l.media l.inner (reverse l.inners) is.inners)) listed)

  pub disk-like : IsLikeFlat (loose_through l loose image) (disk_by l a image) (disk_by l b image)
  unfolding disk_by
  disk-like = flat-like l.seed loose a b (chain_of l.inners image) chain-like

  pub disk-settled : ((i : ℕ) → loose_through l loose image i ≡ false) → disk_by l b image ≡ disk_by l a image
  unfolding disk_by
  disk-settled settled = flat-settled l.seed loose a b (chain_of l.inners image) chain-like settled

  -- where the file of one name alone is loose, so are these sectors alone, through any chain
  pub disk-like-one : (name : Name) → ((other : Name) (i : ℕ) → bytes_eq other name ≡ false → loose other i ≡ false)
      → IsLikeFlat (loose name) (disk_by l a image) (disk_by l b image)
  disk-like-one name only = like-weaker (loose_through l loose image) (loose name) _ _
      (λ i settled. any_none _ (chain_of l.inners image) (All-every _ (λ other.
      elim (cases_Bool (bytes_eq (image_file l.seed other) name)) [
        | inl here ↦ ap (λ n. loose n i) ((bytes_eq-Decides (image_file l.seed other) name).0 here) ∙ settled
        | inr apart ↦ only (image_file l.seed other) i apart
      ]) (chain_of l.inners image))) disk-like

  -- and a chain that does not go through it has the same disk
  pub disk-apart : (name : Name) → ((other : Name) (i : ℕ) → bytes_eq other name ≡ false → loose other i ≡ false)
      → AllByRecursion (λ other. bytes_eq (image_file l.seed other) name ≡ false) (chain_of l.inners image) → disk_by l b image ≡ disk_by l a image
  disk-apart name only apart =
      disk-settled (λ i. any_none _ (chain_of l.inners image)
      (All-map _ _ (λ other e. only (image_file l.seed other) i e) (chain_of l.inners image) apart))
