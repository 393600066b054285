-- Disks are as large as their media.
use Rattle.std.proofs.Common.{◌≡◌, ℕ, ◌*◌, ◌/◌, false, List, [], ◌∷◌, reverse, length, Some, sym, ap, ◌∙◌, arith, inl, inr, eqb-true}
use Rattle.std.specs.Prelude.{◌==◌}
use Rattle.std.specs.List.{AllByRecursion}
use Rattle.std.proofs.lemmas.Bool.{cases_Bool, and_parts}
use Rattle.vbm_ports.specs.Files.{Files, bytes_of}
use Rattle.vbm_volume.specs.Sectors.{sector_count, flat_of_base}
use Rattle.vbm_volume.specs.Chain.{sector_down, is_linked_to, count_down}
use Rattle.vbm_volume.proofs.Likes.{flat_length, capacity_good, length-first_sectors}
use Rattle.vbm_named.specs.Names.{Name}
use Rattle.vbm_world.specs.Refusals.{is_bad_size}
use Rattle.vbm_registry.specs.declared.media.Medium.{Medium}
use Rattle.vbm_registry.specs.Named.{ImageName, OfMedium, OfInner, NamedInner, NamedLibrary}
use Rattle.vbm_registry.specs.Chains.{parent_down, inner_down, chain_of, medium_below}
use Rattle.vbm_registry.proofs.ListLaws.{All-reverse}
use Rattle.vbm_standing.specs.Headers.{header_in}
use Rattle.vbm_standing.specs.ChainDisks.{inner_file, image_file, links_in, disk_by}
use Rattle.vbm_standing.specs.Faults.{IsMediumFile, IsInnerFile, IsStore}
use Rattle.vbm_standing.specs.EditedFiles.{HasImage}
use Rattle.vbm_standing.proofs.ChainLaws.{images_down-head}
use Rattle.vbm_standing.proofs.Shelves.{good_size}

-- the capacity of an image's file
abbrev capacity_in : (seed : List ℕ) → Files → ImageName → ℕ
capacity_in seed files image = (header_in files (image_file seed image)).capacity

inner-capacity : (seed : List ℕ) (files : Files) (x : NamedInner) → IsInnerFile seed files x
    → capacity_in seed files (OfInner x.number) ≡ capacity_in seed files x.parent
inner-capacity seed files x is =
    let below = header_in files (image_file seed x.parent) in
    let h = header_in files (inner_file seed x.number) in
    eqb-true h.capacity below.capacity (and_parts (is_linked_to below h) (h.capacity == below.capacity) is.linked).1

module _ (seed : List ℕ) (files : Files) (name : Name) where
  parent-capacity : (f : ℕ → List ImageName) (image : ImageName) → medium_below (parent_down f image) ≡ Some name
      → ((n : ℕ) → medium_below (f n) ≡ Some name → capacity_in seed files (OfInner n) ≡ capacity_in seed files (OfMedium name))
      → capacity_in seed files image ≡ capacity_in seed files (OfMedium name)
  parent-capacity f (OfMedium other) is rest = let same : other ≡ name = cc in ap (λ n. capacity_in seed files (OfMedium n)) same
  parent-capacity f (OfInner n) is rest = rest n is

  -- an inner image is as large as the medium below it
  down-capacity : (xs : List NamedInner) → AllByRecursion (IsInnerFile seed files) xs → (n : ℕ) → medium_below (inner_down xs n) ≡ Some name
      → capacity_in seed files (OfInner n) ≡ capacity_in seed files (OfMedium name)
  unfolding inner_down
  down-capacity [] all n is = absurd cc
  down-capacity (x ∷ xs) all n is = elim (cases_Bool (x.number == n)) [
    | inl here ↦
        let number : x.number ≡ n = eqb-true x.number n here in
        ap (λ i. capacity_in seed files (OfInner i)) (sym number) ∙ inner-capacity seed files x all.0
        ∙ parent-capacity (inner_down xs) x.parent (rw here at is) (λ i below. down-capacity xs all.1 i below)
    | inr other ↦ down-capacity xs all.1 n (rw other at is)
  ]

module _ (l : NamedLibrary) (files : Files) (store : IsStore l files) where
  -- a disk has as many sectors as its last file
  disk-length : (image : ImageName) → HasImage l image → length (disk_by l files image) ≡ sector_count (header_in files (image_file l.seed image))
  unfolding disk_by
  disk-length image there =
      let head = images_down-head l.media (reverse l.inners) image there in
      let links = links_in l.seed files (chain_of l.inners image) in
      length-first_sectors (sector_down links) (count_down links) ∙ ap (λ images. count_down (links_in l.seed files images)) head.1

  chain-capacity : (image : ImageName) (name : Name) → medium_below (chain_of l.inners image) ≡ Some name
      → capacity_in l.seed files image ≡ capacity_in l.seed files (OfMedium name)
  chain-capacity image name is = parent-capacity l.seed files name (inner_down (reverse l.inners)) image is
      (λ n below. down-capacity l.seed files name (reverse l.inners) (All-reverse _ l.inners store.inners) n below)

  medium-capacity : (m : Medium) → IsMediumFile l files m
      → ((header_in files m.name).capacity ≡ 512 * sector_count (header_in files m.name)) × (is_bad_size (header_in files m.name).capacity ≡ false)
  medium-capacity m is =
      let good = capacity_good is.image.file (header_in files m.name) is.image.accepted in
      (good.0, good_size (header_in files m.name).capacity good.1 good.2 (omega (arith, good.0)))

  -- a disk over a medium has the medium's capacity
  pub disk-capacity : (m : Medium) → IsMediumFile l files m → (image : ImageName) → HasImage l image
      → medium_below (chain_of l.inners image) ≡ Some m.name → (header_in files m.name).capacity ≡ 512 * length (disk_by l files image)
  disk-capacity m is image there below =
      let same : capacity_in l.seed files image ≡ (header_in files m.name).capacity = chain-capacity image m.name below in
      let good = medium-capacity m is in
      let long = disk-length image there in
      good.0 ∙ ap (λ c. 512 * (c / 512)) (sym same) ∙ ap (λ n. 512 * n) (sym long)

  pub medium-flat : (m : Medium) → IsMediumFile l files m
      → (header_in files m.name).capacity ≡ 512 * length (flat_of_base (bytes_of (files m.name)) (header_in files m.name))
  medium-flat m is = (medium-capacity m is).0 ∙ ap (λ n. 512 * n) (sym (flat_length (bytes_of (files m.name)) (header_in files m.name)))

  pub medium-size : (m : Medium) → IsMediumFile l files m → is_bad_size (header_in files m.name).capacity ≡ false
  medium-size m is = (medium-capacity m is).1
