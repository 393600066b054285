-- The files of a chain as settled: told from the last image down, with nothing staged, and their headers.
use Rattle.std.proofs.Common.{◌≡◌, ℕ, List, [], ◌∷◌, ◌++◌, map, reverse, slice_get, Option, Some, None, refl, sym, ap, ◌∙◌}
use Rattle.std.proofs.lemmas.List.{reverse-append, map-append}
use Rattle.std.proofs.lemmas.List.Elements.{filter_map-append}
use Rattle.vbm_ports.specs.Files.{Files}
use Rattle.vbm_volume.specs.Chain.{Link, headers_of}
use Rattle.vbm_image.specs.declared.image.Image.{Image}
use Rattle.vbm_image.specs.Image.{file_in}
use Rattle.vbm_image.specs.Settling.{settled}
use Rattle.vbm_chain.specs.Settled.{chain_images, settled_link, settled_links}

links-append : (files : Files) (images : List Image) (a b : List ℕ)
    → settled_links files images (a ++ b) ≡ settled_links files images a ++ settled_links files images b
links-append files images a b =
    ap (map (λ image. settled_link files image)) (filter_map-append (λ k. slice_get images k) a b)
    ∙ map-append (λ image. settled_link files image) (chain_images images a) (chain_images images b)

link-one : (files : Files) (images : List Image) (k : ℕ) → reverse (settled_links files images (k ∷ [])) ≡ settled_links files images (k ∷ [])
link-one files images k = by (slice_get images k) refl where
  by : (o : Option Image) → slice_get images k ≡ o → reverse (settled_links files images (k ∷ [])) ≡ settled_links files images (k ∷ [])
  by None is = rw is refl
  by (Some image) is = rw is refl

-- a chain, base first or last image first
pub links-reverse : (files : Files) (images : List Image) (chain : List ℕ)
    → reverse (settled_links files images chain) ≡ settled_links files images (reverse chain)
links-reverse files images [] = refl
links-reverse files images (k ∷ chain) =
    ap reverse (links-append files images (k ∷ []) chain)
    ∙ reverse-append (settled_links files images (k ∷ [])) (settled_links files images chain)
    ∙ ap (λ (links : List Link). links ++ reverse (settled_links files images (k ∷ []))) (links-reverse files images chain)
    ∙ ap (λ (links : List Link). settled_links files images (reverse chain) ++ links) (link-one files images k)
    ∙ sym (links-append files images (reverse chain) (k ∷ []))
    ∙ ap (settled_links files images) (sym (reverse-append (k ∷ []) chain))

-- an image of which nothing is staged
pub fresh_link : (files : Files) (image : Image) → image.pending.staged ≡ [] → settled_link files image ≡ (file_in files image, image.header)
unfolding settled
fresh_link files image none = rw none refl

headers_of_links : (files : Files) (images : List Image)
    → headers_of (map (λ image. settled_link files image) images) ≡ map (λ image. image.header) images
headers_of_links files [] = refl
headers_of_links files (image ∷ images) = ap (λ headers. image.header ∷ headers) (headers_of_links files images)

-- the headers of a chain
pub settled_headers : (files : Files) (images : List Image) (chain : List ℕ)
    → headers_of (settled_links files images chain) ≡ map (λ image. image.header) (chain_images images chain)
settled_headers files images chain = headers_of_links files (chain_images images chain)
