-- The images of a store, as its library lists them.
use Rattle.std.proofs.Common.{◌≡◌, ◌≤◌, map, take, length, length-append, sym, ap, ◌∙◌, arith}
use Rattle.std.proofs.Math.Seq.{take-append_seam}
use Rattle.std.proofs.lemmas.List.{length-map, map-append, take-map}
use Rattle.vbm_ports.specs.Files.{Files}
use Rattle.vbm_image.specs.Image.{image_name}
use Rattle.vbm_registry.specs.Library.{medium_entry_name}
use Rattle.vbm_registry.specs.Named.{NamedInner, named}
use Rattle.vbm_standing.specs.ChainDisks.{inner_file}
use Rattle.vbm_store.specs.declared.store.Store.{Store}
use Rattle.vbm_store.specs.Serves.{head_of, head_in, media_images, IsSoundStore, Holds}

-- there is an image for each medium
pub enough_images : (e : Store) → IsSoundStore e → length e.library.media ≤ length e.images
enough_images e sound =
    let media = map medium_entry_name e.library.media in
    let inners = map (λ (x : NamedInner). inner_file e.library.seed x.number) (named e.library).inners in
    omega (arith, length-map e.images image_name, ap length sound.images, length-append media inners, length-map e.library.media medium_entry_name)

-- the first images are those of the media
pub media_first : (e : Store) (files : Files) → Holds e.library e.images files
    → map head_of (media_images e) ≡ map (head_in files) (map medium_entry_name e.library.media)
media_first e files holds =
    let media = map medium_entry_name e.library.media in
    let inners = map (λ (x : NamedInner). inner_file e.library.seed x.number) (named e.library).inners in
    let count : length e.library.media ≡ length (map (head_in files) media) =
    sym (length-map media (head_in files) ∙ length-map e.library.media medium_entry_name) in
    sym (take-map head_of (length e.library.media) e.images)
    ∙ (λ i. take (count i) (holds.headers i))
    ∙ ap (take (length (map (head_in files) media))) (map-append (head_in files) media inners)
    ∙ take-append_seam (map (head_in files) media) (map (head_in files) inners)
