-- Answers to questions.
use Rattle.std.proofs.Common.{◌≡◌, ℕ, Bool, false, List, [], ◌∷◌, ◌++◌, ◌+◌, map, take, Option, Some, None, refl, sym, ap, ◌∙◌}
use Rattle.std.specs.Option.{option_map}
use Rattle.std.specs.Str.{bytes_eq}
use Rattle.std.proofs.lemmas.Bool.{cond_both}
use Rattle.std.specs.List.{AllByRecursion, slice_get}
use Rattle.std.proofs.lemmas.List.{map-append, take_more}
use Rattle.std.proofs.lemmas.Option.{get_or_from_slice_get, slice_get_within}
use Rattle.vbm_ports.specs.Files.{Files}
use Rattle.vbm_header.specs.declared.Header.{Header}
use Rattle.vbm_image.specs.declared.image.Image.{Image}
use Rattle.vbm_image.specs.Image.{image_name}
use Rattle.vbm_machines.specs.Renumbering.{itself}
use Rattle.vbm_registry.specs.declared.media.Medium.{Medium}
use Rattle.vbm_registry.specs.Library.{medium_entry_name}
use Rattle.vbm_registry.specs.Chains.{merging_into}
use Rattle.vbm_registry.specs.Named.{OfMedium, NamedLibrary, medium_names, merging_named, named}
use Rattle.vbm_registry.proofs.ListLaws.{All-from_map}
use Rattle.vbm_standing.specs.Headers.{header_in, variant_of}
use Rattle.vbm_standing.specs.Meaning.{is_frozen_in, modify_at_end, medium_in, world_of}
use Rattle.vbm_standing.proofs.WorldParts.{frozen-same, medium_of-world}
use Rattle.vbm_named.specs.Names.{Name, find_by}
use Rattle.vbm_world.specs.World.{World, medium_name, medium_of, is_frozen}
use Rattle.vbm_world.specs.Step.{step_of}
use Rattle.vbm_world.specs.Loose.{Unsettled, unsettled_after, is_refused}
use Rattle.vbm_world.specs.declared.command.Answer.TheVariants.{Info, MediaList, Refused}
use Rattle.vbm_world.specs.declared.command.Command.TheVariants.{ShowMediumInfo, ListHdds}
use Rattle.vbm_world.specs.declared.command.Refusal.TheVariants.{NoSuchMedium}
use Rattle.vbm_named.proofs.Lists.{same_name, find_named, others-none, none-others, find_map}
use Rattle.vbm_store.specs.declared.store.Store.{Store}
use Rattle.vbm_store.specs.Serves.{serves, changed_of, running_of, Head, head_name, head_of, head_in, image_files, IsSoundStore, Holds}
use Rattle.vbm_store.specs.Steps.{Answers}
use Rattle.vbm_store.proofs.Turning.{quiet_if_written}

-- an asking command leaves what is unsettled as it was
asks : (u : Unsettled) (w : World) (name : Name) → unsettled_after u w (ShowMediumInfo name) ≡ u
asks u w name = cond_both (is_refused (step_of w (ShowMediumInfo name) 0).0) u u (λ v. v ≡ u) (λ t. refl) (λ f. refl)

none_mapped : {X Y : Type 0} (f : X → Y) (o : Option X) → option_map f o ≡ None → o ≡ None
none_mapped f None e = refl
none_mapped f (Some x) e = absurd cc

some_mapped : {X Y : Type 0} (f : X → Y) (o : Option X) (y : Y) → option_map f o ≡ Some y → (x : X) × (o ≡ Some x) × (f x ≡ y)
some_mapped f None y e = absurd cc
some_mapped f (Some x) y e = (x, refl, cc)

All-first : {X : Type 0} (P : X → Type 0) (xs ys : List X) → AllByRecursion P (xs ++ ys) → AllByRecursion P xs
All-first P [] ys all = tt
All-first P (x ∷ xs) ys all = (all.0, All-first P xs ys all.1)

module _ (e : Store) (files : Files) (name : Name) where
  find_head : Holds e.library e.images files → option_map head_of (find_by image_name name e.images)
      ≡ option_map (head_in files) (find_by itself name (image_files (named e.library)))
  find_head holds =
      sym (find_map head_of image_name head_name (λ x. refl) name e.images)
      ∙ ap (find_by head_name name) holds.headers
      ∙ find_map (head_in files) itself head_name (λ n. refl) name (image_files (named e.library))

  -- no image of the name, no medium of it
  pub no_medium : Holds e.library e.images files → find_by image_name name e.images ≡ None → find_by medium_entry_name name e.library.media ≡ None
  no_medium holds none =
      let others = others-none itself name (image_files (named e.library))
      (none_mapped (head_in files) _ (sym (find_head holds) ∙ ap (option_map head_of) none)) in
      none-others medium_entry_name name e.library.media
      (All-from_map medium_entry_name (λ n. bytes_eq n name ≡ false) e.library.media (All-first _ (map medium_entry_name e.library.media) _ others))

  -- the image of a name has the head of its file
  pub image_found : Holds e.library e.images files → (image : Image) → find_by image_name name e.images ≡ Some image → head_of image ≡ head_in files name
  image_found holds image there =
      let of = some_mapped (head_in files) (find_by itself name (image_files (named e.library))) (head_of image)
      (sym (find_head holds) ∙ ap (option_map head_of) there) in
      sym of.2 ∙ ap (head_in files) (same_name of.0 name (find_named itself name of.0 (image_files (named e.library)) of.1))

  pub shows_none : find_by medium_entry_name name e.library.media ≡ None → Answers files e (ShowMediumInfo name) (Refused NoSuchMedium)
  shows_none none =
      (rw (medium_of-world (changed_of e) (running_of e) (named e.library) files name, none) refl, λ u. asks u (serves e files) name)

  pub shows : (m : Medium) (image : Image) → IsSoundStore e → Holds e.library e.images files → find_by medium_entry_name name e.library.media ≡ Some m
      → find_by image_name name e.images ≡ Some image
      → Answers files e (ShowMediumInfo name) (Info image.header.id image.header.modify m.mode (variant_of image.header.image_type)
      image.header.capacity (is_frozen_in (named e.library).machines m))
  unfolding world_of medium_in
  shows m image sound holds is there =
      let l = named e.library in
      let v = medium_in (changed_of e) l files m in
      let found : medium_of (serves e files) name ≡ Some v =
      medium_of-world (changed_of e) (running_of e) l files name ∙ ap (option_map (medium_in (changed_of e) l files)) is in
      let named_so : name ≡ m.name = sym (same_name m.name name (find_named medium_entry_name name m e.library.media is)) in
      let header : image.header ≡ header_in files m.name =
      ap (λ (head : Head). head.header) (image_found holds image there) ∙ ap (header_in files) named_so in
      let quiet = quiet_if_written e.library sound.library in
      let unmerged : l.merging ≡ [] = ap (map (merging_named (medium_names e.library.media))) quiet.merging in
      let modify : image.header.modify ≡ v.modify =
      ap (λ (h : Header). h.modify) header ∙ sym (ap (λ js. modify_at_end l.seed (header_in files m.name) (merging_into (OfMedium m.name) js)) unmerged) in
      let frozen : is_frozen_in l.machines m ≡ is_frozen (serves e files).machines v = sym (frozen-same (running_of e) l files l.machines m v refl refl) in (
        rw found (λ i. (Info (header i).id (modify i) m.mode (variant_of (header i).image_type) (header i).capacity (frozen i), serves e files)),
        λ u. asks u (serves e files) name,
      )

-- one name more
pub names_more : (ms : List Medium) (i : ℕ) (m : Medium) (names : List Name) (name : Name) → names ≡ map medium_entry_name (take i ms)
    → slice_get ms i ≡ Some m → name ≡ m.name → names ++ name ∷ [] ≡ map medium_entry_name (take (i + 1) ms)
names_more ms i m names name is there same =
    let more = take_more ms i m (slice_get_within ms i m there) ∙ ap (λ x. take i ms ++ x ∷ []) (get_or_from_slice_get ms i m m there) in
    rw (is, same) (sym (ap (map medium_entry_name) more ∙ map-append medium_entry_name (take i ms) (m ∷ [])))

names_listed : (changed : Name → Bool) (l : NamedLibrary) (files : Files) (ms : List Medium)
    → map medium_name (map (medium_in changed l files) ms) ≡ map medium_entry_name ms
unfolding medium_in
names_listed changed l files [] = refl
names_listed changed l files (m ∷ ms) = ap (λ ns. m.name ∷ ns) (names_listed changed l files ms)

pub lists : (e : Store) (files : Files) (names : List Name) → names ≡ map medium_entry_name e.library.media
    → Answers files e ListHdds (MediaList names)
unfolding world_of
lists e files names is = (
  ap (λ (ns : List Name). (MediaList ns, serves e files)) (is ∙ sym (names_listed (changed_of e) (named e.library) files e.library.media)),
  λ u. refl,
)
