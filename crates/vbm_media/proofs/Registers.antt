-- Opening a medium.
use Rattle.std.proofs.Common.{◌≡◌, ℕ, ◌<◌, Bool, true, false, List, [], map, length, Option, Some, None, Result, Ok, Err, refl, sym, ap, subst, ◌∙◌, arith, cond, is_some, IsTrue}
use Rattle.std.specs.Prelude.{nat_le}
use Rattle.std.specs.List.{list_any}
use Rattle.std.specs.Option.{option_map}
use Rattle.std.specs.Str.{bytes_eq}
use Rattle.std.proofs.lemmas.Bool.{leb-false}
use Rattle.std.proofs.lemmas.List.{length-map}
use Rattle.vbm_ports.specs.Files.{Files}
use Rattle.vbm_ports.specs.Names.{is_medium_name}
use Rattle.vbm_header.specs.declared.BadImage.{BadImage}
use Rattle.vbm_header.specs.declared.Header.{Header}
use Rattle.vbm_header.specs.Header.{is_differencing, condition_number}
use Rattle.vbm_image.specs.declared.image.Image.{Image}
use Rattle.vbm_image.specs.declared.opening.OpenFault.{OpenFault}
use Rattle.vbm_image.specs.declared.opening.OpenFault.TheVariants as faults
use Rattle.vbm_image.specs.Image.{image_name, image_id}
use Rattle.vbm_image.specs.Opened.{IsOpenedFrom}
use Rattle.vbm_volume.specs.Image.{image_of}
use Rattle.vbm_intent.specs.declared.change.Change.{Change}
use Rattle.vbm_intent.specs.declared.log.Log.{Log}
use Rattle.vbm_intent.specs.Changes.{changed}
use Rattle.vbm_registry.specs.declared.media.Medium.{Medium}
use Rattle.vbm_registry.specs.declared.library.Library.{Library}
use Rattle.vbm_registry.specs.Library.{library_name, medium_entry_name}
use Rattle.vbm_registry.specs.Named.{NamedLibrary, named as library_named}
use Rattle.vbm_registry.specs.Renumbered.{with_medium_entry}
use Rattle.vbm_standing.specs.ChainDisks.{inner_file}
use Rattle.vbm_standing.specs.Headers.{header_in, shelved_file, shelved_image}
use Rattle.vbm_standing.specs.Meaning.{medium_in, world_of}
use Rattle.vbm_standing.specs.Faults.{id_in}
use Rattle.vbm_standing.proofs.HeaderFacts.{header_of_file}
use Rattle.vbm_standing.proofs.InnerFileNames.{inner_named_so}
use Rattle.vbm_standing.proofs.MediaWorlds.{SameOthers}
use Rattle.vbm_standing.proofs.Stores.{own_of_file}
use Rattle.vbm_standing.proofs.WorldLookups.{is_medium-world, has_id-world, is_on_shelf}
use Rattle.vbm_standing.proofs.Worlds.{shelved_of_file}
use Rattle.vbm_named.specs.Names.{Name, find_by, has_name, put_by}
use Rattle.vbm_world.specs.World.{World, medium_id}
use Rattle.vbm_ids.specs.Identifier.{is_foreign, has_id}
use Rattle.vbm_world.specs.declared.limits.TheConstants.{MEDIA_LIMIT}
use Rattle.vbm_world.specs.Refusals.{first_refusal, is_full}
use Rattle.vbm_world.specs.Media.{file_checks, opened}
use Rattle.vbm_world.specs.Outcomes.{Outcome, refused_or}
use Rattle.vbm_world.specs.Step.{step_of}
use Rattle.vbm_world.specs.Loose.{all_settled, is_refused}
use Rattle.vbm_world.specs.declared.command.Answer.TheVariants.{Id, Refused}
use Rattle.vbm_world.specs.declared.command.Command.TheVariants.{OpenMedium}
use Rattle.vbm_world.specs.declared.command.Refusal.{Refusal}
use Rattle.vbm_world.specs.declared.command.Refusal.TheVariants.{NameTaken, NoSuchFile, NotAnImage}
use Rattle.vbm_named.proofs.Lists.{All-every, has_found, any_map}
use Rattle.vbm_store.specs.declared.store.Store.{Store}
use Rattle.vbm_store.specs.declared.images.Edit.TheVariants.{Put}
use Rattle.vbm_store.specs.Edits.{IsNewImage, store_after}
use Rattle.vbm_media.specs.Creates.{new_entry}
use Rattle.vbm_store.specs.Images.{IsRead}
use Rattle.vbm_store.specs.Plans.{library_changes}
use Rattle.vbm_media.specs.Registers.{image_checks, undone_by}
use Rattle.vbm_store.specs.Serves.{serves, changed_of, running_of, Head, head_of, head_in, image_files, media_images, IsWritable, IsSoundStore, Holds}
use Rattle.vbm_store.specs.Kept.{KeepsBytes}
use Rattle.vbm_store.specs.Steps.{Manages, Answers, Refuses}
use Rattle.vbm_store.proofs.Edits.{sound_after}
use Rattle.vbm_store.proofs.Keeping.{kept_images}
use Rattle.vbm_store.proofs.Listing.{media_first}
use Rattle.vbm_store.proofs.Turning.{quiet_if_written, manages}
use Rattle.vbm_store.proofs.Decisions.{medium_not_library, inner_not_library, image_not_library, kept_or}
use Rattle.vbm_store.proofs.Planned.{library_frame, library_fits}
use Rattle.vbm_store.proofs.PutMedia.{IsComing, put_writable, put_images, put_holds, put_serves}
use Rattle.vbm_store.proofs.Reading.{read_of}
use Rattle.vbm_media.proofs.Creating.{unmade}

passes : (b : Bool) (refusal : Refusal) (o : Option Refusal) → cond b (Some refusal) o ≡ None → (b ≡ false) × (o ≡ None)
passes true refusal o e = absurd cc
passes false refusal o e = (refl, e)

-- an image that no check refuses
record IsWelcome (l : Library) (images : List Image) (h : Header) : Type 0 where
  new : has_id image_id h.id images ≡ false
  known : is_foreign l.seed l.next h.id ≡ false
  room : length l.media < MEDIA_LIMIT
  whole : is_differencing h.image_type ≡ false

welcome : (l : Library) (images : List Image) (h : Header) → first_refusal (image_checks l images h) ≡ None → IsWelcome l images h
welcome l images h allowed =
    let new = passes (has_id image_id h.id images) _ _ allowed in
    let known = passes (is_foreign l.seed l.next h.id) _ _ new.1 in
    let room = passes (nat_le MEDIA_LIMIT (length l.media)) _ _ known.1 in
    let whole = passes (is_differencing h.image_type) _ _ room.1 in
    record { new = new.0; known = known.0; room = leb-false MEDIA_LIMIT (length l.media) room.0; whole = whole.0 }

-- a file that is read
record IsFile (files : Files) (name : Name) (read : Result Header BadImage) : Type 0 where
  file : List ℕ
  there : files name ≡ Some file
  is : image_of file ≡ read

file_read : (files : Files) (name : Name) (read : Result Header BadImage) (o : Option (List ℕ))
    → files name ≡ o → IsRead o read → IsFile files name read
file_read files name read None there is = absurd is
file_read files name read (Some f) there is = record { file = f; there = there; is = is }

-- a command that refuses
refuses : (e : Store) (files : Files) (name : Name) (refusal : Refusal)
    → (Refused refusal, serves e files) ≡ step_of (serves e files) (OpenMedium name) 0
    → Answers files e (OpenMedium name) (Refused refusal)
refuses e files name refusal by = (by, λ u. ap (λ (o : Outcome). cond (is_refused o.0) u all_settled) (sym by))

pub opens_taken : (e : Store) (files : Files) (name : Name) (m : Medium) → find_by medium_entry_name name e.library.media ≡ Some m
    → Answers files e (OpenMedium name) (Refused NameTaken)
opens_taken e files name m is = refuses e files name NameTaken (rw (is_medium-world (changed_of e) (running_of e) (library_named e.library) files name
    ∙ has_found medium_entry_name name e.library.media ∙ ap is_some is) refl)

-- the library with the medium of an image
abbrev library_opened : Library → Name → Library
library_opened l name = with_medium_entry l (new_entry name)

pub images_more : (e : Store) (image : Image) (name : Name) → image.name ≡ name → IsSoundStore e → IsTrue (is_medium_name name)
    → map image_name (put_by image_name image e.images) ≡ image_files (library_named (library_opened e.library name))
images_more e image name called sound named =
    put_images e.library (new_entry name) e.library.next named image e.images called sound.images

pub library_more : (e : Store) (h : Header) (name : Name) → first_refusal (image_checks e.library (media_images e) h) ≡ None → IsWritable e.library
    → IsTrue (is_medium_name name) → has_name medium_entry_name name e.library.media ≡ false → IsWritable (library_opened e.library name)
library_more e h name allowed lib named free =
    put_writable e.library (new_entry name) e.library.next lib (quiet_if_written e.library lib).making free named refl
    (welcome e.library (media_images e) h allowed).room (omega arith) lib.rules.next

module _ (e : Store) (files : Files) (name : Name) (holds : Holds e.library e.images files) (sound : IsSoundStore e)
    (named : IsTrue (is_medium_name name)) (free : has_name medium_entry_name name e.library.media ≡ false) where
  abbrev l : NamedLibrary
  l = library_named e.library

  opens : step_of (serves e files) (OpenMedium name) 0 ≡ (let shelved = option_map shelved_file (files name) in
      refused_or (serves e files) (first_refusal (file_checks (serves e files) shelved)) (opened (serves e files) name shelved))
  unfolding world_of
  opens = rw (
    is_medium-world (changed_of e) (running_of e) l files name ∙ free,
    is_on_shelf l files name named free (unmade e.library name sound.library),
  ) refl

  pub opens_missing : files name ≡ None → Answers files e (OpenMedium name) (Refused NoSuchFile)
  opens_missing none = refuses e files name NoSuchFile (sym (opens ∙ rw none refl))

  pub opens_bad : (bad : BadImage) → IsRead (files name) (Err bad)
      → Answers files e (OpenMedium name) (Refused (NotAnImage (condition_number bad)))
  opens_bad bad read =
      let f = file_read files name (Err bad) (files name) refl read in
      refuses e files name (NotAnImage (condition_number bad)) (sym (opens ∙ rw (f.there, shelved_of_file f.file (Err bad) f.is) refl))

  -- a file that is not opened
  pub not_opened : (fault : OpenFault) → IsOpenedFrom (files name) (Err fault) → Refuses files e (OpenMedium name) (undone_by fault)
  not_opened faults.Missing none = opens_missing none
  not_opened (faults.Bad bad) says = opens_bad bad (read_of (files name) (Err bad) says)
  not_opened faults.Failed told = tt
  not_opened faults.NoMemory told = tt

  has_id_here : (id : List ℕ) → has_id medium_id id (serves e files).media ≡ has_id image_id id (media_images e)
  has_id_here id =
      has_id-world (changed_of e) (running_of e) l files id
      ∙ sym (sym (any_map head_of (λ (head : Head). bytes_eq head.header.id id) (media_images e))
      ∙ ap (list_any (λ (head : Head). bytes_eq head.header.id id)) (media_first e files holds)
      ∙ any_map (head_in files) (λ (head : Head). bytes_eq head.header.id id) (map medium_entry_name e.library.media)
      ∙ any_map medium_entry_name (λ n. bytes_eq (header_in files n).id id) e.library.media)

  full_here : is_full (serves e files) ≡ nat_le MEDIA_LIMIT (length e.library.media)
  unfolding world_of
  full_here = ap (nat_le MEDIA_LIMIT) (length-map e.library.media (medium_in (changed_of e) l files))

  module _ (image : Image) (read : IsRead (files name) (Ok image.header)) where
    abbrev h : Header
    h = image.header

    f : IsFile files name (Ok h)
    f = file_read files name (Ok h) (files name) refl read

    checks : (d : Bool) → is_differencing h.image_type ≡ d
        → first_refusal (file_checks (serves e files) (Some (shelved_image f.file (Ok h)))) ≡ first_refusal (image_checks e.library (media_images e) h)
    unfolding world_of
    checks true is = rw (is, has_id_here h.id, full_here) refl
    checks false is = rw (is, has_id_here h.id, full_here) refl

    opens_image : step_of (serves e files) (OpenMedium name) 0
        ≡ refused_or (serves e files) (first_refusal (image_checks e.library (media_images e) h))
        (opened (serves e files) name (Some (shelved_image f.file (Ok h))))
    opens_image = opens ∙ rw (f.there, shelved_of_file f.file (Ok h) f.is, checks (is_differencing h.image_type) refl) refl

    pub opens_refused : (refusal : Refusal) → first_refusal (image_checks e.library (media_images e) h) ≡ Some refusal
        → Answers files e (OpenMedium name) (Refused refusal)
    opens_refused refusal is = refuses e files name refusal (sym (opens_image ∙ rw is refl))

    module _ (called : image.name ≡ name) (new : IsNewImage image)
        (allowed : first_refusal (image_checks e.library (media_images e) h) ≡ None) where
      is_welcome : IsWelcome e.library (media_images e) h
      is_welcome = welcome e.library (media_images e) h allowed

      abbrev more : Library
      more = library_opened e.library name

      abbrev now : Files
      now = changed (library_changes more) files

      frame : (n : Name) → bytes_eq library_name n ≡ false → now n ≡ files n
      frame n other = library_frame [] more files n other

      others : SameOthers l name files now
      others = record {
        media = λ n is differs. frame n (medium_not_library n is);
        inners = All-every _
            (λ x. frame (inner_file l.seed x.number) (inner_not_library (inner_file l.seed x.number) (inner_named_so l.seed x.number))) l.inners;
      }

      here : now name ≡ Some f.file
      here = frame name (medium_not_library name named) ∙ f.there

      header : header_in now name ≡ h
      header = header_of_file now name f.file h here f.is

      coming : IsComing e (new_entry name) e.library.next image files now f.file
      coming = record {
        library = library_more e h name allowed sound.library named free;
        new = free;
        named_so = named;
        others = others;
        grows = omega arith;
        same = called;
        there = here;
        accepted = f.is;
        file = own_of_file l now (new_entry name) f.file h here f.is is_welcome.whole is_welcome.known;
        own = ap (λ (x : Header). list_any (λ (n : Medium). bytes_eq (id_in files n) x.id) l.media) header
            ∙ sym (has_id-world (changed_of e) (running_of e) l files h.id) ∙ has_id_here h.id ∙ is_welcome.new;
      }

      more_by : (log : Log) → (Id h.id, serves (store_after e more (Put image) log) now) ≡ step_of (serves e files) (OpenMedium name) 0
      unfolding world_of
      more_by log = rw (opens_image, allowed, is_welcome.whole) (ap (λ (v : World). (Id h.id, v))
          (put_serves e (new_entry name) e.library.next image files now f.file sound.library.rules coming header log))

      opens_more : (log : Log) → Manages files e (OpenMedium name) (library_changes more) (store_after e more (Put image) log) (Id h.id)
      opens_more log = manages files e (OpenMedium name) (library_changes more) (store_after e more (Put image) log) (Id h.id)
          (sound_after e more (Put image) log sound (library_more e h name allowed sound.library named free)
          (images_more e image name called sound named) new)
          (library_fits [] more files refl (λ n. tt))
          (put_holds e (new_entry name) e.library.next image files now f.file sound.library.rules coming header [] files refl refl holds)
          (more_by log)
          (kept_images e.library more files now sound.library.rules
          (λ n is. subst (KeepsBytes (files n)) (sym (frame n (image_not_library n is))) (kept_or (files n) false)))
          (λ n inner unlisted none. frame n (inner_not_library n inner) ∙ none)

      pub registers : (k : Library) (changes : List Change) → k ≡ more → changes ≡ library_changes more
          → (log : Log) → Manages files e (OpenMedium name) changes (store_after e k (Put image) log) (Id h.id)
      registers k changes k_is changes_are log = rw (k_is, changes_are) (opens_more log)
