-- Making a medium.
use Rattle.std.proofs.Common.{◌≡◌, ℕ, ◌+◌, Bool, true, false, List, [], ◌∷◌, ◌++◌, map, length, Option, Some, None, Ok, refl, sym, ap, subst, ◌∙◌, arith, is_some, IsTrue, inl, inr, bytes_eq, option_copied, Bor}
use Rattle.std.specs.Prelude.{nat_le}
use Rattle.std.specs.Option.{option_map}
use Rattle.std.proofs.lemmas.Bool.{and_parts, cases_Bool, false_from_ne_true, eqb-true}
use Rattle.std.proofs.lemmas.List.{length-map}
use Rattle.std.proofs.lemmas.Slice.Eq.{bytes_eq-Decides}
use Rattle.vbm_ports.specs.Files.{Files}
use Rattle.vbm_ports.specs.Names.{is_name_character, is_medium_name, is_inner_name}
use Rattle.vbm_header.specs.declared.Header.{Header}
use Rattle.vbm_header.specs.Header.{is_differencing}
use Rattle.vbm_image.specs.declared.image.Image.{Image}
use Rattle.vbm_image.specs.Image.{image_name}
use Rattle.vbm_image.specs.Opened.{IsFresh}
use Rattle.vbm_volume.specs.Image.{image_of, IsSoundHeader}
use Rattle.vbm_volume.specs.Made.{IsNewHeader, made_image}
use Rattle.vbm_volume.specs.declared.flat.Variant.TheVariants.{Standard}
use Rattle.vbm_volume.proofs.NewHeaders.{new_laid_out, enough as has_room}
use Rattle.vbm_volume.proofs.NewImages.{made_accepted, made_flat}
use Rattle.vbm_ids.specs.declared.Kind.TheVariants as kinds
use Rattle.vbm_ids.specs.declared.TheConstants.{NUMBER_LIMIT}
use Rattle.vbm_ids.specs.Identifier.{identifier_of, is_foreign}
use Rattle.vbm_intent.specs.declared.change.Change.{Change}
use Rattle.vbm_intent.specs.declared.log.Log.{Log}
use Rattle.vbm_intent.specs.Changes.{of_file, changed}
use Rattle.vbm_world.specs.declared.command.Command.TheVariants.{CreateMedium}
use Rattle.vbm_world.specs.declared.command.Answer.TheVariants.{Id}
use Rattle.vbm_world.specs.declared.command.Size.{Size}
use Rattle.vbm_named.specs.Names.{Name, has_name, put_by}
use Rattle.vbm_world.specs.World.{World, medium_name, zero_disk}
use Rattle.vbm_world.specs.declared.limits.TheConstants.{MEDIA_LIMIT}
use Rattle.vbm_world.specs.Refusals.{capacity_of, is_bad_size, first_refusal}
use Rattle.vbm_world.specs.Media.{create_checks, made_medium}
use Rattle.vbm_world.specs.Outcomes.{Outcome, refused_or}
use Rattle.vbm_world.specs.Step.{step_of}
use Rattle.vbm_named.proofs.Lists.{name_sym, All-every}
use Rattle.vbm_registry.specs.declared.library.Library.{Library}
use Rattle.vbm_registry.specs.Library.{library_name, medium_entry_name}
use Rattle.vbm_registry.specs.Named.{NamedLibrary, named as library_named}
use Rattle.vbm_standing.specs.ChainDisks.{inner_file}
use Rattle.vbm_standing.specs.Headers.{shelved_file, header_in}
use Rattle.vbm_standing.specs.Meaning.{medium_in, is_made, shelf_in, world_of}
use Rattle.vbm_standing.specs.Faults.{id_in}
use Rattle.vbm_standing.proofs.HeaderFacts.{header_of_file}
use Rattle.vbm_standing.proofs.InnerFileNames.{inner_named_so}
use Rattle.vbm_standing.proofs.MediaWorlds.{SameOthers}
use Rattle.vbm_standing.proofs.Stores.{medium_not_log, own_of_file}
use Rattle.vbm_standing.proofs.WorldLookups.{is_medium-world, foreign-new, is_on_shelf}
use Rattle.vbm_standing.proofs.Worlds.{drawn_foreign, drawn_known, with_shelved_none}
use Rattle.vbm_store.specs.declared.store.Store.{Store}
use Rattle.vbm_store.specs.declared.images.Edit.TheVariants.{Put}
use Rattle.vbm_store.specs.Edits.{IsNewImage, store_after}
use Rattle.vbm_store.specs.declared.decision.Turn.{Turn}
use Rattle.vbm_store.specs.Plans.{library_changes, image_changes}
use Rattle.vbm_media.specs.Creates.{first_check, CanCreate, new_entry, library_made as made_library, IsNewMedium, MayCreate, Creates}
use Rattle.vbm_store.specs.Serves.{image_files, serves, changed_of, running_of, IsWritable, IsSoundStore, Holds}
use Rattle.vbm_store.specs.Kept.{KeepsBytes}
use Rattle.vbm_store.specs.Steps.{Manages, Plans, IsSoundTurn}
use Rattle.vbm_store.proofs.Keeping.{kept_images}
use Rattle.vbm_store.proofs.Turning.{quiet_if_written, manages}
use Rattle.vbm_store.proofs.Decisions.{medium_not_library, inner_not_library, image_not_library}
use Rattle.vbm_store.proofs.Edits.{sound_after}
use Rattle.vbm_store.proofs.GoneMedia.{inner_other}
use Rattle.vbm_store.proofs.Planned.{library_frame, library_fits, image_alone, image_made, image_fits, image_frame}
use Rattle.vbm_store.proofs.Pushing.{medium_store}
use Rattle.vbm_store.proofs.PutMedia.{IsComing, put_writable, put_images, put_medium, put_holds, put_serves}

-- ---- names

inner_not_medium : (name : Name) → IsTrue (is_inner_name name) → is_medium_name name ≡ false
unfolding is_medium_name is_inner_name
inner_not_medium [] is = refl
inner_not_medium (x ∷ xs) is = false_from_ne_true _ (λ named.
    let first = and_parts _ _ (and_parts _ _ (and_parts _ _ (and_parts _ _ is).0).0).1 in
    let brace : 123 ≡ x = eqb-true 123 x first.0 in
    let all = and_parts _ _ (and_parts _ _ (and_parts _ _ named).0).1 in
    let no : false ≡ true = ap is_name_character brace ∙ all.0 in
    absurd cc)

-- ---- refusals

pub none_holds : (a b c d e : Bool) → first_check a b c d e ≡ None → (a ≡ false) × (b ≡ false) × (c ≡ false) × (d ≡ false) × (e ≡ false)
none_holds true b c d e none = absurd cc
none_holds false true c d e none = absurd cc
none_holds false false true d e none = absurd cc
none_holds false false false true e none = absurd cc
none_holds false false false false true none = absurd cc
none_holds false false false false false none = (refl, refl, refl, refl, refl)

pub some_map : {X Y : Type 0} (f : X → Y) (o : Option X) → is_some (option_map f o) ≡ is_some o
some_map f None = refl
some_map f (Some x) = refl

pub some_copied : {X : Type 0} (o : Option (Bor X)) → is_some o ≡ is_some (option_copied o)
some_copied None = refl
some_copied (Some x) = refl

same_unless : (a b c d e f : Bool) → (a ≡ false → b ≡ c) → first_check a b d e f ≡ first_check a c d e f
same_unless true b c d e f same = refl
same_unless false b c d e f same = ap (λ x. first_check false x d e f) (same refl)

-- nothing is being made
pub unmade : (l : Library) (name : Name) → IsWritable l → is_made l.making name ≡ false
unmade l name is = ap (λ o. is_made o name) (quiet_if_written l is).making

pub refusal_is : (e : Store) (files : Files) (name : Name) (capacity : ℕ) → IsSoundStore e → IsTrue (is_medium_name name)
    → first_check (has_name medium_entry_name name e.library.media) (is_some (files name)) (is_bad_size capacity)
    (nat_le MEDIA_LIMIT (length e.library.media)) (nat_le NUMBER_LIMIT e.library.next)
    ≡ first_refusal (create_checks (serves e files) name capacity)
unfolding world_of
refusal_is e files name capacity sound named =
    let l = library_named e.library in
    let shelf : has_name medium_entry_name name l.media ≡ false → is_some (files name) ≡ is_some (shelf_in l files name) =
    λ none. sym (ap is_some (is_on_shelf l files name named none (unmade e.library name sound.library)) ∙ some_map shelved_file (files name)) in
    rw (is_medium-world (changed_of e) (running_of e) l files name, length-map l.media (medium_in (changed_of e) l files))
    (same_unless (has_name medium_entry_name name l.media) _ _ _ _ _ shelf)

-- ---- the library and the images

pub made_writable : (l : Library) (name : Name) (capacity : ℕ) → IsWritable l → IsTrue (is_medium_name name) → CanCreate l name capacity
    → IsWritable (made_library l name)
made_writable l name capacity is named can =
    put_writable l (new_entry name) (l.next + 1) is (quiet_if_written l is).making can.new named refl can.room (omega arith) (omega (arith, can.next))

pub made_images : (e : Store) (name : Name) (image : Image) → image.name ≡ name → IsSoundStore e → IsTrue (is_medium_name name)
    → map image_name (put_by image_name image e.images) ≡ image_files (library_named (made_library e.library name))
made_images e name image called sound named =
    put_images e.library (new_entry name) (e.library.next + 1) named image e.images called sound.images

new_sound : (h : Header) → IsNewHeader h → IsSoundHeader h
new_sound h new =
    let laid = new_laid_out h new in
    let sizes = has_room h laid in
    record {
      header_end = omega (arith, new.off_blocks);
      sectors = new.sectors;
      some = new.some;
      most = new.most;
      blocks = sizes.1;
      enough = sizes.0;
      map = omega (arith, new.off_blocks);
      before_data = sizes.2;
      allocated = omega (arith, laid.allocated, sizes.1);
    }

-- a fresh image with a new header comes to the store
fresh_new : (image : Image) → IsTrue (is_medium_name image.name) → IsNewHeader image.header → IsFresh image → IsNewImage image
fresh_new image named new fresh = record {
  form = record {
    name = medium_store image.name named;
    not_log = medium_not_log image.name named;
    header = new_sound image.header new;
    staged = rw fresh.staged (record { once = tt; block = λ b p at. absurd cc; low = λ b p at. absurd cc });
  };
  unstaged = fresh.staged;
}

-- ---- the files and the world

abbrev create_outcome : World → Name → ℕ → Outcome
create_outcome w name capacity = (
  Id (identifier_of w.seed kinds.Medium w.next),
  record w { next = w.next + 1; media = put_by medium_name (made_medium w name capacity Standard) w.media },
)

kept : (o p : Option (List ℕ)) → p ≡ o → KeepsBytes o p
kept None p same = tt
kept (Some f) None same = tt
kept (Some f) (Some g) same = cc

-- a medium that no check refuses, over files that the store fits
module _ (files : Files) (e : Store) (name : Name) (size : Size) (image : Image) (sound : IsSoundStore e) (holds : Holds e.library e.images files)
    (named : IsTrue (is_medium_name name)) (can : CanCreate e.library name (capacity_of size)) (absent : files name ≡ None)
    (called : image.name ≡ name) (medium : IsNewMedium e.library (capacity_of size) image.header) where
  abbrev h : Header
  h = image.header

  abbrev l : NamedLibrary
  l = library_named e.library

  abbrev made : Library
  made = made_library e.library name

  abbrev plan : List Change
  plan = image_changes name h ++ library_changes made

  abbrev now : Files
  now = changed plan files

  alone : of_file library_name (image_changes name h) ≡ []
  alone = image_alone name library_name h (name_sym name library_name ∙ medium_not_library name named)

  file_now : now name ≡ Some (made_image h)
  file_now = library_frame (image_changes name h) made files name (medium_not_library name named) ∙ image_made h medium.new name files medium.dynamic absent

  same_now : (other : Name) → bytes_eq library_name other ≡ false → bytes_eq name other ≡ false → now other ≡ files other
  same_now other not_library apart = library_frame (image_changes name h) made files other not_library ∙ image_frame name other h files apart

  others : SameOthers l name files now
  others = record {
    media = λ other is_name apart. same_now other (medium_not_library other is_name) (name_sym name other ∙ apart);
    inners = All-every _ (λ x. same_now (inner_file l.seed x.number) (inner_not_library (inner_file l.seed x.number) (inner_named_so l.seed x.number))
        (name_sym name (inner_file l.seed x.number) ∙ inner_other name l.seed x.number named)) l.inners;
  }

  accepted_now : image_of (made_image h) ≡ Ok h
  accepted_now = made_accepted h medium.new

  header_now : header_in now name ≡ h
  header_now = header_of_file now name (made_image h) h file_now accepted_now

  new_known : is_foreign l.seed (l.next + 1) h.id ≡ false
  new_known = ap (is_foreign l.seed (l.next + 1)) medium.id ∙ drawn_known l.seed sound.library.rules.seed.long l.next can.next

  new_foreign : is_foreign l.seed l.next (id_in now (new_entry name)) ≡ true
  new_foreign = ap (is_foreign l.seed l.next) (ap (λ (x : Header). x.id) header_now ∙ medium.id)
      ∙ drawn_foreign l.seed sound.library.rules.seed.long l.next can.next

  coming : IsComing e (new_entry name) (l.next + 1) image files now (made_image h)
  coming = record {
    library = made_writable e.library name (capacity_of size) sound.library named can;
    new = can.new;
    named_so = named;
    others = others;
    grows = omega arith;
    same = called;
    there = file_now;
    accepted = accepted_now;
    file = own_of_file (record l { next = l.next + 1 }) now (new_entry name) (made_image h) h file_now accepted_now
        (ap is_differencing medium.dynamic) new_known;
    own = foreign-new l files (id_in now (new_entry name)) holds.store new_foreign;
  }

  medium_now : put_medium e (new_entry name) (l.next + 1) image files now (made_image h) sound.library.rules coming header_now
      ≡ made_medium (serves e files) name (capacity_of size) Standard
  unfolding world_of zero_disk
  medium_now = rw (made_flat h medium.new, medium.dynamic, medium.id, medium.modify, medium.capacity_is) refl

  no_shelf : (serves e files).shelf name ≡ None
  unfolding world_of
  no_shelf = is_on_shelf l files name named can.new (unmade e.library name sound.library) ∙ ap (option_map shelved_file) absent

  world_now : (log : Log) → serves (store_after e made (Put image) log) now ≡ (let w = serves e files in
      record w { next = l.next + 1; media = put_by medium_name (made_medium w name (capacity_of size) Standard) w.media })
  world_now log =
      let w = serves e files in
      put_serves e (new_entry name) (l.next + 1) image files now (made_image h) sound.library.rules coming header_now log
      ∙ (λ i. record w { next = l.next + 1; media = put_by medium_name (medium_now i) w.media; shelf = with_shelved_none w.shelf name no_shelf i })

  step_now : first_refusal (create_checks (serves e files) name (capacity_of size)) ≡ None → (log : Log)
      → (Id h.id, serves (store_after e made (Put image) log) now) ≡ step_of (serves e files) (CreateMedium name size Standard) 0
  unfolding world_of
  step_now none log =
      (λ i. (Id (medium.id i), world_now log i))
      ∙ ap (λ o. refused_or (serves e files) o (create_outcome (serves e files) name (capacity_of size))) (sym none)

  pub created : first_refusal (create_checks (serves e files) name (capacity_of size)) ≡ None → IsNewImage image → (log : Log)
      → Manages files e (CreateMedium name size Standard) plan (store_after e made (Put image) log) (Id h.id)
  created none new log = manages files e (CreateMedium name size Standard) plan (store_after e made (Put image) log) (Id h.id)
      (sound_after e made (Put image) log sound (made_writable e.library name (capacity_of size) sound.library named can)
      (made_images e name image called sound named) new)
      (library_fits (image_changes name h) made files alone (image_fits h medium.new name files absent))
      (put_holds e (new_entry name) (l.next + 1) image files now (made_image h) sound.library.rules coming header_now (image_changes name h) files refl
      alone holds)
      (step_now none log)
      (kept_images e.library made files now sound.library.rules (λ other is_name. elim (cases_Bool (bytes_eq name other)) [
        | inl is ↦
            let same : name ≡ other = (bytes_eq-Decides name other).0 is in
            subst (λ o. KeepsBytes o (now other)) (sym (ap files (sym same) ∙ absent)) tt
        | inr apart ↦ kept (files other) (now other) (same_now other (image_not_library other is_name) apart)
      ]))
      (λ other inner unlisted gone. same_now other (inner_not_library other inner) (false_from_ne_true _ (λ is.
      let same : name ≡ other = (bytes_eq-Decides name other).0 is in
      let no : true ≡ false = sym named ∙ ap is_medium_name same ∙ inner_not_medium other inner in
      absurd cc)) ∙ gone)

-- the image that the code makes
new_of : (e : Store) (name : Name) (capacity : ℕ) (turn : Turn) → IsTrue (is_medium_name name) → (creates : Creates e name capacity turn)
    → IsNewImage creates.image
new_of e name capacity turn named creates =
    fresh_new creates.image (subst (λ n. IsTrue (is_medium_name n)) (sym creates.named_so) named) creates.medium.new creates.fresh

-- the same, of what the code decides
pub turned : (files : Files) (e : Store) (name : Name) (size : Size) (turn : Turn)
    → IsSoundStore e → Holds e.library e.images files → IsTrue (is_medium_name name) → CanCreate e.library name (capacity_of size)
    → MayCreate files e name (capacity_of size) → Creates e name (capacity_of size) turn → Plans files e (CreateMedium name size Standard) turn
turned files e name size turn sound holds named can may creates log =
    let h = creates.image.header in
    let changes : turn.plan.changes ≡ image_changes name h ++ library_changes (made_library e.library name) =
    creates.changes ∙ ap (λ l. image_changes name h ++ library_changes l) creates.made in
    let t = created files e name size creates.image sound holds named can may.absent creates.named_so creates.medium may.allowed
    (new_of e name (capacity_of size) turn named creates) log in
    rw (creates.made, creates.placed, changes, creates.answer) t

pub turned_sound : (e : Store) (name : Name) (capacity : ℕ) (turn : Turn) → IsSoundStore e → IsTrue (is_medium_name name) → CanCreate e.library name capacity
    → Creates e name capacity turn → IsSoundTurn e turn
turned_sound e name capacity turn sound named can creates =
    rw (creates.made, creates.placed) (
      made_writable e.library name capacity sound.library named can,
      made_images e name creates.image creates.named_so sound named,
      new_of e name capacity turn named creates,
    )
