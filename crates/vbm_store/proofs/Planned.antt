-- What the changes of commands make of files.
use Rattle.std.proofs.Common.{◌≡◌, ℕ, ◌+◌, ◌-◌, ◌*◌, ◌^◌, ◌≤◌, true, false, Ok, List, [], ◌∷◌, ◌++◌, length, take, drop, replicate, length-append, Option, Some, None, bytes_eq, refl, sym, ap, subst, ◌∙◌, arith, inl, inr}
use Rattle.std.specs.Prelude.{nat_lt}
use Rattle.std.proofs.lemmas.Bool.{cases_Bool, ltb-false}
use Rattle.std.proofs.lemmas.List.{length-replicate, append_assoc, append-nil, take_all, take_at, drop_all}
use Rattle.std.proofs.lemmas.Slice.Eq.{bytes_eq-Decides}
use Rattle.vbm_ports.specs.Files.{Files, bytes_of, put}
use Rattle.vbm_header.specs.declared.Header.{Header}
use Rattle.vbm_header.specs.declared.ImageType.TheVariants.{Dynamic}
use Rattle.vbm_header.specs.Written.{header_bytes, zeros}
use Rattle.vbm_volume.specs.Like.{map_end}
use Rattle.vbm_volume.specs.Made.{IsNewHeader, new_map, new_allocated, made_front, made_image}
use Rattle.vbm_intent.specs.declared.change.Change.{Change}
use Rattle.vbm_intent.specs.declared.change.Change.TheVariants.{Fill, Cut}
use Rattle.vbm_intent.specs.Changes.{of_file, effect, file_after, changed, FitsFile, Fits}
use Rattle.vbm_intent.proofs.Applying.{of_file-append, file_after-append}
use Rattle.vbm_named.specs.Names.{Name}
use Rattle.vbm_named.proofs.Lists.{name_refl}
use Rattle.vbm_registry.specs.declared.library.Library.{Library}
use Rattle.vbm_registry.specs.Library.{library_name}
use Rattle.vbm_registry.specs.Spelling.{spelling}
use Rattle.vbm_registry.specs.Grammar.{library_in, library_off}
use Rattle.vbm_registry.specs.PlaceRules.{keeps_places}
use Rattle.vbm_registry.specs.declared.features.TheConstants.{BUILT}
use Rattle.vbm_registry.specs.declared.library.TheConstants.{LONGEST_LIBRARY}
use Rattle.vbm_registry.proofs.FileAgain.{spelled_off, off_again}
use Rattle.vbm_registry.proofs.DecodedRules.{off_decoded}
use Rattle.vbm_store.specs.Serves.{IsWritable}
use Rattle.vbm_store.specs.Plans.{library_changes, gap_changes, front_changes, image_changes}
use Rattle.vbm_store.proofs.Pushing.{Parts, parts, length-header_bytes}

-- ---- bytes that are put at the start or the end of a file

put_start : (bytes old : List ℕ) → put 0 bytes old ≡ bytes ++ drop (length bytes) old
put_start bytes old =
    let none : 0 - length old ≡ 0 = omega arith in
    let size : 0 + length bytes ≡ length bytes = omega arith in
    rw (none, size) refl

put_end : (at : ℕ) (bytes old : List ℕ) → length old ≡ at → put at bytes old ≡ old ++ bytes
put_end at bytes old long =
    let none : at - length old ≡ 0 = omega (arith, long) in
    rw (take_all at old (omega (arith, long)), none, drop_all (at + length bytes) old (omega (arith, long))) (append-nil ((old ++ []) ++ bytes) ∙ ap (λ xs. xs ++ bytes) (append-nil old))

-- ---- the library's file

library_after : (l : Library) (file : Option (List ℕ)) → file_after (library_changes l) file ≡ Some (spelling l)
library_after l file =
    ap (λ b. Some (take (length (spelling l)) b)) (put_start (spelling l) (bytes_of file))
    ∙ ap Some (take_at (spelling l) (drop (length (spelling l)) (bytes_of file)) (length (spelling l)) refl)

-- what is written of a library is read as the library with every machine off
pub written_again : (l : Library) → IsWritable l → library_in BUILT keeps_places (spelling l) ≡ Ok (library_off l)
written_again l is = off_again BUILT keeps_places l (off_decoded BUILT l is.rules is.built)

pub written_short : (l : Library) → IsWritable l → length (spelling l) ≤ LONGEST_LIBRARY
written_short l is = subst (λ (b : List ℕ). length b ≤ LONGEST_LIBRARY) (spelled_off BUILT keeps_places l) (off_decoded BUILT l is.rules is.built).short

-- the library's file is its spelling, after changes of other files
pub library_made : (cs : List Change) (l : Library) (files : Files) → of_file library_name cs ≡ []
    → changed (cs ++ library_changes l) files library_name ≡ Some (spelling l)
library_made cs l files none =
    ap (λ (ds : List Change). file_after ds (files library_name)) (of_file-append library_name cs (library_changes l) ∙ ap (λ (ds : List Change). ds ++ library_changes l) none)
    ∙ library_after l (files library_name)

none_of_library : (l : Library) (name : Name) → bytes_eq library_name name ≡ false → of_file name (library_changes l) ≡ []
none_of_library l name apart = rw apart refl

of_others : (cs : List Change) (l : Library) (name : Name) → bytes_eq library_name name ≡ false
    → of_file name (cs ++ library_changes l) ≡ of_file name cs
of_others cs l name apart =
    of_file-append name cs (library_changes l) ∙ ap (λ (ds : List Change). of_file name cs ++ ds) (none_of_library l name apart) ∙ append-nil (of_file name cs)

-- every other file is as the changes before make it
pub library_frame : (cs : List Change) (l : Library) (files : Files) (name : Name) → bytes_eq library_name name ≡ false
    → changed (cs ++ library_changes l) files name ≡ changed cs files name
library_frame cs l files name apart = ap (λ (ds : List Change). file_after ds (files name)) (of_others cs l name apart)

-- the changes of a library fit any file, behind changes of other files that fit
pub library_fits : (cs : List Change) (l : Library) (files : Files) → of_file library_name cs ≡ [] → Fits cs files → Fits (cs ++ library_changes l) files
library_fits cs l files none fits name = elim (cases_Bool (bytes_eq library_name name)) [
  | inl is ↦
      let same : library_name ≡ name = (bytes_eq-Decides library_name name).0 is in
      let here : of_file library_name (cs ++ library_changes l) ≡ library_changes l =
      of_file-append library_name cs (library_changes l) ∙ ap (λ (ds : List Change). ds ++ library_changes l) none in
      subst (λ n. FitsFile (of_file n (cs ++ library_changes l)) (files n)) same
      (subst (λ (ds : List Change). FitsFile ds (files library_name)) (sym here) (omega arith, (omega arith, tt)))
  | inr other ↦ subst (λ (ds : List Change). FitsFile ds (files name)) (sym (of_others cs l name other)) (fits name)
]

-- ---- a new image

fits_append : (cs ds : List Change) (file : Option (List ℕ)) → FitsFile cs file → FitsFile ds (file_after cs file) → FitsFile (cs ++ ds) file
fits_append [] ds file fits more = more
fits_append (c ∷ cs) ds file fits more = (fits.0, fits_append cs ds (effect c file) fits.1 more)

gap_cases : (name : Name) (h : Header) (P : List Change → Type 0) → (nat_lt (map_end h) h.off_data ≡ true → P (Fill name (map_end h) (h.off_data - map_end h) 0 ∷ []))
    → (nat_lt (map_end h) h.off_data ≡ false → P []) → P (gap_changes name h)
gap_cases name h P some none = elim (cases_Bool (nat_lt (map_end h) h.off_data)) [
  | inl is ↦ rw is (some is)
  | inr not_so ↦ rw not_so (none not_so)
]

of_image : (name : Name) (h : Header) → of_file name (image_changes name h) ≡ image_changes name h
of_image name h =
    gap_cases name h (λ gap. of_file name (front_changes name h ++ gap ++ Cut name h.off_data ∷ []) ≡ front_changes name h ++ gap ++ Cut name h.off_data ∷ [])
    (λ some. rw (name_refl name) refl) (λ none. rw (name_refl name) refl)

-- the changes of an image are of its file alone
pub image_alone : (name other : Name) (h : Header) → bytes_eq name other ≡ false → of_file other (image_changes name h) ≡ []
image_alone name other h apart =
    gap_cases name h (λ gap. of_file other (front_changes name h ++ gap ++ Cut name h.off_data ∷ []) ≡ []) (λ some. rw apart refl) (λ none. rw apart refl)

module _ (h : Header) (new : IsNewHeader h) where
  abbrev front : List ℕ
  front = made_front h

  abbrev mapped : List ℕ
  mapped = made_front h ++ replicate (4 * h.blocks) 255

  p : Parts h
  p = parts h new

  front_long : length front ≡ h.off_blocks
  front_long = length-append (header_bytes h) (zeros (h.off_blocks - 472))
      ∙ omega (arith, length-header_bytes h, length-replicate {A = ℕ} (h.off_blocks - 472) 0, p.front)

  mapped_long : length mapped ≡ map_end h
  mapped_long = length-append front (replicate (4 * h.blocks) 255) ∙ omega (arith, front_long, length-replicate {A = ℕ} (4 * h.blocks) 255)

  filled : put 472 (zeros (h.off_blocks - 472)) (put 0 (header_bytes h) []) ≡ front
  filled =
      ap (put 472 (zeros (h.off_blocks - 472))) (put_end 0 (header_bytes h) [] refl)
      ∙ put_end 472 (zeros (h.off_blocks - 472)) (header_bytes h) (length-header_bytes h)

  front_after : (name : Name) → file_after (front_changes name h) None ≡ Some mapped
  front_after name =
      ap Some (ap (put h.off_blocks (replicate (4 * h.blocks) 255)) filled
      ∙ put_end h.off_blocks (replicate (4 * h.blocks) 255) front front_long)

  abbrev whole : List ℕ
  whole = mapped ++ zeros (h.off_data - map_end h)

  whole_long : length whole ≡ h.off_data
  whole_long = length-append mapped (zeros (h.off_data - map_end h)) ∙ omega (arith, mapped_long, length-replicate {A = ℕ} (h.off_data - map_end h) 0, p.behind)

  gap_after : (name : Name) → file_after (gap_changes name h) (Some mapped) ≡ Some whole
  gap_after name = gap_cases name h (λ gap. file_after gap (Some mapped) ≡ Some whole)
      (λ some. ap Some (put_end (map_end h) (zeros (h.off_data - map_end h)) mapped mapped_long))
      (λ none.
      let no : h.off_data - map_end h ≡ 0 = omega (arith, ltb-false (map_end h) h.off_data none) in
      rw no (ap Some (sym (append-nil mapped))))

  -- an absent file becomes the new image
  image_after : (name : Name) → h.image_type ≡ Dynamic → file_after (image_changes name h) None ≡ Some (made_image h)
  image_after name dynamic =
      let none : h.allocated ≡ 0 = new.allocated ∙ ap (λ t. new_allocated t h.blocks) dynamic in
      let map : new_map h.image_type h.blocks ≡ replicate (4 * h.blocks) 255 = ap (λ t. new_map t h.blocks) dynamic in
      let room : h.off_data - map_end h ≡ h.off_data - map_end h + h.allocated * 2 ^ 20 = rw none (omega arith) in
      file_after-append (front_changes name h ++ gap_changes name h) (Cut name h.off_data ∷ []) None
      ∙ ap (file_after (Cut name h.off_data ∷ [])) (file_after-append (front_changes name h) (gap_changes name h) None
      ∙ ap (file_after (gap_changes name h)) (front_after name))
      ∙ ap (file_after (Cut name h.off_data ∷ [])) (gap_after name)
      ∙ ap Some (take_all h.off_data whole (omega (arith, whole_long))
      ∙ append_assoc front (replicate (4 * h.blocks) 255) (zeros (h.off_data - map_end h))
      ∙ ap (λ n. front ++ (replicate (4 * h.blocks) 255 ++ zeros n)) room
      ∙ ap (λ words. front ++ (words ++ zeros (h.off_data - map_end h + h.allocated * 2 ^ 20))) (sym map))

  image_fits_file : (name : Name) → FitsFile (image_changes name h) None
  image_fits_file name =
      let start = ap length (put_end 0 (header_bytes h) [] refl) ∙ length-header_bytes h in
      fits_append (front_changes name h ++ gap_changes name h) (Cut name h.off_data ∷ []) None
      (fits_append (front_changes name h) (gap_changes name h) None
      (omega arith, (omega (arith, start), (omega (arith, ap length filled, front_long), tt)))
      (subst (FitsFile (gap_changes name h)) (sym (front_after name)) (gap_cases name h (λ gap. FitsFile gap (Some mapped))
      (λ some. (omega (arith, mapped_long), tt)) (λ none. tt))))
      (omega arith, tt)

  pub image_made : (name : Name) (files : Files) → h.image_type ≡ Dynamic → files name ≡ None → changed (image_changes name h) files name ≡ Some (made_image h)
  image_made name files dynamic absent =
      ap (λ (ds : List Change). file_after ds (files name)) (of_image name h) ∙ ap (file_after (image_changes name h)) absent ∙ image_after name dynamic

  pub image_fits : (name : Name) (files : Files) → files name ≡ None → Fits (image_changes name h) files
  image_fits name files absent other = elim (cases_Bool (bytes_eq name other)) [
    | inl is ↦
        let same : name ≡ other = (bytes_eq-Decides name other).0 is in
        subst (λ n. FitsFile (of_file n (image_changes name h)) (files n)) same
        (subst (λ (ds : List Change). FitsFile ds (files name)) (sym (of_image name h)) (subst (FitsFile (image_changes name h)) (sym absent) (image_fits_file name)))
    | inr apart ↦ subst (λ (ds : List Change). FitsFile ds (files other)) (sym (image_alone name other h apart)) tt
  ]

-- every other file is as it was
pub image_frame : (name other : Name) (h : Header) (files : Files) → bytes_eq name other ≡ false → changed (image_changes name h) files other ≡ files other
image_frame name other h files apart = ap (λ (ds : List Change). file_after ds (files other)) (image_alone name other h apart)
