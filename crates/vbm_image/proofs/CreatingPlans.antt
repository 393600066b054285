-- The changes that make an image: they touch different bytes, and make the image of any old file.
use Rattle.std.proofs.Common.{◌≡◌, ℕ, ◌+◌, ◌-◌, ◌*◌, ◌^◌, ◌<◌, ◌≤◌, true, false, List, [], ◌∷◌, ◌++◌, length, replicate, Option, Some, refl, ◌∙◌, ap, arith, inl, inr}
use Rattle.std.specs.Prelude.{nat_lt}
use Rattle.std.proofs.lemmas.Bool.{cases_Bool, ltb-false}
use Rattle.std.proofs.lemmas.List.{length-append, length-replicate}
use Rattle.vbm_ports.specs.Files.{bytes_of, put}
use Rattle.vbm_ports.proofs.Puts.{length-put_any}
use Rattle.vbm_header.specs.declared.Header.{Header}
use Rattle.vbm_header.specs.Written.{header_bytes, zeros}
use Rattle.vbm_intent.specs.declared.change.Change.{Change}
use Rattle.vbm_intent.specs.declared.change.Change.TheVariants.{Write, Fill, Cut}
use Rattle.vbm_intent.specs.Changes.{of_file, file_after, TouchesByte, ApartFrom, IsApart, FitsFile}
use Rattle.vbm_intent.proofs.Applying.{of_file-append, of_file_yes, named_self}
use Rattle.vbm_volume.specs.Like.{map_end}
use Rattle.vbm_volume.specs.Made.{made_front, free_image, IsLaidOut}
use Rattle.vbm_volume.proofs.FreeImages.{Begins, front_begins, map_begins, gap_begins, no_gap_begins, free_cut}
use Rattle.vbm_volume.proofs.NewHeaders.{length-header_bytes}
use Rattle.vbm_image.specs.Creating.{creating, creating_map, creating_gap, Creates}

-- where the parts stand
pub record Parts (h : Header) : Type 0 where
  pub front : 472 < h.off_blocks
  pub some : 0 < h.blocks
  pub few : 4 * h.blocks ≤ 2 ^ 23
  pub behind : map_end h ≤ h.off_data
  pub gap : h.off_data ≤ map_end h + 2 ^ 20
  pub off_blocks : h.off_blocks ≡ 2 ^ 20

pub parts : (h : Header) → IsLaidOut h → Parts h
parts h laid = record {
  front = omega arith;
  some = omega arith;
  few = omega arith;
  behind = omega arith;
  gap = omega arith;
  off_blocks = laid.off_blocks;
}

-- ---- different bytes

write_touches : (name : List ℕ) (at : ℕ) (bytes : List ℕ) (i : ℕ) → TouchesByte (Write name at bytes) i → (at ≤ i) × (i < at + length bytes)
write_touches name at bytes i (inl writes) = (writes.low, writes.high)
write_touches name at bytes i (inr takes) = absurd takes

fill_touches : (name : List ℕ) (at len byte i : ℕ) → TouchesByte (Fill name at len byte) i → (at ≤ i) × (i < at + len)
fill_touches name at len byte i (inl writes) = (writes.low, writes.high)
fill_touches name at len byte i (inr takes) = absurd takes

cut_touches : (name : List ℕ) (len i : ℕ) → TouchesByte (Cut name len) i → len ≤ i
cut_touches name len i (inl writes) = absurd (omega (arith, writes.low, writes.high))
cut_touches name len i (inr takes) = takes

-- the gap, or none
pub gap_cases : (name : List ℕ) (h : Header) (P : List Change → Type 0)
    → (nat_lt (map_end h) h.off_data ≡ true → P (Fill name (map_end h) (h.off_data - map_end h) 0 ∷ []))
    → (nat_lt (map_end h) h.off_data ≡ false → P []) → P (creating_gap name h)
gap_cases name h P some none = elim (cases_Bool (nat_lt (map_end h) h.off_data)) [
  | inl is ↦ rw is (some is)
  | inr not_so ↦ rw not_so (none not_so)
]

-- changes in front of others
apart_front_one : (c : Change) (cs ds : List Change) → ApartFrom c (cs ++ ds) → ApartFrom c cs
apart_front_one c [] ds apart = tt
apart_front_one c (d ∷ cs) ds apart = (apart.0, apart_front_one c cs ds apart.1)

pub apart_front : (cs ds : List Change) → IsApart (cs ++ ds) → IsApart cs
apart_front [] ds apart = tt
apart_front (c ∷ cs) ds apart = (apart_front_one c cs ds apart.0, apart_front cs ds apart.1)

-- more changes of a file
pub of_file-behind : (name : List ℕ) (cs before ds : List Change) → of_file name cs ≡ before → of_file name ds ≡ ds
    → of_file name (cs ++ ds) ≡ before ++ ds
of_file-behind name cs before ds is named =
    of_file-append name cs ds ∙ ap (λ (l : List Change). l ++ of_file name ds) is ∙ ap (λ (l : List Change). before ++ l) named

pub fill_named : (name : List ℕ) (at len byte : ℕ) → of_file name (Fill name at len byte ∷ []) ≡ Fill name at len byte ∷ []
fill_named name at len byte = of_file_yes name (Fill name at len byte) [] (named_self (Cut name 0))

pub cut_named : (name : List ℕ) (len : ℕ) → of_file name (Cut name len ∷ []) ≡ Cut name len ∷ []
cut_named name len = of_file_yes name (Cut name len) [] (named_self (Cut name 0))

pub map_named : (name : List ℕ) (h : Header) → of_file name (creating_map name h) ≡ creating_map name h
map_named name h = let same = named_self (Cut name 0) in rw same refl

pub gap_named : (name : List ℕ) (h : Header) → of_file name (creating_gap name h) ≡ creating_gap name h
gap_named name h =
    gap_cases name h (λ gap. of_file name gap ≡ gap) (λ some. fill_named name (map_end h) (h.off_data - map_end h) 0) (λ none. refl)

module _ (name : List ℕ) (h : Header) (laid : IsLaidOut h) where
  p : Parts h
  p = parts h laid

  abbrev front : Change
  front = Write name 0 (header_bytes h)

  abbrev zeros_behind : Change
  zeros_behind = Fill name 472 (h.off_blocks - 472) 0

  abbrev map_free : Change
  map_free = Fill name h.off_blocks (4 * h.blocks) 255

  abbrev gap_zeros : Change
  gap_zeros = Fill name (map_end h) (h.off_data - map_end h) 0

  abbrev end : Change
  end = Cut name h.off_data

  in_front : (i : ℕ) → TouchesByte front i → i < 472
  in_front i t = omega (arith, (write_touches name 0 (header_bytes h) i t).1, length-header_bytes h)

  in_zeros : (i : ℕ) → TouchesByte zeros_behind i → (472 ≤ i) × (i < h.off_blocks)
  in_zeros i t = let both = fill_touches name 472 (h.off_blocks - 472) 0 i t in (both.0, omega (arith, both.1, p.front))

  in_map : (i : ℕ) → TouchesByte map_free i → (h.off_blocks ≤ i) × (i < map_end h)
  in_map i t = fill_touches name h.off_blocks (4 * h.blocks) 255 i t

  in_gap : (i : ℕ) → TouchesByte gap_zeros i → (map_end h ≤ i) × (i < h.off_data)
  in_gap i t = let both = fill_touches name (map_end h) (h.off_data - map_end h) 0 i t in (both.0, omega (arith, both.1, p.behind))

  in_end : (i : ℕ) → TouchesByte end i → h.off_data ≤ i
  in_end i t = cut_touches name h.off_data i t

  -- the last change with those in front of it, each by its range
  pub with_gap : IsApart (front ∷ zeros_behind ∷ map_free ∷ gap_zeros ∷ end ∷ [])
  with_gap = (
    (
      λ i a b. omega (arith, in_front i a, in_zeros i b),
      (
        λ i a b. omega (arith, in_front i a, in_map i b, p.front),
        (λ i a b. omega (arith, in_front i a, in_gap i b, p.front), (λ i a b. omega (arith, in_front i a, in_end i b, p.front, p.behind), tt)),
      ),
    ),
    (
      (
        λ i a b. omega (arith, in_zeros i a, in_map i b),
        (λ i a b. omega (arith, in_zeros i a, in_gap i b), (λ i a b. omega (arith, in_zeros i a, in_end i b, p.behind), tt)),
      ),
      (
        (λ i a b. omega (arith, in_map i a, in_gap i b), (λ i a b. omega (arith, in_map i a, in_end i b, p.behind), tt)),
        ((λ i a b. omega (arith, in_gap i a, in_end i b), tt), (tt, tt)),
      ),
    ),
  )

  without_gap : IsApart (front ∷ zeros_behind ∷ map_free ∷ end ∷ [])
  without_gap = (
    (
      λ i a b. omega (arith, in_front i a, in_zeros i b),
      (λ i a b. omega (arith, in_front i a, in_map i b, p.front), (λ i a b. omega (arith, in_front i a, in_end i b, p.front, p.behind), tt)),
    ),
    (
      (λ i a b. omega (arith, in_zeros i a, in_map i b), (λ i a b. omega (arith, in_zeros i a, in_end i b, p.behind), tt)),
      ((λ i a b. omega (arith, in_map i a, in_end i b, p.behind), tt), (tt, tt)),
    ),
  )

  pub creating_apart : IsApart (creating name h)
  creating_apart = gap_cases name h (λ gap. IsApart (creating_map name h ++ gap ++ end ∷ [])) (λ some. with_gap) (λ none. without_gap)

  -- ---- what they make of a file

  abbrev mapped : List ℕ → List ℕ
  mapped old = put h.off_blocks (replicate (4 * h.blocks) 255) (put 472 (zeros (h.off_blocks - 472)) (put 0 (header_bytes h) old))

  begun : (old : List ℕ) → Begins (made_front h ++ replicate (4 * h.blocks) 255) (mapped old)
  begun old = map_begins h laid (put 472 (zeros (h.off_blocks - 472)) (put 0 (header_bytes h) old)) (front_begins h laid old)

  long : (done f : List ℕ) → Begins done f → length done ≤ length f
  long done f begins = omega (arith, ap length begins.1, length-append done begins.0)

  with_gap_makes : (file : Option (List ℕ)) → file_after (front ∷ zeros_behind ∷ map_free ∷ gap_zeros ∷ end ∷ []) file ≡ Some (free_image h)
  with_gap_makes file =
      ap Some (free_cut h laid (put (map_end h) (zeros (h.off_data - map_end h)) (mapped (bytes_of file)))
      (gap_begins h laid (mapped (bytes_of file)) (begun (bytes_of file))))

  without_gap_makes : h.off_data ≡ map_end h → (file : Option (List ℕ))
      → file_after (front ∷ zeros_behind ∷ map_free ∷ end ∷ []) file ≡ Some (free_image h)
  without_gap_makes close file =
      ap Some (free_cut h laid (mapped (bytes_of file)) (no_gap_begins h laid (mapped (bytes_of file)) close (begun (bytes_of file))))

  no_room : nat_lt (map_end h) h.off_data ≡ false → h.off_data ≡ map_end h
  no_room none = omega (arith, ltb-false (map_end h) h.off_data none, p.behind)

  makes : (file : Option (List ℕ)) → file_after (creating name h) file ≡ Some (free_image h)
  makes file =
      gap_cases name h (λ gap. file_after (creating_map name h ++ gap ++ end ∷ []) file ≡ Some (free_image h))
      (λ some. with_gap_makes file) (λ none. without_gap_makes (no_room none) file)

  -- no part begins past the end that the file has by then
  fits : (file : Option (List ℕ)) → FitsFile (creating name h) file
  fits file =
      let old : List ℕ = bytes_of file in
      let first = put-long 0 (header_bytes h) old in
      let second = put-long 472 (zeros (h.off_blocks - 472)) (put 0 (header_bytes h) old) in
      let third = put-long h.off_blocks (replicate (4 * h.blocks) 255) (put 472 (zeros (h.off_blocks - 472)) (put 0 (header_bytes h) old)) in
      let header = length-header_bytes h in
      let front_zeros = length-replicate {A = ℕ} (h.off_blocks - 472) 0 in
      let map_words = length-replicate {A = ℕ} (4 * h.blocks) 255 in
      gap_cases name h (λ gap. FitsFile (creating_map name h ++ gap ++ end ∷ []) file)
      (λ some. (
        omega arith,
        (
          omega (arith, first, header),
          (omega (arith, second, front_zeros, p.front), (omega (arith, third, map_words), (omega arith, tt))),
        ),
      ))
      (λ none. (omega arith, (omega (arith, first, header), (omega (arith, second, front_zeros, p.front), (omega arith, tt)))))
    where
      put-long : (at : ℕ) (bytes f : List ℕ) → at + length bytes ≤ length (put at bytes f)
      put-long at bytes f = omega (arith, length-put_any at bytes f)

  pub creates : (file : Option (List ℕ)) → Creates name h file
  creates file = record { fits = fits file; makes = makes file }
