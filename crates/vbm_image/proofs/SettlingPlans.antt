-- The changes that settle staged entries: they touch different bytes, and make the settled file.
use Rattle.std.proofs.Common.{◌≡◌, ℕ, zero, suc, ◌+◌, ◌*◌, ◌<◌, ◌≤◌, max, List, [], ◌∷◌, ◌++◌, length, take, map, slice_get, Some, None, Ok, refl, sym, ◌∙◌, ap, subst, arith, inl, inr}
use Rattle.std.proofs.lemmas.Bool.Decides.{eqb_tells}
use Rattle.std.proofs.lemmas.List.{map-append, append_assoc}
use Rattle.byteorder.specs.Endian.{little_bytes}
use Rattle.vbm_ports.specs.Files.{put}
use Rattle.vbm_ports.specs.Names.{IsStoreName}
use Rattle.vbm_ports.proofs.NameLemmas.{store_name_short}
use Rattle.vbm_header.specs.declared.Header.{Header}
use Rattle.vbm_intent.specs.declared.change.Change.{Change}
use Rattle.vbm_intent.specs.declared.change.Change.TheVariants.{Write}
use Rattle.vbm_intent.specs.Changes.{of_file, file_after, TouchesByte, ApartFrom, IsApart, FitsFile}
use Rattle.vbm_intent.specs.Plan.{text_size, body_size}
use Rattle.vbm_intent.proofs.Applying.{of_file-append, of_file_yes, named_self}
use Rattle.vbm_volume.specs.Image.{image_of, IsSoundHeader}
use Rattle.vbm_volume.specs.Like.{map_end}
use Rattle.vbm_volume.proofs.Torn.{map_within}
use Rattle.vbm_blockmap.specs.Pending.{Staged, position_in}
use Rattle.vbm_image.specs.Image.{HasEachOnce, AreStagedIn, FitStaged}
use Rattle.vbm_image.specs.Settling.{allocated_with, allocated_change, word_change, settling, with_words, settled, Settles}
use Rattle.vbm_image.proofs.SettledFiles.{Each, IsBelow, each_below, counted_length, length-put4}
use Rattle.vbm_image.proofs.SettledImages.{settled_image}

-- ---- lists of entries

pub take_next : (staged : Staged) (i : ℕ) (s : ℕ × ℕ) → slice_get staged i ≡ Some s → take (i + 1) staged ≡ take i staged ++ s ∷ []
take_next [] i s at = absurd cc
take_next (t ∷ staged) zero s at = let e : t ≡ s = cc in ap (λ (x : ℕ × ℕ). x ∷ []) e
take_next (t ∷ staged) (suc i) s at =
    let n : suc i + 1 ≡ suc (i + 1) = omega arith in
    ap (λ k. take k (t ∷ staged)) n ∙ ap (λ xs. t ∷ xs) (take_next staged i s at)

pub allocated_push : (a : ℕ) (staged : Staged) (s : ℕ × ℕ) → allocated_with a (staged ++ s ∷ []) ≡ max (allocated_with a staged) (s.1 + 1)
allocated_push a [] s = refl
allocated_push a (t ∷ staged) s = allocated_push (max a (t.1 + 1)) staged s

none_in_front : (staged : Staged) (n b : ℕ) → position_in staged b ≡ None → position_in (take n staged) b ≡ None
none_in_front staged zero b none = refl
none_in_front [] (suc n) b none = refl
none_in_front (t ∷ staged) (suc n) b none = elim (eqb_tells b t.0) [
  | inl same ↦ let e : Some t.1 ≡ None = sym (rw same.0 refl) ∙ none in absurd cc
  | inr apart ↦ rw apart.0 (none_in_front staged n b (rw apart.0 at none))
]

once_in_front : (staged : Staged) (i : ℕ) → HasEachOnce staged → HasEachOnce (take i staged)
once_in_front staged zero once = tt
once_in_front [] (suc i) once = tt
once_in_front (s ∷ staged) (suc i) once = (none_in_front staged i s.0 once.0, once_in_front staged i once.1)

-- ---- their changes

touched : (name : List ℕ) (at n i : ℕ) → TouchesByte (Write name at (little_bytes 4 n)) i → (at ≤ i) × (i < at + 4)
touched name at n i (inl writes) = (writes.low, writes.high)
touched name at n i (inr takes) = absurd takes

module _ (name : List ℕ) (h : Header) where
  -- the words of the first i entries, behind the count
  abbrev pub first_changes : ℕ → Staged → ℕ → List Change
  first_changes n staged i = allocated_change name n ∷ map (word_change name h) (take i staged)

  -- the word of one block touches no other word
  words_apart : (s : ℕ × ℕ) (staged : Staged) → position_in staged s.0 ≡ None → ApartFrom (word_change name h s) (map (word_change name h) staged)
  words_apart s [] none = tt
  words_apart s (t ∷ staged) none = elim (eqb_tells s.0 t.0) [
    | inl same ↦ let e : Some t.1 ≡ None = sym (rw same.0 refl) ∙ none in absurd cc
    | inr apart ↦ (
      λ i one two.
          let other = apart.1 in
          let a = touched name (h.off_blocks + 4 * s.0) s.1 i one in
          let b = touched name (h.off_blocks + 4 * t.0) t.1 i two in
          other (omega (arith, a.0, a.1, b.0, b.1)),
      words_apart s staged (rw apart.0 at none),
    )
  ]

  all_apart : (staged : Staged) → HasEachOnce staged → IsApart (map (word_change name h) staged)
  all_apart [] once = tt
  all_apart (s ∷ staged) once = (words_apart s staged once.0, all_apart staged once.1)

  -- the header's field comes before the map
  field_apart : (n : ℕ) (staged : Staged) → 456 ≤ h.off_blocks → ApartFrom (allocated_change name n) (map (word_change name h) staged)
  field_apart n [] front = tt
  field_apart n (t ∷ staged) front = (
    λ i one two.
        let a = touched name 388 n i one in
        let b = touched name (h.off_blocks + 4 * t.0) t.1 i two in
        omega (arith, a.1, b.0, front),
    field_apart n staged front,
  )

  words_named : (staged : Staged) → of_file name (map (word_change name h) staged) ≡ map (word_change name h) staged
  words_named [] = refl
  words_named (s ∷ staged) =
      of_file_yes name (word_change name h s) (map (word_change name h) staged) (named_self (word_change name h s))
      ∙ ap (λ cs. word_change name h s ∷ cs) (words_named staged)

  -- they are all of the one file
  pub changes_named : (n : ℕ) (staged : Staged)
      → of_file name (allocated_change name n ∷ map (word_change name h) staged) ≡ allocated_change name n ∷ map (word_change name h) staged
  changes_named n staged =
      of_file_yes name (allocated_change name n) (map (word_change name h) staged) (named_self (allocated_change name n))
      ∙ ap (λ cs. allocated_change name n ∷ cs) (words_named staged)

  pub settling_named : (staged : Staged) → of_file name (settling name h staged) ≡ settling name h staged
  settling_named [] = refl
  settling_named (s ∷ staged) = changes_named (allocated_with h.allocated (s ∷ staged)) (s ∷ staged)

  -- one word more
  pub first_next : (n : ℕ) (staged : Staged) (i : ℕ) (s : ℕ × ℕ) → slice_get staged i ≡ Some s
      → first_changes n staged (i + 1) ≡ first_changes n staged i ++ word_change name h s ∷ []
  first_next n staged i s at =
      ap (λ cs. allocated_change name n ∷ cs)
      (ap (map (word_change name h)) (take_next staged i s at) ∙ map-append (word_change name h) (take i staged) (s ∷ []))

  pub push_next : (base changes : List Change) (n : ℕ) (staged : Staged) (i : ℕ) (s : ℕ × ℕ) → slice_get staged i ≡ Some s
      → changes ≡ base ++ first_changes n staged i → changes ++ word_change name h s ∷ [] ≡ base ++ first_changes n staged (i + 1)
  push_next base changes n staged i s at is =
      ap (λ cs. cs ++ word_change name h s ∷ []) is
      ∙ append_assoc base (first_changes n staged i) (word_change name h s ∷ [])
      ∙ ap (λ cs. base ++ cs) (sym (first_next n staged i s at))

  first_apart : (base : List Change) (n : ℕ) (staged : Staged) (i : ℕ) → of_file name base ≡ [] → 456 ≤ h.off_blocks → HasEachOnce staged
      → IsApart (of_file name (base ++ first_changes n staged i))
  first_apart base n staged i none front once =
      subst IsApart
      (sym (of_file-append name base (first_changes n staged i) ∙ ap (λ cs. cs ++ of_file name (first_changes n staged i)) none
      ∙ changes_named n (take i staged)))
      (field_apart n (take i staged) front, all_apart (take i staged) (once_in_front staged i once))

  pub push_apart : (base changes : List Change) (n : ℕ) (staged : Staged) (i : ℕ) (s : ℕ × ℕ) → slice_get staged i ≡ Some s
      → changes ≡ base ++ first_changes n staged i → of_file name base ≡ [] → 456 ≤ h.off_blocks → HasEachOnce staged
      → IsApart (of_file name (changes ++ word_change name h s ∷ []))
  push_apart base changes n staged i s at is none front once =
      subst (λ cs. IsApart (of_file name cs)) (sym (push_next base changes n staged i s at is))
      (first_apart base n staged (i + 1) none front once)

  pub count_apart : (base : List Change) (n : ℕ) → of_file name base ≡ [] → 456 ≤ h.off_blocks
      → IsApart (of_file name (base ++ allocated_change name n ∷ []))
  count_apart base n none front = first_apart base n [] 0 none front tt

-- ---- how many bytes they have

pub body_size-append : (cs ds : List Change) → body_size (cs ++ ds) ≡ body_size cs + body_size ds
body_size-append [] ds = omega arith
body_size-append (c ∷ cs) ds = omega (arith, body_size-append cs ds)

module _ (name : List ℕ) (h : Header) where
  -- a word among those of the first entries and all
  word_within : (staged : Staged) (i : ℕ) (s : ℕ × ℕ) → slice_get staged i ≡ Some s
      → body_size (map (word_change name h) (take i staged)) + text_size (word_change name h s) ≤ body_size (map (word_change name h) staged)
  word_within [] i s at = absurd cc
  word_within (t ∷ staged) zero s at = omega arith
  word_within (t ∷ staged) (suc i) s at = omega (arith, word_within staged i s at)

  pub first_within : (n : ℕ) (staged : Staged) (i : ℕ) (s : ℕ × ℕ) → slice_get staged i ≡ Some s
      → body_size (first_changes name h n staged i) + text_size (word_change name h s)
      ≤ body_size (allocated_change name n ∷ map (word_change name h) staged)
  first_within n staged i s at = omega (arith, word_within staged i s at)

  words_size : IsStoreName name → (staged : Staged) → body_size (map (word_change name h) staged) ≤ 100 * length staged
  words_size named [] = omega arith
  words_size named (s ∷ staged) = omega (arith, words_size named staged, store_name_short name named)

  -- at most 100 for each entry, and for the count
  pub settling_size : IsStoreName name → (staged : Staged) → body_size (settling name h staged) ≤ 100 * (length staged + 1)
  settling_size named [] = omega arith
  settling_size named (s ∷ staged) = omega (arith, words_size named (s ∷ staged), store_name_short name named)

  -- nothing where nothing is staged
  pub settling_size_some : IsStoreName name → (staged : Staged) → body_size (settling name h staged) ≤ 200 * length staged
  settling_size_some named [] = omega arith
  settling_size_some named (s ∷ staged) = omega (arith, settling_size named (s ∷ staged))

  words_count : (staged : Staged) → length (map (word_change name h) staged) ≡ length staged
  words_count [] = refl
  words_count (s ∷ staged) = omega (arith, words_count staged)

  pub settling_count : (staged : Staged) → length (settling name h staged) ≤ length staged + 1
  settling_count [] = omega arith
  settling_count (s ∷ staged) = omega (arith, words_count (s ∷ staged))

  -- where something is staged
  pub settling_whole : (staged : Staged) → 0 < length staged
      → settling name h staged ≡ allocated_change name (allocated_with h.allocated staged) ∷ map (word_change name h) staged
  settling_whole [] some = absurd (omega arith)
  settling_whole (s ∷ staged) some = refl

  pub settling_none : (staged : Staged) → length staged ≡ 0 → settling name h staged ≡ []
  settling_none [] none = refl
  settling_none (s ∷ staged) none = absurd (omega arith)

  pub settling_length : (staged : Staged) → 0 < length staged → length (settling name h staged) ≡ length staged + 1
  settling_length [] some = absurd (omega arith)
  settling_length (s ∷ staged) some = omega (arith, words_count (s ∷ staged))

-- ---- what they make of the file

module _ (name : List ℕ) (h : Header) where
  words_make : (staged : Staged) (f : List ℕ) → file_after (map (word_change name h) staged) (Some f) ≡ Some (with_words h staged f)
  words_make [] f = refl
  words_make (s ∷ staged) f = words_make staged (put (h.off_blocks + 4 * s.0) (little_bytes 4 s.1) f)

  words_fit : (staged : Staged) (f : List ℕ) → Each (IsBelow h) staged → map_end h ≤ length f
      → FitsFile (map (word_change name h) staged) (Some f)
  words_fit [] f each whole = tt
  words_fit (s ∷ staged) f each whole =
      let low : s.0 < h.blocks = each.0.0 in
      let here = length-put4 (h.off_blocks + 4 * s.0) s.1 f (omega arith) in
      (omega arith, words_fit staged (put (h.off_blocks + 4 * s.0) (little_bytes 4 s.1) f) each.1 (omega (arith, here)))

  settling_makes : (staged : Staged) (f : List ℕ) → file_after (settling name h staged) (Some f) ≡ Some (settled h staged f)
  unfolding settled
  settling_makes [] f = refl
  settling_makes (s ∷ staged) f = words_make (s ∷ staged) (put 388 (little_bytes 4 (allocated_with h.allocated (s ∷ staged))) f)

  settling_fits : (staged : Staged) (f : List ℕ) → IsSoundHeader h → AreStagedIn h staged → map_end h ≤ length f
      → FitsFile (settling name h staged) (Some f)
  settling_fits [] f sound form whole = tt
  settling_fits (s ∷ staged) f sound form whole =
      let here = counted_length h sound (s ∷ staged) f whole in (
        omega (arith, sound.header_end),
        words_fit (s ∷ staged) (put 388 (little_bytes 4 (allocated_with h.allocated (s ∷ staged))) f) (each_below h sound (s ∷ staged) form)
            (omega (arith, here)),
      )

  pub settles : (staged : Staged) (f : List ℕ) → IsSoundHeader h → AreStagedIn h staged → image_of f ≡ Ok h → FitStaged h staged f
      → Settles name h staged f
  settles staged f sound form e fits = record {
    fits = settling_fits staged f sound form (map_within f h e).1;
    makes = settling_makes staged f;
    accepted = settled_image h f sound e staged form fits;
  }
