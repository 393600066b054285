-- Disks that guests read and write.
use Rattle.std.proofs.Common.{◌≡◌, ℕ, zero, suc, ◌+◌, ◌*◌, ◌<◌, ◌≤◌, true, false, cond, map, replicate, List, [], ◌∷◌, ◌++◌, length, take, drop, set, Option, Some, None, is_none, if◌then◌else◌, refl, sym, ap, ◌∙◌, arith, append_assoc, length-append, length-drop, slice_get, add-one, drop-cons, get_or}
use Rattle.std.specs.List.{AllByRecursion, concat}
use Rattle.std.specs.Str.{bytes_eq}
use Rattle.std.proofs.lemmas.List.{append-nil, length-take, take_more, replicate-append-replicate}
use Rattle.std.proofs.lemmas.List.Folds.{concat-append}
use Rattle.vbm_volume.specs.Sectors.{FlatDisk, first_sectors}
use Rattle.vbm_named.specs.Names.{Name, find_by, change_by, Rises}
use Rattle.vbm_named.proofs.Lists.{same_name, All-map, find_named, each_found}
use Rattle.vbm_world.specs.declared.world.WorldMedium.{WorldMedium}
use Rattle.vbm_world.specs.declared.world.WorldSlot.{WorldSlot}
use Rattle.vbm_world.specs.declared.world.WorldMachine.{WorldMachine}
use Rattle.vbm_world.specs.World.{World, medium_name, medium_of}
use Rattle.vbm_world.specs.Places.{with_medium, with_machine, with_slot}
use Rattle.vbm_world.specs.Guests.{bytes_at, with_sectors, written_medium, written}
use Rattle.vbm_named.proofs.Places.{take_item}

pub get_drop : {X : Type 0} (xs : List X) (n i : ℕ) → slice_get (drop n xs) i ≡ slice_get xs (n + i)
get_drop xs zero i = ap (slice_get xs) (omega arith)
get_drop [] (suc n) i = refl
get_drop (x ∷ xs) (suc n) i = get_drop xs n i ∙ ap (slice_get (x ∷ xs)) (let e : suc (n + i) ≡ suc n + i = omega arith in e)

-- the bytes of one more sector
pub bytes_more : (disk : FlatDisk) (lba i : ℕ) (sector : List ℕ) → slice_get disk (lba + i) ≡ Some sector
    → bytes_at disk lba (i + 1) ≡ bytes_at disk lba i ++ sector
bytes_more disk lba i sector at =
    ap concat (take_item (drop lba disk) i sector (get_drop disk lba i ∙ at))
    ∙ concat-append (take i (drop lba disk)) (sector ∷ [])
    ∙ ap (λ (l : List ℕ). concat (take i (drop lba disk)) ++ l) (append-nil sector)

-- a written disk is as long as before
pub with_length : (disk : FlatDisk) (lba : ℕ) (sectors : FlatDisk) → lba + length sectors ≤ length disk
    → length (with_sectors disk lba sectors) ≡ length disk
with_length disk lba sectors within = simp (length-append, length-take, length-drop) (omega arith)

set_behind : {X : Type 0} (front : List X) (y x : X) (rest : List X) → set (front ++ (y ∷ rest)) (length front) x ≡ front ++ (x ∷ rest)
set_behind [] y x rest = refl
set_behind (z ∷ zs) y x rest = ap (λ l. z ∷ l) (set_behind zs y x rest)

-- one more sector is written
pub with_more : (disk : FlatDisk) (lba : ℕ) (sectors : FlatDisk) (x : List ℕ) → lba + length sectors < length disk
    → set (with_sectors disk lba sectors) (lba + length sectors) x ≡ with_sectors disk lba (sectors ++ x ∷ [])
with_more disk lba sectors x within =
    let front : List (List ℕ) = take lba disk ++ sectors in
    let long : length front ≡ lba + length sectors = simp (length-append, length-take) (omega arith) in
    let rest : drop (lba + length sectors) disk ≡ get_or disk (lba + length sectors) [] ∷ drop (suc (lba + length sectors)) disk =
    drop-cons disk (lba + length sectors) [] within in
    let end : suc (lba + length sectors) ≡ lba + length (sectors ++ x ∷ []) = simp length-append (omega arith) in
    rw rest (ap (λ (n : ℕ). set (front ++ (get_or disk (lba + length sectors) [] ∷ drop (suc (lba + length sectors)) disk)) n x) (sym long)
    ∙ set_behind front (get_or disk (lba + length sectors) []) x (drop (suc (lba + length sectors)) disk)
    ∙ ap (λ (n : ℕ). front ++ (x ∷ drop n disk)) end
    ∙ sym (append_assoc front (x ∷ []) (drop (lba + length (sectors ++ x ∷ [])) disk))
    ∙ ap (λ (l : List (List ℕ)). l ++ drop (lba + length (sectors ++ x ∷ [])) disk) (append_assoc (take lba disk) sectors (x ∷ [])))

pub with_next : (disk : FlatDisk) (lba : ℕ) (sectors : FlatDisk) (i : ℕ) (d : List ℕ) → i < length sectors → lba + length sectors ≤ length disk
    → set (with_sectors disk lba (take i sectors)) (lba + i) (get_or sectors i d) ≡ with_sectors disk lba (take (i + 1) sectors)
with_next disk lba sectors i d below within =
    let long : length (take i sectors) ≡ i = simp length-take (omega arith) in
    let fits : lba + length (take i sectors) < length disk = omega arith in
    ap (λ (n : ℕ). set (with_sectors disk lba (take i sectors)) (lba + n) (get_or sectors i d)) (sym long)
    ∙ with_more disk lba (take i sectors) (get_or sectors i d) fits
    ∙ ap (with_sectors disk lba) (sym (take_more sectors i d below))

-- the next sector of those to be written, whatever the default of its look-up was
pub with_step : (new old disk : FlatDisk) (lba i : ℕ) (sectors : FlatDisk) (x : List ℕ) → new ≡ set old (lba + i) x → x ≡ get_or sectors i []
    → old ≡ with_sectors disk lba (take i sectors) → i < length sectors → lba + length sectors ≤ length disk
    → new ≡ with_sectors disk lba (take (i + 1) sectors)
with_step new old disk lba i sectors x is at so_far below within =
    is ∙ (λ j. set (so_far j) (lba + i) (at j)) ∙ with_next disk lba sectors i [] below within

-- one more sector of bytes
pub sectors_more : (bytes : List ℕ) (i n : ℕ) (new old : FlatDisk) (sector : List ℕ) → new ≡ old ++ sector ∷ []
    → old ≡ first_sectors (λ k. take 512 (drop (k * 512) bytes)) i → sector ≡ take n (drop (i * 512) bytes) → n ≡ 512
    → new ≡ first_sectors (λ k. take 512 (drop (k * 512) bytes)) (i + 1)
unfolding first_sectors
sectors_more bytes i n new old sector is so_far piece whole =
    rw add-one (is ∙ (λ j. so_far j ++ (piece ∙ ap (λ (m : ℕ). take m (drop (i * 512) bytes)) whole) j ∷ []))

-- one more sector filled with a byte
pub filled_more : (i : ℕ) (new old : FlatDisk) (sector : List ℕ) → new ≡ old ++ sector ∷ [] → old ≡ replicate i sector
    → new ≡ replicate (i + 1) sector
filled_more i new old sector is so_far = is ∙ ap (λ (l : FlatDisk). l ++ sector ∷ []) so_far ∙ replicate-append-replicate i 1 sector

-- ---- the sectors of a written disk

get_within : (xs ys : FlatDisk) (i : ℕ) → i < length xs → slice_get (xs ++ ys) i ≡ slice_get xs i
get_within [] ys i below = absurd (omega arith)
get_within (x ∷ xs) ys zero below = refl
get_within (x ∷ xs) ys (suc i) below = get_within xs ys i (omega arith)

get_behind : (xs ys : FlatDisk) (i : ℕ) → slice_get (xs ++ ys) (length xs + i) ≡ slice_get ys i
get_behind [] ys i = ap (slice_get ys) (omega arith)
get_behind (x ∷ xs) ys i =
    let next : length (x ∷ xs) + i ≡ suc (length xs + i) = omega arith in
    ap (slice_get (x ∷ (xs ++ ys))) next ∙ get_behind xs ys i

pub get_taken : (xs : FlatDisk) (n i : ℕ) → i < n → slice_get (take n xs) i ≡ slice_get xs i
get_taken xs zero i below = absurd (omega arith)
get_taken [] (suc n) i below = refl
get_taken (x ∷ xs) (suc n) zero below = refl
get_taken (x ∷ xs) (suc n) (suc i) below = get_taken xs n i (omega arith)

module _ (disk : FlatDisk) (lba : ℕ) (sectors : FlatDisk) (within : lba + length sectors ≤ length disk) where
  taken_length : length (take lba disk) ≡ lba
  taken_length = simp length-take (omega arith)

  front_length : length (take lba disk ++ sectors) ≡ lba + length sectors
  front_length = simp (length-append, length-take) (omega arith)

  -- those before the write
  pub get_before : (i : ℕ) → i < lba → slice_get (with_sectors disk lba sectors) i ≡ slice_get disk i
  get_before i below =
      get_within (take lba disk ++ sectors) (drop (lba + length sectors) disk) i (omega (arith, front_length))
      ∙ get_within (take lba disk) sectors i (omega (arith, taken_length)) ∙ get_taken disk lba i below

  -- those that were written
  pub get_written : (k : ℕ) → k < length sectors → slice_get (with_sectors disk lba sectors) (lba + k) ≡ slice_get sectors k
  get_written k below =
      get_within (take lba disk ++ sectors) (drop (lba + length sectors) disk) (lba + k) (omega (arith, front_length))
      ∙ ap (λ (n : ℕ). slice_get (take lba disk ++ sectors) (n + k)) (sym taken_length) ∙ get_behind (take lba disk) sectors k

  -- those behind the write
  pub get_after : (k : ℕ) → slice_get (with_sectors disk lba sectors) (lba + length sectors + k) ≡ slice_get disk (lba + length sectors + k)
  get_after k =
      ap (λ (n : ℕ). slice_get (with_sectors disk lba sectors) (n + k)) (sym front_length)
      ∙ get_behind (take lba disk ++ sectors) (drop (lba + length sectors) disk) k ∙ get_drop disk (lba + length sectors) k

-- ---- the world after a write

-- a medium that was found is found by its name
pub found_by_name : (w : World) (name : Name) (medium : WorldMedium) → medium_of w name ≡ Some medium → medium_of w medium.name ≡ Some medium
found_by_name w name medium is = ap (medium_of w) (same_name medium.name name (find_named medium_name name medium w.media is)) ∙ is

module _ (w : World) (m : WorldMachine) (s : WorldSlot) (medium : WorldMedium) (disk : FlatDisk) where
  -- by whether the slot has its own disk
  abbrev written_by : Option FlatDisk → World
  written_by own =
      if is_none own
      then record (with_medium w medium.name (written_medium w disk)) { next = if medium.changed then w.next else w.next + 1 }
      else with_machine w (record m { slots = with_slot s.port (λ (t : WorldSlot). record t { own = Some disk }) m.slots }) 0

  pub written_direct : s.own ≡ None → written w m s medium disk
      ≡ record (with_medium w medium.name (written_medium w disk)) { next = if medium.changed then w.next else w.next + 1 }
  written_direct none = ap written_by none

  pub written_own : (own : FlatDisk) → s.own ≡ Some own → written w m s medium disk
      ≡ with_machine w (record m { slots = with_slot s.port (λ (t : WorldSlot). record t { own = Some disk }) m.slots }) 0
  written_own own is = ap written_by is

-- ---- an item that is changed where it is found

module _ {X : Type 0} (nx : X → Name) where
  map_same : (f g : X → X) (xs : List X) → AllByRecursion (λ x. f x ≡ g x) xs → map f xs ≡ map g xs
  map_same f g [] all = refl
  map_same f g (x ∷ xs) all = λ i. all.0 i ∷ map_same f g xs all.1 i

  -- to change the items of a name is to put in their place what is made of the one that is found
  pub change_found : (name : Name) (f : X → X) (x : X) (xs : List X) → Rises nx xs → find_by nx name xs ≡ Some x
      → change_by nx name (λ y. f x) xs ≡ change_by nx name f xs
  change_found name f x xs rises found = map_same _ _ xs (All-map _ _ (λ y is.
      elim (bytes_eq (nx y) name) as (λ b. bytes_eq (nx y) name ≡ b → cond b (f x) y ≡ cond b (f y) y) [
        | true ↦ λ e.
            let both : Some x ≡ Some y = sym found ∙ ap (λ (n : Name). find_by nx n xs) (sym (same_name (nx y) name e)) ∙ is in
            let same : x ≡ y = cc in ap f same
        | false ↦ λ e. refl
      ] refl) xs (each_found nx xs rises))
