-- Disks that are made sector by sector.
use Rattle.std.proofs.Common.{◌≡◌, ℕ, zero, suc, ◌+◌, ◌-◌, ◌<◌, ◌≤◌, List, [], ◌∷◌, ◌++◌, length, take, drop, set, replicate, Option, Some, refl, sym, ap, ◌∙◌, arith, append_assoc}
use Rattle.std.specs.List.{slice_get}
use Rattle.std.proofs.lemmas.List.{set_at, take_all, drop-drop, length-append, length-take, length-replicate, append-nil}
use Rattle.std.proofs.Math.Numerals.{one-add}
use Rattle.std.proofs.lemmas.Option.{slice_get_within}
use Rattle.vbm_volume.specs.Sectors.{FlatDisk}
use Rattle.vbm_named.proofs.Places.{take_item}
use Rattle.vbm_world.specs.Clones.{first_sector, sector_or, laid_over}

-- the front of a list before n places of z, where one place more is filled
pub set_next : {X : Type 0} (xs : List X) (z : X) (n i : ℕ) (x : X) → slice_get xs i ≡ Some x → i < n
    → set (take i xs ++ replicate (n - i) z) i x ≡ take (i + 1) xs ++ replicate (n - (i + 1)) z
set_next {X} xs z n i x at low =
    let within = slice_get_within xs i x at in
    let size : length (take i xs) ≡ i = omega (arith, length-take i xs) in
    let left : n - i ≡ suc (n - (i + 1)) = omega arith in
    ap (λ (k : ℕ). set (take i xs ++ replicate k z) i x) left
    ∙ set_at (take i xs) z (replicate (n - (i + 1)) z) x i size
    ∙ sym (ap (λ (l : List X). l ++ replicate (n - (i + 1)) z) (take_item xs i x at) ∙ append_assoc (take i xs) (x ∷ []) (replicate (n - (i + 1)) z))

pub length-laid_over : (disk : FlatDisk) (sectors : List (Option (List ℕ))) → length (laid_over disk sectors) ≡ length sectors
length-laid_over disk [] = refl
length-laid_over disk (own ∷ rest) = ap suc (length-laid_over (drop 1 disk) rest)

pub get-laid_over : (disk : FlatDisk) (sectors : List (Option (List ℕ))) (i : ℕ) (own : Option (List ℕ)) → slice_get sectors i ≡ Some own
    → slice_get (laid_over disk sectors) i ≡ Some (sector_or own (first_sector (drop i disk)))
get-laid_over disk [] i own at = absurd cc
get-laid_over disk (o ∷ rest) zero own at = let same : o ≡ own = cc in ap (λ (o : Option (List ℕ)). Some (sector_or o (first_sector disk))) same
get-laid_over disk (o ∷ rest) (suc i) own at = get-laid_over (drop 1 disk) rest i own at
    ∙ ap (λ (d : FlatDisk). Some (sector_or own (first_sector d))) (drop-drop i 1 disk ∙ ap (λ (k : ℕ). drop k disk) (one-add i))

-- the list so far is as long as the whole
pub length-so_far : {X : Type 0} (xs : List X) (z : X) (n i : ℕ) → length xs ≡ n → i ≤ n → length (take i xs ++ replicate (n - i) z) ≡ n
length-so_far xs z n i size low =
    omega (arith, length-append (take i xs) (replicate (n - i) z), length-take i xs, length-replicate (n - i) z)

-- and is the whole at its end
pub so_far-all : {X : Type 0} (xs : List X) (z : X) (n i : ℕ) → length xs ≡ n → n ≤ i → take i xs ++ replicate (n - i) z ≡ xs
so_far-all {X} xs z n i size low =
    let none : n - i ≡ 0 = omega arith in
    ap (λ (k : ℕ). take i xs ++ replicate k z) none ∙ append-nil (take i xs) ∙ take_all i xs (omega arith)

-- what a disk has at a place
pub first-drop : (disk : FlatDisk) (i : ℕ) (sector : List ℕ) → slice_get disk i ≡ Some sector → first_sector (drop i disk) ≡ sector
first-drop [] i sector at = absurd cc
first-drop (s ∷ rest) zero sector at = cc
first-drop (s ∷ rest) (suc i) sector at = first-drop rest i sector at
