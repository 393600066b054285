-- A chain of one base image is that image.
use Rattle.std.proofs.Common.{◌≡◌, ℕ, ◌/◌, ◌<◌, true, false, leb, List, [], ◌∷◌, replicate, refl, arith, inl, inr}
use Rattle.std.proofs.lemmas.Bool.{le-ltb, eqb-true, cases_Bool, lt-leb}
use Rattle.vbm_header.specs.declared.Header.{Header}
use Rattle.vbm_volume.specs.Image.{word_of, is_free, is_position}
use Rattle.vbm_volume.specs.Sectors.{base_sector, sector_by, sector_count}
use Rattle.vbm_volume.specs.Chain.{chain_sector}

free_is_zeros : (f : List ℕ) (h : Header) (i word : ℕ) → is_free word ≡ true → replicate 512 0 ≡ sector_by f h word i
free_is_zeros f h i word free =
    let at : word ≡ 4294967295 = eqb-true _ _ free in
    let none : is_position word ≡ false = le-ltb _ _ (omega arith) in
    rw none refl

pub chain_sector-one : (f : List ℕ) (h : Header) (i : ℕ) → i < sector_count h → chain_sector ((f, h) ∷ []) i ≡ base_sector f h i
unfolding base_sector
chain_sector-one f h i inside =
    let within : leb (sector_count h) i ≡ false = lt-leb _ _ inside in
    elim (cases_Bool (is_free (word_of f h (i / 2048)))) [
      | inl free ↦ rw (within, free) (free_is_zeros f h i (word_of f h (i / 2048)) free)
      | inr other ↦ rw (within, other) refl
    ]
