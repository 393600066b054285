-- A chain of files that is made one medium leads from a sound world to a sound one.
use Rattle.std.proofs.Common.{◌≡◌, ℕ, ◌*◌, ◌<◌, ◌≤◌, ◌^◌, true, false, List, [], ◌∷◌, ◌++◌, map, length, Option, Some, None, refl, sym, subst, is_some, unwrap_or, IfSome, IsTrue, if◌then◌else◌, leb-false}
use Rattle.std.specs.List.{AllByRecursion}
use Rattle.vbm_ports.specs.Names.{is_medium_name}
use Rattle.vbm_ids.specs.declared.TheConstants.{NUMBER_LIMIT}
use Rattle.vbm_volume.specs.Sectors.{FlatDisk}
use Rattle.vbm_world.specs.declared.command.Refusal.{Refusal}
use Rattle.vbm_world.specs.declared.world.WorldMedium.{WorldMedium}
use Rattle.vbm_world.specs.declared.world.Shelved.{Shelved}
use Rattle.vbm_world.specs.declared.world.Shelved.TheVariants.{Volume, Link, Bad}
use Rattle.vbm_named.specs.Names.{Name}
use Rattle.vbm_world.specs.World.{World}
use Rattle.vbm_world.specs.Refusals.{Check, first_refusal, is_bad_size}
use Rattle.vbm_world.specs.Clones.{file_of, files_of, bad_check, broken_file, entered, chain_checks, import_checks, laid_over, disk_over, chain_disk, import_chain}
use Rattle.vbm_world.specs.Sound.{IsSized, IsSoundFile, IsSoundShelf, IsSound}
use Rattle.vbm_named.proofs.Lists.{All-every, All-of_map}
use Rattle.vbm_world.proofs.Keeping.{LeadsToSound, unless}
use Rattle.vbm_world.proofs.PlacesSound.{size_below}
use Rattle.vbm_world.proofs.DisksMade.{length-laid_over}
use Rattle.vbm_world.proofs.ClonesKeep.{entered_sound}

-- ---- checks

pub first_some : (xs ys : List Check) (refusal : Refusal) → first_refusal xs ≡ Some refusal → first_refusal (xs ++ ys) ≡ Some refusal
first_some [] ys refusal some = absurd cc
first_some (x ∷ xs) ys refusal some = elim x.0 as (λ b. (if b then Some x.1 else first_refusal xs) ≡ Some refusal
    → (if b then Some x.1 else first_refusal (xs ++ ys)) ≡ Some refusal) [
      | true ↦ λ e. e
      | false ↦ λ e. first_some xs ys refusal e
    ] some

pub first_none : (xs ys : List Check) → first_refusal xs ≡ None → first_refusal (xs ++ ys) ≡ first_refusal ys
first_none [] ys none = refl
first_none (x ∷ xs) ys none = elim x.0 as (λ b. (if b then Some x.1 else first_refusal xs) ≡ None
    → (if b then Some x.1 else first_refusal (xs ++ ys)) ≡ first_refusal ys) [
      | true ↦ λ e. absurd cc
      | false ↦ λ e. first_none xs ys e
    ] none

All-behind : {X : Type 0} (P : X → Type 0) (xs ys : List X) → AllByRecursion P (xs ++ ys) → AllByRecursion P ys
All-behind P [] ys all = all
All-behind P (x ∷ xs) ys all = All-behind P xs ys all.1

-- ---- the disk of a chain

-- the capacity of a disk is one that a medium may have
abbrev IsGood : FlatDisk → Type 0
IsGood disk = is_bad_size (512 * length disk) ≡ false

sized_good : (n capacity : ℕ) → IsSized n capacity → is_bad_size (512 * n) ≡ false
sized_good n capacity sized = subst (λ (k : ℕ). is_bad_size k ≡ false) sized.capacity_is sized.good

over_good : (disk : FlatDisk) (above : List Shelved) → IsGood disk → AllByRecursion IsSoundFile above → IsGood (disk_over disk above)
over_good disk [] good sound = good
over_good disk (Link l ∷ above) good sound = over_good (laid_over disk l.sectors) above
    (subst (λ (n : ℕ). is_bad_size (512 * n) ≡ false) (sym (length-laid_over disk l.sectors)) (sized_good (length l.sectors) l.capacity sound.0))
    sound.1
over_good disk (Volume v ∷ above) good sound = over_good disk above good sound.1
over_good disk (Bad k ∷ above) good sound = over_good disk above good sound.1

chain_good : (files : List Shelved) → AllByRecursion IsSoundFile files → is_some (broken_file files) ≡ false → IsGood (chain_disk files)
chain_good (Volume v ∷ above) sound whole = over_good v.flat above (sized_good (length v.flat) v.capacity sound.0) sound.1
chain_good (Link l ∷ above) sound whole = absurd cc
chain_good (Bad k ∷ above) sound whole = absurd cc
chain_good [] sound whole = absurd cc

held_sound : (media : List WorldMedium) (name : Name) (o : Option Shelved) → IfSome o (IsSoundShelf media name) → IsSoundFile (unwrap_or o (Bad 0))
held_sound media name None sound = tt
held_sound media name (Some file) sound = sound.sound

files_sound : (w : World) → IsSound w → (files : List Name) → AllByRecursion IsSoundFile (files_of w files)
files_sound w ok files =
    All-of_map (file_of w) IsSoundFile files (All-every _ (λ name. held_sound w.media name (w.shelf name) (ok.shelf name)) files)

-- ---- importchain

module _ (w : World) (ok : IsSound w) (files : List Name) (name : Name)
    (pass : AllByRecursion (λ (check : Check). check.0 ≡ false) (import_checks w files name)) where
  chain_pass : AllByRecursion (λ (check : Check). check.0 ≡ false) (chain_checks w files)
  chain_pass = All-behind _ (map (λ (file : Name). bad_check (w.shelf file)) files) (chain_checks w files) pass.1.1.1

  pub import_good : is_bad_size (512 * length (chain_disk (files_of w files))) ≡ false
  import_good = chain_good (files_of w files) (files_sound w ok files) chain_pass.1.1.1.0

  pub import_room : w.next < NUMBER_LIMIT
  import_room = leb-false NUMBER_LIMIT w.next chain_pass.1.1.0

  imported_sound : IsTrue (is_medium_name name) → IsSound (entered w name (chain_disk (files_of w files))).1
  imported_sound named = entered_sound w ok name named pass.0 pass.1.0 chain_pass.1.0 chain_pass.1.1.0 (chain_disk (files_of w files)) import_good

  pub import_small : 512 * length (chain_disk (files_of w files)) ≤ 2 ^ 41
  import_small = size_below (512 * length (chain_disk (files_of w files))) import_good

pub import_keeps : (w : World) → IsSound w → (files : List Name) (name : Name) → IsTrue (is_medium_name name) → IsSound (import_chain w files name).1
import_keeps w ok files name named = unless LeadsToSound w (import_checks w files name) _ (λ refusal. ok)
    (λ pass. imported_sound w ok files name pass named)
