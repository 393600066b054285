-- Copies of disks lead from a sound world to a sound one.
use Rattle.std.proofs.Common.{◌≡◌, ℕ, ◌+◌, ◌-◌, ◌*◌, ◌≤◌, true, false, List, [], ◌∷◌, length, replicate, Option, Some, None, refl, sym, ap, subst, ◌∙◌, arith, is_some, is_none, unwrap_or, IsTrue, IsFalse, leb-false}
use Rattle.std.specs.List.{AllByRecursion}
use Rattle.std.specs.Str.{bytes_eq}
use Rattle.std.proofs.lemmas.Bool.{or_parts, ltb-false}
use Rattle.std.proofs.lemmas.List.{length-append, length-replicate}
use Rattle.vbm_ports.specs.Names.{is_medium_name}
use Rattle.vbm_ids.specs.declared.TheConstants.{NUMBER_LIMIT}
use Rattle.vbm_volume.specs.Sectors.{FlatDisk}
use Rattle.vbm_world.specs.declared.command.PlaceName.{PlaceName}
use Rattle.vbm_world.specs.declared.command.Refusal.TheVariants.{NoSuchMedium}
use Rattle.vbm_world.specs.declared.world.WorldMedium.{WorldMedium}
use Rattle.vbm_named.specs.Names.{Name}
use Rattle.vbm_world.specs.World.{World, medium_name, medium_of, is_in_use}
use Rattle.vbm_world.specs.Places.{Place, find_place}
use Rattle.vbm_world.specs.Refusals.{Check, first_refusal, is_bad_size, is_medium, is_full, is_spent}
use Rattle.vbm_world.specs.Clones.{copied_medium, entered, clone_checks, clone_new, padded, disk_len, overwritten, overwrite_checks, put_over, clone_existing}
use Rattle.vbm_world.specs.Sound.{HasCapacity, IsSound}
use Rattle.vbm_named.proofs.Lists.{find_named, same_name}
use Rattle.vbm_world.proofs.Keeping.{LeadsToSound, unless, found, sought, added_sound, not_frozen}
use Rattle.vbm_world.proofs.PlacesSound.{medium_sound, place_sound}
use Rattle.vbm_world.proofs.MediaChanged.{medium_changed_sound, unused_machines}

-- ---- a new medium

-- a medium with a disk of a capacity that it may have
pub entered_sound : (w : World) → IsSound w → (name : Name) → IsTrue (is_medium_name name) → is_medium w name ≡ false → is_some (w.shelf name) ≡ false
    → is_full w ≡ false → is_spent w ≡ false → (disk : FlatDisk) → is_bad_size (512 * length disk) ≡ false → IsSound (entered w name disk).1
entered_sound w ok name named absent away room left disk good = added_sound w ok (copied_medium w name disk)
    (record { absent = absent; named = named; has_disk = refl; disk = refl; capacity = good; room = room })
    (w.next + 1) (omega (arith, leb-false NUMBER_LIMIT w.next left)) w.shelf (record { sound = ok.shelf; away = away })

-- the capacity of a disk that is there
good_disk : (disk : Option FlatDisk) (capacity : ℕ) → HasCapacity disk capacity → IsFalse (is_bad_size capacity) → is_none disk ≡ false
    → is_bad_size (512 * length (unwrap_or disk [])) ≡ false
good_disk None capacity sized good there = absurd cc
good_disk (Some disk) capacity sized good there = subst (λ (n : ℕ). is_bad_size n ≡ false) sized good

pub clone_new_keeps : (w : World) → IsSound w → (place : PlaceName) (name : Name) → IsTrue (is_medium_name name)
    → IsSound (clone_new w place name).1
clone_new_keeps w ok place name named = sought LeadsToSound w (find_place w place) _ (λ refusal. ok) (λ p is.
    unless LeadsToSound w (clone_checks w p name) _ (λ refusal. ok) (λ pass.
    let sound = place_sound w ok place p is in
    entered_sound w ok name named pass.0 pass.1.0 pass.1.1.1.0 pass.1.1.1.1.0 (unwrap_or p.disk [])
    (good_disk p.disk p.medium.capacity sound.disk sound.capacity pass.1.1.0)))

-- ---- over a medium

pub length-padded : (long : ℕ) (disk : FlatDisk) → length disk ≤ long → length (padded long disk) ≡ long
length-padded long disk fits =
    let sector : List ℕ = replicate 512 0 in
    omega (arith, length-append disk (replicate (long - length disk) sector), length-replicate (long - length disk) sector)

-- where no check refuses
pub none_refused : (checks : List Check) → first_refusal checks ≡ None → AllByRecursion (λ (check : Check). check.0 ≡ false) checks
none_refused [] none = tt
none_refused (check ∷ checks) none = elim check.0 as (λ b. check.0 ≡ b → (check.0 ≡ false) × AllByRecursion (λ (check : Check). check.0 ≡ false) checks) [
  | true ↦ λ e. let some : first_refusal (check ∷ checks) ≡ Some check.1 = rw e refl in absurd cc
  | false ↦ λ e. (e, none_refused checks (let rest : first_refusal (check ∷ checks) ≡ first_refusal checks = rw e refl in sym rest ∙ none))
] refl

sized_len : (disk : Option FlatDisk) (capacity : ℕ) → HasCapacity disk capacity → is_none disk ≡ false → capacity ≡ 512 * disk_len disk
sized_len None capacity sized there = absurd cc
sized_len (Some disk) capacity sized there = sized

module _ (w : World) (ok : IsSound w) (name : Name) (p : Place) (target : WorldMedium) (is : medium_of w name ≡ Some target)
    (pass : AllByRecursion (λ (check : Check). check.0 ≡ false) (overwrite_checks w p target)) where
  target_unused : is_in_use w.machines name ≡ false
  target_unused = subst (λ n. is_in_use w.machines n ≡ false) (same_name target.name name (find_named medium_name name target w.media is))
      (or_parts (is_in_use w.machines target.name) (bytes_eq p.medium.name target.name) pass.0).0

  -- a medium that is in use nowhere has a disk
  target_disk : is_none target.flat ≡ false
  target_disk = let unused = (or_parts (is_in_use w.machines target.name) (bytes_eq p.medium.name target.name) pass.0).0 in
      (medium_sound w ok name target is).frozen ∙ not_frozen target.name w.machines target.mode unused

  target_sized : target.capacity ≡ 512 * disk_len target.flat
  target_sized = sized_len target.flat target.capacity (medium_sound w ok name target is).disk target_disk

  pub fits_over : disk_len p.disk ≤ disk_len target.flat
  fits_over = omega (arith, target_sized, ltb-false target.capacity (512 * disk_len p.disk) pass.1.1.1.1.1.0)

  over_sound : IsSound (put_over w name (unwrap_or p.disk []) target).1
  over_sound =
      let sound = medium_sound w ok name target is in
      let change = overwritten w (unwrap_or p.disk []) in
      let long : length (padded (disk_len target.flat) (unwrap_or p.disk [])) ≡ disk_len target.flat =
      length-padded (disk_len target.flat) (unwrap_or p.disk []) fits_over in
      medium_changed_sound w ok name target is change (λ x. refl) refl (sym target_disk) (target_sized ∙ ap (λ (n : ℕ). 512 * n) (sym long)) sound.capacity
      (unused_machines w ok name target is change (λ x. refl) target_unused)
      (w.next + 1) (omega (arith, leb-false NUMBER_LIMIT w.next pass.1.1.1.1.0))

pub clone_existing_keeps : (w : World) → IsSound w → (place : PlaceName) (name : Name) → IsSound (clone_existing w place name).1
clone_existing_keeps w ok place name = sought LeadsToSound w (find_place w place) _ (λ refusal. ok) (λ p there.
    found LeadsToSound w NoSuchMedium (medium_of w name) _ ok (λ target is.
    unless LeadsToSound w (overwrite_checks w p target) _ (λ refusal. ok) (λ pass. over_sound w ok name p target is pass)))
