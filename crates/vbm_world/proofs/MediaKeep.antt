-- Commands on media lead from a sound world to a sound one.
use Rattle.std.proofs.Common.{◌≡◌, ℕ, ◌+◌, ◌*◌, Bool, true, false, List, length, Option, Some, None, refl, sym, subst, arith, is_some, IsTrue, IsFalse, IfSome, if◌then◌else◌, leb-false}
use Rattle.std.specs.List.{AllByRecursion}
use Rattle.std.specs.Str.{bytes_eq}
use Rattle.std.proofs.lemmas.Bool.{cond_both}
use Rattle.std.proofs.lemmas.Slice.Eq.{bytes_eq-Decides}
use Rattle.vbm_ports.specs.Names.{is_medium_name}
use Rattle.vbm_ids.specs.declared.TheConstants.{NUMBER_LIMIT}
use Rattle.vbm_volume.specs.Sectors.{FlatDisk}
use Rattle.vbm_volume.specs.declared.flat.Variant.{Variant}
use Rattle.vbm_world.specs.declared.command.Refusal.TheVariants.{NoSuchMedium}
use Rattle.vbm_world.specs.declared.world.WorldMedium.{WorldMedium}
use Rattle.vbm_world.specs.declared.world.Shelved.{Shelved}
use Rattle.vbm_world.specs.declared.world.Shelved.TheVariants.{Volume, Link, Bad}
use Rattle.vbm_named.specs.Names.{Name, without}
use Rattle.vbm_world.specs.World.{World, medium_name, medium_of, is_in_use, with_shelved}
use Rattle.vbm_world.specs.Refusals.{Check, is_bad_size}
use Rattle.vbm_world.specs.Media.{made_medium, opened_medium, opened, shelved, create_medium, create_checks, open_medium, open_checks, file_checks, close_medium, close_checks}
use Rattle.vbm_world.specs.Sound.{HasCapacity, IsSoundMedium, IsSoundShelf, IsSound}
use Rattle.vbm_named.proofs.Lists.{name_refl, any_none, All-find, others-without}
use Rattle.vbm_world.proofs.Keeping.{LeadsToSound, unless, found, added_sound, removed_sound, shelf_without, zero_disk_fits}

pub create_keeps : (w : World) → IsSound w → (name : Name) → IsTrue (is_medium_name name) → (capacity : ℕ) (variant : Variant)
    → IsSound (create_medium w name capacity variant).1
create_keeps w ok name named capacity variant =
    unless LeadsToSound w (create_checks w name capacity) _ (λ refusal. ok) (λ pass.
    added_sound w ok (made_medium w name capacity variant) (record {
      absent = pass.0;
      named = named;
      has_disk = refl;
      disk = zero_disk_fits capacity pass.1.1.0;
      capacity = pass.1.1.0;
      room = pass.1.1.1.0;
    }) (w.next + 1) (omega (arith, leb-false NUMBER_LIMIT w.next pass.1.1.1.1.0)) w.shelf (record { sound = ok.shelf; away = pass.1.0 }))

file_keeps : (w : World) → IsSound w → (name : Name) → IsTrue (is_medium_name name) → is_some (medium_of w name) ≡ false
    → (o : Option Shelved) → w.shelf name ≡ o → AllByRecursion (λ (check : Check). check.0 ≡ false) (file_checks w o)
    → IsSound (opened w name o).1
file_keeps w ok name named absent (Some (Volume v)) is pass =
    let file = subst (λ o. IfSome o (IsSoundShelf w.media name)) is (ok.shelf name) in
    added_sound w ok (opened_medium name v)
    (record { absent = absent; named = named; has_disk = refl; disk = file.sound.capacity_is; capacity = file.sound.good; room = pass.1.1.0 })
    w.next ok.next (with_shelved w.shelf name None) (record {
      sound = λ other. cond_both (bytes_eq other name) None (w.shelf other) (λ o. IfSome o (IsSoundShelf w.media other))
          (λ e. tt) (λ e. ok.shelf other);
      away = rw (name_refl name) refl;
    })
file_keeps w ok name named absent (Some (Link l)) is pass = ok
file_keeps w ok name named absent (Some (Bad k)) is pass = ok
file_keeps w ok name named absent None is pass = ok

pub open_keeps : (w : World) → IsSound w → (name : Name) → IsTrue (is_medium_name name) → IsSound (open_medium w name).1
open_keeps w ok name named =
    unless LeadsToSound w (open_checks w name) _ (λ refusal. ok) (λ pass. file_keeps w ok name named pass.0 (w.shelf name) refl pass.1)

-- a medium that is closed, as a file of the shelf
shelved_sound : (media : List WorldMedium) (m : WorldMedium) (name : Name) (flat : Option FlatDisk) → IsTrue (is_medium_name name)
    → HasCapacity flat m.capacity → IsFalse (is_bad_size m.capacity)
    → IfSome (shelved m flat) (IsSoundShelf (without medium_name name media) name)
shelved_sound media m name None named disk good = tt
shelved_sound media m name (Some flat) named disk good = record {
  named = named;
  no_medium = any_none _ (without medium_name name media) (others-without medium_name name media);
  sound = record { capacity_is = disk; good = good };
}

closed_keeps : (w : World) → IsSound w → (name : Name) → IsTrue (is_medium_name name) → (m : WorldMedium) → medium_of w name ≡ Some m
    → is_in_use w.machines name ≡ false → (delete : Bool) → IsSound
    (record w { media = without medium_name name w.media; shelf = if delete then w.shelf else with_shelved w.shelf name (shelved m m.flat) })
closed_keeps w ok name named m is unused true =
    removed_sound w ok name unused w.shelf (λ other. shelf_without name w.media other (w.shelf other) (ok.shelf other))
closed_keeps w ok name named m is unused false =
    let sound = All-find medium_name (IsSoundMedium w.machines) name m w.media ok.media is in
    removed_sound w ok name unused (with_shelved w.shelf name (shelved m m.flat)) (λ other.
    cond_both (bytes_eq other name) (shelved m m.flat) (w.shelf other) (λ o. IfSome o (IsSoundShelf (without medium_name name w.media) other))
    (λ e. subst (λ n. IfSome (shelved m m.flat) (IsSoundShelf (without medium_name name w.media) n)) (sym ((bytes_eq-Decides other name).0 e))
    (shelved_sound w.media m name m.flat named sound.disk sound.capacity))
    (λ e. shelf_without name w.media other (w.shelf other) (ok.shelf other)))

pub close_keeps : (w : World) → IsSound w → (name : Name) → IsTrue (is_medium_name name) → (delete : Bool)
    → IsSound (close_medium w name delete).1
close_keeps w ok name named delete = found LeadsToSound w NoSuchMedium (medium_of w name) _ ok (λ m is.
    unless LeadsToSound w (close_checks w name) _ (λ refusal. ok) (λ pass. closed_keeps w ok name named m is pass.0 delete))
