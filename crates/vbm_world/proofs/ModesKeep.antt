-- A change of a medium's mode leads from a sound world to a sound one.
use Rattle.std.proofs.Common.{◌≡◌, true, false, cond, List, Option, Some, None, refl, sym, ap, subst, ◌∙◌, sum_by, IsTrue}
use Rattle.std.specs.Option.{option_map}
use Rattle.std.specs.Str.{bytes_eq}
use Rattle.std.proofs.lemmas.Bool.{cond_both, cond-false}
use Rattle.std.proofs.lemmas.List.{length-map}
use Rattle.vbm_modes.specs.declared.Mode.{Mode}
use Rattle.vbm_world.specs.declared.command.Refusal.TheVariants.{NoSuchMedium}
use Rattle.vbm_world.specs.declared.world.WorldMedium.{WorldMedium}
use Rattle.vbm_named.specs.Names.{Name, is_named, find_by, change_by}
use Rattle.vbm_world.specs.World.{World, medium_name, medium_of, is_in_use, is_frozen}
use Rattle.vbm_world.specs.Media.{set_mode, mode_checks}
use Rattle.vbm_world.specs.Sound.{IsSoundMedium, first_count, IsSound}
use Rattle.vbm_named.proofs.Lists.{same_name, find_named, find_change, rises_change, All-change, has_map}
use Rattle.vbm_world.proofs.Keeping.{LeadsToSound, unless, found, not_frozen, machines_kept, shelf_kept}

module _ (w : World) (ok : IsSound w) (name : Name) (mode : Mode) (unused : is_in_use w.machines name ≡ false) where
  abbrev with_mode : WorldMedium → WorldMedium
  with_mode m = record m { mode = mode }

  abbrev media : List WorldMedium
  media = change_by medium_name name with_mode w.media

  -- a medium of another name is found as before
  found_other : (n : Name) (o : Option WorldMedium) → bytes_eq n name ≡ false → ((m : WorldMedium) → o ≡ Some m → bytes_eq m.name n ≡ true)
      → option_map (λ (m : WorldMedium). cond (is_named medium_name name m) (with_mode m) m) o ≡ o
  found_other n None apart named = refl
  found_other n (Some m) apart named =
      let same : m.name ≡ n = same_name m.name n (named m refl) in
      let other : bytes_eq m.name name ≡ false = subst (λ (k : Name). bytes_eq k name ≡ false) (sym same) apart in
      ap Some (cond-false _ _ _ other)

  mode_name : (m : WorldMedium) → (cond (is_named medium_name name m) (with_mode m) m).name ≡ m.name
  mode_name m = cond_both (is_named medium_name name m) (with_mode m) m (λ (d : WorldMedium). d.name ≡ m.name) (λ e. refl) (λ e. refl)

  -- media of the name are frozen in no mode
  free_of : (m : WorldMedium) → bytes_eq m.name name ≡ true → is_frozen w.machines m ≡ false
  free_of m e = not_frozen m.name w.machines m.mode (rw (same_name m.name name e) unused)

  mode_sound : IsSound (record w { media = media })
  mode_sound = record {
    seed = ok.seed;
    next = ok.next;
    inner = ok.inner;
    media_order = rises_change medium_name name with_mode (λ m. refl) w.media ok.media_order;
    media_names = All-change medium_name name with_mode (λ m. refl) _ (λ m e h. h) w.media ok.media_names;
    media = All-change medium_name name with_mode (λ m. refl) (IsSoundMedium w.machines) (λ m e h. record {
      frozen = h.frozen ∙ free_of m e ∙ sym (free_of (with_mode m) e);
      disk = h.disk;
      capacity = h.capacity;
    }) w.media ok.media;
    machine_order = ok.machine_order;
    machines = machines_kept name w.machines w.media media unused
        (λ n apart. find_change medium_name name with_mode (λ m. refl) n w.media
        ∙ found_other n (find_by medium_name n w.media) apart (λ m is. find_named medium_name n m w.media is)) ok.machines;
    first = All-change medium_name name with_mode (λ m. refl)
        (λ (m : WorldMedium). IsTrue (is_frozen w.machines m) → sum_by (first_count m.name) w.machines ≡ 1)
        (λ m e h frozen. let clash : true ≡ false = sym frozen ∙ free_of (with_mode m) e in absurd cc) w.media ok.first;
    shelf = λ other. shelf_kept w.media media other (w.shelf other)
        (λ there free. has_map _ medium_name medium_name mode_name other w.media ∙ free) (ok.shelf other);
    few_media = rw length-map ok.few_media;
    few_machines = ok.few_machines;
    few_snapshots = ok.few_snapshots;
    few_places = ok.few_places;
  }

pub set_mode_keeps : (w : World) → IsSound w → (name : Name) (mode : Mode) → IsSound (set_mode w name mode).1
set_mode_keeps w ok name mode = found LeadsToSound w NoSuchMedium (medium_of w name) _ ok (λ m is.
    unless LeadsToSound w (mode_checks w name) _ (λ refusal. ok) (λ pass. mode_sound w ok name mode pass.0))
