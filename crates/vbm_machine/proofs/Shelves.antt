-- A file more on the shelf of a sound world.
use Rattle.std.proofs.Common.{◌≡◌, Bool, true, false, cond, List, Option, Some, None, refl, sym, ap, subst, ◌∙◌, is_some, IsTrue, IfSome}
use Rattle.std.specs.Option.{option_map}
use Rattle.std.specs.Str.{bytes_eq}
use Rattle.std.proofs.lemmas.Bool.{cond_both}
use Rattle.std.proofs.lemmas.Slice.Eq.{bytes_eq-Decides}
use Rattle.vbm_ports.specs.Names.{is_medium_name}
use Rattle.vbm_named.specs.Names.{Name, find_by, has_name, put_by, Rises}
use Rattle.vbm_named.proofs.Lists.{has_found}
use Rattle.vbm_world.specs.declared.world.World.{World as Shown}
use Rattle.vbm_world.specs.declared.world.ShelfFile.{ShelfFile}
use Rattle.vbm_world.specs.declared.world.Shelved.{Shelved}
use Rattle.vbm_world.specs.World.{medium_name, with_shelved}
use Rattle.vbm_world.specs.Seen.{file_name, content_of, on_shelf, seen}
use Rattle.vbm_world.specs.Sound.{IsSoundFile, IsSoundShelf, IsSound}
use Rattle.vbm_world.proofs.Stepping.{shelf_with, shelf_with_rises}

none_from : {X : Type 0} (o : Option X) → is_some o ≡ false → o ≡ None
none_from None e = refl
none_from (Some x) e = absurd cc

module _ (w : Shown) (f : ShelfFile) (ok : IsSound (seen w)) (named : IsTrue (is_medium_name f.name))
    (free : is_some (find_by medium_name f.name w.media) ≡ false) (absent : is_some (find_by file_name f.name w.shelf) ≡ false)
    (sound : IsSoundFile f.content) where
  nothing : on_shelf w.shelf f.name ≡ None
  nothing = ap (option_map content_of) (none_from (find_by file_name f.name w.shelf) absent)

  files_sound : (name : Name) → IfSome (with_shelved (on_shelf w.shelf) f.name (Some f.content) name) (IsSoundShelf w.media name)
  files_sound name = cond_both (bytes_eq name f.name) (Some f.content) (on_shelf w.shelf name) (λ o. IfSome o (IsSoundShelf w.media name))
      (λ e. subst (IsSoundShelfNamed) (sym ((bytes_eq-Decides name f.name).0 e))
      (record { named = named; no_medium = has_found medium_name f.name w.media ∙ free; sound = sound }))
      (λ e. ok.shelf name)
    where
      IsSoundShelfNamed : Name → Type 0
      IsSoundShelfNamed n = IsSoundShelf w.media n f.content

  pub shelf_sound : IsSound (seen (record w { shelf = put_by file_name f w.shelf }))
  shelf_sound = record {
    seed = ok.seed;
    next = ok.next;
    inner = ok.inner;
    media_order = ok.media_order;
    media_names = ok.media_names;
    media = ok.media;
    machine_order = ok.machine_order;
    machines = ok.machines;
    first = ok.first;
    shelf = λ name. subst (λ (shelf : Name → Option Shelved). IfSome (shelf name) (IsSoundShelf w.media name))
        (sym (shelf_with w.shelf f nothing)) (files_sound name);
    few_media = ok.few_media;
    few_machines = ok.few_machines;
    few_snapshots = ok.few_snapshots;
    few_places = ok.few_places;
  }

  pub shelf_rises : Rises file_name w.shelf → Rises file_name (put_by file_name f w.shelf)
  shelf_rises = shelf_with_rises w.shelf f nothing
