-- Shelves as lists and as look-ups, and the results of steps.
use Rattle.std.proofs.Common.{◌≡◌, true, false, cond, List, Some, None, Result, Ok, Err, refl, sym, ap, subst, ◌∙◌, is_some}
use Rattle.std.specs.Prelude.{IfSome, IfOk}
use Rattle.std.specs.Option.{option_map}
use Rattle.std.specs.Str.{bytes_eq}
use Rattle.std.proofs.lemmas.Slice.Eq.{bytes_eq-Decides}
use Rattle.vbm_world.specs.declared.world.ShelfFile.{ShelfFile}
use Rattle.vbm_world.specs.declared.world.WorldMedium.{WorldMedium}
use Rattle.vbm_world.specs.declared.world.World.{World as Shown}
use Rattle.vbm_world.specs.declared.command.Answer.{Answer}
use Rattle.vbm_named.specs.Names.{Name, find_by, put_by, without, Rises}
use Rattle.vbm_world.specs.World.{World, medium_name, medium_of, with_shelved}
use Rattle.vbm_world.specs.Outcomes.{Outcome}
use Rattle.vbm_world.specs.Seen.{file_name, content_of, on_shelf, seen, outcome_of}
use Rattle.vbm_world.specs.Sound.{IsSound, IsSoundShelf}
use Rattle.vbm_named.proofs.Lists.{name_sym, has_found, find_put_same, find_put_other, rises_put, find_without_same, find_without_other}

-- ---- shelves

no_file : (files : List ShelfFile) (name : Name) → on_shelf files name ≡ None → find_by file_name name files ≡ None
no_file files name none =
    elim (find_by file_name name files) as (λ found. option_map content_of found ≡ None → found ≡ None) [
      | Some f ↦ λ e. absurd cc
      | None ↦ λ e. refl
    ] none

-- two look-ups that agree at the name, and elsewhere
by_name : {X : Type 0} (name : Name) (f : Name → X) (x : X) (g : Name → X) → f name ≡ x
    → ((other : Name) → bytes_eq other name ≡ false → f other ≡ g other) → f ≡ (λ other. cond (bytes_eq other name) x (g other))
by_name name f x g here elsewhere = λ i other.
    (elim (bytes_eq other name) as (λ b. bytes_eq other name ≡ b → f other ≡ cond b x (g other)) [
      | true ↦ λ is. ap f ((bytes_eq-Decides other name).0 is) ∙ here
      | false ↦ elsewhere other
    ] refl) i

pub shelf_with : (files : List ShelfFile) (f : ShelfFile) → on_shelf files f.name ≡ None
    → on_shelf (put_by file_name f files) ≡ with_shelved (on_shelf files) f.name (Some f.content)
shelf_with files f none = by_name f.name (on_shelf (put_by file_name f files)) (Some f.content) (on_shelf files)
    (ap (option_map content_of) (find_put_same file_name f files (no_file files f.name none)))
    (λ other apart. ap (option_map content_of) (find_put_other file_name other f files (name_sym f.name other ∙ apart)))

pub shelf_without : (files : List ShelfFile) (name : Name) → on_shelf (without file_name name files) ≡ with_shelved (on_shelf files) name None
shelf_without files name = by_name name (on_shelf (without file_name name files)) None (on_shelf files)
    (ap (option_map content_of) (find_without_same file_name name files))
    (λ other apart. ap (option_map content_of) (find_without_other file_name name other files (name_sym name other ∙ apart)))

pub shelf_with_rises : (files : List ShelfFile) (f : ShelfFile) → on_shelf files f.name ≡ None → Rises file_name files
    → Rises file_name (put_by file_name f files)
shelf_with_rises files f none = rises_put file_name f files (no_file files f.name none)

-- a medium of a name is no file of the shelf
pub not_on_shelf : (w : World) (name : Name) (m : WorldMedium) → IsSound w → medium_of w name ≡ Some m → w.shelf name ≡ None
not_on_shelf w name m sound found =
    elim (w.shelf name) as (λ o. IfSome o (IsSoundShelf w.media name) → o ≡ None) [
      | None ↦ λ shelf. refl
      | Some content ↦ λ shelf.
          let both : true ≡ false = sym (has_found medium_name name w.media ∙ ap is_some found) ∙ shelf.no_medium in absurd cc
    ] (sound.shelf name)

-- ---- results of a step

-- what holds of a value holds of a result that is it
pub ok_is : {A E : Type 0} (r : Result A E) (x : A) (Q : A → Type 0) → IfOk r (λ a. a ≡ x) → Q x → IfOk r Q
ok_is (Ok a) x Q is holds = subst Q (sym is) holds
ok_is (Err e) x Q is holds = tt
