-- The words behind `clonemedium` and `usage`.
use Rattle.std.proofs.Common.{◌≡◌, ℕ, List, [], ◌∷◌, length, ap, arith}
use Rattle.std.specs.Prelude.{codes}
use Rattle.vbm_lines.specs.Lines.{Words}
use Rattle.vbm_world.specs.declared.command.Command.{Command}
use Rattle.vbm_world.specs.declared.command.PlaceName.{PlaceName}
use Rattle.vbm_world.specs.Texts.{IsForm, IsMedium, place_text}
use Rattle.vbm_world.proofs.Verbs.{clonemedium, usage, Cloning, to_new, to_existing, command_of, none_of_verb}
use Rattle.vbm_script.specs.Places.{IsPlace}
use Rattle.vbm_script.proofs.Forms.{formed_as}

abbrev Form : Words → Command → Type 0
Form tail c = IsForm (codes "clonemedium" ∷ tail) c

pub no_new : (tail : Words) → length tail ≡ 2 → ((word name : List ℕ) → tail ≡ word ∷ name ∷ [] → IsMedium name → ⊥) → (c : Command)
    → IsForm (codes "clonemedium" ∷ tail) c → ⊥
no_new tail two none = none_of_verb clonemedium tail by_arguments
  where
    by_arguments : (a : Cloning) → Form tail (command_of clonemedium a) → ⊥
    by_arguments (to_new place name) form = none (place_text place) name (cc form.is) form.spelled.1
    by_arguments (to_existing place name) form = omega (arith, two, ap length form.is)

pub no_existing : (tail : Words) → length tail ≡ 3 → ((word name : List ℕ) → tail ≡ word ∷ name ∷ codes "--existing" ∷ [] → IsMedium name → ⊥)
    → (c : Command) → IsForm (codes "clonemedium" ∷ tail) c → ⊥
no_existing tail three none = none_of_verb clonemedium tail by_arguments
  where
    by_arguments : (a : Cloning) → Form tail (command_of clonemedium a) → ⊥
    by_arguments (to_new place name) form = omega (arith, three, ap length form.is)
    by_arguments (to_existing place name) form = none (place_text place) name (cc form.is) form.spelled.1

pub copied_place : (tail : Words) (word : List ℕ) (behind : Words) → tail ≡ word ∷ behind → (c : Command)
    → IsForm (codes "clonemedium" ∷ tail) c → (place : PlaceName) × IsPlace word place
copied_place tail word behind is c form = let k = formed_as clonemedium tail c form in by_arguments k.0 k.1
  where
    by_arguments : (a : Cloning) → Form tail (command_of clonemedium a) → (place : PlaceName) × IsPlace word place
    by_arguments (to_new place name) form = (place, record { is = cc (form.is, is); spelled = form.spelled.0 })
    by_arguments (to_existing place name) form = (place, record { is = cc (form.is, is); spelled = form.spelled.0 })

pub counted_place : (tail : Words) (word : List ℕ) → tail ≡ word ∷ [] → (c : Command) → IsForm (codes "usage" ∷ tail) c
    → (place : PlaceName) × IsPlace word place
counted_place tail word is c form =
    let k = formed_as usage tail c form in (k.0, record { is = cc (k.1.is, is); spelled = k.1.spelled })
