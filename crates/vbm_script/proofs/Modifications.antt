-- The words behind `modifymedium`.
use Rattle.std.proofs.Common.{◌≡◌, ◌≢◌, ℕ, Bool, List, [], ◌∷◌, length, ap, arith}
use Rattle.std.specs.Prelude.{codes}
use Rattle.vbm_lines.specs.Lines.{Words}
use Rattle.vbm_modes.specs.declared.Mode.{Mode}
use Rattle.vbm_world.specs.declared.command.Command.{Command}
use Rattle.vbm_world.specs.declared.command.Command.TheVariants.{Resize, SetAutoreset, SetMode}
use Rattle.vbm_world.specs.declared.command.PlaceName.{PlaceName}
use Rattle.vbm_world.specs.Texts.{IsForm, place_text}
use Rattle.vbm_world.proofs.Verbs.{modifymedium, Modifying, to_mode, to_autoreset, to_compact, to_size, command_of, none_of_verb}
use Rattle.vbm_script.specs.Places.{IsPlace}
use Rattle.vbm_script.proofs.Forms.{formed_as}

abbrev Form : Words → Command → Type 0
Form tail c = IsForm (codes "modifymedium" ∷ tail) c

pub no_compact : (tail : Words) → length tail ≡ 2 → ((word : List ℕ) → tail ≡ word ∷ codes "--compact" ∷ [] → ⊥) → (c : Command)
    → IsForm (codes "modifymedium" ∷ tail) c → ⊥
no_compact tail two none = none_of_verb modifymedium tail by_arguments
  where
    by_arguments : (a : Modifying) → Form tail (command_of modifymedium a) → ⊥
    by_arguments (to_compact place) form = none (place_text place) (cc form.is)
    by_arguments a form = omega (arith, two, ap length form.is)

pub compacted_place : (tail : Words) (word : List ℕ) → tail ≡ word ∷ codes "--compact" ∷ [] → (c : Command)
    → IsForm (codes "modifymedium" ∷ tail) c → (place : PlaceName) × IsPlace word place
compacted_place tail word is c form = let k = formed_as modifymedium tail c form in by_arguments k.0 k.1
  where
    by_arguments : (a : Modifying) → Form tail (command_of modifymedium a) → (place : PlaceName) × IsPlace word place
    by_arguments (to_compact place) form = (place, record { is = cc (form.is, is); spelled = form.spelled })
    by_arguments a form = absurd (omega (arith, ap length is, ap length form.is))

pub no_modification : (tail : Words) → length tail ≢ 2 → ((name : List ℕ) (mode : Mode) → IsForm (codes "modifymedium" ∷ tail) (SetMode name mode) → ⊥)
    → ((vm : List ℕ) (port : ℕ) (on : Bool) → IsForm (codes "modifymedium" ∷ tail) (SetAutoreset vm port on) → ⊥)
    → ((name : List ℕ) (mb : ℕ) → IsForm (codes "modifymedium" ∷ tail) (Resize name mb) → ⊥) → (c : Command)
    → IsForm (codes "modifymedium" ∷ tail) c → ⊥
no_modification tail not_two no_mode no_autoreset no_size = none_of_verb modifymedium tail by_arguments
  where
    by_arguments : (a : Modifying) → Form tail (command_of modifymedium a) → ⊥
    by_arguments (to_mode name mode) form = no_mode name mode form
    by_arguments (to_autoreset vm port on) form = no_autoreset vm port on form
    by_arguments (to_size name mb) form = no_size name mb form
    by_arguments (to_compact place) form = not_two (omega (arith, ap length form.is))
