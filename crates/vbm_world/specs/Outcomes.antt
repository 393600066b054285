-- What a command leads to: an answer, and the next world.
use Rattle.std.specs.Prelude.{List, Option, Some, None, Result, Ok, Err}
use Rattle.vbm_world.specs.declared.command.Answer.{Answer}
use Rattle.vbm_world.specs.declared.command.Answer.TheVariants.{Refused}
use Rattle.vbm_world.specs.declared.command.Refusal.{Refusal}
use Rattle.vbm_world.specs.World.{World}
use Rattle.vbm_world.specs.Refusals.{Check, first_refusal}

abbrev pub Outcome : Type 0
Outcome = Answer × World

-- a refusal changes nothing
abbrev pub refused : World → Refusal → Outcome
refused w refusal = (Refused refusal, w)

abbrev pub refused_or : World → Option Refusal → Outcome → Outcome
refused_or w None outcome = outcome
refused_or w (Some refusal) outcome = refused w refusal

-- the outcome, unless one of the checks refuses
abbrev pub unless_refused : World → List Check → Outcome → Outcome
unless_refused w checks outcome = refused_or w (first_refusal checks) outcome

-- a look-up
abbrev pub found_or : {X : Type 0} → World → Refusal → Option X → (X → Outcome) → Outcome
found_or w refusal None outcome = refused w refusal
found_or w refusal (Some x) outcome = outcome x

-- a look-up that tells why there is nothing
abbrev pub sought_or : {X : Type 0} → World → Result X Refusal → (X → Outcome) → Outcome
sought_or w (Ok x) outcome = outcome x
sought_or w (Err refusal) outcome = refused w refusal
