-- The number of a `usage` answer: neither the next world nor whether a command is refused depends on it.
use Rattle.std.proofs.Common.{◌≡◌, ℕ, Result, Ok, Err, refl}
use Rattle.vbm_world.specs.declared.command.Command.{Command}
use Rattle.vbm_world.specs.declared.command.Command.TheVariants.{Usage}
use Rattle.vbm_world.specs.declared.command.Refusal.{Refusal}
use Rattle.vbm_world.specs.declared.command.Answer.TheVariants.{Count}
use Rattle.vbm_world.specs.World.{World}
use Rattle.vbm_world.specs.Places.{Place, find_place}
use Rattle.vbm_world.specs.Outcomes.{sought_or}
use Rattle.vbm_world.specs.Step.{step_of}
use Rattle.vbm_world.specs.Loose.{is_refused}

counted_next : (w : World) (found : Result Place Refusal) (n m : ℕ)
    → (sought_or w found (λ _. (Count n, w))).1 ≡ (sought_or w found (λ _. (Count m, w))).1
counted_next w (Ok place) n m = refl
counted_next w (Err refusal) n m = refl

counted_refused : (w : World) (found : Result Place Refusal) (n m : ℕ)
    → is_refused (sought_or w found (λ _. (Count n, w))).0 ≡ is_refused (sought_or w found (λ _. (Count m, w))).0
counted_refused w (Ok place) n m = refl
counted_refused w (Err refusal) n m = refl

-- the next world is the same for each number
pub same_next : (w : World) (command : Command) (n m : ℕ) → (step_of w command n).1 ≡ (step_of w command m).1
same_next w (Usage place) n m = counted_next w (find_place w place) n m
same_next w command n m = refl

-- and so is whether the command is refused
pub same_refused : (w : World) (command : Command) (n m : ℕ) → is_refused (step_of w command n).0 ≡ is_refused (step_of w command m).0
same_refused w (Usage place) n m = counted_refused w (find_place w place) n m
same_refused w command n m = refl
