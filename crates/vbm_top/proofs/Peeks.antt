-- What `peek` tells.
use Rattle.std.proofs.Common.{◌≡◌, Ok, Err, refl, sym}
use Rattle.vbm_peek.specs.declared.peeking.PeekResult.{PeekResult}
use Rattle.vbm_peek.specs.declared.peeking.PeekResult.TheVariants.{Sector, Refused, Failed, NoMemory}
use Rattle.vbm_peek.specs.Peek.{Peeked, Tells}

-- the answer that a result tells, or where it tells none, the one that is asked for
pub told_answer : (told : Type 0) (found : PeekResult) (asked : Peeked) → (told → Tells found asked)
    → (answer : Peeked) × (told → answer ≡ asked) × Tells found answer
told_answer told (Sector bytes) asked tells = (Ok bytes, λ t. sym (tells t), refl)
told_answer told (Refused refusal) asked tells = (Err refusal, λ t. sym (tells t), refl)
told_answer told Failed asked tells = (asked, λ t. refl, tt)
told_answer told NoMemory asked tells = (asked, λ t. refl, tt)
