use Rattle.std.proofs.Common.{refl, inr}
use Rattle.vbm_top.proofs.saying.write_store.Goals as goal

pub returns-in-Err : goal.returns-in-Err
returns-in-Err g c = inr (refl, (λ told. refl, refl))
