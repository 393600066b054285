use Rattle.std.proofs.Common.{◌≡◌, Result, Ok, Err, subst}
use Rattle.vbm_registry.specs.declared.library.Library.{Library}
use Rattle.vbm_registry.specs.declared.fault.BadStore.{BadStore}
use Rattle.vbm_registry.specs.Library.{library_name}
use Rattle.vbm_engine.specs.Parts.{Finds}
use Rattle.vbm_engine.proofs.Openings.{front_read}
use Rattle.vbm_engine.proofs.opening.read_into.Goals as goal

pub returns-clause-told : goal.returns-clause-told
returns-clause-told g c = λ told.
    let file = (g.D.Disk.state c.args.disk.now).files library_name in
    let same = front_read file _ _ c.in-Ok.n (c.requires.file told) (c.requires.long told) (c.in-Ok.ensures.answer told) in
    subst (λ (held : Result Library BadStore). Finds (λ l. held ≡ Ok l) (λ bad. held ≡ Err bad) c.decode_library.result) same c.decode_library.ensures.told
