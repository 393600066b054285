use Rattle.std.proofs.Common.{sym, subst}
use Rattle.vbm_store.specs.Serves.{IsWritable}
use Rattle.vbm_media.proofs.Closes.{closed_writable}
use Rattle.vbm_media.proofs.close.close_entry.Goals as goal

pub plan_closing-requires-clause-library : goal.plan_closing-requires-clause-library
plan_closing-requires-clause-library c =
    subst IsWritable (sym c.in_ok-library.ensures) (closed_writable c.args.store.now.library c.args.name.now c.requires.library c.requires.can)
