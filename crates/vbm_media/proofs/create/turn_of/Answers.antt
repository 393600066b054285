use Rattle.std.proofs.Common.{sym, subst}
use Rattle.vbm_store.specs.Serves.{IsWritable}
use Rattle.vbm_media.proofs.Creating.{made_writable}
use Rattle.vbm_media.proofs.create.turn_of.Goals as goal

pub plan_of-requires-clause-library : goal.plan_of-requires-clause-library
plan_of-requires-clause-library c =
    subst IsWritable (sym c.in_ok-library.ensures)
    (made_writable c.args.store.now.library c.args.name.now c.args.capacity c.requires.sound.library c.requires.name c.requires.can)
