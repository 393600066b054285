use Rattle.std.proofs.Common.{sym, subst}
use Rattle.vbm_intent.specs.Changes.{Fits}
use Rattle.vbm_intent.specs.Log.{SameBesidesLog}
use Rattle.vbm_intent.specs.Changes.{changed}
use Rattle.vbm_guest.proofs.TakenImages.{taken_staged}
use Rattle.vbm_guest.proofs.SettledFlush.{all_fit, flush_fits, flush_serves}
use Rattle.vbm_guest.proofs.flushing.guest_flush.Goals as goal

pub commit_or_sync-settled-requires-clause-fits : goal.commit_or_sync-settled-requires-clause-fits
commit_or_sync-settled-requires-clause-fits g c = λ told.
    subst (λ cs. Fits cs (g.D.Disk.state c.args.disk.now).files) (sym c.plan_all.ensures.changes)
    (all_fit (g.D.Disk.state c.args.disk.now).files c.args.images.now.items c.requires.names c.requires.form (c.requires.fits told))

pub returns-clause-none : goal.returns-clause-none
returns-clause-none g c = taken_staged c.args.images.now.items c.take_all_as_settled.new.images.items c.take_all_as_settled.ensures.images

pub returns-clause-serves : goal.returns-clause-serves
returns-clause-serves g c = λ told.
    let files = (g.D.Disk.state c.args.disk.now).files in
    let now = (g.D.Disk.state c.commit_or_sync-settled.new.disk).files in
    flush_serves files c.args.images.now.items c.requires.names c.requires.form (c.requires.fits told) now
    (subst (λ cs. SameBesidesLog now (changed cs files)) c.plan_all.ensures.changes (c.in_ok-settled.ensures.files told))
    c.take_all_as_settled.new.images.items c.take_all_as_settled.ensures.images

pub returns-clause-fits : goal.returns-clause-fits
returns-clause-fits g c = λ told.
    let files = (g.D.Disk.state c.args.disk.now).files in
    let now = (g.D.Disk.state c.commit_or_sync-settled.new.disk).files in
    flush_fits files c.args.images.now.items c.requires.names c.requires.form (c.requires.fits told) now
    (subst (λ cs. SameBesidesLog now (changed cs files)) c.plan_all.ensures.changes (c.in_ok-settled.ensures.files told))
    c.take_all_as_settled.new.images.items c.take_all_as_settled.ensures.images
