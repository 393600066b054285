use Rattle.std.proofs.Common.{◌/◌, length}
use Rattle.vbm_guest.specs.declared.flushing.TheConstants.{MOST_STAGED}
use Rattle.vbm_guest.specs.Runs.{last_of}
use Rattle.vbm_guest.specs.Edited.{StagesAtMost}
use Rattle.vbm_guest.proofs.EditedImages.{last_in, changes_names}
use Rattle.vbm_guest.proofs.WriteThenSettle.{shut_after, write_moments, all_moments, writes, few_after}
use Rattle.vbm_guest.proofs.writing.guest_write.Goals as goal

pub returns-in_err-write_sectors-clause-few : goal.returns-in_err-write_sectors-clause-few
returns-in_err-write_sectors-clause-few g c =
    few_after c.from_residual.result c.in_err-write_sectors.field-0.0 c.from_residual.ensures c.args.chain.now c.args.images.now.items
    c.write_sectors.new.images.items MOST_STAGED (last_in c.args.images.now.items c.args.chain.now c.requires.chain c.requires.ends) c.requires.few
    c.in_err-write_sectors.ensures.stay

pub returns-in_err-write_sectors-clause-any_moment : goal.returns-in_err-write_sectors-clause-any_moment
returns-in_err-write_sectors-clause-any_moment g c = λ told.
    write_moments c.args.chain.now c.args.images.now.items c.args.lba (length c.args.bytes.now / 512) c.requires.form
    (last_in c.args.images.now.items c.args.chain.now c.requires.chain c.requires.ends) (g.D.Disk.state c.args.disk.now)
    (g.D.Disk.state c.write_sectors.new.disk) (c.write_sectors.ensures.wrote told) c.args.bytes.now (c.requires.shut told)

pub settle_if_full-requires-clause-names : goal.settle_if_full-requires-clause-names
settle_if_full-requires-clause-names g c =
    changes_names (StagesAtMost 2) (last_of c.args.chain.now) c.args.images.now.items c.write_sectors.new.images.items c.write_sectors.ensures.changes
    (λ old new stages. stages.name) c.requires.names

pub settle_if_full-requires-clause-shut : goal.settle_if_full-requires-clause-shut
settle_if_full-requires-clause-shut g c = λ told.
    shut_after c.args.chain.now c.args.images.now.items c.args.lba (length c.args.bytes.now / 512) c.requires.form
    (last_in c.args.images.now.items c.args.chain.now c.requires.chain c.requires.ends) (g.D.Disk.state c.args.disk.now)
    (g.D.Disk.state c.write_sectors.new.disk) (c.write_sectors.ensures.wrote told) (c.requires.shut told)

pub returns-in-Ok-clause-writes : goal.returns-in-Ok-clause-writes
returns-in-Ok-clause-writes g c = λ told.
    writes c.args.chain.now c.args.images.now.items c.args.lba (length c.args.bytes.now / 512) c.requires.form
    (last_in c.args.images.now.items c.args.chain.now c.requires.chain c.requires.ends) (g.D.Disk.state c.args.disk.now)
    (g.D.Disk.state c.write_sectors.new.disk) (c.write_sectors.ensures.wrote told) c.write_sectors.new.images.items c.args.bytes.now
    c.write_sectors.ensures.changes (c.in_ok-write_sectors.ensures.replaces told) (c.in_ok-write_sectors.ensures.fits told)
    c.settle_if_full.new.images.items (g.D.Disk.state c.settle_if_full.new.disk) (c.requires.fits told) (c.in-Ok.ensures.settled told)

pub returns-in-Ok-clause-any_moment : goal.returns-in-Ok-clause-any_moment
returns-in-Ok-clause-any_moment g c = λ told.
    all_moments c.args.chain.now c.args.images.now.items c.args.lba (length c.args.bytes.now / 512) c.requires.form
    (last_in c.args.images.now.items c.args.chain.now c.requires.chain c.requires.ends) (g.D.Disk.state c.args.disk.now)
    (g.D.Disk.state c.write_sectors.new.disk) (c.write_sectors.ensures.wrote told) c.write_sectors.new.images.items c.args.bytes.now
    c.write_sectors.ensures.changes (c.in_ok-write_sectors.ensures.replaces told) (c.in_ok-write_sectors.ensures.fits told)
    (g.D.Disk.state c.settle_if_full.new.disk) (c.requires.shut told) (c.settle_if_full.ensures.any_moment told)

pub returns-in-Err-clause-any_moment : goal.returns-in-Err-clause-any_moment
returns-in-Err-clause-any_moment g c = λ told.
    all_moments c.args.chain.now c.args.images.now.items c.args.lba (length c.args.bytes.now / 512) c.requires.form
    (last_in c.args.images.now.items c.args.chain.now c.requires.chain c.requires.ends) (g.D.Disk.state c.args.disk.now)
    (g.D.Disk.state c.write_sectors.new.disk) (c.write_sectors.ensures.wrote told) c.write_sectors.new.images.items c.args.bytes.now
    c.write_sectors.ensures.changes (c.in_ok-write_sectors.ensures.replaces told) (c.in_ok-write_sectors.ensures.fits told)
    (g.D.Disk.state c.settle_if_full.new.disk) (c.requires.shut told) (c.settle_if_full.ensures.any_moment told)
