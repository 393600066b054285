use Rattle.std.proofs.Common.{◌/◌, length, arith}
use Rattle.std.specs.Prelude.{vec_len}
use Rattle.vbm_guest.specs.Runs.{last_of}
use Rattle.vbm_guest.specs.Edited.{StagesAtMost, IsRoomed}
use Rattle.vbm_guest.specs.RunEntries.{are_placed}
use Rattle.vbm_guest.proofs.EditedImages.{last_in, changes_names, changes_weaker, roomed_stages}
use Rattle.vbm_guest.proofs.RoomThenWrite.{low_lba, keeps_trans, room_range, room_changes, room_rising, room_others, room_replaces, room_wrote, reads_wrote, count_more, room_after, entries_after}
use Rattle.vbm_guest.proofs.writing.write_sectors.Goals as goal

-- ---- no room, or a fault before the first sector

pub returns-in_err-prepared-clause-changes : goal.returns-in_err-prepared-clause-changes
returns-in_err-prepared-clause-changes g c =
    changes_weaker IsRoomed (StagesAtMost 2) (last_of c.args.chain.now) c.args.images.now.items c.prepare.new.images.items
    (λ x y. roomed_stages 2 x y) c.prepare.ensures.changes

pub returns-in_err-prepared-clause-count : goal.returns-in_err-prepared-clause-count
returns-in_err-prepared-clause-count g c =
    count_more 2 c.args.images.now.items c.prepare.new.images.items c.args.chain.now
    (last_in c.args.images.now.items c.args.chain.now c.requires.chain c.requires.ends)
    (changes_weaker IsRoomed (StagesAtMost 2) (last_of c.args.chain.now) c.args.images.now.items c.prepare.new.images.items
    (λ x y. roomed_stages 2 x y) c.prepare.ensures.changes)

pub returns-in_err-prepared-clause-others : goal.returns-in_err-prepared-clause-others
returns-in_err-prepared-clause-others g c = λ told.
    room_others c.args.chain.now c.args.images.now.items c.prepare.new.images.items c.prepare.ensures.changes (g.D.Disk.state c.args.disk.now).files
    (g.D.Disk.state c.prepare.new.disk).files (c.prepare.ensures.reads.files told)

pub returns-in_err-prepared-clause-wrote : goal.returns-in_err-prepared-clause-wrote
returns-in_err-prepared-clause-wrote g c = λ told.
    reads_wrote c.args.chain.now c.args.images.now.items g.D.Disk.tells c.args.lba (length c.args.bytes.now / 512) (g.D.Disk.state c.args.disk.now)
    (g.D.Disk.state c.prepare.new.disk) told c.prepare.ensures.reads

-- ---- the write

pub write_run-requires-clause-names : goal.write_run-requires-clause-names
write_run-requires-clause-names g c =
    changes_names IsRoomed (last_of c.args.chain.now) c.args.images.now.items c.prepare.new.images.items c.prepare.ensures.changes
    (λ old new same. same.name) c.requires.names

pub write_run-requires-clause-rising : goal.write_run-requires-clause-rising
write_run-requires-clause-rising g c = λ told.
    room_rising c.args.chain.now c.args.images.now.items c.prepare.new.images.items c.prepare.ensures.changes (g.D.Disk.state c.args.disk.now).files
    (g.D.Disk.state c.prepare.new.disk).files (c.prepare.ensures.reads.files told) (c.requires.rising told)

pub write_run-requires-clause-found : goal.write_run-requires-clause-found
write_run-requires-clause-found g c = λ image is.
    entries_after g.D.Disk.tells (g.D.Disk.state c.args.disk.now).files (g.D.Disk.state c.prepare.new.disk).files image c.args.lba
    (length c.args.bytes.now / 512) c.in_ok-prepared.prepared.entries c.prepare.ensures.reads.files
    (c.in_ok-prepared.ensures.prepared.entries image is)

pub write_run-requires-clause-room : goal.write_run-requires-clause-room
write_run-requires-clause-room g c = λ free. (c.in_ok-prepared.ensures.prepared.room free).staging

pub write_run-requires-clause-low : goal.write_run-requires-clause-low
write_run-requires-clause-low g c =
    low_lba c.args.images.now.items c.args.chain.now c.args.lba (length c.args.bytes.now / 512) c.requires.form
    (last_in c.args.images.now.items c.args.chain.now c.requires.chain c.requires.ends) (omega (arith, c.requires.some, c.requires.whole))
    c.requires.range

pub write_run-requires-clause-range : goal.write_run-requires-clause-range
write_run-requires-clause-range g c =
    room_range c.args.chain.now c.args.images.now.items c.prepare.new.images.items c.prepare.ensures.changes c.args.lba
    (length c.args.bytes.now / 512) c.requires.range

-- ---- after it

pub returns-in-Ok-clause-changes : goal.returns-in-Ok-clause-changes
returns-in-Ok-clause-changes g c =
    room_changes c.args.chain.now c.args.images.now.items c.prepare.new.images.items c.prepare.ensures.changes 2 c.write_run.new.images.items
    c.write_run.ensures.changes

pub returns-clause-changes : goal.returns-clause-changes
returns-clause-changes g c =
    room_changes c.args.chain.now c.args.images.now.items c.prepare.new.images.items c.prepare.ensures.changes 2 c.write_run.new.images.items
    c.write_run.ensures.changes

pub returns-in-Ok-clause-count : goal.returns-in-Ok-clause-count
returns-in-Ok-clause-count g c =
    count_more 2 c.args.images.now.items c.write_run.new.images.items c.args.chain.now
    (last_in c.args.images.now.items c.args.chain.now c.requires.chain c.requires.ends)
    (room_changes c.args.chain.now c.args.images.now.items c.prepare.new.images.items c.prepare.ensures.changes 2 c.write_run.new.images.items
    c.write_run.ensures.changes)

pub returns-clause-count : goal.returns-clause-count
returns-clause-count g c =
    count_more 2 c.args.images.now.items c.write_run.new.images.items c.args.chain.now
    (last_in c.args.images.now.items c.args.chain.now c.requires.chain c.requires.ends)
    (room_changes c.args.chain.now c.args.images.now.items c.prepare.new.images.items c.prepare.ensures.changes 2 c.write_run.new.images.items
    c.write_run.ensures.changes)

pub returns-in-Ok-clause-room : goal.returns-in-Ok-clause-room
returns-in-Ok-clause-room g c =
    let inside = last_in c.args.images.now.items c.args.chain.now c.requires.chain c.requires.ends in
    room_after (are_placed c.in_ok-prepared.prepared.entries) c.args.chain.now c.prepare.new.images c.write_run.new.images c.prepare.new.plan
    (vec_len c.in_ok-prepared.prepared.buf) (omega (arith, inside, c.prepare.ensures.changes.count)) c.write_run.ensures.changes
    c.prepare.ensures.room c.write_run.ensures.placed c.in_ok-prepared.ensures.prepared.room

pub returns-clause-room : goal.returns-clause-room
returns-clause-room g c =
    let inside = last_in c.args.images.now.items c.args.chain.now c.requires.chain c.requires.ends in
    room_after (are_placed c.in_ok-prepared.prepared.entries) c.args.chain.now c.prepare.new.images c.write_run.new.images c.prepare.new.plan
    (vec_len c.in_ok-prepared.prepared.buf) (omega (arith, inside, c.prepare.ensures.changes.count)) c.write_run.ensures.changes
    c.prepare.ensures.room c.write_run.ensures.placed c.in_ok-prepared.ensures.prepared.room

pub returns-in-Ok-clause-replaces : goal.returns-in-Ok-clause-replaces
returns-in-Ok-clause-replaces g c = λ told.
    room_replaces c.args.chain.now c.args.images.now.items c.prepare.new.images.items c.prepare.ensures.changes (g.D.Disk.state c.args.disk.now).files
    (g.D.Disk.state c.prepare.new.disk).files (c.prepare.ensures.reads.files told) (g.D.Disk.state c.write_run.new.disk).files
    c.write_run.new.images.items c.args.lba (length c.args.bytes.now / 512) c.args.bytes.now (c.in-Ok.ensures.replaces told)

pub returns-in-Ok-clause-others : goal.returns-in-Ok-clause-others
returns-in-Ok-clause-others g c = λ told.
    keeps_trans (last_of c.args.chain.now) (g.D.Disk.state c.args.disk.now).files (g.D.Disk.state c.prepare.new.disk).files
    (g.D.Disk.state c.write_run.new.disk).files c.args.images.now.items c.prepare.new.images.items c.write_run.new.images.items
    (room_others c.args.chain.now c.args.images.now.items c.prepare.new.images.items c.prepare.ensures.changes (g.D.Disk.state c.args.disk.now).files
    (g.D.Disk.state c.prepare.new.disk).files (c.prepare.ensures.reads.files told))
    (c.write_run.ensures.others told)

pub returns-clause-others : goal.returns-clause-others
returns-clause-others g c = λ told.
    keeps_trans (last_of c.args.chain.now) (g.D.Disk.state c.args.disk.now).files (g.D.Disk.state c.prepare.new.disk).files
    (g.D.Disk.state c.write_run.new.disk).files c.args.images.now.items c.prepare.new.images.items c.write_run.new.images.items
    (room_others c.args.chain.now c.args.images.now.items c.prepare.new.images.items c.prepare.ensures.changes (g.D.Disk.state c.args.disk.now).files
    (g.D.Disk.state c.prepare.new.disk).files (c.prepare.ensures.reads.files told))
    (c.write_run.ensures.others told)

pub returns-in-Ok-clause-wrote : goal.returns-in-Ok-clause-wrote
returns-in-Ok-clause-wrote g c = λ told.
    room_wrote c.args.chain.now c.args.images.now.items c.prepare.new.images.items c.prepare.ensures.changes g.D.Disk.tells c.args.lba
    (length c.args.bytes.now / 512) (g.D.Disk.state c.args.disk.now) (g.D.Disk.state c.prepare.new.disk) (g.D.Disk.state c.write_run.new.disk) told
    c.prepare.ensures.reads (c.write_run.ensures.wrote told)

pub returns-clause-wrote : goal.returns-clause-wrote
returns-clause-wrote g c = λ told.
    room_wrote c.args.chain.now c.args.images.now.items c.prepare.new.images.items c.prepare.ensures.changes g.D.Disk.tells c.args.lba
    (length c.args.bytes.now / 512) (g.D.Disk.state c.args.disk.now) (g.D.Disk.state c.prepare.new.disk) (g.D.Disk.state c.write_run.new.disk) told
    c.prepare.ensures.reads (c.write_run.ensures.wrote told)
