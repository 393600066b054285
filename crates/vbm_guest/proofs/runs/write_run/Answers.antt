use Rattle.std.proofs.Common.{◌≡◌, ◌+◌, ◌-◌, ◌*◌, ◌/◌, ◌%◌, ℕ, length, take, drop, refl, ap, subst, ◌∙◌, arith}
use Rattle.vbm_volume.specs.Sectors.{sector_count}
use Rattle.vbm_image.specs.Image.{IsInForm, FitsIn}
use Rattle.vbm_image.proofs.Results.{on_ok}
use Rattle.vbm_header.specs.declared.Header.{Header}
use Rattle.vbm_chain.proofs.ResolvedSectors.{at_item}
use Rattle.vbm_guest.specs.Runs.{last_of, ReplacesRun}
use Rattle.vbm_guest.specs.Edited.{StagesAtMost, TakesAtMost}
use Rattle.vbm_guest.specs.Parts.{IsEntryAt}
use Rattle.vbm_guest.proofs.EditedImages.{changed_to, changed_from, changes_names, changes_weaker, changes_trans, stages_more, stages_trans}
use Rattle.vbm_guest.proofs.EditedChains.{changes_rising}
use Rattle.vbm_guest.proofs.FoundEntries.{block_in, first_placed, last_placed}
use Rattle.vbm_guest.proofs.JoinedRuns.{first_lba, two_replace, one_wrote, two_wrote}
use Rattle.vbm_guest.proofs.runs.write_run.Goals as goal

-- ---- one block

pub write_part-requires-clause-found : goal.write_part-requires-clause-found
write_part-requires-clause-found g c = λ image is. (c.requires.found image is).first

pub write_part-requires-clause-room : goal.write_part-requires-clause-room
write_part-requires-clause-room g c = λ free image is.
    let room = c.requires.room (first_placed c.args.entries free) image is in
    record { spare = omega (arith, room.spare); left = omega (arith, room.left) }

pub write_part-requires-clause-buf : goal.write_part-requires-clause-buf
write_part-requires-clause-buf g c = λ free. c.requires.buf (first_placed c.args.entries free)

pub returns-then-bytes-room-clause-changes : goal.returns-then-bytes-room-clause-changes
returns-then-bytes-room-clause-changes g c =
    changes_weaker (TakesAtMost 1) (StagesAtMost 2) (last_of c.args.chain.now) c.args.images.now.items c.write_part.new.images.items
    (λ x y takes. stages_more 1 2 x y (omega arith) takes.stages) c.write_part.ensures.changes

pub returns-then-bytes-room-clause-replaces : goal.returns-then-bytes-room-clause-replaces
returns-then-bytes-room-clause-replaces g c = λ told.
    on_ok c.write_part.result
    (subst (λ (x : ℕ). ReplacesRun c.args.chain.now (g.D.Disk.state c.args.disk.now).files c.args.images.now.items
    (g.D.Disk.state c.write_part.new.disk).files c.write_part.new.images.items x (length c.args.bytes.now / 512) c.args.bytes.now)
    (first_lba c.args.lba))
    (c.write_part.ensures.replaces told)

-- ---- the first of two

pub write_part-requires-2-clause-found : goal.write_part-requires-2-clause-found
write_part-requires-2-clause-found g c = λ image is. (c.requires.found image is).first

pub write_part-requires-2-clause-room : goal.write_part-requires-2-clause-room
write_part-requires-2-clause-room g c = λ free image is.
    let room = c.requires.room (first_placed c.args.entries free) image is in
    record { spare = omega (arith, room.spare); left = omega (arith, room.left) }

pub write_part-requires-2-clause-buf : goal.write_part-requires-2-clause-buf
write_part-requires-2-clause-buf g c = λ free. c.requires.buf (first_placed c.args.entries free)

pub returns-in_err-write_part-clause-changes : goal.returns-in_err-write_part-clause-changes
returns-in_err-write_part-clause-changes g c =
    changes_weaker (TakesAtMost 1) (StagesAtMost 2) (last_of c.args.chain.now) c.args.images.now.items c.write_part-2.new.images.items
    (λ x y takes. stages_more 1 2 x y (omega arith) takes.stages) c.write_part-2.ensures.changes

pub returns-in_err-write_part-clause-wrote : goal.returns-in_err-write_part-clause-wrote
returns-in_err-write_part-clause-wrote g c = λ told image is.
    let lba : ℕ = c.args.lba in
    let m : ℕ = 2048 - lba % 2048 in
    one_wrote lba m c.args.bytes.now (omega (arith, c.if-bytes-room.false)) c.requires.whole (lba / 2048 * 2048 + lba % 2048) (lba + m)
    (length c.split_at.result.0.now / 512) (length c.args.bytes.now / 512 - m) (first_lba lba) (omega (arith, c.split_at.ensures.front_len)) refl
    (omega (arith, c.if-bytes-room.false)) (g.D.Disk.state c.args.disk.now) (g.D.Disk.state c.write_part-2.new.disk)
    (g.D.Disk.state c.write_part-2.new.disk)
    image (c.write_part-2.ensures.wrote told image is)

-- ---- the second

pub write_part-requires-3-clause-names : goal.write_part-requires-3-clause-names
write_part-requires-3-clause-names g c =
    changes_names (TakesAtMost 1) (last_of c.args.chain.now) c.args.images.now.items c.write_part-2.new.images.items c.write_part-2.ensures.changes
    (λ old new takes. takes.stages.name) c.requires.names

pub write_part-requires-3-clause-rising : goal.write_part-requires-3-clause-rising
write_part-requires-3-clause-rising g c = λ told.
    changes_rising (TakesAtMost 1) (last_of c.args.chain.now) c.args.images.now.items c.write_part-2.new.images.items c.write_part-2.ensures.changes
    (λ old new takes. takes.stages.header) (g.D.Disk.state c.args.disk.now).files (g.D.Disk.state c.write_part-2.new.disk).files c.args.chain.now
    (c.requires.rising told)

pub write_part-requires-3-clause-found : goal.write_part-requires-3-clause-found
write_part-requires-3-clause-found g c = λ image is.
    let lba : ℕ = c.args.lba in
    let n : ℕ = length c.args.bytes.now / 512 in
    let was = changed_from (TakesAtMost 1) (last_of c.args.chain.now) c.args.images.now.items c.write_part-2.new.images.items
    c.write_part-2.ensures.changes image is in
    let range = c.requires.range was.0 was.1 in
    let block : (lba + n - 1) / 2048 ≡ lba / 2048 + 1 = omega (arith, c.if-bytes-room.false, c.requires.few, c.requires.whole) in
    let inside =
    block_in was.0 (lba / 2048 + 1) 0 (at_item IsInForm c.args.images.now.items (last_of c.args.chain.now) was.0 c.requires.form was.1)
    (omega (arith, range, c.if-bytes-room.false, c.requires.whole)) in
    c.in_ok-write_part.ensures.entries was.0 image was.1 is (lba / 2048 + 1) c.args.entries.last (λ e. absurd (omega (arith, e))) inside
    (subst (λ (b : ℕ). IsEntryAt g.D.Disk.tells (g.D.Disk.state c.args.disk.now).files was.0 b c.args.entries.last) block
    (c.requires.found was.0 was.1).last)

pub write_part-requires-3-clause-room : goal.write_part-requires-3-clause-room
write_part-requires-3-clause-room g c = λ free image is.
    let was = changed_from (TakesAtMost 1) (last_of c.args.chain.now) c.args.images.now.items c.write_part-2.new.images.items
    c.write_part-2.ensures.changes image is in
    let room = c.requires.room (last_placed c.args.entries free) was.0 was.1 in
    record { spare = omega (arith, room.spare, was.2.spare); left = omega (arith, room.left, was.2.left) }

pub write_part-requires-3-clause-buf : goal.write_part-requires-3-clause-buf
write_part-requires-3-clause-buf g c = λ free.
    omega (arith, c.write_part-2.auto.buf, c.requires.buf (last_placed c.args.entries free))

pub write_part-requires-3-clause-range : goal.write_part-requires-3-clause-range
write_part-requires-3-clause-range g c = λ image is.
    let was = changed_from (TakesAtMost 1) (last_of c.args.chain.now) c.args.images.now.items c.write_part-2.new.images.items
    c.write_part-2.ensures.changes image is in
    let range = c.requires.range was.0 was.1 in
    let same : sector_count image.header ≡ sector_count was.0.header = ap (λ (h : Header). sector_count h) was.2.stages.header in
    omega (arith, range, same, c.split_at.ensures.back_len, c.if-bytes-room.false, c.requires.whole)

pub returns-clause-changes : goal.returns-clause-changes
returns-clause-changes g c =
    changes_trans (TakesAtMost 1) (TakesAtMost 1) (StagesAtMost 2) (last_of c.args.chain.now) c.args.images.now.items
    c.write_part-2.new.images.items c.write_part-3.new.images.items (λ x y z one two. stages_trans 1 1 x y z one.stages two.stages)
    c.write_part-2.ensures.changes
    c.write_part-3.ensures.changes

pub returns-clause-replaces : goal.returns-clause-replaces
returns-clause-replaces g c = λ told.
    let lba : ℕ = c.args.lba in
    let m : ℕ = 2048 - lba % 2048 in
    on_ok c.write_part-3.result
    (two_replace lba m c.args.bytes.now (omega (arith, c.if-bytes-room.false)) c.requires.whole (lba / 2048 * 2048 + lba % 2048)
    ((lba / 2048 + 1) * 2048 + 0) (length c.split_at.result.0.now / 512) (length c.split_at.result.1.now / 512) (first_lba lba)
    (omega (arith, c.split_at.ensures.front_len)) (omega arith) (omega (arith, c.split_at.ensures.back_len, c.if-bytes-room.false))
    c.split_at.result.0.now c.split_at.result.1.now
    (c.split_at.ensures.front ∙ ap (λ (x : ℕ). take ((2048 - x) * 512) c.args.bytes.now) c.from.ensures)
    (c.split_at.ensures.back ∙ ap (λ (x : ℕ). drop ((2048 - x) * 512) c.args.bytes.now) c.from.ensures) c.args.chain.now
    (g.D.Disk.state c.args.disk.now).files (g.D.Disk.state c.write_part-2.new.disk).files (g.D.Disk.state c.write_part-3.new.disk).files
    c.args.images.now.items c.write_part-2.new.images.items c.write_part-3.new.images.items (c.in_ok-write_part.ensures.replaces told))
    (c.write_part-3.ensures.replaces told)

pub returns-clause-wrote : goal.returns-clause-wrote
returns-clause-wrote g c = λ told image is.
    let lba : ℕ = c.args.lba in
    let m : ℕ = 2048 - lba % 2048 in
    let other = changed_to (TakesAtMost 1) (last_of c.args.chain.now) c.args.images.now.items c.write_part-2.new.images.items
    c.write_part-2.ensures.changes image is in
    two_wrote lba m c.args.bytes.now (omega (arith, c.if-bytes-room.false)) c.requires.whole (lba / 2048 * 2048 + lba % 2048)
    ((lba / 2048 + 1) * 2048 + 0) (length c.split_at.result.0.now / 512) (length c.split_at.result.1.now / 512) (first_lba lba)
    (omega (arith, c.split_at.ensures.front_len)) (omega arith) (omega (arith, c.split_at.ensures.back_len, c.if-bytes-room.false))
    (g.D.Disk.state c.args.disk.now) (g.D.Disk.state c.write_part-2.new.disk) (g.D.Disk.state c.write_part-3.new.disk) image other.0
    (at_item (FitsIn (g.D.Disk.state c.args.disk.now).files) c.args.images.now.items (last_of c.args.chain.now) image (c.requires.fits told)
    is).accepted
    other.2.stages.name other.2.stages.header (c.write_part-2.ensures.wrote told image is) (c.write_part-3.ensures.wrote told other.0 other.1)
