use Rattle.std.proofs.Common.{◌≡◌, ℕ, List, slice_get, Some, sym, subst, arith}
use Rattle.vbm_ports.specs.Files.{Files}
use Rattle.vbm_image.specs.declared.image.Image.{Image}
use Rattle.vbm_image.specs.Image.{FitsIn}
use Rattle.vbm_chain.proofs.ResolvedSectors.{at_item}
use Rattle.vbm_guest.specs.Runs.{last_of}
use Rattle.vbm_guest.specs.Edited.{HasRoomToStage}
use Rattle.vbm_guest.specs.RunEntries.{AreEntriesOf}
use Rattle.vbm_guest.proofs.EditedImages.{same_image}
use Rattle.vbm_guest.proofs.StagedCounts.{one_of}
use Rattle.vbm_guest.proofs.RoomedImages.{roomed_changes, roomed_form, roomed_fits, roomed_count, roomed_plan, roomed_this, roomed_entries}
use Rattle.vbm_guest.proofs.preparing.prepare.Goals as goal

pub take_memory-requires-clause-few : goal.take_memory-requires-clause-few
take_memory-requires-clause-few g c =
    omega (arith, one_of c.args.images.now.items (last_of c.args.chain.now) c.get_mut.result.now c.get_mut.ensures.value, c.requires.few)

pub take_memory-requires-clause-fits : goal.take_memory-requires-clause-fits
take_memory-requires-clause-fits g c = λ told.
    subst (λ (files : Files). FitsIn files c.get_mut.result.now) (sym (c.look_up.ensures.reads.files told))
    (at_item (FitsIn (g.D.Disk.state c.args.disk.now).files) c.args.images.now.items (last_of c.args.chain.now) c.get_mut.result.now
    (c.requires.fits told) c.get_mut.ensures.value)

pub returns-in_err-buf-clause-form : goal.returns-in_err-buf-clause-form
returns-in_err-buf-clause-form g c =
    roomed_form c.args.images.now.items (last_of c.args.chain.now) c.get_mut.result.now c.take_memory.new.image c.get_mut.ensures.value
    c.take_memory.ensures.same c.requires.form c.take_memory.ensures.form

pub returns-in_err-buf-clause-fits : goal.returns-in_err-buf-clause-fits
returns-in_err-buf-clause-fits g c = λ told.
    roomed_fits c.args.images.now.items (last_of c.args.chain.now) c.get_mut.result.now c.take_memory.new.image c.get_mut.ensures.value
    c.take_memory.ensures.same (g.D.Disk.state c.args.disk.now).files c.requires.names (c.requires.fits told)
    (subst (λ (files : Files). FitsIn files c.take_memory.new.image) (c.look_up.ensures.reads.files told) (c.take_memory.ensures.fits told))

pub returns-in_err-buf-clause-changes : goal.returns-in_err-buf-clause-changes
returns-in_err-buf-clause-changes g c =
    roomed_changes c.args.images.now.items (last_of c.args.chain.now) c.get_mut.result.now c.take_memory.new.image c.get_mut.ensures.value
    c.take_memory.ensures.same

pub returns-in_err-buf-clause-room : goal.returns-in_err-buf-clause-room
returns-in_err-buf-clause-room g c =
    roomed_plan c.args.images.now.items (last_of c.args.chain.now) c.get_mut.result.now c.take_memory.new.image c.get_mut.ensures.value
    c.take_memory.ensures.same c.args.plan.now c.take_memory.new.plan c.requires.room c.take_memory.ensures.changes c.take_memory.ensures.spare

pub returns-clause-form : goal.returns-clause-form
returns-clause-form g c =
    roomed_form c.args.images.now.items (last_of c.args.chain.now) c.get_mut.result.now c.take_memory.new.image c.get_mut.ensures.value
    c.take_memory.ensures.same c.requires.form c.take_memory.ensures.form

pub returns-clause-fits : goal.returns-clause-fits
returns-clause-fits g c = λ told.
    roomed_fits c.args.images.now.items (last_of c.args.chain.now) c.get_mut.result.now c.take_memory.new.image c.get_mut.ensures.value
    c.take_memory.ensures.same (g.D.Disk.state c.args.disk.now).files c.requires.names (c.requires.fits told)
    (subst (λ (files : Files). FitsIn files c.take_memory.new.image) (c.look_up.ensures.reads.files told) (c.take_memory.ensures.fits told))

pub returns-clause-changes : goal.returns-clause-changes
returns-clause-changes g c =
    roomed_changes c.args.images.now.items (last_of c.args.chain.now) c.get_mut.result.now c.take_memory.new.image c.get_mut.ensures.value
    c.take_memory.ensures.same

pub returns-clause-room : goal.returns-clause-room
returns-clause-room g c =
    roomed_plan c.args.images.now.items (last_of c.args.chain.now) c.get_mut.result.now c.take_memory.new.image c.get_mut.ensures.value
    c.take_memory.ensures.same c.args.plan.now c.take_memory.new.plan c.requires.room c.take_memory.ensures.changes c.take_memory.ensures.spare

pub returns-clause-prepared : goal.returns-clause-prepared
returns-clause-prepared g c =
    let images : List Image = c.args.images.now.items in
    let k : ℕ = last_of c.args.chain.now in
    let image : Image = c.get_mut.result.now in
    let new : Image = c.take_memory.new.image in
    let files : Files = (g.D.Disk.state c.args.disk.now).files in
    let is : slice_get images k ≡ Some image = c.get_mut.ensures.value in
    let same = c.take_memory.ensures.same in
    let found : AreEntriesOf g.D.Disk.tells files image c.args.lba c.args.count c.in-Ok.entries =
    subst (λ (x : Image). AreEntriesOf g.D.Disk.tells files x c.args.lba c.args.count c.in-Ok.entries)
    (same_image images k c.get.result.now image c.get.ensures is) c.in-Ok.ensures.entries in
    record {
      entries = roomed_this images k image new is same
          (λ (x : Image). AreEntriesOf g.D.Disk.tells files x c.args.lba c.args.count c.in-Ok.entries)
          (roomed_entries images k image new is same g.D.Disk.tells files c.args.lba c.args.count c.in-Ok.entries found);
      room = λ free. record {
        staging = roomed_this images k image new is same (HasRoomToStage 2) c.in_ok-buf.ensures.room;
        settling = omega (arith, roomed_count images k image new is same, c.in_ok-buf.ensures.plan, c.count_staged-staged.ensures);
        buffer = c.in_ok-buf.ensures.buf;
      };
    }
