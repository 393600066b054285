use Rattle.std.proofs.Common.{◌≡◌, ◌≢◌, ◌+◌, ◌*◌, ◌/◌, ℕ, false, List, length, set, slice_get, Some, refl, sym, ap, subst, ◌∙◌, arith}
use Rattle.std.proofs.lemmas.Bool.{false≢true}
use Rattle.vbm_ports.specs.Disk.{OnlyReads}
use Rattle.vbm_ports.proofs.Counting.{counted_after}
use Rattle.vbm_ports.specs.Files.{Files}
use Rattle.vbm_blockmap.specs.Entry.{IsEntry}
use Rattle.vbm_volume.specs.Wrote.{Wrote}
use Rattle.vbm_volume.proofs.Writings.{Wrote-weaker}
use Rattle.vbm_image.specs.declared.image.Image.{Image}
use Rattle.vbm_image.specs.Image.{file_in, IsInForm, FitsIn}
use Rattle.vbm_image.proofs.Results.{on_ok}
use Rattle.vbm_chain.proofs.ResolvedSectors.{at_item}
use Rattle.vbm_guest.specs.Runs.{in_run, last_of}
use Rattle.vbm_guest.specs.Edited.{ChangesAt, TakesAtMost}
use Rattle.vbm_guest.specs.Parts.{ServesCopied}
use Rattle.vbm_guest.proofs.EditedImages.{get-set_same, last_in, same_image, changes_refl, changes_set, takes_none}
use Rattle.vbm_guest.proofs.EditedFiles.{reads_then, found_after, edited_form, edited_entries, edited_fits, edited_others, edited_run, edited_copy}
use Rattle.vbm_guest.proofs.FoundEntries.{not_staged, not_placed}
use Rattle.vbm_guest.proofs.parts.write_part.Goals as goal

-- ---- at a position

pub write_in_place-requires-clause-position : goal.write_in_place-requires-clause-position
write_in_place-requires-clause-position g c = subst IsEntry c.in-At.is (c.requires.found c.get.result.now c.get.ensures).is

pub write_in_place-requires-clause-fits : goal.write_in_place-requires-clause-fits
write_in_place-requires-clause-fits g c = λ told.
    at_item (FitsIn (g.D.Disk.state c.args.disk.now).files) c.args.images.now.items (last_of c.args.chain.now) c.get.result.now
    (c.requires.fits told) c.get.ensures

pub returns-in-At-clause-entries : goal.returns-in-At-clause-entries
returns-in-At-clause-entries g c =
    let images : List Image = c.args.images.now.items in
    let k : ℕ = last_of c.args.chain.now in
    on_ok c.write_in_place.result
    (edited_entries (TakesAtMost 1) k images images (changes_refl (TakesAtMost 1) k images (takes_none 1)) c.get.result.now c.get.result.now
    c.get.ensures c.get.ensures g.D.Disk.tells (g.D.Disk.state c.args.disk.now).files (g.D.Disk.state c.write_in_place.new.disk).files c.args.block)
    c.write_in_place.ensures.entries

pub returns-in-At-clause-replaces : goal.returns-in-At-clause-replaces
returns-in-At-clause-replaces g c = λ told.
    let images : List Image = c.args.images.now.items in
    let k : ℕ = last_of c.args.chain.now in
    on_ok c.write_in_place.result
    (edited_run (TakesAtMost 1) k images images (changes_refl (TakesAtMost 1) k images (takes_none 1)) c.get.result.now c.get.result.now
    c.get.ensures c.get.ensures (g.D.Disk.state c.args.disk.now).files (g.D.Disk.state c.write_in_place.new.disk).files c.requires.names
    (c.write_in_place.ensures.wrote told).files.others c.args.chain.now c.requires.ends refl (c.args.block * 2048 + c.args.first)
    (length c.args.bytes.now / 512) c.args.bytes.now)
    (c.write_in_place.ensures.serves told)

pub returns-in-At-clause-others : goal.returns-in-At-clause-others
returns-in-At-clause-others g c = λ told.
    let images : List Image = c.args.images.now.items in
    let k : ℕ = last_of c.args.chain.now in
    edited_others (TakesAtMost 1) k images images (changes_refl (TakesAtMost 1) k images (takes_none 1)) c.get.result.now c.get.result.now
    c.get.ensures c.get.ensures (g.D.Disk.state c.args.disk.now).files (g.D.Disk.state c.write_in_place.new.disk).files c.requires.names
    (c.write_in_place.ensures.wrote told).files.others

pub returns-in-At-clause-fits : goal.returns-in-At-clause-fits
returns-in-At-clause-fits g c = λ told.
    let images : List Image = c.args.images.now.items in
    let k : ℕ = last_of c.args.chain.now in
    on_ok c.write_in_place.result
    (edited_fits (TakesAtMost 1) k images images (changes_refl (TakesAtMost 1) k images (takes_none 1)) c.get.result.now c.get.result.now
    c.get.ensures c.get.ensures (g.D.Disk.state c.args.disk.now).files (g.D.Disk.state c.write_in_place.new.disk).files c.requires.names
    (c.write_in_place.ensures.wrote told).files.others (c.requires.fits told))
    (c.write_in_place.ensures.fits told)

pub returns-in-At-clause-wrote : goal.returns-in-At-clause-wrote
returns-in-At-clause-wrote g c = λ told other at_other.
    subst (λ (x : Image). Wrote x.name x.header (file_in (g.D.Disk.state c.args.disk.now).files x)
    (in_run (c.args.block * 2048 + c.args.first) (length c.args.bytes.now / 512)) (g.D.Disk.state c.args.disk.now)
    (g.D.Disk.state c.write_in_place.new.disk))
    (same_image c.args.images.now.items (last_of c.args.chain.now) c.get.result.now other c.get.ensures at_other)
    (c.write_in_place.ensures.wrote told)

-- ---- by a copy

pub stage_copy-requires : goal.stage_copy-requires
stage_copy-requires g c =
    let images : List Image = c.args.images.now.items in
    let k : ℕ = last_of c.args.chain.now in
    let image : Image = c.get_mut.result.now in
    let is : slice_get images k ≡ Some image = c.get_mut.ensures.value in
    let free = not_placed c.args.entry c.in_default.not-At in
    record {
      form = at_item IsInForm images k image c.requires.form is;
      another = not_staged _ c.args.entry (c.requires.found image is).staged c.in_default.not-At;
      room = c.requires.room free image is;
      some = c.requires.some;
      whole = c.requires.whole;
      inside = c.requires.inside;
      range = c.requires.range image is;
      buf = omega (arith, c.copy_up.auto.buf, c.requires.buf free);
      fits = λ told. subst (λ (x : Files). FitsIn x image) (sym (c.copy_up.ensures.reads.files told))
          (at_item (FitsIn (g.D.Disk.state c.args.disk.now).files) images k image (c.requires.fits told) is);
    }

pub returns-in_ok-copy_up-in_default : goal.returns-in_ok-copy_up-in_default
returns-in_ok-copy_up-in_default g c =
    let free = not_placed c.args.entry c.in_default.not-At in
    let images : List Image = c.args.images.now.items in
    let k : ℕ = last_of c.args.chain.now in
    let n : ℕ = length c.args.bytes.now / 512 in
    let lba : ℕ = c.args.block * 2048 + c.args.first in
    let image : Image = c.get_mut.result.now in
    let new : Image = c.stage_copy.new.image in
    let others : List Image = set images k new in
    let is : slice_get images k ≡ Some image = c.get_mut.ensures.value in
    let is_new : slice_get others k ≡ Some new = get-set_same images k new (last_in images c.args.chain.now c.requires.chain c.requires.ends) in
    let changes : ChangesAt (TakesAtMost 1) k images others = changes_set (TakesAtMost 1) k images image new is c.stage_copy.ensures.same in
    let old = g.D.Disk.state c.args.disk.now in
    let mid = g.D.Disk.state c.copy_up.new.disk in
    let end = g.D.Disk.state c.stage_copy.new.disk in
    let reads : OnlyReads g.D.Disk.tells old mid = c.copy_up.ensures.reads in
    let kept : g.D.Disk.tells → (other : List ℕ) → other ≢ image.name → end.files other ≡ old.files other =
    (λ told other differ. (c.stage_copy.ensures.wrote told).files.others other differ ∙ ap (λ (x : Files). x other) (reads.files told)) in
    record {
      form = edited_form (TakesAtMost 1) k images others changes image new is is_new c.requires.form c.stage_copy.ensures.form;
      changes = changes;
      placed = λ placed. absurd (false≢true (sym free ∙ placed));
      spare = refl;
      entries = on_ok c.stage_copy.result
          (λ keeps. edited_entries (TakesAtMost 1) k images others changes image new is is_new g.D.Disk.tells old.files end.files c.args.block
          (λ b e differ inside found. keeps b e differ inside (found_after g.D.Disk.tells old.files mid.files image b e reads.files found)))
          c.stage_copy.ensures.entries;
      replaces = λ told. on_ok c.stage_copy.result
          (λ serves. edited_copy (TakesAtMost 1) k images others changes image new is is_new old.files end.files c.requires.names (kept told)
          c.args.chain.now c.requires.ends refl lba n c.args.bytes.now c.args.block c.copy_up.new.buf
          (c.in_ok-copy_up-in_default.ensures.sectors told)
          (subst (λ (x : Files). ServesCopied x image end.files new c.args.block lba n c.args.bytes.now c.copy_up.new.buf) (reads.files told) serves))
          (c.stage_copy.ensures.serves told);
      others = λ told. edited_others (TakesAtMost 1) k images others changes image new is is_new old.files end.files c.requires.names (kept told);
      fits = λ told. on_ok c.stage_copy.result
          (edited_fits (TakesAtMost 1) k images others changes image new is is_new old.files end.files c.requires.names (kept told)
          (c.requires.fits told))
          (c.stage_copy.ensures.fits told);
      wrote = λ told other at_other.
          subst (λ (x : Image). Wrote x.name x.header (file_in old.files x) (in_run lba n) old end) (same_image images k image other is at_other)
          (reads_then g.D.Disk.tells image.name image.header (in_run lba n) old mid end told reads
          (Wrote-weaker image.name image.header (file_in mid.files image) (λ i. false) (in_run lba n) mid end (λ i settled. refl)
          (c.stage_copy.ensures.wrote told)));
      faults = counted_after _ _ _ _ c.in_ok-copy_up-in_default.ensures.faults c.stage_copy.ensures.faults;
    }
