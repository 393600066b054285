use Rattle.std.proofs.Common.{◌≡◌, ℕ, List, false, sym, subst, arith}
use Rattle.vbm_ports.specs.Files.{Files, IsWritten}
use Rattle.vbm_volume.specs.Image.{data_at}
use Rattle.vbm_volume.specs.Like.{sector_at}
use Rattle.vbm_volume.specs.Wrote.{sectors_at}
use Rattle.vbm_volume.proofs.Torn.{sectors_at-none}
use Rattle.vbm_volume.proofs.Writings.{sectors_wrote, Wrote-weaker}
use Rattle.vbm_blockmap.specs.Pending.{Staged}
use Rattle.vbm_image.specs.Image.{file_in, AreStagedIn}
use Rattle.vbm_image.proofs.StagedWords.{pushed_form}
use Rattle.vbm_image.proofs.StagedBlocks.{taken_no_word, taken_none_staged, fits_in_staged}
use Rattle.vbm_image.proofs.staging.stage_block.Goals as goal

pub returns-in_err-write-clause-wrote : goal.returns-in_err-write-clause-wrote
returns-in_err-write-clause-wrote g c = λ told.
    let image = c.args.image.now in
    let old = g.D.Disk.state c.args.disk.now in
    let new = g.D.Disk.state c.write.new.self in
    let fits = c.requires.fits told in
    let f : List ℕ = file_in old.files image in
    let at : ℕ = c.take_from-at.result in
    Wrote-weaker image.name image.header f (sectors_at f image.header at 0 2048) (λ i. false) old new
    (sectors_at-none f image.header at 0 2048
    (taken_no_word image.header image.pending.staged f at c.take_from-at.ensures.low image.used c.take_from-at.new.used
    c.take_from-at.ensures.taken fits.marks))
    (sectors_wrote c.write.result image.name image.header at 0 2048 c.args.bytes.now old new fits.accepted (omega arith)
    (omega (arith, c.requires.size))
    c.bytes.result.now c.place.result c.bytes.ensures c.place.ensures.place
    (c.write.ensures.ok told) (c.write.ensures.err told) (c.write.ensures.crash told) c.write.ensures.time)

pub returns-clause-wrote : goal.returns-clause-wrote
returns-clause-wrote g c = λ told.
    let image = c.args.image.now in
    let old = g.D.Disk.state c.args.disk.now in
    let new = g.D.Disk.state c.write.new.self in
    let fits = c.requires.fits told in
    let f : List ℕ = file_in old.files image in
    let at : ℕ = c.take_from-at.result in
    Wrote-weaker image.name image.header f (sectors_at f image.header at 0 2048) (λ i. false) old new
    (sectors_at-none f image.header at 0 2048
    (taken_no_word image.header image.pending.staged f at c.take_from-at.ensures.low image.used c.take_from-at.new.used
    c.take_from-at.ensures.taken fits.marks))
    (sectors_wrote c.write.result image.name image.header at 0 2048 c.args.bytes.now old new fits.accepted (omega arith)
    (omega (arith, c.requires.size))
    c.bytes.result.now c.place.result c.bytes.ensures c.place.ensures.place
    (c.write.ensures.ok told) (c.write.ensures.err told) (c.write.ensures.crash told) c.write.ensures.time)

pub returns-clause-form : goal.returns-clause-form
returns-clause-form g c =
    let form = c.requires.form in
    let image = c.args.image.now in
    record {
      name = form.name;
      not_log = form.not_log;
      header = form.header;
      staged = subst (λ (s : Staged). AreStagedIn image.header s) (sym c.insert.ensures.staged)
          (pushed_form image.header image.pending.staged c.args.block c.take_from-at.result form.staged c.requires.another c.requires.block
          c.take_from-at.ensures.low);
    }

pub returns-clause-staged : goal.returns-clause-staged
returns-clause-staged g c = record {
  at = c.take_from-at.result;
  low = c.take_from-at.ensures.low;
  taken = c.take_from-at.ensures.taken;
  staged = c.insert.ensures.staged;
}

pub returns-clause-ok : goal.returns-clause-ok
returns-clause-ok g c = λ told.
    let image = c.args.image.now in
    let files : Files = (g.D.Disk.state c.args.disk.now).files in
    let now : Files = (g.D.Disk.state c.write.new.self).files in
    let f : List ℕ = file_in files image in
    let at : ℕ = c.take_from-at.result in
    let marks = (c.requires.fits told).marks in
    let taken = c.take_from-at.ensures.taken in
    let place : c.place.result ≡ data_at image.header at = omega (arith, c.place.ensures.place) in
    record {
      entry = record { at = at; low = c.take_from-at.ensures.low; taken = taken; staged = c.insert.ensures.staged };
      no_word = taken_no_word image.header image.pending.staged f at c.take_from-at.ensures.low image.used c.take_from-at.new.used taken marks;
      none_staged = taken_none_staged image.header image.pending.staged f at c.take_from-at.ensures.low image.used c.take_from-at.new.used taken
          marks;
      written = subst (λ (n : List ℕ). IsWritten n (data_at image.header at) c.args.bytes.now files now) c.bytes.ensures
          (subst (λ (o : ℕ). IsWritten c.bytes.result.now o c.args.bytes.now files now) place (c.in_ok-write.ensures.ok told));
    }

pub returns-clause-fits : goal.returns-clause-fits
returns-clause-fits g c = λ told.
    let image = c.args.image.now in
    let files : Files = (g.D.Disk.state c.args.disk.now).files in
    let now : Files = (g.D.Disk.state c.write.new.self).files in
    fits_in_staged image.name image.header c.take_from-at.result c.args.block c.args.bytes.now image.pending.staged c.insert.new.self.staged
    image.used c.take_from-at.new.used files now c.take_from-at.ensures.low c.take_from-at.ensures.taken c.requires.size c.insert.ensures.staged
    (c.requires.fits told)
    (subst (λ (n : List ℕ). IsWritten n (sector_at image.header c.take_from-at.result 0) c.args.bytes.now files now) c.bytes.ensures
    (subst (λ (o : ℕ). IsWritten c.bytes.result.now o c.args.bytes.now files now) c.place.ensures.place (c.in_ok-write.ensures.ok told)))
