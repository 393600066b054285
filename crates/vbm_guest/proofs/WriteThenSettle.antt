-- A write, and the settling that may follow it.
use Rattle.std.proofs.Common.{◌≡◌, ℕ, ◌<◌, List, [], ◌∷◌, length, slice_get, Option, Some, None, Result, Ok, Err, refl, sym, subst, arith}
use Rattle.std.specs.Prelude.{All, IsErr, IsErrAnd}
use Rattle.vbm_ports.specs.Files.{Files, bytes_of}
use Rattle.vbm_ports.specs.Crash.{Through}
use Rattle.vbm_ports.specs.Disk.{DiskState, Passes}
use Rattle.vbm_ports.proofs.States.{Passes-trans, Passes-weaker}
use Rattle.vbm_intent.specs.Changes.{log_name}
use Rattle.vbm_intent.specs.Log.{IsOpen, IsShut, IsShutInAll, Redo, RedoesTo, IsBeforeOrAfter}
use Rattle.vbm_volume.specs.Wrote.{Loosens, Wrote}
use Rattle.vbm_volume.proofs.Writings.{Wrote-goes_on, Wrote-reads}
use Rattle.vbm_image.specs.declared.image.Image.{Image}
use Rattle.vbm_image.specs.Image.{file_in, IsInForm, FitsIn}
use Rattle.vbm_chain.proofs.ResolvedSectors.{at_item}
use Rattle.vbm_guest.specs.declared.memory.WriteFault.{WriteFault}
use Rattle.vbm_guest.specs.declared.memory.WriteFault.TheVariants.{Failed, NoMemory}
use Rattle.vbm_guest.specs.Runs.{in_run, last_of, ReplacesRun}
use Rattle.vbm_guest.specs.Edited.{ChangesAt, StagesAtMost, IsRoomed}
use Rattle.vbm_guest.specs.Memory.{UnlessFailed, OnWantOfMemory}
use Rattle.vbm_guest.specs.Flushing.{settling_all, staged_in, Settled, MaySettle}
use Rattle.vbm_guest.specs.Writing.{LoosensRun, WroteRun, RunWritten, WritesRun, IsInWrite}
use Rattle.vbm_guest.proofs.EditedImages.{image_at, same_image}
use Rattle.vbm_guest.proofs.StagedCounts.{staged_roomed}

not_open : (file : Option (List ℕ)) → IsShut file → IsOpen file → ⊥
not_open None shut opens = opens
not_open (Some []) shut opens = opens
not_open (Some (gate ∷ behind)) shut opens = shut opens.0

-- a log that is shut redoes nothing
redoes_self : (image : Files) → IsShut (image log_name) → RedoesTo image image
redoes_self image shut = record {
  result = image;
  redo = Rattle.vbm_intent.specs.Log.Redo.closed (not_open (image log_name) shut) refl;
  same = λ name differ. refl;
}

module _ (chain : List ℕ) (images : List Image) (lba n : ℕ) (form : All IsInForm images) (inside : last_of chain < length images) where
  abbrev last : (image : Image) × (slice_get images (last_of chain) ≡ Some image)
  last = image_at images (last_of chain) inside

  loosens_of : (files a b : Files) → Loosens last.0.name last.0.header (file_in files last.0) (in_run lba n) a b
      → LoosensRun chain images lba n files a b
  loosens_of files a b loosens image is =
      subst (λ (x : Image). Loosens x.name x.header (file_in files x) (in_run lba n) a b)
      (same_image images (last_of chain) last.0 image last.1 is) loosens

  module _ (old mid : DiskState) (wrote : WroteRun chain images lba n old mid) where
    wrote_last : Wrote last.0.name last.0.header (file_in old.files last.0) (in_run lba n) old mid
    wrote_last = wrote last.0 last.1

    -- each image after the write is one of before but for the run
    from_old : (image : Files) → mid.may_leave image → Through (LoosensRun chain images lba n old.files) old.may_leave image
    from_old image may = let from = wrote_last.images image may in (from.0, from.1, loosens_of old.files from.0 image from.2)

    log_kept : (a b : Files) → Loosens last.0.name last.0.header (file_in old.files last.0) (in_run lba n) a b → b log_name ≡ a log_name
    log_kept a b loosens =
        loosens.others log_name (λ e. (at_item IsInForm images (last_of chain) last.0 form last.1).not_log (sym e))

    pub shut_after : IsShutInAll old.may_leave → IsShutInAll mid.may_leave
    shut_after shut image may =
        let from = wrote_last.images image may in
        subst IsShut (sym (log_kept from.0 image from.2)) (shut from.0 from.1)

    -- each moment of the write
    pub write_moments : (bytes : List ℕ) → IsShutInAll old.may_leave → Passes old mid (IsInWrite chain images lba n bytes old)
    write_moments bytes shut = Passes-weaker old mid _ (IsInWrite chain images lba n bytes old) wrote_last.time (in_writing bytes shut)
      where
        in_writing : (bytes : List ℕ) → IsShutInAll old.may_leave → (image : Files)
            → Through (Loosens last.0.name last.0.header (file_in old.files last.0) (in_run lba n)) old.may_leave image
            → IsInWrite chain images lba n bytes old image
        in_writing bytes shut image from =
            Rattle.vbm_guest.specs.Writing.IsInWrite.loose image (from.0, from.1, loosens_of old.files from.0 image from.2)
            (redoes_self image (subst IsShut (sym (log_kept from.0 image from.2)) (shut from.0 from.1)))

    module _ (between : List Image) (bytes : List ℕ) (edited : ChangesAt (StagesAtMost 2) (last_of chain) images between)
        (replaces : ReplacesRun chain old.files images mid.files between lba n bytes) (fits : All (FitsIn mid.files) between) where
      pub run_written : RunWritten chain images old.files lba n bytes between mid.files
      run_written = record {
        edited = edited;
        replaces = replaces;
        loosens = loosens_of old.files old.files mid.files wrote_last.files;
        fits = fits;
      }

      -- each moment of the write and of the settling
      pub all_moments : (new : DiskState) → IsShutInAll old.may_leave
          → Passes mid new (IsBeforeOrAfter (settling_all between) mid.files mid.may_leave) → Passes old new (IsInWrite chain images lba n bytes old)
      all_moments new shut time =
          Passes-trans old mid new (IsInWrite chain images lba n bytes old) (IsBeforeOrAfter (settling_all between) mid.files mid.may_leave)
          (IsInWrite chain images lba n bytes old) (write_moments bytes shut) time (λ image in_write. in_write) in_settling
        where
          in_settling : (image : Files) → IsBeforeOrAfter (settling_all between) mid.files mid.may_leave image
              → IsInWrite chain images lba n bytes old image
          in_settling image (Rattle.vbm_intent.specs.Log.IsBeforeOrAfter.before start may redo) =
              Rattle.vbm_guest.specs.Writing.IsInWrite.loose start (from_old start may) redo
          in_settling image (Rattle.vbm_intent.specs.Log.IsBeforeOrAfter.done redo) =
              Rattle.vbm_guest.specs.Writing.IsInWrite.settled between mid.files run_written redo

      -- what was done in all
      pub writes : (others : List Image) (new : DiskState) → All (FitsIn old.files) images → MaySettle between others mid new
          → WritesRun chain images others lba n bytes old new
      writes others new fits_old (Rattle.vbm_guest.specs.Flushing.MaySettle.settled settled) =
          Rattle.vbm_guest.specs.Writing.WritesRun.settled between mid.files run_written settled
      writes others new fits_old (Rattle.vbm_guest.specs.Flushing.MaySettle.stayed same reads) =
          Rattle.vbm_guest.specs.Writing.WritesRun.staged
          (subst (λ (x : Files). RunWritten chain images old.files lba n bytes others x) (sym (reads.files tt))
          (subst (λ (xs : List Image). RunWritten chain images old.files lba n bytes xs mid.files) (sym same) run_written))
          (λ image is.
          let accepted = (at_item (FitsIn old.files) images (last_of chain) image fits_old is).accepted in
          Wrote-goes_on image.name image.header (in_run lba n) (in_run lba n) (in_run lba n) old mid new accepted
          (λ i loose. loose) (λ i loose. loose)
          (wrote image is) (Wrote-reads (Unit {0}) image.name image.header (bytes_of (mid.files image.name)) (in_run lba n) mid new tt reads))

-- want of memory leaves what is staged
few_of : (fault : WriteFault) (chain : List ℕ) (images others : List Image) (most : ℕ) → last_of chain < length images
    → staged_in images < most → OnWantOfMemory {X = Unit {0}} (Err fault) (ChangesAt IsRoomed (last_of chain) images others)
    → UnlessFailed {X = Unit {0}} (Err fault) (staged_in others < most)
few_of Failed chain images others most inside few stay = tt
few_of NoMemory chain images others most inside few stay =
    let found = image_at images (last_of chain) inside in
    omega (arith, few, staged_roomed (last_of chain) images others found.0 found.1 stay)

pub few_after : (r : Result (Unit {0}) WriteFault) (fault : WriteFault) → IsErr r × IsErrAnd r (λ e. e ≡ fault) → (chain : List ℕ)
    (images others : List Image) (most : ℕ) → last_of chain < length images → staged_in images < most
    → OnWantOfMemory {X = Unit {0}} (Err fault) (ChangesAt IsRoomed (last_of chain) images others) → UnlessFailed r (staged_in others < most)
few_after (Ok x) fault is chain images others most inside few stay = let bad = is.0 in absurd cc
few_after (Err e) fault is chain images others most inside few stay =
    subst (λ (x : WriteFault). UnlessFailed {X = Unit {0}} (Err x) (staged_in others < most)) (sym is.1)
    (few_of fault chain images others most inside few stay)
