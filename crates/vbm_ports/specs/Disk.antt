-- What a disk means: the files that reads give, and what a crash may leave of them.
use Rattle.std.specs.Prelude.{◌≡◌, ℕ, ◌≤◌, ◌⊎◌, List, length}
use Rattle.vbm_ports.specs.Counts.{counted}
use Rattle.vbm_ports.specs.Files.{Files, bytes_of}
use Rattle.vbm_ports.specs.declared.disk.TheConstants.{LONGEST_FILE}

-- What a disk is at one moment. An image is what a crash leaves of the files.
pub record DiskState : Type 1 where
  -- the files, as reads give them
  pub files : Files
  -- whether a crash may leave this image now
  pub may_leave : Files → Type 0
  -- the present time, a number that does not fall
  pub moment : ℕ
  -- whether a crash at some moment since this time may have left this image
  pub left_since : ℕ → Files → Type 0
  -- how many calls were made
  pub calls : ℕ
  -- how many calls failed
  pub faults : ℕ

-- Time goes on from old to new, and a crash in between leaves an image that has P, and no other.
pub record Passes (old new : DiskState) (P : Files → Type 0) : Type 0 where
  pub later : old.moment ≤ new.moment
  pub only : (t : ℕ) (image : Files) → t ≤ old.moment → new.left_since t image → old.left_since t image ⊎ P image
  pub keeps : (t : ℕ) (image : Files) → t ≤ old.moment → old.left_since t image → new.left_since t image

-- one call was made, and no fault was taken back
pub record CountsCall (old new : DiskState) : Type 0 where
  pub calls : new.calls ≡ counted old.calls
  pub faults : old.faults ≤ new.faults

-- Nothing but reading was done: no file changed, where the disk tells its files, and a crash leaves nothing new.
pub record OnlyReads (tells : Type 0) (old new : DiskState) : Type 0 where
  pub files : tells → new.files ≡ old.files
  pub images : (image : Files) → new.may_leave image → old.may_leave image
  pub time : Passes old new old.may_leave
  pub calls : old.calls ≤ new.calls
  pub faults : old.faults ≤ new.faults

-- the laws of a disk at any moment
pub record IsCoherent (tells : Type 0) (state : DiskState) : Type 0 where
  -- what is read is one of the images of now
  pub read_is_image : tells → state.may_leave state.files
  -- this moment is one of those since an earlier one
  pub counts_now : (t : ℕ) (image : Files) → t ≤ state.moment → state.may_leave image → state.left_since t image
  -- since this moment there is no other
  pub only_now : (image : Files) → state.left_since state.moment image → state.may_leave image
  -- no file is longer than LONGEST_FILE bytes
  pub short : tells → (name : List ℕ) → length (bytes_of (state.files name)) ≤ LONGEST_FILE
