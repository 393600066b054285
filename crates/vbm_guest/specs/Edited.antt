-- Lists of images, of which one is edited.
use Rattle.std.specs.Prelude.{◌≡◌, ◌≢◌, ℕ, ◌+◌, ◌≤◌, List, length, slice_get, Some}
use Rattle.vbm_image.specs.declared.image.Image.{Image}
use Rattle.vbm_image.specs.Image.{left_in}

-- no two images have one name
abbrev pub AreNamedApart : List Image → Type 0
AreNamedApart images =
    (i j : ℕ) (a b : Image) → slice_get images i ≡ Some a → slice_get images j ≡ Some b → i ≢ j → a.name ≢ b.name

-- The images are those of before, but for the one with this number, which stands to that of before as P says.
pub record ChangesAt (P : Image → Image → Type 0) (at : ℕ) (images others : List Image) : Type 0 where
  pub count : length others ≡ length images
  pub rest : (k : ℕ) → k ≢ at → slice_get others k ≡ slice_get images k
  pub here : (old new : Image) → slice_get images at ≡ Some old → slice_get others at ≡ Some new → P old new

-- the same image, of which so many blocks at most were staged
pub record StagesAtMost (n : ℕ) (old new : Image) : Type 0 where
  pub name : new.name ≡ old.name
  pub header : new.header ≡ old.header
  pub staged : length new.pending.staged ≤ length old.pending.staged + n

-- and that took no more room
pub record TakesAtMost (n : ℕ) (old new : Image) : Type 0 where
  pub stages : StagesAtMost n old new
  pub spare : old.pending.spare ≤ new.pending.spare + n
  pub left : left_in old.used ≤ left_in new.used + n

-- the same image, but for room and marks
pub record IsRoomed (old new : Image) : Type 0 where
  pub name : new.name ≡ old.name
  pub header : new.header ≡ old.header
  pub staged : new.pending.staged ≡ old.pending.staged

-- so many blocks of an image can be staged without memory
pub record HasRoomToStage (n : ℕ) (image : Image) : Type 0 where
  pub spare : n ≤ image.pending.spare
  pub left : n ≤ left_in image.used
