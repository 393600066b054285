-- What the staging of a block does.
use Rattle.std.specs.Prelude.{◌≡◌, ◌≢◌, ℕ, ◌<◌, List, [], ◌∷◌, ◌++◌, Option, Some, None}
use Rattle.vbm_ports.specs.Files.{Files, IsWritten}
use Rattle.vbm_volume.specs.Image.{word_of, data_at}
use Rattle.vbm_volume.specs.Marks.{MarksOneMore}
use Rattle.vbm_blockmap.specs.Pending.{position_in}
use Rattle.vbm_blockmap.specs.Used.{IsLeast}
use Rattle.vbm_blockmap.specs.declared.used.TheConstants.{POSITION_LIMIT}
use Rattle.vbm_image.specs.declared.image.Image.{Image}
use Rattle.vbm_image.specs.Image.{file_in}

-- the least position that is not marked was taken
abbrev pub IsTakenFrom : Option (List ℕ) → Option (List ℕ) → ℕ → Type 0
IsTakenFrom None new p = ⊥
IsTakenFrom (Some old) None p = ⊥
IsTakenFrom (Some old) (Some new) p = IsLeast old p × MarksOneMore old new p

-- A block was staged at a position that was not marked.
pub record StagesEntry (old new : Image) (block : ℕ) : Type 0 where
  pub at : ℕ
  pub low : at < POSITION_LIMIT
  pub taken : IsTakenFrom old.used new.used at
  pub staged : new.pending.staged ≡ old.pending.staged ++ (block, at) ∷ []

-- Its data stands there, where no settled and no staged entry had theirs, and no other byte was written.
pub record StagesBlock (old new : Image) (block : ℕ) (bytes : List ℕ) (files now : Files) : Type 0 where
  pub entry : StagesEntry old new block
  pub no_word : (b : ℕ) → b < old.header.blocks → word_of (file_in files old) old.header b ≢ entry.at
  pub none_staged : (b : ℕ) → position_in old.pending.staged b ≢ Some entry.at
  pub written : IsWritten old.name (data_at old.header entry.at) bytes files now

-- the same image, but for what is staged and marked
pub record IsSameImage (old new : Image) : Type 0 where
  pub name : new.name ≡ old.name
  pub header : new.header ≡ old.header
