-- What is answered where a sector of a chain of files is asked for.
use Rattle.std.specs.Prelude.{◌≡◌, ℕ, nat_le, if◌then◌else◌, Bool, true, false, List, [], ◌∷◌, Option, Some, None, Result, Ok, Err}
use Rattle.std.specs.Option.{option_map}
use Rattle.vbm_header.specs.declared.BadImage.{BadImage}
use Rattle.vbm_header.specs.declared.Header.{Header}
use Rattle.vbm_header.specs.Header.{condition_number}
use Rattle.vbm_volume.specs.Image.{image_of}
use Rattle.vbm_volume.specs.Chain.{Link, headers_of, broken_at, chain_count, chain_sector}
use Rattle.vbm_world.specs.declared.command.Refusal.{Refusal}
use Rattle.vbm_world.specs.declared.command.Refusal.TheVariants.{NoSuchFile, NotAnImage, OutOfRange, BrokenChain}
use Rattle.vbm_world.specs.declared.command.Answer.{Answer}
use Rattle.vbm_world.specs.declared.command.Answer.TheVariants.{Sectors, Refused as RefusedWith}
use Rattle.vbm_peek.specs.declared.peeking.PeekResult.{PeekResult}
use Rattle.vbm_peek.specs.declared.peeking.PeekResult.TheVariants.{Sector, Refused, Failed, NoMemory}

-- the bytes of a sector, or a refusal
abbrev pub Peeked : Type 0
Peeked = Result (List ℕ) Refusal

-- the files, if all of them are there
abbrev pub all_there : List (Option (List ℕ)) → Option (List (List ℕ))
all_there [] = Some []
all_there (None ∷ files) = None
all_there (Some f ∷ files) = option_map (λ fs. f ∷ fs) (all_there files)

-- the files with their headers, if all of them are images; else the condition that the first of the others fails
abbrev pub links_of : List (List ℕ) → Result (List Link) BadImage
links_of [] = Ok []
links_of (f ∷ fs) = on_link f (image_of f) (links_of fs) where
  on_link : List ℕ → Result Header BadImage → Result (List Link) BadImage → Result (List Link) BadImage
  on_link f (Err bad) above = Err bad
  on_link f (Ok h) (Err bad) = Err bad
  on_link f (Ok h) (Ok above) = Ok ((f, h) ∷ above)

-- of a list of images: the sector, if they are a chain; else the place of the first that is not linked
abbrev pub unless_broken : Option ℕ → List Link → ℕ → Peeked
unless_broken (Some i) links lba = Err (BrokenChain i)
unless_broken None links lba = Ok (chain_sector links lba)

abbrev pub sector_of_links : Result (List Link) BadImage → ℕ → Peeked
sector_of_links (Err bad) lba = Err (NotAnImage (condition_number bad))
sector_of_links (Ok links) lba = if nat_le (chain_count links) lba then Err OutOfRange else unless_broken (broken_at (headers_of links)) links lba

abbrev pub sector_of_files : Option (List (List ℕ)) → ℕ → Peeked
sector_of_files None lba = Err NoSuchFile
sector_of_files (Some fs) lba = sector_of_links (links_of fs) lba

-- Sector `lba` of files, base first, or the first refusal that holds: a file is not there, is no image, the sector is past the
-- capacity of the last, or the files are no chain.
abbrev pub peeked : List (Option (List ℕ)) → ℕ → Peeked
peeked files lba = sector_of_files (all_there files) lba

-- a refusal, unless a file is not there, which is refused before it
abbrev pub unless_missing : Option (List (List ℕ)) → Refusal → Peeked
unless_missing None refusal = Err NoSuchFile
unless_missing (Some fs) refusal = Err refusal

-- a result tells the answer; a device fault and want of memory tell nothing of it
abbrev pub Tells : PeekResult → Peeked → Type 0
Tells (Sector bytes) answer = answer ≡ Ok bytes
Tells (Refused refusal) answer = answer ≡ Err refusal
Tells Failed answer = Unit {0}
Tells NoMemory answer = Unit {0}

-- the disk failed
abbrev pub peek_failed : PeekResult → Bool
peek_failed (Sector bytes) = false
peek_failed (Refused refusal) = false
peek_failed Failed = true
peek_failed NoMemory = false

-- the answer of the program: a sector, or a refusal
abbrev pub answer_of : Peeked → Answer
answer_of (Ok bytes) = Sectors bytes
answer_of (Err refusal) = RefusedWith refusal
