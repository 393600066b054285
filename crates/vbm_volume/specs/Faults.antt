-- What the reading of an image answers.
use Rattle.std.specs.Prelude.{◌≡◌, ℕ, List, length, Result, Ok, Err}
use Rattle.vbm_header.specs.declared.BadImage.{BadImage}
use Rattle.vbm_header.specs.declared.Header.{Header}
use Rattle.vbm_header.specs.Header.{header_of}
use Rattle.vbm_volume.specs.declared.fault.MapFault.{MapFault}
use Rattle.vbm_volume.specs.declared.fault.MapFault.TheVariants.{Bad, Failed, NoMemory}

-- the file has this length and this header
pub record HasHeader (f : List ℕ) (header : Header) (len : ℕ) : Type 0 where
  pub size : length f ≡ len
  pub is : header_of f len ≡ Ok header

-- an answer that comes of an accepted image, or says which condition fails; a device fault and want of memory say nothing of it
abbrev pub Answers : {T : Type 0} → Result T MapFault → (T → Header) → Result Header BadImage → Type 0
Answers (Ok x) header image = image ≡ Ok (header x)
Answers (Err (Bad k)) header image = image ≡ Err k
Answers (Err Failed) header image = Unit {0}
Answers (Err NoMemory) header image = Unit {0}
