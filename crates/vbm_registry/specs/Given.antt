-- What the code's readers give of what a part of the file holds, unless memory ran out.
use Rattle.std.specs.Prelude.{◌≡◌, ℕ, List, Result, Ok, Err}
use Rattle.vbm_registry.specs.declared.cursor.BadField.{BadField}
use Rattle.vbm_registry.specs.declared.cursor.Stop.{Stop}
use Rattle.vbm_registry.specs.declared.cursor.Stop.TheVariants as stops
use Rattle.vbm_registry.specs.declared.fault.DecodeFault.{DecodeFault}
use Rattle.vbm_registry.specs.declared.fault.DecodeFault.TheVariants as faults
use Rattle.vbm_registry.specs.declared.library.Library.{Library}
use Rattle.vbm_registry.specs.Parts.{Parsed}

-- a reader that stopped, at as many bytes left as reading tells
abbrev pub Stops : {Y : Type 0} → Stop → Result Y ℕ → Type 0
Stops stops.NoMemory read = Unit {0}
Stops (stops.Left n) read = read ≡ Err n

-- a reader that goes along the bytes: the value, and what it leaves of them
abbrev pub Gives : {X : Type 0} → Result X Stop → (rest : List ℕ) → Parsed X → Type 0
Gives (Ok x) rest read = read ≡ Ok (x, rest)
Gives (Err stop) rest read = Stops stop read

-- a reader that takes no memory
abbrev pub GivesField : {X : Type 0} → Result X BadField → (rest : List ℕ) → Parsed X → Type 0
GivesField (Ok x) rest read = read ≡ Ok (x, rest)
GivesField (Err bad) rest read = read ≡ Err bad.left

-- the same through a view
abbrev pub GivesBy : {X Y : Type 0} → (X → Y) → Result X Stop → (rest : List ℕ) → Parsed Y → Type 0
GivesBy view (Ok x) rest read = read ≡ Ok (view x, rest)
GivesBy view (Err stop) rest read = Stops stop read

abbrev pub GivesFieldBy : {X Y : Type 0} → (X → Y) → Result X BadField → (rest : List ℕ) → Parsed Y → Type 0
GivesFieldBy view (Ok x) rest read = read ≡ Ok (view x, rest)
GivesFieldBy view (Err bad) rest read = read ≡ Err bad.left

-- the same where no bytes are left
abbrev pub GivesWhole : {X : Type 0} → Result X Stop → Result X ℕ → Type 0
GivesWhole (Ok x) read = read ≡ Ok x
GivesWhole (Err stop) read = Stops stop read

-- what decoding answers is what the file holds
abbrev pub Decodes : Result Library DecodeFault → Result Library ℕ → Type 0
Decodes (Ok l) read = read ≡ Ok l
Decodes (Err (faults.Bad offset)) read = read ≡ Err offset
Decodes (Err faults.NoMemory) read = Unit {0}
