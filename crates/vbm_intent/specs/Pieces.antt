-- A change that lies in bytes.
use Rattle.vbm_intent.specs.declared.change.Change.{Change}
use Rattle.vbm_intent.specs.declared.change.Change.TheVariants as change
use Rattle.vbm_intent.specs.declared.record.Piece.{Piece}
use Rattle.vbm_intent.specs.declared.record.Piece.TheVariants.{Write, Fill, Cut, Remove}

abbrev pub change_in : Piece → Change
change_in (Write name at bytes) = change.Write name.now at bytes.now
change_in (Fill name at len byte) = change.Fill name.now at len byte
change_in (Cut name len) = change.Cut name.now len
change_in (Remove name) = change.Remove name.now
