-- How redo ended.
use Rattle.std.specs.Prelude.{Bool, true, false}
use Rattle.vbm_ports.specs.Crash.{Only}
use Rattle.vbm_ports.specs.Disk.{DiskState, Passes}
use Rattle.vbm_intent.specs.Log.{IsLikeRedone}
use Rattle.vbm_intent.specs.declared.recovery.Redone.{Redone}
use Rattle.vbm_intent.specs.declared.recovery.Redone.TheVariants.{Done, Failed, BadLog}

-- Over a settled disk, a crash at any moment leaves what redo makes the same of.
abbrev pub RedoesAtAnyMoment : DiskState → DiskState → Type 0
RedoesAtAnyMoment old new = Only old.files old.may_leave → Passes old new (IsLikeRedone old.files)

-- this holds where the log is shut
abbrev pub OnDone : Redone → Type 0 → Type 0
OnDone (Done log) P = P
OnDone Failed P = Unit {0}
OnDone BadLog P = Unit {0}

-- this holds where the log is bad
abbrev pub OnBadLog : Redone → Type 0 → Type 0
OnBadLog (Done log) P = Unit {0}
OnBadLog Failed P = Unit {0}
OnBadLog BadLog P = P

-- this holds where a device failed
abbrev pub OnFailed : Redone → Type 0 → Type 0
OnFailed (Done log) P = Unit {0}
OnFailed Failed P = P
OnFailed BadLog P = Unit {0}

-- a device failed
abbrev pub is_failed : Redone → Bool
is_failed (Done log) = false
is_failed Failed = true
is_failed BadLog = false
