use Rattle.std.proofs.Common.{◌≡◌, take, None}
use Rattle.vbm_memdisk.specs.Folders.{files_of}
use Rattle.vbm_memdisk.proofs.folder.find.Given as goal

-- none of those before has the name
abbrev pub invariant-loop-i : goal.invariant-loop-i
invariant-loop-i l = files_of (take l.i l.files) l.name ≡ None
