use Rattle.std.proofs.Common.{◌≡◌, List, ℕ, take}
use Rattle.vbm_memdisk.specs.Folders.{files_in, files_of}
use Rattle.vbm_memdisk.proofs.folder.Folder.copy.Given as goal

-- the files so far were copied
abbrev pub invariant-loop-file : goal.invariant-loop-file
invariant-loop-file l = (name : List ℕ) → files_in l.copy name ≡ files_of (take l.file-index l.self.files.items) name
