use Rattle.std.proofs.Common.{◌≡◌, map, take}
use Rattle.vbm_memdisk.specs.Folders.{file_name}
use Rattle.vbm_memdisk.proofs.folder.Folder.names.Given as goal

-- the names of the files so far
abbrev pub invariant-loop-file : goal.invariant-loop-file
invariant-loop-file l = l.names ≡ map file_name (take l.file-index l.self.files.items)
