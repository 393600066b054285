use Rattle.std.proofs.Common.{◌∙◌, ap, not, List, rules}
use Rattle.std.proofs.lemmas.Fn.{filter_same}
use Rattle.std.specs.Str.{bytes_eq}
use Rattle.vbm_memdisk.specs.Folders.{files_of}
use Rattle.vbm_memdisk.specs.declared.folder.MemFile.{MemFile}
use Rattle.vbm_memdisk.proofs.FileLists.{without}
use Rattle.vbm_memdisk.proofs.folder.Folder.remove.Goals as goal

pub returns : goal.returns
returns c =
    let kept = filter_same _ (λ (file : MemFile). not (bytes_eq file.name c.args.name.now)) _ (λ x b f' k. search rules) _ _ c.retain.ensures.filtered in
    λ k other. (ap (λ (l : List MemFile). files_of l other) kept ∙ without c.args.name.now c.args.self.now.files.items other) k
