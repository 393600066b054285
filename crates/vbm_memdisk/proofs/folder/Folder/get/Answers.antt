use Rattle.std.proofs.Common.{sym, ◌∙◌, ap, subst, Some, List, ℕ}
use Rattle.vbm_memdisk.specs.Folders.{IsFirst}
use Rattle.vbm_memdisk.specs.declared.folder.MemFile.{MemFile}
use Rattle.vbm_memdisk.proofs.FileLists.{first_counts}
use Rattle.vbm_memdisk.proofs.folder.Folder.get.Goals as goal

pub returns-in-Some : goal.returns-in-Some
returns-in-Some c =
    let is = subst (λ (l : List MemFile). IsFirst l c.args.name.now c.in-Some.i) c.deref.ensures.value c.in-Some.ensures in
    ap (λ (l : List ℕ). Some l) (c.as_slice.ensures.value ∙ ap (λ (file : MemFile). file.bytes.items) c.index.ensures)
    ∙ sym (first_counts c.args.self.now.files.items c.args.name.now c.in-Some.i c.index.result.now is)
