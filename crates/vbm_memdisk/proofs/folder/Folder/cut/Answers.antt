use Rattle.std.proofs.Common.{◌≡◌, sym, ◌∙◌, ap, subst, Some, List, ℕ, Option}
use Rattle.vbm_ports.specs.Files.{cut_to}
use Rattle.vbm_memdisk.specs.Folders.{IsFirst, files_of, with_file}
use Rattle.vbm_memdisk.specs.declared.folder.MemFile.{MemFile}
use Rattle.vbm_memdisk.proofs.FileLists.{first_counts, replaced}
use Rattle.vbm_memdisk.proofs.folder.Folder.cut.Goals as goal

pub returns-in-Some : goal.returns-in-Some
returns-in-Some c =
    let files : List MemFile = c.args.self.now.files.items in
    let old : MemFile = c.index_mut-file.result.now in
    let is = subst (λ (l : List MemFile). IsFirst l c.args.name.now c.in-Some.i) c.deref.ensures.value c.in-Some.ensures in
    let named : old.name ≡ c.args.name.now = ap (λ (file : MemFile). file.name) c.index_mut-file.ensures.value ∙ is.named old in
    let before : files_of files c.args.name.now ≡ Some old.bytes.items = first_counts files c.args.name.now c.in-Some.i old is ∙ ap (λ (file : MemFile). Some file.bytes.items) (sym c.index_mut-file.ensures.value) in
    replaced files c.args.name.now c.in-Some.i (record { name = old.name; bytes = c.truncate.new.self }) is named
    ∙ ap (λ (value : Option (List ℕ)). with_file c.args.name.now value (files_of files))
    (ap (λ (l : List ℕ). Some l) c.truncate.ensures.items ∙ sym (ap (λ (o : Option (List ℕ)). cut_to c.args.len o) before))
