use Rattle.std.proofs.Common.{◌∙◌, ◌++◌, ◌∷◌, [], ℕ, List, Option, take, get_or, sym, ap, arith}
use Rattle.std.proofs.lemmas.List.{take_more}
use Rattle.vbm_ports.specs.Files.{Files}
use Rattle.vbm_memdisk.specs.Folders.{files_of, or_else}
use Rattle.vbm_memdisk.specs.declared.folder.MemFile.{MemFile}
use Rattle.vbm_memdisk.proofs.Replays.{joined}
use Rattle.vbm_memdisk.proofs.folder.Folder.copy.Goals as goal

pub loop-file-init : goal.loop-file-init
loop-file-init c = λ name. ap (λ (files : Files). files name) c.new-copy.ensures

pub loop-file-preserved : goal.loop-file-preserved
loop-file-preserved c = λ name.
    let files : List MemFile = c.args.self.now.files.items in
    let i : ℕ = c.loop-file.file-index in
    c.in_ok-append.ensures name
    ∙ ap (λ (o : Option (List ℕ)). or_else o (files_of (c.file-item.result ∷ []) name)) (c.loop-file.invariant name)
    ∙ sym (joined (take i files) (c.file-item.result ∷ []) name)
    ∙ ap (λ (l : List MemFile). files_of l name) (sym (take_more files i c.file-item.result (omega arith) ∙ ap (λ (f : MemFile). take i files ++ f ∷ []) (sym (c.file-item.is ∙ ap (λ (l : List MemFile). get_or l i c.file-item.result) c.deref-file-items.ensures.value))))
