use Rattle.std.proofs.Common.{◌≡◌, ◌∙◌, ap, subst, None, List, rules}
use Rattle.vbm_memdisk.specs.Folders.{IsFirst, files_of}
use Rattle.vbm_memdisk.specs.declared.folder.MemFile.{MemFile}
use Rattle.vbm_memdisk.proofs.FileLists.{replaced, added}
use Rattle.vbm_memdisk.proofs.Outcomes.{OnOk-map}
use Rattle.vbm_memdisk.proofs.folder.Folder.set.Goals as goal

pub returns-in-Some-clause-ok : goal.returns-in-Some-clause-ok
returns-in-Some-clause-ok c =
    let old : MemFile = c.index_mut-file.result.now in
    let is = subst (λ (l : List MemFile). IsFirst l c.args.name.now c.in-Some.i) c.deref.ensures.value c.in-Some.ensures in
    let named : old.name ≡ c.args.name.now = ap (λ (file : MemFile). file.name) c.index_mut-file.ensures.value ∙ is.named old in
    replaced c.args.self.now.files.items c.args.name.now c.in-Some.i (record { name = old.name; bytes = c.args.bytes }) is named

pub returns-clause-ok : goal.returns-clause-ok
returns-clause-ok c =
    let none : files_of c.args.self.now.files.items c.args.name.now ≡ None = search rules in
    OnOk-map c.push.result
    (λ done. ap (λ (l : List MemFile). files_of l) done
    ∙ added c.args.self.now.files.items c.args.name.now (record { name = c.in_ok-name.name; bytes = c.args.bytes }) none c.in_ok-name.ensures)
    c.push.ensures.ok
