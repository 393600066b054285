use Rattle.std.proofs.Common.{◌<◌, length, refl, sym, ◌∙◌, ap, subst, Some, List, ℕ, Option, arith}
use Rattle.std.proofs.lemmas.Bool.Decides.{nat_tests}
use Rattle.vbm_memdisk.specs.Folders.{IsFirst, files_of, with_file, wrote}
use Rattle.vbm_memdisk.specs.declared.folder.MemFile.{MemFile}
use Rattle.vbm_memdisk.specs.Laws.{with_same, wrote_some}
use Rattle.vbm_memdisk.proofs.FileLists.{first_is, changed}
use Rattle.vbm_memdisk.proofs.Outcomes.{OnOk-map, OnErr-map}
use Rattle.vbm_memdisk.proofs.folder.Folder.write.Goals as goal

pub returns-in-Some-clause-ok : goal.returns-in-Some-clause-ok
returns-in-Some-clause-ok c =
    let files : List MemFile = c.args.self.now.files.items in
    let old : MemFile = c.index_mut-file.result.now in
    let is = subst (λ (l : List MemFile). IsFirst l c.args.name.now c.in-Some.i) c.deref.ensures.value c.in-Some.ensures in
    let some : 0 < length c.args.bytes.now = grind (arith, nat_tests) in
    OnOk-map c.put_bytes.result
    (λ done. changed files c.args.name.now c.in-Some.i old (record { name = old.name; bytes = c.put_bytes.new.file }) is c.index_mut-file.ensures.value refl
    ∙ ap (λ (value : Option (List ℕ)). with_file c.args.name.now value (files_of files))
    (ap (λ (l : List ℕ). Some l) done ∙ sym (wrote_some c.args.at c.args.bytes.now (Some old.bytes.items) some)
    ∙ sym (ap (λ (o : Option (List ℕ)). wrote c.args.at c.args.bytes.now o) (first_is files c.args.name.now c.in-Some.i old is c.index_mut-file.ensures.value))))
    c.put_bytes.ensures.ok

pub returns-in-Some-clause-err : goal.returns-in-Some-clause-err
returns-in-Some-clause-err c =
    let files : List MemFile = c.args.self.now.files.items in
    let old : MemFile = c.index_mut-file.result.now in
    let is = subst (λ (l : List MemFile). IsFirst l c.args.name.now c.in-Some.i) c.deref.ensures.value c.in-Some.ensures in
    OnErr-map c.put_bytes.result
    (λ done. changed files c.args.name.now c.in-Some.i old (record { name = old.name; bytes = c.put_bytes.new.file }) is c.index_mut-file.ensures.value refl
    ∙ with_same c.args.name.now (Some c.put_bytes.new.file.items) (files_of files)
    (first_is files c.args.name.now c.in-Some.i old is c.index_mut-file.ensures.value ∙ ap (λ (l : List ℕ). Some l) (sym done)))
    c.put_bytes.ensures.err
