use Rattle.std.proofs.Common.{◌≤◌, length, refl, sym, ◌∙◌, ap, subst, Some, List, ℕ, Option, IfSome}
use Rattle.std.specs.Option.{option_map}
use Rattle.vbm_memdisk.specs.Folders.{IsFirst, files_of, with_file, filled}
use Rattle.vbm_memdisk.specs.declared.folder.MemFile.{MemFile}
use Rattle.vbm_memdisk.proofs.FileLists.{first_is, changed}
use Rattle.vbm_memdisk.proofs.folder.Folder.fill.Goals as goal

pub fill_bytes-requires-clause-within : goal.fill_bytes-requires-clause-within
fill_bytes-requires-clause-within c =
    let is = subst (λ (l : List MemFile). IsFirst l c.args.name.now c.in-Some.i) c.deref.ensures.value c.in-Some.ensures in
    let here = first_is c.args.self.now.files.items c.args.name.now c.in-Some.i c.index_mut-file.result.now is c.index_mut-file.ensures.value in
    (subst (λ (o : Option (List ℕ)). IfSome o (λ bytes. (c.args.from ≤ length bytes) × (c.args.from ≤ c.args.to))) here c.requires).0

pub fill_bytes-requires-clause-order : goal.fill_bytes-requires-clause-order
fill_bytes-requires-clause-order c =
    let is = subst (λ (l : List MemFile). IsFirst l c.args.name.now c.in-Some.i) c.deref.ensures.value c.in-Some.ensures in
    let here = first_is c.args.self.now.files.items c.args.name.now c.in-Some.i c.index_mut-file.result.now is c.index_mut-file.ensures.value in
    (subst (λ (o : Option (List ℕ)). IfSome o (λ bytes. (c.args.from ≤ length bytes) × (c.args.from ≤ c.args.to))) here c.requires).1

pub returns-in-Some : goal.returns-in-Some
returns-in-Some c =
    let files : List MemFile = c.args.self.now.files.items in
    let old : MemFile = c.index_mut-file.result.now in
    let is = subst (λ (l : List MemFile). IsFirst l c.args.name.now c.in-Some.i) c.deref.ensures.value c.in-Some.ensures in
    changed files c.args.name.now c.in-Some.i old (record { name = old.name; bytes = c.fill_bytes.new.file }) is c.index_mut-file.ensures.value refl
    ∙ ap (λ (value : Option (List ℕ)). with_file c.args.name.now value (files_of files))
    (ap (λ (l : List ℕ). Some l) c.fill_bytes.ensures
    ∙ sym (ap (λ (o : Option (List ℕ)). option_map (filled c.args.from c.args.to c.args.byte) o) (first_is files c.args.name.now c.in-Some.i old is c.index_mut-file.ensures.value)))
