use Rattle.std.proofs.Common.{◌≡◌, ◌∙◌, ℕ, List, Some, None, cond, ap, rules}
use Rattle.std.specs.Str.{bytes_eq}
use Rattle.vbm_memdisk.specs.Folders.{files_of, or_else}
use Rattle.vbm_memdisk.specs.declared.folder.MemFile.{MemFile}
use Rattle.vbm_memdisk.proofs.Outcomes.{OnOk-map}
use Rattle.vbm_memdisk.proofs.Replays.{joined}
use Rattle.vbm_memdisk.proofs.folder.Folder.append.Goals as goal

pub returns : goal.returns
returns c =
    let old : List MemFile = c.args.self.now.files.items in
    let named : c.in_ok-name.name ≡ c.args.file.now.name = search rules in
    let same : c.in_ok-bytes.bytes.items ≡ c.args.file.now.bytes.items = search rules in
    OnOk-map c.push.result
    (λ done name.
    ap (λ (l : List MemFile). files_of l name) done ∙ joined old _ name
    ∙ ap (λ (m : List ℕ). or_else (files_of old name) (cond (bytes_eq m name) (Some c.in_ok-bytes.bytes.items) None)) named
    ∙ ap (λ (l : List ℕ). or_else (files_of old name) (cond (bytes_eq c.args.file.now.name name) (Some l) None)) same)
    c.push.ensures.ok
