use Rattle.std.proofs.Common.{◌≡◌, ◌+◌, ◌≤◌, length, min, sym, ◌∙◌, ap, subst, Option, List, ℕ, IfSome, arith}
use Rattle.std.specs.Option.{option_map}
use Rattle.vbm_ports.specs.Files.{Files, bytes_of}
use Rattle.vbm_memdisk.specs.Folders.{files_in, with_file, wrote, filled}
use Rattle.vbm_memdisk.specs.Laws.{with_here}
use Rattle.vbm_memdisk.proofs.FileLists.{with_twice}
use Rattle.vbm_memdisk.proofs.ByteLists.{wrote_grows}
use Rattle.vbm_memdisk.proofs.folder.Folder.smear.Goals as goal

pub fill-requires : goal.fill-requires
fill-requires c =
    let name : List ℕ = c.args.name.now in
    let old : Files = files_in c.args.self.now in
    let value : Option (List ℕ) = wrote c.args.at c.args.bytes.now (old name) in
    let here : files_in c.write.new.self name ≡ value = ap (λ (files : Files). files name) c.in_ok-write.ensures.ok ∙ with_here name value old in
    let low : c.min-from.result ≡ min c.args.at (length (bytes_of (old name))) = omega arith in
    subst (λ (o : Option (List ℕ)). IfSome o (λ bytes. (c.min-from.result ≤ length bytes) × (c.min-from.result ≤ c.args.at + c.args.n))) (sym here)
    (wrote_grows c.args.at (c.args.at + c.args.n) c.min-from.result c.args.bytes.now (old name) (omega arith) (omega arith))

pub returns-clause-ok : goal.returns-clause-ok
returns-clause-ok c =
    let name : List ℕ = c.args.name.now in
    let old : Files = files_in c.args.self.now in
    let to : ℕ = c.args.at + c.args.n in
    let value : Option (List ℕ) = wrote c.args.at c.args.bytes.now (old name) in
    let low : c.min-from.result ≡ min c.args.at (length (bytes_of (old name))) = omega arith in
    c.fill.ensures
    ∙ ap (λ (files : Files). with_file name (option_map (filled c.min-from.result to c.args.byte) (files name)) files) c.in_ok-write.ensures.ok
    ∙ ap (λ (o : Option (List ℕ)). with_file name (option_map (filled c.min-from.result to c.args.byte) o) (with_file name value old)) (with_here name value old)
    ∙ with_twice name (option_map (filled c.min-from.result to c.args.byte) value) value old
    ∙ ap (λ (from : ℕ). with_file name (option_map (filled from to c.args.byte) value) old) low
