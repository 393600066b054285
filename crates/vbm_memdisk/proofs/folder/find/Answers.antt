use Rattle.std.proofs.Common.{◌≡◌, ◌∷◌, ◌++◌, [], List, take, None, Some, Bool, true, false, cond, sym, ◌∙◌, ap, arith}
use Rattle.std.proofs.lemmas.List.{take_more, get_or_default}
use Rattle.std.proofs.lemmas.Slice.Eq.{bytes_eq-Decides}
use Rattle.std.specs.Str.{bytes_eq}
use Rattle.vbm_memdisk.specs.Folders.{files_of}
use Rattle.vbm_memdisk.specs.declared.folder.MemFile.{MemFile}
use Rattle.vbm_memdisk.proofs.FileLists.{past_none}
use Rattle.vbm_memdisk.proofs.folder.find.Goals as goal

pub returns-then-eq : goal.returns-then-eq
returns-then-eq c =
    let test : bytes_eq c.index-files-i.result.name c.args.name.now ≡ true = sym (c.eq.ensures ∙ ap (λ (l : List _). bytes_eq l c.args.name.now) c.bytes.ensures) ∙ c.if-eq.true in
    record {
      within = omega arith;
      named = λ default. ap (λ (file : MemFile). file.name) (get_or_default c.args.files.now c.loop-i.i default c.index-files-i.result (omega arith) ∙ sym c.index-files-i.is)
          ∙ (bytes_eq-Decides c.index-files-i.result.name c.args.name.now).0 test;
      first = c.loop-i.invariant;
    }

pub loop-i-preserved : goal.loop-i-preserved
loop-i-preserved c =
    let test : bytes_eq c.index-files-i.result.name c.args.name.now ≡ false = sym (c.eq.ensures ∙ ap (λ (l : List _). bytes_eq l c.args.name.now) c.bytes.ensures) ∙ c.if-eq.false in
    ap (λ (l : List MemFile). files_of l c.args.name.now) (take_more c.args.files.now c.loop-i.i c.index-files-i.result (omega arith) ∙ ap (λ (x : MemFile). take c.loop-i.i c.args.files.now ++ x ∷ []) (sym c.index-files-i.is))
    ∙ past_none (take c.loop-i.i c.args.files.now) (c.index-files-i.result ∷ []) c.args.name.now c.loop-i.invariant
    ∙ ap (λ (b : Bool). cond b (Some c.index-files-i.result.bytes.items) None) test
