use Rattle.std.proofs.Common.{◌≡◌, ◌+◌, ◌++◌, List, ℕ, length, take, drop, ◌∙◌, ap, arith, rules}
use Rattle.vbm_memdisk.proofs.ByteLists.{put_padded, written_back}
use Rattle.vbm_memdisk.proofs.folder.put_bytes.Goals as goal

pub returns-clause-ok : goal.returns-clause-ok
returns-clause-ok c =
    let same : length c.copy_into.new.file ≡ length c.pad.new.file.items = search rules in
    written_back c.pad.new.file.len c.copy_into.new.file c.pad.new.file.items same (omega arith)
    ∙ c.copy_into.ensures
    ∙ ap (λ (l : List ℕ). take c.args.at l ++ c.args.bytes.now ++ drop (c.args.at + length c.args.bytes.now) l) c.as_mut_slice.ensures.value
    ∙ put_padded c.args.at c.args.bytes.now c.args.file.now.items c.pad.new.file.items c.in_ok-pad.ensures.ok
