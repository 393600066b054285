use Rattle.std.proofs.Common.{◌≡◌, ◌++◌}
use Rattle.std.specs.Prelude.{codes, decimal}
use Rattle.vbm_top.proofs.saying.image_text.Goals as goal

pub returns : goal.returns
returns c =
    let tail : c.as_bytes.result.now ≡ codes " " ++ decimal c.args.condition = cc (c.as_bytes.ensures.value, c.in_ok-tail.ensures.ok) in
    let name : c.bytes.result.now ≡ c.args.name.now = c.bytes.ensures in
    rw (tail, name) at c.named.ensures
