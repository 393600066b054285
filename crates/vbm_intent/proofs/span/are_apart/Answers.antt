use Rattle.std.proofs.Common.{◌∙◌, not}
use Rattle.std.specs.Str.{bytes_eq}
use Rattle.vbm_intent.specs.Pieces.{change_in}
use Rattle.vbm_intent.proofs.Apart.{apart_by_name}
use Rattle.vbm_intent.proofs.span.are_apart.Goals as goal

pub returns-else-is_apart_from : goal.returns-else-is_apart_from
returns-else-is_apart_from c =
    apart_by_name (change_in c.args.first.now) (change_in c.args.second.now) c.of.result.from c.of.result.to c.of-2.result.from c.of-2.result.to
    c.is_apart_from.result c.ne.result c.requires.first_allowed c.requires.second_allowed
    c.of.ensures.from c.of.ensures.to c.of-2.ensures.from c.of-2.ensures.to
    c.is_apart_from.ensures c.if-is_apart_from.false
    (c.ne.ensures ∙ (λ i. not (bytes_eq (c.name.ensures i) (c.name-else-is_apart_from.ensures i))))
