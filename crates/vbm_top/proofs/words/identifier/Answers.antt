use Rattle.std.proofs.Common.{◌≡◌, false, true, ap, sym, ◌∙◌}
use Rattle.vbm_world.specs.Texts.{id_text}
use Rattle.vbm_top.proofs.Forms.{no_identifier, other_identifier}
use Rattle.vbm_top.proofs.words.identifier.Goals as goal

pub returns-in_default : goal.returns-in_default
returns-in_default c = no_identifier c.args.word.now c.try_parse_ascii.result c.try_parse_ascii.ensures.ok c.in_default.not-Ok

pub returns-else-spells : goal.returns-else-spells
returns-else-spells c =
    other_identifier c.args.word.now c.in-Ok.id c.in-Ok.ensures.bytes
    (λ same. let bad : false ≡ true = sym c.if-spells.false ∙ c.spells.ensures.exact.1 (ap id_text c.as_bytes.ensures ∙ same) in cc)
