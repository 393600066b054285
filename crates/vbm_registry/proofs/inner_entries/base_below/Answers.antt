use Rattle.std.proofs.Common.{◌∙◌, ap, sym}
use Rattle.vbm_registry.specs.Grammar.{base_of}
use Rattle.vbm_registry.proofs.Bases.{base_medium}
use Rattle.vbm_registry.proofs.inner_entries.base_below.Goals as goal

pub returns-in-Medium : goal.returns-in-Medium
returns-in-Medium c = λ inners tells. sym (base_medium inners c.in-Medium.place) ∙ ap (base_of inners) (sym c.in-Medium.is)
