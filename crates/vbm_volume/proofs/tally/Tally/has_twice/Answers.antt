use Rattle.std.proofs.Common.{ap, sym, not, ◌∙◌}
use Rattle.std.specs.Prelude.{◌||◌}
use Rattle.vbm_volume.specs.Image.{is_distinct}
use Rattle.vbm_volume.proofs.TallyLemmas.{twice-IsTally}
use Rattle.vbm_volume.proofs.tally.Tally.has_twice.Goals as goal

pub returns-then-self : goal.returns-then-self
returns-then-self c = λ ps is.
    ap (λ t. t || not (is_distinct c.args.self.now.high.items)) (sym c.if-self.true) ∙ twice-IsTally c.args.self.now ps is

pub returns : goal.returns
returns c = λ ps is.
    c.has_twice.ensures ∙ ap (λ xs. not (is_distinct xs)) c.deref_mut.ensures.value
    ∙ ap (λ t. t || not (is_distinct c.args.self.now.high.items)) (sym c.if-self.false) ∙ twice-IsTally c.args.self.now ps is
