use Rattle.std.proofs.Common.{drop, ap, ◌∙◌}
use Rattle.vbm_lines.proofs.Windows.{window-behind}
use Rattle.vbm_lines.proofs.window.Window.drop_front.Goals as goal

pub returns : goal.returns
returns c = window-behind c.self.inside.start c.self.inside.end c.args.n c.self.inside.room ∙ ap (λ held. drop c.args.n held.bytes) c.self.view_is
