use Rattle.std.proofs.Common.{◌≡◌, drop, Some, None, ap, sym, ◌∙◌}
use Rattle.std.specs.List.{position}
use Rattle.std.proofs.lemmas.List.{take_rest}
use Rattle.vbm_lines.specs.Lines.{is_newline}
use Rattle.vbm_lines.proofs.Windows.{searched-none, searched-some}
use Rattle.vbm_lines.proofs.window.newline_from.Goals as goal

pub returns-in-None : goal.returns-in-None
returns-in-None c =
    let none : position is_newline (drop c.args.from c.args.bytes.now) ≡ None =
    ap (position is_newline) (sym (take_rest c.args.bytes.now c.args.from)) ∙ sym c.first_newline.ensures ∙ c.in-None.is in
    searched-none c.args.bytes.now c.args.from c.requires.searched none

pub returns-in-Some : goal.returns-in-Some
returns-in-Some c =
    let found : position is_newline (drop c.args.from c.args.bytes.now) ≡ Some c.in-Some.i =
    ap (position is_newline) (sym (take_rest c.args.bytes.now c.args.from)) ∙ sym c.first_newline.ensures ∙ c.in-Some.is in
    searched-some c.args.bytes.now c.args.from c.in-Some.i c.requires.searched found
