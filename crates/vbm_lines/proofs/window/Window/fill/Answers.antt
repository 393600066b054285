use Rattle.std.proofs.Common.{◌≡◌, ◌≤◌, ◌+◌, ◌-◌, ◌++◌, length, take, drop, ap, sym, ◌∙◌, arith, length-take, length-drop}
use Rattle.vbm_lines.proofs.Windows.{always_on_err, window-kept, window-more, window-begins}
use Rattle.vbm_lines.proofs.window.Window.fill.Goals as goal

pub returns-in_err-n-clause-kept : goal.returns-in_err-n-clause-kept
returns-in_err-n-clause-kept g c =
    let same = window-kept c.self.inside.start c.self.inside.end c.self.inside.room c.take_at.new.room c.self.invariant.0 c.take_at.ensures.before
    ∙ ap (λ held. held.bytes) c.self.view_is in
    always_on_err c.from_residual.result same

pub returns-clause-ok : goal.returns-clause-ok
returns-clause-ok g c told =
    let filled = c.in_ok-n.ensures.ok told in
    let within : c.self.inside.end ≤ length c.self.inside.room = omega (arith, c.self.told, c.self.invariant) in
    record {
      within = filled.within;
      rest = filled.rest;
      held = window-more _ _ c.self.inside.room c.take_at.new.room c.self.invariant.0 c.in_ok-n.n _ within filled.buffer
          ∙ ap (λ held. held.bytes ++ take c.in_ok-n.n (g.S.Source.rest c.args.source.now)) c.self.view_is;
      end = filled.end;
    }

pub returns-clause-before : goal.returns-clause-before
returns-clause-before g c =
    let bytes = ap (λ held. held.bytes) c.self.view_is in
    let len : length c.args.self.now.bytes ≡ c.self.inside.end - c.self.inside.start =
    omega (
      arith,
      ap length (sym bytes),
      length-take (c.self.inside.end - c.self.inside.start) (drop c.self.inside.start c.self.inside.room),
      length-drop c.self.inside.start c.self.inside.room,
      c.self.told,
      c.self.invariant,
    ) in
    ap (λ k. take k (take (c.self.inside.end + c.in_ok-n.n - c.self.inside.start) (drop c.self.inside.start c.take_at.new.room))) len
    ∙ window-begins _ _ c.self.inside.room c.take_at.new.room c.self.invariant.0 c.in_ok-n.n c.take_at.ensures.before
    ∙ bytes
