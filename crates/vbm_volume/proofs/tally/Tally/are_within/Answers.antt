use Rattle.std.proofs.Common.{◌+◌, ◌*◌, ◌^◌, ◌||◌, leb, eqb, ap, sym, ◌∙◌, inl, inr}
use Rattle.std.proofs.lemmas.Bool.Decides.{eqb_tells}
use Rattle.vbm_volume.proofs.TallyLemmas.{list_all-within}
use Rattle.vbm_volume.proofs.tally.Tally.are_within.Goals as goal

pub returns-then-self-eq0 : goal.returns-then-self-eq0
returns-then-self-eq0 c = λ ps is.
    let l = c.args.self.now.limits in
    ap (λ n. eqb n 0 || leb (l.off_data + n * 2 ^ 20) l.file_len) (sym c.if-self-eq0.true ∙ is.end) ∙ list_all-within l.off_data l.file_len ps

pub returns : goal.returns
returns c = λ ps is.
    let l = c.args.self.now.limits in
    elim (eqb_tells c.args.self.now.end 0) [
      | inl none ↦ absurd (c.if-self-eq0.false none.1)
      | inr some ↦
          ap (λ b. b || leb (l.off_data + c.args.self.now.end * 2 ^ 20) l.file_len) (sym some.0)
          ∙ ap (λ n. eqb n 0 || leb (l.off_data + n * 2 ^ 20) l.file_len) is.end ∙ list_all-within l.off_data l.file_len ps
    ]
