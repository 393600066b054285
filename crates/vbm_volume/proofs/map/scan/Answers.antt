use Rattle.std.proofs.Common.{◌≡◌, ◌+◌, ◌-◌, ◌*◌, refl, ap, subst, ◌∙◌, arith, inl, inr}
use Rattle.std.proofs.lemmas.Bool.{cases_lt}
use Rattle.std.proofs.lemmas.List.{append-nil}
use Rattle.vbm_header.specs.Field.{number_at}
use Rattle.vbm_ports.proofs.States.{OnlyReads-refl, OnlyReads-trans}
use Rattle.vbm_volume.specs.Tally.{IsTally}
use Rattle.vbm_volume.proofs.Words.{words_at-zero, positions-add}
use Rattle.vbm_volume.proofs.map.scan.Goals as goal

pub loop-done-init : goal.loop-done-init
loop-done-init g c = record {
  within = omega arith;
  tally = λ told f ps is fits was. rw (words_at-zero, append-nil) was;
  limits = refl;
  word = λ told f is fits below. absurd (omega arith);
  outside = λ past. refl;
  no_fault = refl;
  reads = OnlyReads-refl g.D.Disk.tells (g.D.Disk.state c.args.disk.now);
}

pub loop-done-preserved : goal.loop-done-preserved
loop-done-preserved g c = record {
  within = omega (arith, c.min-count.ensures);
  tally = λ told f ps is fits was.
      subst (IsTally c.add_piece.new.tally) (positions-add ps f c.args.header.now.off_blocks c.loop-done.done c.min-count.result)
      (c.in_ok-add_piece.ensures.tally told f _ (ap (λ files. files c.args.name.now) (c.loop-done.invariant.reads.files told) ∙ is)
      (omega (arith, c.min-count.ensures)) (c.loop-done.invariant.tally told f ps is fits was));
  limits = c.add_piece.ensures.limits ∙ c.loop-done.invariant.limits;
  word = λ told f is fits below. elim (cases_lt c.args.block c.loop-done.done) [
    | inl before ↦ c.word_or-word.ensures.elsewhere (inl before) ∙ c.loop-done.invariant.word told f is fits before
    | inr here ↦
        let place : c.args.header.now.off_blocks + 4 * c.loop-done.done + 4 * (c.args.block - c.loop-done.done) ≡ c.args.header.now.off_blocks + 4 * c.args.block = omega arith in
        c.word_or-word.ensures.here here below
        ∙ c.in_ok-add_piece.ensures.fields told f (4 * (c.args.block - c.loop-done.done)) 4
        (ap (λ files. files c.args.name.now) (c.loop-done.invariant.reads.files told) ∙ is) (omega (arith, c.min-count.ensures)) (omega (arith, c.min-count.ensures))
        ∙ ap (λ o. number_at f o 4) place
  ];
  outside = λ past. c.word_or-word.ensures.elsewhere (inr (omega (arith, past, c.min-count.ensures))) ∙ c.loop-done.invariant.outside past;
  no_fault = c.in_ok-add_piece.ensures.no_fault ∙ c.loop-done.invariant.no_fault;
  reads = OnlyReads-trans _ _ _ _ c.loop-done.invariant.reads c.add_piece.ensures.reads;
}
