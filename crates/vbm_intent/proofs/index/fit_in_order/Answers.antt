use Rattle.std.proofs.Common.{◌∙◌, length, refl, sym, ap, arith}
use Rattle.vbm_ports.specs.Files.{bytes_of}
use Rattle.std.proofs.lemmas.Bool.{false≢true}
use Rattle.vbm_ports.proofs.States.{OnlyReads-refl, OnlyReads-trans}
use Rattle.vbm_intent.specs.Pieces.{change_in}
use Rattle.vbm_intent.proofs.Members.{nothing_in}
use Rattle.vbm_intent.proofs.Ordered.{none_fit_yet, named_store, named_allowed, goes_on, stops, all_fit}
use Rattle.vbm_intent.proofs.index.fit_in_order.Goals as goal

pub loop-entry-init : goal.loop-entry-init
loop-entry-init g c = record {
  so_far = none_fit_yet g.D.Disk.tells c.args.body.now c.args.index.now (g.D.Disk.state c.args.disk.now).files;
  reads = OnlyReads-refl g.D.Disk.tells (g.D.Disk.state c.args.disk.now);
  no_fault = refl;
}

pub length_of-requires-clause-store : goal.length_of-requires-clause-store
length_of-requires-clause-store g c =
    named_store g.D.Disk.tells c.args.body.now c.args.index.now c.loop-entry.rest.now c.in-Some.behind.now c.in-Some.entry.now c.loop-entry.name.now c.loop-entry.len
    (g.D.Disk.state c.args.disk.now).files c.loop-entry.invariant.so_far c.in-Some.ensures.cases.0 (change_in c.in-Some-piece_at.piece) c.name.result.now
    c.in-Some-piece_at.ensures.change c.name.ensures c.requires.allowed

pub returns-then-start-now-clause-answer : goal.returns-then-start-now-clause-answer
returns-then-start-now-clause-answer g c = λ told. (
  (λ hit. absurd (false≢true hit)),
  (λ fits. absurd (stops g.D.Disk.tells c.args.body.now c.args.index.now c.loop-entry.rest.now c.in-Some.behind.now c.in-Some.entry.now c.loop-entry.name.now c.loop-entry.len
      (g.D.Disk.state c.args.disk.now).files c.loop-entry.invariant.so_far c.in-Some.ensures.cases.0 (change_in c.in-Some-piece_at.piece) c.name.result.now
      c.in_ok-now.now (g.D.Disk.state c.loop-entry.disk).files
      c.in-Some-piece_at.ensures.change c.name.ensures c.requires.allowed (λ told. c.loop-entry.invariant.reads.files told)
      c.in_ok-now.ensures.same c.in_ok-now.ensures.other c.start.result c.start.ensures (omega (arith, c.if-start-now.true)) told fits)),
)

pub length_with-len-requires-clause-allowed : goal.length_with-len-requires-clause-allowed
length_with-len-requires-clause-allowed g c =
    named_allowed g.D.Disk.tells c.args.body.now c.args.index.now c.loop-entry.rest.now c.in-Some.behind.now c.in-Some.entry.now c.loop-entry.name.now c.loop-entry.len
    (g.D.Disk.state c.args.disk.now).files c.loop-entry.invariant.so_far c.in-Some.ensures.cases.0 (change_in c.in-Some-piece_at.piece)
    c.in-Some-piece_at.ensures.change c.requires.allowed

pub loop-entry-preserved : goal.loop-entry-preserved
loop-entry-preserved g c = record {
  so_far = goes_on g.D.Disk.tells c.args.body.now c.args.index.now c.loop-entry.rest.now c.in-Some.behind.now c.in-Some.entry.now c.loop-entry.name.now c.loop-entry.len
      (g.D.Disk.state c.args.disk.now).files c.loop-entry.invariant.so_far c.in-Some.ensures.cases.0 (change_in c.in-Some-piece_at.piece) c.name-name.result.now
      c.in_ok-now.now (g.D.Disk.state c.loop-entry.disk).files
      c.in-Some-piece_at.ensures.change c.name-name.ensures c.requires.allowed (λ told. c.loop-entry.invariant.reads.files told)
      (λ same. c.in_ok-now.ensures.same (c.name.ensures ∙ sym c.name-name.ensures ∙ same))
      (λ told differ. c.in_ok-now.ensures.other told (λ same. differ (c.name-name.ensures ∙ sym c.name.ensures ∙ same))
      ∙ ap (λ n. length (bytes_of ((g.D.Disk.state c.loop-entry.disk).files n))) (c.name.ensures ∙ sym c.name-name.ensures))
      c.length_with-len.result c.start.result c.requires.order c.start.ensures (omega (arith, c.if-start-now.false)) c.length_with-len.ensures.bound
      c.length_with-len.ensures.length;
  reads = OnlyReads-trans g.D.Disk.tells _ _ _ c.loop-entry.invariant.reads c.length_of.ensures.reads;
  no_fault = c.in_ok-now.ensures.no_fault ∙ c.loop-entry.invariant.no_fault;
}

pub returns-clause-answer : goal.returns-clause-answer
returns-clause-answer g c = λ told. (
  (λ hit. all_fit g.D.Disk.tells c.args.body.now c.args.index.now c.loop-entry.rest.now c.loop-entry.name.now c.loop-entry.len (g.D.Disk.state c.args.disk.now).files
      c.loop-entry.invariant.so_far (nothing_in c.loop-entry.rest.now c.in_default.ensures.cases) told),
  (λ fits. refl),
)
