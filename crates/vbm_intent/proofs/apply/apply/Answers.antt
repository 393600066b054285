use Rattle.std.proofs.Common.{◌++◌, ◌∷◌, [], ◌∙◌, refl, arith}
use Rattle.vbm_ports.proofs.States.{Passes-trans}
use Rattle.vbm_intent.specs.Pieces.{change_in}
use Rattle.vbm_intent.proofs.Applying.{apply_begins, next_allowed, one_more_made, size_within, begins_within, apply_time, apply_goes_on}
use Rattle.vbm_intent.proofs.apply.apply.Goals as goal

pub loop-piece-init : goal.loop-piece-init
loop-piece-init g c = record {
  made = [];
  rest = refl;
  told = λ told. apply_begins c.args.changes (g.D.Disk.state c.args.disk.now) (c.requires.settled told);
  faults = omega arith;
  no_fault = refl;
}

pub apply_one-requires-clause-allowed : goal.apply_one-requires-clause-allowed
apply_one-requires-clause-allowed g c = next_allowed _ _ _ _ _ c.loop-piece.invariant.rest c.in-Some.ensures.next c.requires.plan

pub apply_one-requires-clause-room : goal.apply_one-requires-clause-room
apply_one-requires-clause-room g c = size_within (change_in c.in-Some.piece) (apply_one-requires-clause-allowed g c) c.in-Some.ensures.size

pub apply_one-requires-clause-fits : goal.apply_one-requires-clause-fits
apply_one-requires-clause-fits g c = λ told.
    begins_within _ _ _ _ _ c.loop-piece.invariant.rest c.in-Some.ensures.next c.requires.plan (g.D.Disk.state c.args.disk.now) (g.D.Disk.state c.loop-piece.disk)
    (c.requires.fits told) (c.loop-piece.invariant.told told) ((g.met.D.Disk.coherent c.loop-piece.disk).read_is_image told)

pub returns-in_err-apply_one-clause-time : goal.returns-in_err-apply_one-clause-time
returns-in_err-apply_one-clause-time g c = λ told.
    apply_time _ _ _ _ _ c.loop-piece.invariant.rest c.in-Some.ensures.next c.requires.plan (g.D.Disk.state c.args.disk.now) (g.D.Disk.state c.loop-piece.disk)
    (c.requires.fits told) (c.loop-piece.invariant.told told) ((g.met.D.Disk.coherent c.loop-piece.disk).read_is_image told)
    (g.D.Disk.state c.apply_one.new.disk) (c.apply_one.ensures.time told)

pub loop-piece-preserved : goal.loop-piece-preserved
loop-piece-preserved g c = record {
  made = c.loop-piece.invariant.made ++ change_in c.in-Some.piece ∷ [];
  rest = one_more_made _ _ _ _ _ c.loop-piece.invariant.rest c.in-Some.ensures.next c.requires.plan;
  told = λ told.
      apply_goes_on _ _ _ _ _ c.loop-piece.invariant.rest c.in-Some.ensures.next c.requires.plan (g.D.Disk.state c.args.disk.now) (g.D.Disk.state c.loop-piece.disk)
      (c.requires.fits told) (c.loop-piece.invariant.told told) ((g.met.D.Disk.coherent c.loop-piece.disk).read_is_image told)
      (g.D.Disk.state c.apply_one.new.disk) (c.apply_one.ensures.time told) (c.apply_one.ensures.images told) (c.in_ok-apply_one.ensures.ok told);
  faults = omega arith;
  no_fault = c.in_ok-apply_one.ensures.no_fault ∙ c.loop-piece.invariant.no_fault;
}

pub returns-clause-time : goal.returns-clause-time
returns-clause-time g c = λ told.
    let so_far = c.loop-piece.invariant.told told in
    Passes-trans _ _ _ _ _ _ so_far.time c.sync.ensures.reads.time (λ image had. had) so_far.images
