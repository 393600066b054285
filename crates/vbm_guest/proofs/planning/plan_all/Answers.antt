use Rattle.std.proofs.Common.{◌++◌, List, length, take, ap, sym, ◌∙◌, arith}
use Rattle.vbm_intent.specs.Changes.{of_file}
use Rattle.vbm_intent.specs.Plan.{body_size}
use Rattle.vbm_image.specs.declared.image.Image.{Image}
use Rattle.vbm_image.specs.Image.{IsInForm}
use Rattle.vbm_image.proofs.SettlingPlans.{settling_size_some, body_size-append}
use Rattle.vbm_chain.proofs.ResolvedSectors.{at_item}
use Rattle.vbm_guest.specs.Flushing.{settling_all}
use Rattle.vbm_guest.proofs.StagedCounts.{take_image, staged_first}
use Rattle.vbm_guest.proofs.SettlingAll.{settling_of, none_before, all_push, settling_few, all_few, first_size}
use Rattle.vbm_guest.proofs.planning.plan_all.Goals as goal

pub push_pending-requires-clause-none : goal.push_pending-requires-clause-none
push_pending-requires-clause-none c =
    ap (of_file c.get.result.now.name) c.loop-i.invariant.changes
    ∙ none_before c.args.images.now.items c.loop-i.i c.get.result.now c.requires.names c.get.ensures

pub push_pending-requires-clause-small : goal.push_pending-requires-clause-small
push_pending-requires-clause-small c =
    let images : List Image = c.args.images.now.items in
    let image : Image = c.get.result.now in
    let form = at_item IsInForm images c.loop-i.i image c.requires.form c.get.ensures in
    omega (
      arith,
      ap body_size c.loop-i.invariant.changes,
      first_size images c.loop-i.i c.requires.form,
      settling_size_some image.name image.header form.name image.pending.staged,
      staged_first images c.loop-i.i image c.get.ensures,
      c.requires.few,
    )

pub push_pending-requires-clause-few : goal.push_pending-requires-clause-few
push_pending-requires-clause-few c =
    let images : List Image = c.args.images.now.items in
    omega (
      arith,
      ap length c.loop-i.invariant.changes,
      all_few (take c.loop-i.i images),
      settling_few c.get.result.now,
      staged_first images c.loop-i.i c.get.result.now c.get.ensures,
      c.requires.few,
    )

pub push_pending-requires-clause-room : goal.push_pending-requires-clause-room
push_pending-requires-clause-room c =
    let images : List Image = c.args.images.now.items in
    let image : Image = c.get.result.now in
    let form = at_item IsInForm images c.loop-i.i image c.requires.form c.get.ensures in
    omega (
      arith,
      ap body_size c.loop-i.invariant.changes,
      c.loop-i.invariant.spare,
      first_size images c.loop-i.i c.requires.form,
      settling_size_some image.name image.header form.name image.pending.staged,
      staged_first images c.loop-i.i image c.get.ensures,
      c.requires.room.room,
    )

pub loop-i-preserved : goal.loop-i-preserved
loop-i-preserved c =
    let images : List Image = c.args.images.now.items in
    record {
      changes =
          c.push_pending.ensures.changes
          ∙ ap (λ cs. cs ++ settling_of c.get.result.now) c.loop-i.invariant.changes
          ∙ sym (all_push (take c.loop-i.i images) c.get.result.now)
          ∙ sym (ap settling_all (take_image images c.loop-i.i c.get.result.now c.get.ensures));
      spare = omega (
        arith,
        c.push_pending.ensures.spare,
        c.loop-i.invariant.spare,
        ap body_size c.push_pending.ensures.changes,
        body_size-append c.loop-i.plan.changes (settling_of c.get.result.now),
      );
    }
