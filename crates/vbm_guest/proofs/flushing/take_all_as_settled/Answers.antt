use Rattle.std.proofs.Common.{List, ◌∙◌, arith}
use Rattle.std.proofs.lemmas.List.{length-set}
use Rattle.std.proofs.lemmas.Option.{slice_get_within}
use Rattle.vbm_image.specs.declared.image.Image.{Image}
use Rattle.vbm_guest.proofs.TakenImages.{taken_next, taken_all, form_set}
use Rattle.vbm_guest.proofs.flushing.take_all_as_settled.Goals as goal

pub loop-i-preserved : goal.loop-i-preserved
loop-i-preserved c =
    let images : List Image = c.loop-i.images.items in
    let inside = slice_get_within images c.loop-i.i c.get_mut.result.now c.get_mut.ensures.value in
    record {
      count = length-set images c.loop-i.i c.take_as_settled.new.image ∙ c.loop-i.invariant.count;
      spare = c.loop-i.invariant.spare;
      form = form_set images c.loop-i.i c.take_as_settled.new.image c.loop-i.invariant.form inside c.take_as_settled.ensures.form;
      taken = taken_next c.loop-i.i c.args.images.now.items images c.get_mut.result.now c.take_as_settled.new.image c.loop-i.invariant.taken
          c.get_mut.ensures.value c.take_as_settled.ensures.takes;
    }

pub returns-clause-images : goal.returns-clause-images
returns-clause-images c =
    taken_all c.loop-i.i c.args.images.now.items c.loop-i.images.items (omega arith) c.loop-i.invariant.taken
