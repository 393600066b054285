use Rattle.std.proofs.Common.{◌≡◌, length}
use Rattle.std.specs.Prelude.{All}
use Rattle.vbm_image.specs.Image.{IsInForm}
use Rattle.vbm_guest.proofs.TakenImages.{TakenTo}
use Rattle.vbm_guest.proofs.flushing.take_all_as_settled.Given as goal

abbrev pub invariant-loop-i : goal.invariant-loop-i
invariant-loop-i l = record {
  count : length l.images.items ≡ length l.initial.images.items;
  spare : l.images.spare ≡ l.initial.images.spare;
  form : All IsInForm l.images.items;
  taken : TakenTo l.i l.initial.images.items l.images.items;
}
