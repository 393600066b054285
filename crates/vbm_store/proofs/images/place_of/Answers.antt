use Rattle.std.proofs.Common.{length, sym, ap, ◌∙◌, [], None, arith}
use Rattle.std.proofs.lemmas.List.Sums.{position_or_len_is}
use Rattle.vbm_header.specs.Header.{fields}
use Rattle.vbm_named.specs.Names.{is_before}
use Rattle.vbm_image.specs.declared.image.Image.{Image}
use Rattle.vbm_image.specs.Image.{image_name}
use Rattle.vbm_store.proofs.images.place_of.Goals as goal

pub returns-then-is_before-clause-place : goal.returns-then-is_before-clause-place
returns-then-is_before-clause-place c =
    let here = c.index-images-i.result in
    sym (position_or_len_is (λ (x : Image). is_before c.args.name.now (image_name x)) c.args.images.now c.loop-i.i here (omega arith)
    (c.loop-i.invariant here)
    (λ below. ap (λ (x : Image). is_before c.args.name.now (image_name x)) (sym c.index-images-i.is)
    ∙ sym (c.is_before.ensures ∙ ap (is_before c.args.name.now) c.bytes.ensures) ∙ c.if-is_before.true))

pub returns-clause-place : goal.returns-clause-place
returns-clause-place c =
    let other : Image = record { name = []; header = fields []; pending = record { staged = []; spare = 0 }; used = None } in
    sym (position_or_len_is (λ (x : Image). is_before c.args.name.now (image_name x)) c.args.images.now (length c.args.images.now) other (omega arith)
    (λ k below. c.loop-i.invariant other k (omega arith)) (λ below. absurd (omega arith)))
