use Rattle.std.proofs.Common.{vec_len, vec_capacity, sym, ap, ◌∙◌}
use Rattle.std.specs.List.{insert}
use Rattle.vbm_named.specs.Places.{place_for}
use Rattle.vbm_image.specs.Image.{image_name}
use Rattle.vbm_store.proofs.Edits.{put_there, put_in}
use Rattle.vbm_store.proofs.images.put.Goals as goal

pub returns : goal.returns
returns c =
    let items = c.args.images.now.items in
    let at = c.place_of-at.ensures.place ∙ (λ i. place_for image_name (c.bytes.ensures i) (c.as_slice.ensures.value i)) in
    put_in c.insert.result items c.insert.new.self.items (insert items c.place_of-at.result c.args.image)
    (vec_len c.args.images.now) (vec_capacity c.args.images.now) c.insert.ensures.items c.insert.ensures.full c.requires
    ∙ ap (λ i. insert items i c.args.image) at ∙ sym (put_there image_name c.args.image items)
