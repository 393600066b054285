use Rattle.std.proofs.Common.{rules, not}
use Rattle.std.specs.Str.{bytes_eq}
use Rattle.std.proofs.lemmas.Fn.{filter_same}
use Rattle.vbm_image.specs.declared.image.Image.{Image}
use Rattle.vbm_store.proofs.images.remove.Goals as goal

pub returns : goal.returns
returns c = filter_same _ (λ (image : Image). not (bytes_eq image.name c.args.name.now)) _ (λ x b k r. search rules) _ _ c.retain.ensures.filtered
