use Rattle.std.proofs.Common.{rules, not}
use Rattle.std.specs.Str.{bytes_eq}
use Rattle.std.proofs.lemmas.Fn.{filter_same}
use Rattle.vbm_named.specs.Names.{Name}
use Rattle.vbm_store.proofs.changed.Changed.forget.Goals as goal

pub returns : goal.returns
returns c = rw (← c.self.view_is)
    (filter_same _ (λ (changed : Name). not (bytes_eq changed c.args.name.now)) _ (λ x b k r. search rules) _ _ c.retain.ensures.filtered)
