use Rattle.std.proofs.Common.{◌∙◌}
use Rattle.vbm_named.proofs.Maps.{found_is}
use Rattle.vbm_named.proofs.by_name.ByName.find.Goals as goal

pub returns : goal.returns
returns g c =
    rw (← c.self.view_is)
    (c.get.ensures.value ∙ found_is (λ k. k.items) g.T.Named.name_of c.args.name.now c.self.inside.items.entries c.self.invariant)
