use Rattle.vbm_named.proofs.Maps.{keyed_remove, remove_is}
use Rattle.vbm_named.proofs.by_name.ByName.remove.Goals as goal

pub invariant_of-self : goal.invariant_of-self
invariant_of-self g c =
    rw c.shift_remove.ensures.entries (keyed_remove (λ k. k.items) g.T.Named.name_of _ c.self.inside.items.entries c.self.invariant)

pub returns : goal.returns
returns g c =
    rw (← c.self.view_is, c.shift_remove.ensures.entries)
    (remove_is (λ k. k.items) g.T.Named.name_of c.args.name.now c.self.inside.items.entries c.self.invariant
    (rw c.shift_remove.ensures.entries at c.shift_remove.ensures.updates.1))
