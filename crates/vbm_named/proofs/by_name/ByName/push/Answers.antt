use Rattle.std.proofs.Common.{◌∙◌}
use Rattle.vbm_named.proofs.Maps.{pushed}
use Rattle.vbm_named.proofs.by_name.ByName.push.Goals as goal

pub invariant_of-self : goal.invariant_of-self
invariant_of-self g c =
    (pushed (λ k. k.items) g.T.Named.name_of c.self.inside.items.entries c.insert.new.self.entries c.in-Ok.name c.args.item c.self.invariant
    (c.in-Ok.ensures.items ∙ c.name.ensures) (rw c.self.view_is c.requires) c.in-Ok-insert.ensures.entries).0

pub returns-in-Ok-insert-clause-ok : goal.returns-in-Ok-insert-clause-ok
returns-in-Ok-insert-clause-ok g c =
    rw (← c.self.view_is)
    (pushed (λ k. k.items) g.T.Named.name_of c.self.inside.items.entries c.insert.new.self.entries c.in-Ok.name c.args.item c.self.invariant
    (c.in-Ok.ensures.items ∙ c.name.ensures) (rw c.self.view_is c.requires) c.in-Ok-insert.ensures.entries).1
