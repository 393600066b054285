use Rattle.std.proofs.Common.{◌∙◌}
use Rattle.vbm_named.proofs.Maps.{put}
use Rattle.vbm_named.proofs.by_name.ByName.insert.Goals as goal

pub invariant_of-self : goal.invariant_of-self
invariant_of-self g c =
    let done = c.in-Ok-insert_sorted.ensures in
    (put (λ k. k.items) g.T.Named.name_of c.self.inside.items.entries c.insert_sorted.new.self.entries c.in-Ok.name c.args.item c.self.invariant
    (c.in-Ok.ensures.items ∙ c.name.ensures) (rw c.self.view_is c.requires.another) (rw c.self.view_is c.requires.rises)
    c.in-Ok-insert_sorted.field-0.0 done.index.0 done.index.1 done.index.2 done.entries).0

pub returns-in-Ok-insert_sorted-clause-ok : goal.returns-in-Ok-insert_sorted-clause-ok
returns-in-Ok-insert_sorted-clause-ok g c =
    let done = c.in-Ok-insert_sorted.ensures in
    rw (← c.self.view_is)
    (put (λ k. k.items) g.T.Named.name_of c.self.inside.items.entries c.insert_sorted.new.self.entries c.in-Ok.name c.args.item c.self.invariant
    (c.in-Ok.ensures.items ∙ c.name.ensures) (rw c.self.view_is c.requires.another) (rw c.self.view_is c.requires.rises)
    c.in-Ok-insert_sorted.field-0.0 done.index.0 done.index.1 done.index.2 done.entries).1
