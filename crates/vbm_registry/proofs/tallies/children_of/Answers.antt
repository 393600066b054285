use Rattle.std.proofs.Common.{subst}
use Rattle.std.proofs.lemmas.List.{take_all}
use Rattle.vbm_registry.specs.declared.library.ImageRef.TheVariants as refs
use Rattle.vbm_registry.specs.Tallies.{times}
use Rattle.vbm_registry.specs.AtPlaces.{CountsChildren}
use Rattle.vbm_registry.proofs.Tallied.{children_more}
use Rattle.vbm_registry.proofs.tallies.children_of.Goals as goal

pub loop-i-preserved : goal.loop-i-preserved
loop-i-preserved c = children_more c.args.inners.now c.loop-i.i (record { number = 0; parent = refs.Medium 0 })
    (times c.loop-i.children) (times c.add_medium.new.self) c.loop-i-test.true c.loop-i.invariant c.in_ok-add_medium.ensures

pub returns : goal.returns
returns c = subst (CountsChildren (times c.loop-i.children)) (take_all c.loop-i.i c.args.inners.now c.loop-i-test.false) c.loop-i.invariant
