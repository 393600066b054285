use Rattle.std.proofs.Common.{rules, ◌≡◌, List, [], ◌∷◌, subst}
use Rattle.std.specs.List.{AllByRecursion}
use Rattle.vbm_machines.specs.declared.Machine.{Machine}
use Rattle.vbm_machines.specs.Renumbering.{EachSlot, IsLow}
use Rattle.vbm_machines_tests.proofs.trees.media_after.Goals as goal

low_alone : (m : Machine) (ms : List Machine) → ms ≡ m ∷ [] → m.snapshots ≡ [] → AllByRecursion IsLow m.slots
    → AllByRecursion (EachSlot IsLow) ms
low_alone m ms alone none low = rw alone (record { slots = low; places = rw none tt }, tt)

pub renumbered-requires-clause-low : goal.renumbered-requires-clause-low
renumbered-requires-clause-low g c =
    let same : c.as_slice.result.now ≡ c.args.machine.slots = search rules in
    let low : AllByRecursion IsLow c.as_slice.result.now = search (rules, c.are_listed.ensures) in
    low_alone c.args.machine c.push.new.self (search rules) c.requires (subst (λ slots. AllByRecursion IsLow slots) same low)
