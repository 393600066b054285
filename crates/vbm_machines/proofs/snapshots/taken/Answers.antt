use Rattle.std.proofs.Common.{◌≡◌, ◌<◌, ◌^◌, ◌-◌, ◌∙◌, refl, length, None, IfSome, arith}
use Rattle.vbm_named.specs.Places.{place_for}
use Rattle.vbm_named.proofs.Lists.{All-map, has_map, rises_map}
use Rattle.vbm_named.proofs.Places.{place_within}
use Rattle.vbm_machines.specs.declared.Snapshot.{Snapshot}
use Rattle.vbm_machines.specs.declared.renumbering.Renumbering.TheVariants.{Entered}
use Rattle.vbm_machines.specs.Renumbering.{place_or_heir}
use Rattle.vbm_machines.specs.Snapshots.{name_of_snapshot}
use Rattle.vbm_machines.proofs.TakenNamed.{if_map}
use Rattle.vbm_machines.proofs.snapshots.taken.Goals as goal

pub overflow_cast-at : goal.overflow_cast-at
overflow_cast-at c =
    let at : c.place_for-at.result ≡ place_for name_of_snapshot c.args.name c.args.machine.now.snapshots =
    rw (c.place_for-at.ensures.place, c.bytes.ensures, c.as_slice-3.ensures) refl in
    let low = place_within name_of_snapshot c.args.name c.args.machine.now.snapshots in
    let room = c.requires.room in
    omega arith

pub parents_renumbered-requires-clause-parents : goal.parents_renumbered-requires-clause-parents
parents_renumbered-requires-clause-parents c =
    let room = c.requires.room in
    All-map _ (λ (s : Snapshot). IfSome s.parent (λ place. place < 2 ^ 32 - 1))
    (λ s less. if_map (λ place. place < length c.args.machine.now.snapshots) (λ place. place < 2 ^ 32 - 1) s.parent (λ place low. omega arith) less)
    c.args.machine.now.snapshots c.requires.places.parents

pub insert-requires-clause-rises : goal.insert-requires-clause-rises
insert-requires-clause-rises c =
    rw c.in_ok-snapshots.ensures
    (rises_map (λ (s : Snapshot). record s { parent = place_or_heir (Entered c.place_for-at.result) None s.parent }) name_of_snapshot name_of_snapshot
    (λ s. refl) c.args.machine.now.snapshots c.requires.places.names)

pub insert-requires-clause-another : goal.insert-requires-clause-another
insert-requires-clause-another c =
    rw c.in_ok-snapshots.ensures
    (has_map (λ (s : Snapshot). record s { parent = place_or_heir (Entered c.place_for-at.result) None s.parent }) name_of_snapshot name_of_snapshot
    (λ s. refl) c.args.name c.args.machine.now.snapshots ∙ c.requires.another)

pub returns : goal.returns
returns c =
    let at : c.place_for-at.result ≡ place_for name_of_snapshot c.args.name c.args.machine.now.snapshots =
    rw (c.place_for-at.ensures.place, c.bytes.ensures, c.as_slice-3.ensures) refl in
    rw (
      c.in_ok-copied.ensures,
      c.in_ok-slots.ensures,
      c.in_ok-insert.ensures.ok,
      c.in_ok-snapshots.ensures,
      c.place_or_heir.ensures,
      at,
      c.as_slice-2.ensures,
      c.in_ok-places.ensures,
      c.as_slice.ensures,
    ) refl
