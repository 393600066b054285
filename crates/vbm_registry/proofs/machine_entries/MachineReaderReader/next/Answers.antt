use Rattle.std.proofs.Common.{ℕ, List, IsTrue, subst, arith, false}
use Rattle.vbm_machines.specs.declared.Machine.{Machine}
use Rattle.vbm_named.specs.Names.{is_before}
use Rattle.vbm_registry.specs.Grammar.{machine_entry_name}
use Rattle.vbm_registry.proofs.RisingEntries.{rises_on, is_fresh}
use Rattle.vbm_registry.proofs.ListEnds.{machine_snapshots_push, machine_places_push}
use Rattle.vbm_registry.proofs.machine_entries.MachineReaderReader.next.Goals as goal

pub returns-clause-follows : goal.returns-clause-follows
returns-clause-follows c =
    let before = c.args.before.now in
    let same = c.in_ok-snapshots.ensures.same in
    let m : Machine = record {
      name = c.in_ok-name.name;
      running = false;
      slots = c.in_ok-slots.slots;
      snapshots = c.in_ok-snapshots.snapshots;
      current = c.in_ok-current.current;
    } in
    let after = subst (λ (earlier : List ℕ). IsTrue (is_before earlier c.in_ok-name.name)) c.last_name.ensures c.in_ok-name.ensures.after in
    record {
      tells = rw (same.2, same.3) c.requires.follows.tells;
      rises = rises_on machine_entry_name before m c.requires.follows.rises after;
      snapshots = omega (arith, machine_snapshots_push before m, c.in_ok-snapshots.ensures.snapshots.0, c.requires.follows.snapshots);
      places = omega (arith, machine_places_push before m, c.in_ok-snapshots.ensures.places.0, c.requires.follows.places);
      few_snapshots = c.in_ok-snapshots.ensures.snapshots.1;
      few_places = c.in_ok-snapshots.ensures.places.1;
    }

pub returns-clause-apart : goal.returns-clause-apart
returns-clause-apart c =
    let m : Machine = record {
      name = c.in_ok-name.name;
      running = false;
      slots = c.in_ok-slots.slots;
      snapshots = c.in_ok-snapshots.snapshots;
      current = c.in_ok-current.current;
    } in
    let after = subst (λ (earlier : List ℕ). IsTrue (is_before earlier c.in_ok-name.name)) c.last_name.ensures c.in_ok-name.ensures.after in
    is_fresh machine_entry_name c.args.before.now m c.requires.follows.rises after
