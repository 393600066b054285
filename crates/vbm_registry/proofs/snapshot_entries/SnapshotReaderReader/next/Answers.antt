use Rattle.std.proofs.Common.{ℕ, List, IsTrue, subst, refl, arith}
use Rattle.vbm_machines.specs.declared.Snapshot.{Snapshot}
use Rattle.vbm_named.specs.Names.{is_before}
use Rattle.vbm_registry.specs.Grammar.{snapshot_entry_name}
use Rattle.vbm_registry.proofs.RisingEntries.{rises_on, is_fresh}
use Rattle.vbm_registry.proofs.ListEnds.{places_push}
use Rattle.vbm_registry.proofs.snapshot_entries.SnapshotReaderReader.next.Goals as goal

pub returns-clause-follows : goal.returns-clause-follows
returns-clause-follows c =
    let before = c.args.before.now in
    let s : Snapshot = record { name = c.in_ok-name.name; parent = c.in_ok-parent.parent; slots = c.in_ok-slots.slots } in
    let after = subst (λ (earlier : List ℕ). IsTrue (is_before earlier c.in_ok-name.name)) c.last_name.ensures c.in_ok-name.ensures.after in
    record {
      tells = c.requires.follows.tells;
      rises = rises_on snapshot_entry_name before s c.requires.follows.rises after;
      used = omega (arith, places_push before s, c.len.ensures, c.requires.follows.used);
      few = omega (arith, c.len.ensures, c.in_ok-slots.ensures.few);
      parents = record {
        ends = c.add_parent.ensures.ends before s refl refl c.requires.follows.parents.ends;
        rooted = c.add_parent.ensures.rooted before s refl c.requires.follows.parents.rooted;
      };
    }

pub returns-clause-apart : goal.returns-clause-apart
returns-clause-apart c =
    let s : Snapshot = record { name = c.in_ok-name.name; parent = c.in_ok-parent.parent; slots = c.in_ok-slots.slots } in
    let after = subst (λ (earlier : List ℕ). IsTrue (is_before earlier c.in_ok-name.name)) c.last_name.ensures c.in_ok-name.ensures.after in
    is_fresh snapshot_entry_name c.args.before.now s c.requires.follows.rises after
