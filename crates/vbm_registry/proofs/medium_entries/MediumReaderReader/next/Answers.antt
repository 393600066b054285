use Rattle.std.proofs.Common.{subst, List, ℕ, IsTrue}
use Rattle.vbm_named.specs.Names.{is_before}
use Rattle.vbm_registry.specs.Library.{medium_entry_name}
use Rattle.vbm_registry.proofs.RisingEntries.{rises_on, is_fresh}
use Rattle.vbm_registry.proofs.medium_entries.MediumReaderReader.next.Goals as goal

pub returns-clause-follows : goal.returns-clause-follows
returns-clause-follows c = rises_on medium_entry_name c.args.before.now
    (record { name = c.in_ok-name.name; mode = c.in_ok-mode.mode }) c.requires.follows
    (subst (λ (earlier : List ℕ). IsTrue (is_before earlier c.in_ok-name.name)) c.last_name.ensures c.in_ok-name.ensures.after)

pub returns-clause-apart : goal.returns-clause-apart
returns-clause-apart c = is_fresh medium_entry_name c.args.before.now
    (record { name = c.in_ok-name.name; mode = c.in_ok-mode.mode }) c.requires.follows
    (subst (λ (earlier : List ℕ). IsTrue (is_before earlier c.in_ok-name.name)) c.last_name.ensures c.in_ok-name.ensures.after)
