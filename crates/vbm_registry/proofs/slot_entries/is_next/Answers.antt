use Rattle.std.proofs.Common.{◌∙◌, ◌+◌, ap, nat_le}
use Rattle.vbm_registry.proofs.RisingEntries.{last_is, less_or}
use Rattle.vbm_registry.proofs.slot_entries.is_next.Goals as goal

pub returns-in-len1-up : goal.returns-in-len1-up
returns-in-len1-up c = less_or _ c.args.port
    ∙ ap (λ n. nat_le n c.args.port) (last_is 0 (λ x. x.port + 1) c.args.before.now _ c.in-len1-up.len_at_least)
