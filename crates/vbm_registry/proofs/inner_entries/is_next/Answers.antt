use Rattle.std.proofs.Common.{◌∙◌, ◌+◌, ap, nat_le}
use Rattle.vbm_registry.proofs.RisingEntries.{last_is, less_or}
use Rattle.vbm_registry.proofs.inner_entries.is_next.Goals as goal

pub returns-in-len1-up : goal.returns-in-len1-up
returns-in-len1-up c = less_or _ c.args.number
    ∙ ap (λ n. nat_le n c.args.number) (last_is 0 (λ x. x.number + 1) c.args.before.now _ c.in-len1-up.len_at_least)
