use Rattle.std.proofs.Common.{◌∙◌, []}
use Rattle.vbm_registry.proofs.RisingEntries.{last_at}
use Rattle.vbm_registry.proofs.entry_names.last_name.Goals as goal

pub returns-in-len1-up : goal.returns-in-len1-up
returns-in-len1-up g c = c.name.ensures ∙ last_at [] g.T.Named.name_of c.args.items.now c.last-item.result c.in-len1-up.len_at_least c.last-item.is
