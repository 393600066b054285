use Rattle.std.proofs.Common.{ap, ◌∙◌}
use Rattle.vbm_ports.specs.Names.{is_inner_name}
use Rattle.vbm_image.proofs.InnerNames.{inner_name_is}
use Rattle.vbm_image.proofs.Results.{if_ok}
use Rattle.vbm_image.proofs.naming.inner_name.Goals as goal

pub returns-clause-inner : goal.returns-clause-inner
returns-clause-inner c = if_ok c.in_braces.result (λ name is. ap is_inner_name is ∙ inner_name_is c.args.id) c.in_braces.ensures
