use Rattle.std.proofs.Common.{sym, ◌∙◌, List, map}
use Rattle.vbm_named.specs.Names.{Name}
use Rattle.vbm_world.specs.Refusals.{Check}
use Rattle.vbm_world.specs.Clones.{bad_check, chain_checks}
use Rattle.vbm_world.specs.Seen.{seen, on_shelf}
use Rattle.vbm_world.proofs.ImportKeep.{first_some, first_none}
use Rattle.vbm_world.proofs.world.World.files_refusal.Goals as goal

pub returns-in-Some : goal.returns-in-Some
returns-in-Some c =
    let each : List Check = map (λ (file : Name). bad_check (on_shelf c.args.self.now.shelf file)) c.args.files.now in
    sym (first_some each (chain_checks (seen c.args.self.now) c.args.files.now) c.in-Some.refusal (sym c.in-Some.ensures))

pub returns-in-None : goal.returns-in-None
returns-in-None c =
    let each : List Check = map (λ (file : Name). bad_check (on_shelf c.args.self.now.shelf file)) c.args.files.now in
    c.chain_refusal.ensures ∙ sym (first_none each (chain_checks (seen c.args.self.now) c.args.files.now) (sym c.in-None.ensures))
