use Rattle.std.proofs.Common.{◌≡◌, ap, ◌∙◌, is_some}
use Rattle.vbm_named.specs.Names.{put_by, without, change_by}
use Rattle.vbm_named.proofs.Lists.{rises_without, has_found, find_without_same, put_without}
use Rattle.vbm_registry.specs.Grammar.{machine_entry_name}
use Rattle.vbm_registry.proofs.library.Library.with_machine_renewed.Goals as goal

pub insert-requires-clause-rises : goal.insert-requires-clause-rises
insert-requires-clause-rises c =
    rw (c.remove.ensures, c.in_ok-library.ensures, c.bytes.ensures)
    (rises_without machine_entry_name c.args.machine.name c.args.self.now.machines c.requires.rises)

pub insert-requires-clause-another : goal.insert-requires-clause-another
insert-requires-clause-another c =
    rw (c.remove.ensures, c.in_ok-library.ensures, c.bytes.ensures)
    (has_found machine_entry_name c.args.machine.name (without machine_entry_name c.args.machine.name c.args.self.now.machines)
    ∙ ap is_some (find_without_same machine_entry_name c.args.machine.name c.args.self.now.machines))

pub returns : goal.returns
returns c =
    let m = c.args.machine in
    let machines : c.insert.new.self ≡ change_by machine_entry_name m.name (λ _. m) c.args.self.now.machines =
    c.in_ok-insert.ensures.ok
    ∙ ap (put_by machine_entry_name m) (c.remove.ensures ∙ (λ i. without machine_entry_name (c.bytes.ensures i) (c.in_ok-library.ensures i).machines))
    ∙ put_without machine_entry_name m c.args.self.now.machines c.requires.rises c.requires.there in
    λ i. record (c.in_ok-library.ensures i) { machines = machines i }
