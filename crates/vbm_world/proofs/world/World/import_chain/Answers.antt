use Rattle.std.proofs.Common.{◌≡◌, length, None, ap, sym, arith}
use Rattle.vbm_world.specs.Refusals.{first_refusal}
use Rattle.vbm_world.specs.Clones.{import_checks}
use Rattle.vbm_world.specs.Seen.{seen}
use Rattle.vbm_world.proofs.ClonesKeep.{none_refused}
use Rattle.vbm_world.proofs.ImportKeep.{import_room, import_small}
use Rattle.vbm_world.proofs.world.World.import_chain.Goals as goal

pub entered-requires-clause-room : goal.entered-requires-clause-room
entered-requires-clause-room c =
    let w = seen c.args.self.now in
    let none : first_refusal (import_checks w c.args.files.now c.args.name.now) ≡ None = sym c.in_default.ensures in
    import_room w c.requires.sound c.args.files.now c.args.name.now (none_refused (import_checks w c.args.files.now c.args.name.now) none)

pub entered-requires-clause-size : goal.entered-requires-clause-size
entered-requires-clause-size c =
    let w = seen c.args.self.now in
    let none : first_refusal (import_checks w c.args.files.now c.args.name.now) ≡ None = sym c.in_default.ensures in
    let small = import_small w c.requires.sound c.args.files.now c.args.name.now (none_refused (import_checks w c.args.files.now c.args.name.now) none) in
    omega (arith, small, ap length c.in_ok-flat.ensures)
