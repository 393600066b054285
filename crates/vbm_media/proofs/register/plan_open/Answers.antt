use Rattle.std.proofs.Common.{refl}
use Rattle.vbm_media.proofs.Registers.{images_more, library_more, registers}
use Rattle.vbm_media.proofs.register.plan_open.Goals as goal

pub add_entry-requires-clause-grown : goal.add_entry-requires-clause-grown
add_entry-requires-clause-grown c =
    let image = c.args.image in
    library_more c.args.store.now image.header image.name c.requires.can.allowed c.requires.sound.library c.requires.name c.requires.can.free

pub returns-clause-plans : goal.returns-clause-plans
returns-clause-plans c files holds read =
    let image = c.args.image in
    rw c.id-id.ensures (registers c.args.store.now files image.name holds c.requires.sound c.requires.name
    c.requires.can.free image read refl c.requires.can.new c.requires.can.allowed
    c.in_ok-library.library c.in_ok-library.plan.changes c.in_ok-library.ensures.library c.in_ok-library.ensures.plan)

pub returns-clause-sound : goal.returns-clause-sound
returns-clause-sound c =
    let image = c.args.image in
    rw c.in_ok-library.ensures.library (
      library_more c.args.store.now image.header image.name c.requires.can.allowed c.requires.sound.library c.requires.name c.requires.can.free,
      images_more c.args.store.now image image.name refl c.requires.sound c.requires.name,
      c.requires.can.new,
    )
