use Rattle.vbm_registry.specs.Library.{medium_entry_name}
use Rattle.vbm_registry.proofs.NamedPlaces.{name_get}
use Rattle.vbm_slots.proofs.running.medium_name.Goals as goal

pub returns : goal.returns
returns c = rw (name_get medium_entry_name c.args.media.now c.args.slot.now.medium c.get.result.now c.get.ensures) c.copied.ensures
