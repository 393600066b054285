use Rattle.std.proofs.Common.{◌∙◌, ap}
use Rattle.vbm_volume.specs.Sectors.{FlatDisk}
use Rattle.vbm_world.specs.declared.command.Answer.TheVariants.{Done}
use Rattle.vbm_world.specs.World.{World}
use Rattle.vbm_world.specs.Outcomes.{Outcome}
use Rattle.vbm_world.specs.Guests.{with_sectors, written}
use Rattle.vbm_world.specs.Seen.{seen}
use Rattle.vbm_world.proofs.world.World.write_allowed.Goals as goal

-- the answer with a world
abbrev done : World → Outcome
done w = (Done, w)

pub returns-clause-outcome : goal.returns-clause-outcome
returns-clause-outcome c = ap done (c.in_ok-world.ensures.world
    ∙ ap (written (seen c.args.self.now) c.args.machine.now c.args.slot.now c.args.medium.now) (c.replace_sectors.ensures
    ∙ ap (λ (disk : FlatDisk). with_sectors disk c.args.lba c.args.sectors.now) c.in_ok-disk.ensures))
