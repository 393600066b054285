use Rattle.std.proofs.Common.{◌≡◌, ◌∙◌, ap}
use Rattle.vbm_world.specs.declared.world.WorldMedium.{WorldMedium}
use Rattle.vbm_named.specs.Names.{change_by}
use Rattle.vbm_world.specs.World.{medium_name}
use Rattle.vbm_world.specs.Guests.{written_medium}
use Rattle.vbm_world.specs.Seen.{seen}
use Rattle.vbm_world.proofs.GuestDisks.{change_found}
use Rattle.vbm_world.proofs.world.World.write_medium.Goals as goal

pub returns : goal.returns
returns c =
    let media : c.in_ok-written_media.field-0
    ≡ change_by medium_name c.args.medium.now.name (written_medium (seen c.args.self.now) c.args.disk) c.args.self.now.media =
    c.in_ok-written_media.ensures
    ∙ ap (λ (m : WorldMedium). change_by medium_name m.name (λ (_ : WorldMedium). m) c.args.self.now.media) c.in_ok-new.ensures
    ∙ change_found medium_name c.args.medium.now.name (written_medium (seen c.args.self.now) c.args.disk) c.args.medium.now
    c.args.self.now.media c.requires.order c.requires.found in
    λ i. record {
      seed = c.args.self.now.seed;
      next = c.next_after.ensures i;
      inner = c.args.self.now.inner;
      media = media i;
      machines = c.in_ok-copied.ensures i;
      shelf = c.in_ok-copied-2.ensures i;
    }
