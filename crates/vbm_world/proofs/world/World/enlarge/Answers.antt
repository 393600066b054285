use Rattle.std.proofs.Common.{List, ap, refl, ◌∙◌}
use Rattle.vbm_world.specs.declared.command.Answer.TheVariants.{Done}
use Rattle.vbm_world.specs.declared.world.WorldMedium.{WorldMedium}
use Rattle.vbm_world.specs.declared.world.World.{World as Shown}
use Rattle.vbm_world.specs.World.{medium_name}
use Rattle.vbm_world.specs.Shapes.{enlarged}
use Rattle.vbm_world.specs.Seen.{outcome_of}
use Rattle.vbm_world.proofs.MediaChanged.{change_one, has_one}
use Rattle.vbm_world.proofs.world.World.enlarge.Goals as goal

pub changed_media-requires-clause-known : goal.changed_media-requires-clause-known
changed_media-requires-clause-known c = has_one medium_name (enlarged c.args.capacity) (λ m. refl)
    c.args.name.now c.args.medium.now c.in_ok-larger.larger c.args.self.now.media c.requires.found c.in_ok-larger.ensures

pub returns-clause-outcome : goal.returns-clause-outcome
returns-clause-outcome c =
    let self = c.args.self.now in
    let media = c.in_ok-media.ensures ∙ change_one medium_name (enlarged c.args.capacity) (λ m. refl) c.args.name.now c.args.medium.now
    c.in_ok-larger.larger self.media c.requires.order c.requires.found c.in_ok-larger.ensures in
    let world = c.in_ok-world.ensures ∙ ap (λ (media : List WorldMedium). record self { media = media }) media in
    ap (λ (w : Shown). outcome_of (w, Done)) world
