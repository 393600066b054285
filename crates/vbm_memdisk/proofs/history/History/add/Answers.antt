use Rattle.std.proofs.Common.{◌≡◌}
use Rattle.std.specs.Prelude.{reverse}
use Rattle.vbm_memdisk.specs.Folders.{files_in}
use Rattle.vbm_memdisk.specs.Events.{files_after}
use Rattle.vbm_memdisk.proofs.Outcomes.{either_way}
use Rattle.vbm_memdisk.proofs.Replays.{cached_more, cached_same}
use Rattle.vbm_memdisk.proofs.history.History.add.Goals as goal

pub invariant_of-self : goal.invariant_of-self
invariant_of-self c =
    let first = files_in c.args.self.now.first in
    record {
      cached = λ name. either_way c.add_event.result {R = files_in c.add_event.new.present name ≡ files_after first (reverse c.add_event.new.events.items) name}
          (λ more happened. cached_more first c.args.self.now.events.items c.add_event.new.events.items c.args.event (files_in c.args.self.now.present) (files_in c.add_event.new.present) more happened c.args.self.now.cached name)
          (λ same unchanged. cached_same first c.args.self.now.events.items c.add_event.new.events.items (files_in c.args.self.now.present) (files_in c.add_event.new.present) same unchanged c.args.self.now.cached name)
          c.add_event.ensures.kept c.add_event.ensures.happened c.add_event.ensures.not_kept c.add_event.ensures.same;
      short = c.args.self.now.short;
    }
