use Rattle.std.proofs.Common.{◌∙◌, ◌+◌, List, take, sym, ap, arith}
use Rattle.vbm_ports.specs.Files.{Files}
use Rattle.vbm_memdisk.specs.Folders.{files_in}
use Rattle.vbm_memdisk.specs.Events.{effect_of, replays}
use Rattle.vbm_memdisk.specs.declared.events.Event.{Event}
use Rattle.vbm_memdisk.proofs.Replays.{next_event, newest_first}
use Rattle.vbm_memdisk.proofs.replay.replay.Goals as goal

pub loop-event-preserved : goal.loop-event-preserved
loop-event-preserved c =
    let more = newest_first (take c.loop-event.event-index c.args.events.now) (take (c.loop-event.event-index + 1) c.args.events.now) c.event-item.result
    (next_event c.args.events.now c.loop-event.event-index c.event-item.result (omega arith) c.event-item.is) in
    c.in_ok-apply.ensures.ok
    ∙ ap (λ (files : Files). effect_of c.args.pick c.event-item.result files) c.loop-event.invariant
    ∙ sym (ap (λ (l : List Event). replays (effect_of c.args.pick) (files_in c.args.folder.now) l) more)
