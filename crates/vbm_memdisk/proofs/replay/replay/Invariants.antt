use Rattle.std.proofs.Common.{◌≡◌, take}
use Rattle.std.specs.Prelude.{reverse}
use Rattle.vbm_memdisk.specs.Folders.{files_in}
use Rattle.vbm_memdisk.specs.Events.{effect_of, replays}
use Rattle.vbm_memdisk.proofs.replay.replay.Given as goal

-- the events so far were replayed
abbrev pub invariant-loop-event : goal.invariant-loop-event
invariant-loop-event l = files_in l.folder ≡ replays (effect_of l.pick) (files_in l.initial.folder) (reverse (take l.event-index l.events))
