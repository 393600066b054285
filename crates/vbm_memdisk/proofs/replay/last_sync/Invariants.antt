use Rattle.std.proofs.Common.{◌≡◌, ◌≤◌, take, drop}
use Rattle.std.specs.Prelude.{reverse}
use Rattle.vbm_ports.specs.Files.{Files}
use Rattle.vbm_memdisk.specs.declared.events.Pick.{Pick}
use Rattle.vbm_memdisk.specs.Events.{effect_of, replays, files_after, since_sync}
use Rattle.vbm_memdisk.proofs.replay.last_sync.Given as goal

-- what the function ensures, for the events so far
abbrev pub invariant-loop-i : goal.invariant-loop-i
invariant-loop-i l = record {
  within : l.start ≤ l.i;
  parts : (pick : Pick) → (first : Files) → since_sync (effect_of pick) first (reverse (take l.i l.events))
      ≡ replays (effect_of pick) (files_after first (reverse (take l.start l.events))) (reverse (drop l.start (take l.i l.events)));
}
