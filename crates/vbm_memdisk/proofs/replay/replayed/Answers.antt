use Rattle.std.proofs.Common.{◌≡◌, ◌∙◌, ◌-◌, ℕ, List, length, length-drop, take, drop, sym, ap, arith}
use Rattle.std.specs.Prelude.{reverse}
use Rattle.std.proofs.lemmas.List.{take_all}
use Rattle.vbm_ports.specs.Files.{Files}
use Rattle.vbm_memdisk.specs.Folders.{files_in}
use Rattle.vbm_memdisk.specs.Events.{effect_of, replays, files_after}
use Rattle.vbm_memdisk.specs.declared.events.Event.{Event}
use Rattle.vbm_memdisk.proofs.Replays.{replays_after}
use Rattle.vbm_memdisk.proofs.replay.replayed.Goals as goal

pub returns : goal.returns
returns c =
    let events : List Event = c.args.events.now in
    let start : ℕ = c.last_sync-start.result in
    let settled : files_in c.replay.new.folder ≡ files_after (files_in c.args.first.now) (reverse (take start events)) =
    c.in_ok-replay.ensures ∙ replays_after (files_in c.in_ok-folder.folder) (reverse (take start events))
    ∙ ap (λ (files : Files). files_after files (reverse (take start events))) c.in_ok-folder.ensures in
    c.in_ok-replay-2.ensures
    ∙ ap (λ (files : Files). replays (effect_of c.args.pick) files (reverse (take (length events - start) (drop start events)))) settled
    ∙ ap (λ (l : List Event). replays (effect_of c.args.pick) (files_after (files_in c.args.first.now) (reverse (take start events))) (reverse l))
    (take_all (length events - start) (drop start events) (omega (arith, length-drop start events)))
    ∙ sym (c.last_sync-start.ensures.parts c.args.pick (files_in c.args.first.now))
