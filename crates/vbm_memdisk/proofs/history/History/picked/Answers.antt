use Rattle.std.proofs.Common.{◌≡◌, ◌∙◌, ◌≤◌, ◌^◌, List, length, sym, ap, subst}
use Rattle.std.specs.Prelude.{reverse}
use Rattle.vbm_ports.specs.Files.{Files, bytes_of}
use Rattle.vbm_memdisk.specs.Folders.{files_in}
use Rattle.vbm_memdisk.specs.Events.{effect_of, since_sync}
use Rattle.vbm_memdisk.specs.Past.{past_in, settled_past, picked_files}
use Rattle.vbm_memdisk.specs.declared.events.Event.{Event}
use Rattle.vbm_memdisk.proofs.Crashes.{picked_short}
use Rattle.vbm_memdisk.proofs.Outcomes.{IfOk-map}
use Rattle.vbm_memdisk.proofs.Replays.{picked_since}
use Rattle.vbm_memdisk.proofs.history.History.picked.Goals as goal
use Rattle.vbm_ports.specs.declared.disk.TheConstants.{LONGEST_FILE}

pub of_settled-requires : goal.of_settled-requires
of_settled-requires c =
    let first : Files = files_in c.args.self.now.first in
    let events : List Event = reverse c.args.self.now.events.items in
    let is : files_in c.in_ok-files.files ≡ since_sync (effect_of c.args.pick) first events = c.in_ok-files.ensures ∙ ap (λ (l : List Event). since_sync (effect_of c.args.pick) first (reverse l)) c.as_slice.ensures.value in
    λ name. subst (λ (files : Files). length (bytes_of (files name)) ≤ LONGEST_FILE) (sym is) (picked_short c.args.pick first events c.args.self.now.short name)

pub returns : goal.returns
returns c =
    let first : Files = files_in c.args.self.now.first in
    let is : files_in c.in_ok-files.files ≡ picked_files c.args.pick (past_in c.args.self.now) =
    c.in_ok-files.ensures ∙ ap (λ (l : List Event). since_sync (effect_of c.args.pick) first (reverse l)) c.as_slice.ensures.value ∙ picked_since c.args.pick (past_in c.args.self.now) in
    IfOk-map c.of_settled.result (λ history made. made ∙ ap (λ (files : Files). settled_past files) is) c.of_settled.ensures
