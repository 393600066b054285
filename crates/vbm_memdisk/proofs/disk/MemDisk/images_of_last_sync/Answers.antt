use Rattle.std.proofs.Common.{◌∙◌, sym, ap, subst}
use Rattle.vbm_ports.specs.Files.{Files}
use Rattle.vbm_memdisk.specs.Events.{Images}
use Rattle.vbm_memdisk.specs.Past.{Past, files_now}
use Rattle.vbm_memdisk.specs.MemDisk.{past_of}
use Rattle.vbm_memdisk.proofs.Crashes.{picked_image}
use Rattle.vbm_memdisk.proofs.Replays.{picked_since}
use Rattle.vbm_memdisk.proofs.disk.MemDisk.images_of_last_sync.Goals as goal

pub returns-clause-image : goal.returns-clause-image
returns-clause-image c =
    let past : Past = past_of c.args.self.now in
    subst (λ (image : Files). Images past.first past.events image)
    (picked_since c.args.pick past ∙ sym (ap (λ (p : Past). files_now p) (c.of_history.ensures.past ∙ c.in_ok-history.ensures)))
    (picked_image c.args.pick past.first past.events)
