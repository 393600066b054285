-- What the code's tables tell of images.
use Rattle.std.specs.Prelude.{ℕ, nat_eq}
use Rattle.indexmap.specs.IndexMap.{get}
use Rattle.vbm_registry.specs.declared.library.ImageRef.{ImageRef}
use Rattle.vbm_registry.specs.declared.tallies.Tally.{Tally}
use Rattle.vbm_registry.specs.declared.tallies.SlotTally.{SlotTally}
use Rattle.vbm_registry.specs.declared.stacking.Images.{Images}
use Rattle.vbm_registry.specs.AtPlaces.{ImagesAt, SlotCounts, tally_of}

-- how often an image was counted
abbrev pub times : Tally → ImageRef → ℕ
times t image = tally_of (get nat_eq t.media) (get nat_eq t.inners) image

abbrev pub slot_times : SlotTally → SlotCounts
slot_times t = record { held = times t.held; used = times t.used }

abbrev pub images_seen : Images → ImagesAt
images_seen images = record { media = images.media.now; parent = get nat_eq images.parents; merging = images.merging.now }
