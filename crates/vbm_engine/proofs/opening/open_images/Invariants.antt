use Rattle.std.proofs.Common.{◌≡◌, map, take}
use Rattle.std.specs.List.{AllByRecursion}
use Rattle.vbm_ports.specs.Disk.{OnlyReads}
use Rattle.vbm_image.specs.Image.{image_name}
use Rattle.vbm_registry.specs.Library.{medium_entry_name}
use Rattle.vbm_store.specs.Edits.{IsNewImage}
use Rattle.vbm_engine.proofs.Openings.{Opening}
use Rattle.vbm_engine.proofs.opening.open_images.Given as goal

-- the images of the media so far are open
abbrev pub invariant-loop-medium : goal.invariant-loop-medium
invariant-loop-medium g l = record {
  told : g.D.Disk.tells → Opening l.library (g.D.Disk.state l.fn.disk).files l.medium-index l.images;
  new : AllByRecursion IsNewImage l.images;
  names : map image_name l.images ≡ map medium_entry_name (take l.medium-index l.library.media);
  no_fault : (g.D.Disk.state l.disk).faults ≡ (g.D.Disk.state l.fn.disk).faults;
  reads : OnlyReads g.D.Disk.tells (g.D.Disk.state l.fn.disk) (g.D.Disk.state l.disk);
}
