use Rattle.std.proofs.Common.{◌≡◌, ◌<◌, List, [], ◌∷◌, ◌++◌, map, take, length, None, get_or, sym, ap, subst, ◌∙◌}
use Rattle.vbm_ports.specs.Files.{Files}
use Rattle.vbm_ports.proofs.States.{OnlyReads-trans}
use Rattle.vbm_named.specs.Names.{Name}
use Rattle.vbm_registry.specs.Library.{medium_entry_name}
use Rattle.vbm_registry.specs.declared.media.Medium.{Medium}
use Rattle.vbm_store.specs.Serves.{head_of, head_in}
use Rattle.vbm_engine.specs.Parts.{ids_of, fault_behind}
use Rattle.vbm_engine.proofs.Openings.{name_at, opening_goes_on, names_more}
use Rattle.vbm_engine.proofs.opening.open_images.Goals as goal

pub add_image-requires : goal.add_image-requires
add_image-requires g c =
    let m = c.medium-item.result in
    name_at c.args.library.now c.requires c.loop-medium.medium-index m
    (subst (λ (ms : List Medium). c.loop-medium.medium-index < length ms) c.as_slice-medium-items.ensures c.loop-medium-test.true)
    (subst (λ (ms : List Medium). m ≡ get_or ms c.loop-medium.medium-index m) c.as_slice-medium-items.ensures c.medium-item.is)

pub loop-medium-preserved : goal.loop-medium-preserved
loop-medium-preserved g c =
    let l = c.args.library.now in
    let so_far = c.loop-medium.invariant in
    let images = c.loop-medium.images in
    let i = c.loop-medium.medium-index in
    let m = c.medium-item.result in
    let added = c.in_ok-add_image.ensures in
    let less = subst (λ (ms : List Medium). i < length ms) c.as_slice-medium-items.ensures c.loop-medium-test.true in
    let at = subst (λ (ms : List Medium). m ≡ get_or ms i m) c.as_slice-medium-items.ensures c.medium-item.is in
    record {
      told = λ told.
          let found = subst (λ (f : Files). (fault_behind l f (ids_of images) m ≡ None)
          × (map head_of c.add_image.new.images ≡ map head_of images ++ head_in f m.name ∷ [])) (so_far.reads.files told) (added.told told) in
          opening_goes_on l (g.D.Disk.state c.args.disk.now).files i images m less at (so_far.told told) c.add_image.new.images found.0 found.1;
      new = added.new so_far.new;
      names = added.names ∙ names_more l i images m less at so_far.names;
      no_fault = added.faults ∙ so_far.no_fault;
      reads = OnlyReads-trans _ _ _ _ so_far.reads added.reads;
    }
