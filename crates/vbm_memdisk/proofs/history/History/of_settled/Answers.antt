use Rattle.std.proofs.Common.{◌∙◌, List, sym, ap}
use Rattle.std.specs.Prelude.{reverse}
use Rattle.vbm_ports.specs.Files.{Files}
use Rattle.vbm_memdisk.specs.Events.{files_after}
use Rattle.vbm_memdisk.specs.declared.events.Event.{Event}
use Rattle.vbm_memdisk.specs.Folders.{files_in}
use Rattle.vbm_memdisk.proofs.history.History.of_settled.Goals as goal

pub invariant_of-result : goal.invariant_of-result
invariant_of-result c = record {
  cached = λ name. ap (λ (files : Files). files name) c.in_ok-present.ensures ∙ sym (ap (λ (l : List Event). files_after (files_in c.args.first) (reverse l) name) c.new.ensures.items);
  short = c.requires;
}
