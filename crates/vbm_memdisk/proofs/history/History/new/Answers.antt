use Rattle.std.proofs.Common.{◌∙◌, ◌≤◌, ◌^◌, List, length, sym, ap, subst, arith}
use Rattle.std.specs.Prelude.{reverse}
use Rattle.vbm_ports.specs.Files.{Files, bytes_of}
use Rattle.vbm_memdisk.specs.Events.{files_after}
use Rattle.vbm_memdisk.specs.declared.events.Event.{Event}
use Rattle.vbm_memdisk.specs.Folders.{files_in}
use Rattle.vbm_memdisk.proofs.history.History.new.Goals as goal
use Rattle.vbm_ports.specs.declared.disk.TheConstants.{LONGEST_FILE}

pub invariant_of-result : goal.invariant_of-result
invariant_of-result c = record {
  cached = λ name. ap (λ (files : Files). files name) (c.new-2.ensures ∙ sym c.new.ensures) ∙ sym (ap (λ (l : List Event). files_after (files_in c.new.result) (reverse l) name) c.new-3.ensures.items);
  short = λ name. subst (λ (files : Files). length (bytes_of (files name)) ≤ LONGEST_FILE) (sym c.new.ensures) (omega arith);
}
