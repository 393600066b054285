use Rattle.std.proofs.Common.{◌≡◌, ℕ, ◌+◌, ◌^◌, ◌≤◌, List, ◌++◌, length, Option, All}
use Rattle.vbm_ports.specs.Files.{bytes_of}
use Rattle.vbm_intent.specs.declared.change.Change.{Change}
use Rattle.vbm_intent.specs.Changes.{file_after, of_file, IsAllowed}
use Rattle.vbm_intent.proofs.check.length_after.Given as goal
use Rattle.vbm_ports.specs.declared.disk.TheConstants.{LONGEST_FILE}

abbrev pub invariant-loop-left : goal.invariant-loop-left
invariant-loop-left l = record {
  done : List Change;
  rest : l.fn.changes ≡ done ++ l.rest;
  count : length done + l.left ≡ l.made;
  allowed : All IsAllowed l.rest;
  bound : l.now ≤ LONGEST_FILE;
  length : (file : Option (List ℕ)) → length (bytes_of file) ≡ l.len → length (bytes_of (file_after (of_file l.name done) file)) ≡ l.now;
}

abbrev pub decreases-loop-left : goal.decreases-loop-left
decreases-loop-left l = l.left
