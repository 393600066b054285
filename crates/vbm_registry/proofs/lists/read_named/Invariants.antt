use Rattle.std.proofs.Common.{◌≡◌, [], length}
use Rattle.vbm_registry.specs.Parts.{read_items}
use Rattle.vbm_registry.proofs.ListLoops.{SoFar}
use Rattle.vbm_registry.proofs.lists.read_named.Given as goal

abbrev pub invariant-loop : goal.invariant-loop
invariant-loop g l =
    let item = g.R.Reader.item in
    record {
      so_far : SoFar (item l.fn.reader) l.list l.count l.counter l.fields (read_items (item l.fn.reader) l.count [] l.fn.fields);
      same : item l.reader ≡ item l.fn.reader;
      count : length l.list ≡ l.counter;
      fixed : g.R.Reader.fixed l.reader ≡ g.R.Reader.fixed l.fn.reader;
      follows : g.R.Reader.follows l.reader l.list;
    }
