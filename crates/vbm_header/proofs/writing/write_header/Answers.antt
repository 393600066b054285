use Rattle.std.proofs.Common.{◌++◌, take, arith, sym, ap, ◌∙◌}
use Rattle.std.proofs.lemmas.List.{take_all}
use Rattle.vbm_header.specs.Header.{header_of}
use Rattle.vbm_header.proofs.RoundTrip.{header_of-header_bytes}
use Rattle.vbm_header.specs.Written.{sizes, identifiers}
use Rattle.vbm_header.proofs.writing.write_header.Goals as goal

pub returns-clause-written : goal.returns-clause-written
returns-clause-written c =
    sym (take_all 472 c.put_identifiers.new.out (omega arith))
    ∙ c.put_identifiers.ensures.written
    ∙ ap (λ xs. xs ++ identifiers c.args.header.now) (c.put_sizes.ensures.written ∙ ap (λ xs. xs ++ sizes c.args.header.now) c.put_start.ensures)

pub returns-clause-read_back : goal.returns-clause-read_back
returns-clause-read_back c = λ len long header_size size layout id.
    ap (λ xs. header_of (take 456 xs) len) (returns-clause-written c)
    ∙ header_of-header_bytes c.args.header.now len (record {
      cb_header = omega arith;
      numbers = c.put_sizes.ensures.ranges;
      uuids = c.put_identifiers.ensures.sizes;
    }) long header_size size layout id
