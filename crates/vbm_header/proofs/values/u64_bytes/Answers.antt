use Rattle.std.proofs.Common.{rules, arith}
use Rattle.vbm_header.proofs.Fields.{number_at-little_bytes}
use Rattle.vbm_header.proofs.values.u64_bytes.Goals as goal

pub returns-clause-bytes : goal.returns-clause-bytes
returns-clause-bytes c = search rules

pub returns-clause-read_back : goal.returns-clause-read_back
returns-clause-read_back c = rw (returns-clause-bytes c) (number_at-little_bytes 8 c.args.n (omega arith))
