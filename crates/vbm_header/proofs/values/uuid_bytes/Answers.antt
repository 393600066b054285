use Rattle.std.proofs.Common.{◌≡◌, length, [], rules}
use Rattle.vbm_header.proofs.Fields.{uuid_at-swap_fields}
use Rattle.vbm_header.proofs.values.uuid_bytes.Goals as goal

pub returns-clause-read_back : goal.returns-clause-read_back
returns-clause-read_back c =
    let size : length c.args.id ≡ 16 = search rules in
    rw c.to_bytes_le.ensures (uuid_at-swap_fields c.args.id [] size)
