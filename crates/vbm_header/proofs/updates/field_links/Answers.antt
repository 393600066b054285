use Rattle.std.proofs.Common.{rules}
use Rattle.vbm_header.specs.Field.{uuid_at}
use Rattle.vbm_header.proofs.updates.field_links.Goals as goal

pub returns-clause-bytes : goal.returns-clause-bytes
returns-clause-bytes c = search rules

pub returns-clause-link_read_back : goal.returns-clause-link_read_back
unfolding uuid_at
returns-clause-link_read_back c = rw (returns-clause-bytes c) (rw c.uuid_bytes.ensures.bytes at c.uuid_bytes.ensures.read_back)

pub returns-clause-parent_modify_read_back : goal.returns-clause-parent_modify_read_back
unfolding uuid_at
returns-clause-parent_modify_read_back c = rw (returns-clause-bytes c) (rw c.uuid_bytes-2.ensures.bytes at c.uuid_bytes-2.ensures.read_back)
