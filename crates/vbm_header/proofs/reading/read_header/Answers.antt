use Rattle.std.proofs.Common.{◌∙◌}
use Rattle.vbm_header.proofs.Headers.{header_of-front}
use Rattle.vbm_header.proofs.reading.read_header.Goals as goal

pub returns-clause-whole : goal.returns-clause-whole
returns-clause-whole c = λ f size same. c.parse.ensures ∙ header_of-front f c.args.bytes.now c.args.file_len size same
