-- Lines that were written, or were not for want of memory.
use Rattle.std.proofs.Common.{inl, inr}
use Rattle.vbm_world.specs.declared.command.Answer.{Answer}
use Rattle.vbm_world.specs.Texts.{line_of}
use Rattle.vbm_top.specs.declared.status.Status.{Status}
use Rattle.vbm_top.specs.Streams.{Stream}
use Rattle.vbm_top.specs.Run.{status_of, Says, PeekEnds}

pub peek_says : (a : Answer) (sink : Stream) (status : Status) → Says sink (line_of a) (status_of a) status → PeekEnds a sink status
peek_says a sink status (inl writes) = inl writes
peek_says a sink status (inr none) = inr (inr none.0, none.1)
