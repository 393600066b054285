use Rattle.std.proofs.Common.{◌≡◌, ◌+◌, length}
use Rattle.std.specs.List.{position_or_len}
use Rattle.vbm_named.specs.Names.{is_named}
use Rattle.vbm_registry.specs.Library.{medium_entry_name}
use Rattle.vbm_registry.proofs.media.place_of.Given as goal

abbrev pub invariant-loop-rest : goal.invariant-loop-rest
invariant-loop-rest l =
    (l.place + position_or_len (is_named medium_entry_name l.name) l.rest ≡ position_or_len (is_named medium_entry_name l.name) l.media)
    × (l.place + length l.rest ≡ length l.media)

abbrev pub decreases-loop-rest : goal.decreases-loop-rest
decreases-loop-rest l = length l.rest
