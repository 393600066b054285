-- What was found out about the positions of a block map.
use Rattle.std.specs.Prelude.{◌≡◌, ℕ, List, filter}
use Rattle.vbm_volume.specs.Positions.{end_of, is_high, AreMarked}
use Rattle.vbm_volume.specs.declared.tally.Tally.{Tally}

-- the tally of these positions: those that are not marked are listed
pub record IsTally (tally : Tally) (ps : List ℕ) : Type 0 where
  pub end : tally.end ≡ end_of ps
  pub low : AreMarked tally.limits.low_end tally.low tally.is_twice ps
  pub high : tally.high.items ≡ filter (is_high tally.limits.low_end) ps
