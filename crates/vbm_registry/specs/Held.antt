-- Which image a slot of a machine may use, or a place of a snapshot, by the mode of its medium (User Manual, Special Image Write Modes).
use Rattle.std.specs.Prelude.{ℕ, Bool, not, ◌&&◌}
use Rattle.vbm_modes.specs.declared.Mode.{Mode}
use Rattle.vbm_modes.specs.Modes.{is_own}
use Rattle.vbm_machines.specs.declared.Held.{Held}
use Rattle.vbm_machines.specs.declared.Held.TheVariants.{Direct, Own, Base}
use Rattle.vbm_world.specs.World.{is_normal, is_layered}

-- A machine's slot uses the medium's own image, or one of its own. A snapshot has a normal medium's as its base, and never directly.
abbrev pub may_hold : (of_snapshot : Bool) → Mode → Held → Bool
may_hold of_snapshot mode Direct = not (is_own mode) && not (of_snapshot && is_normal mode)
may_hold of_snapshot mode (Own n) = is_layered mode
may_hold of_snapshot mode Base = of_snapshot && is_normal mode
