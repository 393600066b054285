-- A place that the program found, as the machine's.
use Rattle.std.specs.Prelude.{Result, Ok, Err}
use Rattle.std.specs.Option.{option_copied}
use Rattle.vbm_world.specs.declared.places.FoundPlace.{FoundPlace}
use Rattle.vbm_world.specs.declared.command.Refusal.{Refusal}
use Rattle.vbm_world.specs.Places.{Place}

abbrev pub place_seen : FoundPlace → Place
place_seen p = record { medium = p.medium.now; disk = option_copied p.disk; is_base = p.is_base }

abbrev pub found_seen : Result FoundPlace Refusal → Result Place Refusal
found_seen (Ok p) = Ok (place_seen p)
found_seen (Err refusal) = Err refusal
