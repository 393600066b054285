use Rattle.std.proofs.Common.{◌≡◌, map, take}
use Rattle.vbm_registry.specs.Library.{medium_entry_name}
use Rattle.vbm_media.proofs.ask.media_names.Given as goal

abbrev pub invariant-loop-i : goal.invariant-loop-i
invariant-loop-i l = l.names ≡ map medium_entry_name (take l.i l.media)
