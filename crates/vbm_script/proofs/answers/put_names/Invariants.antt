use Rattle.std.proofs.Common.{◌≡◌, ◌++◌, take}
use Rattle.vbm_world.specs.Texts.{spaced}
use Rattle.vbm_script.proofs.answers.put_names.Given as goal

abbrev pub invariant-loop-name : goal.invariant-loop-name
invariant-loop-name l = l.line.items ≡ l.fn.line.items ++ spaced (take l.name-index l.names)
