use Rattle.vbm_engine.proofs.Openings.{decoded_off, sound_if_read}
use Rattle.vbm_engine.proofs.opening.open_redone.Goals as goal

pub returns-in-Ok-clause-opens : goal.returns-in-Ok-clause-opens
returns-in-Ok-clause-opens g c = λ told.
    (c.in-Ok.ensures.told told, record { changed = c.new.ensures; stopped = decoded_off c.in-Ok.library c.in-Ok.ensures.rules })

pub returns-in-Ok-clause-sound : goal.returns-in-Ok-clause-sound
returns-in-Ok-clause-sound g c = sound_if_read _ c.in-Ok.ensures.rules c.in-Ok.ensures.names c.in-Ok.ensures.new
