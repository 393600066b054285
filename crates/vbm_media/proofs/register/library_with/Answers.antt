use Rattle.vbm_media.proofs.register.library_with.Goals as goal

pub returns : goal.returns
returns c = rw (← c.in_ok-name.ensures) c.with_medium.ensures
