use Rattle.std.proofs.Common.{ℕ, sym, subst}
use Rattle.vbm_blockmap.specs.Pending.{Staged}
use Rattle.vbm_image.specs.Image.{FitsOver}
use Rattle.vbm_image.specs.Settling.{settled, settled_header}
use Rattle.vbm_image.proofs.SettledFits.{fits_settled}
use Rattle.vbm_image.proofs.settling.take_as_settled.Goals as goal

pub returns-clause-fits : goal.returns-clause-fits
returns-clause-fits c = λ f fits.
    let image = c.args.image.now in
    let form = c.requires.form in
    subst (λ (n : ℕ). FitsOver (record image.header { allocated = n }) c.clear.new.self.staged image.used
    (settled image.header image.pending.staged f)) (sym c.allocated_after-image.ensures)
    (subst (λ (s : Staged). FitsOver (settled_header image.header image.pending.staged) s image.used (settled image.header image.pending.staged f))
    (sym c.clear.ensures.none)
    (fits_settled image.header image.pending.staged image.used f form.header form.staged fits))
