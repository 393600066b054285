use Rattle.std.proofs.Common.{Ok, ap, sym, ◌∙◌, arith}
use Rattle.vbm_peek.proofs.PeekedFiles.{peeked-out, peeked-broken, peeked-chain}
use Rattle.vbm_peek.proofs.peeking.peek_opened.Goals as goal

pub returns-then-lba-sector_count-clause-exact : goal.returns-then-lba-sector_count-clause-exact
returns-then-lba-sector_count-clause-exact g c = λ told.
    let files = (g.D.Disk.state c.args.disk.now).files in
    let opened = c.args.opened.now in
    let count = c.sector_count.ensures.count files in
    peeked-out files opened c.requires.opened (c.requires.from told) c.args.lba (omega arith)

pub returns-in-Some-clause-exact : goal.returns-in-Some-clause-exact
returns-in-Some-clause-exact g c = λ told.
    let files = (g.D.Disk.state c.args.disk.now).files in
    let opened = c.args.opened.now in
    let count = c.sector_count.ensures.count files in
    peeked-broken files opened c.requires.opened (c.requires.from told) c.args.lba c.in-Some.place (omega arith)
    (sym c.broken_at.ensures ∙ c.in-Some.is)

pub returns-in-Ok-clause-exact : goal.returns-in-Ok-clause-exact
returns-in-Ok-clause-exact g c = λ told.
    let files = (g.D.Disk.state c.args.disk.now).files in
    let opened = c.args.opened.now in
    let count = c.sector_count.ensures.count files in
    peeked-chain files opened c.requires.opened (c.requires.from told) c.args.lba (omega arith) (sym c.broken_at.ensures ∙ c.in_default.is)
    ∙ ap (λ bytes. Ok bytes) (sym (c.in-Ok.ensures.sector told))
