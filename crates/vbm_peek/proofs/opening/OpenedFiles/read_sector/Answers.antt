use Rattle.std.proofs.Common.{◌≡◌, ℕ, ◌+◌, List, length, take, add-zero, ap, sym, subst, ◌∙◌, arith}
use Rattle.std.proofs.lemmas.List.{take_all}
use Rattle.vbm_volume.specs.Chain.{chain_sector, IsRising}
use Rattle.vbm_chain.specs.Settled.{settled_links}
use Rattle.vbm_peek.specs.Opened.{opened_links}
use Rattle.vbm_peek.proofs.OpenedFiles.{opened_rising, links_settled}
use Rattle.vbm_peek.proofs.opening.OpenedFiles.read_sector.Goals as goal

pub read_sectors-requires-clause-rising : goal.read_sectors-requires-clause-rising
read_sectors-requires-clause-rising g c = λ told.
    let files = (g.D.Disk.state c.args.disk.now).files in
    let opened = c.args.self.now in
    subst (λ (chain : List ℕ). IsRising (settled_links files opened.images.items chain)) (sym c.deref.ensures.value)
    (opened_rising files opened c.requires.opened c.requires.chain)

pub returns-clause-sector : goal.returns-clause-sector
returns-clause-sector g c = λ told.
    let files = (g.D.Disk.state c.args.disk.now).files in
    let opened = c.args.self.now in
    let out = c.read_sectors.new.out in
    let size : length out ≡ 512 = c.read_sectors.auto.out in
    let whole : out ≡ take 512 out = sym (take_all 512 out (omega arith)) in
    whole ∙ c.in_ok-read_sectors.ensures.sectors told 0 (omega arith)
    ∙ ap (λ (chain : List ℕ). chain_sector (settled_links files opened.images.items chain) (c.args.lba + 0)) c.deref.ensures.value
    ∙ ap (λ links. chain_sector links (c.args.lba + 0)) (links_settled files opened c.requires.opened)
    ∙ ap (chain_sector (opened_links files opened)) (add-zero c.args.lba)
