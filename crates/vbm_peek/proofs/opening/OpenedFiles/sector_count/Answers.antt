use Rattle.std.proofs.Common.{◌≡◌, ◌-◌, List, length, Some, ap, sym, ◌∙◌, arith}
use Rattle.std.specs.Prelude.{slice_get}
use Rattle.std.specs.Option.{option_copied}
use Rattle.vbm_header.specs.declared.Header.{Header}
use Rattle.vbm_volume.specs.Image.{IsSoundHeader}
use Rattle.vbm_peek.specs.Opened.{opened_links}
use Rattle.vbm_peek.proofs.OpenedFiles.{all_at, count_last, sound_headers, links_headers}
use Rattle.vbm_peek.proofs.opening.OpenedFiles.sector_count.Goals as goal

last_at : (c : goal.In-Some) → slice_get c.args.self.now.headers.items (length c.args.self.now.headers.items - 1) ≡ Some c.in-Some.last.now
last_at c =
    ap (λ (hs : List Header). slice_get hs (length hs - 1)) (sym c.deref.ensures.value) ∙ sym c.last.ensures.value ∙ ap option_copied c.in-Some.is

pub returns-in-Some-clause-count : goal.returns-in-Some-clause-count
returns-in-Some-clause-count c = λ files.
    sym (count_last (opened_links files c.args.self.now) c.in-Some.last.now
    (ap (λ (hs : List Header). slice_get hs (length hs - 1)) (links_headers files c.args.self.now c.requires) ∙ last_at c))

pub returns-in-Some-clause-most : goal.returns-in-Some-clause-most
returns-in-Some-clause-most c =
    let sound = all_at IsSoundHeader c.args.self.now.headers.items _ c.in-Some.last.now (sound_headers c.args.self.now c.requires) (last_at c) in
    omega arith
