use Rattle.std.proofs.Common.{[], ◌∷◌, ◌++◌, ap, subst, ◌∙◌, arith}
use Rattle.std.specs.Option.{option_map}
use Rattle.std.proofs.lemmas.List.Elements.{All-nil, All-cons}
use Rattle.vbm_ports.specs.Files.{Files}
use Rattle.vbm_volume.specs.Image.{image_of}
use Rattle.vbm_image.specs.Image.{IsInForm, FitsIn}
use Rattle.vbm_image.specs.Opened.{IsFresh}
use Rattle.vbm_peek.specs.Opened.{opened_names, IsImageOf}
use Rattle.vbm_peek.proofs.OpenedFiles.{medium_no_log, names_pushed, pushed, pushed_from, count_pushed, on_ok}
use Rattle.vbm_peek.proofs.opening.OpenedFiles.open.Goals as goal

pub open_image-requires-clause-not_log : goal.open_image-requires-clause-not_log
open_image-requires-clause-not_log g c = medium_no_log c.args.name.now c.requires.medium

pub returns-in-Some-clause-opened : goal.returns-in-Some-clause-opened
returns-in-Some-clause-opened g c =
    let found = c.in-Some.ensures in
    on_ok c.push.result (λ adds. pushed c.args.self.now c.push.new.self [] found.0 c.requires.opened (adds found.0 found.1)
    (All-nil IsFresh) (All-nil IsInForm)) c.push.ensures.added

pub returns-in-Some-clause-names : goal.returns-in-Some-clause-names
returns-in-Some-clause-names g c =
    let found = c.in-Some.ensures in
    let old = c.args.self.now in
    on_ok c.push.result (λ adds. names_pushed old c.push.new.self [] found.0 c.requires.opened (adds found.0 found.1)
    ∙ ap (λ name. opened_names old ++ name ∷ []) found.2) c.push.ensures.added

pub returns-in-Some-clause-count : goal.returns-in-Some-clause-count
returns-in-Some-clause-count g c =
    let found = c.in-Some.ensures in
    on_ok c.push.result (λ adds. omega (arith, count_pushed c.args.self.now c.push.new.self [] found.0 c.requires.opened (adds found.0 found.1)))
    c.push.ensures.added

pub returns-in-Some-clause-from : goal.returns-in-Some-clause-from
returns-in-Some-clause-from g c = λ told.
    let found = c.in-Some.ensures in
    let files = (g.D.Disk.state c.args.disk.now).files in
    on_ok c.push.result (λ adds. pushed_from c.args.self.now c.push.new.self [] found.0 c.requires.opened (adds found.0 found.1) files
    (All-nil (IsImageOf files)) (All-nil (FitsIn files))) c.push.ensures.added

pub returns-clause-opened : goal.returns-clause-opened
returns-clause-opened g c =
    let image = c.in_ok-image.image in
    on_ok c.push_image.result (λ adds. pushed c.args.self.now c.push_image.new.self (image ∷ []) image c.requires.opened adds
    (All-cons IsFresh image [] c.in_ok-image.ensures.fresh (All-nil IsFresh))
    (All-cons IsInForm image [] c.in_ok-image.ensures.form (All-nil IsInForm))) c.push_image.ensures.added

pub returns-clause-names : goal.returns-clause-names
returns-clause-names g c =
    let image = c.in_ok-image.image in
    let old = c.args.self.now in
    on_ok c.push_image.result (λ adds. names_pushed old c.push_image.new.self (image ∷ []) image c.requires.opened adds
    ∙ ap (λ name. opened_names old ++ name ∷ []) c.in_ok-image.ensures.name) c.push_image.ensures.added

pub returns-clause-count : goal.returns-clause-count
returns-clause-count g c =
    let image = c.in_ok-image.image in
    on_ok c.push_image.result (λ adds. omega (arith, count_pushed c.args.self.now c.push_image.new.self (image ∷ []) image c.requires.opened adds))
    c.push_image.ensures.added

pub returns-clause-from : goal.returns-clause-from
returns-clause-from g c = λ told.
    let image = c.in_ok-image.image in
    let files = (g.D.Disk.state c.args.disk.now).files in
    let opened = c.in_ok-image.ensures in
    let of : IsImageOf files image = ap (λ name. option_map image_of (files name)) opened.name ∙ opened.opened told in
    let fits : FitsIn files image = subst (λ (fs : Files). FitsIn fs image) (opened.reads.files told) (opened.fits told) in
    on_ok c.push_image.result (λ adds. pushed_from c.args.self.now c.push_image.new.self (image ∷ []) image c.requires.opened adds files
    (All-cons (IsImageOf files) image [] of (All-nil (IsImageOf files)))
    (All-cons (FitsIn files) image [] fits (All-nil (FitsIn files)))) c.push_image.ensures.added
