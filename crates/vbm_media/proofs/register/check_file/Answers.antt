use Rattle.std.proofs.Common.{Ok, IfErr, sym, subst}
use Rattle.std.proofs.lemmas.Result.{IfOk-weaker}
use Rattle.vbm_image.specs.declared.image.Image.{Image}
use Rattle.vbm_standing.proofs.Stores.{medium_not_log}
use Rattle.vbm_store.specs.Images.{IsRead}
use Rattle.vbm_store.specs.Steps.{Refuses}
use Rattle.vbm_store.proofs.Reading.{read_of}
use Rattle.vbm_world.specs.declared.command.Command.TheVariants.{OpenMedium}
use Rattle.vbm_media.proofs.Registers.{not_opened}
use Rattle.vbm_media.proofs.register.check_file.Goals as goal

pub open_image-requires-clause-not_log : goal.open_image-requires-clause-not_log
open_image-requires-clause-not_log g c = medium_not_log c.args.name.now c.requires.name

pub check_image-requires-clause-new : goal.check_image-requires-clause-new
check_image-requires-clause-new g c = record { form = c.in-Ok.ensures.form; unstaged = c.in-Ok.ensures.fresh.staged }

pub returns-in-Ok-clause-refused : goal.returns-in-Ok-clause-refused
returns-in-Ok-clause-refused g c told =
    let files = (g.D.Disk.state c.args.disk.now).files in
    let image = c.in-Ok.image in
    let read = read_of (files c.args.name.now) (Ok image.header) (c.in-Ok.ensures.opened told) in
    subst (λ n. IfErr c.check_image.result (Refuses files c.args.store.now (OpenMedium n))) c.in-Ok.ensures.name
    (c.check_image.ensures.refused files (c.requires.fits told).holds
    (subst (λ n. IsRead (files n) (Ok image.header)) (sym c.in-Ok.ensures.name) read))

pub returns-in-Ok-clause-read : goal.returns-in-Ok-clause-read
returns-in-Ok-clause-read g c told =
    let file = (g.D.Disk.state c.args.disk.now).files c.args.name.now in
    IfOk-weaker c.check_image.result _ _
    (λ image same. subst (λ (i : Image). IsRead file (Ok i.header)) (sym same)
    (read_of file (Ok c.in-Ok.image.header) (c.in-Ok.ensures.opened told)))
    c.check_image.ensures.same

pub returns-in-Err-clause-refused : goal.returns-in-Err-clause-refused
returns-in-Err-clause-refused g c told =
    let old = g.D.Disk.state c.args.disk.now in
    rw c.undone.ensures (not_opened c.args.store.now old.files c.args.name.now (c.requires.fits told).holds
    c.requires.sound c.requires.name c.requires.free c.in-Err.fault (c.in-Err.ensures.opened told))
