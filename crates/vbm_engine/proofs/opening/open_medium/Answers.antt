use Rattle.std.proofs.Common.{Ok, sym, subst, IsTrue, ◌∙◌}
use Rattle.std.proofs.lemmas.Result.{IfOk-weaker}
use Rattle.vbm_ports.specs.Names.{is_medium_name}
use Rattle.vbm_registry.specs.Named.{named}
use Rattle.vbm_standing.specs.Faults.{medium_header_fault}
use Rattle.vbm_standing.proofs.Stores.{medium_not_log}
use Rattle.vbm_store.specs.Edits.{IsNewImage}
use Rattle.vbm_store.proofs.Pushing.{medium_store}
use Rattle.vbm_store.proofs.Reading.{read_of}
use Rattle.vbm_engine.proofs.Openings.{medium_read}
use Rattle.vbm_engine.proofs.opening.open_medium.Goals as goal

pub open_image-requires-clause-name : goal.open_image-requires-clause-name
open_image-requires-clause-name g c =
    medium_store c.bytes-name.result.now (subst (λ n. IsTrue (is_medium_name n)) (sym c.bytes-name.ensures) c.requires)

pub open_image-requires-clause-not_log : goal.open_image-requires-clause-not_log
open_image-requires-clause-not_log g c =
    medium_not_log c.bytes-name.result.now (subst (λ n. IsTrue (is_medium_name n)) (sym c.bytes-name.ensures) c.requires)

pub returns-in-Ok-clause-told : goal.returns-in-Ok-clause-told
returns-in-Ok-clause-told g c = λ told.
    let name = c.bytes-name.ensures in
    medium_read (named c.args.library.now) (g.D.Disk.state c.args.disk.now).files c.args.medium.now c.in-Ok.image (c.in-Ok.ensures.name ∙ name)
    (rw name at (read_of ((g.D.Disk.state c.args.disk.now).files c.bytes-name.result.now) (Ok c.in-Ok.image.header) (c.in-Ok.ensures.opened told)))
    _ c.accept.ensures.told

pub returns-in-Ok-clause-new : goal.returns-in-Ok-clause-new
returns-in-Ok-clause-new g c =
    IfOk-weaker c.accept.result _ _
    (λ image same. subst IsNewImage (sym same) (record { form = c.in-Ok.ensures.form; unstaged = c.in-Ok.ensures.fresh.staged })) c.accept.ensures.same

pub returns-in-Err-clause-told : goal.returns-in-Err-clause-told
returns-in-Err-clause-told g c = λ told.
    let name = c.bytes-name.ensures in
    rw name at (c.fault_of_file.ensures.bad (medium_header_fault (named c.args.library.now) c.bytes-name.result.now) ((g.D.Disk.state c.args.disk.now).files c.bytes-name.result.now) (c.in-Err.ensures.opened told))
