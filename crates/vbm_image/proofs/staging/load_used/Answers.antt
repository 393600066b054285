use Rattle.std.proofs.Common.{◌≡◌, List, ℕ, Ok, sym, ap, ◌∙◌, subst}
use Rattle.vbm_ports.specs.Files.{bytes_of}
use Rattle.vbm_volume.specs.Image.{image_of, word_of}
use Rattle.vbm_volume.proofs.Writings.{is_there}
use Rattle.vbm_image.proofs.staging.load_used.Goals as goal

pub load-requires-clause-told : goal.load-requires-clause-told
load-requires-clause-told g c = λ told f is.
    let files = (g.D.Disk.state c.args.disk.now).files in
    let same = ap files (sym c.bytes.ensures) ∙ is in
    subst (λ (x : List ℕ). image_of x ≡ Ok c.args.image.now.header) (ap bytes_of same) (c.requires.fits told).accepted

pub returns-clause-marks : goal.returns-clause-marks
returns-clause-marks g c = λ told.
    let files = (g.D.Disk.state c.args.disk.now).files in
    let image = c.args.image.now in
    let there = is_there (files image.name) image.header (c.requires.fits told).accepted in
    let map = c.in_ok-load.ensures.marks told (bytes_of (files image.name)) (ap files c.bytes.ensures ∙ there) in
    record {
      settled = λ b inside low. c.mark_staged.ensures.kept (word_of (bytes_of (files image.name)) image.header b) (map.marked b inside low);
      staged_too = c.mark_staged.ensures.staged;
    }
