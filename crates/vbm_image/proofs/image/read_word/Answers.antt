use Rattle.std.proofs.Common.{◌≡◌, ◌≤◌, ◌+◌, ◌*◌, List, ℕ, length, Option, Some, None, refl, ap, ◌∙◌, arith}
use Rattle.vbm_header.specs.Field.{number_at}
use Rattle.vbm_ports.specs.Files.{bytes_of}
use Rattle.vbm_image.proofs.image.read_word.Goals as goal

-- a file that has bytes is there
there : (file : Option (List ℕ)) (n : ℕ) → n + 4 ≤ length (bytes_of file) → file ≡ Some (bytes_of file)
there None n long = absurd (omega arith)
there (Some f) n long = refl

pub returns-clause-word : goal.returns-clause-word
returns-clause-word g c = λ told.
    let file = (g.D.Disk.state c.args.disk.now).files c.args.name.now in
    let at : ℕ = c.args.header.now.off_blocks + 4 * c.args.block in
    let place : at + 0 ≡ at = omega arith in
    let map = c.requires.map told in
    c.word_at.ensures
    ∙ c.in_ok-read_words.ensures.fields told (bytes_of file) 0 4 (there file at map) (omega arith) (omega arith)
    ∙ ap (λ (o : ℕ). number_at (bytes_of file) o 4) place
