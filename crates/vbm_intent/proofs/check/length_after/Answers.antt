use Rattle.std.proofs.Common.{List, [], ◌∷◌, ◌++◌, length, ◌∙◌, sym, ap, arith, append_assoc, length-append}
use Rattle.std.proofs.lemmas.List.Elements.{All-rest}
use Rattle.vbm_ports.specs.Files.{bytes_of}
use Rattle.vbm_intent.specs.declared.change.Change.{Change}
use Rattle.vbm_intent.specs.Changes.{file_after, of_file, IsAllowed}
use Rattle.vbm_intent.specs.Pieces.{change_in}
use Rattle.vbm_intent.proofs.Applying.{of_file-append, file_after-append}
use Rattle.vbm_intent.proofs.check.length_after.Goals as goal

pub loop-left-preserved : goal.loop-left-preserved
loop-left-preserved c =
    let i = c.loop-left.invariant in
    let next = change_in c.in-Some.piece in
    record {
      done = i.done ++ next ∷ [];
      rest = i.rest ∙ ap (λ (l : List Change). i.done ++ l) c.in-Some.ensures.next ∙ sym (append_assoc i.done (next ∷ []) c.next.new.self);
      count = omega (arith, i.count, length-append i.done (next ∷ []), c.loop-left-test.true);
      allowed = All-rest IsAllowed next c.next.new.self c.loop-left.rest c.in-Some.ensures.next i.allowed;
      bound = c.length_if_named-now.ensures.bound;
      length = λ file is.
          ap (λ (l : List Change). length (bytes_of (file_after l file))) (of_file-append c.args.name.now i.done (next ∷ []))
          ∙ ap (λ f. length (bytes_of f)) (file_after-append (of_file c.args.name.now i.done) (of_file c.args.name.now (next ∷ [])) file)
          ∙ c.length_if_named-now.ensures.length (file_after (of_file c.args.name.now i.done) file) (i.length file is);
    }
