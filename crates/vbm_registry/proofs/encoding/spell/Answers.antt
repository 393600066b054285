use Rattle.std.proofs.Common.{[], ◌++◌, ◌∙◌, List, ℕ, ap, sym, codes}
use Rattle.std.proofs.lemmas.List.{append-nil}
use Rattle.vbm_registry.specs.Spelling.{spelling, fields_onto}
use Rattle.vbm_registry.proofs.encoding.spell.Goals as goal

pub returns : goal.returns
unfolding spelling
returns c = sym (append-nil c.put_fields.new.out.items) ∙ c.in_ok-put_fields.ensures []
    ∙ ap (λ (front : List ℕ). front ++ fields_onto c.args.library.now [])
    (c.in_ok-extend_from_slice.ensures.items ∙ ap (λ (front : List ℕ). front ++ codes "VBMLIB01") c.in_ok-out.ensures.items)
