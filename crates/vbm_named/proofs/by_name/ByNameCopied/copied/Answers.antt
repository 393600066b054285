use Rattle.std.proofs.Common.{◌∙◌, ◌≡◌, ◌∷◌, ◌++◌, ◌+◌, ℕ, List, [], take, Some, ap, sym}
use Rattle.std.specs.List.{slice_get}
use Rattle.std.proofs.lemmas.List.{take_more}
use Rattle.std.proofs.lemmas.Option.{get_or_from_slice_get, slice_get_within}
use Rattle.vbm_named.proofs.Maps.{earlier_lack}
use Rattle.vbm_named.proofs.by_name.ByNameCopied.copied.Goals as goal

take_item : {X : Type 0} (xs : List X) (i : ℕ) (x : X) → slice_get xs i ≡ Some x → take (i + 1) xs ≡ take i xs ++ x ∷ []
take_item xs i x e = take_more xs i x (slice_get_within xs i x e) ∙ ap (λ y. take i xs ++ y ∷ []) (get_or_from_slice_get xs i x x e)

pub push-requires : goal.push-requires
push-requires g c =
    rw (c.loop-i.invariant, ← c.self.view_is, c.in_ok-copied.ensures)
    (earlier_lack (λ k. k.items) g.T.Named.name_of c.self.inside.items.entries c.loop-i.i c.index.result.now c.self.invariant
    c.len-i-end.ensures.unique c.index.ensures)

pub loop-i-preserved : goal.loop-i-preserved
loop-i-preserved g c =
    rw (c.in_ok-push.ensures.ok, c.loop-i.invariant, c.in_ok-copied.ensures)
    (sym (take_item c.args.self.now c.loop-i.i c.index.result.now (rw c.self.view_is at c.index.ensures)))
