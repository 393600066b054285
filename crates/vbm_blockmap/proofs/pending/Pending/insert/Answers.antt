use Rattle.std.proofs.Common.{◌≡◌, ◌<◌, Result, Ok, Err, None, sym, ap, subst, ◌∙◌, ◌++◌, ◌∷◌, []}
use Rattle.std.specs.Prelude.{nat_eq}
use Rattle.std.specs.Result.{IsOk, OnOk}
use Rattle.std.proofs.lemmas.Bool.{false≢true}
use Rattle.indexmap.proofs.CallerLemmas.{insert_entry-new}
use Rattle.vbm_blockmap.specs.Pending.{PendingState, Staged, position_in}
use Rattle.vbm_blockmap.proofs.pending.Pending.insert.Goals as goal

ok_of : {T E P : Type 0} (r : Result T E) → IsOk r → OnOk r P → P
ok_of (Ok x) is p = p
ok_of (Err e) is p = absurd (false≢true is)

pub returns-clause-staged : goal.returns-clause-staged
returns-clause-staged c =
    let old : Staged = c.self.inside.entries.entries in
    ok_of c.insert.result
    (c.insert.ensures.succeeds (subst (λ (s : PendingState). 0 < s.spare) (sym c.self.view_is) c.requires.room))
    c.insert.ensures.entries
    ∙ insert_entry-new nat_eq c.self.inside.entries c.args.block c.args.at
    (subst (λ (s : PendingState). position_in s.staged c.args.block ≡ None) (sym c.self.view_is) c.requires.another)
    ∙ ap (λ (s : PendingState). s.staged ++ (c.args.block, c.args.at) ∷ []) c.self.view_is
