use Rattle.std.proofs.Common.{List, ℕ, length, ◌≤◌, sym, subst, arith}
use Rattle.vbm_registry.specs.declared.library.TheConstants.{LONGEST_LIBRARY}
use Rattle.vbm_store.proofs.Planned.{written_again, written_short}
use Rattle.vbm_store.proofs.Pushing.{on_ok, library_write, library_cut, library_pushed}
use Rattle.vbm_store.proofs.plans.plan_library.Goals as goal

pub push_write-requires-clause-allowed : goal.push_write-requires-clause-allowed
push_write-requires-clause-allowed c = library_write c.args.library.now c.in_ok-bytes.bytes c.in_ok-bytes.ensures.bytes

pub push_write-requires-clause-bytes : goal.push_write-requires-clause-bytes
push_write-requires-clause-bytes c =
    subst (λ (b : List ℕ). length b ≤ LONGEST_LIBRARY) (sym c.in_ok-bytes.ensures.bytes) (written_short c.args.library.now c.requires.library)

pub push_cut-requires-clause-allowed : goal.push_cut-requires-clause-allowed
push_cut-requires-clause-allowed c =
    let short = subst (λ (b : List ℕ). length b ≤ LONGEST_LIBRARY) (sym c.in_ok-bytes.ensures.bytes) (written_short c.args.library.now c.requires.library) in
    library_cut c.len-len.result (omega (arith, short, c.len-len.ensures))

pub push_cut-requires-clause-small : goal.push_cut-requires-clause-small
push_cut-requires-clause-small c =
    let short = subst (λ (b : List ℕ). length b ≤ LONGEST_LIBRARY) (sym c.in_ok-bytes.ensures.bytes) (written_short c.args.library.now c.requires.library) in
    omega (arith, short, c.requires.small, c.in_ok-push_write.ensures.size)

pub returns : goal.returns
returns c = record {
  ok = on_ok c.push_cut.result (λ is. library_pushed c.args.library.now c.in_ok-bytes.bytes c.in_ok-bytes.ensures.bytes c.args.plan.now.changes
      c.push_write.new.plan.changes c.push_cut.new.plan.changes c.len-len.result c.len-len.ensures c.in_ok-push_write.ensures.ok is) c.push_cut.ensures.ok;
  again = on_ok c.push_cut.result (λ is. written_again c.args.library.now c.requires.library) c.push_cut.ensures.ok;
}
