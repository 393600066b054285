use Rattle.std.proofs.Common.{◌≡◌, ◌-◌, ◌<◌, ◌≤◌, ℕ, List, length, get_or, refl, ap, ◌∙◌, arith, inl, inr}
use Rattle.std.proofs.lemmas.Bool.{cases_lt}
use Rattle.std.proofs.lemmas.Option.{slice_get_read}
use Rattle.vbm_header.specs.declared.Header.{Header}
use Rattle.vbm_chain.specs.Links.{first_failing, link_tests, fault_at}
use Rattle.vbm_chain.proofs.LinkTests.{no_fault, first_fault, tests_at}
use Rattle.vbm_chain.proofs.links.check_links.Goals as goal

-- the tests of the header at a place, as code reads it and the one before
tests : (headers : List Header) (i : ℕ) (below h : Header) → 1 ≤ i → i < length headers → below ≡ get_or headers (i - 1) below
    → h ≡ get_or headers i h → fault_at headers i ≡ first_failing (link_tests below h)
tests headers i below h later inside under here =
    tests_at headers i below h (omega arith) (slice_get_read headers (length headers) (i - 1) below refl (omega arith) under)
    (slice_get_read headers (length headers) i h refl inside here)

pub returns-in-Err-clause-cause : goal.returns-in-Err-clause-cause
returns-in-Err-clause-cause c =
    tests c.args.headers.now c.loop-i.i c.index-headers-i.result c.index-headers-i-in-loop-i.result
    (omega (arith, c.loop-i.auto.i)) (omega (arith, c.loop-i-test.true)) c.index-headers-i.is c.index-headers-i-in-loop-i.is ∙ c.in-Err.ensures

pub returns-in-Err-clause-first : goal.returns-in-Err-clause-first
returns-in-Err-clause-first c =
    first_fault c.args.headers.now c.loop-i.i c.in-Err.fault c.loop-i.invariant
    (tests c.args.headers.now c.loop-i.i c.index-headers-i.result c.index-headers-i-in-loop-i.result
    (omega (arith, c.loop-i.auto.i)) (omega (arith, c.loop-i-test.true)) c.index-headers-i.is c.index-headers-i-in-loop-i.is ∙ c.in-Err.ensures)

pub loop-i-preserved : goal.loop-i-preserved
loop-i-preserved c = λ k low. elim (cases_lt k c.loop-i.i) [
  | inl before ↦ c.loop-i.invariant k before
  | inr now ↦
      let here : k ≡ c.loop-i.i = omega arith in
      ap (λ (n : ℕ). fault_at c.args.headers.now n) here
      ∙ tests c.args.headers.now c.loop-i.i c.index-headers-i.result c.index-headers-i-in-loop-i.result
      (omega (arith, c.loop-i.auto.i)) (omega (arith, c.loop-i-test.true)) c.index-headers-i.is c.index-headers-i-in-loop-i.is ∙ c.in_default.ensures
]

pub returns-clause-ok : goal.returns-clause-ok
returns-clause-ok c = no_fault c.args.headers.now c.requires.some (λ k low. c.loop-i.invariant k (omega (arith, low, c.loop-i-test.false)))
