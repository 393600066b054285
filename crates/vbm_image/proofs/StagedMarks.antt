-- The staged positions are marked, one after another.
use Rattle.std.proofs.Common.{◌≡◌, ℕ, ◌+◌, ◌<◌, ◌≤◌, true, List, slice_get, Some, sym, ◌∙◌, ap, arith, inl, inr}
use Rattle.std.proofs.lemmas.Bool.{cases_lt}
use Rattle.std.proofs.lemmas.Bool.Decides.{eqb_tells}
use Rattle.vbm_volume.specs.Marks.{is_marked, MarksOneMore}
use Rattle.vbm_blockmap.specs.Pending.{Staged}
use Rattle.vbm_blockmap.specs.Used.{marked_count}

-- the first n staged positions were marked
pub record MarksFirst (staged : Staged) (n : ℕ) (old new : List ℕ) : Type 0 where
  pub kept : (p : ℕ) → is_marked old p ≡ true → is_marked new p ≡ true
  pub here : (k : ℕ) (s : ℕ × ℕ) → k < n → slice_get staged k ≡ Some s → is_marked new s.1 ≡ true
  pub count : marked_count new ≤ marked_count old + n

pub none_marked : (staged : Staged) (bits : List ℕ) → MarksFirst staged 0 bits bits
none_marked staged bits = record { kept = λ p is. is; here = λ k s low. absurd (omega arith); count = omega arith }

pub one_marked : (staged : Staged) (n : ℕ) (old mid new : List ℕ) (t : ℕ × ℕ) → MarksFirst staged n old mid → slice_get staged n ≡ Some t
    → MarksOneMore mid new t.1 → marked_count new ≤ marked_count mid + 1 → MarksFirst staged (n + 1) old new
one_marked staged n old mid new t so_far at one count = record {
  kept = λ p is. still p (so_far.kept p is);
  here = λ k s low is. elim (cases_lt k n) [
    | inl before ↦ still s.1 (so_far.here k s before is)
    | inr last ↦
        let e : k ≡ n = omega arith in
        let same : t ≡ s = (let both : Some t ≡ Some s = sym at ∙ ap (slice_get staged) (sym e) ∙ is in cc both) in
        ap (λ (x : ℕ × ℕ). is_marked new x.1) (sym same) ∙ one.here
  ];
  count = omega (arith, so_far.count, count);
}
  where
    still : (p : ℕ) → is_marked mid p ≡ true → is_marked new p ≡ true
    still p is = elim (eqb_tells p t.1) [
      | inl same ↦ ap (is_marked new) same.1 ∙ one.here
      | inr apart ↦ one.others p apart.1 ∙ is
    ]
