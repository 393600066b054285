-- The order of names.
use Rattle.std.proofs.Common.{◌≡◌, ℕ, List, sym, ap}
use Rattle.std.specs.Ordering.{nat_cmp, is_lt, ordering_reverse}
use Rattle.std.specs.Cmp.Lexicographic.{slice_cmp, nat_list_cmp_total}
use Rattle.std.specs.FinMap.{slice_cmp-IsAntisymmetric, nat_cmp-IsAntisymmetric}
use Rattle.std.specs.declared.cmp.Ordering.{Ordering}
use Rattle.std.specs.declared.cmp.Ordering.TheVariants.{Less, Equal, Greater}
use Rattle.std.proofs.lemmas.Bool.{false≢true}
use Rattle.vbm_intent.specs.Index.{IsNameBefore}

own_turn : (r : Ordering) → r ≡ ordering_reverse r → r ≡ Less → ⊥
own_turn Less turned is = false≢true (sym (ap is_lt turned))
own_turn Equal turned is = false≢true (ap is_lt is)
own_turn Greater turned is = false≢true (ap is_lt is)

-- no name is before itself
pub not_before_itself : (name : List ℕ) → IsNameBefore name name → ⊥
not_before_itself name before = own_turn (slice_cmp nat_cmp name name) (nat_list_cmp_total.antisymm name name) before

pub names_before : (a b c : List ℕ) → IsNameBefore a b → IsNameBefore b c → IsNameBefore a c
names_before a b c first second = nat_list_cmp_total.trans a b c first second

pub same_name : (a b : List ℕ) → slice_cmp nat_cmp a b ≡ Equal → a ≡ b
same_name a b is = slice_cmp-IsAntisymmetric nat_cmp-IsAntisymmetric a b is
