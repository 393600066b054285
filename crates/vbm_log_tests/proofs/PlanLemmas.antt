-- The plans of the tests may be pushed.
use Rattle.std.proofs.Common.{◌≡◌, ℕ, ◌<◌, ◌≤◌, ◌^◌, length, refl, ap, arith}
use Rattle.std.proofs.lemmas.List.{length-replicate}
use Rattle.std.specs.Prelude.{codes}
use Rattle.vbm_ports.specs.Names.{is_medium_name, IsStoreName}
use Rattle.vbm_intent.specs.Changes.{name_of, IsWithinLimits, IsAllowed}
use Rattle.vbm_intent.specs.declared.change.Change.{Change}
use Rattle.vbm_log_tests.specs.Plans.{a_written, b_removed, a_put, a_cut, b_zeros, c_nines, d_removed, e_made, a_sevens, a_byte}

a_store : IsStoreName (codes "a.vdi")
unfolding is_medium_name
a_store = refl

b_store : IsStoreName (codes "b.vdi")
unfolding is_medium_name
b_store = refl

c_store : IsStoreName (codes "c.vdi")
unfolding is_medium_name
c_store = refl

d_store : IsStoreName (codes "d.vdi")
unfolding is_medium_name
d_store = refl

e_store : IsStoreName (codes "e.vdi")
unfolding is_medium_name
e_store = refl

-- a name of five bytes is not the log's
allowed : (c : Change) → IsStoreName (name_of c) → length (name_of c) ≡ 5 → IsWithinLimits c → IsAllowed c
allowed c store five limits = record { store = store; not_log = λ is. let no : length (name_of c) ≡ 10 = ap length is in absurd (omega (arith, no, five)); limits = limits }

pub a_allowed : IsAllowed a_written
a_allowed = allowed a_written a_store refl (omega arith, omega arith)

pub b_allowed : IsAllowed b_removed
b_allowed = allowed b_removed b_store refl tt

pub a_put_allowed : IsAllowed a_put
a_put_allowed = allowed a_put a_store refl (omega arith, omega arith)

pub a_cut_allowed : (len : ℕ) → len ≤ 2 ^ 53 → IsAllowed (a_cut len)
a_cut_allowed len low = allowed (a_cut len) a_store refl low

pub b_zeros_allowed : IsAllowed b_zeros
b_zeros_allowed = allowed b_zeros b_store refl (omega arith, omega arith, omega arith)

pub c_nines_allowed : IsAllowed c_nines
c_nines_allowed = allowed c_nines c_store refl (omega arith, omega arith, omega arith)

pub d_removed_allowed : IsAllowed d_removed
d_removed_allowed = allowed d_removed d_store refl tt

pub e_made_allowed : IsAllowed e_made
e_made_allowed = allowed e_made e_store refl (omega arith, omega arith)

pub a_sevens_allowed : (len : ℕ) → 0 < len → IsAllowed (a_sevens len)
a_sevens_allowed len some = allowed (a_sevens len) a_store refl (omega (arith, some, length-replicate {A = ℕ} len 7), omega arith)

pub a_byte_allowed : (at : ℕ) → at ≤ 2 ^ 53 → IsAllowed (a_byte at)
a_byte_allowed at low = allowed (a_byte at) a_store refl (omega arith, low)
