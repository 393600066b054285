-- What the commands have in common.
use Rattle.std.proofs.Common.{◌≡◌, ℕ, Bool, true, false, List, Option, Some, None, refl, sym, ap, ◌∙◌, ⊎_elim, cond, IsTrue}
use Rattle.std.specs.Str.{bytes_eq}
use Rattle.std.proofs.lemmas.Bool.{false_from_ne_true}
use Rattle.std.proofs.lemmas.Slice.Eq.{bytes_eq-Decides}
use Rattle.vbm_ports.specs.Names.{is_medium_name, is_inner_name}
use Rattle.vbm_registry.specs.Library.{library_name}
use Rattle.vbm_named.specs.Names.{Name}
use Rattle.vbm_store.specs.Kept.{KeepsBytes}
use Rattle.vbm_store.proofs.Readiness.{is_image_name, either}

-- ---- names

other_name : (p : Name → Bool) (a b : Name) → p a ≡ false → IsTrue (p b) → bytes_eq a b ≡ false
other_name p a b out within =
    false_from_ne_true _ (λ is. let t : false ≡ true = sym out ∙ ap p ((bytes_eq-Decides a b).0 is) ∙ within in absurd cc)

pub medium_not_library : (name : Name) → IsTrue (is_medium_name name) → bytes_eq library_name name ≡ false
unfolding is_medium_name
medium_not_library name named = other_name is_medium_name library_name name refl named

pub inner_not_library : (name : Name) → IsTrue (is_inner_name name) → bytes_eq library_name name ≡ false
unfolding is_inner_name
inner_not_library name inner = other_name is_inner_name library_name name refl inner

pub image_not_library : (name : Name) → IsTrue (is_image_name name) → bytes_eq library_name name ≡ false
image_not_library name is = ⊎_elim (medium_not_library name) (inner_not_library name) (either (is_medium_name name) (is_inner_name name) is)

-- ---- files

pub kept_or : (file : Option (List ℕ)) (b : Bool) → KeepsBytes file (cond b None file)
kept_or None b = tt
kept_or (Some f) true = tt
kept_or (Some f) false = refl
