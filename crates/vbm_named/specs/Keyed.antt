-- Maps by name.
use Rattle.std.specs.Prelude.{◌≡◌, List}
use Rattle.std.specs.List.{AllByRecursion}
use Rattle.vbm_named.specs.Names.{Name}

-- each item stands under its name
abbrev pub AreKeyed : {K X : Type 0} → (K → Name) → (X → Name) → List (K × X) → Type 0
AreKeyed {K} {X} text name_of entries = AllByRecursion (λ (e : K × X). text e.0 ≡ name_of e.1) entries
