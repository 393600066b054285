-- Lists in the order of names.
use Rattle.std.specs.Prelude.{ℕ, IsTrue, Bool, true, false, not, cond, if◌then◌else◌, List, [], ◌∷◌, map, filter, find, Option}
use Rattle.std.specs.List.{AllByRecursion, list_any}
use Rattle.std.specs.Str.{bytes_eq}
use Rattle.std.specs.Ordering.{nat_cmp}
use Rattle.std.specs.Cmp.Lexicographic.{slice_cmp}
use Rattle.std.specs.declared.cmp.Ordering.{Ordering}
use Rattle.std.specs.declared.cmp.Ordering.TheVariants.{Less, Equal, Greater}

abbrev pub Name : Type 0
Name = List ℕ

abbrev pub is_less : Ordering → Bool
is_less Less = true
is_less Equal = false
is_less Greater = false

-- the order of names, by their bytes
abbrev pub is_before : Name → Name → Bool
is_before a b = is_less (slice_cmp nat_cmp a b)

abbrev pub is_named : {X : Type 0} → (X → Name) → Name → X → Bool
is_named name_of name x = bytes_eq (name_of x) name

-- the first item of a name
abbrev pub find_by : {X : Type 0} → (X → Name) → Name → List X → Option X
find_by name_of name xs = find (is_named name_of name) xs

abbrev pub has_name : {X : Type 0} → (X → Name) → Name → List X → Bool
has_name name_of name xs = list_any (is_named name_of name) xs

-- a list in the order of names, with one more item in its place
unfoldable pub put_by : {X : Type 0} → (X → Name) → X → List X → List X
put_by name_of x [] = x ∷ []
put_by name_of x (y ∷ ys) = if is_before (name_of x) (name_of y) then x ∷ y ∷ ys else y ∷ put_by name_of x ys

-- without the items of a name
abbrev pub without : {X : Type 0} → (X → Name) → Name → List X → List X
without name_of name xs = filter (λ x. not (is_named name_of name x)) xs

-- with the items of a name changed
abbrev pub change_by : {X : Type 0} → (X → Name) → Name → (X → X) → List X → List X
change_by name_of name change xs = map (λ x. cond (is_named name_of name x) (change x) x) xs

-- The names rise strictly.
abbrev pub Rises : {X : Type 0} → (X → Name) → List X → Type 0
Rises name_of [] = Unit {0}
Rises name_of (x ∷ xs) = AllByRecursion (λ y. IsTrue (is_before (name_of x) (name_of y))) xs × Rises name_of xs
