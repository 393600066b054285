-- Why headers, base first, are not those of a chain.
use Rattle.std.specs.Prelude.{◌≡◌, ℕ, zero, suc, nat_le, not, Bool, if◌then◌else◌, List, [], ◌∷◌, Option, Some, None, Result, Ok, Err, slice_get, option_and_then}
use Rattle.std.specs.Str.{bytes_eq}
use Rattle.vbm_header.specs.declared.Header.{Header}
use Rattle.vbm_header.specs.Header.{is_differencing}
use Rattle.vbm_chain.specs.declared.links.LinkFault.{LinkFault}
use Rattle.vbm_chain.specs.declared.links.LinkFault.TheVariants.{NotBase, NotDifferencing, Link, Modify, Capacity}

-- a test: what is wrong where it fails, and whether it holds
abbrev pub LinkTest : Type 0
LinkTest = LinkFault × Bool

-- what is wrong by the first test that fails, if one does
abbrev pub first_failing : List LinkTest → Option LinkFault
first_failing [] = None
first_failing (test ∷ tests) = if test.1 then first_failing tests else Some test.0

-- the tests of the first header
abbrev pub base_tests : Header → List LinkTest
base_tests h = (NotBase, not (is_differencing h.image_type)) ∷ []

-- the tests of a header and the one below it, in their order
abbrev pub link_tests : Header → Header → List LinkTest
link_tests below h =
    (NotDifferencing, is_differencing h.image_type)
    ∷ (Link h.link below.id, bytes_eq h.link below.id)
    ∷ (Modify h.parent_modify below.modify, bytes_eq h.parent_modify below.modify)
    ∷ (Capacity h.capacity below.capacity, nat_le below.capacity h.capacity)
    ∷ []

-- the tests of a header: the first has none below it
abbrev pub tests_over : Option Header → Header → List LinkTest
tests_over None h = base_tests h
tests_over (Some below) h = link_tests below h

abbrev pub header_below : List Header → ℕ → Option Header
header_below headers zero = None
header_below headers (suc i) = slice_get headers i

-- what is wrong with a header, by its number from 0
abbrev pub fault_at : List Header → ℕ → Option LinkFault
fault_at headers i = option_and_then (λ h. first_failing (tests_over (header_below headers i) h)) (slice_get headers i)

-- the result of tests
abbrev pub IsTested : Option LinkFault → Result (Unit {0}) LinkFault → Type 0
IsTested fault (Ok done) = fault ≡ None
IsTested fault (Err found) = fault ≡ Some found
