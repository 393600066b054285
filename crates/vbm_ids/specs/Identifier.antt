-- Identifiers of the custom form, version 8 (RFC 9562, 5.8). That fixes the high half of byte 6, the version, and the two
-- highest bits of byte 8, the variant 10; all other bits are for an application to choose.
use Rattle.std.specs.Prelude.{◌≡◌, ℕ, ◌+◌, ◌<◌, ◌%◌, ◌^◌, ◌||◌, nat_le, Bool, false, if◌then◌else◌, List, [], ◌∷◌, ◌++◌, length, take, drop, slice_index, Option, Some, None, is_some}
use Rattle.std.specs.Int.{w64, to_be_bytes, from_be_bytes}
use Rattle.std.specs.List.{All, list_any}
use Rattle.std.specs.Str.{bytes_eq}
use Rattle.vbm_ids.specs.declared.TheConstants.{NUMBER_LIMIT}
use Rattle.vbm_ids.specs.declared.Kind.{Kind}
use Rattle.vbm_ids.specs.declared.Kind.TheVariants.{Medium, Modify, Inner, InnerModify}

-- sixteen bytes
pub record IsSeed (seed : List ℕ) : Type 0 where
  pub long : length seed ≡ 16
  pub bytes : All (λ b. b < 256) seed

-- byte 7: what the identifier names
abbrev pub kind_number : Kind → ℕ
kind_number Medium = 0
kind_number Modify = 1
kind_number Inner = 2
kind_number InnerModify = 3

-- byte 6: the version, 8, and the low half of the seed's
abbrev pub version_byte : (seed : List ℕ) → ℕ
version_byte seed = 0x80 + slice_index seed 6 % 16

-- bytes 0 to 7, of which 0 to 5 are the seed's
abbrev pub first_half : (seed : List ℕ) → Kind → List ℕ
first_half seed kind = take 6 seed ++ version_byte seed ∷ kind_number kind ∷ []

-- the identifier of a number, which is below the limit: bytes 8 to 15 are the number, big-endian, counted from 2^63 on
unfoldable pub identifier_of : (seed : List ℕ) → Kind → ℕ → List ℕ
identifier_of seed kind n = first_half seed kind ++ to_be_bytes w64 (2 ^ 63 + n)

-- what bytes 8 to 15 count, from 2^63 on
abbrev pub count_of_id : List ℕ → ℕ
count_of_id id = from_be_bytes w64 (drop 8 id) % NUMBER_LIMIT

-- the number of an identifier of this seed and kind
unfoldable pub number_in : (seed : List ℕ) → Kind → List ℕ → Option ℕ
number_in seed kind id = if bytes_eq id (identifier_of seed kind (count_of_id id)) then Some (count_of_id id) else None

abbrev pub is_not_below : ℕ → Option ℕ → Bool
is_not_below next None = false
is_not_below next (Some n) = nat_le next n

-- An identifier of this seed that was not given to a medium, where those of the numbers below `next` were.
abbrev pub is_foreign : (seed : List ℕ) (next : ℕ) → List ℕ → Bool
is_foreign seed next id =
    is_some (number_in seed Modify id) || is_some (number_in seed Inner id) || is_some (number_in seed InnerModify id)
    || is_not_below next (number_in seed Medium id)

-- some item has the identifier
abbrev pub has_id : {X : Type 0} → (X → List ℕ) → List ℕ → List X → Bool
has_id id_of id xs = list_any (λ x. bytes_eq (id_of x) id) xs
