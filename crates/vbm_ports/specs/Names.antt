-- The names of the files, the machines and the snapshots in a store.
use Rattle.std.specs.Prelude.{ℕ, ◌==◌, ◌&&◌, ◌||◌, not, nat_le, Bool, List, length, slice_index, drop, take, codes, nat_eq, IsTrue}
use Rattle.std.specs.List.{list_all, starts_with, ends_with}
use Rattle.std.specs.Str.{bytes_eq}
use Rattle.vbm_ports.specs.declared.names.TheConstants.{LIBRARY_NAME, LOG_NAME, LONGEST_NAME, LONGEST_SHORT_NAME}

abbrev pub is_between : ℕ → ℕ → ℕ → Bool
is_between low high c = nat_le low c && nat_le c high

-- ASCII letters, digits, `.`, `_` and `-`
abbrev pub is_name_character : ℕ → Bool
is_name_character c = is_between 97 122 c || is_between 65 90 c || is_between 48 57 c || c == 46 || c == 95 || c == 45

-- The name of a medium: 5 to LONGEST_NAME characters that end in `.vdi` and do not begin with `-`.
unfoldable pub is_medium_name : List ℕ → Bool
is_medium_name name =
    nat_le 5 (length name) && nat_le (length name) LONGEST_NAME && not (slice_index name 0 == 45) && list_all is_name_character name
    && ends_with nat_eq name (codes ".vdi")

-- The name of a machine or a snapshot: 1 to LONGEST_SHORT_NAME characters that do not begin with `-`.
unfoldable pub is_short_name : List ℕ → Bool
is_short_name name =
    nat_le 1 (length name) && nat_le (length name) LONGEST_SHORT_NAME && not (slice_index name 0 == 45) && list_all is_name_character name

abbrev pub is_lower_hex : ℕ → Bool
is_lower_hex c = is_between 48 57 c || is_between 97 102 c

-- An identifier in the hyphenated lower-case form (RFC 9562, section 4): 8, 4, 4, 4 and 12 hexadecimal digits.
abbrev pub is_hyphenated : List ℕ → Bool
is_hyphenated text =
    length text == 36 && list_all is_lower_hex (take 8 text) && slice_index text 8 == 45
    && list_all is_lower_hex (take 4 (drop 9 text)) && slice_index text 13 == 45
    && list_all is_lower_hex (take 4 (drop 14 text)) && slice_index text 18 == 45
    && list_all is_lower_hex (take 4 (drop 19 text)) && slice_index text 23 == 45
    && list_all is_lower_hex (take 12 (drop 24 text))

-- The name of an inner image: `{`, its identifier, and `}.vdi`.
unfoldable pub is_inner_name : List ℕ → Bool
is_inner_name name =
    length name == 42 && starts_with nat_eq name (codes "{") && ends_with nat_eq name (codes "}.vdi")
    && is_hyphenated (take 36 (drop 1 name))

-- A name that a file of a store may have: a medium's, an inner image's, the library's or the log's.
abbrev pub is_store_name : List ℕ → Bool
is_store_name name =
    is_medium_name name || is_inner_name name || bytes_eq name LIBRARY_NAME.now || bytes_eq name LOG_NAME.now

abbrev pub IsStoreName : List ℕ → Type 0
IsStoreName name = IsTrue (is_store_name name)
