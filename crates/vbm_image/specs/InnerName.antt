-- The name of an inner image's file.
use Rattle.std.specs.Prelude.{ℕ, List, ◌++◌, codes}
use Rattle.uuid.specs.Text.{hyphenated_text, lower}

-- the identifier in braces, in the hyphenated lower-case form (RFC 9562, section 4)
abbrev pub inner_name_of : List ℕ → List ℕ
inner_name_of id = codes "{" ++ hyphenated_text lower id ++ codes "}.vdi"
