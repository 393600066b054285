-- The names of files that are kept as a list.
use Rattle.std.proofs.Common.{◌≡◌, ⊎_elim, ◌⊎◌, inl, inr, zero, suc, ℕ, ◌<◌, List, [], ◌∷◌, length, get_or, map, Bool, true, false, cond, Option, Some, None, refl, sym, subst, ◌∙◌, ap, arith}
use Rattle.std.specs.Prelude.{◌↔◌, IsSome, is_some, Contains}
use Rattle.std.proofs.lemmas.Bool.{cases_Bool}
use Rattle.std.proofs.lemmas.Slice.Eq.{bytes_eq-Decides}
use Rattle.std.specs.Str.{bytes_eq}
use Rattle.vbm_ports.specs.Files.{Files}
use Rattle.vbm_memdisk.specs.Folders.{files_of, file_name, AreNames}
use Rattle.vbm_memdisk.specs.declared.folder.MemFile.{MemFile}

-- what a name has in a list of names: the head, or the rest
head_or_rest : (x name : List ℕ) (xs : List (List ℕ)) → Contains (x ∷ xs) name → (x ≡ name) ⊎ Contains xs name
head_or_rest x name xs (zero, l, e) = inl e
head_or_rest x name xs (suc k, l, e) = inr (k, omega arith, e)

-- a name in the list has a file
has_file : (files : List MemFile) (name : List ℕ) → Contains (map file_name files) name → IsSome (files_of files name)
has_file [] name c = absurd (omega (arith, c.1))
has_file (file ∷ files) name c = ⊎_elim
    (λ same. ap (λ (b : Bool). is_some (cond b (Some file.bytes.items) (files_of files name))) ((bytes_eq-Decides file.name name).1 same))
    (λ rest. ⊎_elim
    (λ is. ap (λ (b : Bool). is_some (cond b (Some file.bytes.items) (files_of files name))) is)
    (λ differs. ap (λ (b : Bool). is_some (cond b (Some file.bytes.items) (files_of files name))) differs ∙ has_file files name rest)
    (cases_Bool (bytes_eq file.name name)))
    (head_or_rest file.name name (map file_name files) c)

-- the name of a file is in the list
has_name : (files : List MemFile) (name : List ℕ) → IsSome (files_of files name) → Contains (map file_name files) name
has_name [] name is = absurd (cc is)
has_name (file ∷ files) name is = ⊎_elim
    (λ same. (zero, omega arith, (bytes_eq-Decides file.name name).0 same))
    (λ differs.
    let rest = has_name files name (sym (ap (λ (b : Bool). is_some (cond b (Some file.bytes.items) (files_of files name))) differs) ∙ is) in
    (suc rest.0, omega (arith, rest.1), rest.2))
    (cases_Bool (bytes_eq file.name name))

-- the names of all files
pub names_are : (files : List MemFile) → AreNames (map file_name files) (files_of files)
names_are files name = (has_file files name, has_name files name)

-- the same of what is told of the files
pub names_told : (files : List MemFile) (names : List (List ℕ)) (told : Files) → names ≡ map file_name files → ((name : List ℕ) → files_of files name ≡ told name) → AreNames names told
names_told files names told is same name =
    subst (λ (l : List (List ℕ)). Contains l name ↔ IsSome (told name)) (sym is)
    (subst (λ (o : Option (List ℕ)). Contains (map file_name files) name ↔ IsSome o) (same name) (names_are files name))
