-- What stands under each name after a change of a list of files.
use Rattle.std.proofs.Common.{◌≡◌, ◌≢◌, ⊎_elim, ℕ, ◌+◌, ◌<◌, List, [], ◌∷◌, ◌++◌, length, length-set, get_or, set, take, drop, take-append-drop, Bool, true, false, not, cond, Option, Some, None, refl, sym, ◌∙◌, ap, arith}
use Rattle.std.specs.List.{filter}
use Rattle.std.proofs.lemmas.List.{drop_more, get_or-set_same, take-set-le, drop-set-lt, append-nil}
use Rattle.std.proofs.lemmas.Bool.{cases_Bool}
use Rattle.std.proofs.lemmas.Slice.Eq.{bytes_eq-Decides}
use Rattle.std.specs.Str.{bytes_eq}
use Rattle.vbm_ports.specs.Files.{Files}
use Rattle.vbm_memdisk.specs.Folders.{files_of, with_file, IsFirst}
use Rattle.vbm_memdisk.specs.declared.folder.MemFile.{MemFile}

-- what a list has under a name, by whether its first file has the name
choice : MemFile → List MemFile → List ℕ → Bool → Option (List ℕ)
choice file files name b = cond b (Some file.bytes.items) (files_of files name)

head_other : (file : MemFile) (files : List MemFile) (name : List ℕ) → files_of (file ∷ files) name ≡ None
    → (bytes_eq file.name name ≡ false) × (files_of files name ≡ None)
head_other file files name none = ⊎_elim
    (λ is. absurd (cc (sym none ∙ ap (λ (b : Bool). cond b (Some file.bytes.items) (files_of files name)) is)))
    (λ other. (other, sym (ap (λ (b : Bool). cond b (Some file.bytes.items) (files_of files name)) other) ∙ none))
    (cases_Bool (bytes_eq file.name name))

-- past files of other names
pub past_none : (xs ys : List MemFile) (name : List ℕ) → files_of xs name ≡ None → files_of (xs ++ ys) name ≡ files_of ys name
past_none [] ys name none = refl
past_none (file ∷ files) ys name none =
    let parts = head_other file files name none in
    ap (λ (b : Bool). cond b (Some file.bytes.items) (files_of (files ++ ys) name)) parts.0 ∙ past_none files ys name parts.1

-- the first file of a name is the one that counts
pub first_counts : (files : List MemFile) (name : List ℕ) (i : ℕ) (default : MemFile) → IsFirst files name i
    → files_of files name ≡ Some (get_or files i default).bytes.items
first_counts files name i default is =
    ap (λ (l : List MemFile). files_of l name) (sym (take-append-drop i files))
    ∙ past_none (take i files) (drop i files) name is.first
    ∙ ap (λ (l : List MemFile). files_of l name) (drop_more files i default is.within)
    ∙ ap (λ (b : Bool). cond b (Some (get_or files i default).bytes.items) (files_of (drop (i + 1) files) name)) ((bytes_eq-Decides (get_or files i default).name name).1 (is.named default))

-- another file in the place of the first of its name, or of none
put_there : (pre post old : List MemFile) (file : MemFile) (name other : List ℕ) → file.name ≡ name → files_of pre name ≡ None
    → ((m : List ℕ) → m ≢ name → files_of old m ≡ files_of post m)
    → files_of (pre ++ file ∷ post) other ≡ with_file name (Some file.bytes.items) (files_of (pre ++ old)) other
put_there [] post old file name other named none same = ⊎_elim
    (λ is. ap (λ (b : Bool). cond b (Some file.bytes.items) (files_of post other)) (ap (λ (m : List ℕ). bytes_eq m other) named ∙ is) ∙ sym (ap (λ (b : Bool). cond b (Some file.bytes.items) (files_of old other)) is))
    (λ differs. ap (λ (b : Bool). cond b (Some file.bytes.items) (files_of post other)) (ap (λ (m : List ℕ). bytes_eq m other) named ∙ differs)
    ∙ sym (same other (λ is. cc ((bytes_eq-Decides name other).1 (sym is), differs))) ∙ sym (ap (λ (b : Bool). cond b (Some file.bytes.items) (files_of old other)) differs))
    (cases_Bool (bytes_eq name other))
put_there (g ∷ pre) post old file name other named none same =
    let parts = head_other g pre name none in
    let rest = put_there pre post old file name other named parts.1 same in
    ⊎_elim
    (λ is.
    let g_is = (bytes_eq-Decides g.name other).0 is in
    let differs : bytes_eq name other ≡ false = ⊎_elim (λ same_name. absurd (cc ((bytes_eq-Decides g.name name).1 (g_is ∙ sym ((bytes_eq-Decides name other).0 same_name)), parts.0))) (λ (d : bytes_eq name other ≡ false). d) (cases_Bool (bytes_eq name other)) in
    ap (λ (b : Bool). cond b (Some g.bytes.items) (files_of (pre ++ file ∷ post) other)) is
    ∙ sym (ap (λ (b : Bool). cond b (Some file.bytes.items) (files_of ((g ∷ pre) ++ old) other)) differs ∙ ap (λ (b : Bool). cond b (Some g.bytes.items) (files_of (pre ++ old) other)) is))
    (λ differs. ap (λ (b : Bool). cond b (Some g.bytes.items) (files_of (pre ++ file ∷ post) other)) differs ∙ rest
    ∙ ap (λ (o : Option (List ℕ)). cond (bytes_eq name other) (Some file.bytes.items) o) (sym (ap (λ (b : Bool). cond b (Some g.bytes.items) (files_of (pre ++ old) other)) differs)))
    (cases_Bool (bytes_eq g.name other))

set_is : (files : List MemFile) (i : ℕ) (file : MemFile) → i < length files → set files i file ≡ take i files ++ file ∷ drop (i + 1) files
set_is files i file within =
    let more : drop i (set files i file) ≡ get_or (set files i file) i file ∷ drop (i + 1) (set files i file) = drop_more (set files i file) i file (simp length-set within) in
    sym (take-append-drop i (set files i file))
    ∙ ap (λ (l : List MemFile). l ++ drop i (set files i file)) (take-set-le i files i file (omega arith))
    ∙ ap (λ (l : List MemFile). take i files ++ l) more
    ∙ ap (λ (x : MemFile). take i files ++ x ∷ drop (i + 1) (set files i file)) (get_or-set_same files i file file within)
    ∙ ap (λ (l : List MemFile). take i files ++ file ∷ l) (drop-set-lt (i + 1) files i file (omega arith))

-- the first file of a name is changed
pub replaced : (files : List MemFile) (name : List ℕ) (i : ℕ) (file : MemFile) → IsFirst files name i → file.name ≡ name
    → files_of (set files i file) ≡ with_file name (Some file.bytes.items) (files_of files)
replaced files name i file is named = λ k other.
    (ap (λ (l : List MemFile). files_of l other) (set_is files i file is.within)
    ∙ put_there (take i files) (drop (i + 1) files) (drop i files) file name other named is.first
    (λ m differs. ap (λ (l : List MemFile). files_of l m) (drop_more files i file is.within) ∙ skipped m differs)
    ∙ ap (λ (l : List MemFile). with_file name (Some file.bytes.items) (files_of l) other) (take-append-drop i files)) k where
      skipped : (m : List ℕ) → m ≢ name → files_of (get_or files i file ∷ drop (i + 1) files) m ≡ files_of (drop (i + 1) files) m
      skipped m differs = ⊎_elim
          (λ same. absurd (differs (sym ((bytes_eq-Decides (get_or files i file).name m).0 same) ∙ is.named file)))
          (λ other. ap (λ (b : Bool). cond b (Some (get_or files i file).bytes.items) (files_of (drop (i + 1) files) m)) other)
          (cases_Bool (bytes_eq (get_or files i file).name m))

-- the first file of a name, as the code holds it
pub first_is : (files : List MemFile) (name : List ℕ) (i : ℕ) (old : MemFile) → IsFirst files name i → old ≡ get_or files i old
    → files_of files name ≡ Some old.bytes.items
first_is files name i old is held = first_counts files name i old is ∙ ap (λ (file : MemFile). Some file.bytes.items) (sym held)

-- the same with other bytes
pub changed : (files : List MemFile) (name : List ℕ) (i : ℕ) (old file : MemFile) → IsFirst files name i → old ≡ get_or files i old → file.name ≡ old.name
    → files_of (set files i file) ≡ with_file name (Some file.bytes.items) (files_of files)
changed files name i old file is held same = replaced files name i file is (same ∙ ap (λ (f : MemFile). f.name) held ∙ is.named old)

hidden : (b : Bool) (x y z : Option (List ℕ)) → cond b x z ≡ cond b x (cond b y z)
hidden true x y z = refl
hidden false x y z = refl

-- the last value counts
pub with_twice : (name : List ℕ) (value earlier : Option (List ℕ)) (files : Files) → with_file name value (with_file name earlier files) ≡ with_file name value files
with_twice name value earlier files = λ k other. (sym (hidden (bytes_eq name other) value earlier (files other))) k

-- a file is added where there was none of its name
pub added : (files : List MemFile) (name : List ℕ) (file : MemFile) → files_of files name ≡ None → file.name ≡ name
    → files_of (files ++ file ∷ []) ≡ with_file name (Some file.bytes.items) (files_of files)
added files name file none named = λ k other.
    (put_there files [] [] file name other named none (λ m differs. refl)
    ∙ ap (λ (l : List MemFile). with_file name (Some file.bytes.items) (files_of l) other) (append-nil files)) k

swapped : (a b : Bool) (x y z : Option (List ℕ)) → (a ≡ true → b ≡ true → ⊥) → cond a x (cond b y z) ≡ cond b y (cond a x z)
swapped true true x y z apart = absurd (apart refl refl)
swapped true false x y z apart = refl
swapped false true x y z apart = refl
swapped false false x y z apart = refl

-- all files of a name are left out
pub without : (name : List ℕ) (files : List MemFile) (other : List ℕ)
    → files_of (filter (λ file. not (bytes_eq file.name name)) files) other ≡ with_file name None (files_of files) other
without name [] other = ⊎_elim
    (λ is. sym (ap (λ (b : Bool). cond b None (files_of [] other)) is)) (λ differs. sym (ap (λ (b : Bool). cond b None (files_of [] other)) differs)) (cases_Bool (bytes_eq name other))
without name (file ∷ files) other =
    let rest : List MemFile = filter (λ f. not (bytes_eq f.name name)) files in
    let here : Option (List ℕ) = Some file.bytes.items in
    ⊎_elim
    (λ is.
    let named : file.name ≡ name = (bytes_eq-Decides file.name name).0 is in
    ap (λ (b : Bool). files_of (cond (not b) (file ∷ rest) rest) other) is ∙ without name files other
    ∙ hidden (bytes_eq name other) None here (files_of files other)
    ∙ ap (λ (m : List ℕ). cond (bytes_eq name other) None (cond (bytes_eq m other) here (files_of files other))) (sym named))
    (λ differs.
    ap (λ (b : Bool). files_of (cond (not b) (file ∷ rest) rest) other) differs
    ∙ ap (λ (o : Option (List ℕ)). cond (bytes_eq file.name other) here o) (without name files other)
    ∙ swapped (bytes_eq file.name other) (bytes_eq name other) here None (files_of files other)
    (λ is named. cc ((bytes_eq-Decides file.name name).1 ((bytes_eq-Decides file.name other).0 is ∙ sym ((bytes_eq-Decides name other).0 named)), differs)))
    (cases_Bool (bytes_eq file.name name))
