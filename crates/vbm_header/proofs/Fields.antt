-- Laws of the fields of a file.
use Rattle.std.proofs.Common.{◌≡◌, ℕ, [], refl, ◌+◌, ◌≤◌, ◌<◌, ◌^◌, List, ◌++◌, length, take, drop, get_or, sym, ap, ◌∙◌, arith}
use Rattle.std.proofs.lemmas.Slice.Eq.{text_from_reads}
use Rattle.std.proofs.lemmas.List.{append-nil, drop-drop, drop-append-le, length-drop, take-append-le, length-take, take-append-drop, get_or-drop}
use Rattle.byteorder.specs.Endian.{little_number, little_bytes}
use Rattle.byteorder.specs.Numbers.{little_from-append, little_from-lt, little_number-reads_back}
use Rattle.uuid.specs.Parts.{swap_fields}
use Rattle.vbm_header.specs.Field.{number_at, uuid_at}

-- a number in a file's tail
pub number_at-drop : (f : List ℕ) (at offset width : ℕ) → number_at (drop at f) offset width ≡ number_at f (at + offset) width
unfolding number_at
number_at-drop f at offset width = ap (little_number width) (drop-drop offset at f)

-- a number that lies in the first of two parts
pub number_at-append : (xs ys : List ℕ) (offset width : ℕ) → offset + width ≤ length xs
    → number_at (xs ++ ys) offset width ≡ number_at xs offset width
unfolding number_at
number_at-append xs ys offset width within =
    ap (little_number width) (drop-append-le offset xs ys (omega arith))
    ∙ little_from-append width (drop offset xs) ys (omega (arith, length-drop offset xs))

-- a number in a file's front
pub number_at-take : (n : ℕ) (f : List ℕ) (offset width : ℕ) → offset + width ≤ n → offset + width ≤ length f
    → number_at (take n f) offset width ≡ number_at f offset width
number_at-take n f offset width within fits =
    sym (number_at-append (take n f) (drop n f) offset width (omega (arith, length-take n f)))
    ∙ ap (λ xs. number_at xs offset width) (take-append-drop n f)

-- a number fits its width
pub number_at-fits : (f : List ℕ) (offset width : ℕ) → ((i : ℕ) → get_or f i 0 < 256)
    → number_at f offset width < 256 ^ width
unfolding number_at
number_at-fits f offset width bytes =
    little_from-lt 0 width (drop offset f) (λ i. rw (get_or-drop offset f i 0) (bytes (offset + i)))

-- a UUID in a file's tail
pub uuid_at-drop : (f : List ℕ) (at offset : ℕ) → uuid_at (drop at f) offset ≡ uuid_at f (at + offset)
unfolding uuid_at
uuid_at-drop f at offset = ap (λ xs. swap_fields (take 16 xs)) (drop-drop offset at f)

-- a UUID that lies in the first of two parts
pub uuid_at-append : (xs ys : List ℕ) (offset : ℕ) → offset + 16 ≤ length xs
    → uuid_at (xs ++ ys) offset ≡ uuid_at xs offset
unfolding uuid_at
uuid_at-append xs ys offset within =
    ap (λ zs. swap_fields (take 16 zs)) (drop-append-le offset xs ys (omega arith))
    ∙ ap swap_fields (take-append-le 16 (drop offset xs) ys (omega (arith, length-drop offset xs)))

-- a UUID in a file's front
pub uuid_at-take : (n : ℕ) (f : List ℕ) (offset : ℕ) → offset + 16 ≤ n → n ≤ length f
    → uuid_at (take n f) offset ≡ uuid_at f offset
uuid_at-take n f offset within fits =
    sym (uuid_at-append (take n f) (drop n f) offset (omega (arith, length-take n f)))
    ∙ ap (λ xs. uuid_at xs offset) (take-append-drop n f)

-- a number's bytes are read back
pub number_at-little_bytes : (width n : ℕ) → n < 256 ^ width → number_at (little_bytes width n) 0 width ≡ n
unfolding number_at
number_at-little_bytes width n fits =
    ap (little_number width) (sym (append-nil (little_bytes width n)))
    ∙ little_number-reads_back width n [] fits

-- a UUID whose fields are swapped twice is as before
pub swap_fields-swap_fields : (id : List ℕ) → length id ≡ 16 → swap_fields (swap_fields id) ≡ id
swap_fields-swap_fields id size =
    sym (text_from_reads id (swap_fields (swap_fields id)) size (refl, (refl, (refl, (refl, (refl, (refl, (refl, (refl, (refl, (refl, (refl, (refl, (refl, (refl, (refl, (refl, tt)))))))))))))))))

-- a UUID's bytes are read back, whatever follows them
pub uuid_at-swap_fields : (id rest : List ℕ) → length id ≡ 16 → uuid_at (swap_fields id ++ rest) 0 ≡ id
unfolding uuid_at
uuid_at-swap_fields id rest size = swap_fields-swap_fields id size
