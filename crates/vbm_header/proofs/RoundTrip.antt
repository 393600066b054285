-- A header that was written is read back.
use Rattle.std.proofs.Common.{◌≡◌, ℕ, ◌^◌, ◌<◌, ◌≤◌, true, List, [], take, None, Ok, refl, ap, ◌∙◌, arith}
use Rattle.std.specs.Prelude.{◌==◌, ◌&&◌, ◌||◌}
use Rattle.std.proofs.lemmas.Bool.{le-leb, eq-eqb}
use Rattle.byteorder.specs.Numbers.{little_number-reads_back}
use Rattle.vbm_header.specs.declared.Header.{Header}
use Rattle.vbm_header.specs.declared.ImageType.{ImageType}
use Rattle.vbm_header.specs.declared.ImageType.TheVariants.{Dynamic, Fixed, Differencing}
use Rattle.vbm_header.specs.Field.{number_at, uuid_at}
use Rattle.vbm_header.specs.Header.{header_of, header_conditions, has_header_size, has_size, has_layout, is_identified, fields, unless, image_type_of, first_that_fails}
use Rattle.vbm_header.specs.Written.{AreNumbers, AreUuids, header_bytes, type_number, start, sizes, identifiers}
use Rattle.vbm_header.proofs.Fields.{swap_fields-swap_fields}

-- what a header holds: numbers that fit their fields, and UUIDs of sixteen bytes
pub record IsStorable (h : Header) : Type 0 where
  pub cb_header : h.cb_header < 2 ^ 32
  pub numbers : AreNumbers h
  pub uuids : AreUuids h

-- the bytes that a reader of the header needs
front : Header → List ℕ
front h = take 456 (header_bytes h)

-- The numbers that are the same in all images stand at their places.
signature-front : (h : Header) → number_at (front h) 64 4 ≡ 0xBEDA107F
unfolding number_at front start sizes identifiers
signature-front h = refl

version-front : (h : Header) → number_at (front h) 68 4 ≡ 0x00010001
unfolding number_at front start sizes identifiers
version-front h = refl

cb_block-front : (h : Header) → number_at (front h) 376 4 ≡ 2 ^ 20
unfolding number_at front start sizes identifiers
cb_block-front h = refl

cb_block_extra-front : (h : Header) → number_at (front h) 380 4 ≡ 0
unfolding number_at front start sizes identifiers
cb_block_extra-front h = refl

-- Each of the header's values stands at its place.
cb_header-front : (h : Header) → IsStorable h → number_at (front h) 72 4 ≡ h.cb_header
unfolding number_at front start sizes identifiers
cb_header-front h fits = little_number-reads_back 4 h.cb_header [] fits.cb_header

small_type : (t : ImageType) → type_number t < 256 ^ 4
small_type Dynamic = omega arith
small_type Fixed = omega arith
small_type Differencing = omega arith

type-front : (h : Header) → number_at (front h) 76 4 ≡ type_number h.image_type
unfolding number_at front start sizes identifiers
type-front h = little_number-reads_back 4 (type_number h.image_type) [] (small_type h.image_type)

off_blocks-front : (h : Header) → IsStorable h → number_at (front h) 340 4 ≡ h.off_blocks
unfolding number_at front start sizes identifiers
off_blocks-front h fits = little_number-reads_back 4 h.off_blocks [] fits.numbers.off_blocks

off_data-front : (h : Header) → IsStorable h → number_at (front h) 344 4 ≡ h.off_data
unfolding number_at front start sizes identifiers
off_data-front h fits = little_number-reads_back 4 h.off_data [] fits.numbers.off_data

capacity-front : (h : Header) → IsStorable h → number_at (front h) 368 8 ≡ h.capacity
unfolding number_at front start sizes identifiers
capacity-front h fits = little_number-reads_back 8 h.capacity [] fits.numbers.capacity

blocks-front : (h : Header) → IsStorable h → number_at (front h) 384 4 ≡ h.blocks
unfolding number_at front start sizes identifiers
blocks-front h fits = little_number-reads_back 4 h.blocks [] fits.numbers.blocks

allocated-front : (h : Header) → IsStorable h → number_at (front h) 388 4 ≡ h.allocated
unfolding number_at front start sizes identifiers
allocated-front h fits = little_number-reads_back 4 h.allocated [] fits.numbers.allocated

id-front : (h : Header) → IsStorable h → uuid_at (front h) 392 ≡ h.id
unfolding uuid_at front start sizes identifiers
id-front h fits = swap_fields-swap_fields h.id fits.uuids.id

modify-front : (h : Header) → IsStorable h → uuid_at (front h) 408 ≡ h.modify
unfolding uuid_at front start sizes identifiers
modify-front h fits = swap_fields-swap_fields h.modify fits.uuids.modify

link-front : (h : Header) → IsStorable h → uuid_at (front h) 424 ≡ h.link
unfolding uuid_at front start sizes identifiers
link-front h fits = swap_fields-swap_fields h.link fits.uuids.link

parent_modify-front : (h : Header) → IsStorable h → uuid_at (front h) 440 ≡ h.parent_modify
unfolding uuid_at front start sizes identifiers
parent_modify-front h fits = swap_fields-swap_fields h.parent_modify fits.uuids.parent_modify

-- A type number says its type, and is one of the three.
image_type_of-type_number : (t : ImageType) → image_type_of (type_number t) ≡ t
image_type_of-type_number Dynamic = refl
image_type_of-type_number Fixed = refl
image_type_of-type_number Differencing = refl

known_type : (t : ImageType) → (type_number t == 1 || type_number t == 2 || type_number t == 4) ≡ true
known_type Dynamic = refl
known_type Fixed = refl
known_type Differencing = refl

fields-front : (h : Header) → IsStorable h → fields (front h) ≡ h
fields-front h fits =
    rw (
      cb_header-front h fits,
      type-front h,
      image_type_of-type_number h.image_type,
      off_blocks-front h fits,
      off_data-front h fits,
      capacity-front h fits,
      blocks-front h fits,
      allocated-front h fits,
      id-front h fits,
      modify-front h fits,
      link-front h fits,
      parent_modify-front h fits,
    ) refl

-- A header that was written is read back, from a file of any length that its conditions allow.
pub header_of-header_bytes : (h : Header) (len : ℕ) → IsStorable h → 456 ≤ len
    → has_header_size h ≡ true → has_size h ≡ true → has_layout h len ≡ true → is_identified h ≡ true
    → header_of (take 456 (header_bytes h)) len ≡ Ok h
unfolding header_of header_conditions front
header_of-header_bytes h len fits long header_size size layout id =
    let same = fields-front h fits in
    let kind : (number_at (front h) 76 4 == 1 || number_at (front h) 76 4 == 2 || number_at (front h) 76 4 == 4) ≡ true =
    rw (type-front h) (known_type h.image_type) in
    let block : (number_at (front h) 376 4 == 2 ^ 20 && number_at (front h) 380 4 == 0) ≡ true =
    rw (cb_block-front h, cb_block_extra-front h) refl in
    let passed : first_that_fails (header_conditions (front h) len) ≡ None = rw (
      le-leb 456 len long,
      eq-eqb _ _ (signature-front h),
      eq-eqb _ _ (version-front h),
      ap has_header_size same ∙ header_size,
      kind,
      block,
      ap has_size same ∙ size,
      ap (λ x. has_layout x len) same ∙ layout,
      ap is_identified same ∙ id,
    ) refl in
    ap (λ o. unless o (fields (front h))) passed ∙ ap Ok same
