-- What the headers of new images have in common, and the files that begin with one.
use Rattle.std.proofs.Common.{◌≡◌, ℕ, ◌+◌, ◌-◌, ◌*◌, ◌^◌, ◌<◌, ◌≤◌, ◌%◌, true, not, List, ◌++◌, length, Ok, refl, sym, ap, ◌∙◌, arith}
use Rattle.std.specs.Int.{div_ceil}
use Rattle.std.specs.Prelude.{IsFalse}
use Rattle.std.proofs.lemmas.Bool.Decides.{nat_tests}
use Rattle.std.proofs.lemmas.List.{drop_at, length-append, length-replicate, take-append-le}
use Rattle.uuid.specs.Parts.{is_nil_bytes}
use Rattle.vbm_header.specs.declared.Header.{Header}
use Rattle.vbm_header.specs.declared.ImageType.{ImageType}
use Rattle.vbm_header.specs.declared.ImageType.TheVariants.{Dynamic, Fixed, Differencing}
use Rattle.vbm_header.specs.Field.{number_at}
use Rattle.vbm_header.specs.Header.{header_of, has_header_size, has_size, has_layout}
use Rattle.vbm_header.specs.Written.{AreNumbers, AreUuids, header_bytes, start, sizes, identifiers, zeros}
use Rattle.vbm_header.proofs.Fields.{number_at-append, number_at-drop}
use Rattle.vbm_header.proofs.Headers.{header_of-take}
use Rattle.vbm_header.proofs.RoundTrip.{header_of-header_bytes}
use Rattle.vbm_volume.specs.Image.{word_of}
use Rattle.vbm_volume.specs.Like.{map_end}
use Rattle.vbm_volume.specs.Made.{new_allocated, IsLaidOut, IsNewHeader, IsMakingHeader, made_front}

pub length-header_bytes : (h : Header) → length (header_bytes h) ≡ 472
unfolding start sizes identifiers
length-header_bytes h = refl

new_allocated-le : (t : ImageType) (n : ℕ) → new_allocated t n ≤ n
new_allocated-le Dynamic n = omega arith
new_allocated-le Fixed n = omega arith
new_allocated-le Differencing n = omega arith

pub new_laid_out : (h : Header) → IsNewHeader h → IsLaidOut h
new_laid_out h new = record {
  cb_header = new.cb_header;
  off_blocks = new.off_blocks;
  off_data = new.off_data;
  sectors = new.sectors;
  some = new.some;
  most = new.most;
  blocks = new.blocks;
  allocated = omega (arith, new.allocated, new_allocated-le h.image_type h.blocks);
  uuids = new.uuids;
  id = new.id;
}

pub making_laid_out : (h : Header) → IsMakingHeader h → IsLaidOut h
making_laid_out h making = record {
  cb_header = making.new.cb_header;
  off_blocks = making.new.off_blocks;
  off_data = making.new.off_data;
  sectors = making.new.sectors;
  some = making.new.some;
  most = making.new.most;
  blocks = making.new.blocks;
  allocated = omega (arith, making.new.allocated);
  uuids = record {
    id = making.new.uuids.id;
    modify = making.new.uuids.modify;
    link = making.new.uuids.link;
    parent_modify = making.new.uuids.parent_modify;
  };
  id = making.new.id;
}

module _ (h : Header) (laid : IsLaidOut h) where
  -- the parts of the file follow one another
  pub enough : (h.capacity ≤ h.blocks * 2 ^ 20) × (h.blocks ≤ 2 ^ 21) × (map_end h ≤ h.off_data) × (h.off_data ≤ map_end h + 2 ^ 20)
  enough = (omega (arith, laid.blocks), omega (arith, laid.blocks, laid.most), omega (arith, laid.off_data), omega (arith, laid.off_data))

  pub length-made_front : length (made_front h) ≡ h.off_blocks
  length-made_front =
      length-append (header_bytes h) (zeros (h.off_blocks - 472))
      ∙ omega (arith, length-header_bytes h, length-replicate {A = ℕ} (h.off_blocks - 472) 0, laid.off_blocks)

  -- a word of a map that follows
  pub front_word : (words rest : List ℕ) (b : ℕ) → length words ≡ 4 * h.blocks → b < h.blocks
      → word_of (made_front h ++ (words ++ rest)) h b ≡ number_at words (4 * b) 4
  front_word words rest b size lt =
      sym (number_at-drop (made_front h ++ (words ++ rest)) h.off_blocks (4 * b) 4)
      ∙ ap (λ xs. number_at xs (4 * b) 4) (drop_at (made_front h) (words ++ rest) h.off_blocks length-made_front)
      ∙ number_at-append words rest (4 * b) 4 (omega (arith, size))

  -- the header is accepted, where the file has a map
  pub front_header : (rest : List ℕ) → map_end h ≤ length (made_front h ++ rest)
      → header_of (made_front h ++ rest) (length (made_front h ++ rest)) ≡ Ok h
  front_header rest long =
      let len = length (made_front h ++ rest) in
      let cb_header = laid.cb_header in
      let off_blocks = laid.off_blocks in
      let sectors = laid.sectors in
      let some = laid.some in
      let most = laid.most in
      let allocated = laid.allocated in
      let header_size : has_header_size h ≡ true = grind (arith, nat_tests) in
      let size : has_size h ≡ true = grind (arith, nat_tests, enough.0, enough.1) in
      let layout : has_layout h len ≡ true = grind (arith, nat_tests, enough.2) in
      let numbers : AreNumbers h = record {
        off_blocks = omega arith;
        off_data = omega (arith, enough);
        capacity = omega arith;
        blocks = omega (arith, enough);
        allocated = omega (arith, enough);
      } in
      sym (header_of-take (made_front h ++ rest) len (omega arith))
      ∙ ap (λ xs. header_of xs len) (take-append-le 456 (made_front h) rest (omega (arith, length-made_front, off_blocks))
      ∙ take-append-le 456 (header_bytes h) (zeros (h.off_blocks - 472)) (omega (arith, length-header_bytes h)))
      ∙ header_of-header_bytes h len (record { cb_header = omega arith; numbers = numbers; uuids = laid.uuids }) (omega arith)
      header_size size layout (ap not laid.id)
