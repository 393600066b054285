-- Entries that were looked up, and what a write inside one block leaves of those of other blocks.
use Rattle.std.proofs.Common.{◌≡◌, ◌≢◌, inl, inr, ℕ, ◌+◌, ◌*◌, ◌/◌, ◌<◌, ◌≤◌, false, List, [], ◌∷◌, ◌++◌, Option, Some, None, Result, Ok, Err, refl, sym, ◌∙◌, ap, subst, arith}
use Rattle.std.specs.Prelude.{unwrap_or, OnOk}
use Rattle.std.proofs.lemmas.Bool.{cases_Bool}
use Rattle.std.proofs.lemmas.Bool.Decides.{eqb_tells}
use Rattle.std.proofs.Common.{eqb}
use Rattle.vbm_ports.specs.Files.{Files, bytes_of, IsWritten}
use Rattle.vbm_header.specs.declared.Header.{Header}
use Rattle.vbm_volume.specs.Image.{image_of, word_of, data_at}
use Rattle.vbm_volume.specs.Like.{map_end, sector_at}
use Rattle.vbm_volume.specs.Sectors.{sector_count}
use Rattle.vbm_blockmap.specs.declared.entry.Entry.{Entry}
use Rattle.vbm_blockmap.specs.declared.entry.Entry.TheVariants.{At}
use Rattle.vbm_blockmap.specs.Pending.{Staged, position_in}
use Rattle.vbm_image.specs.declared.image.Image.{Image}
use Rattle.vbm_image.specs.Image.{file_in, IsInForm, FitsIn}
use Rattle.vbm_image.specs.Staging.{IsSameImage, StagesEntry, StagesBlock}
use Rattle.vbm_guest.specs.Parts.{is_placed, KeepsEntriesBut}
use Rattle.vbm_guest.specs.declared.runs.RunEntries.{RunEntries}
use Rattle.vbm_guest.specs.RunEntries.{are_placed}
use Rattle.vbm_guest.proofs.ServedSectors.{AreOver, block_within, word_put, data_behind}

pub over_of : (files : Files) (image : Image) → IsInForm image → FitsIn files image → AreOver image.header image.pending.staged (file_in files image)
over_of files image form fits = record { sound = form.header; form = form.staged; accepted = fits.accepted; entries = fits.entries }

-- the block of sectors that the image has
pub block_in : (image : Image) (block k : ℕ) → IsInForm image → block * 2048 + k < sector_count image.header → block < image.header.blocks
block_in image block k form inside =
    let first : block * 2048 < sector_count image.header = omega arith in
    let e : block * 2048 / 2048 ≡ block = omega arith in
    subst (λ (b : ℕ). b < image.header.blocks) e (block_within image.header (block * 2048) form.header first)

-- ---- positions of blocks where one more is staged

pub pushed_here : (staged : Staged) (block at : ℕ) → position_in staged block ≡ None → position_in (staged ++ (block, at) ∷ []) block ≡ Some at
pushed_here [] block at none = elim (eqb_tells block block) [
  | inl same ↦ rw same.0 refl
  | inr apart ↦ absurd (apart.1 refl)
]
pushed_here (s ∷ staged) block at none = elim (cases_Bool (eqb block s.0)) [
  | inl here ↦ let e : Some s.1 ≡ None = sym (rw here refl) ∙ none in absurd cc
  | inr other ↦ rw other (pushed_here staged block at (rw other at none))
]

pub pushed_other : (staged : Staged) (block at b : ℕ) → b ≢ block → position_in (staged ++ (block, at) ∷ []) b ≡ position_in staged b
pushed_other [] block at b differ = elim (eqb_tells b block) [
  | inl same ↦ absurd (differ same.1)
  | inr apart ↦ rw apart.0 refl
]
pushed_other (s ∷ staged) block at b differ = elim (cases_Bool (eqb b s.0)) [
  | inl here ↦ rw here refl
  | inr other ↦ rw other (pushed_other staged block at b differ)
]

-- ---- entries of other blocks

-- bytes put behind the block map leave the word of a block
word_in_put : (name : List ℕ) (h : Header) (at : ℕ) (bytes : List ℕ) (files now : Files) (b : ℕ) → image_of (bytes_of (files name)) ≡ Ok h
    → map_end h ≤ at → b < h.blocks → IsWritten name at bytes files now → word_of (bytes_of (now name)) h b ≡ word_of (bytes_of (files name)) h b
word_in_put name h at bytes files now b e behind inside written =
    ap (λ (file : Option (List ℕ)). word_of (bytes_of file) h b) written.here ∙ word_put h (bytes_of (files name)) bytes at b e behind inside

pub keeps_placed : (tells : Type 0) (files now : Files) (image : Image) (block p first : ℕ) (bytes : List ℕ)
    → (tells → FitsIn files image) → (tells → IsWritten image.name (sector_at image.header p first) bytes files now)
    → KeepsEntriesBut block tells files image now image
keeps_placed tells files now image block p first bytes fits written b e differ inside found = record {
  is = found.is;
  word = λ told.
      let f = file_in files image in
      let accepted = (fits told).accepted in
      let same = word_in_put image.name image.header (sector_at image.header p first) bytes files now b accepted
      (data_behind image.header f p first accepted) inside (written told) in
      found.word told ∙ sym (ap (λ (w : ℕ). unwrap_or (position_in image.pending.staged b) w) same);
  staged = found.staged;
}

pub keeps_staged : (tells : Type 0) (files now : Files) (image new : Image) (block : ℕ) (bytes : List ℕ) → IsSameImage image new
    → StagesEntry image new block → (tells → FitsIn files image) → (tells → StagesBlock image new block bytes files now)
    → KeepsEntriesBut block tells files image now new
keeps_staged tells files now image new block bytes same entry fits stages b e differ inside found =
    let kept : position_in new.pending.staged b ≡ position_in image.pending.staged b =
    ap (λ (s : Staged). position_in s b) entry.staged ∙ pushed_other image.pending.staged block entry.at b differ in
    record {
      is = found.is;
      word = λ told.
          let f = file_in files image in
          let h : Header = image.header in
          let accepted = (fits told).accepted in
          let st = stages told in
          let words : word_of (file_in now image) h b ≡ word_of f h b = word_in_put image.name h (data_at h st.entry.at) bytes files now b accepted
          (let order = data_behind h f st.entry.at 0 accepted in omega arith) inside st.written in
          let file : word_of (file_in now new) new.header b ≡ word_of f h b =
          ap (λ (x : Header). word_of (file_in now new) x b) same.header
          ∙ ap (λ (n : List ℕ). word_of (bytes_of (now n)) h b) same.name ∙ words in
          found.word told
          ∙ sym (ap (λ (o : Option ℕ). unwrap_or o (word_of (file_in now new) new.header b)) kept
          ∙ ap (λ (w : ℕ). unwrap_or (position_in image.pending.staged b) w) file);
      staged = λ p is. found.staged p (sym kept ∙ is);
    }

-- a block of which another entry than a position was found is not staged
pub not_staged : (o : Option ℕ) (e : Entry) → ((p : ℕ) → o ≡ Some p → e ≡ At p) → ((p : ℕ) → e ≡ At p → ⊥) → o ≡ None
not_staged None e staged not = refl
not_staged (Some p) e staged not = absurd (not p (staged p refl))

pub not_placed : (e : Entry) → ((p : ℕ) → e ≡ At p → ⊥) → is_placed e ≡ false
not_placed Rattle.vbm_blockmap.specs.declared.entry.Entry.TheVariants.Free not = refl
not_placed Rattle.vbm_blockmap.specs.declared.entry.Entry.TheVariants.Zero not = refl
not_placed (At p) not = absurd (not p refl)

-- what the disk tells of a result
pub on_ok_told : {A B : Type 0} (tells : Type 0) (P : Type 0) (r : Result A B) → (tells → OnOk r P) → OnOk r (tells → P)
on_ok_told tells P (Ok x) told = told
on_ok_told tells P (Err e) told = tt

-- one of two entries has no position
pub first_placed : (entries : RunEntries) → is_placed entries.first ≡ false → are_placed entries ≡ false
first_placed entries free = rw free refl

pub last_placed : (entries : RunEntries) → is_placed entries.last ≡ false → are_placed entries ≡ false
last_placed entries free = elim (cases_Bool (is_placed entries.first)) [
  | inl placed ↦ rw (placed, free) refl
  | inr other ↦ rw other refl
]
