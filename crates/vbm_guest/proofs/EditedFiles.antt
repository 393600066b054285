-- What is known of images, of which one is edited while its file is written.
use Rattle.std.proofs.Common.{◌≡◌, ◌≢◌, ℕ, ◌+◌, ◌*◌, Bool, List, slice_get, Some, sym, ap, subst, ◌∙◌}
use Rattle.std.specs.Prelude.{All}
use Rattle.vbm_ports.specs.Files.{Files, bytes_of}
use Rattle.vbm_ports.specs.Crash.{Through}
use Rattle.vbm_ports.specs.Disk.{DiskState, OnlyReads}
use Rattle.vbm_ports.proofs.States.{Passes-trans}
use Rattle.vbm_header.specs.declared.Header.{Header}
use Rattle.vbm_volume.specs.Chain.{Link, sector_down, chain_sector}
use Rattle.vbm_volume.specs.Wrote.{Loosens, Wrote}
use Rattle.vbm_volume.proofs.Writings.{Loosens-refl}
use Rattle.vbm_blockmap.specs.declared.entry.Entry.{Entry}
use Rattle.vbm_image.specs.declared.image.Image.{Image}
use Rattle.vbm_image.specs.Image.{file_in, staged_word, IsInForm, FitsIn, FitsOver}
use Rattle.vbm_chain.specs.Settled.{settled_links, HoldSectors}
use Rattle.vbm_chain.proofs.ResolvedSectors.{at_item}
use Rattle.vbm_guest.specs.Runs.{last_of, EndsOnce, ReplacesRun, KeepsOtherChains}
use Rattle.vbm_guest.specs.Edited.{AreNamedApart, ChangesAt}
use Rattle.vbm_guest.specs.Parts.{IsEntryAt, KeepsEntriesBut, KeepsEntriesIn, ServesRun, ServesCopied}
use Rattle.vbm_guest.proofs.EditedImages.{changes_all, same_image}
use Rattle.vbm_guest.proofs.EditedChains.{below_last, down_of, keeps_others, replaces_of}

-- a stretch that only read before it wrote
pub reads_then : (tells : Type 0) (name : List ℕ) (h : Header) (sectors : ℕ → Bool) (old mid new : DiskState) → tells → OnlyReads tells old mid
    → Wrote name h (bytes_of (mid.files name)) sectors mid new → Wrote name h (bytes_of (old.files name)) sectors old new
reads_then tells name h sectors old mid new told reads wrote =
    let f : List ℕ = bytes_of (old.files name) in
    let same : Wrote name h f sectors mid new =
    subst (λ (x : Files). Wrote name h (bytes_of (x name)) sectors mid new) (reads.files told) wrote in
    record {
      files = subst (λ (x : Files). Loosens name h f sectors x new.files) (reads.files told) same.files;
      images = λ image may. let from = same.images image may in (from.0, reads.images from.0 from.1, from.2);
      time = Passes-trans old mid new old.may_leave (Through (Loosens name h f sectors) mid.may_leave)
          (Through (Loosens name h f sectors) old.may_leave) reads.time same.time
          (λ image may. (image, may, Loosens-refl name h f sectors image)) (λ image from. (from.0, reads.images from.0 from.1, from.2));
    }

-- an entry that was looked up, after more was read
pub found_after : (tells : Type 0) (files now : Files) (image : Image) (b : ℕ) (e : Entry) → (tells → now ≡ files)
    → IsEntryAt tells files image b e → IsEntryAt tells now image b e
found_after tells files now image b e same found = record {
  is = found.is;
  word = λ told.
      found.word told ∙ sym (ap (λ (x : Files). staged_word (file_in x image) image.header image.pending.staged b) (same told));
  staged = found.staged;
}

module _ (P : Image → Image → Type 0) (at : ℕ) (images others : List Image) (changes : ChangesAt P at images others) (image new : Image)
    (is_old : slice_get images at ≡ Some image) (is_new : slice_get others at ≡ Some new) where
  pub edited_form : All IsInForm images → IsInForm new → All IsInForm others
  edited_form form here = changes_all P at images others changes IsInForm (λ k x differ is. at_item IsInForm images k x form is)
      (λ x is. subst IsInForm (same_image others at new x is_new is) here)

  pub edited_entries : (tells : Type 0) (files now : Files) (block : ℕ) → KeepsEntriesBut block tells files image now new
      → KeepsEntriesIn at block tells files images now others
  edited_entries tells files now block keeps old other is_x is_y =
      subst (λ (x : Image). KeepsEntriesBut block tells files x now other) (same_image images at image old is_old is_x)
      (subst (λ (x : Image). KeepsEntriesBut block tells files image now x) (same_image others at new other is_new is_y) keeps)

  -- where the files of all other images are as before
  module _ (files now : Files) (names : AreNamedApart images) (kept : (other : List ℕ) → other ≢ image.name → now other ≡ files other) where
    file_kept : (k : ℕ) (x : Image) → k ≢ at → slice_get images k ≡ Some x → file_in now x ≡ file_in files x
    file_kept k x differ is = ap bytes_of (kept x.name (names k at x image is is_old differ))

    pub edited_fits : All (FitsIn files) images → FitsIn now new → All (FitsIn now) others
    edited_fits fits here = changes_all P at images others changes (FitsIn now)
        (λ k x differ is.
        subst (FitsOver x.header x.pending.staged x.used) (sym (file_kept k x differ is)) (at_item (FitsIn files) images k x fits is))
        (λ x is. subst (FitsIn now) (same_image others at new x is_new is) here)

    pub edited_others : KeepsOtherChains at files images now others
    edited_others = keeps_others P at images others changes files now file_kept

    module _ (chain : List ℕ) (ends : EndsOnce chain) (is : at ≡ last_of chain) (lba n : ℕ) (bytes : List ℕ) where
      pub edited_run : ServesRun files image now new lba n bytes → ReplacesRun chain files images now others lba n bytes
      edited_run serves = replaces_of P at images others changes files now file_kept chain lba n bytes image new ends is is_old is_new
          (serves (settled_links files images (below_last chain)))

      pub edited_copy : (block : ℕ) (buf : List ℕ) → HoldSectors (chain_sector (settled_links files images chain)) (block * 2048) 2048 buf
          → ServesCopied files image now new block lba n bytes buf → ReplacesRun chain files images now others lba n bytes
      edited_copy block buf holds serves =
          replaces_of P at images others changes files now file_kept chain lba n bytes image new ends is is_old is_new
          (serves (settled_links files images (below_last chain))
          (λ k low. holds k low
          ∙ ap (λ (links : List Link). sector_down links (block * 2048 + k))
          (down_of files images chain image ends (ap (slice_get images) (sym is) ∙ is_old))))
