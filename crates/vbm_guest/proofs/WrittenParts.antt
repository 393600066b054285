-- The ends of writes inside one block.
use Rattle.std.proofs.Common.{◌≡◌, ◌⊎◌, inl, inr, ℕ, ◌+◌, ◌-◌, ◌*◌, ◌^◌, ◌<◌, ◌≤◌, List, [], ◌∷◌, ◌++◌, length, None, Result, Ok, Err, sym, ◌∙◌, ap, subst, arith, length-append}
use Rattle.std.specs.Prelude.{OnOk, OnErr}
use Rattle.std.proofs.lemmas.Bool.{lt-ltb}
use Rattle.vbm_ports.specs.Files.{Files, bytes_of, put, piece, IsWritten}
use Rattle.vbm_ports.specs.Disk.{DiskState}
use Rattle.vbm_ports.proofs.Puts.{length-put_any}
use Rattle.vbm_header.specs.declared.Header.{Header}
use Rattle.vbm_volume.specs.Image.{data_at}
use Rattle.vbm_volume.specs.Like.{sector_at}
use Rattle.vbm_volume.specs.Sectors.{sector_count}
use Rattle.vbm_volume.specs.Wrote.{sectors_at, Wrote}
use Rattle.vbm_volume.proofs.Pieces.{piece-put, piece-put_other, piece-piece}
use Rattle.vbm_volume.proofs.Writings.{Wrote-weaker}
use Rattle.vbm_blockmap.specs.Pending.{Staged, PendingState, position_in}
use Rattle.vbm_image.specs.declared.image.Image.{Image}
use Rattle.vbm_image.specs.Image.{file_in, staged_word, left_in, IsInForm, FitsIn}
use Rattle.vbm_image.specs.Staging.{IsSameImage, StagesEntry, StagesBlock}
use Rattle.vbm_chain.specs.Settled.{HoldSectors}
use Rattle.vbm_guest.specs.Runs.{in_run, with_run}
use Rattle.vbm_guest.specs.Edited.{TakesAtMost}
use Rattle.vbm_guest.specs.Parts.{ServesRun, ServesCopied}
use Rattle.vbm_guest.proofs.ServedSectors.{AreOver, served, run_in, run_out, cases_run}
use Rattle.vbm_guest.proofs.ServedRuns.{in_place_serves, in_place_covers, stage_serves}
use Rattle.vbm_guest.proofs.FoundEntries.{over_of, block_in, pushed_here, pushed_other}

pub on_both : {A B P R Q : Type 0} (r : Result A B) → (P → R → Q) → OnOk r P → OnOk r R → OnOk r Q
on_both (Ok x) f p q = f p q
on_both (Err e) f p q = tt

-- sectors written in place
module _ (files now : Files) (image : Image) (at block first n : ℕ) (bytes : List ℕ) (form : IsInForm image) (fits : FitsIn files image)
    (low : at < 0xFFFFFFFE) (inside : first + n ≤ 2048) (range : block * 2048 + first + n ≤ sector_count image.header) (some : 0 < n)
    (size : length bytes ≡ n * 512) (here : staged_word (file_in files image) image.header image.pending.staged block ≡ at) where
  pub placed_serves : IsWritten image.name (sector_at image.header at first) bytes files now → FitsIn now image
      → ServesRun files image now image (block * 2048 + first) n bytes
  placed_serves written fits_now below i =
      let f : List ℕ = file_in files image in
      let g : List ℕ = put (sector_at image.header at first) bytes f in
      let file : file_in now image ≡ g = ap bytes_of written.here in
      let over_now : AreOver image.header image.pending.staged g =
      subst (AreOver image.header image.pending.staged) file (over_of now image form fits_now) in
      ap (λ (x : List ℕ). served image.header image.pending.staged x below i) file
      ∙ in_place_serves image.header image.pending.staged f (over_of files image form fits) block first n bytes
      (block_in image block first form (omega arith)) at here (lt-ltb _ _ low) inside size over_now below i range

  -- an image's sectors alone were loosened, done or not
  pub placed_wrote : (old new : DiskState)
      → Wrote image.name image.header (file_in files image) (sectors_at (file_in files image) image.header at first n) old new
      → Wrote image.name image.header (file_in files image) (in_run (block * 2048 + first) n) old new
  placed_wrote old new wrote =
      Wrote-weaker image.name image.header (file_in files image) (sectors_at (file_in files image) image.header at first n)
      (in_run (block * 2048 + first) n) old new
      (in_place_covers image.header image.pending.staged (file_in files image) (over_of files image form fits) block first n bytes
      (block_in image block first form (omega arith)) at here (lt-ltb _ _ low) inside size) wrote

-- a block with sectors over it
pub overlaid : (sector : ℕ → List ℕ) (block first n : ℕ) (bytes buf : List ℕ) → first + n ≤ 2048 → length bytes ≡ n * 512 → length buf ≡ 2 ^ 20
    → HoldSectors sector (block * 2048) 2048 buf
    → (k : ℕ) → k < 2048 → piece (put (first * 512) bytes buf) (k * 512) 512 ≡ with_run (block * 2048 + first) n bytes sector (block * 2048 + k)
overlaid sector block first n bytes buf inside size whole holds k low = elim (cases_run (block * 2048 + first) n (block * 2048 + k)) [
  | inl run ↦
      let from = run.0 in
      let to = run.1 in
      let all : List ℕ = put (first * 512) bytes buf in
      let o : ℕ = (block * 2048 + k - (block * 2048 + first)) * 512 in
      let place : first * 512 + o ≡ k * 512 = omega arith in
      ap (λ (s : ℕ). piece all s 512) (sym place)
      ∙ sym (piece-piece all (first * 512) (length bytes) o 512 (omega arith) (omega (arith, length-put_any (first * 512) bytes buf)))
      ∙ ap (λ xs. piece xs o 512) (piece-put (first * 512) bytes buf)
      ∙ sym (run_in (block * 2048 + first) n bytes sector (block * 2048 + k) from to)
  | inr out ↦
      piece-put_other (first * 512) bytes buf (k * 512) 512 (omega arith) (beside out)
      ∙ holds k low
      ∙ sym (run_out (block * 2048 + first) n bytes sector (block * 2048 + k) out)
]
  where
    beside : (block * 2048 + k < block * 2048 + first) ⊎ (block * 2048 + first + n ≤ block * 2048 + k)
        → (k * 512 + 512 ≤ first * 512) ⊎ (first * 512 + length bytes ≤ k * 512)
    beside (inl before) = inl (omega arith)
    beside (inr behind) = inr (omega arith)

-- a copy that was staged
module _ (files now : Files) (image new : Image) (block first n : ℕ) (bytes buf all : List ℕ) (form : IsInForm image) (fits : FitsIn files image)
    (inside : first + n ≤ 2048) (range : block * 2048 + first + n ≤ sector_count image.header) (some : 0 < n) (size : length bytes ≡ n * 512)
    (whole : length buf ≡ 2 ^ 20) (is : all ≡ put (first * 512) bytes buf) (full : length all ≡ 2 ^ 20)
    (none : position_in image.pending.staged block ≡ None) (same : IsSameImage image new) (form_new : IsInForm new)
    (stages : StagesBlock image new block all files now) (fits_now : FitsIn now new) where
  pub copied_serves : ServesCopied files image now new block (block * 2048 + first) n bytes buf
  copied_serves below holds i =
      let h : Header = image.header in
      let at : ℕ = stages.entry.at in
      let f : List ℕ = file_in files image in
      let g : List ℕ = put (data_at h at) all f in
      let more : Staged = image.pending.staged ++ (block, at) ∷ [] in
      let file : file_in now new ≡ g = ap (λ (m : List ℕ). bytes_of (now m)) same.name ∙ ap bytes_of stages.written.here in
      let over_now : AreOver h more g =
      subst (λ (x : Header). AreOver x more g) same.header
      (subst (λ (s : Staged). AreOver new.header s g) stages.entry.staged
      (subst (λ (x : List ℕ). AreOver new.header new.pending.staged x) file (over_of now new form_new fits_now))) in
      ap (λ (x : Header). served x new.pending.staged (file_in now new) below i) same.header
      ∙ ap (λ (s : Staged). served h s (file_in now new) below i) stages.entry.staged
      ∙ ap (λ (x : List ℕ). served h more x below i) file
      ∙ stage_serves h image.pending.staged f (over_of files image form fits) block at (block_in image block first form (omega arith))
      stages.no_word stages.none_staged stages.entry.low all full over_now (pushed_here image.pending.staged block at none)
      (λ c differ. pushed_other image.pending.staged block at c differ) below first n bytes i inside range
      (λ k low. ap (λ xs. piece xs (k * 512) 512) is
      ∙ overlaid (served h image.pending.staged f below) block first n bytes buf inside size whole holds k low)

-- what is staged of a block, done or not
pub takes_one : {A B : Type 0} (r : Result A B) (image new : Image) (block : ℕ) → IsSameImage image new → OnOk r (StagesEntry image new block)
    → OnErr r (new.pending ≡ image.pending) → image.pending.spare ≤ new.pending.spare + 1 → left_in image.used ≤ left_in new.used + 1
    → TakesAtMost 1 image new
takes_one (Ok x) image new block same entry stay spare left = record {
  stages = record {
    name = same.name;
    header = same.header;
    staged = omega (arith, ap length entry.staged, length-append image.pending.staged ((block, entry.at) ∷ []));
  };
  spare = spare;
  left = left;
}
takes_one (Err e) image new block same entry stay spare left = record {
  stages = record { name = same.name; header = same.header; staged = omega (arith, ap (λ (p : PendingState). length p.staged) stay) };
  spare = spare;
  left = left;
}
