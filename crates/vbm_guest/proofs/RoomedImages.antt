-- Images of which one got room and marks: they are the same to all who read them.
use Rattle.std.proofs.Common.{◌≡◌, ℕ, ◌+◌, ◌-◌, ◌/◌, ◌≤◌, List, set, slice_get, Some, refl, sym, ap, subst, ◌∙◌, arith}
use Rattle.std.specs.Prelude.{All}
use Rattle.std.proofs.lemmas.Option.{slice_get_within}
use Rattle.vbm_ports.specs.Files.{Files, bytes_of}
use Rattle.vbm_header.specs.declared.Header.{Header}
use Rattle.vbm_intent.specs.Plan.{PlanState}
use Rattle.vbm_blockmap.specs.declared.entry.Entry.{Entry}
use Rattle.vbm_blockmap.specs.Pending.{Staged, position_in}
use Rattle.vbm_image.specs.declared.image.Image.{Image}
use Rattle.vbm_image.specs.Image.{file_in, staged_word, IsInForm, FitsIn}
use Rattle.vbm_guest.specs.declared.runs.RunEntries.{RunEntries}
use Rattle.vbm_guest.specs.Edited.{AreNamedApart, ChangesAt, IsRoomed}
use Rattle.vbm_guest.specs.Parts.{IsEntryAt}
use Rattle.vbm_guest.specs.RunEntries.{AreEntriesOf}
use Rattle.vbm_guest.specs.Memory.{HasRoomFor}
use Rattle.vbm_guest.specs.Flushing.{staged_in}
use Rattle.vbm_guest.proofs.EditedImages.{get-set_same, changes_set, same_image}
use Rattle.vbm_guest.proofs.EditedFiles.{edited_form, edited_fits}
use Rattle.vbm_guest.proofs.StagedCounts.{staged_roomed}

found_roomed : (tells : Type 0) (files : Files) (image new : Image) (b : ℕ) (e : Entry) → IsRoomed image new → IsEntryAt tells files image b e
    → IsEntryAt tells files new b e
found_roomed tells files image new b e same found = record {
  is = found.is;
  word = λ told.
      found.word told
      ∙ sym (ap (λ (h : Header). staged_word (file_in files new) h new.pending.staged b) same.header
      ∙ ap (λ (s : Staged). staged_word (file_in files new) image.header s b) same.staged
      ∙ ap (λ (n : List ℕ). staged_word (bytes_of (files n)) image.header image.pending.staged b) same.name);
  staged = λ p is. found.staged p (sym (ap (λ (s : Staged). position_in s b) same.staged) ∙ is);
}

module _ (images : List Image) (k : ℕ) (image new : Image) (is : slice_get images k ≡ Some image) (same : IsRoomed image new) where
  pub is_roomed : slice_get (set images k new) k ≡ Some new
  is_roomed = get-set_same images k new (slice_get_within images k image is)

  pub roomed_changes : ChangesAt IsRoomed k images (set images k new)
  roomed_changes = changes_set IsRoomed k images image new is same

  pub roomed_form : All IsInForm images → IsInForm new → All IsInForm (set images k new)
  roomed_form = edited_form IsRoomed k images (set images k new) roomed_changes image new is is_roomed

  pub roomed_fits : (files : Files) → AreNamedApart images → All (FitsIn files) images → FitsIn files new → All (FitsIn files) (set images k new)
  roomed_fits files names =
      edited_fits IsRoomed k images (set images k new) roomed_changes image new is is_roomed files files names (λ other differ. refl)

  pub roomed_count : staged_in (set images k new) ≡ staged_in images
  roomed_count = staged_roomed k images (set images k new) image is roomed_changes

  pub roomed_plan : (plan more : PlanState) → HasRoomFor (staged_in images) plan → more.changes ≡ plan.changes → plan.spare ≤ more.spare
      → HasRoomFor (staged_in (set images k new)) more
  roomed_plan plan more room changes spare = record { none = changes ∙ room.none; room = omega (arith, roomed_count, room.room, spare) }

  -- what holds of the image that got room
  pub roomed_this : (P : Image → Type 0) → P new → (x : Image) → slice_get (set images k new) k ≡ Some x → P x
  roomed_this P holds x is_x = subst P (same_image (set images k new) k new x is_roomed is_x) holds

  pub roomed_entries : (tells : Type 0) (files : Files) (lba n : ℕ) (entries : RunEntries) → AreEntriesOf tells files image lba n entries
      → AreEntriesOf tells files new lba n entries
  roomed_entries tells files lba n entries found = record {
    first = found_roomed tells files image new (lba / 2048) entries.first same found.first;
    last = found_roomed tells files image new ((lba + n - 1) / 2048) entries.last same found.last;
  }
