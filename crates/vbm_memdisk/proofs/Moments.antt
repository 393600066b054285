-- How the state of a disk in memory goes on.
use Rattle.std.proofs.Common.{◌≡◌, ◌≤◌, inl, inr, ⊎_elim, ℕ, ◌<◌, ◌^◌, List, ◌∷◌, length, length-take, take, Option, Some, None, IfSome, refl, sym, ◌∙◌, ap, subst, arith}
use Rattle.std.proofs.lemmas.List.{take_all}
use Rattle.std.specs.Option.{option_map}
use Rattle.vbm_ports.specs.Files.{Files, bytes_of, put, Sets}
use Rattle.vbm_ports.specs.Crash.{WriteLeaves, Follows, Only}
use Rattle.vbm_ports.specs.Disk.{Passes, OnlyReads}
use Rattle.vbm_memdisk.specs.Folders.{wrote}
use Rattle.vbm_memdisk.specs.Events.{Images, LeftSince, Leaves}
use Rattle.vbm_memdisk.specs.Past.{Past, with_event, files_now, state_of, AddsWrite}
use Rattle.vbm_memdisk.specs.declared.events.Event.{Event}
use Rattle.vbm_memdisk.specs.declared.events.Event.TheVariants.{Wrote, Synced}
use Rattle.vbm_memdisk.specs.Laws.{read_image, with_sets, wrote_some, write_leaves, wrote_torn}
use Rattle.vbm_ports.specs.declared.disk.TheConstants.{LONGEST_FILE}

-- no event came
pub same_passes : (old new : Past) (calls faults calls' faults' : ℕ) (P : Files → Type 0) → new ≡ old → Passes (state_of old calls faults) (state_of new calls' faults') P
same_passes old new calls faults calls' faults' P same =
    subst (λ (p : Past). Passes (state_of old calls faults) (state_of p calls' faults') P) (sym same)
    (record { later = omega arith; only = λ time image le left. inl left; keeps = λ time image le left. left })

-- one event came
pub event_passes : (old new : Past) (event : Event) (calls faults calls' faults' : ℕ) → new ≡ with_event event old
    → Passes (state_of old calls faults) (state_of new calls' faults') (Images new.first new.events)
event_passes old new event calls faults calls' faults' more =
    subst (λ (p : Past). Passes (state_of old calls faults) (state_of p calls' faults') (Images p.first p.events)) (sym more)
    (record {
      later = omega arith;
      only = λ time image le left. ⊎_elim
          (λ (now : Images old.first (event ∷ old.events) image). inr now)
          (λ (before : (time ≤ length old.events) × LeftSince old.first old.events time image). inl before.1) left;
      keeps = λ time image le left. inr (le, left);
    })

-- the images of before stay as they are
pub same_follows : (step : Files → Files → Type 0) → ((image : Files) → step image image) → (old new : Past) → new ≡ old
    → Follows step (Images old.first old.events) (Images new.first new.events)
same_follows step stays old new same =
    subst (λ (p : Past). Follows step (Images old.first old.events) (Images p.first p.events)) (sym same) (λ image now. (image, now, stays image))

-- or each changes by the event
pub event_follows : (old new : Past) (event : Event) → new ≡ with_event event old
    → Follows (Leaves event (files_now old)) (Images old.first old.events) (Images new.first new.events)
event_follows old new event more =
    subst (λ (p : Past). Follows (Leaves event (files_now old)) (Images old.first old.events) (Images p.first p.events)) (sym more)
    (λ image now. now)

-- a sync settles
pub sync_settles : (old new : Past) → new ≡ with_event Synced old → Only (files_now old) (Images new.first new.events)
sync_settles old new more = subst (λ (p : Past). Only (files_now old) (Images p.first p.events)) (sym more) (λ image now. now.2)

-- nothing but counts changed
pub same_reads : (old new : Past) (calls faults calls' faults' : ℕ) → new ≡ old → calls ≤ calls' → faults ≤ faults'
    → OnlyReads (Unit {0}) (state_of old calls faults) (state_of new calls' faults')
same_reads old new calls faults calls' faults' same more_calls more_faults = record {
  files = λ told. ap (λ (p : Past). files_now p) same;
  images = λ image now. subst (λ (p : Past). Images p.first p.events image) same now;
  time = same_passes old new calls faults calls' faults' (Images old.first old.events) same;
  calls = more_calls;
  faults = more_faults;
}

-- a sync changes no file, and leaves fewer images
pub sync_reads : (old new : Past) (calls faults calls' faults' : ℕ) → new ≡ with_event Synced old → calls ≤ calls' → faults ≤ faults'
    → OnlyReads (Unit {0}) (state_of old calls faults) (state_of new calls' faults')
sync_reads old new calls faults calls' faults' more more_calls more_faults =
    subst (λ (p : Past). OnlyReads (Unit {0}) (state_of old calls faults) (state_of p calls' faults')) (sym more)
    (record {
      files = λ told. refl;
      images = λ image now. fewer image now;
      time = record {
        later = omega arith;
        only = λ time image le left. ⊎_elim
            (λ (now : Images old.first (Synced ∷ old.events) image). inr (fewer image now))
            (λ (before : (time ≤ length old.events) × LeftSince old.first old.events time image). inl before.1) left;
        keeps = λ time image le left. inr (le, left);
      };
      calls = more_calls;
      faults = more_faults;
    }) where
      fewer : (image : Files) → Images old.first (Synced ∷ old.events) image → Images old.first old.events image
      fewer image now = subst (λ (j : Files). Images old.first old.events j) (sym now.2) (read_image old.first old.events)

-- the files after a write
pub write_sets : (name : List ℕ) (at : ℕ) (bytes : List ℕ) (kept : ℕ) (old new : Past) → AddsWrite name at bytes kept old new
    → Sets name (wrote at (take kept bytes) (files_now old name)) (files_now old) (files_now new)
write_sets name at bytes kept old new it =
    subst (λ (p : Past). Sets name (wrote at (take kept bytes) (files_now old name)) (files_now old) (files_now p)) (sym it.now)
    (subst (λ (n : List ℕ). Sets n (wrote at (take kept bytes) (files_now old n)) (files_now old) (files_now (with_event (Wrote it.write) old))) it.named
    (subst (λ (a : ℕ). Sets it.write.name (wrote a (take kept bytes) (files_now old it.write.name)) (files_now old) (files_now (with_event (Wrote it.write) old))) it.place
    (subst (λ (l : List ℕ). Sets it.write.name (wrote it.write.at (take kept l) (files_now old it.write.name)) (files_now old) (files_now (with_event (Wrote it.write) old))) it.content
    (subst (λ (k : ℕ). Sets it.write.name (wrote it.write.at (take k it.write.bytes) (files_now old it.write.name)) (files_now old) (files_now (with_event (Wrote it.write) old))) it.part
    (with_sets it.write.name (wrote it.write.at (take it.write.kept it.write.bytes) (files_now old it.write.name)) (files_now old))))))

-- the files after a whole write of some bytes
pub whole_write_sets : (name : List ℕ) (at : ℕ) (bytes : List ℕ) (old new : Past) → 0 < length bytes → AddsWrite name at bytes (length bytes) old new
    → Sets name (Some (put at bytes (bytes_of (files_now old name)))) (files_now old) (files_now new)
whole_write_sets name at bytes old new some it =
    subst (λ (o : Option (List ℕ)). Sets name o (files_now old) (files_now new))
    (ap (λ (l : List ℕ). wrote at l (files_now old name)) (take_all (length bytes) bytes (omega arith)) ∙ wrote_some at bytes (files_now old name) some)
    (write_sets name at bytes (length bytes) old new it)

-- what a write leaves of an image
pub write_follows : (name : List ℕ) (at : ℕ) (bytes : List ℕ) (kept : ℕ) (old new : Past) → AddsWrite name at bytes kept old new
    → Follows (WriteLeaves name at (length bytes) (files_now old)) (Images old.first old.events) (Images new.first new.events)
write_follows name at bytes kept old new it =
    subst (λ (n : List ℕ). Follows (WriteLeaves n at (length bytes) (files_now old)) (Images old.first old.events) (Images new.first new.events)) it.named
    (subst (λ (a : ℕ). Follows (WriteLeaves it.write.name a (length bytes) (files_now old)) (Images old.first old.events) (Images new.first new.events)) it.place
    (subst (λ (l : List ℕ). Follows (WriteLeaves it.write.name it.write.at (length l) (files_now old)) (Images old.first old.events) (Images new.first new.events)) it.content
    (event_follows old new (Wrote it.write) it.now)))

-- what a write leaves of the files
pub write_leaves_files : (name : List ℕ) (at : ℕ) (bytes : List ℕ) (kept : ℕ) (old new : Past) → AddsWrite name at bytes kept old new
    → WriteLeaves name at (length bytes) (files_now old) (files_now old) (files_now new)
write_leaves_files name at bytes kept old new it =
    subst (λ (p : Past). WriteLeaves name at (length bytes) (files_now old) (files_now old) (files_now p)) (sym it.now)
    (subst (λ (n : List ℕ). WriteLeaves n at (length bytes) (files_now old) (files_now old) (files_now (with_event (Wrote it.write) old))) it.named
    (subst (λ (a : ℕ). WriteLeaves it.write.name a (length bytes) (files_now old) (files_now old) (files_now (with_event (Wrote it.write) old))) it.place
    (subst (λ (l : List ℕ). WriteLeaves it.write.name it.write.at (length l) (files_now old) (files_now old) (files_now (with_event (Wrote it.write) old))) it.content
    (write_leaves it.write.name it.write.at (length it.write.bytes) (files_now old) (files_now old) (wrote it.write.at (take it.write.kept it.write.bytes) (files_now old it.write.name))
    (wrote_torn it.write.at (length it.write.bytes) (take it.write.kept it.write.bytes) (files_now old it.write.name) (files_now old it.write.name) (omega (arith, length-take it.write.kept it.write.bytes)))))))

-- the length of a short file
pub short_length : (file : Option (List ℕ)) → length (bytes_of file) ≤ LONGEST_FILE → IfSome (option_map length file) (λ n. n ≤ LONGEST_FILE)
short_length None short = tt
short_length (Some bytes) short = short
