-- Images that are edited, and plans with no changes.
use Rattle.std.proofs.Common.{◌≡◌, ℕ, ◌+◌, ◌≤◌, suc, true, false, not, cond, List, [], ◌∷◌, map, Result, Ok, Err, OnErr, is_ok, refl, sym, ap, ◌∙◌, arith}
use Rattle.std.specs.List.{AllByRecursion, insert}
use Rattle.vbm_ports.specs.Crash.{Only}
use Rattle.vbm_ports.specs.Disk.{DiskState, Passes, OnlyReads}
use Rattle.vbm_ports.specs.Files.{Files}
use Rattle.vbm_ports.proofs.States.{Passes-weaker}
use Rattle.vbm_image.specs.declared.image.Image.{Image}
use Rattle.vbm_image.specs.Image.{image_name, IsInForm}
use Rattle.vbm_intent.specs.declared.change.Change.{Change}
use Rattle.vbm_intent.specs.declared.change.Change.TheVariants.{Write, Fill, Cut, Remove}
use Rattle.vbm_intent.specs.declared.log.Log.{Log}
use Rattle.vbm_intent.specs.Changes.{log_name, changed}
use Rattle.vbm_intent.specs.Log.{IsShutInAll, SameBesidesLog, closed, IsBeforeOrAfter, before}
use Rattle.vbm_intent.specs.Plan.{body_size}
use Rattle.vbm_named.specs.Names.{Name, is_before, put_by}
use Rattle.vbm_named.specs.Places.{place_for}
use Rattle.vbm_named.proofs.Lists.{All-put, All-without}
use Rattle.vbm_registry.specs.declared.library.Library.{Library}
use Rattle.vbm_registry.specs.Named.{named}
use Rattle.vbm_standing.proofs.Redone.{not_open}
use Rattle.vbm_store.specs.declared.store.Store.{Store}
use Rattle.vbm_store.specs.declared.images.Edit.{Edit}
use Rattle.vbm_store.specs.declared.images.Edit.TheVariants as edits
use Rattle.vbm_store.specs.Edits.{IsNewImage, BringsNew, edited, store_after}
use Rattle.vbm_store.specs.Serves.{IsUnstaged, image_files, IsWritable, IsSoundStore}

one_more : (n : ℕ) → 1 + n ≡ suc n
one_more n = omega arith

-- an item in its place is put there
pub put_there : {X : Type 0} (nx : X → Name) (x : X) (xs : List X) → put_by nx x xs ≡ insert xs (place_for nx (nx x) xs) x
unfolding put_by
put_there nx x [] = refl
put_there {X = X} nx x (y ∷ ys) = elim (is_before (nx x) (nx y)) as (λ b.
    cond b (x ∷ y ∷ ys) (y ∷ put_by nx x ys) ≡ insert (y ∷ ys) (cond (not b) (1 + place_for nx (nx x) ys) 0) x) [
      | true ↦ refl
      | false ↦ rw one_more (ap (λ (rest : List X). y ∷ rest) (put_there nx x ys))
    ]

-- an insertion where there is room
pub put_in : {A E X : Type 0} (r : Result A E) (items now put : List X) (len room : ℕ) → now ≡ cond (is_ok r) put items → OnErr r (room ≤ len)
    → len + 1 ≤ room → now ≡ put
put_in (Ok x) items now put len room is full free = is
put_in (Err e) items now put len room is full free = absurd (omega (arith, full, free))

-- what holds of all images, and of a new one, holds of the edited ones
All-edited : (P : Image → Type 0) → ((image : Image) → IsNewImage image → P image) → (edit : Edit) (images : List Image) → BringsNew edit
    → AllByRecursion P images → AllByRecursion P (edited edit images)
All-edited P new edits.Keep images brings all = all
All-edited P new (edits.Unchanged names) images brings all = all
All-edited P new (edits.Put image) images brings all = All-put image_name P image images (new image brings) all
All-edited P new (edits.Remove name) images brings all = All-without image_name P name images all

-- a sound store stays sound
pub sound_after : (e : Store) (library : Library) (edit : Edit) (log : Log) → IsSoundStore e → IsWritable library
    → map image_name (edited edit e.images) ≡ image_files (named library) → BringsNew edit → IsSoundStore (store_after e library edit log)
sound_after e library edit log sound written names brings = record {
  library = written;
  images = names;
  form = All-edited IsInForm (λ image new. new.form) edit e.images brings sound.form;
  unstaged = All-edited IsUnstaged (λ image new. new.unstaged) edit e.images brings sound.unstaged;
}

-- a plan of no bytes has no changes
pub none_of_size : (cs : List Change) → body_size cs ≡ 0 → cs ≡ []
none_of_size [] none = refl
none_of_size (Write name at bytes ∷ cs) none = absurd (omega (arith, none))
none_of_size (Fill name at len byte ∷ cs) none = absurd (omega (arith, none))
none_of_size (Cut name len ∷ cs) none = absurd (omega (arith, none))
none_of_size (Remove name ∷ cs) none = absurd (omega (arith, none))

-- a sync in place of a commit
module _ {tells : Type 0} (told : tells) (old new : DiskState) (reads : OnlyReads tells old new) (cs : List Change) (none : cs ≡ []) where
  pub empty_same : SameBesidesLog new.files (changed cs old.files)
  empty_same name other = ap (λ (f : Files). f name) (reads.files told) ∙ ap (λ (ds : List Change). changed ds old.files name) (sym none)

  pub empty_settled : Only old.files new.may_leave → Only new.files new.may_leave
  empty_settled only image may = only image may ∙ sym (reads.files told)

  pub empty_passes : IsShutInAll old.may_leave → Passes old new (IsBeforeOrAfter cs old.files old.may_leave)
  empty_passes shut = Passes-weaker old new _ _ reads.time (λ image may. before image may (record {
    result = image;
    redo = closed (not_open (image log_name) (shut image may)) refl;
    same = λ name other. refl;
  }))
