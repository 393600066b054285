-- Changes that fit their files, one change after the other.
use Rattle.std.proofs.Common.{◌≡◌, ◌⊎◌, inl, inr, ℕ, zero, suc, ◌<◌, ◌≤◌, List, [], ◌∷◌, ◌++◌, length, take, replicate, Option, Some, None, refl, sym, ◌∙◌, ap, subst, arith, length-take}
use Rattle.std.proofs.lemmas.Bool.{cases_lt}
use Rattle.std.proofs.lemmas.List.{take_at}
use Rattle.vbm_ports.specs.Files.{Files, bytes_of, put}
use Rattle.vbm_ports.proofs.Puts.{length-put_any}
use Rattle.vbm_intent.specs.declared.change.Change.{Change}
use Rattle.vbm_intent.specs.declared.change.Change.TheVariants.{Write, Fill, Cut, Remove}
use Rattle.vbm_intent.specs.Changes.{name_of, effect, file_after, of_file, changed, start_of, WritesByte, IsAllowed, FitsFile, Fits}
use Rattle.vbm_intent.specs.Record.{IsPlan}
use Rattle.vbm_intent.specs.Partly.{IsKept}
use Rattle.vbm_intent.proofs.Applying.{Has, writes_kept, cases_name, of_file_yes, of_file-append, has_of_file, has_middle, next_allowed}
use Rattle.vbm_intent.proofs.Wholes.{of_file_end}

fits_file_end : (made : List Change) (c : Change) (file : Option (List ℕ)) → FitsFile made file → start_of c ≤ length (bytes_of (file_after made file))
    → FitsFile (made ++ c ∷ []) file
fits_file_end [] c file fits within = (within, tt)
fits_file_end (d ∷ made) c file fits within = (fits.0, fits_file_end made c (effect d file) fits.1 within)

-- one change more, which begins within its file
pub fits_one_more : (made : List Change) (c : Change) (files : Files) → Fits made files → start_of c ≤ length (bytes_of (changed made files (name_of c)))
    → Fits (made ++ c ∷ []) files
fits_one_more made c files fits within name = elim (cases_name (name_of c) name) [
  | inl same ↦
      let there : of_file name (made ++ c ∷ []) ≡ of_file name made ++ c ∷ [] =
      of_file-append name made (c ∷ []) ∙ ap (λ (l : List Change). of_file name made ++ l) (of_file_yes name c [] same.0) in
      subst (λ l. FitsFile l (files name)) (sym there)
      (fits_file_end (of_file name made) c (files name) (fits name)
      (subst (λ n. start_of c ≤ length (bytes_of (changed made files n))) same.1 within))
  | inr other ↦ subst (λ l. FitsFile l (files name)) (sym (of_file_end name c made other.0)) (fits name)
]

-- the first changes, and the file of the next one as they leave it
module _ (done : List Change) (c : Change) (rest cs : List Change) (n : ℕ) where
  pub take_done : cs ≡ done ++ c ∷ rest → length done ≡ n → take n cs ≡ done
  take_done is count = ap (λ (l : List Change). take n l) is ∙ take_at done (c ∷ rest) n count

  pub same_place : (old now : Files) → cs ≡ done ++ c ∷ rest → length done ≡ n → now ≡ old
      → changed (take n cs) now (name_of c) ≡ changed done old (name_of c)
  same_place old now is count same =
      ap (λ (l : List Change). changed l now (name_of c)) (take_done is count)
      ∙ ap (λ (f : Files). changed done f (name_of c)) same

kept_front : (xs ys : List Change) (i : ℕ) → IsKept (xs ++ ys) i → IsKept xs i
kept_front [] ys i kept = tt
kept_front (x ∷ xs) ys i kept = (kept.0, kept_front xs ys i kept.1)

-- The changes of a plan before one that begins behind 0 leave the byte where it begins.
pub kept_before : (done : List Change) (c : Change) (rest cs : List Change) → cs ≡ done ++ c ∷ rest → IsPlan cs → 0 < start_of c
    → IsKept (of_file (name_of c) done) (start_of c)
kept_before done c rest cs is plan some =
    let has : Has cs c = subst (λ l. Has l c) (sym is) (has_middle done c rest) in
    let parts : of_file (name_of c) cs ≡ of_file (name_of c) done ++ of_file (name_of c) (c ∷ rest) =
    ap (λ (l : List Change). of_file (name_of c) l) is ∙ of_file-append (name_of c) done (c ∷ rest) in
    kept_front (of_file (name_of c) done) (of_file (name_of c) (c ∷ rest)) (start_of c)
    (subst (λ l. IsKept l (start_of c)) parts
    (writes_kept (of_file (name_of c) cs) c (start_of c) (plan.apart (name_of c)) (has_of_file cs c has)
    (begins c (next_allowed cs done (c ∷ rest) rest c is refl plan) some)))
  where
    begins : (c : Change) → IsAllowed c → 0 < start_of c → WritesByte c (start_of c)
    begins (Write name at bytes) allowed some = let size = allowed.limits.0 in record { low = omega arith; high = omega arith }
    begins (Fill name at len byte) allowed some = let size = allowed.limits.0 in record { low = omega arith; high = omega arith }
    begins (Cut name len) allowed some = absurd (omega arith)
    begins (Remove name) allowed some = absurd (omega arith)

-- a file that reaches a place still does so after changes that leave it
still_reaches : (cs : List Change) (i : ℕ) (file : Option (List ℕ)) → IsKept cs i → i ≤ length (bytes_of file) → i ≤ length (bytes_of (file_after cs file))
still_reaches [] i file kept reaches = reaches
still_reaches (Write name at bytes ∷ cs) i file kept reaches =
    still_reaches cs i (Some (put at bytes (bytes_of file))) kept.1 (omega (arith, reaches, length-put_any at bytes (bytes_of file)))
still_reaches (Fill name at len byte ∷ cs) i file kept reaches =
    still_reaches cs i (Some (put at (replicate len byte) (bytes_of file))) kept.1
    (omega (arith, reaches, length-put_any at (replicate len byte) (bytes_of file)))
still_reaches (Cut name len ∷ cs) i None kept reaches = still_reaches cs i None kept.1 reaches
still_reaches (Cut name len ∷ cs) i (Some bytes) kept reaches = still_reaches cs i (Some (take len bytes)) kept.1 (within (cases_lt i len))
  where
    within : (i < len) ⊎ (len ≤ i) → i ≤ length (take len bytes)
    within (inl below) = omega (arith, below, reaches, length-take len bytes)
    within (inr above) = absurd (kept.0 above)
still_reaches (Remove name ∷ cs) i file kept reaches = absurd (kept.0 tt)

pub begins_within_still : (cs : List Change) (i : ℕ) (file : Option (List ℕ)) → (0 < i → IsKept cs i) → i ≤ length (bytes_of file)
    → i ≤ length (bytes_of (file_after cs file))
begins_within_still cs zero file kept reaches = omega arith
begins_within_still cs (suc i) file kept reaches = still_reaches cs (suc i) file (kept (omega arith)) reaches
