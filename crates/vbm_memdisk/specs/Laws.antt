-- A disk in memory keeps the laws of a disk: what is read is an image, and no file is longer than LONGEST_FILE bytes.
use Rattle.std.specs.Prelude.{◌≡◌, ◌≢◌, ℕ, ◌+◌, ◌-◌, ◌^◌, ◌<◌, ◌≤◌, List, [], ◌∷◌, ◌++◌, length, take, drop, replicate, max, Bool, true, false, cond, Option, Some, None, refl}
use Rattle.std.specs.Str.{bytes_eq}
use Rattle.std.proofs.Common.{inl, inr, ⊎_elim, sym, ◌∙◌, ap, subst, arith, get_or, length-append, length-take, length-drop}
use Rattle.std.proofs.lemmas.Bool.{cases_Bool}
use Rattle.std.proofs.lemmas.List.{take_all, length-replicate, get_or_append_left, get_or-append_right, get_or-take, get_or-drop}
use Rattle.std.proofs.lemmas.Slice.Eq.{bytes_eq-Decides}
use Rattle.vbm_ports.specs.Files.{Files, bytes_of, put, cut_to, Sets}
use Rattle.vbm_ports.specs.Crash.{TornFile, WriteLeaves, CutFile, CutLeaves}
use Rattle.vbm_ports.specs.Disk.{IsCoherent}
use Rattle.vbm_memdisk.specs.Folders.{with_file, wrote}
use Rattle.vbm_memdisk.specs.Events.{after_event, files_after, Images, LeftSince}
use Rattle.vbm_memdisk.specs.Past.{Past}
use Rattle.vbm_memdisk.specs.MemDisk.{past_of, memory_state}
use Rattle.vbm_memdisk.specs.declared.disk.MemDisk.{MemDisk}
use Rattle.vbm_memdisk.specs.declared.events.Write.{Write}
use Rattle.vbm_memdisk.specs.declared.events.Event.{Event}
use Rattle.vbm_memdisk.specs.declared.events.Event.TheVariants.{Wrote, Cut, Removed, Synced, Put}
use Rattle.vbm_ports.specs.declared.disk.TheConstants.{LONGEST_FILE}

-- what stands where after bytes are put at a place
module _ (at : ℕ) (bytes old : List ℕ) where
  length-padded : length (take at old ++ replicate (at - length old) 0) ≡ at
  length-padded = omega (arith, length-append (take at old) (replicate (at - length old) 0), length-take at old, length-replicate {A = ℕ} (at - length old) 0)

  length-middle : length ((take at old ++ replicate (at - length old) 0) ++ bytes) ≡ at + length bytes
  length-middle = omega (arith, length-padded, length-append (take at old ++ replicate (at - length old) 0) bytes)

  pub length-put : length (put at bytes old) ≡ max (length old) (at + length bytes)
  length-put = omega (arith, length-append ((take at old ++ replicate (at - length old) 0) ++ bytes) (drop (at + length bytes) old), length-middle, length-drop (at + length bytes) old)

  pub put_before : (i : ℕ) → i < at → i < length old → get_or (put at bytes old) i 0 ≡ get_or old i 0
  put_before i h within =
      let near : i < length (take at old) = omega (arith, length-take at old) in
      get_or_append_left ((take at old ++ replicate (at - length old) 0) ++ bytes) (drop (at + length bytes) old) 0 i (omega (arith, length-middle))
      ∙ get_or_append_left (take at old ++ replicate (at - length old) 0) bytes 0 i (omega (arith, length-padded))
      ∙ get_or_append_left (take at old) (replicate (at - length old) 0) 0 i near
      ∙ get_or-take at old i 0 h

  pub put_after : (i : ℕ) → at + length bytes ≤ i → get_or (put at bytes old) i 0 ≡ get_or old i 0
  put_after i h =
      let back : at + length bytes + (i - (at + length bytes)) ≡ i = omega arith in
      get_or-append_right ((take at old ++ replicate (at - length old) 0) ++ bytes) (drop (at + length bytes) old) (at + length bytes) i 0 length-middle h
      ∙ get_or-drop (at + length bytes) old (i - (at + length bytes)) 0
      ∙ ap (λ (k : ℕ). get_or old k 0) back

-- a file is set to what it was
pub with_same : (name : List ℕ) (value : Option (List ℕ)) (files : Files) → files name ≡ value → with_file name value files ≡ files
with_same name value files same = λ k other.
    ⊎_elim
    (λ is. ap (λ (b : Bool). cond b value (files other)) is ∙ sym same ∙ ap (λ (m : List ℕ). files m) ((bytes_eq-Decides name other).0 is))
    (λ differs. ap (λ (b : Bool). cond b value (files other)) differs)
    (cases_Bool (bytes_eq name other)) k

-- what a name was set to
pub with_here : (name : List ℕ) (value : Option (List ℕ)) (files : Files) → with_file name value files name ≡ value
with_here name value files = ap (λ (b : Bool). cond b value (files name)) ((bytes_eq-Decides name name).1 refl)

pub with_others : (name : List ℕ) (value : Option (List ℕ)) (files : Files) (other : List ℕ) → other ≢ name → with_file name value files other ≡ files other
with_others name value files other differs = ⊎_elim
    (λ is. absurd (differs (sym ((bytes_eq-Decides name other).0 is))))
    (λ (no : bytes_eq name other ≡ false). ap (λ (b : Bool). cond b value (files other)) no)
    (cases_Bool (bytes_eq name other))

pub with_sets : (name : List ℕ) (value : Option (List ℕ)) (files : Files) → Sets name value files (with_file name value files)
with_sets name value files = record { here = with_here name value files; others = with_others name value files }

-- bytes that are some are put
pub wrote_some : (at : ℕ) (bytes : List ℕ) (old : Option (List ℕ)) → 0 < length bytes → wrote at bytes old ≡ Some (put at bytes (bytes_of old))
wrote_some at [] old some = absurd (omega arith)
wrote_some at (byte ∷ bytes) None some = refl
wrote_some at (byte ∷ bytes) (Some old) some = refl

-- a write that keeps a part of its bytes is torn
pub wrote_torn : (at n : ℕ) (kept : List ℕ) (file old : Option (List ℕ)) → length kept ≤ n → TornFile at n file old (wrote at kept old)
wrote_torn at n [] None None part = tt
wrote_torn at n [] (Some file) None part = tt
wrote_torn at n [] None (Some old) part = omega arith
wrote_torn at n [] (Some file) (Some old) part = record {
  no_shorter = omega arith;
  no_longer = omega arith;
  before = λ i within low h. refl;
  after = λ i within high. refl;
}
wrote_torn at n (byte ∷ bytes) None None part = omega (arith, length-put at (byte ∷ bytes) [])
wrote_torn at n (byte ∷ bytes) (Some file) None part = omega (arith, length-put at (byte ∷ bytes) [])
wrote_torn at n (byte ∷ bytes) None (Some old) part = omega (arith, length-put at (byte ∷ bytes) old)
wrote_torn at n (byte ∷ bytes) (Some file) (Some old) part = record {
  no_shorter = omega (arith, length-put at (byte ∷ bytes) old);
  no_longer = omega (arith, length-put at (byte ∷ bytes) old);
  before = λ i within low h. put_before at (byte ∷ bytes) old i low within;
  after = λ i within high. put_after at (byte ∷ bytes) old i (omega arith);
}

pub write_leaves : (name : List ℕ) (at n : ℕ) (files old : Files) (value : Option (List ℕ)) → TornFile at n (files name) (old name) value
    → WriteLeaves name at n files old (with_file name value old)
write_leaves name at n files old value torn = record {
  here = subst (λ (o : Option (List ℕ)). TornFile at n (files name) (old name) o) (sym (with_here name value old)) torn;
  others = with_others name value old;
}

-- a file that is no longer stays
pub cut_idle : (len : ℕ) (file : Option (List ℕ)) → length (bytes_of file) ≤ len → cut_to len file ≡ file
cut_idle len None short = refl
cut_idle len (Some file) short = ap (λ (l : List ℕ). Some l) (take_all len file short)

pub cut_kept : (len : ℕ) (file : Option (List ℕ)) → CutFile len file (cut_to len file)
cut_kept len None = refl
cut_kept len (Some file) = record {
  no_shorter = omega (arith, length-take len file);
  no_longer = omega (arith, length-take len file);
  below = λ i near h. get_or-take len file i 0 near;
}

pub cut_leaves : (name : List ℕ) (len : ℕ) (files old : Files) → length (bytes_of (old name)) ≡ length (bytes_of (files name))
    → CutLeaves name len files old (with_file name (cut_to len (old name)) old)
cut_leaves name len files old level = record {
  idle = λ short. with_same name (cut_to len (old name)) old (sym (cut_idle len (old name) (omega arith)));
  here = subst (λ (o : Option (List ℕ)). CutFile len (old name) o) (sym (with_here name (cut_to len (old name)) old)) (cut_kept len (old name));
  others = with_others name (cut_to len (old name)) old;
}

-- what is read is an image
pub read_image : (first : Files) (events : List Event) → Images first events (files_after first events)
read_image first [] = refl
read_image first (Wrote write ∷ earlier) =
    let now : Files = files_after first earlier in (
      now,
      read_image first earlier,
      write_leaves write.name write.at (length write.bytes) now now (wrote write.at (take write.kept write.bytes) (now write.name))
          (wrote_torn write.at (length write.bytes) (take write.kept write.bytes) (now write.name) (now write.name) (omega (arith, length-take write.kept write.bytes))),
    )
read_image first (Cut name len ∷ earlier) = (files_after first earlier, read_image first earlier, cut_leaves name len (files_after first earlier) (files_after first earlier) refl)
read_image first (Removed name ∷ earlier) = (files_after first earlier, read_image first earlier, inr (with_sets name None (files_after first earlier)))
read_image first (Synced ∷ earlier) = (files_after first earlier, read_image first earlier, refl)
read_image first (Put file ∷ earlier) = (files_after first earlier, read_image first earlier, with_sets file.name (Some file.bytes) (files_after first earlier))

-- since the last of the events there is what may be left now
pub only_since : (first : Files) (events : List Event) (image : Files) → LeftSince first events (length events) image → Images first events image
only_since first [] image left = left
only_since first (event ∷ earlier) image (inl now) = now
only_since first (event ∷ earlier) image (inr before) = absurd (let late = before.0 in omega arith)

pub now_since : (first : Files) (events : List Event) (time : ℕ) (image : Files) → Images first events image → LeftSince first events time image
now_since first [] time image now = now
now_since first (event ∷ earlier) time image now = inl now

pub short_choice : (b : Bool) (x y : Option (List ℕ)) → length (bytes_of x) ≤ LONGEST_FILE → length (bytes_of y) ≤ LONGEST_FILE → length (bytes_of (cond b x y)) ≤ LONGEST_FILE
short_choice true x y first second = first
short_choice false x y first second = second

wrote_short : (write : Write) (old : Option (List ℕ)) → length (bytes_of old) ≤ LONGEST_FILE → length (bytes_of (wrote write.at (take write.kept write.bytes) old)) ≤ LONGEST_FILE
wrote_short write old short = bounded (take write.kept write.bytes) (omega (arith, length-take write.kept write.bytes)) where
  bounded : (kept : List ℕ) → length kept ≤ length write.bytes → length (bytes_of (wrote write.at kept old)) ≤ LONGEST_FILE
  bounded [] part = short
  bounded (byte ∷ bytes) part =
      let grown : length (bytes_of (wrote write.at (byte ∷ bytes) old)) ≡ length (put write.at (byte ∷ bytes) (bytes_of old)) = ap (λ (o : Option (List ℕ)). length (bytes_of o)) (wrote_some write.at (byte ∷ bytes) old (omega arith)) in
      let all : length (put write.at (byte ∷ bytes) (bytes_of old)) ≡ max (length (bytes_of old)) (write.at + length (byte ∷ bytes)) = length-put write.at (byte ∷ bytes) (bytes_of old) in
      let end : write.at + length write.bytes ≤ LONGEST_FILE = write.end in
      omega arith

cut_short : (len : ℕ) (old : Option (List ℕ)) → length (bytes_of old) ≤ LONGEST_FILE → length (bytes_of (cut_to len old)) ≤ LONGEST_FILE
cut_short len None short = short
cut_short len (Some old) short = omega (arith, short, length-take len old)

-- no event makes a file longer than LONGEST_FILE bytes
pub after_short : (event : Event) (files : Files) → ((name : List ℕ) → length (bytes_of (files name)) ≤ LONGEST_FILE) → (name : List ℕ) → length (bytes_of (after_event event files name)) ≤ LONGEST_FILE
after_short (Wrote write) files short name = short_choice (bytes_eq write.name name) (wrote write.at (take write.kept write.bytes) (files write.name)) (files name) (wrote_short write (files write.name) (short write.name)) (short name)
after_short (Cut cut len) files short name = short_choice (bytes_eq cut name) (cut_to len (files cut)) (files name) (cut_short len (files cut) (short cut)) (short name)
after_short (Removed removed) files short name = short_choice (bytes_eq removed name) None (files name) (omega arith) (short name)
after_short Synced files short name = short name
after_short (Put file) files short name = short_choice (bytes_eq file.name name) (Some file.bytes) (files name) file.short (short name)

pub files_after_short : (first : Files) (events : List Event) → ((name : List ℕ) → length (bytes_of (first name)) ≤ LONGEST_FILE) → (name : List ℕ) → length (bytes_of (files_after first events name)) ≤ LONGEST_FILE
files_after_short first [] short = short
files_after_short first (event ∷ earlier) short = after_short event (files_after first earlier) (files_after_short first earlier short)

-- the laws
pub coherent_disk : (disk : MemDisk) → IsCoherent (Unit {0}) (memory_state disk)
coherent_disk disk =
    let past : Past = past_of disk in
    record {
      read_is_image = λ told. read_image past.first past.events;
      counts_now = λ time image le now. now_since past.first past.events time image now;
      only_now = λ image left. only_since past.first past.events image left;
      short = λ told. files_after_short past.first past.events disk.history.short;
    }
