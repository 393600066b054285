-- What a crash leaves: the picked images are among the images.
use Rattle.std.proofs.Common.{◌≡◌, inl, inr, ℕ, ◌+◌, ◌^◌, ◌≤◌, List, [], ◌∷◌, length, length-take, min, take, Bool, true, false, cond, Option, Some, None, refl, sym, ◌∙◌, ap, subst, arith}
use Rattle.std.specs.Option.{option_map}
use Rattle.std.specs.Str.{bytes_eq}
use Rattle.vbm_ports.specs.Files.{Files, bytes_of, cut_to}
use Rattle.vbm_ports.specs.Crash.{TornFile, TornBytes, WriteLeaves, CutFile, CutLeaves}
use Rattle.vbm_memdisk.specs.Folders.{wrote, filled, smeared}
use Rattle.vbm_memdisk.specs.Events.{after_event, settled, with_byte, effect_of, files_after, since_sync, Images}
use Rattle.vbm_memdisk.specs.declared.events.Pick.{Pick}
use Rattle.vbm_memdisk.specs.declared.events.Pick.TheVariants.{Old, New, Byte}
use Rattle.vbm_memdisk.specs.declared.events.Event.{Event}
use Rattle.vbm_memdisk.specs.declared.events.Event.TheVariants.{Wrote, Cut, Removed, Synced, Put}
use Rattle.vbm_memdisk.specs.Laws.{length-put, wrote_torn, write_leaves, cut_leaves, read_image, short_choice, files_after_short, with_sets, wrote_some}
use Rattle.vbm_memdisk.proofs.ByteLists.{length-filled, filled_before, filled_after}
use Rattle.vbm_ports.specs.declared.disk.TheConstants.{LONGEST_FILE}

filled_torn : (at n byte : ℕ) (file old new : List ℕ) → TornBytes at n file old new → TornBytes at n file old (filled (min at (length old)) (at + n) byte new)
filled_torn at n byte file old new torn =
    let order : min at (length old) ≤ at + n = omega arith in
    let same : length (filled (min at (length old)) (at + n) byte new) ≡ length new = length-filled (min at (length old)) (at + n) byte new order in
    record {
      no_shorter = omega (arith, torn.no_shorter, same);
      no_longer = omega (arith, torn.no_longer, same);
      before = λ i within low h. filled_before (min at (length old)) (at + n) byte new order i (omega arith) (omega (arith, torn.no_shorter)) ∙ torn.before i within low h;
      after = λ i within high. filled_after (min at (length old)) (at + n) byte new order i high ∙ torn.after i within high;
    }

filled_torn_file : (at n byte : ℕ) (file old new : Option (List ℕ)) → TornFile at n file old new
    → TornFile at n file old (option_map (filled (min at (length (bytes_of old))) (at + n) byte) new)
filled_torn_file at n byte (Some file) (Some old) (Some new) torn = filled_torn at n byte file old new torn
filled_torn_file at n byte (Some file) (Some old) None torn = absurd torn
filled_torn_file at n byte (Some file) None None torn = tt
filled_torn_file at n byte None (Some old) None torn = tt
filled_torn_file at n byte None None None torn = tt
filled_torn_file at n byte (Some file) None (Some new) torn = omega (arith, torn, length-filled (min at (length {A = ℕ} [])) (at + n) byte new (omega arith))
filled_torn_file at n byte None (Some old) (Some new) torn = omega (arith, torn, length-filled (min at (length old)) (at + n) byte new (omega arith))
filled_torn_file at n byte None None (Some new) torn = omega (arith, torn, length-filled (min at (length {A = ℕ} [])) (at + n) byte new (omega arith))

-- a write whose range is filled is torn
smeared_torn : (byte at n : ℕ) (kept : List ℕ) (file old : Option (List ℕ)) → length kept ≤ n → TornFile at n file old (smeared byte at n kept old)
smeared_torn byte at n kept file old part = filled_torn_file at n byte file old (wrote at kept old) (wrote_torn at n kept file old part)

torn_refl : (at n : ℕ) (file old : Option (List ℕ)) → TornFile at n file old old
torn_refl at n file old = wrote_torn at n [] file old (omega arith)

-- after a write that changed nothing
pub write_refl : (name : List ℕ) (at n : ℕ) (files image : Files) → WriteLeaves name at n files image image
write_refl name at n files image = record { here = torn_refl at n (files name) (image name); others = λ other differs. refl }

cut_same : (len : ℕ) (file : Option (List ℕ)) → CutFile len file file
cut_same len None = refl
cut_same len (Some file) = record { no_shorter = omega arith; no_longer = omega arith; below = λ i near h. refl }

-- after a cut that changed nothing
pub cut_refl : (name : List ℕ) (len : ℕ) (files image : Files) → CutLeaves name len files image image
cut_refl name len files image = record { idle = λ short. refl; here = cut_same len (image name); others = λ other differs. refl }

-- the files of the last sync are an image
old_image : (first : Files) (events : List Event) → Images first events (since_sync settled first events)
old_image first [] = refl
old_image first (Wrote write ∷ earlier) =
    (since_sync settled first earlier, old_image first earlier, write_refl write.name write.at (length write.bytes) (files_after first earlier) (since_sync settled first earlier))
old_image first (Cut name len ∷ earlier) =
    (since_sync settled first earlier, old_image first earlier, cut_refl name len (files_after first earlier) (since_sync settled first earlier))
old_image first (Removed name ∷ earlier) = (since_sync settled first earlier, old_image first earlier, inl refl)
old_image first (Synced ∷ earlier) = (files_after first earlier, read_image first earlier, refl)
old_image first (Put file ∷ earlier) = (since_sync settled first earlier, old_image first earlier, with_sets file.name (Some file.bytes) (since_sync settled first earlier))

level_choice : (b : Bool) (x y u v : Option (List ℕ)) → length (bytes_of x) ≡ length (bytes_of y) → length (bytes_of u) ≡ length (bytes_of v)
    → length (bytes_of (cond b x u)) ≡ length (bytes_of (cond b y v))
level_choice true x y u v first second = first
level_choice false x y u v first second = second

wrote_level : (at : ℕ) (kept : List ℕ) (old new : Option (List ℕ)) → length (bytes_of old) ≡ length (bytes_of new)
    → length (bytes_of (wrote at kept old)) ≡ length (bytes_of (wrote at kept new))
wrote_level at [] old new level = level
wrote_level at (byte ∷ bytes) old new level =
    ap (λ (o : Option (List ℕ)). length (bytes_of o)) (wrote_some at (byte ∷ bytes) old (omega arith))
    ∙ omega (arith, level, length-put at (byte ∷ bytes) (bytes_of old), length-put at (byte ∷ bytes) (bytes_of new))
    ∙ sym (ap (λ (o : Option (List ℕ)). length (bytes_of o)) (wrote_some at (byte ∷ bytes) new (omega arith)))

smeared_level : (byte at n : ℕ) (kept : List ℕ) (old : Option (List ℕ)) → length (bytes_of (smeared byte at n kept old)) ≡ length (bytes_of (wrote at kept old))
smeared_level byte at n kept old = filled_level (wrote at kept old) where
  filled_level : (new : Option (List ℕ)) → length (bytes_of (option_map (filled (min at (length (bytes_of old))) (at + n) byte) new)) ≡ length (bytes_of new)
  filled_level None = refl
  filled_level (Some new) = length-filled (min at (length (bytes_of old))) (at + n) byte new (omega arith)

cut_level : (len : ℕ) (old new : Option (List ℕ)) → length (bytes_of old) ≡ length (bytes_of new) → length (bytes_of (cut_to len old)) ≡ length (bytes_of (cut_to len new))
cut_level len None None level = refl
cut_level len None (Some new) level = omega (arith, level, length-take len new)
cut_level len (Some old) None level = omega (arith, level, length-take len old)
cut_level len (Some old) (Some new) level = omega (arith, level, length-take len old, length-take len new)

-- the image with one byte in place of others has the files' lengths
byte_level : (byte : ℕ) (first : Files) (events : List Event) (name : List ℕ)
    → length (bytes_of (since_sync (with_byte byte) first events name)) ≡ length (bytes_of (files_after first events name))
byte_level byte first [] name = refl
byte_level byte first (Wrote write ∷ earlier) name =
    let kept : List ℕ = take write.kept write.bytes in
    let image : Files = since_sync (with_byte byte) first earlier in
    level_choice (bytes_eq write.name name) (smeared byte write.at (length write.bytes) kept (image write.name)) (wrote write.at kept (files_after first earlier write.name)) (image name) (files_after first earlier name)
    (smeared_level byte write.at (length write.bytes) kept (image write.name) ∙ wrote_level write.at kept (image write.name) (files_after first earlier write.name) (byte_level byte first earlier write.name))
    (byte_level byte first earlier name)
byte_level byte first (Cut cut len ∷ earlier) name =
    let image : Files = since_sync (with_byte byte) first earlier in
    level_choice (bytes_eq cut name) (cut_to len (image cut)) (cut_to len (files_after first earlier cut)) (image name) (files_after first earlier name)
    (cut_level len (image cut) (files_after first earlier cut) (byte_level byte first earlier cut)) (byte_level byte first earlier name)
byte_level byte first (Removed removed ∷ earlier) name =
    level_choice (bytes_eq removed name) None None (since_sync (with_byte byte) first earlier name) (files_after first earlier name) refl (byte_level byte first earlier name)
byte_level byte first (Synced ∷ earlier) name = refl
byte_level byte first (Put file ∷ earlier) name =
    level_choice (bytes_eq file.name name) (Some file.bytes) (Some file.bytes) (since_sync (with_byte byte) first earlier name) (files_after first earlier name) refl (byte_level byte first earlier name)

byte_image : (byte : ℕ) (first : Files) (events : List Event) → Images first events (since_sync (with_byte byte) first events)
byte_image byte first [] = refl
byte_image byte first (Wrote write ∷ earlier) =
    let kept : List ℕ = take write.kept write.bytes in
    let image : Files = since_sync (with_byte byte) first earlier in (
      image,
      byte_image byte first earlier,
      write_leaves write.name write.at (length write.bytes) (files_after first earlier) image (smeared byte write.at (length write.bytes) kept (image write.name))
          (smeared_torn byte write.at (length write.bytes) kept (files_after first earlier write.name) (image write.name) (omega (arith, length-take write.kept write.bytes))),
    )
byte_image byte first (Cut name len ∷ earlier) =
    (since_sync (with_byte byte) first earlier, byte_image byte first earlier, cut_leaves name len (files_after first earlier) (since_sync (with_byte byte) first earlier) (byte_level byte first earlier name))
byte_image byte first (Removed name ∷ earlier) = (since_sync (with_byte byte) first earlier, byte_image byte first earlier, inr (with_sets name None (since_sync (with_byte byte) first earlier)))
byte_image byte first (Synced ∷ earlier) = (files_after first earlier, read_image first earlier, refl)
byte_image byte first (Put file ∷ earlier) = (since_sync (with_byte byte) first earlier, byte_image byte first earlier, with_sets file.name (Some file.bytes) (since_sync (with_byte byte) first earlier))

-- the events since the last sync, replayed as they were, give what reads give
pub new_since : (first : Files) (events : List Event) → since_sync after_event first events ≡ files_after first events
new_since first [] = refl
new_since first (Wrote write ∷ earlier) = ap (λ (files : Files). after_event (Wrote write) files) (new_since first earlier)
new_since first (Cut name len ∷ earlier) = ap (λ (files : Files). after_event (Cut name len) files) (new_since first earlier)
new_since first (Removed name ∷ earlier) = ap (λ (files : Files). after_event (Removed name) files) (new_since first earlier)
new_since first (Synced ∷ earlier) = refl
new_since first (Put file ∷ earlier) = ap (λ (files : Files). after_event (Put file) files) (new_since first earlier)

-- what each pick gives is an image
pub picked_image : (pick : Pick) (first : Files) (events : List Event) → Images first events (since_sync (effect_of pick) first events)
picked_image Old first events = old_image first events
picked_image New first events = subst (λ (image : Files). Images first events image) (sym (new_since first events)) (read_image first events)
picked_image (Byte byte) first events = byte_image byte first events

old_short : (first : Files) (events : List Event) → ((name : List ℕ) → length (bytes_of (first name)) ≤ LONGEST_FILE) → (name : List ℕ) → length (bytes_of (since_sync settled first events name)) ≤ LONGEST_FILE
old_short first [] short = short
old_short first (Wrote write ∷ earlier) short = old_short first earlier short
old_short first (Cut name len ∷ earlier) short = old_short first earlier short
old_short first (Removed name ∷ earlier) short = old_short first earlier short
old_short first (Synced ∷ earlier) short = files_after_short first earlier short
old_short first (Put file ∷ earlier) short = λ name. short_choice (bytes_eq file.name name) (Some file.bytes) (since_sync settled first earlier name) file.short (old_short first earlier short name)

-- nor does a pick give one
pub picked_short : (pick : Pick) (first : Files) (events : List Event) → ((name : List ℕ) → length (bytes_of (first name)) ≤ LONGEST_FILE) → (name : List ℕ) → length (bytes_of (since_sync (effect_of pick) first events name)) ≤ LONGEST_FILE
picked_short Old first events short name = old_short first events short name
picked_short New first events short name = subst (λ (files : Files). length (bytes_of (files name)) ≤ LONGEST_FILE) (sym (new_since first events)) (files_after_short first events short name)
picked_short (Byte byte) first events short name = let level = byte_level byte first events name in let bound = files_after_short first events short name in omega arith
