-- Events that come in order, one after another.
use Rattle.std.proofs.Common.{◌≡◌, ℕ, ◌+◌, ◌<◌, ◌≤◌, List, [], ◌∷◌, ◌++◌, length, length-take, get_or, take, drop, Bool, true, false, cond, Option, Some, refl, sym, ◌∙◌, ap, arith}
use Rattle.std.specs.Prelude.{reverse}
use Rattle.std.specs.Str.{bytes_eq}
use Rattle.std.proofs.lemmas.List.{take_more, reverse-append, drop-append-le, drop_all}
use Rattle.vbm_ports.specs.Files.{Files}
use Rattle.vbm_memdisk.specs.Folders.{files_of, or_else}
use Rattle.vbm_memdisk.specs.Events.{after_event, effect_of, is_sync, replays, files_after, since_sync}
use Rattle.vbm_memdisk.specs.Past.{Past, picked_files, with_event, AddsWrite, Puts}
use Rattle.vbm_memdisk.specs.declared.folder.MemFile.{MemFile}
use Rattle.vbm_memdisk.specs.declared.events.Pick.{Pick}
use Rattle.vbm_memdisk.specs.declared.events.Pick.TheVariants.{Old, New, Byte}
use Rattle.vbm_memdisk.specs.declared.events.Write.{Write}
use Rattle.vbm_memdisk.specs.declared.events.Whole.{Whole}
use Rattle.vbm_memdisk.specs.declared.events.Event.{Event}
use Rattle.vbm_memdisk.specs.declared.events.Event.TheVariants.{Wrote, Cut, Removed, Synced, Put}
use Rattle.vbm_memdisk.proofs.Crashes.{new_since}

-- the newest event comes first
pub newest_first : (old new : List Event) (event : Event) → new ≡ old ++ event ∷ [] → reverse new ≡ event ∷ reverse old
newest_first old new event is = ap (λ (l : List Event). reverse l) is ∙ reverse-append old (event ∷ [])

-- one event more, as a loop comes to it
pub next_event : (events : List Event) (i : ℕ) (event : Event) → i < length events → event ≡ get_or events i event
    → take (i + 1) events ≡ take i events ++ event ∷ []
next_event events i event within is = take_more events i event within ∙ ap (λ (e : Event). take i events ++ e ∷ []) (sym is)

since_other : (step : Event → Files → Files) (first : Files) (event : Event) (earlier : List Event) → is_sync event ≡ false
    → since_sync step first (event ∷ earlier) ≡ step event (since_sync step first earlier)
since_other step first (Wrote write) earlier other = refl
since_other step first (Cut name len) earlier other = refl
since_other step first (Removed name) earlier other = refl
since_other step first Synced earlier other = absurd (cc other)
since_other step first (Put file) earlier other = refl

since_here : (step : Event → Files → Files) (first : Files) (event : Event) (earlier : List Event) → is_sync event ≡ true
    → since_sync step first (event ∷ earlier) ≡ files_after first earlier
since_here step first (Wrote write) earlier is = absurd (cc is)
since_here step first (Cut name len) earlier is = absurd (cc is)
since_here step first (Removed name) earlier is = absurd (cc is)
since_here step first Synced earlier is = refl
since_here step first (Put file) earlier is = absurd (cc is)

after_here : (event : Event) (files : Files) → is_sync event ≡ true → after_event event files ≡ files
after_here (Wrote write) files is = absurd (cc is)
after_here (Cut name len) files is = absurd (cc is)
after_here (Removed name) files is = absurd (cc is)
after_here Synced files is = refl
after_here (Put file) files is = absurd (cc is)

-- the last sync stays where it is
pub no_sync : (step : Event → Files → Files) (first : Files) (events : List Event) (i start : ℕ) (event : Event) → start ≤ i → i < length events
    → event ≡ get_or events i event → is_sync event ≡ false
    → since_sync step first (reverse (take i events)) ≡ replays step (files_after first (reverse (take start events))) (reverse (drop start (take i events)))
    → since_sync step first (reverse (take (i + 1) events)) ≡ replays step (files_after first (reverse (take start events))) (reverse (drop start (take (i + 1) events)))
no_sync step first events i start event low within is other before =
    let more = next_event events i event within is in
    let back : drop start (take (i + 1) events) ≡ drop start (take i events) ++ event ∷ [] =
    ap (λ (l : List Event). drop start l) more ∙ drop-append-le start (take i events) (event ∷ []) (omega (arith, length-take i events)) in
    ap (λ (l : List Event). since_sync step first l) (newest_first (take i events) (take (i + 1) events) event more)
    ∙ since_other step first event (reverse (take i events)) other
    ∙ ap (λ (files : Files). step event files) before
    ∙ sym (ap (λ (l : List Event). replays step (files_after first (reverse (take start events))) l) (newest_first (drop start (take i events)) (drop start (take (i + 1) events)) event back))

-- the last sync is here
pub new_sync : (step : Event → Files → Files) (first : Files) (events : List Event) (i : ℕ) (event : Event) → i < length events
    → event ≡ get_or events i event → is_sync event ≡ true
    → since_sync step first (reverse (take (i + 1) events)) ≡ replays step (files_after first (reverse (take (i + 1) events))) (reverse (drop (i + 1) (take (i + 1) events)))
new_sync step first events i event within is sync =
    let more = newest_first (take i events) (take (i + 1) events) event (next_event events i event within is) in
    ap (λ (l : List Event). since_sync step first l) more
    ∙ since_here step first event (reverse (take i events)) sync
    ∙ sym (after_here event (files_after first (reverse (take i events))) sync)
    ∙ sym (ap (λ (l : List Event). files_after first l) more)
    ∙ sym (ap (λ (l : List Event). replays step (files_after first (reverse (take (i + 1) events))) (reverse l)) (drop_all (i + 1) (take (i + 1) events) (omega (arith, length-take (i + 1) events))))

-- events that are replayed as they were
pub replays_after : (first : Files) (events : List Event) → replays after_event first events ≡ files_after first events
replays_after first [] = refl
replays_after first (event ∷ earlier) = ap (λ (files : Files). after_event event files) (replays_after first earlier)

-- the picked files are replayed
pub picked_since : (pick : Pick) (past : Past) → since_sync (effect_of pick) past.first past.events ≡ picked_files pick past
picked_since Old past = refl
picked_since New past = new_since past.first past.events
picked_since (Byte byte) past = refl

-- the cache, after one event more
pub cached_more : (first : Files) (old new : List Event) (event : Event) (before now : Files) → new ≡ old ++ event ∷ [] → now ≡ after_event event before
    → ((name : List ℕ) → before name ≡ files_after first (reverse old) name) → (name : List ℕ) → now name ≡ files_after first (reverse new) name
cached_more first old new event before now more happened cached name =
    let all : before ≡ files_after first (reverse old) = λ k other. cached other k in
    ap (λ (files : Files). files name) happened ∙ ap (λ (files : Files). after_event event files name) all
    ∙ sym (ap (λ (l : List Event). files_after first l name) (newest_first old new event more))

-- and after none
pub cached_same : (first : Files) (old new : List Event) (before now : Files) → new ≡ old → now ≡ before
    → ((name : List ℕ) → before name ≡ files_after first (reverse old) name) → (name : List ℕ) → now name ≡ files_after first (reverse new) name
cached_same first old new before now same unchanged cached name =
    ap (λ (files : Files). files name) unchanged ∙ cached name ∙ sym (ap (λ (l : List Event). files_after first (reverse l) name) same)

-- one list of files after another
pub joined : (xs ys : List MemFile) (name : List ℕ) → files_of (xs ++ ys) name ≡ or_else (files_of xs name) (files_of ys name)
joined [] ys name = refl
joined (file ∷ files) ys name = choose (bytes_eq file.name name) (files_of (files ++ ys) name) (files_of files name) (files_of ys name) (joined files ys name) where
  choose : (b : Bool) (all front back : Option (List ℕ)) → all ≡ or_else front back → cond b (Some file.bytes.items) all ≡ or_else (cond b (Some file.bytes.items) front) back
  choose true all front back is = refl
  choose false all front back is = is

-- the newest event is a write
pub writes_it : (write : Write) (name : List ℕ) (at : ℕ) (bytes : List ℕ) (kept : ℕ) (old new : Past) → new ≡ with_event (Wrote write) old
    → write.name ≡ name → write.at ≡ at → write.bytes ≡ bytes → write.kept ≡ kept → AddsWrite name at bytes kept old new
writes_it write name at bytes kept old new now named place content part =
    record { write = write; named = named; place = place; content = content; part = part; now = now }

-- the newest event is a file that was put
pub puts_it : (file : Whole) (name bytes : List ℕ) (old new : Past) → new ≡ with_event (Put file) old → file.name ≡ name → file.bytes ≡ bytes → Puts name bytes old new
puts_it file name bytes old new now named content = record { file = file; named = named; content = content; now = now }
