-- The media that have not changed since a start, which a store forgets name by name.
use Rattle.std.proofs.Common.{◌≡◌, Bool, true, false, cond, ◌&&◌, ◌||◌, List, [], ◌∷◌, map, refl, sym, ap, ◌∙◌, inl, inr}
use Rattle.std.specs.Prelude.{filter}
use Rattle.std.specs.List.{list_any}
use Rattle.std.specs.Str.{bytes_eq}
use Rattle.std.proofs.lemmas.Bool.{cases_Bool}
use Rattle.std.proofs.Math.Bool.{and-true, and-false}
use Rattle.vbm_ports.specs.Files.{Files}
use Rattle.vbm_intent.specs.declared.log.Log.{Log}
use Rattle.vbm_machines.specs.Renumbering.{itself}
use Rattle.vbm_named.specs.Names.{Name, has_name, without}
use Rattle.vbm_named.proofs.Lists.{same_name}
use Rattle.vbm_registry.specs.declared.library.Library.{Library}
use Rattle.vbm_registry.specs.Named.{NamedSlot, named}
use Rattle.vbm_registry.specs.Rules.{is_held_directly, has_directly}
use Rattle.vbm_standing.specs.Meaning.{slot_in}
use Rattle.vbm_standing.proofs.StartedWorlds.{still_changed}
use Rattle.vbm_store.specs.declared.store.Store.{Store}
use Rattle.vbm_store.specs.declared.images.Edit.TheVariants.{Unchanged}
use Rattle.vbm_store.specs.Edits.{without_all, store_after}
use Rattle.vbm_store.specs.Serves.{changed_of}
use Rattle.vbm_store.proofs.Marks.{forgotten, still_marked}
use Rattle.vbm_slots.specs.Running.{shared_media}
use Rattle.vbm_slots.proofs.Locks.{shares_same}

abbrev is_name : Name → Name → Bool
is_name name g = bytes_eq g name

none_either : (b : Bool) → cond b false false ≡ false
none_either true = refl
none_either false = refl

all_forgotten : (gone names : List Name) (name : Name)
    → has_name itself name (without_all gone names) ≡ cond (list_any (is_name name) gone) false (has_name itself name names)
all_forgotten [] names name = refl
all_forgotten (g ∷ gone) names name = all_forgotten gone (without itself g names) name ∙ elim (cases_Bool (bytes_eq g name)) [
  | inl here ↦
      let none : has_name itself name (without itself g names) ≡ false =
      ap (λ n. has_name itself n (without itself g names)) (sym (same_name g name here)) ∙ forgotten g names in
      rw (here, none) (none_either (list_any (is_name name) gone))
  | inr other ↦ rw other (ap (cond (list_any (is_name name) gone) false) (still_marked g name names other))
]

-- the names of the media that slots share are those of their slots
shared_named : (slots : List NamedSlot) (name : Name) → list_any (is_name name) (shared_media slots) ≡ list_any (has_directly name) slots
shared_named [] name = refl
shared_named (s ∷ slots) name =
    let rest = shared_named slots name in
    let kept = filter (λ (t : NamedSlot). is_held_directly t.held) slots in
    elim (is_held_directly s.held) as (λ b. list_any (is_name name) (map (λ (t : NamedSlot). t.medium) (cond b (s ∷ kept) kept))
    ≡ ((bytes_eq s.medium name && b) || list_any (has_directly name) slots)) [
      | true ↦ λ i. sym (and-true (bytes_eq s.medium name)) i || rest i
      | false ↦ rest ∙ ap (λ b. b || list_any (has_directly name) slots) (sym (and-false (bytes_eq s.medium name)))
    ]

-- after a start the media that the machine's slots share have not changed
pub changed_started : (e : Store) (files : Files) → (named e.library).merging ≡ [] → (slots : List NamedSlot) (k : Library) (log : Log)
    → changed_of (store_after e k (Unchanged (shared_media slots)) log) ≡ still_changed (changed_of e) (map (slot_in (named e.library) files) slots)
changed_started e files plain slots k log =
    λ i name. (all_forgotten (shared_media slots) e.changed name
    ∙ ap (λ b. cond b false (changed_of e name)) (shared_named slots name ∙ sym (shares_same e files plain name slots))) i
