-- What a library and its files hold as a store, and identifiers of media that come and go.
use Rattle.std.proofs.Common.{◌≡◌, ◌≢◌, ℕ, ◌≤◌, Bool, true, false, not, cond, ◌||◌, List, [], ◌∷◌, Option, Some, None, Result, Ok, Err, refl, sym, ap, ◌∙◌, arith, is_some, IsTrue}
use Rattle.std.specs.List.{AllByRecursion}
use Rattle.std.specs.Str.{bytes_eq}
use Rattle.std.proofs.lemmas.Bool.{or_parts, or_from}
use Rattle.std.proofs.lemmas.Bool.Decides.{nat_tests}
use Rattle.vbm_ports.specs.Files.{Files}
use Rattle.vbm_ports.specs.Names.{is_medium_name}
use Rattle.vbm_header.specs.declared.Header.{Header}
use Rattle.vbm_header.specs.Header.{is_differencing}
use Rattle.vbm_volume.specs.Image.{image_of}
use Rattle.vbm_ids.specs.declared.Kind.TheVariants.{Medium as Drawn, Modify, Inner, InnerModify}
use Rattle.vbm_ids.specs.Identifier.{number_in, is_foreign, is_not_below}
use Rattle.vbm_intent.specs.Changes.{log_name}
use Rattle.vbm_named.specs.Names.{Name, is_before, has_name, find_by, put_by, without}
use Rattle.vbm_named.proofs.Lists.{name_sym, has_found, All-put, All-without}
use Rattle.vbm_world.specs.World.{World}
use Rattle.vbm_registry.specs.declared.media.Medium.{Medium}
use Rattle.vbm_registry.specs.declared.library.Library.{Library}
use Rattle.vbm_registry.specs.declared.fault.BadStore.{BadStore}
use Rattle.vbm_registry.specs.Library.{library_name, medium_entry_name}
use Rattle.vbm_registry.specs.Named.{NamedLibrary, named}
use Rattle.vbm_standing.specs.Meaning.{world_with, none_changed, none_runs}
use Rattle.vbm_standing.specs.Faults.{id_in, store_fault, IsMediumFile, HaveOwnIds, IsStore}
use Rattle.vbm_standing.specs.Stands.{library_of, unless_fault, store_of, held_by}
use Rattle.vbm_standing.proofs.HeaderFacts.{header_of_file}
use Rattle.vbm_standing.proofs.FaultFacts.{store_if_no_fault, no_fault_if_store}

-- an accepted file that is not differencing, with an identifier that is not foreign
pub own_of_file : (l : NamedLibrary) (files : Files) (m : Medium) (f : List ℕ) (h : Header) → files m.name ≡ Some f → image_of f ≡ Ok h
    → is_differencing h.image_type ≡ false → is_foreign l.seed l.next h.id ≡ false → IsMediumFile l files m
own_of_file l files m f h there is whole known =
    let same = header_of_file files m.name f h there is in
    record {
      image = record { file = f; there = there; accepted = rw same is };
      whole = rw same whole;
      known = rw (ap (λ (x : Header). x.id) same) known;
    }

-- the library and the store that files hold
pub record IsHeld (files : Files) (w : World) : Type 0 where
  pub library : Library
  pub read : library_of files ≡ Ok library
  pub store : IsStore (named library) files
  pub is : w ≡ world_with none_changed none_runs library files

pub held_if_store : (l : Library) (files : Files) → library_of files ≡ Ok l → IsStore (named l) files
    → held_by files ≡ Ok (world_with none_changed none_runs l files)
held_if_store l files read store =
    ap (store_of files) read
    ∙ ap (λ o. unless_fault o (world_with none_changed none_runs l files)) (no_fault_if_store (named l) files store)

no_fault_of : (o : Option BadStore) (v w : World) → unless_fault o v ≡ Ok w → (o ≡ None) × (w ≡ v)
no_fault_of None v w e = (refl, cc)
no_fault_of (Some bad) v w e = absurd cc

held_from : (files : Files) (w : World) (r : Result Library BadStore) → library_of files ≡ r → store_of files r ≡ Ok w → IsHeld files w
held_from files w (Err bad) read e = absurd cc
held_from files w (Ok l) read e =
    let none = no_fault_of (store_fault (named l) files) (world_with none_changed none_runs l files) w e in
    record { library = l; read = read; store = store_if_no_fault (named l) files none.0; is = none.1 }

pub store_if_held : (files : Files) (w : World) → held_by files ≡ Ok w → IsHeld files w
store_if_held files w e = held_from files w (library_of files) refl e

-- every file with a medium's name but this one is the same
abbrev pub SameBesides : Name → Files → Files → Type 0
SameBesides name a b = (other : Name) → IsTrue (is_medium_name other) → bytes_eq other name ≡ false → b other ≡ a other

-- an identifier that is not foreign stays so while more are drawn
not_below : (next more : ℕ) (drawn : Option ℕ) → next ≤ more → is_not_below next drawn ≡ false → is_not_below more drawn ≡ false
not_below next more None grows known = known
not_below next more (Some n) grows known = grind (arith, nat_tests)

pub still_known : (seed : List ℕ) (next more : ℕ) (id : List ℕ) → next ≤ more → is_foreign seed next id ≡ false → is_foreign seed more id ≡ false
still_known seed next more id grows known =
    let others = is_some (number_in seed Modify id) || is_some (number_in seed Inner id) || is_some (number_in seed InnerModify id) in
    let drawn = number_in seed Drawn id in
    let both = or_parts others (is_not_below next drawn) known in
    or_from others (is_not_below more drawn) both.0 (not_below next more drawn grows both.1)

-- ---- names apart from the log's

pub medium_not_log : (name : Name) → IsTrue (is_medium_name name) → name ≢ log_name
unfolding is_medium_name
medium_not_log name named e = let t : false ≡ true = ap is_medium_name (sym e) ∙ named in absurd cc

pub library_not_log : library_name ≢ log_name
library_not_log e = absurd cc

-- ---- one medium more, and one less

pub distinct_put : (files : Files) (m : Medium) (ms : List Medium) → HaveOwnIds files ms
    → AllByRecursion (λ n. bytes_eq (id_in files m) (id_in files n) ≡ false) ms → HaveOwnIds files (put_by medium_entry_name m ms)
unfolding put_by
distinct_put files m [] distinct new = (tt, tt)
distinct_put files m (n ∷ ns) distinct new =
    let other : bytes_eq (id_in files n) (id_in files m) ≡ false = name_sym (id_in files n) (id_in files m) ∙ new.0 in
    elim (is_before m.name n.name) as (λ b. HaveOwnIds files (cond b (m ∷ n ∷ ns) (n ∷ put_by medium_entry_name m ns))) [
      | true ↦ (new, distinct)
      | false ↦ (
        All-put medium_entry_name (λ o. bytes_eq (id_in files n) (id_in files o) ≡ false) m ns other distinct.0,
        distinct_put files m ns distinct.1 new.1,
      )
    ]

pub distinct_without : (files : Files) (name : Name) (ms : List Medium) → HaveOwnIds files ms → HaveOwnIds files (without medium_entry_name name ms)
distinct_without files name [] distinct = tt
distinct_without files name (m ∷ ms) distinct =
    let left = without medium_entry_name name ms in
    elim (bytes_eq m.name name) as (λ b. HaveOwnIds files (cond (not b) (m ∷ left) left)) [
      | true ↦ distinct_without files name ms distinct.1
      | false ↦ (
        All-without medium_entry_name (λ n. bytes_eq (id_in files m) (id_in files n) ≡ false) name ms distinct.0,
        distinct_without files name ms distinct.1,
      )
    ]

none_from : {X : Type 0} (o : Option X) → is_some o ≡ false → o ≡ None
none_from None e = refl
none_from (Some x) e = absurd cc

pub absent : {X : Type 0} (nx : X → Name) (name : Name) (xs : List X) → has_name nx name xs ≡ false → find_by nx name xs ≡ None
absent nx name xs none = none_from (find_by nx name xs) (sym (has_found nx name xs) ∙ none)
