-- The marks of machines that run, by the entries of a library; and machines by name, in worlds.
use Rattle.std.proofs.Common.{◌≡◌, Bool, true, false, ◌&&◌, ◌||◌, List, [], ◌∷◌, Option, Some, None, refl, sym, ap, ◌∙◌, inl, inr}
use Rattle.std.specs.List.{AllByRecursion, list_any}
use Rattle.std.specs.Option.{option_map}
use Rattle.std.specs.Str.{bytes_eq}
use Rattle.std.proofs.lemmas.Bool.{cases_Bool}
use Rattle.std.proofs.Math.Bool.{and-false}
use Rattle.vbm_ports.specs.Files.{Files}
use Rattle.vbm_machines.specs.declared.Machine.{Machine}
use Rattle.vbm_named.specs.Names.{Name, find_by, has_name, without, Rises}
use Rattle.vbm_named.proofs.Lists.{same_name, name_sym, before_other, All-map, any_none, none_of_any, each_found, find_map, has_map}
use Rattle.vbm_registry.specs.Grammar.{machine_entry_name}
use Rattle.vbm_registry.specs.Named.{machine_named, medium_names, named, named_machine_name}
use Rattle.vbm_standing.specs.Meaning.{machine_in, world_of}
use Rattle.vbm_world.specs.declared.world.WorldMachine.{WorldMachine}
use Rattle.vbm_world.specs.World.{machine_name}
use Rattle.vbm_world.specs.Places.{machine_of}
use Rattle.vbm_store.specs.declared.store.Store.{Store}
use Rattle.vbm_store.specs.Serves.{running_in, running_of, serves}

-- a machine that runs, of this name
abbrev pub is_on : Name → Machine → Bool
is_on name m = m.running && bytes_eq m.name name

-- no machine, no mark
pub no_mark : (name : Name) (ms : List Machine) → has_name machine_entry_name name ms ≡ false → running_in ms name ≡ false
no_mark name ms none =
    any_none (is_on name) ms (All-map _ _ (λ m other. rw other (and-false m.running)) ms (none_of_any _ ms none))

any_without : {X : Type 0} (nx : X → Name) (p : X → Bool) (name : Name) (xs : List X)
    → AllByRecursion (λ x. bytes_eq (nx x) name ≡ true → p x ≡ false) xs
    → list_any p (without nx name xs) ≡ list_any p xs
any_without nx p name [] all = refl
any_without nx p name (x ∷ xs) all = elim (cases_Bool (bytes_eq (nx x) name)) [
  | inl here ↦ let none = all.0 here in rw (here, none) (any_without nx p name xs all.1)
  | inr other ↦ rw other (ap (λ b. p x || b) (any_without nx p name xs all.1))
]

-- in a list in the order of names, what has the name of the one that is found is that one
pub entry_is : (name : Name) (ms : List Machine) (m : Machine) → Rises machine_entry_name ms → find_by machine_entry_name name ms ≡ Some m
    → AllByRecursion (λ (x : Machine). bytes_eq x.name name ≡ true → x ≡ m) ms
entry_is name ms m rises there = All-map _ _ (λ x found same.
    let here : x.name ≡ name = same_name x.name name same in
    let both : Some x ≡ Some m = sym found ∙ ap (λ n. find_by machine_entry_name n ms) here ∙ there in
    cc) ms (each_found machine_entry_name ms rises)

-- a machine that is off leaves no mark
pub marks_without : (name : Name) (ms : List Machine) (m : Machine) → Rises machine_entry_name ms → find_by machine_entry_name name ms ≡ Some m
    → m.running ≡ false → running_in (without machine_entry_name name ms) ≡ running_in ms
marks_without name ms m rises there off =
    λ i n. any_without machine_entry_name (is_on n) name ms (All-map _ _ (λ x is same.
    ap (λ (y : Machine). y.running && bytes_eq y.name n) (is same) ∙ ap (λ b. b && bytes_eq m.name n) off) ms (entry_is name ms m rises there)) i

-- the mark of a machine is its own
pub mark_of : (name : Name) (ms : List Machine) (m : Machine) → Rises machine_entry_name ms → find_by machine_entry_name name ms ≡ Some m
    → running_in ms name ≡ m.running
mark_of name [] m rises there = absurd cc
mark_of name (x ∷ ms) m rises there = elim (cases_Bool (bytes_eq x.name name)) [
  | inl here ↦
      let first : Some x ≡ Some m = rw here at there in
      let same : x ≡ m = cc in
      let is_name : x.name ≡ name = same_name x.name name here in
      let rest : running_in ms name ≡ false = any_none (is_on name) ms (All-map _ _ (λ y before.
      let other : bytes_eq y.name name ≡ false = ap (bytes_eq y.name) (sym is_name) ∙ name_sym y.name x.name ∙ before_other x.name y.name before in
      rw other (and-false y.running)) ms rises.0) in
      rw (here, rest) (elim x.running as (λ b. ((b && true) || false) ≡ b) [ true ↦ refl | false ↦ refl ] ∙ ap (λ (y : Machine). y.running) same)
  | inr other ↦
      let later : find_by machine_entry_name name ms ≡ Some m = rw other at there in
      rw (other, and-false x.running) (mark_of name ms m rises.1 later)
]

-- ---- machines by name

module _ (e : Store) (files : Files) where
  -- a machine of the library, in the world
  abbrev pub seen : Machine → WorldMachine
  seen m = machine_in (running_of e) (named e.library) files (machine_named (medium_names e.library.media) m)

  pub machine_of-serves : (name : Name) → machine_of (serves e files) name ≡ option_map seen (find_by machine_entry_name name e.library.machines)
  unfolding world_of
  machine_of-serves name =
      find_map (machine_in (running_of e) (named e.library) files) named_machine_name machine_name (λ x. refl) name (named e.library).machines
      ∙ ap (option_map (machine_in (running_of e) (named e.library) files))
      (find_map (machine_named (medium_names e.library.media)) machine_entry_name named_machine_name (λ x. refl) name e.library.machines)
      ∙ twice (find_by machine_entry_name name e.library.machines)
    where
      twice : (o : Option Machine) → option_map (machine_in (running_of e) (named e.library) files)
          (option_map (machine_named (medium_names e.library.media)) o) ≡ option_map seen o
      twice None = refl
      twice (Some m) = refl

  pub has_machine-serves : (name : Name) → has_name machine_name name (serves e files).machines ≡ has_name machine_entry_name name e.library.machines
  unfolding world_of
  has_machine-serves name =
      has_map (machine_in (running_of e) (named e.library) files) named_machine_name machine_name (λ x. refl) name (named e.library).machines
      ∙ has_map (machine_named (medium_names e.library.media)) machine_entry_name named_machine_name (λ x. refl) name e.library.machines
