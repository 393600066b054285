-- The list of machines.
use Rattle.std.proofs.Common.{◌≡◌, List, [], ◌∷◌, map, refl, sym, ap, ◌∙◌}
use Rattle.std.specs.List.{AllByRecursion}
use Rattle.vbm_ports.specs.Files.{Files}
use Rattle.vbm_machines.specs.declared.Machine.{Machine}
use Rattle.vbm_named.specs.Names.{Rises}
use Rattle.vbm_named.proofs.Lists.{All-map, each_found}
use Rattle.vbm_world.specs.declared.command.Answer.TheVariants.{VmList}
use Rattle.vbm_world.specs.declared.command.Command.TheVariants.{ListVms}
use Rattle.vbm_world.specs.declared.command.VmLine.{VmLine}
use Rattle.vbm_world.specs.Machines.{vm_line}
use Rattle.vbm_registry.specs.Grammar.{machine_entry_name}
use Rattle.vbm_registry.proofs.LowPlaces.{low_places}
use Rattle.vbm_registry.specs.Named.{machine_named, medium_names, named}
use Rattle.vbm_standing.specs.Meaning.{machine_in, world_of}
use Rattle.vbm_store.specs.declared.store.Store.{Store}
use Rattle.vbm_store.specs.Serves.{serves, running_in, running_of, IsSoundStore}
use Rattle.vbm_store.specs.Steps.{Answers}
use Rattle.vbm_slots.specs.Machines.{line_of}
use Rattle.vbm_slots.proofs.Marks.{mark_of}

-- each machine's mark is its own
own_marks : (ms : List Machine) → Rises machine_entry_name ms → AllByRecursion (λ (m : Machine). running_in ms m.name ≡ m.running) ms
own_marks ms rises = All-map _ _ (λ m found. mark_of m.name ms m rises found) ms (each_found machine_entry_name ms rises)

lines_seen : (e : Store) (files : Files) (ms : List Machine) → AllByRecursion (λ (m : Machine). running_of e m.name ≡ m.running) ms
    → map line_of ms ≡ map vm_line (map (machine_in (running_of e) (named e.library) files) (map (machine_named (medium_names e.library.media)) ms))
lines_seen e files [] marks = refl
lines_seen e files (m ∷ ms) marks = λ i. record { name = m.name; running = sym marks.0 i } ∷ lines_seen e files ms marks.1 i

pub lists : (e : Store) (files : Files) → IsSoundStore e → (lines : List VmLine) → lines ≡ map line_of e.library.machines
    → Answers files e ListVms (VmList lines)
unfolding world_of
lists e files sound lines is =
    let marks = own_marks e.library.machines (low_places e.library sound.library.rules).machines in
    (ap (λ (ls : List VmLine). (VmList ls, serves e files)) (is ∙ lines_seen e files e.library.machines marks), λ u. refl)
