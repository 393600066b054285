-- The marks of running machines and of changed media, in worlds.
use Rattle.std.proofs.Common.{◌≡◌, ℕ, Bool, false, ◌&&◌, List, map, sym, ap, ◌∙◌, is_some}
use Rattle.std.specs.List.{AllByRecursion}
use Rattle.std.specs.Str.{bytes_eq}
use Rattle.vbm_ports.specs.Files.{Files}
use Rattle.vbm_machines.specs.declared.Machine.{Machine}
use Rattle.vbm_machines.specs.Renumbering.{itself}
use Rattle.vbm_named.specs.Names.{Name, has_name, without}
use Rattle.vbm_named.proofs.Lists.{All-map, any_map, has_found, find_without_same, find_without_other}
use Rattle.vbm_registry.specs.declared.media.Medium.{Medium}
use Rattle.vbm_registry.specs.Named.{NamedLibrary}
use Rattle.vbm_registry.specs.Renumbered.{machine_moved}
use Rattle.vbm_registry.proofs.ListLaws.{map-same}
use Rattle.vbm_standing.specs.Meaning.{machine_in, medium_in, shelf_in, world_of}
use Rattle.vbm_store.specs.Serves.{running_in}

-- ---- media that have changed

medium_alike : (changed more : Name → Bool) (l : NamedLibrary) (files : Files) (m : Medium) → more m.name ≡ changed m.name
    → medium_in more l files m ≡ medium_in changed l files m
unfolding medium_in
medium_alike changed more l files m same = ap (λ c. record (medium_in changed l files m) { changed = c }) same

-- marks that agree on the media of a library
pub changed_alike : (changed more running : Name → Bool) (l : NamedLibrary) (files : Files)
    → AllByRecursion (λ (m : Medium). more m.name ≡ changed m.name) l.media → world_of more running l files ≡ world_of changed running l files
unfolding world_of
changed_alike changed more running l files same =
    let media = map-same _ _ l.media (All-map _ _ (λ m e. medium_alike changed more l files m e) l.media same) in
    λ i. record {
      seed = l.seed;
      next = l.next;
      inner = l.inner;
      media = media i;
      machines = map (machine_in running l files) l.machines;
      shelf = shelf_in l files;
    }

-- a name that was forgotten, and the others
pub forgotten : (name : Name) (names : List Name) → has_name itself name (without itself name names) ≡ false
forgotten name names = has_found itself name (without itself name names) ∙ ap is_some (find_without_same itself name names)

pub still_marked : (name other : Name) (names : List Name) → bytes_eq name other ≡ false
    → has_name itself other (without itself name names) ≡ has_name itself other names
still_marked name other names apart =
    has_found itself other (without itself name names) ∙ ap is_some (find_without_other itself name other names apart)
    ∙ sym (has_found itself other names)

-- ---- machines that run

-- the places of media are no matter
pub running_moved : (to : ℕ → ℕ) (machines : List Machine) → running_in (map (machine_moved to) machines) ≡ running_in machines
running_moved to machines =
    λ i name. any_map (machine_moved to) (λ (m : Machine). m.running && bytes_eq m.name name) machines i
