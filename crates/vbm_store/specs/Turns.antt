-- What a commit owes, and what it gives: told of no command.
use Rattle.std.specs.Prelude.{◌≡◌, ◌⊎◌, List}
use Rattle.vbm_ports.specs.Files.{Files}
use Rattle.vbm_ports.specs.Disk.{DiskState}
use Rattle.vbm_intent.specs.declared.change.Change.{Change}
use Rattle.vbm_intent.specs.Changes.{changed, Fits}
use Rattle.vbm_world.specs.World.{World, off}
use Rattle.vbm_world.specs.Loose.{Unsettled, IsLoosely}
use Rattle.vbm_store.specs.declared.store.Store.{Store}
use Rattle.vbm_store.specs.Serves.{rests, serves, IsSoundStore, Holds, IsReady, StandsLoosely}

-- The plan turns the files into those of the store `next`, which serves the world w. What the files hold is that world but for the
-- sectors of u: where nothing is staged, u may be anything; where entries stay staged, u has their sectors.
pub record Turns (u : Unsettled) (files : Files) (plan : List Change) (next : Store) (w : World) : Type 0 where
  pub fits : Fits plan files
  pub sound : IsSoundStore next
  pub holds : Holds next.library next.images (changed plan files)
  pub by : serves next (changed plan files) ≡ w
  pub here : IsLoosely u (off w) (rests next.library (changed plan files))

-- an image inside a step from the world w, where u is unsettled, to w', where u' is
abbrev pub IsInStep : World → Unsettled → World → Unsettled → Files → Type 0
IsInStep w u w' u' image = StandsLoosely (off w) u image ⊎ StandsLoosely (off w') u' image

-- after the commit the store `next` serves w, and the disk is ready with u unsettled
pub record Turned (u : Unsettled) (next : Store) (w : World) (new : DiskState) : Type 0 where
  pub serves_it : serves next new.files ≡ w
  pub sound : IsSoundStore next
  pub ready : IsReady next new u
