-- Changes of the images that a store holds, and of what is marked as changed.
use Rattle.std.specs.Prelude.{ℕ, ◌+◌, ◌≤◌, List, [], ◌∷◌}
use Rattle.vbm_image.specs.declared.image.Image.{Image}
use Rattle.vbm_image.specs.Image.{image_name, IsInForm}
use Rattle.vbm_intent.specs.declared.log.Log.{Log}
use Rattle.vbm_machines.specs.Renumbering.{itself}
use Rattle.vbm_named.specs.Names.{Name, put_by, without}
use Rattle.vbm_registry.specs.declared.library.Library.{Library}
use Rattle.vbm_store.specs.declared.store.Store.{Store}
use Rattle.vbm_store.specs.declared.images.Edit.{Edit}
use Rattle.vbm_store.specs.declared.images.Edit.TheVariants.{Keep, Unchanged, Put, Remove}
use Rattle.vbm_store.specs.Serves.{IsUnstaged}

-- a list of this length and room takes what an edit brings
abbrev pub HasRoom : Edit → (len room : ℕ) → Type 0
HasRoom Keep len room = Unit {0}
HasRoom (Unchanged names) len room = Unit {0}
HasRoom (Put image) len room = len + 1 ≤ room
HasRoom (Remove name) len room = Unit {0}

abbrev pub edited : Edit → List Image → List Image
edited Keep images = images
edited (Unchanged names) images = images
edited (Put image) images = put_by image_name image images
edited (Remove name) images = without image_name name images

-- an image that comes to a store
pub record IsNewImage (image : Image) : Type 0 where
  pub form : IsInForm image
  pub unstaged : IsUnstaged image

-- what an edit brings is one
abbrev pub BringsNew : Edit → Type 0
BringsNew Keep = Unit {0}
BringsNew (Unchanged names) = Unit {0}
BringsNew (Put image) = IsNewImage image
BringsNew (Remove name) = Unit {0}

-- names, without those of a list
abbrev pub without_all : (gone names : List Name) → List Name
without_all [] names = names
without_all (name ∷ gone) names = without_all gone (without itself name names)

-- A medium whose image comes or goes has not changed since a start, and neither has one that a start makes so.
abbrev pub still_changed : Edit → List Name → List Name
still_changed Keep changed = changed
still_changed (Unchanged names) changed = without_all names changed
still_changed (Put image) changed = without itself image.name changed
still_changed (Remove name) changed = without itself name changed

-- the store with this library, and its images as they are edited
abbrev pub store_after : Store → Library → Edit → Log → Store
store_after e library edit log = record {
  library = library;
  changed = still_changed edit e.changed;
  images = edited edit e.images;
  log = log;
}
