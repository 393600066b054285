-- What an open store serves: the world of its library over the files, and what a crash leaves of it.
use Rattle.std.specs.Prelude.{◌≡◌, ℕ, ◌&&◌, ◌||◌, Bool, true, List, [], ◌++◌, map, length, take, None, Ok}
use Rattle.std.specs.List.{AllByRecursion, list_any}
use Rattle.std.specs.Str.{bytes_eq}
use Rattle.vbm_ports.specs.Files.{Files}
use Rattle.vbm_ports.specs.Disk.{DiskState}
use Rattle.vbm_header.specs.declared.Header.{Header}
use Rattle.vbm_image.specs.declared.image.Image.{Image}
use Rattle.vbm_image.specs.Image.{image_name, IsInForm}
use Rattle.vbm_machines.specs.declared.Machine.{Machine}
use Rattle.vbm_machines.specs.Renumbering.{itself}
use Rattle.vbm_named.specs.Names.{Name, has_name}
use Rattle.vbm_world.specs.World.{World, off}
use Rattle.vbm_world.specs.Loose.{Unsettled, IsLoosely}
use Rattle.vbm_registry.specs.declared.library.Library.{Library}
use Rattle.vbm_registry.specs.declared.features.TheConstants.{BUILT}
use Rattle.vbm_registry.specs.Library.{medium_entry_name}
use Rattle.vbm_registry.specs.Built.{IsBuilt}
use Rattle.vbm_registry.specs.Grammar.{library_off}
use Rattle.vbm_registry.specs.Named.{NamedInner, NamedLibrary, named}
use Rattle.vbm_registry.specs.Rules.{IsLibrary}
use Rattle.vbm_standing.specs.ChainDisks.{inner_file}
use Rattle.vbm_standing.specs.Headers.{header_in}
use Rattle.vbm_standing.specs.Meaning.{world_with, none_runs, none_changed}
use Rattle.vbm_standing.specs.Faults.{IsStore}
use Rattle.vbm_standing.specs.SlotSectors.{unsettled_in}
use Rattle.vbm_standing.specs.Stands.{Stands, library_of}
use Rattle.vbm_store.specs.declared.store.Store.{Store}
use Rattle.vbm_store.specs.Keeps.{AllKeep, kind_of}

-- the world of a library at rest
abbrev pub rests : Library → Files → World
rests l files = world_with none_changed none_runs l files

-- the files as they are served, through the images, of which nothing is staged yet
abbrev pub view : List Image → Files → Files
view images files = files

-- the machines that run, by the marks of the library
abbrev pub running_in : List Machine → Name → Bool
running_in machines name = list_any (λ (m : Machine). m.running && bytes_eq m.name name) machines

abbrev pub running_of : Store → Name → Bool
running_of e name = running_in e.library.machines name

-- the media that have changed since a start
abbrev pub changed_of : Store → Name → Bool
changed_of e name = has_name itself name e.changed

-- the world that a store serves
abbrev pub serves : Store → Files → World
serves e files = world_with (changed_of e) (running_of e) e.library (view e.images files)

-- what a store knows of a file
pub record Head : Type 0 where
  pub name : Name
  pub header : Header

abbrev pub head_name : Head → Name
head_name head = head.name

abbrev pub head_of : Image → Head
head_of image = record { name = image.name; header = image.header }

-- the head of a file
abbrev pub head_in : Files → Name → Head
head_in files name = record { name = name; header = header_in files name }

-- nothing of an image waits for a commit
abbrev pub IsUnstaged : Image → Type 0
IsUnstaged image = image.pending.staged ≡ []

-- the files of a library's images: those of its media, then the inner ones
abbrev pub image_files : NamedLibrary → List Name
image_files l = map medium_entry_name l.media ++ map (λ (x : NamedInner). inner_file l.seed x.number) l.inners

-- the images of the media
abbrev pub media_images : Store → List Image
media_images e = take (length e.library.media) e.images

-- a library that its file may hold, with every machine off
pub record IsWritable (l : Library) : Type 0 where
  pub rules : IsLibrary (named l)
  pub built : IsBuilt BUILT l

-- nothing is being merged, and nothing made
pub record IsQuiet (l : Library) : Type 0 where
  pub merging : l.merging ≡ []
  pub making : l.making ≡ None

-- What holds of a store by itself: a library that may be written, and an image for each of its files, of which nothing is staged.
pub record IsSoundStore (e : Store) : Type 0 where
  pub library : IsWritable e.library
  pub images : map image_name e.images ≡ image_files (named e.library)
  pub form : AllByRecursion IsInForm e.images
  pub unstaged : AllByRecursion IsUnstaged e.images

-- the store's library, with every machine off, and its images have the heads of the files
pub record Holds (library : Library) (images : List Image) (files : Files) : Type 0 where
  pub read : library_of files ≡ Ok (library_off library)
  pub store : IsStore (named library) files
  pub headers : map head_of images ≡ map (head_in files) (image_files (named library))

-- and a crash leaves the log shut and every file but for sectors that are not settled
pub record FitsDisk (e : Store) (s : DiskState) : Type 0 where
  pub holds : Holds e.library e.images s.files
  pub frame : AllKeep (kind_of e.library s.files) (λ name i. true) s.files s

-- which sectors of an image's file are unsettled: those of the slots that use it
abbrev pub touched : Library → Unsettled → Name → ℕ → Bool
touched l u name i = unsettled_in (named l) u name i

-- The disk is ready with these sectors unsettled: a crash leaves all but them.
pub record IsReady (e : Store) (s : DiskState) (u : Unsettled) : Type 0 where
  pub fits : FitsDisk e s
  pub keeps : AllKeep (kind_of e.library s.files) (touched e.library u) s.files s
  pub here : IsLoosely u (off (serves e s.files)) (rests e.library s.files)

-- files that stand for a world but for unsettled sectors
pub record StandsLoosely (w : World) (u : Unsettled) (files : Files) : Type 0 where
  pub world : World
  pub stands : Stands files (Ok world)
  pub loosely : IsLoosely u w world

abbrev pub both : Unsettled → Unsettled → Unsettled
both u v = λ vm port i. u vm port i || v vm port i
