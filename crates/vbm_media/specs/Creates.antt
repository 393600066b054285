-- What the making of a medium is made of.
use Rattle.std.specs.Prelude.{◌≡◌, ℕ, ◌+◌, ◌<◌, Bool, [], ◌∷◌, ◌++◌, length, Option, None, false}
use Rattle.vbm_ports.specs.Files.{Files}
use Rattle.vbm_header.specs.declared.Header.{Header}
use Rattle.vbm_header.specs.declared.ImageType.TheVariants.{Dynamic}
use Rattle.vbm_image.specs.declared.image.Image.{Image}
use Rattle.vbm_image.specs.Opened.{IsFresh}
use Rattle.vbm_volume.specs.Made.{IsNewHeader}
use Rattle.vbm_ids.specs.declared.Kind.TheVariants as kinds
use Rattle.vbm_ids.specs.declared.TheConstants.{NUMBER_LIMIT}
use Rattle.vbm_ids.specs.Identifier.{identifier_of}
use Rattle.vbm_modes.specs.declared.Mode.TheVariants.{Normal}
use Rattle.vbm_world.specs.declared.command.Answer.TheVariants.{Id}
use Rattle.vbm_world.specs.declared.command.Refusal.{Refusal}
use Rattle.vbm_world.specs.declared.command.Refusal.TheVariants.{NameTaken, FileExists, BadSize, Full, IdsSpent}
use Rattle.vbm_world.specs.declared.command.Which.TheVariants.{Media}
use Rattle.vbm_named.specs.Names.{Name, has_name}
use Rattle.vbm_world.specs.declared.limits.TheConstants.{MEDIA_LIMIT}
use Rattle.vbm_world.specs.Refusals.{first_refusal, is_bad_size}
use Rattle.vbm_world.specs.Media.{create_checks}
use Rattle.vbm_registry.specs.declared.media.Medium.{Medium}
use Rattle.vbm_registry.specs.declared.library.Library.{Library}
use Rattle.vbm_registry.specs.Library.{medium_entry_name}
use Rattle.vbm_registry.specs.Renumbered.{with_medium_entry}
use Rattle.vbm_store.specs.declared.store.Store.{Store}
use Rattle.vbm_store.specs.declared.images.Edit.TheVariants.{Put}
use Rattle.vbm_store.specs.declared.decision.Turn.{Turn}
use Rattle.vbm_store.specs.Plans.{library_changes, image_changes}
use Rattle.vbm_store.specs.Serves.{serves}

-- the refusal, by whether each of the conditions holds
abbrev pub first_check : Bool → Bool → Bool → Bool → Bool → Option Refusal
first_check taken there bad_size full spent =
    first_refusal ((taken, NameTaken) ∷ (there, FileExists) ∷ (bad_size, BadSize) ∷ (full, Full Media) ∷ (spent, IdsSpent) ∷ [])

-- no condition on the library and the size holds
pub record CanCreate (l : Library) (name : Name) (capacity : ℕ) : Type 0 where
  pub new : has_name medium_entry_name name l.media ≡ false
  pub size : is_bad_size capacity ≡ false
  pub room : length l.media < MEDIA_LIMIT
  pub next : l.next < NUMBER_LIMIT

-- a normal medium
abbrev pub new_entry : Name → Medium
new_entry name = record { name = name; mode = Normal }

-- the library with a new medium, for which one number more is drawn
abbrev pub library_made : Library → Name → Library
library_made l name = with_medium_entry (record l { next = l.next + 1 }) (new_entry name)

-- the header of the image of the library's next medium
pub record IsNewMedium (l : Library) (capacity : ℕ) (h : Header) : Type 0 where
  pub new : IsNewHeader h
  pub dynamic : h.image_type ≡ Dynamic
  pub capacity_is : h.capacity ≡ capacity
  pub id : h.id ≡ identifier_of l.seed kinds.Medium l.next
  pub modify : h.modify ≡ identifier_of l.seed kinds.Modify l.next

-- the machine makes the medium of these files
pub record MayCreate (files : Files) (e : Store) (name : Name) (capacity : ℕ) : Type 0 where
  pub absent : files name ≡ None
  pub allowed : first_refusal (create_checks (serves e files) name capacity) ≡ None

-- the turn to a store with the medium
pub record Creates (e : Store) (name : Name) (capacity : ℕ) (turn : Turn) : Type 0 where
  pub image : Image
  pub named_so : image.name ≡ name
  pub medium : IsNewMedium e.library capacity image.header
  pub fresh : IsFresh image
  pub made : turn.library ≡ library_made e.library name
  pub placed : turn.edit ≡ Put image
  pub changes : turn.plan.changes ≡ image_changes name image.header ++ library_changes turn.library
  pub answer : turn.answer ≡ Id image.header.id
