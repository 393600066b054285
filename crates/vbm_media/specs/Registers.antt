-- What opening a medium asks of an accepted file.
use Rattle.std.specs.Prelude.{◌≡◌, false, None, List, [], ◌∷◌, length, nat_le}
use Rattle.vbm_header.specs.declared.Header.{Header}
use Rattle.vbm_named.specs.Names.{has_name}
use Rattle.vbm_header.specs.Header.{is_differencing, condition_number}
use Rattle.vbm_image.specs.declared.image.Image.{Image}
use Rattle.vbm_image.specs.declared.opening.OpenFault.{OpenFault}
use Rattle.vbm_image.specs.declared.opening.OpenFault.TheVariants as faults
use Rattle.vbm_image.specs.Image.{image_id}
use Rattle.vbm_world.specs.declared.command.Refusal.{Refusal}
use Rattle.vbm_world.specs.declared.command.Refusal.TheVariants.{DuplicateId, ForeignId, Full, BrokenChain, NoSuchFile, NotAnImage}
use Rattle.vbm_world.specs.declared.command.Which.TheVariants.{Media}
use Rattle.vbm_ids.specs.Identifier.{is_foreign, has_id}
use Rattle.vbm_world.specs.declared.limits.TheConstants.{MEDIA_LIMIT}
use Rattle.vbm_world.specs.Refusals.{Check, first_refusal}
use Rattle.vbm_registry.specs.declared.library.Library.{Library}
use Rattle.vbm_registry.specs.Library.{medium_entry_name}
use Rattle.vbm_store.specs.declared.store.Store.{Store}
use Rattle.vbm_store.specs.declared.undone.Undone.{Undone}
use Rattle.vbm_store.specs.declared.undone.Undone.TheVariants as undone
use Rattle.vbm_store.specs.Edits.{IsNewImage}
use Rattle.vbm_store.specs.Serves.{media_images}

-- An image has an identifier that no medium's image has, and none that the library may yet give; there is room; and it needs no parent.
abbrev pub image_checks : Library → List Image → Header → List Check
image_checks l images h =
    (has_id image_id h.id images, DuplicateId)
    ∷ (is_foreign l.seed l.next h.id, ForeignId)
    ∷ (nat_le MEDIA_LIMIT (length l.media), Full Media)
    ∷ (is_differencing h.image_type, BrokenChain 0)
    ∷ []

-- an image that may become a medium under its name
pub record CanOpen (e : Store) (image : Image) : Type 0 where
  pub free : has_name medium_entry_name image.name e.library.media ≡ false
  pub allowed : first_refusal (image_checks e.library (media_images e) image.header) ≡ None
  pub new : IsNewImage image

-- what comes of it that a file is not opened
abbrev pub undone_by : OpenFault → Undone Refusal
undone_by faults.Missing = undone.Refused NoSuchFile
undone_by (faults.Bad bad) = undone.Refused (NotAnImage (condition_number bad))
undone_by faults.Failed = undone.Failed
undone_by faults.NoMemory = undone.NoMemory
