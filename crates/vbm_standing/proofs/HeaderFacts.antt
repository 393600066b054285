-- Headers of accepted files, and of files that are the same.
use Rattle.std.proofs.Common.{◌≡◌, List, ℕ, Some, Ok, sym, ap, ◌∙◌}
use Rattle.vbm_ports.specs.Files.{Files, bytes_of}
use Rattle.vbm_header.specs.declared.Header.{Header}
use Rattle.vbm_header.specs.Header.{fields}
use Rattle.vbm_volume.specs.Image.{image_of}
use Rattle.vbm_volume.proofs.Likes.{image_fields}
use Rattle.vbm_named.specs.Names.{Name}
use Rattle.vbm_registry.specs.declared.media.Medium.{Medium}
use Rattle.vbm_standing.specs.Headers.{header_in}
use Rattle.vbm_standing.specs.Faults.{id_in}

pub header_of_file : (files : Files) (name : Name) (f : List ℕ) (h : Header) → files name ≡ Some f → image_of f ≡ Ok h → header_in files name ≡ h
unfolding header_in
header_of_file files name f h there is = ap (λ o. fields (bytes_of o)) there ∙ sym (image_fields f h is)

module _ (a b : Files) where
  pub header_frame : (name : Name) → b name ≡ a name → header_in b name ≡ header_in a name
  unfolding header_in
  header_frame name e = ap (λ o. fields (bytes_of o)) e

  pub id_frame : (m : Medium) → b m.name ≡ a m.name → id_in b m ≡ id_in a m
  id_frame m e = ap (λ (h : Header). h.id) (header_frame m.name e)
