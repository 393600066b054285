use Rattle.std.proofs.Common.{◌≡◌, List, [], ◌∷◌, refl, sym, ap, ◌∙◌, is_some, inl, inr}
use Rattle.std.specs.Str.{bytes_eq}
use Rattle.std.proofs.lemmas.Bool.{cases_Bool}
use Rattle.vbm_modes.specs.declared.Mode.{Mode}
use Rattle.vbm_named.specs.Names.{Name, put_by, without, change_by}
use Rattle.vbm_named.proofs.Lists.{same_name, rises_without, has_found, find_without_same, put_without}
use Rattle.vbm_registry.specs.declared.library.Library.{Library}
use Rattle.vbm_registry.specs.declared.media.Medium.{Medium}
use Rattle.vbm_registry.specs.Library.{medium_entry_name}
use Rattle.vbm_registry.proofs.library.Library.with_mode.Goals as goal

-- a medium in the place of the one of its name is that one in another mode
other_mode : (name : Name) (mode : Mode) (ms : List Medium)
    → change_by medium_entry_name name (λ _. record { name = name; mode = mode }) ms
    ≡ change_by medium_entry_name name (λ (m : Medium). record m { mode = mode }) ms
other_mode name mode [] = refl
other_mode name mode (m ∷ ms) = elim (cases_Bool (bytes_eq m.name name)) [
  | inl here ↦
      let same = same_name m.name name here in
      rw here (λ i. record { name = sym same i; mode = mode } ∷ other_mode name mode ms i)
  | inr other ↦ rw other (ap (λ (xs : List Medium). m ∷ xs) (other_mode name mode ms))
]

pub insert-requires-clause-rises : goal.insert-requires-clause-rises
insert-requires-clause-rises c =
    rw (c.remove.ensures, c.in_ok-library.ensures) (rises_without medium_entry_name c.args.name.now c.args.self.now.media c.requires.rises)

pub insert-requires-clause-another : goal.insert-requires-clause-another
insert-requires-clause-another c =
    rw (c.remove.ensures, c.in_ok-library.ensures, c.in_ok-new.ensures)
    (has_found medium_entry_name c.args.name.now (without medium_entry_name c.args.name.now c.args.self.now.media)
    ∙ ap is_some (find_without_same medium_entry_name c.args.name.now c.args.self.now.media))

pub returns : goal.returns
returns c =
    let name = c.args.name.now in
    let mode = c.args.mode in
    let ms = c.args.self.now.media in
    let put : c.insert.new.self ≡ put_by medium_entry_name (record { name = name; mode = mode }) (without medium_entry_name name ms) =
    c.in_ok-insert.ensures.ok
    ∙ (λ i. put_by medium_entry_name (record { name = c.in_ok-new.ensures i; mode = mode })
    ((c.remove.ensures ∙ ap (λ (l : Library). without medium_entry_name name l.media) c.in_ok-library.ensures) i)) in
    let media : c.insert.new.self ≡ change_by medium_entry_name name (λ (m : Medium). record m { mode = mode }) ms =
    put ∙ put_without medium_entry_name (record { name = name; mode = mode }) ms c.requires.rises c.requires.there ∙ other_mode name mode ms in
    λ i. record (c.in_ok-library.ensures i) { media = media i }
