-- The fields of a library fit exactly where those of each part do.
use Rattle.std.proofs.Common.{ℕ, true, ◌&&◌, IsTrue, refl}
use Rattle.vbm_registry.specs.declared.library.Library.{Library}
use Rattle.vbm_registry.specs.declared.features.Features.{Features}
use Rattle.vbm_registry.specs.Grammar.{Counters, counters, Lists, lists, medium_list, inner_list, machine_list, making_field, merging_list, library_fields}
use Rattle.vbm_registry.proofs.PartLaws.{and_both, both_and}

abbrev pub counters_of : Library → Counters
counters_of l = (l.seed, (l.next, l.inner))

abbrev lists_of : Library → Lists
lists_of l = (l.media, (l.inners, l.machines))

module _ (built : Features) where
  pub record FieldsFit (l : Library) : Type 0 where
    pub drawn : IsTrue (counters.fits (counters_of l))
    pub media : IsTrue ((medium_list built).fits l.media)
    pub inners : IsTrue ((inner_list built l.media l.inner).fits l.inners)
    pub machines : IsTrue ((machine_list built l.media l.inners).fits l.machines)
    pub making : IsTrue ((making_field built l.media).fits l.making)
    pub merging : IsTrue ((merging_list built).fits l.merging)

  record ListsFit (inner : ℕ) (ls : Lists) : Type 0 where
    media : IsTrue ((medium_list built).fits ls.0)
    inners : IsTrue ((inner_list built ls.0 inner).fits ls.1.0)
    machines : IsTrue ((machine_list built ls.0 ls.1.0).fits ls.1.1)

  lists_fit : (inner : ℕ) (ls : Lists) → IsTrue ((lists built inner).fits ls) → ListsFit inner ls
  unfolding lists
  lists_fit inner ls fits =
      let media = (medium_list built).fits ls.0 in
      let inners = (inner_list built ls.0 inner).fits ls.1.0 in
      let machines = (machine_list built ls.0 ls.1.0).fits ls.1.1 in
      let a = and_both media (inners && machines) fits in
      let b = and_both inners machines a.1 in
      record { media = a.0; inners = b.0; machines = b.1 }

  fits_lists : (inner : ℕ) (ls : Lists) → ListsFit inner ls → IsTrue ((lists built inner).fits ls)
  unfolding lists
  fits_lists inner ls is =
      let media = (medium_list built).fits ls.0 in
      let inners = (inner_list built ls.0 inner).fits ls.1.0 in
      let machines = (machine_list built ls.0 ls.1.0).fits ls.1.1 in
      both_and media (inners && machines) is.media (both_and inners machines is.inners is.machines)

  pub fields_fit : (l : Library) → IsTrue ((library_fields built).fits l) → FieldsFit l
  unfolding library_fields
  fields_fit l fits =
      let drawn = counters.fits (counters_of l) in
      let listed = (lists built l.inner).fits (lists_of l) in
      let making = (making_field built l.media).fits l.making in
      let merging = (merging_list built).fits l.merging in
      let a = and_both drawn (listed && (making && merging)) (and_both (drawn && (listed && (making && merging))) true fits).0 in
      let b = and_both listed (making && merging) a.1 in
      let c = and_both making merging b.1 in
      let ls = lists_fit l.inner (lists_of l) b.0 in
      record { drawn = a.0; media = ls.media; inners = ls.inners; machines = ls.machines; making = c.0; merging = c.1 }

  pub fits_fields : (l : Library) → FieldsFit l → IsTrue ((library_fields built).fits l)
  unfolding library_fields
  fits_fields l is =
      let drawn = counters.fits (counters_of l) in
      let listed = (lists built l.inner).fits (lists_of l) in
      let making = (making_field built l.media).fits l.making in
      let merging = (merging_list built).fits l.merging in
      both_and (drawn && (listed && (making && merging))) true (both_and drawn (listed && (making && merging)) is.drawn
      (both_and listed (making && merging)
      (fits_lists l.inner (lists_of l) (record { media = is.media; inners = is.inners; machines = is.machines }))
      (both_and making merging is.making is.merging))) refl
