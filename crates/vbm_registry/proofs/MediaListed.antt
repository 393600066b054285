-- Which seeds, counters and media fit the file.
use Rattle.std.proofs.Common.{◌≡◌, ℕ, ◌^◌, ◌<◌, ◌≤◌, true, ◌&&◌, List, [], ◌∷◌, ◌++◌, length, IsTrue, eqb, leb, ltb, refl, sym, subst, append_assoc, arith}
use Rattle.std.specs.Int.{w8, w16, w64}
use Rattle.std.specs.List.{AllByRecursion}
use Rattle.std.proofs.lemmas.Bool.{ltb-true, lt-ltb, leb-true, le-leb, eqb-true, eq-eqb}
use Rattle.std.proofs.lemmas.List.Elements.{All-from_recursion, recursion_from_All}
use Rattle.vbm_ports.specs.Names.{is_medium_name}
use Rattle.vbm_modes.specs.declared.Mode.{Mode}
use Rattle.vbm_modes.specs.declared.Mode.TheVariants.{Normal, Immutable, Writethrough, MultiAttach, Readonly}
use Rattle.vbm_ids.specs.declared.TheConstants.{NUMBER_LIMIT}
use Rattle.vbm_ids.specs.Identifier.{IsSeed}
use Rattle.vbm_named.specs.Names.{is_before, Rises}
use Rattle.vbm_world.specs.declared.limits.TheConstants.{MEDIA_LIMIT}
use Rattle.vbm_registry.specs.declared.media.Medium.{Medium}
use Rattle.vbm_registry.specs.declared.features.Features.{Features}
use Rattle.vbm_registry.specs.Library.{medium_entry_name}
use Rattle.vbm_registry.specs.Built.{is_built_mode}
use Rattle.vbm_registry.specs.Parts.{items_fit, number}
use Rattle.vbm_registry.specs.Spelling.{mode_code}
use Rattle.vbm_registry.specs.Grammar.{last_name, name_after, mode_of, mode_field, medium_entry, are_bytes, seed_field, drawn_field, Counters, counters, medium_list}
use Rattle.vbm_registry.proofs.PartLaws.{and_both, both_and}
use Rattle.vbm_registry.proofs.CountedLists.{counted_fits, fits_counted, name_fits, fits_name, medium_name_fits, next_after, rising}

-- ---- the seed and the counters

are_each : (bytes : List ℕ) → IsTrue (are_bytes bytes) → AllByRecursion (λ b. b < 256) bytes
are_each [] are = tt
are_each (b ∷ bytes) are = let both = and_both (ltb b 256) (are_bytes bytes) are in (ltb-true b 256 both.0, are_each bytes both.1)

each_are : (bytes : List ℕ) → AllByRecursion (λ b. b < 256) bytes → IsTrue (are_bytes bytes)
each_are [] each = refl
each_are (b ∷ bytes) each = both_and (ltb b 256) (are_bytes bytes) (lt-ltb b 256 each.0) (each_are bytes each.1)

seed_fits : (seed : List ℕ) → IsTrue (seed_field.fits seed) → IsSeed seed
unfolding seed_field
seed_fits seed fits =
    let both = and_both (eqb (length seed) 16) (are_bytes seed) fits in
    record { long = eqb-true _ _ both.0; bytes = All-from_recursion (λ b. b < 256) seed (are_each seed both.1) }

fits_seed : (seed : List ℕ) → IsSeed seed → IsTrue (seed_field.fits seed)
unfolding seed_field
fits_seed seed is =
    both_and (eqb (length seed) 16) (are_bytes seed) (eq-eqb _ _ is.long) (each_are seed (recursion_from_All (λ b. b < 256) seed is.bytes))

drawn_fits : (n : ℕ) → IsTrue (drawn_field.fits n) → n ≤ NUMBER_LIMIT
unfolding drawn_field
drawn_fits n fits = leb-true _ _ (and_both ((number w64).fits n) (leb n NUMBER_LIMIT) fits).1

fits_drawn : (n : ℕ) → n ≤ NUMBER_LIMIT → IsTrue (drawn_field.fits n)
unfolding drawn_field
fits_drawn n le =
    let lt : n < 2 ^ 64 = omega (arith, le) in
    both_and ((number w64).fits n) (leb n NUMBER_LIMIT) (lt-ltb _ _ lt) (le-leb _ _ le)

pub record CountersFit (c : Counters) : Type 0 where
  pub seed : IsSeed c.0
  pub next : c.1.0 ≤ NUMBER_LIMIT
  pub inner : c.1.1 ≤ NUMBER_LIMIT

pub counters_fit : (c : Counters) → IsTrue (counters.fits c) → CountersFit c
unfolding counters
counters_fit c fits =
    let a = and_both (seed_field.fits c.0) (drawn_field.fits c.1.0 && drawn_field.fits c.1.1) fits in
    let b = and_both (drawn_field.fits c.1.0) (drawn_field.fits c.1.1) a.1 in
    record { seed = seed_fits c.0 a.0; next = drawn_fits c.1.0 b.0; inner = drawn_fits c.1.1 b.1 }

pub fits_counters : (c : Counters) → CountersFit c → IsTrue (counters.fits c)
unfolding counters
fits_counters c is =
    both_and (seed_field.fits c.0) (drawn_field.fits c.1.0 && drawn_field.fits c.1.1) (fits_seed c.0 is.seed)
    (both_and (drawn_field.fits c.1.0) (drawn_field.fits c.1.1) (fits_drawn c.1.0 is.next) (fits_drawn c.1.1 is.inner))

-- ---- media

mode_back : (m : Mode) → (mode_of (mode_code m) ≡ m) × IsTrue (leb (mode_code m) 4) × IsTrue ((number w8).fits (mode_code m))
mode_back Normal = (refl, refl, refl)
mode_back Immutable = (refl, refl, refl)
mode_back Writethrough = (refl, refl, refl)
mode_back MultiAttach = (refl, refl, refl)
mode_back Readonly = (refl, refl, refl)

module _ (built : Features) where
  mode_fits : (m : Mode) → IsTrue ((mode_field built).fits m) → IsTrue (is_built_mode built m)
  unfolding mode_field
  mode_fits m fits =
      let wide = (number w8).fits (mode_code m) in
      let low = leb (mode_code m) 4 in
      let how = is_built_mode built (mode_of (mode_code m)) in
      let a = and_both (wide && (low && how)) true fits in
      let b = and_both low how (and_both wide (low && how) a.0).1 in
      subst (λ (k : Mode). IsTrue (is_built_mode built k)) (mode_back m).0 b.1

  fits_mode : (m : Mode) → IsTrue (is_built_mode built m) → IsTrue ((mode_field built).fits m)
  unfolding mode_field
  fits_mode m is =
      let wide = (number w8).fits (mode_code m) in
      let low = leb (mode_code m) 4 in
      let how = is_built_mode built (mode_of (mode_code m)) in
      let back = mode_back m in
      both_and (wide && (low && how)) true (both_and wide (low && how) back.2
      (both_and low how back.1 (subst (λ (k : Mode). IsTrue (is_built_mode built k)) (sym back.0) is))) refl

  pub record IsMediumEntry (m : Medium) : Type 0 where
    pub name : IsTrue (is_medium_name m.name)
    pub mode : IsTrue (is_built_mode built m.mode)

  medium_fits : (before : List Medium) (m : Medium) → IsTrue ((medium_entry built before).fits m)
      → IsMediumEntry m × IsTrue (is_before (last_name medium_entry_name before) m.name)
  unfolding medium_entry
  medium_fits before m fits =
      let name = (name_after is_medium_name (last_name medium_entry_name before)).fits m.name in
      let how = (mode_field built).fits m.mode in
      let both = and_both name how (and_both (name && how) true fits).0 in
      let named = name_fits is_medium_name (last_name medium_entry_name before) m.name both.0 in
      (record { name = named.named; mode = mode_fits m.mode both.1 }, named.after)

  fits_medium : (before : List Medium) (m : Medium) → IsMediumEntry m → IsTrue (is_before (last_name medium_entry_name before) m.name)
      → IsTrue ((medium_entry built before).fits m)
  unfolding medium_entry
  fits_medium before m is after =
      let name = (name_after is_medium_name (last_name medium_entry_name before)).fits m.name in
      let how = (mode_field built).fits m.mode in
      both_and (name && how) true (both_and name how
      (fits_name is_medium_name (last_name medium_entry_name before) m.name (medium_name_fits m.name is.name).1
      (record { named = is.name; after = after }))
      (fits_mode m.mode is.mode)) refl

  media_fit : (before xs : List Medium) → IsTrue (items_fit (medium_entry built) before xs) → AllByRecursion IsMediumEntry xs
  media_fit before [] fits = tt
  media_fit before (m ∷ xs) fits =
      let both = and_both ((medium_entry built before).fits m) (items_fit (medium_entry built) (before ++ m ∷ []) xs) fits in
      ((medium_fits before m both.0).0, media_fit (before ++ m ∷ []) xs both.1)

  fit_media : (before xs : List Medium) → Rises medium_entry_name (before ++ xs) → AllByRecursion IsMediumEntry xs
      → IsTrue (items_fit (medium_entry built) before xs)
  fit_media before [] rises each = refl
  fit_media before (m ∷ xs) rises each =
      both_and ((medium_entry built before).fits m) (items_fit (medium_entry built) (before ++ m ∷ []) xs)
      (fits_medium before m each.0 (next_after medium_entry_name before m xs (medium_name_fits m.name each.0.name).0 rises))
      (fit_media (before ++ m ∷ []) xs (subst (Rises medium_entry_name) (sym (append_assoc before (m ∷ []) xs)) rises) each.1)

  pub record AreMedia (xs : List Medium) : Type 0 where
    pub few : length xs ≤ MEDIA_LIMIT
    pub rise : Rises medium_entry_name xs
    pub each : AllByRecursion IsMediumEntry xs

  pub medium_list_fits : (xs : List Medium) → IsTrue ((medium_list built).fits xs) → AreMedia xs
  unfolding medium_list
  medium_list_fits xs fits =
      let is = counted_fits w16 (λ n. leb n MEDIA_LIMIT) (λ _. medium_entry built) xs fits in
      record {
        few = leb-true _ _ is.count;
        rise = rising medium_entry_name (medium_entry built) (λ before m fit. (medium_fits before m fit).1) [] xs tt is.each;
        each = media_fit [] xs is.each;
      }

  pub fits_medium_list : (xs : List Medium) → AreMedia xs → IsTrue ((medium_list built).fits xs)
  unfolding medium_list
  fits_medium_list xs are =
      let small : length xs < 65536 = omega (arith, are.few) in
      fits_counted w16 (λ n. leb n MEDIA_LIMIT) (λ _. medium_entry built) xs
      (record { width = small; count = le-leb _ _ are.few; each = fit_media [] xs are.rise are.each })
