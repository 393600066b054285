-- A list of slots fits the file exactly where it keeps its rules, said of places.
use Rattle.std.proofs.Common.{◌≡◌, ℕ, ◌+◌, ◌^◌, ◌<◌, ◌≤◌, Bool, true, false, not, ◌&&◌, ◌||◌, List, [], ◌∷◌, ◌++◌, length, IsTrue, IsFalse, Option, Some, None, leb, ltb, refl, sym, ap, subst, ◌∙◌, arith}
use Rattle.std.specs.Prelude.{◌==◌}
use Rattle.std.specs.Int.{w8, w16, w64}
use Rattle.std.specs.List.{AllByRecursion}
use Rattle.std.proofs.lemmas.Bool.{ltb-true, lt-ltb, leb-true, le-leb, eqb-true, eq-eqb}
use Rattle.std.proofs.lemmas.List.Folds.{list_any-append}
use Rattle.std.proofs.Math.Bool.{or-false}
use Rattle.vbm_machines.specs.declared.Held.{Held}
use Rattle.vbm_machines.specs.declared.Held.TheVariants.{Direct, Own, Base}
use Rattle.vbm_machines.specs.declared.Slot.{Slot}
use Rattle.vbm_world.specs.declared.limits.TheConstants.{MEDIA_LIMIT, PORT_LIMIT}
use Rattle.vbm_world.specs.World.{is_immutable}
use Rattle.vbm_registry.specs.declared.media.Medium.{Medium}
use Rattle.vbm_registry.specs.declared.library.Inner.{Inner}
use Rattle.vbm_registry.specs.declared.library.ImageRef.TheVariants as refs
use Rattle.vbm_registry.specs.Held.{may_hold}
use Rattle.vbm_registry.specs.Parts.{items_fit, number}
use Rattle.vbm_registry.specs.Grammar.{mode_at, held_of, held_code, is_base_at, base_of, flag_field, held_fields, own_number, next_port, has_place, port_after, other_medium, autoreset_field, slot_entry}
use Rattle.vbm_registry.proofs.PlaceTests.{implies, implied}
use Rattle.vbm_registry.proofs.PartLaws.{and_both, both_and}
use Rattle.vbm_registry.proofs.GrammarLaws.{not_true}
use Rattle.vbm_registry.proofs.CountedLists.{it_not, last_push}

-- ports rise strictly, from this one on
abbrev pub PlacedPortsRise : ℕ → List Slot → Type 0
PlacedPortsRise low [] = Unit {0}
PlacedPortsRise low (s ∷ slots) = (low ≤ s.port) × PlacedPortsRise (s.port + 1) slots

-- no medium stands twice
abbrev pub PlacesDiffer : List Slot → Type 0
PlacesDiffer [] = Unit {0}
PlacesDiffer (s ∷ slots) = AllByRecursion (λ (t : Slot). IsFalse (s.medium == t.medium)) slots × PlacesDiffer slots

-- an own image is one of the medium
abbrev pub IsPlacedOwn : List Inner → ℕ → Held → Type 0
IsPlacedOwn inners medium Direct = Unit {0}
IsPlacedOwn inners medium (Own n) = (n < 2 ^ 64) × (base_of inners (refs.Inner n) ≡ Some medium)
IsPlacedOwn inners medium Base = Unit {0}

pub record IsPlacedSlot (media : List Medium) (inners : List Inner) (of_snapshot : Bool) (s : Slot) : Type 0 where
  pub port : s.port < PORT_LIMIT
  pub medium : s.medium < length media
  pub autoreset : IsTrue s.autoreset → IsTrue (is_immutable (mode_at media s.medium))
  pub held : IsTrue (may_hold of_snapshot (mode_at media s.medium) s.held)
  pub own : IsPlacedOwn inners s.medium s.held

pub record ArePlacedSlots (media : List Medium) (inners : List Inner) (of_snapshot : Bool) (slots : List Slot) : Type 0 where
  pub ports : PlacedPortsRise 0 slots
  pub different : PlacesDiffer slots
  pub each : AllByRecursion (IsPlacedSlot media inners of_snapshot) slots

-- so few ports are below the limit
pub few_ports : (P : Slot → Type 0) → ((s : Slot) → P s → s.port < PORT_LIMIT) → (low : ℕ) (slots : List Slot) → PlacedPortsRise low slots
    → AllByRecursion P slots → low ≤ PORT_LIMIT → low + length slots ≤ PORT_LIMIT
few_ports P below low [] rises each le = omega arith
few_ports P below low (s ∷ slots) rises each le =
    let next : s.port + 1 ≤ PORT_LIMIT = omega (arith, below s each.0) in
    omega (arith, few_ports P below (s.port + 1) slots rises.1 each.1 next, rises.0)

-- ---- truths

neither : (a b : Bool) → IsFalse (a || b) → IsFalse a × IsFalse b
neither true b h = absurd cc
neither false b h = (refl, h)

either_not : (a b : Bool) → IsFalse a → IsFalse b → IsFalse (a || b)
either_not true b h e = absurd cc
either_not false b h e = e

base_at_is : (medium : ℕ) (o : Option ℕ) → IsTrue (is_base_at medium o) → o ≡ Some medium
base_at_is medium None h = absurd cc
base_at_is medium (Some place) h = ap (λ (n : ℕ). Some n) (eqb-true place medium h)

is_base_at_it : (medium : ℕ) (o : Option ℕ) → o ≡ Some medium → IsTrue (is_base_at medium o)
is_base_at_it medium o e = rw e (eq-eqb medium medium refl)

code_fits : (h : Held) → IsTrue ((number w8).fits (held_code h).0) × IsTrue (ltb (held_code h).0 3)
code_fits Direct = (refl, refl)
code_fits (Own n) = (refl, refl)
code_fits Base = (refl, refl)

-- the number of an own image does not matter
held_same : (of_snapshot : Bool) (media : List Medium) (medium : ℕ) (h : Held)
    → may_hold of_snapshot (mode_at media medium) (held_of (held_code h).0 0) ≡ may_hold of_snapshot (mode_at media medium) h
held_same of_snapshot media medium Direct = refl
held_same of_snapshot media medium (Own n) = refl
held_same of_snapshot media medium Base = refl

flag_fits : (b : Bool) → IsTrue (flag_field.fits b)
unfolding flag_field
flag_fits true = refl
flag_fits false = refl

module _ (media : List Medium) (inners : List Inner) (of_snapshot : Bool) where
  -- ---- one slot

  own_fits : (medium : ℕ) (h : Held) → IsTrue ((own_number inners medium (held_code h).0).fits (held_code h).1) → IsPlacedOwn inners medium h
  own_fits medium Direct fits = tt
  own_fits medium (Own n) fits =
      let b = and_both ((number w64).fits n) (is_base_at medium (base_of inners (refs.Inner n))) fits in
      (ltb-true _ _ b.0, base_at_is medium (base_of inners (refs.Inner n)) b.1)
  own_fits medium Base fits = tt

  fits_own : (medium : ℕ) (h : Held) → IsPlacedOwn inners medium h → IsTrue ((own_number inners medium (held_code h).0).fits (held_code h).1)
  fits_own medium Direct own = refl
  fits_own medium (Own n) own =
      both_and ((number w64).fits n) (is_base_at medium (base_of inners (refs.Inner n))) (lt-ltb _ _ own.0)
      (is_base_at_it medium (base_of inners (refs.Inner n)) own.1)
  fits_own medium Base own = refl

  held_fits : (medium : ℕ) (h : Held) → IsTrue ((held_fields of_snapshot media inners medium).fits h)
      → IsTrue (may_hold of_snapshot (mode_at media medium) h) × IsPlacedOwn inners medium h
  unfolding held_fields
  held_fits medium h fits =
      let wide = (number w8).fits (held_code h).0 in
      let low = ltb (held_code h).0 3 in
      let may = may_hold of_snapshot (mode_at media medium) (held_of (held_code h).0 0) in
      let own = (own_number inners medium (held_code h).0).fits (held_code h).1 in
      let a = and_both ((wide && (low && may)) && own) true fits in
      let b = and_both (wide && (low && may)) own a.0 in
      let c = and_both low may (and_both wide (low && may) b.0).1 in
      (sym (held_same of_snapshot media medium h) ∙ c.1, own_fits medium h b.1)

  fits_held : (medium : ℕ) (h : Held) → IsTrue (may_hold of_snapshot (mode_at media medium) h) → IsPlacedOwn inners medium h
      → IsTrue ((held_fields of_snapshot media inners medium).fits h)
  unfolding held_fields
  fits_held medium h holds is =
      let wide = (number w8).fits (held_code h).0 in
      let low = ltb (held_code h).0 3 in
      let may = may_hold of_snapshot (mode_at media medium) (held_of (held_code h).0 0) in
      let own = (own_number inners medium (held_code h).0).fits (held_code h).1 in
      let code = code_fits h in
      both_and ((wide && (low && may)) && own) true (both_and (wide && (low && may)) own (both_and wide (low && may) code.0
      (both_and low may code.1 (held_same of_snapshot media medium h ∙ holds))) (fits_own medium h is)) refl

  -- what the tests of one slot say, of those before it
  record SlotFits (before : List Slot) (s : Slot) : Type 0 where
    port : next_port before ≤ s.port
    other : IsFalse (has_place s.medium before)
    itself : IsPlacedSlot media inners of_snapshot s

  slot_fits : (before : List Slot) (s : Slot) → IsTrue ((slot_entry of_snapshot media inners before).fits s) → SlotFits before s
  unfolding slot_entry port_after other_medium autoreset_field
  slot_fits before s fits =
      let p0 = (number w8).fits s.port in
      let p1 = leb (next_port before) s.port in
      let p2 = ltb s.port PORT_LIMIT in
      let m0 = (number w16).fits s.medium in
      let m1 = ltb s.medium (length media) in
      let m2 = not (has_place s.medium before) in
      let r0 = flag_field.fits s.autoreset in
      let r1 = not s.autoreset || is_immutable (mode_at media s.medium) in
      let h = (held_fields of_snapshot media inners s.medium).fits s.held in
      let a = and_both ((p0 && (p1 && p2)) && ((m0 && (m1 && m2)) && ((r0 && r1) && h))) true fits in
      let b = and_both (p0 && (p1 && p2)) ((m0 && (m1 && m2)) && ((r0 && r1) && h)) a.0 in
      let p = and_both p1 p2 (and_both p0 (p1 && p2) b.0).1 in
      let c = and_both (m0 && (m1 && m2)) ((r0 && r1) && h) b.1 in
      let m = and_both m1 m2 (and_both m0 (m1 && m2) c.0).1 in
      let d = and_both (r0 && r1) h c.1 in
      let own = held_fits s.medium s.held d.1 in
      record {
        port = leb-true _ _ p.0;
        other = not_true (has_place s.medium before) m.1;
        itself = record {
          port = ltb-true _ _ p.1;
          medium = ltb-true _ _ m.0;
          autoreset = implies s.autoreset (is_immutable (mode_at media s.medium)) (and_both r0 r1 d.0).1;
          held = own.0;
          own = own.1;
        };
      }

  fits_slot : (before : List Slot) (s : Slot) → length media ≤ MEDIA_LIMIT → SlotFits before s
      → IsTrue ((slot_entry of_snapshot media inners before).fits s)
  unfolding slot_entry port_after other_medium autoreset_field
  fits_slot before s few is =
      let p0 = (number w8).fits s.port in
      let p1 = leb (next_port before) s.port in
      let p2 = ltb s.port PORT_LIMIT in
      let m0 = (number w16).fits s.medium in
      let m1 = ltb s.medium (length media) in
      let m2 = not (has_place s.medium before) in
      let r0 = flag_field.fits s.autoreset in
      let r1 = not s.autoreset || is_immutable (mode_at media s.medium) in
      let h = (held_fields of_snapshot media inners s.medium).fits s.held in
      let port : s.port < 256 = omega (arith, is.itself.port) in
      let medium : s.medium < 65536 = omega (arith, is.itself.medium, few) in
      both_and ((p0 && (p1 && p2)) && ((m0 && (m1 && m2)) && ((r0 && r1) && h))) true
      (both_and (p0 && (p1 && p2)) ((m0 && (m1 && m2)) && ((r0 && r1) && h))
      (both_and p0 (p1 && p2) (lt-ltb _ _ port) (both_and p1 p2 (le-leb _ _ is.port) (lt-ltb _ _ is.itself.port)))
      (both_and (m0 && (m1 && m2)) ((r0 && r1) && h)
      (both_and m0 (m1 && m2) (lt-ltb _ _ medium) (both_and m1 m2 (lt-ltb _ _ is.itself.medium) (it_not (has_place s.medium before) is.other)))
      (both_and (r0 && r1) h
      (both_and r0 r1 (flag_fits s.autoreset) (implied s.autoreset (is_immutable (mode_at media s.medium)) is.itself.autoreset))
      (fits_held s.medium s.held is.itself.held is.itself.own)))) refl

  -- ---- all slots

  place_push : (before : List Slot) (s : Slot) (medium : ℕ) → has_place medium (before ++ s ∷ []) ≡ (has_place medium before || (s.medium == medium))
  place_push before s medium =
      list_any-append (λ (x : Slot). x.medium == medium) before (s ∷ [])
      ∙ ap (λ (b : Bool). has_place medium before || b) (or-false (s.medium == medium))

  abbrev NotIn : List Slot → List Slot → Type 0
  NotIn before slots = AllByRecursion (λ (t : Slot). IsFalse (has_place t.medium before)) slots

  apart_from : (before : List Slot) (s : Slot) (slots : List Slot) → NotIn (before ++ s ∷ []) slots
      → NotIn before slots × AllByRecursion (λ (t : Slot). IsFalse (s.medium == t.medium)) slots
  apart_from before s [] not_in = (tt, tt)
  apart_from before s (t ∷ slots) not_in =
      let one = neither (has_place t.medium before) (s.medium == t.medium) (sym (place_push before s t.medium) ∙ not_in.0) in
      let others = apart_from before s slots not_in.1 in
      ((one.0, others.0), (one.1, others.1))

  from_apart : (before : List Slot) (s : Slot) (slots : List Slot) → NotIn before slots
      → AllByRecursion (λ (t : Slot). IsFalse (s.medium == t.medium)) slots → NotIn (before ++ s ∷ []) slots
  from_apart before s [] not_in apart = tt
  from_apart before s (t ∷ slots) not_in apart = (
    place_push before s t.medium ∙ either_not (has_place t.medium before) (s.medium == t.medium) not_in.0 apart.0,
    from_apart before s slots not_in.1 apart.1,
  )

  record SlotsFit (before slots : List Slot) : Type 0 where
    ports : PlacedPortsRise (next_port before) slots
    others : NotIn before slots
    different : PlacesDiffer slots
    each : AllByRecursion (IsPlacedSlot media inners of_snapshot) slots

  slots_fit : (before slots : List Slot) → IsTrue (items_fit (slot_entry of_snapshot media inners) before slots) → SlotsFit before slots
  slots_fit before [] fits = record { ports = tt; others = tt; different = tt; each = tt }
  slots_fit before (s ∷ slots) fits =
      let both = and_both ((slot_entry of_snapshot media inners before).fits s)
      (items_fit (slot_entry of_snapshot media inners) (before ++ s ∷ []) slots) fits in
      let here = slot_fits before s both.0 in
      let more = slots_fit (before ++ s ∷ []) slots both.1 in
      let apart = apart_from before s slots more.others in
      record {
        ports = (here.port, subst (λ (n : ℕ). PlacedPortsRise n slots) (last_push 0 (λ (x : Slot). x.port + 1) before s) more.ports);
        others = (here.other, apart.0);
        different = (apart.1, more.different);
        each = (here.itself, more.each);
      }

  fit_slots : (before slots : List Slot) → length media ≤ MEDIA_LIMIT → SlotsFit before slots
      → IsTrue (items_fit (slot_entry of_snapshot media inners) before slots)
  fit_slots before [] few all = refl
  fit_slots before (s ∷ slots) few all =
      both_and ((slot_entry of_snapshot media inners before).fits s) (items_fit (slot_entry of_snapshot media inners) (before ++ s ∷ []) slots)
      (fits_slot before s few (record { port = all.ports.0; other = all.others.0; itself = all.each.0 }))
      (fit_slots (before ++ s ∷ []) slots few (record {
        ports = subst (λ (n : ℕ). PlacedPortsRise n slots) (sym (last_push 0 (λ (x : Slot). x.port + 1) before s)) all.ports.1;
        others = from_apart before s slots all.others.1 all.different.0;
        different = all.different.1;
        each = all.each.1;
      }))

  none_before : (slots : List Slot) → NotIn [] slots
  none_before [] = tt
  none_before (s ∷ slots) = (refl, none_before slots)

  pub all_slots_fit : (slots : List Slot) → IsTrue (items_fit (slot_entry of_snapshot media inners) [] slots)
      → ArePlacedSlots media inners of_snapshot slots
  all_slots_fit slots fits =
      let all = slots_fit [] slots fits in record { ports = all.ports; different = all.different; each = all.each }

  pub fit_all_slots : (slots : List Slot) → length media ≤ MEDIA_LIMIT → ArePlacedSlots media inners of_snapshot slots
      → IsTrue (items_fit (slot_entry of_snapshot media inners) [] slots)
  fit_all_slots slots few are =
      fit_slots [] slots few (record { ports = are.ports; others = none_before slots; different = are.different; each = are.each })

  pub few_slots : (slots : List Slot) → ArePlacedSlots media inners of_snapshot slots → length slots ≤ PORT_LIMIT
  few_slots slots are =
      omega (arith, few_ports (IsPlacedSlot media inners of_snapshot) (λ s is. is.port) 0 slots are.ports are.each (omega arith))
