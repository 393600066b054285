-- What the rules of a library say of its places.
use Rattle.std.proofs.Common.{◌≡◌, ℕ, ◌+◌, Bool, true, false, List, [], ◌∷◌, map, reverse, Some, refl, ap, ◌∙◌, inl, inr, is_some}
use Rattle.std.specs.Prelude.{◌==◌}
use Rattle.std.specs.List.{AllByRecursion}
use Rattle.std.proofs.lemmas.Bool.{cases_Bool}
use Rattle.vbm_machines.specs.declared.Held.{Held}
use Rattle.vbm_machines.specs.declared.Held.TheVariants.{Direct, Own, Base}
use Rattle.vbm_named.specs.Names.{Name, has_name}
use Rattle.vbm_named.proofs.Lists.{has_found, All-map, All-join}
use Rattle.vbm_registry.specs.Library.{medium_entry_name}
use Rattle.vbm_registry.specs.Named.{ImageName, OfMedium, OfInner, NamedInner, NamedSlot, NamedMachine, NamedLibrary, images_of}
use Rattle.vbm_registry.specs.Chains.{inner_down, medium_below}
use Rattle.vbm_registry.specs.Rules.{has_number, IsOwnOf, IsNamedSlot, IsMachine}
use Rattle.vbm_standing.proofs.WorldParts.{OfHeld, OfPlace, OfMachine, OfKept}
use Rattle.vbm_standing.specs.Edits.{Renewal, new_inners, renewal_over, renewal_of}
use Rattle.vbm_standing.specs.EditedFiles.{HasImage}

-- an image whose chain ends at a medium is listed
pub own-listed : (xs : List NamedInner) (n : ℕ) (medium : Name) → medium_below (inner_down xs n) ≡ Some medium → has_number n xs ≡ true
unfolding inner_down
own-listed [] n medium is = absurd cc
own-listed (x ∷ xs) n medium is = elim (cases_Bool (x.number == n)) [
  | inl here ↦ rw here refl
  | inr other ↦ rw other (own-listed xs n medium (rw other at is))
]

module _ (l : NamedLibrary) where
  held-listed : (medium : Name) (h : Held) → has_name medium_entry_name medium l.media ≡ true → IsOwnOf l.inners medium h → OfHeld (HasImage l) medium h
  held-listed medium Direct there own = tt
  held-listed medium (Own n) there own = own-listed (reverse l.inners) n medium own
  held-listed medium Base there own = there

  pub place-listed : (of_snapshot : Bool) (s : NamedSlot) → IsNamedSlot (images_of l) of_snapshot s → OfPlace (HasImage l) s
  place-listed of_snapshot s is = held-listed s.medium s.held (has_found medium_entry_name s.medium l.media ∙ ap is_some is.there) is.own

  pub machine-listed : (m : NamedMachine) → IsMachine (images_of l) m → OfMachine (HasImage l) m
  machine-listed m is = (
    All-map _ _ (place-listed false) m.slots is.slots.valid.each,
    All-map _ _ (λ s of. All-map _ _ (place-listed true) s.slots of.places.valid.each) m.snapshots is.snapshots,
  )

-- a property that follows from another, of a place
module _ (P Q : ImageName → Type 0) (f : (image : ImageName) → P image → Q image) where
  pub held-map : (medium : Name) (h : Held) → OfHeld P medium h → OfHeld Q medium h
  held-map medium Direct p = tt
  held-map medium (Own n) p = f (OfInner n) p
  held-map medium Base p = f (OfMedium medium) p

  pub places-map : (slots : List NamedSlot) → AllByRecursion (OfPlace P) slots → AllByRecursion (OfPlace Q) slots
  places-map slots all = All-map _ _ (λ s p. held-map s.medium s.held p) slots all

  pub machine-map : (m : NamedMachine) → OfMachine P m → OfMachine Q m
  machine-map m all = (places-map m.slots all.0, All-map _ _ (λ s p. places-map s.slots p) m.snapshots all.1)

-- ---- what new images stand on

module _ (P : ImageName → Type 0) where
  over-parents : (s : NamedSlot) (h : Held) (rs : List Renewal) (n : ℕ) → OfHeld P s.medium h
      → ((m : ℕ) → AllByRecursion (λ (x : NamedInner). P x.parent) (new_inners m rs))
      → AllByRecursion (λ (x : NamedInner). P x.parent) (new_inners n (renewal_over s h ∷ rs))
  over-parents s Direct rs n p rest = rest n
  over-parents s (Own k) rs n p rest = (p, rest (n + 1))
  over-parents s Base rs n p rest = (p, rest (n + 1))

  -- a new image over a place stands on what the place holds
  pub parents-over : (slots : List NamedSlot) (n : ℕ) → AllByRecursion (OfPlace P) slots
      → AllByRecursion (λ (x : NamedInner). P x.parent) (new_inners n (map renewal_of slots))
  parents-over [] n all = tt
  parents-over (s ∷ slots) n all = over-parents s s.held (map renewal_of slots) n all.0 (λ m. parents-over slots m all.1)

  kept-over : (s : NamedSlot) (h : Held) (rs : List Renewal) → OfPlace P s → OfKept P rs → OfKept P (renewal_over s h ∷ rs)
  kept-over s Direct rs p rest = (p, rest)
  kept-over s (Own k) rs p rest = rest
  kept-over s Base rs p rest = rest

  pub kepts-over : (slots : List NamedSlot) → AllByRecursion (OfPlace P) slots → OfKept P (map renewal_of slots)
  kepts-over [] all = tt
  kepts-over (s ∷ slots) all = kept-over s s.held (map renewal_of slots) all.0 (kepts-over slots all.1)

-- two properties of what places hold
module _ (P Q : ImageName → Type 0) where
  held-both : (medium : Name) (h : Held) → OfHeld P medium h → OfHeld Q medium h → OfHeld (λ image. P image × Q image) medium h
  held-both medium Direct p q = tt
  held-both medium (Own n) p q = (p, q)
  held-both medium Base p q = (p, q)

  pub places-both : (slots : List NamedSlot) → AllByRecursion (OfPlace P) slots → AllByRecursion (OfPlace Q) slots → AllByRecursion (OfPlace (λ image. P image × Q image)) slots
  places-both slots p q = All-join _ _ _ (λ s x y. held-both s.medium s.held x y) slots p q

  pub machine-both : (m : NamedMachine) → OfMachine P m → OfMachine Q m → OfMachine (λ image. P image × Q image) m
  machine-both m p q = (places-both m.slots p.0 q.0, All-join _ _ _ (λ s x y. places-both s.slots x y) m.snapshots p.1 q.1)
