-- Chains of images, in lists of inner images that come with their last one first.
use Rattle.std.proofs.Common.{◌≡◌, ℕ, ◌<◌, ◌≤◌, Bool, true, false, cond, List, [], ◌∷◌, ◌++◌, refl, sym, ap, subst, ◌∙◌, arith, inl, inr, IsTrue, IsFalse, ne_eqb, eqb-true}
use Rattle.std.specs.Prelude.{◌==◌}
use Rattle.std.specs.List.{AllByRecursion}
use Rattle.std.proofs.lemmas.Bool.{cases_Bool, cond_both, eq-eqb}
use Rattle.vbm_named.proofs.Lists.{All-join}
use Rattle.vbm_registry.specs.declared.media.Medium.{Medium}
use Rattle.vbm_registry.specs.Named.{ImageName, OfMedium, OfInner, NamedInner}
use Rattle.vbm_registry.specs.Chains.{parent_down, inner_down, images_down}
use Rattle.vbm_registry.specs.Rules.{has_number}
use Rattle.vbm_registry.specs.Entries.{inners_left}
use Rattle.vbm_standing.specs.EditedFiles.{IsImageIn, IsStaying}

-- ---- what an inner image with a number below others has under it

-- an inner image's number is below this one
abbrev pub IsUnder : ℕ → ImageName → Type 0
IsUnder bound (OfMedium name) = Unit {0}
IsUnder bound (OfInner n) = n < bound

abbrev pub AreFrom : ℕ → List NamedInner → Type 0
AreFrom bound ys = AllByRecursion (λ (y : NamedInner). bound ≤ y.number) ys

inner_down-more : (ys xs : List NamedInner) (bound n : ℕ) → AreFrom bound ys → n < bound → inner_down (ys ++ xs) n ≡ inner_down xs n
unfolding inner_down
inner_down-more [] xs bound n from lt = refl
inner_down-more (y ∷ ys) xs bound n from lt =
    let other : (y.number == n) ≡ false = ne_eqb y.number n (λ same. omega (arith, from.0)) in
    rw other (inner_down-more ys xs bound n from.1 lt)

-- images with greater numbers change no chain
pub images_down-more : (ys xs : List NamedInner) (bound : ℕ) (image : ImageName) → AreFrom bound ys → IsUnder bound image
    → images_down (ys ++ xs) image ≡ images_down xs image
images_down-more ys xs bound (OfMedium name) from under = refl
images_down-more ys xs bound (OfInner n) from under = inner_down-more ys xs bound n from under

-- numbers fall strictly
abbrev pub Falls : List NamedInner → Type 0
Falls [] = Unit {0}
Falls (y ∷ ys) = AllByRecursion (λ (z : NamedInner). z.number < y.number) ys × Falls ys

inner_down-here : (x : NamedInner) (earlier : List NamedInner) → inner_down (x ∷ earlier) x.number ≡ OfInner x.number ∷ images_down earlier x.parent
unfolding inner_down
inner_down-here x earlier = let same : (x.number == x.number) ≡ true = eq-eqb _ _ refl in rw same refl

inner_down-there : (x : NamedInner) (earlier : List NamedInner) (n : ℕ) → (x.number == n) ≡ false → inner_down (x ∷ earlier) n ≡ inner_down earlier n
unfolding inner_down
inner_down-there x earlier n other = rw other refl

-- new images on images that were there
pub images_down-new : (ys xs : List NamedInner) (bound : ℕ) → Falls ys → AreFrom bound ys → AllByRecursion (λ (y : NamedInner). IsUnder bound y.parent) ys
    → AllByRecursion (λ (y : NamedInner). images_down (ys ++ xs) (OfInner y.number) ≡ OfInner y.number ∷ images_down xs y.parent) ys
images_down-new [] xs bound falls from under = tt
images_down-new (y ∷ ys) xs bound falls from under = (
  inner_down-here y (ys ++ xs) ∙ ap (λ below. OfInner y.number ∷ below) (images_down-more ys xs bound y.parent from.1 under.0),
  All-join (λ (z : NamedInner). z.number < y.number) _ (λ (z : NamedInner). images_down (y ∷ ys ++ xs) (OfInner z.number) ≡ OfInner z.number ∷ images_down xs z.parent)
      (λ z lt is. inner_down-there y (ys ++ xs) z.number (ne_eqb y.number z.number (λ same. omega (arith, lt))) ∙ is)
      ys falls.0 (images_down-new ys xs bound falls.1 from.1 under.1),
)

-- ---- images that go

-- what stays stands on what stays
abbrev pub AreClosed : (ℕ → Bool) → List NamedInner → Type 0
AreClosed gone xs = AllByRecursion (λ (x : NamedInner). IsFalse (gone x.number) → IsStaying gone x.parent) xs

module _ (gone : ℕ → Bool) where
  parent_down-same : (f g : ℕ → List ImageName) (image : ImageName) → ((n : ℕ) → IsFalse (gone n) → f n ≡ g n) → IsStaying gone image → parent_down f image ≡ parent_down g image
  parent_down-same f g (OfMedium name) same stays = refl
  parent_down-same f g (OfInner n) same stays = same n stays

  inner_down-staying : (xs : List NamedInner) (n : ℕ) → AreClosed gone xs → IsFalse (gone n) → inner_down (inners_left gone xs) n ≡ inner_down xs n
  unfolding inner_down
  inner_down-staying [] n closed stays = refl
  inner_down-staying (x ∷ xs) n closed stays =
      let left = inners_left gone xs in
      elim (cases_Bool (gone x.number)) [
        | inl goes ↦
            let other : (x.number == n) ≡ false = ne_eqb x.number n (λ same. let no : false ≡ true = sym stays ∙ ap gone (sym same) ∙ goes in absurd cc) in
            rw (goes, other) (inner_down-staying xs n closed.1 stays)
        | inr here ↦
            let below : parent_down (inner_down left) x.parent ≡ parent_down (inner_down xs) x.parent =
            parent_down-same (inner_down left) (inner_down xs) x.parent (λ m s. inner_down-staying xs m closed.1 s) (closed.0 here) in
            let rest = inner_down-staying xs n closed.1 stays in
            rw here (λ i. cond (x.number == n) (OfInner n ∷ below i) (rest i))
      ]

  -- images that go from where nothing that stays stands on them change no chain that stays
  pub images_down-staying : (xs : List NamedInner) (image : ImageName) → AreClosed gone xs → IsStaying gone image
      → images_down (inners_left gone xs) image ≡ images_down xs image
  images_down-staying xs image closed stays =
      parent_down-same (inner_down (inners_left gone xs)) (inner_down xs) image (λ n s. inner_down-staying xs n closed s) stays

-- ---- what holds of a whole chain

module _ (P : ImageName → Type 0) where
  abbrev Passes : List NamedInner → Type 0
  Passes xs = AllByRecursion (λ (x : NamedInner). P (OfInner x.number) → P x.parent) xs

  parent_down-all : (f : ℕ → List ImageName) (image : ImageName) → ((n : ℕ) → P (OfInner n) → AllByRecursion P (f n)) → P image → AllByRecursion P (parent_down f image)
  parent_down-all f (OfMedium name) all holds = (holds, tt)
  parent_down-all f (OfInner n) all holds = all n holds

  inner_down-all : (xs : List NamedInner) (n : ℕ) → Passes xs → P (OfInner n) → AllByRecursion P (inner_down xs n)
  unfolding inner_down
  inner_down-all [] n passes holds = tt
  inner_down-all (x ∷ xs) n passes holds =
      cond_both (x.number == n) (OfInner n ∷ parent_down (inner_down xs) x.parent) (inner_down xs n) (AllByRecursion P)
      (λ e. (
        holds,
        parent_down-all (inner_down xs) x.parent (λ m h. inner_down-all xs m passes.1 h)
            (passes.0 (subst (λ m. P (OfInner m)) (sym (eqb-true x.number n e)) holds)),
      ))
      (λ e. inner_down-all xs n passes.1 holds)

  -- what holds of an image, and goes from each image to its parent, holds of all of the chain
  pub images_down-all : (xs : List NamedInner) (image : ImageName) → Passes xs → P image → AllByRecursion P (images_down xs image)
  images_down-all xs image passes holds = parent_down-all (inner_down xs) image (λ n h. inner_down-all xs n passes h) holds

-- ---- listed images

inner_down-head : (xs : List NamedInner) (n : ℕ) → IsTrue (has_number n xs) → (rest : List ImageName) × (inner_down xs n ≡ OfInner n ∷ rest)
unfolding inner_down
inner_down-head [] n there = absurd cc
inner_down-head (x ∷ xs) n there = elim (cases_Bool (x.number == n)) [
  | inl here ↦ (parent_down (inner_down xs) x.parent, rw here refl)
  | inr other ↦
      let rest = inner_down-head xs n (rw other at there) in
      (rest.0, rw other rest.1)
]

-- the chain of a listed image begins with it
pub images_down-head : (media : List Medium) (xs : List NamedInner) (image : ImageName) → IsImageIn media xs image
    → (rest : List ImageName) × (images_down xs image ≡ image ∷ rest)
images_down-head media xs (OfMedium name) there = ([], refl)
images_down-head media xs (OfInner n) there = inner_down-head xs n there
