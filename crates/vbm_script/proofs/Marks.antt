-- Words with marks in them.
use Rattle.std.proofs.Common.{◌≡◌, ℕ, suc, ◌+◌, Bool, true, false, List, [], ◌∷◌, ◌++◌, take, drop, append-nil, refl, sym, ap, ap₂, ◌∙◌, arith}
use Rattle.std.specs.Prelude.{cond, decimal, not, ◌==◌, ◌||◌}
use Rattle.std.specs.List.{list_all, prefix_len}
use Rattle.std.proofs.lemmas.Bool.{and_parts, eqb-true}
use Rattle.std.proofs.lemmas.List.{take-append-drop}
use Rattle.vbm_ports.specs.Names.{is_name_character}
use Rattle.vbm_world.specs.declared.command.PlaceName.TheVariants.{Slot, Snap}
use Rattle.vbm_world.specs.Texts.{IsShort, IsPort, place_text}
use Rattle.vbm_world.proofs.Spelling.{AreOfNames, short_characters, slot_text, snap_text, one_split, no_split}
use Rattle.vbm_script.specs.Places.{IsPlace, IsSplit, is_unmarked}

front_passes : (test : ℕ → Bool) (xs : List ℕ) → list_all test (take (prefix_len test xs) xs) ≡ true
front_passes test [] = refl
front_passes test (x ∷ xs) = at (test x) refl (front_passes test xs)
  where
    at : (is : Bool) → test x ≡ is → list_all test (take (prefix_len test xs) xs) ≡ true
        → list_all test (take (cond is (1 + prefix_len test xs) 0) (x ∷ xs)) ≡ true
    at true is behind = let one : 1 + prefix_len test xs ≡ suc (prefix_len test xs) = omega arith in rw (one, is) behind
    at false is behind = refl

back_fails : (test : ℕ → Bool) (xs : List ℕ) (c : ℕ) (behind : List ℕ) → drop (prefix_len test xs) xs ≡ c ∷ behind → test c ≡ false
back_fails test [] c behind e = cc
back_fails test (x ∷ xs) c behind e = at (test x) refl e (back_fails test xs c behind)
  where
    at : (is : Bool) → test x ≡ is → drop (cond is (1 + prefix_len test xs) 0) (x ∷ xs) ≡ c ∷ behind
        → (drop (prefix_len test xs) xs ≡ c ∷ behind → test c ≡ false) → test c ≡ false
    at true is e later = let one : 1 + prefix_len test xs ≡ suc (prefix_len test xs) = omega arith in later (rw one at e)
    at false is e later = let same : x ≡ c = cc in sym (ap test same) ∙ is

pub split_at_mark : (word : List ℕ) → IsSplit word (take (prefix_len is_unmarked word) word) (drop (prefix_len is_unmarked word) word)
split_at_mark word = record {
  whole = sym (take-append-drop (prefix_len is_unmarked word) word);
  unmarked = front_passes is_unmarked word;
  marked = back_fails is_unmarked word;
}

-- ---- names before marks

not_named : (c d : ℕ) → is_name_character c ≡ true → is_name_character d ≡ false → c ≡ d → ⊥
not_named c d is not same = let equal : true ≡ false = sym is ∙ ap is_name_character same ∙ not in cc

name_unmarked : (c : ℕ) → is_name_character c ≡ true → is_unmarked c ≡ true
name_unmarked c is = at (c == 58) (c == 47) refl refl
  where
    at : (a b : Bool) → (c == 58) ≡ a → (c == 47) ≡ b → not (a || b) ≡ true
    at true b colon slash = absurd (not_named c 58 is refl (eqb-true c 58 colon))
    at false true colon slash = absurd (not_named c 47 is refl (eqb-true c 47 slash))
    at false false colon slash = refl

names_unmarked : (text : List ℕ) → AreOfNames text → list_all is_unmarked text ≡ true
names_unmarked [] are = refl
names_unmarked (c ∷ text) are =
    let parts = and_parts _ _ are in rw (name_unmarked c parts.0) (names_unmarked text parts.1)

parts_of : (front back name y : List ℕ) (t : ℕ) → list_all is_unmarked front ≡ true
    → ((c : ℕ) (behind : List ℕ) → back ≡ c ∷ behind → is_unmarked c ≡ false) → AreOfNames name → is_unmarked t ≡ false
    → front ++ back ≡ name ++ t ∷ y → (front ≡ name) × (back ≡ t ∷ y)
parts_of front [] name y t unmarked marked named mark e =
    absurd (no_split is_unmarked front name y t unmarked mark (sym (append-nil front) ∙ e))
parts_of front (c ∷ back) name y t unmarked marked named mark e =
    let k = one_split is_unmarked front name back y c t unmarked (names_unmarked name named) (marked c back refl) mark e in
    (k.0, ap₂ (λ (z : ℕ) (zs : List ℕ). z ∷ zs) k.1 k.2)

pub slot_parts : (word front back vm : List ℕ) (port : ℕ) → IsSplit word front back → IsPlace word (Slot vm port)
    → (front ≡ vm) × (back ≡ 58 ∷ decimal port) × IsShort vm × IsPort port
slot_parts word front back vm port split place =
    let k = parts_of front back vm (decimal port) 58 split.unmarked split.marked (short_characters vm place.spelled.0) refl
    (sym split.whole ∙ place.is ∙ slot_text vm port) in
    (k.0, k.1, place.spelled.0, place.spelled.1)

pub snap_parts : (word front back vm snapshot : List ℕ) (port : ℕ) → IsSplit word front back → IsPlace word (Snap vm snapshot port)
    → (front ≡ vm) × (back ≡ 47 ∷ place_text (Slot snapshot port)) × IsShort vm × IsPlace (place_text (Slot snapshot port)) (Slot snapshot port)
snap_parts word front back vm snapshot port split place =
    let k = parts_of front back vm (snapshot ++ 58 ∷ decimal port) 47 split.unmarked split.marked (short_characters vm place.spelled.0) refl
    (sym split.whole ∙ place.is ∙ snap_text vm snapshot port) in (
      k.0,
      k.1 ∙ ap (λ text. 47 ∷ text) (sym (slot_text snapshot port)),
      place.spelled.0,
      record { is = refl; spelled = (place.spelled.1, place.spelled.2) },
    )
