-- Words are one form of `peek` and of `init` at most.
use Rattle.std.proofs.Common.{◌≡◌, ℕ, true, false, List, [], ◌∷◌, ◌++◌, Some, refl, sym, ap, ◌∙◌, inl, Result, Ok, Err}
use Rattle.std.specs.Prelude.{codes, decimal, IsOk, ◌↔◌}
use Rattle.std.proofs.lemmas.Fmt.{decimal_injective}
use Rattle.uuid.specs.Text.{parsed}
use Rattle.uuid.proofs.RoundTrips.{parses_hyphenated}
use Rattle.vbm_lines.specs.Lines.{Words}
use Rattle.vbm_ids.specs.Identifier.{IsSeed}
use Rattle.vbm_world.specs.Texts.{id_text}
use Rattle.vbm_top.specs.Run.{IsPeek, IsInit, drawn, given}

-- a list and its last item
one_end : {X : Type 0} (xs ys : List X) (x y : X) → xs ++ x ∷ [] ≡ ys ++ y ∷ [] → (xs ≡ ys) × (x ≡ y)
one_end [] [] x y same = let last : x ≡ y = cc in (refl, last)
one_end [] (z ∷ []) x y same = absurd cc
one_end [] (z ∷ w ∷ ys) x y same = absurd cc
one_end (z ∷ []) [] x y same = absurd cc
one_end (z ∷ w ∷ xs) [] x y same = absurd cc
one_end (z ∷ xs) (w ∷ ys) x y same =
    let first : z ≡ w = cc in
    let rest : xs ++ x ∷ [] ≡ ys ++ y ∷ [] = cc in
    let ends = one_end xs ys x y rest in
    (ap (λ v. v ∷ xs) first ∙ ap (λ vs. w ∷ vs) ends.0, ends.1)

pub one_peek : (words : Words) (a b : List (List ℕ)) (k l : ℕ) → IsPeek words a k → IsPeek words b l → (a ≡ b) × (k ≡ l)
one_peek words a b k l g h =
    let both : codes "peek" ∷ (a ++ decimal k ∷ []) ≡ codes "peek" ∷ (b ++ decimal l ∷ []) = sym g.spelled ∙ h.spelled in
    let same : a ++ decimal k ∷ [] ≡ b ++ decimal l ∷ [] = cc in
    let ends = one_end a b (decimal k) (decimal l) same in
    (ends.0, decimal_injective k l g.fits h.fits ends.1)

pub no_identifier : {E : Type 0} (word : List ℕ) (r : Result (List ℕ) E) → (IsOk r ↔ ((u : List ℕ) × (parsed word ≡ Some u)))
    → ((x : List ℕ) → r ≡ Ok x → ⊥) → (seed : List ℕ) → IsSeed seed → word ≡ id_text seed → ⊥
no_identifier {E} word (Ok x) ok none seed is e = none x refl
no_identifier {E} word (Err bad) ok none seed is e =
    let found : false ≡ true = ok.1 (seed, ap parsed e ∙ sym (parses_hyphenated 97 seed (inl refl) is.long is.bytes)) in absurd cc

pub other_identifier : (word id : List ℕ) → Some id ≡ parsed word → (id_text id ≡ word → ⊥) → (seed : List ℕ) → IsSeed seed → word ≡ id_text seed → ⊥
other_identifier word id read other seed is e =
    let both : Some seed ≡ Some id = parses_hyphenated 97 seed (inl refl) is.long is.bytes ∙ ap parsed (sym e) ∙ sym read in
    let same : seed ≡ id = cc in other (ap id_text (sym same) ∙ sym e)

pub one_seed : (a b : List ℕ) → IsSeed a → IsSeed b → id_text a ≡ id_text b → a ≡ b
one_seed a b s t same =
    let read : Some a ≡ Some b =
    parses_hyphenated 97 a (inl refl) s.long s.bytes ∙ ap parsed same ∙ sym (parses_hyphenated 97 b (inl refl) t.long t.bytes) in cc

pub one_init : (words : Words) (fresh a b : List ℕ) → IsInit words fresh a → IsInit words fresh b → a ≡ b
one_init words fresh a b (drawn w is) (drawn v is') = is ∙ sym is'
one_init words fresh a b (drawn w is) (given v s) = let both : codes "init" ∷ [] ≡ codes "init" ∷ id_text b ∷ [] = sym w ∙ v in absurd cc
one_init words fresh a b (given w s) (drawn v is) = let both : codes "init" ∷ id_text a ∷ [] ≡ codes "init" ∷ [] = sym w ∙ v in absurd cc
one_init words fresh a b (given w s) (given v t) =
    let both : codes "init" ∷ id_text a ∷ [] ≡ codes "init" ∷ id_text b ∷ [] = sym w ∙ v in
    let texts : id_text a ≡ id_text b = cc in one_seed a b s t texts
