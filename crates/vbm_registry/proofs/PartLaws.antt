-- Reading and spelling are inverse: for each way in which parts are made.
use Rattle.std.proofs.Common.{◌≡◌, ℕ, zero, suc, ◌≤◌, Bool, true, false, ◌&&◌, cond, ltb, eqb, List, [], ◌∷◌, ◌++◌, length, take, drop, IsTrue, Ok, Err, refl, sym, ap, subst, ◌∙◌, arith}
use Rattle.std.specs.Int.{Width, byte_len, from_le_bytes, to_le_bytes}
use Rattle.std.proofs.lemmas.Bool.{ltb-false, le-ltb, ltb-true, lt-ltb, eqb-true, eq-eqb}
use Rattle.std.proofs.lemmas.List.{take_at, drop_at, take-append-drop, length-append, length-take}
use Rattle.vbm_registry.specs.Parts.{FilePart, Parsed, and_then, ◌>>=◌, mapped_where, mapped, tested, bad_at, one_field, number, raw, known, read_items, items_fit, items, counted_list}
use Rattle.vbm_registry.specs.Spelling.{number_onto, items_onto, list_onto}
use Rattle.vbm_registry.proofs.Bytes.{IsBytes, IsBytes-drop, IsBytes-take, IsWide}

-- bytes are the spelling of a value that the part has, before the rest
pub record Takes {X : Type 0} (p : FilePart X) (onto : X → List ℕ → List ℕ) (bytes : List ℕ) (x : X) (rest : List ℕ) : Type 0 where
  pub parts : bytes ≡ onto x rest
  pub rest_fits : IsBytes rest
  pub fits : IsTrue (p.fits x)

-- what is spelled is read again, and what is read is spelled so
pub record IsSpelledAs {X : Type 0} (p : FilePart X) (onto : X → List ℕ → List ℕ) : Type 0 where
  pub again : (x : X) (rest : List ℕ) → IsTrue (p.fits x) → p.read (onto x rest) ≡ Ok (x, rest)
  pub takes : (bytes : List ℕ) (y : X × List ℕ) → IsBytes bytes → p.read bytes ≡ Ok y → Takes p onto bytes y.0 y.1

-- ---- steps of reading

pub and_both : (a b : Bool) → IsTrue (a && b) → IsTrue a × IsTrue b
and_both true b e = (refl, e)
and_both false b e = absurd cc

pub both_and : (a b : Bool) → IsTrue a → IsTrue b → IsTrue (a && b)
both_and true b h e = e
both_and false b h e = absurd cc

pub then_ok : {A B : Type 0} (r : Parsed A) (f : A → List ℕ → Parsed B) (y : B × List ℕ) → and_then r f ≡ Ok y
    → (x : A × List ℕ) × (r ≡ Ok x) × (f x.0 x.1 ≡ Ok y)
then_ok (Ok x) f y e = (x, refl, e)
then_ok (Err d) f y e = absurd cc

pub guard_true : {A : Type 0} (b : Bool) (d : ℕ) (r : Parsed A) (y : A × List ℕ) → cond b r (Err d) ≡ Ok y → (b ≡ true) × (r ≡ Ok y)
guard_true true d r y e = (refl, e)
guard_true false d r y e = absurd cc

pub guard_false : {A : Type 0} (b : Bool) (d : ℕ) (r : Parsed A) (y : A × List ℕ) → cond b (Err d) r ≡ Ok y → (b ≡ false) × (r ≡ Ok y)
guard_false true d r y e = absurd cc
guard_false false d r y e = (refl, e)

abbrev pub done : {A : Type 0} → A × List ℕ → Parsed A
done x = Ok x

pub ok_is : {A : Type 0} (x y : A × List ℕ) → done x ≡ done y → x ≡ y
ok_is x y e = cc

-- ---- the ways

module _ {A B : Type 0} (p : FilePart A) (q : A → FilePart B) (a_onto : A → List ℕ → List ℕ) (b_onto : A → B → List ℕ → List ℕ) where
  pub then_is : IsSpelledAs p a_onto → ((a : A) → IsSpelledAs (q a) (b_onto a)) → IsSpelledAs (p >>= q) (λ x rest. a_onto x.0 (b_onto x.0 x.1 rest))
  then_is hp hq = record {
    again = λ x rest fits.
        let both = and_both (p.fits x.0) ((q x.0).fits x.1) fits in
        rw (hp.again x.0 (b_onto x.0 x.1 rest) both.0, (hq x.0).again x.1 rest both.1) refl;
    takes = λ bytes y fits e.
        let s = then_ok (p.read bytes) (λ a rest. and_then ((q a).read rest) (λ b after. Ok ((a, b), after))) y e in
        let t = then_ok ((q s.0.0).read s.0.1) (λ b after. Ok ((s.0.0, b), after)) y s.2 in
        let first = hp.takes bytes s.0 fits s.1 in
        let second = (hq s.0.0).takes s.0.1 t.0 first.rest_fits t.1 in
        subst (λ (z : (A × B) × List ℕ). Takes (p >>= q) (λ x rest. a_onto x.0 (b_onto x.0 x.1 rest)) bytes z.0 z.1)
        (ok_is ((s.0.0, t.0.0), t.0.1) y t.2)
        (record {
          parts = first.parts ∙ ap (a_onto s.0.0) second.parts;
          rest_fits = second.rest_fits;
          fits = both_and (p.fits s.0.0) ((q s.0.0).fits t.0.0) first.fits second.fits;
        });
  }

module _ {A B : Type 0} (to : A → B) (from : B → A) (test : B → Bool) (p : FilePart A) (onto : A → List ℕ → List ℕ) where
  pub mapped_where_is : IsSpelledAs p onto → ((b : B) → IsTrue (p.fits (from b)) → IsTrue (test b) → to (from b) ≡ b)
      → ((a : A) → IsTrue (p.fits a) → (from (to a) ≡ a) × IsTrue (test (to a))) → IsSpelledAs (mapped_where to from test p) (λ b rest. onto (from b) rest)
  mapped_where_is hp there back = record {
    again = λ b rest fits.
        let both = and_both (p.fits (from b)) (test b) fits in
        rw (hp.again (from b) rest both.0) (ap (λ (x : B). done (x, rest)) (there b both.0 both.1));
    takes = λ bytes y fits e.
        let s = then_ok (p.read bytes) (λ a rest. Ok (to a, rest)) y e in
        let first = hp.takes bytes s.0 fits s.1 in
        let is = back s.0.0 first.fits in
        subst (λ (z : B × List ℕ). Takes (mapped_where to from test p) (λ b rest. onto (from b) rest) bytes z.0 z.1) (ok_is (to s.0.0, s.0.1) y s.2)
        (record {
          parts = first.parts ∙ ap (λ (a : A). onto a s.0.1) (sym is.0);
          rest_fits = first.rest_fits;
          fits = both_and (p.fits (from (to s.0.0))) (test (to s.0.0)) (subst (λ (a : A). IsTrue (p.fits a)) (sym is.0) first.fits) is.1;
        });
  }

module _ {A B : Type 0} (to : A → B) (from : B → A) (p : FilePart A) (onto : A → List ℕ → List ℕ) where
  pub mapped_is : IsSpelledAs p onto → ((b : B) → IsTrue (p.fits (from b)) → to (from b) ≡ b) → ((a : A) → IsTrue (p.fits a) → from (to a) ≡ a)
      → IsSpelledAs (mapped to from p) (λ b rest. onto (from b) rest)
  mapped_is hp there back = mapped_where_is to from (λ b. true) p onto hp (λ b fits test. there b fits) (λ a fits. (back a fits, refl))

module _ {A : Type 0} (p : FilePart A) (test : A → Bool) (onto : A → List ℕ → List ℕ) where
  pub tested_is : IsSpelledAs p onto → IsSpelledAs (tested p test) onto
  tested_is hp = record {
    again = λ x rest fits.
        let both = and_both (p.fits x) (test x) fits in
        rw (hp.again x rest both.0, both.1) refl;
    takes = λ bytes y fits e.
        let s = then_ok (p.read bytes) (λ a rest. cond (test a) (Ok (a, rest)) (Err (length bytes))) y e in
        let g = guard_true (test s.0.0) (length bytes) (Ok s.0) y s.2 in
        let first = hp.takes bytes s.0 fits s.1 in
        subst (λ (z : A × List ℕ). Takes (tested p test) onto bytes z.0 z.1) (ok_is s.0 y g.1)
        (record { parts = first.parts; rest_fits = first.rest_fits; fits = both_and (p.fits s.0.0) (test s.0.0) first.fits g.0 });
  }

pub bad_at_ok : {A : Type 0} (left : ℕ) (r : Parsed A) (y : A × List ℕ) → bad_at left r ≡ Ok y → r ≡ Ok y
bad_at_ok left (Ok x) y e = e
bad_at_ok left (Err n) y e = absurd cc

pub one_field_is : {A : Type 0} (p : FilePart A) (onto : A → List ℕ → List ℕ) → IsSpelledAs p onto → IsSpelledAs (one_field p) onto
one_field_is p onto hp = record {
  again = λ x rest fits. rw (hp.again x rest fits) refl;
  takes = λ bytes y fits e.
      let t = hp.takes bytes y fits (bad_at_ok (length bytes) (p.read bytes) y e) in
      record { parts = t.parts; rest_fits = t.rest_fits; fits = t.fits };
}

-- ---- what fields are made of

pub number_is : (w : Width) → IsWide w → IsSpelledAs (number w) (number_onto w)
number_is w wide = record {
  again = λ n rest fits.
      let len = wide.len n in
      let long : ltb (length (to_le_bytes w n ++ rest)) (byte_len w) ≡ false = le-ltb _ _ (omega (arith, length-append (to_le_bytes w n) rest)) in
      rw (long, take_at (to_le_bytes w n) rest (byte_len w) len, drop_at (to_le_bytes w n) rest (byte_len w) len, wide.again n (ltb-true _ _ fits)) refl;
  takes = λ bytes y fits e.
      let front = take (byte_len w) bytes in
      let g = guard_false (ltb (length bytes) (byte_len w)) (length bytes) (Ok (from_le_bytes w front, drop (byte_len w) bytes)) y e in
      let long : byte_len w ≤ length bytes = ltb-false _ _ g.0 in
      let is : to_le_bytes w (from_le_bytes w front) ≡ front = wide.back front (omega (arith, length-take (byte_len w) bytes)) (IsBytes-take (byte_len w) bytes fits) in
      subst (λ (z : ℕ × List ℕ). Takes (number w) (number_onto w) bytes z.0 z.1) (ok_is (from_le_bytes w front, drop (byte_len w) bytes) y g.1)
      (record {
        parts = rw is (sym (take-append-drop (byte_len w) bytes));
        rest_fits = IsBytes-drop (byte_len w) bytes fits;
        fits = lt-ltb _ _ (wide.below front (IsBytes-take (byte_len w) bytes fits));
      });
}

pub raw_is : (n : ℕ) → IsSpelledAs (raw n) (λ text rest. text ++ rest)
raw_is n = record {
  again = λ text rest fits.
      let len : length text ≡ n = eqb-true _ _ fits in
      let long : ltb (length (text ++ rest)) n ≡ false = le-ltb _ _ (omega (arith, length-append text rest)) in
      rw (long, take_at text rest n len, drop_at text rest n len) refl;
  takes = λ bytes y fits e.
      let g = guard_false (ltb (length bytes) n) (length bytes) (Ok (take n bytes, drop n bytes)) y e in
      let long : n ≤ length bytes = ltb-false _ _ g.0 in
      subst (λ (z : List ℕ × List ℕ). Takes (raw n) (λ text rest. text ++ rest) bytes z.0 z.1) (ok_is (take n bytes, drop n bytes) y g.1)
      (record { parts = sym (take-append-drop n bytes); rest_fits = IsBytes-drop n bytes fits; fits = eq-eqb _ _ (omega (arith, length-take n bytes)) });
}

pub known_is : (is : ℕ → Bool) (n : ℕ) → ((k : ℕ) → IsTrue (is k) → k ≡ n) → IsTrue (is n) → IsSpelledAs (known is n) (λ k rest. rest)
known_is is n only there = record {
  again = λ k rest fits. ap (λ (x : ℕ). done (x, rest)) (sym (only k fits));
  takes = λ bytes y fits e.
      subst (λ (z : ℕ × List ℕ). Takes (known is n) (λ k rest. rest) bytes z.0 z.1) (ok_is (n, bytes) y e) (record { parts = refl; rest_fits = fits; fits = there });
}

-- the same spelling in other words
pub respelled : {X : Type 0} (p : FilePart X) (onto other : X → List ℕ → List ℕ) → ((x : X) (rest : List ℕ) → onto x rest ≡ other x rest) → IsSpelledAs p onto → IsSpelledAs p other
respelled p onto other same hp = subst (IsSpelledAs p) (λ i x rest. same x rest i) hp

-- ---- lists

module _ {X : Type 0} (item : List X → FilePart X) (onto : X → List ℕ → List ℕ) (each : (before : List X) → IsSpelledAs (item before) onto) where
  items_again : (before xs : List X) (rest : List ℕ) → IsTrue (items_fit item before xs) → read_items item (length xs) before (items_onto onto xs rest) ≡ Ok (xs, rest)
  items_again before [] rest fits = refl
  items_again before (x ∷ xs) rest fits =
      let both = and_both ((item before).fits x) (items_fit item (before ++ x ∷ []) xs) fits in
      rw ((each before).again x (items_onto onto xs rest) both.0, items_again (before ++ x ∷ []) xs rest both.1) refl

  pub record TakesItems (n : ℕ) (before : List X) (bytes : List ℕ) (xs : List X) (rest : List ℕ) : Type 0 where
    pub parts : bytes ≡ items_onto onto xs rest
    pub rest_fits : IsBytes rest
    pub count : length xs ≡ n
    pub fits : IsTrue (items_fit item before xs)

  items_takes : (n : ℕ) (before : List X) (bytes : List ℕ) (y : List X × List ℕ) → IsBytes bytes → read_items item n before bytes ≡ Ok y
      → TakesItems n before bytes y.0 y.1
  items_takes zero before bytes y fits e =
      subst (λ (z : List X × List ℕ). TakesItems 0 before bytes z.0 z.1) (ok_is ([], bytes) y e) (record { parts = refl; rest_fits = fits; count = refl; fits = refl })
  items_takes (suc n) before bytes y fits e =
      let s = then_ok ((item before).read bytes) (λ x rest. and_then (read_items item n (before ++ x ∷ []) rest) (λ xs after. Ok (x ∷ xs, after))) y e in
      let t = then_ok (read_items item n (before ++ s.0.0 ∷ []) s.0.1) (λ xs after. Ok (s.0.0 ∷ xs, after)) y s.2 in
      let first = (each before).takes bytes s.0 fits s.1 in
      let others = items_takes n (before ++ s.0.0 ∷ []) s.0.1 t.0 first.rest_fits t.1 in
      subst (λ (z : List X × List ℕ). TakesItems (suc n) before bytes z.0 z.1) (ok_is (s.0.0 ∷ t.0.0, t.0.1) y t.2)
      (record {
        parts = first.parts ∙ ap (onto s.0.0) others.parts;
        rest_fits = others.rest_fits;
        count = ap suc others.count;
        fits = both_and ((item before).fits s.0.0) (items_fit item (before ++ s.0.0 ∷ []) t.0.0) first.fits others.fits;
      })

  pub items_is : (n : ℕ) → IsSpelledAs (items item n) (items_onto onto)
  unfolding items
  items_is n = record {
    again = λ xs rest fits.
        let both = and_both (eqb (length xs) n) (items_fit item [] xs) fits in
        let len : n ≡ length xs = sym (eqb-true (length xs) n both.0) in
        rw (len, items_again [] xs rest both.1) refl;
    takes = λ bytes y fits e.
        let t = items_takes n [] bytes y fits e in
        record { parts = t.parts; rest_fits = t.rest_fits; fits = both_and (eqb (length y.0) n) (items_fit item [] y.0) (eq-eqb _ _ t.count) t.fits };
  }

module _ {X : Type 0} (w : Width) (wide : IsWide w) (test : ℕ → Bool) (item : ℕ → List X → FilePart X) (onto : X → List ℕ → List ℕ) where
  counted_list_back : (a : ℕ × List X) → IsTrue ((tested (number w) test >>= λ count. items (item count) count).fits a) → (length a.1, a.1) ≡ a
  unfolding items
  counted_list_back a fits =
      let b = and_both ((tested (number w) test).fits a.0) (eqb (length a.1) a.0 && items_fit (item a.0) [] a.1) fits in
      let c = and_both (eqb (length a.1) a.0) (items_fit (item a.0) [] a.1) b.1 in
      ap (λ (n : ℕ). (n, a.1)) (eqb-true (length a.1) a.0 c.0)

  pub counted_list_is : ((count : ℕ) (before : List X) → IsSpelledAs (item count before) onto) → IsSpelledAs (counted_list w test item) (list_onto w onto)
  unfolding items
  counted_list_is each = mapped_is (λ x. x.1) (λ xs. (length xs, xs)) (tested (number w) test >>= λ count. items (item count) count)
      (λ x rest. number_onto w x.0 (items_onto onto x.1 rest))
      (then_is (tested (number w) test) (λ count. items (item count) count) (number_onto w) (λ count. items_onto onto)
      (tested_is (number w) test (number_onto w) (number_is w wide)) (λ count. items_is (item count) onto (each count) count))
      (λ xs fits. refl)
      (λ a fits. counted_list_back a fits)
