-- All media of a library that is read have names of media, whatever the numbers of its file are, bytes or not.
use Rattle.std.proofs.Common.{◌≡◌, ℕ, zero, suc, Bool, true, not, ◌&&◌, cond, ltb, leb, List, [], ◌∷◌, ◌++◌, length, drop, IsTrue, Ok, Err, subst, nat_eq}
use Rattle.std.specs.Int.{Width, w16}
use Rattle.std.specs.List.{AllByRecursion, starts_with}
use Rattle.std.proofs.lemmas.Bool.{and_parts}
use Rattle.vbm_ports.specs.Names.{is_medium_name}
use Rattle.vbm_named.specs.Names.{Name, is_before}
use Rattle.vbm_world.specs.declared.limits.TheConstants.{MEDIA_LIMIT}
use Rattle.vbm_registry.specs.declared.media.Medium.{Medium}
use Rattle.vbm_registry.specs.declared.library.Library.{Library}
use Rattle.vbm_registry.specs.declared.library.TheConstants.{LONGEST_LIBRARY}
use Rattle.vbm_registry.specs.declared.features.Features.{Features}
use Rattle.vbm_registry.specs.Library.{medium_entry_name}
use Rattle.vbm_registry.specs.Parts.{FilePart, and_then, ◌>>=◌, mapped_where, mapped, tested, one_field, number, read_items, items, counted_list}
use Rattle.vbm_registry.specs.Spelling.{head}
use Rattle.vbm_registry.specs.Grammar.{last_name, text_field, name_after, mode_field, medium_entry, making_field, medium_list, inner_list, machine_list, merging_list, counters, lists, library_of_parts, parts_of_library, library_fields, library_in, whole, to_offset}
use Rattle.vbm_registry.proofs.PartLaws.{then_ok, guard_true, ok_is, bad_at_ok}
use Rattle.vbm_registry.proofs.FileAgain.{guard, whole_ok, offset_ok}

-- all that a part reads has P
abbrev Yields : {X : Type 0} → FilePart X → (X → Type 0) → Type 0
Yields {X = X} p P = (bytes : List ℕ) (y : X × List ℕ) → p.read bytes ≡ Ok y → P y.0

anything : {X : Type 0} (p : FilePart X) → Yields p (λ x. Unit {0})
anything p bytes y e = tt

module _ {A B : Type 0} where
  then_yields : (p : FilePart A) (q : A → FilePart B) (P : A → Type 0) (Q : A → B → Type 0) → Yields p P → ((a : A) → Yields (q a) (Q a))
      → Yields (p >>= q) (λ x. P x.0 × Q x.0 x.1)
  then_yields p q P Q hp hq bytes y e =
      let s = then_ok (p.read bytes) (λ a rest. and_then ((q a).read rest) (λ b after. Ok ((a, b), after))) y e in
      let t = then_ok ((q s.0.0).read s.0.1) (λ b after. Ok ((s.0.0, b), after)) y s.2 in
      subst (λ (z : (A × B) × List ℕ). P z.0.0 × Q z.0.0 z.0.1) (ok_is ((s.0.0, t.0.0), t.0.1) y t.2) (hp bytes s.0 s.1, hq s.0.0 s.0.1 t.0 t.1)

  mapped_yields : (to : A → B) (from : B → A) (test : B → Bool) (p : FilePart A) (P : A → Type 0) (Q : B → Type 0) → Yields p P
      → ((a : A) → P a → Q (to a)) → Yields (mapped_where to from test p) Q
  mapped_yields to from test p P Q hp gives bytes y e =
      let s = then_ok (p.read bytes) (λ a rest. Ok (to a, rest)) y e in
      subst (λ (z : B × List ℕ). Q z.0) (ok_is (to s.0.0, s.0.1) y s.2) (gives s.0.0 (hp bytes s.0 s.1))

module _ {A : Type 0} (p : FilePart A) where
  tested_yields : (test : A → Bool) → Yields (tested p test) (λ a. IsTrue (test a))
  tested_yields test bytes y e =
      let s = then_ok (p.read bytes) (λ a rest. cond (test a) (Ok (a, rest)) (Err (length bytes))) y e in
      let g = guard_true (test s.0.0) (length bytes) (Ok s.0) y s.2 in
      subst (λ (z : A × List ℕ). IsTrue (test z.0)) (ok_is s.0 y g.1) g.0

module _ {X : Type 0} (P : X → Type 0) where
  items_yield : (item : List X → FilePart X) → ((before : List X) → Yields (item before) P) → (n : ℕ) (before : List X)
      (bytes : List ℕ) (y : List X × List ℕ) → read_items item n before bytes ≡ Ok y → AllByRecursion P y.0
  items_yield item each zero before bytes y e = subst (λ (z : List X × List ℕ). AllByRecursion P z.0) (ok_is ([], bytes) y e) tt
  items_yield item each (suc n) before bytes y e =
      let s = then_ok ((item before).read bytes) (λ x rest. and_then (read_items item n (before ++ x ∷ []) rest) (λ xs after. Ok (x ∷ xs, after))) y e in
      let t = then_ok (read_items item n (before ++ s.0.0 ∷ []) s.0.1) (λ xs after. Ok (s.0.0 ∷ xs, after)) y s.2 in
      subst (λ (z : List X × List ℕ). AllByRecursion P z.0) (ok_is (s.0.0 ∷ t.0.0, t.0.1) y t.2)
      (each before bytes s.0 s.1, items_yield item each n (before ++ s.0.0 ∷ []) s.0.1 t.0 t.1)

  counted_yields : (w : Width) (test : ℕ → Bool) (item : ℕ → List X → FilePart X) → ((count : ℕ) (before : List X) → Yields (item count before) P)
      → Yields (counted_list w test item) (AllByRecursion P)
  unfolding items
  counted_yields w test item each = mapped_yields (λ x. x.1) (λ xs. (length xs, xs)) (λ b. true) (tested (number w) test >>= λ count. items (item count) count)
      (λ x. Unit {0} × AllByRecursion P x.1) (AllByRecursion P)
      (then_yields (tested (number w) test) (λ count. items (item count) count) (λ n. Unit {0}) (λ count xs. AllByRecursion P xs)
      (anything (tested (number w) test)) (λ count bytes y e. items_yield (item count) (each count) count [] bytes y e))
      (λ x is. is.1)

-- ---- media

abbrev IsListed : Medium → Type 0
IsListed m = IsTrue (is_medium_name m.name)

name_yields : (is_name : Name → Bool) (earlier : Name) → Yields (name_after is_name earlier) (λ name. IsTrue (is_name name))
unfolding name_after
name_yields is_name earlier bytes y e =
    (and_parts (is_name y.0) (is_before earlier y.0) (tested_yields (one_field text_field) (λ name. is_name name && is_before earlier name) bytes y e)).0

module _ (built : Features) where
  medium_yields : (before : List Medium) → Yields (medium_entry built before) IsListed
  unfolding medium_entry
  medium_yields before =
      let name = name_after is_medium_name (last_name medium_entry_name before) in
      mapped_yields (λ x. record { name = x.0; mode = x.1 }) (λ m. (m.name, m.mode)) (λ m. true) (name >>= λ _. mode_field built)
      (λ x. IsTrue (is_medium_name x.0) × Unit {0}) IsListed
      (then_yields name (λ _. mode_field built) _ (λ _ m. Unit {0}) (name_yields is_medium_name (last_name medium_entry_name before))
      (λ _. anything (mode_field built)))
      (λ x is. is.0)

  media_yield : Yields (medium_list built) (AllByRecursion IsListed)
  unfolding medium_list
  media_yield = counted_yields IsListed w16 (λ n. leb n MEDIA_LIMIT) (λ _. medium_entry built) (λ _. medium_yields)

  lists_yield : (inner : ℕ) → Yields (lists built inner) (λ x. AllByRecursion IsListed x.0 × Unit {0})
  unfolding lists
  lists_yield inner =
      let others = λ (media : List Medium). inner_list built media inner >>= machine_list built media in
      then_yields (medium_list built) others (AllByRecursion IsListed) (λ _ x. Unit {0}) media_yield (λ media. anything (others media))

  fields_yield : Yields (library_fields built) (λ l. AllByRecursion IsListed l.media)
  unfolding library_fields
  fields_yield =
      let ends = λ (ls : _). making_field built ls.0 >>= λ _. merging_list built in
      mapped_yields library_of_parts parts_of_library (λ l. true) (counters >>= λ c. lists built c.1.1 >>= ends)
      (λ x. Unit {0} × ((AllByRecursion IsListed x.1.0.0 × Unit {0}) × Unit {0})) (λ l. AllByRecursion IsListed l.media)
      (then_yields counters (λ c. lists built c.1.1 >>= ends) (λ c. Unit {0}) (λ _ x. (AllByRecursion IsListed x.0.0 × Unit {0}) × Unit {0})
      (anything counters)
      (λ c. then_yields (lists built c.1.1) ends (λ x. AllByRecursion IsListed x.0 × Unit {0}) (λ _ x. Unit {0}) (lists_yield c.1.1)
      (λ ls. anything (ends ls))))
      (λ x is. is.1.0.0)

  pub read_names : (keeps : Library → Bool) (bytes : List ℕ) (l : Library) → library_in built keeps bytes ≡ Ok l
      → AllByRecursion (λ (m : Medium). IsTrue (is_medium_name m.name)) l.media
  unfolding library_in
  read_names keeps bytes l e =
      let read = (library_fields built).read (drop 8 bytes) in
      let offset = to_offset (length bytes) (whole keeps read) in
      let h = guard built keeps (not (starts_with nat_eq bytes head)) 0 (cond (ltb LONGEST_LIBRARY (length bytes)) (Err LONGEST_LIBRARY) offset) l e in
      let g = guard built keeps (ltb LONGEST_LIBRARY (length bytes)) LONGEST_LIBRARY offset l h.1 in
      let w = whole_ok built keeps read l (offset_ok built keeps (length bytes) (whole keeps read) l g.1) in
      fields_yield (drop 8 bytes) (l, []) w.0
