-- A library's file is read as that library, and a file that is read is that library's.
use Rattle.std.proofs.Common.{◌≡◌, ℕ, ◌≤◌, Bool, true, false, not, cond, ltb, eqb, List, [], ◌∷◌, ◌++◌, length, take, drop, map, IsTrue, IfOk, Result, Ok, Err, refl, sym, ap, subst, ◌∙◌, nat_eq}
use Rattle.std.specs.List.{starts_with}
use Rattle.std.specs.Int.{w8}
use Rattle.std.proofs.lemmas.Bool.{le-ltb, ltb-false, eqb-true}
use Rattle.std.proofs.lemmas.List.{take-append-drop, nil_from_length, length-map}
use Rattle.std.proofs.lemmas.Slice.Eq.{bytes_eq-Decides}
use Rattle.vbm_machines.specs.declared.Machine.{Machine}
use Rattle.vbm_registry.specs.declared.library.Library.{Library}
use Rattle.vbm_registry.specs.declared.library.TheConstants.{LONGEST_LIBRARY}
use Rattle.vbm_registry.specs.declared.fault.DecodeFault.{DecodeFault}
use Rattle.vbm_registry.specs.declared.features.Features.{Features}
use Rattle.vbm_registry.specs.Parts.{Parsed}
use Rattle.vbm_registry.specs.Spelling.{items_onto, list_onto, name_onto, merging_onto, list_of, machine_onto, fields_onto, head, spelling}
use Rattle.vbm_registry.specs.Grammar.{library_fields, to_offset, whole, library_in, IsDecoded, entry_off, library_off}
use Rattle.vbm_registry.specs.Given.{Decodes}
use Rattle.vbm_registry.proofs.Bytes.{IsBytes, IsBytes-drop}
use Rattle.vbm_registry.proofs.GrammarLaws.{fields_is}

module _ (built : Features) (keeps : Library → Bool) where
  pub read_again : (l : Library) → IsDecoded built keeps l → library_in built keeps (spelling l) ≡ Ok l
  unfolding library_in spelling
  read_again l ok =
      let short : ltb LONGEST_LIBRARY (length (head ++ fields_onto l [])) ≡ false = le-ltb _ _ ok.short in
      let read : (library_fields built).read (fields_onto l []) ≡ Ok (l, []) = (fields_is built).again l [] ok.fields in
      rw (short, read, ok.places) refl

  pub guard : {A : Type 0} (b : Bool) (d : ℕ) (r : Result A ℕ) (y : A) → cond b (Err d) r ≡ Ok y → (b ≡ false) × (r ≡ Ok y)
  guard true d r y e = absurd cc
  guard false d r y e = (refl, e)

  kept : {A : Type 0} (b : Bool) (d : ℕ) (r : Result A ℕ) (y : A) → cond b r (Err d) ≡ Ok y → (b ≡ true) × (r ≡ Ok y)
  kept true d r y e = (refl, e)
  kept false d r y e = absurd cc

  abbrev done : {A : Type 0} → A → Result A ℕ
  done x = Ok x

  ok_is : {A : Type 0} (x y : A) → done x ≡ done y → x ≡ y
  ok_is x y e = cc

  not_false : (b : Bool) → not b ≡ false → b ≡ true
  not_false true e = refl
  not_false false e = absurd cc

  starts_is : (bytes : List ℕ) → IsTrue (starts_with nat_eq bytes head) → bytes ≡ head ++ drop 8 bytes
  starts_is bytes h =
      sym (take-append-drop 8 bytes) ∙ ap (λ (front : List ℕ). front ++ drop 8 bytes) (sym ((bytes_eq-Decides head (take 8 bytes)).0 h))

  pub offset_ok : (len : ℕ) (r : Result Library ℕ) (l : Library) → to_offset len r ≡ Ok l → r ≡ Ok l
  offset_ok len (Ok m) l e = e
  offset_ok len (Err left) l e = absurd cc

  pub whole_ok : (r : Parsed Library) (l : Library) → whole keeps r ≡ Ok l → (r ≡ Ok (l, [])) × IsTrue (keeps l)
  whole_ok (Ok x) l e =
      let g = guard (not (eqb (length x.1) 0)) (length x.1) (cond (keeps x.0) (Ok x.0) (Err 0)) l e in
      let k = kept (keeps x.0) 0 (Ok x.0) l g.1 in
      let nil : x.1 ≡ [] = nil_from_length x.1 (eqb-true _ _ (not_false _ g.0)) in
      let is : x.0 ≡ l = ok_is x.0 l k.1 in (
        ap (λ (rest : List ℕ). Ok (x.0, rest)) nil ∙ ap (λ (m : Library). Ok (m, [])) is,
        subst (λ (m : Library). IsTrue (keeps m)) is k.0,
      )
  whole_ok (Err left) l e = absurd cc

  -- what is read is a library, and bytes are its spelling
  pub accepted : (bytes : List ℕ) (l : Library) → IsBytes bytes → library_in built keeps bytes ≡ Ok l
      → IsDecoded built keeps l × (bytes ≡ spelling l)
  unfolding library_in spelling
  accepted bytes l fits e =
      let read = (library_fields built).read (drop 8 bytes) in
      let offset = to_offset (length bytes) (whole keeps read) in
      let h = guard (not (starts_with nat_eq bytes head)) 0 (cond (ltb LONGEST_LIBRARY (length bytes)) (Err LONGEST_LIBRARY) offset) l e in
      let g = guard (ltb LONGEST_LIBRARY (length bytes)) LONGEST_LIBRARY offset l h.1 in
      let w = whole_ok read l (offset_ok (length bytes) (whole keeps read) l g.1) in
      let t = (fields_is built).takes (drop 8 bytes) (l, []) (IsBytes-drop 8 bytes fits) w.0 in
      let is : bytes ≡ head ++ fields_onto l [] = starts_is bytes (not_false _ h.0) ∙ ap (λ (y : List ℕ). head ++ y) t.parts in (
        record {
          fields = t.fits;
          places = w.1;
          short = subst (λ (y : List ℕ). length y ≤ LONGEST_LIBRARY) is (ltb-false _ _ g.0);
        },
        is,
      )

  pub decoded : (bytes : List ℕ) (r : Result Library DecodeFault) → IsBytes bytes → Decodes r (library_in built keeps bytes)
      → IfOk r (λ l. IsDecoded built keeps l × (bytes ≡ spelling l))
  decoded bytes (Ok l) fits e = accepted bytes l fits e
  decoded bytes (Err fault) fits e = tt

  -- machines are spelled as if they were off
  machines_off : (ms : List Machine) (rest : List ℕ) → items_onto machine_onto (map entry_off ms) rest ≡ items_onto machine_onto ms rest
  machines_off [] rest = refl
  machines_off (m ∷ ms) rest = ap (machine_onto m) (machines_off ms rest)

  pub spelled_off : (l : Library) → spelling (library_off l) ≡ spelling l
  unfolding spelling
  spelled_off l =
      rw (length-map l.machines entry_off, machines_off l.machines (list_onto w8 name_onto (list_of l.making) (list_onto w8 merging_onto l.merging [])))
      refl

  pub off_again : (l : Library) → IsDecoded built keeps (library_off l) → library_in built keeps (spelling l) ≡ Ok (library_off l)
  off_again l ok = ap (library_in built keeps) (sym (spelled_off l)) ∙ read_again (library_off l) ok
