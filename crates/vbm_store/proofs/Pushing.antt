-- Changes behind others of their file.
use Rattle.std.proofs.Common.{◌≡◌, ℕ, ◌+◌, ◌*◌, ◌^◌, ◌<◌, ◌≤◌, List, [], ◌∷◌, ◌++◌, length, Result, Ok, Err, OnOk, bytes_eq, refl, sym, ap, subst, ◌∙◌, arith, inl, inr, IsTrue}
use Rattle.std.specs.List.{AllByRecursion}
use Rattle.std.proofs.lemmas.List.{append_assoc}
use Rattle.vbm_named.proofs.Lists.{name_refl}
use Rattle.vbm_ports.specs.Names.{is_medium_name, is_inner_name, is_store_name, IsStoreName}
use Rattle.vbm_intent.specs.declared.change.Change.{Change}
use Rattle.vbm_intent.specs.declared.change.Change.TheVariants.{Write, Fill, Cut}
use Rattle.vbm_intent.specs.Changes.{log_name, name_of, of_file, IsWithinLimits, TouchesByte, IsAllowed, ApartFrom, IsApart}
use Rattle.vbm_intent.specs.Plan.{text_size, body_size}
use Rattle.vbm_intent.proofs.Applying.{of_file-append, of_file_yes}
use Rattle.vbm_header.specs.declared.Header.{Header}
use Rattle.vbm_header.specs.Written.{header_bytes, start, sizes, identifiers}
use Rattle.vbm_volume.specs.Like.{map_end}
use Rattle.vbm_volume.specs.Made.{IsNewHeader}
use Rattle.vbm_standing.proofs.Stores.{medium_not_log}
use Rattle.vbm_registry.specs.declared.library.Library.{Library}
use Rattle.vbm_registry.specs.Library.{library_name}
use Rattle.vbm_registry.specs.Spelling.{spelling}
use Rattle.vbm_registry.specs.declared.library.TheConstants.{LONGEST_LIBRARY}
use Rattle.vbm_store.specs.Plans.{library_changes, EndsBy}

pub on_ok : {A B P Q : Type 0} (r : Result A B) → (P → Q) → OnOk r P → OnOk r Q
on_ok (Ok x) f p = f p
on_ok (Err e) f p = tt

pub size_push : (cs : List Change) (c : Change) → body_size (cs ++ c ∷ []) ≡ body_size cs + text_size c
size_push [] c = omega arith
size_push (d ∷ cs) c = omega (arith, size_push cs c)

pub file_push : (name : List ℕ) (cs : List Change) (c : Change) → name_of c ≡ name → of_file name (cs ++ c ∷ []) ≡ of_file name cs ++ c ∷ []
file_push name cs c named =
    of_file-append name cs (c ∷ [])
    ∙ ap (λ (l : List Change). of_file name cs ++ l) (of_file_yes name c [] (ap (λ n. bytes_eq n name) named ∙ name_refl name))

apart_from : (c d : Change) (ds : List Change) → ApartFrom c ds → ((i : ℕ) → TouchesByte c i → TouchesByte d i → ⊥) → ApartFrom c (ds ++ d ∷ [])
apart_from c d [] apart new = (new, tt)
apart_from c d (e ∷ ds) apart new = (apart.0, apart_from c d ds apart.1 new)

apart_push : (place : ℕ) (cs : List Change) (c : Change) → IsApart cs → AllByRecursion (λ d. (i : ℕ) → TouchesByte d i → i < place) cs
    → ((i : ℕ) → TouchesByte c i → place ≤ i) → IsApart (cs ++ c ∷ [])
apart_push place [] c apart below from = (tt, tt)
apart_push place (d ∷ cs) c apart below from =
    (apart_from d c cs apart.0 (λ i t u. omega (arith, below.0 i t, from i u)), apart_push place cs c apart.1 below.1 from)

below_push : (place end : ℕ) (cs : List Change) (c : Change) → place ≤ end → AllByRecursion (λ d. (i : ℕ) → TouchesByte d i → i < place) cs
    → ((i : ℕ) → TouchesByte c i → i < end) → AllByRecursion (λ d. (i : ℕ) → TouchesByte d i → i < end) (cs ++ c ∷ [])
below_push place end [] c le below to = (to, tt)
below_push place end (d ∷ cs) c le below to = ((λ i t. omega (arith, le, below.0 i t)), below_push place end cs c le below.1 to)

pub write_from : (name : List ℕ) (at : ℕ) (bytes : List ℕ) (i : ℕ) → TouchesByte (Write name at bytes) i → (at ≤ i) × (i < at + length bytes)
write_from name at bytes i (inl writes) = (writes.low, writes.high)
write_from name at bytes i (inr takes) = absurd takes

pub fill_from : (name : List ℕ) (at len byte i : ℕ) → TouchesByte (Fill name at len byte) i → (at ≤ i) × (i < at + len)
fill_from name at len byte i (inl writes) = (writes.low, writes.high)
fill_from name at len byte i (inr takes) = absurd takes

pub cut_from : (name : List ℕ) (len i : ℕ) → TouchesByte (Cut name len) i → len ≤ i
cut_from name len i (inl writes) = absurd (omega (arith, writes.low, writes.high))
cut_from name len i (inr takes) = takes

-- a change of a file, behind the others
module _ (name : List ℕ) (cs : List Change) (c : Change) (named : name_of c ≡ name) where
  pub apart_behind : (place : ℕ) → EndsBy place (of_file name cs) → ((i : ℕ) → TouchesByte c i → place ≤ i)
      → IsApart (of_file (name_of c) (cs ++ c ∷ []))
  apart_behind place ends from = subst (λ n. IsApart (of_file n (cs ++ c ∷ []))) (sym named)
      (subst IsApart (sym (file_push name cs c named)) (apart_push place (of_file name cs) c ends.apart ends.below from))

  pub ends_behind : (place end : ℕ) → EndsBy place (of_file name cs) → place ≤ end → ((i : ℕ) → TouchesByte c i → (place ≤ i) × (i < end))
      → EndsBy end (of_file name (cs ++ c ∷ []))
  ends_behind place end ends le within = subst (EndsBy end) (sym (file_push name cs c named)) (record {
    apart = apart_push place (of_file name cs) c ends.apart ends.below (λ i t. (within i t).0);
    below = below_push place end (of_file name cs) c le ends.below (λ i t. (within i t).1);
  })

pub none_ends : (cs : List Change) → cs ≡ [] → EndsBy 0 cs
none_ends cs none = subst (EndsBy 0) (sym none) (record { apart = tt; below = tt })

-- ---- names

pub medium_store : (name : List ℕ) → IsTrue (is_medium_name name) → IsStoreName name
medium_store name named = rw named refl

pub allowed : (c : Change) → IsTrue (is_medium_name (name_of c)) → IsWithinLimits c → IsAllowed c
allowed c named limits = record { store = medium_store (name_of c) named; not_log = medium_not_log (name_of c) named; limits = limits }

library_allowed : (c : Change) → name_of c ≡ library_name → IsWithinLimits c → IsAllowed c
unfolding is_medium_name is_inner_name
library_allowed c named limits = record {
  store = ap is_store_name named;
  not_log = λ e. let no : library_name ≡ log_name = sym named ∙ e in absurd cc;
  limits = limits;
}

pub library_cut : (len : ℕ) → len ≤ LONGEST_LIBRARY → IsAllowed (Cut library_name len)
library_cut len short = library_allowed (Cut library_name len) refl (omega (arith, short))

spelling_some : (l : Library) → 0 < length (spelling l)
unfolding spelling
spelling_some l = omega arith

module _ (l : Library) (bytes : List ℕ) (is : bytes ≡ spelling l) where
  pub library_write : IsAllowed (Write library_name 0 bytes)
  library_write = library_allowed (Write library_name 0 bytes) refl (omega (arith, ap length is, spelling_some l), omega arith)

  -- the changes of the library's file, one after the other
  pub library_pushed : (old mid new : List Change) (len : ℕ) → len ≡ length bytes → mid ≡ old ++ Write library_name 0 bytes ∷ []
      → new ≡ mid ++ Cut library_name len ∷ [] → new ≡ old ++ library_changes l
  library_pushed old mid new len same first second =
      second ∙ ap (λ (cs : List Change). cs ++ Cut library_name len ∷ []) first
      ∙ append_assoc old (Write library_name 0 bytes ∷ []) (Cut library_name len ∷ [])
      ∙ ap (λ (n : ℕ). old ++ Write library_name 0 bytes ∷ Cut library_name n ∷ []) same
      ∙ ap (λ (b : List ℕ). old ++ Write library_name 0 b ∷ Cut library_name (length b) ∷ []) is

-- ---- the places of a new image

-- where its parts stand
pub record Parts (h : Header) : Type 0 where
  pub front : 472 < h.off_blocks
  pub some : 0 < h.blocks
  pub few : 4 * h.blocks ≤ 2 ^ 23
  pub behind : map_end h ≤ h.off_data
  pub gap : h.off_data ≤ map_end h + 2 ^ 20
  pub off_blocks : h.off_blocks ≡ 2 ^ 20

pub parts : (h : Header) → IsNewHeader h → Parts h
parts h new = record {
  front = omega arith;
  some = omega arith;
  few = omega arith;
  behind = omega arith;
  gap = omega arith;
  off_blocks = new.off_blocks;
}

pub length-header_bytes : (h : Header) → length (header_bytes h) ≡ 472
unfolding start sizes identifiers
length-header_bytes h = refl
