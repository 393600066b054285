-- Identifiers that are drawn, shelves that differ at a name, and worlds that are off.
use Rattle.std.proofs.Common.{◌≡◌, ℕ, ◌+◌, ◌<◌, true, false, cond, List, [], length, Option, Some, None, Result, refl, sym, ap, ◌∙◌, arith}
use Rattle.std.specs.Prelude.{nat_le}
use Rattle.std.specs.Str.{bytes_eq}
use Rattle.std.proofs.lemmas.Bool.{le-leb, lt-leb, false_from_ne_true}
use Rattle.std.proofs.lemmas.Simd.{map-map}
use Rattle.std.proofs.lemmas.Slice.Eq.{bytes_eq-Decides}
use Rattle.vbm_ports.specs.Files.{Files}
use Rattle.vbm_header.specs.declared.BadImage.{BadImage}
use Rattle.vbm_header.specs.declared.Header.{Header}
use Rattle.vbm_volume.specs.Image.{image_of}
use Rattle.vbm_ids.specs.declared.TheConstants.{NUMBER_LIMIT}
use Rattle.vbm_ids.specs.declared.Kind.{Kind}
use Rattle.vbm_ids.specs.declared.Kind.TheVariants.{Medium as Drawn, Modify, Inner, InnerModify}
use Rattle.vbm_ids.specs.Identifier.{identifier_of, number_in, count_of_id, is_foreign}
use Rattle.vbm_ids.proofs.Identifiers.{number_in_of, identifier_of-same}
use Rattle.vbm_named.specs.Names.{Name}
use Rattle.vbm_named.proofs.Lists.{name_refl}
use Rattle.vbm_world.specs.declared.world.Shelved.{Shelved}
use Rattle.vbm_world.specs.World.{with_shelved, medium_off, machine_off, off}
use Rattle.vbm_registry.specs.Named.{NamedLibrary}
use Rattle.vbm_standing.specs.Headers.{shelved_image, shelved_file}
use Rattle.vbm_standing.specs.Meaning.{medium_in, machine_in, shelf_in, world_of, none_changed, none_runs}

-- ---- identifiers

module _ (seed : List ℕ) (long : length seed ≡ 16) (n : ℕ) (small : n < NUMBER_LIMIT) where
  drawn_number : number_in seed Drawn (identifier_of seed Drawn n) ≡ Some n
  unfolding number_in
  drawn_number = rw (number_in_of seed (omega arith) Drawn n small, name_refl (identifier_of seed Drawn n)) refl

  no_other : (kind : Kind) → (Drawn ≡ kind → ⊥) → number_in seed kind (identifier_of seed Drawn n) ≡ None
  unfolding number_in
  no_other kind other =
      let id = identifier_of seed Drawn n in
      let differs : bytes_eq id (identifier_of seed kind (count_of_id id)) ≡ false = false_from_ne_true _ (λ same.
      let e = (bytes_eq-Decides id (identifier_of seed kind (count_of_id id))).0 same in
      other (identifier_of-same seed (omega arith) Drawn kind n (count_of_id id) small (omega arith) e).0) in
      rw differs refl

  drawn_test : (next : ℕ) → is_foreign seed next (identifier_of seed Drawn n) ≡ nat_le next n
  drawn_test next = rw (no_other Modify (λ e. absurd cc), no_other Inner (λ e. absurd cc), no_other InnerModify (λ e. absurd cc), drawn_number) refl

  -- the identifier that is drawn next is foreign, and is known once it is drawn
  pub drawn_foreign : is_foreign seed n (identifier_of seed Drawn n) ≡ true
  drawn_foreign = drawn_test n ∙ le-leb n n (omega arith)

  pub drawn_known : is_foreign seed (n + 1) (identifier_of seed Drawn n) ≡ false
  drawn_known = drawn_test (n + 1) ∙ lt-leb (n + 1) n (omega arith)

-- ---- the shelf

pub shelved_of_file : (f : List ℕ) (r : Result Header BadImage) → image_of f ≡ r → shelved_file f ≡ shelved_image f r
unfolding shelved_file
shelved_of_file f r is = ap (shelved_image f) is

-- a shelf that differs from another at a name
shelf_is : (shelf other : Name → Option Shelved) (name : Name) (to : Option Shelved) → other name ≡ to
    → ((n : Name) → bytes_eq n name ≡ false → other n ≡ shelf n) → other ≡ with_shelved shelf name to
shelf_is shelf other name to here others = λ i n. at n i
  where
    at : (n : Name) → other n ≡ with_shelved shelf name to n
    at n = elim (bytes_eq n name) as (λ b. bytes_eq n name ≡ b → other n ≡ cond b to (shelf n)) [
      | true ↦ λ e. ap other ((bytes_eq-Decides n name).0 e) ∙ here
      | false ↦ λ e. others n e
    ] refl

pub with_shelved_none : (shelf : Name → Option Shelved) (name : Name) → shelf name ≡ None → with_shelved shelf name None ≡ shelf
with_shelved_none shelf name none = sym (shelf_is shelf shelf name None none (λ n apart. refl))

-- ---- worlds that are off

-- the world of files is off
pub off_at_rest : (l : NamedLibrary) (files : Files) → off (world_of none_changed none_runs l files) ≡ world_of none_changed none_runs l files
unfolding world_of medium_in
off_at_rest l files =
    let media = map-map medium_off (medium_in none_changed l files) l.media in
    let machines = map-map machine_off (machine_in none_runs l files) l.machines in
    λ i. record { seed = l.seed; next = l.next; inner = l.inner; media = media i; machines = machines i; shelf = shelf_in l files }
