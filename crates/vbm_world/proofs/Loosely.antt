-- Loosely equal worlds stay so when they are switched off, and each is sound where the other is.
use Rattle.std.proofs.Common.{◌≡◌, ℕ, ◌+◌, ◌≤◌, ◌&&◌, Bool, true, false, cond, List, [], ◌∷◌, length, map, Option, Some, None, refl, sym, ap, subst, ◌∙◌, arith, nat_lt, find, slice_get, unwrap_or, ◌-◌}
use Rattle.std.specs.List.{AllByRecursion, list_any}
use Rattle.std.specs.Str.{bytes_eq}
use Rattle.std.proofs.lemmas.Bool.{ltb-false, ltb-true}
use Rattle.vbm_ids.specs.declared.TheConstants.{NUMBER_LIMIT}
use Rattle.vbm_volume.specs.Sectors.{FlatDisk}
use Rattle.vbm_world.specs.declared.command.Refusal.{Refusal}
use Rattle.vbm_world.specs.declared.world.WorldMedium.{WorldMedium}
use Rattle.vbm_world.specs.declared.world.WorldSlot.{WorldSlot}
use Rattle.vbm_world.specs.declared.world.WorldMachine.{WorldMachine}
use Rattle.vbm_named.specs.Names.{Name}
use Rattle.vbm_world.specs.World.{World, is_direct, medium_off, machine_off, off}
use Rattle.vbm_world.specs.Refusals.{Check, first_refusal}
use Rattle.vbm_world.specs.Outcomes.{Outcome, refused, refused_or, unless_refused, found_or}
use Rattle.vbm_world.specs.Guests.{with_sectors}
use Rattle.vbm_world.specs.Loose.{Unsettled, loose_of_medium, IsLikeFlat, IsLikeDisk, AreAlike, IsLikeMedium, IsLikeSlot, IsLikeMachine, IsLoosely}
use Rattle.vbm_world.specs.Sound.{IsSound}
use Rattle.vbm_named.proofs.Lists.{any_map}
use Rattle.vbm_world.proofs.Writing.{disk_length, IsWrittenMedium, IsWrittenSlot, IsWrittenMachine, IsWritten, written_sound}
use Rattle.vbm_world.proofs.GuestDisks.{with_length, get_before, get_written, get_after}

-- ---- lists that are alike

module _ {X : Type 0} where
  pub alike_goes : (like other : X → X → Type 0) → ((x y : X) → like x y → other x y) → (xs ys : List X) → AreAlike like xs ys → AreAlike other xs ys
  alike_goes like other goes [] [] alike = tt
  alike_goes like other goes (x ∷ xs) (y ∷ ys) alike = (goes x y alike.0, alike_goes like other goes xs ys alike.1)
  alike_goes like other goes [] (y ∷ ys) alike = absurd alike
  alike_goes like other goes (x ∷ xs) [] alike = absurd alike

  pub alike_maps : (like other : X → X → Type 0) (f g : X → X) → ((x y : X) → like x y → other (f x) (g y)) → (xs ys : List X) → AreAlike like xs ys
      → AreAlike other (map f xs) (map g ys)
  alike_maps like other f g goes [] [] alike = tt
  alike_maps like other f g goes (x ∷ xs) (y ∷ ys) alike = (goes x y alike.0, alike_maps like other f g goes xs ys alike.1)
  alike_maps like other f g goes [] (y ∷ ys) alike = absurd alike
  alike_maps like other f g goes (x ∷ xs) [] alike = absurd alike

  -- both found, and alike, or neither
  abbrev pub AreFound : (X → X → Type 0) → Option X → Option X → Type 0
  AreFound like None None = Unit {0}
  AreFound like (Some x) (Some y) = like x y
  AreFound like None (Some y) = ⊥
  AreFound like (Some x) None = ⊥

  pub alike_find : (like : X → X → Type 0) (p q : X → Bool) → ((x y : X) → like x y → q y ≡ p x) → (xs ys : List X) → AreAlike like xs ys
      → AreFound like (find p xs) (find q ys)
  alike_find like p q same [] [] alike = tt
  alike_find like p q same (x ∷ xs) (y ∷ ys) alike = rw (same x y alike.0)
      (elim (p x) as (λ b. AreFound like (cond b (Some x) (find p xs)) (cond b (Some y) (find q ys))) [
        | true ↦ alike.0
        | false ↦ alike_find like p q same xs ys alike.1
      ])
  alike_find like p q same [] (y ∷ ys) alike = absurd alike
  alike_find like p q same (x ∷ xs) [] alike = absurd alike

pub cond_two : {A : Type 0} (P : A → A → Type 0) (b c : Bool) (x x′ y y′ : A) → c ≡ b → (b ≡ true → P x y) → (b ≡ false → P x′ y′)
    → P (cond b x x′) (cond c y y′)
cond_two P true true x x′ y y′ e here there = here refl
cond_two P false false x x′ y y′ e here there = there refl
cond_two P true false x x′ y y′ e here there = absurd cc
cond_two P false true x x′ y y′ e here there = absurd cc

-- ---- disks

pub like_length : (loose : ℕ → Bool) (a b : Option FlatDisk) → IsLikeDisk loose a b → disk_length b ≡ disk_length a
like_length loose None None like = refl
like_length loose (Some a) (Some b) like = ap (λ (n : ℕ). Some n) like.as_long
like_length loose None (Some b) like = absurd like
like_length loose (Some a) None like = absurd like

-- what there is of two disks, none as an empty one
pub like_flat : (loose : ℕ → Bool) (a b : Option FlatDisk) → IsLikeDisk loose a b → IsLikeFlat loose (unwrap_or a []) (unwrap_or b [])
like_flat loose None None like = record { as_long = refl; same = λ i settled. refl }
like_flat loose (Some a) (Some b) like = like
like_flat loose None (Some b) like = absurd like
like_flat loose (Some a) None like = absurd like

-- the same sectors written to both
pub with_like : (loose : ℕ → Bool) (a b : FlatDisk) (lba : ℕ) (sectors : FlatDisk) → IsLikeFlat loose a b → lba + length sectors ≤ length a
    → IsLikeFlat loose (with_sectors a lba sectors) (with_sectors b lba sectors)
with_like loose a b lba sectors like within =
    let long : length b ≡ length a = like.as_long in
    let other : lba + length sectors ≤ length b = omega arith in
    record {
      as_long = with_length b lba sectors other ∙ long ∙ sym (with_length a lba sectors within);
      same = λ i settled. elim (nat_lt i lba) as (λ t. nat_lt i lba ≡ t
          → slice_get (with_sectors b lba sectors) i ≡ slice_get (with_sectors a lba sectors) i) [
            | true ↦ λ e.
                let below = ltb-true i lba e in
                get_before b lba sectors other i below ∙ like.same i settled ∙ sym (get_before a lba sectors within i below)
            | false ↦ λ e.
                let from : lba ≤ i = ltb-false i lba e in
                elim (nat_lt i (lba + length sectors)) as (λ t. nat_lt i (lba + length sectors) ≡ t
                → slice_get (with_sectors b lba sectors) i ≡ slice_get (with_sectors a lba sectors) i) [
                  | true ↦ λ d.
                      let below = ltb-true i (lba + length sectors) d in
                      let at : lba + (i - lba) ≡ i = omega arith in
                      subst (λ (n : ℕ). slice_get (with_sectors b lba sectors) n ≡ slice_get (with_sectors a lba sectors) n) at
                      (get_written b lba sectors other (i - lba) (omega arith) ∙ sym (get_written a lba sectors within (i - lba) (omega arith)))
                  | false ↦ λ d.
                      let past : lba + length sectors ≤ i = ltb-false i (lba + length sectors) d in
                      let at : lba + length sectors + (i - (lba + length sectors)) ≡ i = omega arith in
                      subst (λ (n : ℕ). slice_get (with_sectors b lba sectors) n ≡ slice_get (with_sectors a lba sectors) n) at
                      (get_after b lba sectors other (i - (lba + length sectors)) ∙ like.same _ (ap loose at ∙ settled)
                      ∙ sym (get_after a lba sectors within (i - (lba + length sectors))))
                ] refl
          ] refl;
    }

-- ---- soundness

slot_written : (loose : ℕ → Bool) (s t : WorldSlot) → IsLikeSlot loose s t → IsWrittenSlot s t
slot_written loose s t like = record {
  port = ap (λ (k : WorldSlot). k.port) like.rest;
  medium = ap (λ (k : WorldSlot). k.medium) like.rest;
  autoreset = ap (λ (k : WorldSlot). k.autoreset) like.rest;
  disk = like_length loose s.own t.own like.disk;
}

loose_written : (u : Unsettled) (w v : World) → IsLoosely u w v → IsSound w → IsWritten w v
loose_written u w v loosely ok = record {
  seed = ap (λ (k : World). k.seed) loosely.rest;
  next = subst (λ (n : ℕ). n ≤ NUMBER_LIMIT) (sym (ap (λ (k : World). k.next) loosely.rest)) ok.next;
  inner = ap (λ (k : World). k.inner) loosely.rest;
  media = alike_goes (λ (m n : WorldMedium). IsLikeMedium (loose_of_medium u w.machines m.name) m n) IsWrittenMedium (λ m n like. record {
    name = ap (λ (k : WorldMedium). k.name) like.rest;
    mode = ap (λ (k : WorldMedium). k.mode) like.rest;
    capacity = ap (λ (k : WorldMedium). k.capacity) like.rest;
    disk = like_length (loose_of_medium u w.machines m.name) m.flat n.flat like.disk;
  }) w.media v.media loosely.media;
  machines = alike_goes (IsLikeMachine u) IsWrittenMachine (λ a b like. record {
    name = ap (λ (k : WorldMachine). k.name) like.rest;
    snapshots = ap (λ (k : WorldMachine). k.snapshots) like.rest;
    current = ap (λ (k : WorldMachine). k.current) like.rest;
    slots = alike_goes (λ (s t : WorldSlot). IsLikeSlot (u a.name s.port) s t) IsWrittenSlot (λ s t. slot_written (u a.name s.port) s t)
        a.slots b.slots like.slots;
  }) w.machines v.machines loosely.machines;
  shelf = ap (λ (k : World). k.shelf) loosely.rest;
}

-- a world that is loosely equal to a sound one is sound
pub loosely_sound : (u : Unsettled) (w v : World) → IsLoosely u w v → IsSound w → IsSound v
loosely_sound u w v loosely ok = written_sound w v (loose_written u w v loosely ok) ok

-- ---- off

loose_off : (u : Unsettled) (machines : List WorldMachine) → loose_of_medium u (map machine_off machines) ≡ loose_of_medium u machines
loose_off u machines = λ j name i. any_map machine_off
    (λ (m : WorldMachine). list_any (λ (s : WorldSlot). is_direct s && bytes_eq s.medium name && u m.name s.port i) m.slots) machines j

-- loosely equal worlds are so when they are switched off
pub off_loosely : (u : Unsettled) (w v : World) → IsLoosely u w v → IsLoosely u (off w) (off v)
off_loosely u w v loosely = record {
  rest = λ i. record (loosely.rest i) { media = map medium_off v.media; machines = map machine_off v.machines };
  media = alike_maps (λ (m n : WorldMedium). IsLikeMedium (loose_of_medium u w.machines m.name) m n) _ medium_off medium_off
      (λ m n like. record {
        rest = ap medium_off like.rest;
        disk = subst (λ (loose : Name → ℕ → Bool). IsLikeDisk (loose m.name) m.flat n.flat) (sym (loose_off u w.machines)) like.disk;
      }) w.media v.media loosely.media;
  machines = alike_maps (IsLikeMachine u) (IsLikeMachine u) machine_off machine_off
      (λ a b like. record { rest = ap machine_off like.rest; slots = like.slots }) w.machines v.machines loosely.machines;
}

-- ---- outcomes of two worlds

-- the same answer, and loosely equal worlds
pub record AreLoosely (u : Unsettled) (one other : Outcome) : Type 0 where
  pub answer : other.0 ≡ one.0
  pub world : IsLoosely u one.1 other.1

module _ (u : Unsettled) (w v : World) (loosely : IsLoosely u w v) where
  both_refused : (refusal : Refusal) → AreLoosely u (refused w refusal) (refused v refusal)
  both_refused refusal = record { answer = refl; world = loosely }

  pub both_unless : (checks : List Check) (one other : Outcome)
      → (AllByRecursion (λ (check : Check). check.0 ≡ false) checks → AreLoosely u one other)
      → AreLoosely u (unless_refused w checks one) (unless_refused v checks other)
  both_unless [] one other goes = goes tt
  both_unless (check ∷ checks) one other goes = elim check.0 as (λ b. check.0 ≡ b
      → AreLoosely u (refused_or w (cond b (Some check.1) (first_refusal checks)) one)
      (refused_or v (cond b (Some check.1) (first_refusal checks)) other)) [
        | true ↦ λ e. both_refused check.1
        | false ↦ λ e. both_unless checks one other (λ pass. goes (e, pass))
      ] refl

  pub both_found : {X : Type 0} (like : X → X → Type 0) (refusal : Refusal) (o p : Option X) (f g : X → Outcome) → AreFound like o p
      → ((x y : X) → o ≡ Some x → p ≡ Some y → like x y → AreLoosely u (f x) (g y)) → AreLoosely u (found_or w refusal o f) (found_or v refusal p g)
  both_found like refusal None None f g alike goes = both_refused refusal
  both_found like refusal (Some x) (Some y) f g alike goes = goes x y refl refl alike
  both_found like refusal None (Some y) f g alike goes = absurd alike
  both_found like refusal (Some x) None f g alike goes = absurd alike
