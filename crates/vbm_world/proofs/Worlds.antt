-- Worlds that are off, and worlds that differ in unsettled sectors.
use Rattle.std.proofs.Common.{◌≡◌, ℕ, ◌+◌, Bool, true, false, ◌&&◌, List, [], ◌∷◌, map, Option, Some, None, refl, sym, ap, subst, subst₂, ⊎_elim, ◌∙◌, is_none, IsTrue, unwrap_or}
use Rattle.std.specs.List.{list_any}
use Rattle.std.specs.Option.{option_map}
use Rattle.std.specs.Str.{bytes_eq}
use Rattle.std.proofs.lemmas.Bool.{and_left, and_right, and_cases, or_parts, or_from, false_from_ne_true}
use Rattle.std.proofs.Math.Bool.{and-false}
use Rattle.std.proofs.lemmas.List.{ext_get_or, length-map}
use Rattle.std.proofs.lemmas.List.Folds.{fold-map}
use Rattle.std.proofs.lemmas.Option.{unwrap_or-slice_get}
use Rattle.vbm_volume.specs.Sectors.{FlatDisk}
use Rattle.vbm_world.specs.declared.command.Command.{Command}
use Rattle.vbm_world.specs.declared.command.Command.TheVariants.{CreateMedium}
use Rattle.vbm_world.specs.declared.world.WorldMedium.{WorldMedium}
use Rattle.vbm_world.specs.declared.world.WorldSlot.{WorldSlot}
use Rattle.vbm_world.specs.declared.world.WorldMachine.{WorldMachine}
use Rattle.vbm_named.specs.Names.{Name}
use Rattle.vbm_world.specs.World.{World, medium_name, machine_name, is_direct, is_in_snapshot, is_frozen, medium_off, machine_off, off}
use Rattle.vbm_world.specs.Step.{step_of}
use Rattle.vbm_world.specs.Loose.{Unsettled, all_settled, is_refused, loose_of_medium, IsLikeDisk, AreAlike, IsLikeMedium, IsLikeSlot, IsLikeMachine, IsLoosely}
use Rattle.vbm_world.specs.Sound.{IsSoundMachine, first_count, IsSound}
use Rattle.vbm_named.proofs.Lists.{All-every, All-map, All-of_map, any_none, any_map, find_map, has_map, rises_map}
use Rattle.vbm_world.proofs.Keeping.{asked_of, Agree, EachSlot, machine_kept, shelf_kept}

-- ---- off

map_twice : {X : Type 0} (f : X → X) → ((x : X) → f (f x) ≡ f x) → (xs : List X) → map f (map f xs) ≡ map f xs
map_twice f once [] = refl
map_twice f once (x ∷ xs) = λ i. once x i ∷ map_twice f once xs i

pub off_off : (w : World) → off (off w) ≡ off w
off_off w = λ i. record w { media = map_twice medium_off (λ m. refl) w.media i; machines = map_twice machine_off (λ m. refl) w.machines i }

kind_off : (o : Option WorldMedium) → option_map asked_of (option_map medium_off o) ≡ option_map asked_of o
kind_off None = refl
kind_off (Some m) = refl

frozen_off : (machines : List WorldMachine) (m : WorldMedium) → is_frozen (map machine_off machines) (medium_off m) ≡ is_frozen machines m
frozen_off machines m = rw (any_map machine_off (is_in_snapshot m.name) machines) refl

machine_off_sound : (media : List WorldMedium) (m : WorldMachine) → IsSoundMachine media m → IsSoundMachine (map medium_off media) (machine_off m)
machine_off_sound media m sound =
    let agree = λ (s : WorldSlot). ap (option_map asked_of) (find_map medium_off medium_name medium_name (λ n. refl) s.medium media) ∙ kind_off _ in
    let other = map medium_off media in
    let each : EachSlot (Agree media other) m = (All-every _ agree m.slots, All-every _ (λ s. All-every _ agree s.slots) m.snapshots) in
    let kept = machine_kept media other m each sound in
    record { tree = kept.tree; slots = kept.slots; places = kept.places; children = kept.children; current = kept.current; own = kept.own }

pub off_sound : (w : World) → IsSound w → IsSound (off w)
off_sound w ok = record {
  seed = ok.seed;
  next = ok.next;
  inner = ok.inner;
  media_order = rises_map medium_off medium_name medium_name (λ m. refl) w.media ok.media_order;
  media_names = All-of_map medium_off _ w.media ok.media_names;
  media = All-of_map medium_off _ w.media (All-map _ _
      (λ m h. record { frozen = h.frozen ∙ sym (frozen_off w.machines m); disk = h.disk; capacity = h.capacity }) w.media ok.media);
  machine_order = rises_map machine_off machine_name machine_name (λ m. refl) w.machines ok.machine_order;
  machines = All-of_map machine_off _ w.machines (All-map _ _ (machine_off_sound w.media) w.machines ok.machines);
  first = All-of_map medium_off _ w.media (All-map _ _ (λ m h frozen.
      fold-map (λ a k. a + first_count m.name k) machine_off 0 w.machines ∙ h (sym (frozen_off w.machines m) ∙ frozen)) w.media ok.first);
  shelf = λ name. shelf_kept w.media (map medium_off w.media) name (w.shelf name)
      (λ there free. has_map medium_off medium_name medium_name (λ m. refl) name w.media ∙ free) (ok.shelf name);
  few_media = rw length-map ok.few_media;
  few_machines = rw length-map ok.few_machines;
  few_snapshots = rw fold-map ok.few_snapshots;
  few_places = rw fold-map ok.few_places;
}

-- ---- lists that are alike

module _ {X : Type 0} where
  pub alike_refl : (like : X → X → Type 0) → ((x : X) → like x x) → (xs : List X) → AreAlike like xs xs
  alike_refl like same [] = tt
  alike_refl like same (x ∷ xs) = (same x, alike_refl like same xs)

  pub alike_same : (like : X → X → Type 0) → ((x y : X) → like x y → y ≡ x) → (xs ys : List X) → AreAlike like xs ys → ys ≡ xs
  alike_same like same [] [] alike = refl
  alike_same like same (x ∷ xs) (y ∷ ys) alike = λ i. same x y alike.0 i ∷ alike_same like same xs ys alike.1 i
  alike_same like same xs ys alike = absurd alike

  pub alike_joins : (a b like : X → X → Type 0) → ((x y z : X) → a x y → b y z → like x z) → (xs ys zs : List X)
      → AreAlike a xs ys → AreAlike b ys zs → AreAlike like xs zs
  alike_joins a b like joins [] [] [] one two = tt
  alike_joins a b like joins (x ∷ xs) (y ∷ ys) (z ∷ zs) one two = (joins x y z one.0 two.0, alike_joins a b like joins xs ys zs one.1 two.1)
  alike_joins a b like joins [] [] zs one two = absurd two
  alike_joins a b like joins (x ∷ xs) (y ∷ ys) zs one two = absurd two
  alike_joins a b like joins xs ys zs one two = absurd one

  -- where a test fails at each of the one, another fails at each of the other
  pub alike_none : (like : X → X → Type 0) (p q : X → Bool) → ((x y : X) → like x y → p x ≡ false → q y ≡ false)
      → (xs ys : List X) → AreAlike like xs ys → list_any p xs ≡ false → list_any q ys ≡ false
  alike_none like p q goes [] [] alike none = refl
  alike_none like p q goes (x ∷ xs) (y ∷ ys) alike none =
      let both = or_parts (p x) (list_any p xs) none in
      or_from (q y) (list_any q ys) (goes x y alike.0 both.0) (alike_none like p q goes xs ys alike.1 both.1)
  alike_none like p q goes xs ys alike none = absurd alike

-- ---- disks

-- what is settled by the one is settled by the other
abbrev Keeps : (ℕ → Bool) → (ℕ → Bool) → Type 0
Keeps loose other = (i : ℕ) → loose i ≡ false → other i ≡ false

disk_joins : (a b loose : ℕ → Bool) → Keeps loose a → Keeps loose b → (x y z : Option FlatDisk)
    → IsLikeDisk a x y → IsLikeDisk b y z → IsLikeDisk loose x z
disk_joins a b loose to_a to_b None None None one two = tt
disk_joins a b loose to_a to_b (Some x) (Some y) (Some z) one two =
    record { as_long = two.as_long ∙ one.as_long; same = λ i settled. two.same i (to_b i settled) ∙ one.same i (to_a i settled) }
disk_joins a b loose to_a to_b None None z one two = absurd two
disk_joins a b loose to_a to_b (Some x) (Some y) z one two = absurd two
disk_joins a b loose to_a to_b x y z one two = absurd one

disk_refl : (loose : ℕ → Bool) (x : Option FlatDisk) → IsLikeDisk loose x x
disk_refl loose None = tt
disk_refl loose (Some x) = record { as_long = refl; same = λ i settled. refl }

-- where all is settled
disk_same : (loose : ℕ → Bool) → ((i : ℕ) → loose i ≡ false) → (x y : Option FlatDisk) → IsLikeDisk loose x y → y ≡ x
disk_same loose settled None None like = refl
disk_same loose settled (Some x) (Some y) like = ap (λ (disk : FlatDisk). Some disk) (ext_get_or [] y x like.as_long (λ i below.
    sym (unwrap_or-slice_get y i []) ∙ ap (λ (o : Option (List ℕ)). unwrap_or o []) (like.same i (settled i)) ∙ unwrap_or-slice_get x i []))
disk_same loose settled x y like = absurd like

disk_none : (loose : ℕ → Bool) (x y : Option FlatDisk) → IsLikeDisk loose x y → is_none y ≡ is_none x
disk_none loose None None like = refl
disk_none loose (Some x) (Some y) like = refl
disk_none loose x y like = absurd like

-- ---- worlds

-- each sector of the one is one of the other
abbrev pub Within : Unsettled → Unsettled → Type 0
Within u more = (vm : Name) (port sector : ℕ) → IsTrue (u vm port sector) → IsTrue (more vm port sector)

settled_within : (u more : Unsettled) → Within u more → (vm : Name) (port : ℕ) → Keeps (more vm port) (u vm port)
settled_within u more within vm port i none =
    false_from_ne_true (u vm port i) (λ t. let clash : true ≡ false = sym (within vm port i t) ∙ none in absurd cc)

pub machine_refl : (u : Unsettled) (m : WorldMachine) → IsLikeMachine u m m
machine_refl u m = record { rest = refl; slots = alike_refl _ (λ s. record { rest = refl; disk = disk_refl _ s.own }) m.slots }

pub loosely_refl : (u : Unsettled) (w : World) → IsLoosely u w w
loosely_refl u w = record {
  rest = refl;
  media = alike_refl _ (λ m. record { rest = refl; disk = disk_refl _ m.flat }) w.media;
  machines = alike_refl _ (machine_refl u) w.machines;
}

slot_settled : (loose more other : ℕ → Bool) → Keeps more other → (name : Name) (i : ℕ) (s t : WorldSlot) → IsLikeSlot loose s t
    → (is_direct s && bytes_eq s.medium name && more i) ≡ false → (is_direct t && bytes_eq t.medium name && other i) ≡ false
slot_settled loose more other keeps name i s t like none =
    let medium : t.medium ≡ s.medium = ap (λ (k : WorldSlot). k.medium) like.rest in
    rw (medium, disk_none loose s.own t.own like.disk) (⊎_elim (and_left (is_direct s && bytes_eq s.medium name) (other i))
    (λ settled. and_right (is_direct s && bytes_eq s.medium name) (other i) (keeps i settled)) (and_cases _ _ none))

-- sectors of a medium that are settled by more are settled by less, also in machines that are alike
pub loose_within : (a b more : Unsettled) → Within b more → (ms ns : List WorldMachine) → AreAlike (IsLikeMachine a) ms ns
    → (name : Name) (i : ℕ) → loose_of_medium more ms name i ≡ false → loose_of_medium b ns name i ≡ false
loose_within a b more within ms ns alike name i = alike_none (IsLikeMachine a) _ _ (λ x y like.
    let same : y.name ≡ x.name = ap (λ (k : WorldMachine). k.name) like.rest in
    rw same (alike_none (λ (s t : WorldSlot). IsLikeSlot (a x.name s.port) s t) _ _ (λ s t one.
    let port : t.port ≡ s.port = ap (λ (k : WorldSlot). k.port) one.rest in
    rw port (slot_settled (a x.name s.port) (more x.name s.port) (b x.name s.port) (settled_within b more within x.name s.port) name i s t one))
    x.slots y.slots like.slots)) ms ns alike

module _ (a b u : Unsettled) (in_a : Within a u) (in_b : Within b u) where
  machine_joins : (x y z : WorldMachine) → IsLikeMachine a x y → IsLikeMachine b y z → IsLikeMachine u x z
  machine_joins x y z first then = record {
    rest = then.rest ∙ ap (λ (m : WorldMachine). record m { slots = z.slots }) first.rest;
    slots = alike_joins (λ (s t : WorldSlot). IsLikeSlot (a x.name s.port) s t)
        (λ (s t : WorldSlot). IsLikeSlot (b y.name s.port) s t) _ (λ s t r one two. record {
          rest = two.rest ∙ ap (λ (k : WorldSlot). record k { own = r.own }) one.rest;
          disk = disk_joins (a x.name s.port) (b y.name t.port) (u x.name s.port) (settled_within a u in_a x.name s.port)
              (subst₂ (λ vm port. Keeps (u vm port) (b y.name t.port)) (ap (λ (k : WorldMachine). k.name) first.rest)
              (ap (λ (k : WorldSlot). k.port) one.rest) (settled_within b u in_b y.name t.port)) s.own t.own r.own one.disk two.disk;
        }) x.slots y.slots z.slots first.slots then.slots;
  }

  -- two worlds that differ loosely from one to the next
  pub loosely_joins : (w v x : World) → IsLoosely a w v → IsLoosely b v x → IsLoosely u w x
  loosely_joins w v x first then = record {
    rest = then.rest ∙ ap (λ (k : World). record k { media = x.media; machines = x.machines }) first.rest;
    media = alike_joins (λ (m n : WorldMedium). IsLikeMedium (loose_of_medium a w.machines m.name) m n)
        (λ (m n : WorldMedium). IsLikeMedium (loose_of_medium b v.machines m.name) m n) _ (λ m n o one two. record {
          rest = two.rest ∙ ap (λ (k : WorldMedium). record k { flat = o.flat }) one.rest;
          disk = disk_joins (loose_of_medium a w.machines m.name) (loose_of_medium b v.machines n.name) (loose_of_medium u w.machines m.name)
              (loose_within a a u in_a w.machines w.machines (alike_refl _ (machine_refl a) w.machines) m.name)
              (subst (λ name. Keeps (loose_of_medium u w.machines name) (loose_of_medium b v.machines n.name))
              (ap (λ (k : WorldMedium). k.name) one.rest) (loose_within a b u in_b w.machines v.machines first.machines n.name))
              m.flat n.flat o.flat one.disk two.disk;
        }) w.media v.media x.media first.media then.media;
    machines = alike_joins (IsLikeMachine a) (IsLikeMachine b) _ machine_joins w.machines v.machines x.machines first.machines then.machines;
  }

pub loosely_weaker : (u more : Unsettled) → Within u more → (w v : World) → IsLoosely u w v → IsLoosely more w v
loosely_weaker u more within w v loosely = loosely_joins u more more within (λ vm port sector t. t) w v v loosely (loosely_refl more v)

pub loosely_trans : (u : Unsettled) (w v x : World) → IsLoosely u w v → IsLoosely u v x → IsLoosely u w x
loosely_trans u = loosely_joins u u u (λ vm port sector t. t) (λ vm port sector t. t)

nothing_loose : (machines : List WorldMachine) (name : Name) (i : ℕ) → loose_of_medium all_settled machines name i ≡ false
nothing_loose machines name i = any_none _ machines (All-every _ (λ m. any_none _ m.slots (All-every _ (λ s. and-false _) m.slots)) machines)

-- where nothing is unsettled, loosely equal worlds are equal
pub loosely_same : (w v : World) → IsLoosely all_settled w v → v ≡ w
loosely_same w v loosely =
    let media : v.media ≡ w.media = alike_same _ (λ m n like. like.rest ∙ ap (λ (flat : Option FlatDisk). record m { flat = flat })
    (disk_same _ (nothing_loose w.machines m.name) m.flat n.flat like.disk)) w.media v.media loosely.media in
    let machines : v.machines ≡ w.machines = alike_same _ (λ x y like. like.rest ∙ ap (λ (slots : List WorldSlot). record x { slots = slots })
    (alike_same _ (λ s t one. one.rest ∙ ap (λ (own : Option FlatDisk). record s { own = own }) (disk_same _ (λ i. refl) s.own t.own one.disk))
    x.slots y.slots like.slots)) w.machines v.machines loosely.machines in
    loosely.rest ∙ (λ i. record w { media = media i; machines = machines i })
