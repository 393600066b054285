-- What guests have not settled shows at their own slots alone, and in media whose disks these share.
use Rattle.std.proofs.Common.{◌≡◌, ℕ, ◌≤◌, Bool, true, false, cond, ◌&&◌, ◌||◌, List, [], ◌∷◌, map, reverse, Option, Some, None, refl, sym, ap, subst, ◌∙◌, arith, inl, inr, IsTrue, is_none, eqb-true}
use Rattle.std.specs.Prelude.{◌⊎◌, count_by, sum_by}
use Rattle.std.specs.List.{AllByRecursion, list_any}
use Rattle.std.specs.Str.{bytes_eq}
use Rattle.std.proofs.lemmas.Bool.{cases_Bool, cases_lt, cond_both, eq-eqb}
use Rattle.std.proofs.lemmas.List.Sums.{sum_by-cons}
use Rattle.std.proofs.lemmas.Slice.Eq.{bytes_eq-Decides}
use Rattle.vbm_ports.specs.Files.{Files}
use Rattle.vbm_ports.specs.Names.{is_medium_name}
use Rattle.vbm_machines.specs.declared.Held.{Held}
use Rattle.vbm_machines.specs.declared.Held.TheVariants.{Direct, Own, Base}
use Rattle.vbm_named.specs.Names.{Name, find_by, has_name}
use Rattle.vbm_named.proofs.Lists.{name_refl, name_sym, each_found, any_map, any_none, none_of_any, All-every, All-map, All-join, All-both, All-find}
use Rattle.vbm_world.specs.declared.world.WorldMachine.{WorldMachine}
use Rattle.vbm_world.specs.declared.world.WorldSlot.{WorldSlot}
use Rattle.vbm_world.specs.World.{is_direct}
use Rattle.vbm_world.specs.Loose.{Unsettled, loose_of_medium, IsLoosely}
use Rattle.vbm_registry.specs.declared.media.Medium.{Medium}
use Rattle.vbm_registry.specs.Library.{medium_entry_name}
use Rattle.vbm_registry.specs.Named.{ImageName, OfMedium, OfInner, NamedInner, NamedSlot, NamedSnapshot, NamedMachine, NamedMerging, NamedLibrary, images_of, named_machine_name}
use Rattle.vbm_registry.specs.Chains.{is_image, chain_of, medium_below, parent_of, merging_into}
use Rattle.vbm_registry.specs.Held.{may_hold}
use Rattle.vbm_registry.specs.Rules.{has_number, IsOwnOf, IsNamedSlot, is_held, holds, IsMachine, IsLibrary}
use Rattle.vbm_registry.proofs.ListLaws.{All-reverse}
use Rattle.vbm_standing.specs.ChainDisks.{inner_file, image_file}
use Rattle.vbm_standing.specs.Edits.{image_held, own_in}
use Rattle.vbm_standing.specs.EditedFiles.{HasImage}
use Rattle.vbm_standing.specs.Meaning.{is_ending, held_at_end, own_by, slot_in, machine_in, is_made, world_of}
use Rattle.vbm_standing.specs.SlotSectors.{slot_file, unsettled_in}
use Rattle.vbm_standing.proofs.ChainLaws.{images_down-all}
use Rattle.vbm_standing.proofs.ChainFrames.{parents-in}
use Rattle.vbm_registry.proofs.Counts.{sum-zero, count-zero, any-count}
use Rattle.vbm_standing.proofs.LeafImages.{All-forall, each-parent}
use Rattle.vbm_standing.proofs.PlacesHeld.{machine-listed}
use Rattle.vbm_standing.proofs.WorldParts.{OfHeld, OfPlace}
use Rattle.vbm_standing.proofs.FirstSnapshots.{slot_count, place_count, sum-plus, each-any, merging-rules, merging-parent}
use Rattle.vbm_standing.proofs.StackedPlaces.{IsMergedDown, parent-below}
use Rattle.vbm_standing.proofs.SoundWorlds.{down-ending}
use Rattle.vbm_standing.proofs.UsedImages.{used-once}
use Rattle.vbm_standing.proofs.MediaWorlds.{own-number, each-listed, named-listed}
use Rattle.vbm_standing.proofs.LikeChains.{AreLikeImages}
use Rattle.vbm_standing.proofs.LikeWorlds.{end_image, IsSettled, IsLooseWithin, AreLooseWithin, world-like}
use Rattle.vbm_standing.proofs.SlotSectors.{IsFreeImage, file-free, medium-not-inner, no-base, own-listed-all, is_parent, is_snapped, is_kept, each-parent-any, kept-settled}

-- ---- one item of weight

member-le : {X : Type 0} (w : X → ℕ) (xs : List X) → AllByRecursion (λ x. w x ≤ sum_by w xs) xs
member-le w [] = tt
member-le w (x ∷ xs) =
    let parts = sum_by-cons w x xs in (omega (arith, parts), All-map _ _ (λ y le. omega (arith, parts, le)) xs (member-le w xs))

one-weighs : {X : Type 0} (w : X → ℕ) (xs : List X) → sum_by w xs ≤ 1 → AllByRecursion (λ x. 1 ≤ w x → AllByRecursion (λ y. 1 ≤ w y → y ≡ x) xs) xs
one-weighs w [] most = tt
one-weighs w (x ∷ xs) most =
    let parts = sum_by-cons w x xs in (
      λ one. ((λ same. refl), All-map _ _ (λ y zero some. absurd (omega (arith, zero, some))) xs (sum-zero w xs (omega (arith, parts, most, one)))),
      All-join _ _ _ (λ z le all one. ((λ other. absurd (omega (arith, parts, most, le, one, other))), all one)) xs (member-le w xs)
          (one-weighs w xs (omega (arith, parts, most))),
    )

or_one : (b c : Bool) → c ≡ true → (b || c) ≡ true
or_one true c e = refl
or_one false c e = e

-- an item of a list makes a test that it passes one that some item passes
each-any-of : {X : Type 0} (xs : List X) → AllByRecursion (λ x. (p : X → Bool) → p x ≡ true → list_any p xs ≡ true) xs
each-any-of [] = tt
each-any-of (x ∷ xs) = ((λ p e. rw e refl), All-map _ _ (λ y any p e. or_one (p x) (list_any p xs) (any p e)) xs (each-any-of xs))

module _ (l : NamedLibrary) (is : IsLibrary l) (u : Unsettled) where
  -- ---- kept images

  kept-parent : AllByRecursion (λ (x : NamedInner). HasImage l x.parent × (is_kept l x.parent ≡ true)) (reverse l.inners)
  kept-parent = All-both _ _ (reverse l.inners) (parents-in l.media l.inner (reverse l.inners) is.inners)
      (All-map _ (λ (x : NamedInner). is_kept l x.parent ≡ true) (λ x parent. rw parent refl) (reverse l.inners)
      (All-reverse _ l.inners (each-parent-any l.inners)))

  -- a kept image is settled through its chain
  through-kept : (image : ImageName) → HasImage l image → is_kept l image ≡ true → IsSettled l (unsettled_in l u) image
  through-kept image listed kept = λ i. any_none _ (chain_of l.inners image)
      (All-map _ _ (λ j both. kept-settled l is u j both.0 both.1 i) (chain_of l.inners image)
      (images_down-all (λ j. HasImage l j × (is_kept l j ≡ true)) (reverse l.inners) image
      (All-map _ _ (λ x parent is_so. parent) (reverse l.inners) kept-parent) (listed, kept)))

  -- ---- the image of one slot

  module _ (m : NamedMachine) (there : find_by named_machine_name m.name l.machines ≡ Some m) (n : ℕ)
      (listed : has_number n (reverse l.inners) ≡ true) where
    abbrev here : NamedSlot → Bool
    here = holds (OfInner n)

    one_of : (b : Bool) → b ≡ true → 1 ≤ cond b 1 0
    one_of b e = rw e (omega arith)

    most : own_in m.slots n ≡ true → sum_by (slot_count here) l.machines ≤ 1
    most own =
        let once = used-once l is m there n own in
        let parts = sum-plus (slot_count here) (place_count here) l.machines in
        omega (arith, once, parts)

    mine : own_in m.slots n ≡ true → count_by here m.slots ≤ 1
    mine own =
        let le = All-find named_machine_name (λ (x : NamedMachine). slot_count here x ≤ sum_by (slot_count here) l.machines) m.name m l.machines
        (member-le (slot_count here) l.machines) there in
        let all = most own in
        omega (arith, le, all)

    -- at most one slot of the machine holds it
    alone : (own : Bool) → own_in m.slots n ≡ own
        → AllByRecursion (λ (s : NamedSlot). here s ≡ true → AllByRecursion (λ (t : NamedSlot). here t ≡ true → t ≡ s) m.slots) m.slots
    alone true e = All-map _ _ (λ s all holds_so. All-map _ _ (λ t same also. same (one_of (here t) also)) m.slots (all (one_of (here s) holds_so)))
        m.slots
        (one-weighs (λ (s : NamedSlot). cond (here s) 1 0) m.slots (mine e))
    alone false e = All-map _ _ (λ s no holds_so. let clash : true ≡ false = sym holds_so ∙ no in absurd cc) m.slots (none_of_any here m.slots e)

    -- and no other slot does
    sole : (s : NamedSlot) → (here s ≡ true → own_in m.slots n ≡ true)
        → (here s ≡ true → AllByRecursion (λ (t : NamedSlot). here t ≡ true → t ≡ s) m.slots)
        → here s ≡ true → AllByRecursion
        (λ (x : NamedMachine). AllByRecursion (λ (t : NamedSlot). here t ≡ true → (x.name ≡ m.name) × (t.port ≡ s.port)) x.slots) l.machines
    sole s owned one holds_so =
        let own = owned holds_so in
        let slots = one holds_so in
        let machines = All-find named_machine_name
        (λ (x : NamedMachine). 1 ≤ slot_count here x → AllByRecursion (λ (y : NamedMachine). 1 ≤ slot_count here y → y ≡ x) l.machines)
        m.name m l.machines (one-weighs (slot_count here) l.machines (most own)) there (any-count here m.slots own) in
        All-map _ _ (λ x same. elim (cases_lt 0 (slot_count here x)) [
          | inl some ↦
              let is_m : x ≡ m = same some in
              subst (λ (y : NamedMachine). AllByRecursion (λ (t : NamedSlot). here t ≡ true → (y.name ≡ m.name) × (t.port ≡ s.port)) y.slots)
              (sym is_m)
              (All-map _ _ (λ t equal also. (refl, ap (λ (z : NamedSlot). z.port) (equal also))) m.slots slots)
          | inr none ↦
              let zero : count_by here x.slots ≡ 0 = omega (arith, none) in
              All-map _ _ (λ t no also. let clash : true ≡ false = sym also ∙ no in absurd cc) x.slots (count-zero here x.slots zero)
        ]) l.machines machines

    sole-slot : AllByRecursion (λ (s : NamedSlot). here s ≡ true → AllByRecursion (λ (x : NamedMachine). AllByRecursion (λ (t : NamedSlot).
        here t ≡ true → (x.name ≡ m.name) × (t.port ≡ s.port)) x.slots) l.machines) m.slots
    sole-slot = All-join _ _ _ sole m.slots (each-any here m.slots) (alone (own_in m.slots n) refl)

  -- ---- what slots use a file

  -- what is known of a machine's slots
  record IsUsing (s : NamedSlot) : Type 0 where
    rules : IsNamedSlot (images_of l) false s
    own : (k : ℕ) → s.held ≡ Own k → has_number k (reverse l.inners) ≡ true

  slots-using : (m : NamedMachine) → find_by named_machine_name m.name l.machines ≡ Some m → IsMachine (images_of l) m
      → AllByRecursion IsUsing m.slots
  slots-using m there of = All-join _ _ IsUsing (λ s a b. record { rules = a; own = b }) m.slots of.slots.valid.each (own-listed-all l is m there of)

  -- a slot that uses the file of an inner image holds it
  file-held : (s : NamedSlot) → IsUsing s → (n : ℕ) → has_number n (reverse l.inners) ≡ true
      → bytes_eq (slot_file l.seed s) (inner_file l.seed n) ≡ true
      → holds (OfInner n) s ≡ true
  unfolding IsFreeImage
  file-held s of n listed same = elim (cases_Bool (holds (OfInner n) s)) [
    | inl held ↦ held
    | inr none ↦ let clash : true ≡ false = sym same ∙ file-free l is s of.rules of.own (OfInner n) listed none in absurd cc
  ]

  both-of : (a b : Bool) → (a ≡ true → b ≡ false) → (a && b) ≡ false
  both-of true b f = f refl
  both-of false b f = refl

  -- every slot of a library has it
  each-using : AllByRecursion (λ (m : NamedMachine). AllByRecursion IsUsing m.slots) l.machines
  each-using = All-join _ _ _ slots-using l.machines (each_found named_machine_name l.machines is.machines_rise) is.machines

  -- what a file is not loose in
  file-settled : (file : Name) (i : ℕ) → AllByRecursion (λ (m : NamedMachine). AllByRecursion (λ (s : NamedSlot).
      bytes_eq (slot_file l.seed s) file ≡ true → u m.name s.port i ≡ false) m.slots) l.machines → unsettled_in l u file i ≡ false
  file-settled file i all = any_none _ l.machines (All-map _ _ (λ m each. any_none _ m.slots (All-map _ _
      (λ s settled. both-of (bytes_eq (slot_file l.seed s) file) (u m.name s.port i) settled) m.slots each)) l.machines all)

  -- ---- a slot's own image

  module _ (m : NamedMachine) (there : find_by named_machine_name m.name l.machines ≡ Some m) (s : NamedSlot) (n : ℕ)
      (listed : has_number n (reverse l.inners) ≡ true)
      (sole : AllByRecursion
      (λ (x : NamedMachine). AllByRecursion (λ (t : NamedSlot). holds (OfInner n) t ≡ true → (x.name ≡ m.name) × (t.port ≡ s.port)) x.slots)
      l.machines) where
    own-settled : (i : ℕ) → u m.name s.port i ≡ false → unsettled_in l u (inner_file l.seed n) i ≡ false
    own-settled i settled = file-settled (inner_file l.seed n) i (All-join _ _ _ (λ x using one. All-join _ _ _ (λ t of only same.
        let at = only (file-held t of n listed same) in (λ k. u (at.0 k) (at.1 k) i) ∙ settled) x.slots using one) l.machines each-using sole)

    -- the image itself, or one that is kept
    through-own : IsLooseWithin l (unsettled_in l u) (u m.name s.port) (OfInner n)
    through-own = λ i settled. any_none _ (chain_of l.inners (OfInner n))
        (All-map _ _ (λ j of. by i settled j of.0 of.1) (chain_of l.inners (OfInner n))
        (images_down-all (λ j. HasImage l j × ((is_kept l j ≡ true) ⊎ (j ≡ OfInner n))) (reverse l.inners) (OfInner n)
        (All-map _ _ (λ x parent is_so. (parent.0, inl parent.1)) (reverse l.inners) kept-parent) (listed, inr refl)))
      where
        by : (i : ℕ) → u m.name s.port i ≡ false → (j : ImageName) → HasImage l j → (is_kept l j ≡ true) ⊎ (j ≡ OfInner n)
            → unsettled_in l u (image_file l.seed j) i ≡ false
        by i settled j there (inl kept) = kept-settled l is u j there kept i
        by i settled j there (inr same) = ap (λ k. unsettled_in l u (image_file l.seed k) i) same ∙ own-settled i settled

  slot-within : (m : NamedMachine) → find_by named_machine_name m.name l.machines ≡ Some m → (s : NamedSlot) (h : Held) → s.held ≡ h → IsUsing s
      → ((n : ℕ) → has_number n (reverse l.inners) ≡ true → holds (OfInner n) s ≡ true
      → AllByRecursion (λ (x : NamedMachine). AllByRecursion (λ (t : NamedSlot).
      holds (OfInner n) t ≡ true → (x.name ≡ m.name) × (t.port ≡ s.port)) x.slots) l.machines)
      → OfHeld (IsLooseWithin l (unsettled_in l u) (u m.name s.port)) s.medium (held_at_end l.merging h)
  slot-within m there s Direct e of sole = tt
  slot-within m there s (Own n) e of sole =
      let listed = of.own n e in
      let held : holds (OfInner n) s ≡ true = ap (is_held (OfInner n) s.medium) e ∙ eq-eqb n n refl in
      cond_both (is_ending l.merging n) Direct (Own n) (OfHeld (IsLooseWithin l (unsettled_in l u) (u m.name s.port)) s.medium) (λ ends. tt)
      (λ stays. through-own m there s n listed (sole n listed held))
  slot-within m there s Base e of sole = absurd (no-base of.rules.medium.mode (sym (ap (may_hold false of.rules.medium.mode) e) ∙ of.rules.held))

  slots-within : (m : NamedMachine) → find_by named_machine_name m.name l.machines ≡ Some m → AllByRecursion IsUsing m.slots
      → AllByRecursion (λ (s : NamedSlot). OfHeld (IsLooseWithin l (unsettled_in l u) (u m.name s.port)) s.medium (held_at_end l.merging s.held))
      m.slots
  slots-within m there using = All-join _ _ _ (λ s of sole. slot-within m there s s.held refl of sole) m.slots using
      (All-forall (λ (n : ℕ) (s : NamedSlot). has_number n (reverse l.inners) ≡ true → holds (OfInner n) s ≡ true
      → AllByRecursion (λ (x : NamedMachine).
      AllByRecursion (λ (t : NamedSlot). holds (OfInner n) t ≡ true → (x.name ≡ m.name) × (t.port ≡ s.port)) x.slots) l.machines) m.slots
      (λ n. with_listed n))
    where
      with_listed : (n : ℕ)
          → AllByRecursion (λ (s : NamedSlot). has_number n (reverse l.inners) ≡ true → holds (OfInner n) s ≡ true
          → AllByRecursion (λ (x : NamedMachine).
          AllByRecursion (λ (t : NamedSlot). holds (OfInner n) t ≡ true → (x.name ≡ m.name) × (t.port ≡ s.port)) x.slots) l.machines) m.slots
      with_listed n = elim (cases_Bool (has_number n (reverse l.inners))) [
        | inl listed ↦ All-map _ _ (λ s sole on. sole) m.slots (sole-slot m there n listed)
        | inr none ↦ All-every _ (λ s on. let clash : true ≡ false = sym on ∙ none in absurd cc) m.slots
      ]

  -- ---- what snapshots hold

  settled-place : (t : NamedSlot) (h : Held) → t.held ≡ h → OfHeld (HasImage l) t.medium h
      → ((image : ImageName) → holds image t ≡ true → is_snapped l image ≡ true)
      → OfHeld (IsSettled l (unsettled_in l u)) t.medium h
  settled-place t Direct e listed snapped = tt
  settled-place t (Own n) e listed snapped =
      through-kept (OfInner n) listed (kept-if (OfInner n) (snapped (OfInner n) (ap (is_held (OfInner n) t.medium) e ∙ eq-eqb n n refl)))
    where
      kept-if : (image : ImageName) → is_snapped l image ≡ true → is_kept l image ≡ true
      kept-if image snapped = or_one (is_parent l image) (is_snapped l image) snapped
  settled-place t Base e listed snapped =
      through-kept (OfMedium t.medium) listed (or_one (is_parent l (OfMedium t.medium)) (is_snapped l (OfMedium t.medium))
      (snapped (OfMedium t.medium) (ap (is_held (OfMedium t.medium) t.medium) e ∙ name_refl t.medium)))

  -- a place makes its image one that a snapshot holds
  snapshot-settled : AllByRecursion
      (λ (m : NamedMachine). AllByRecursion (λ (s : NamedSnapshot). AllByRecursion (OfPlace (IsSettled l (unsettled_in l u))) s.slots) m.snapshots)
      l.machines
  snapshot-settled = All-join _ _ _ (λ m of some_machine. All-join _ _ _ (λ s listed some_snapshot. All-join _ _ _ (λ t on some_place.
      settled-place t t.held refl on (λ image held. some_machine (λ x. list_any (λ (y : NamedSnapshot). list_any (holds image) y.slots) x.snapshots)
      (some_snapshot (λ y. list_any (holds image) y.slots) (some_place (holds image) held))))
      s.slots listed (each-any-of s.slots)) m.snapshots (machine-listed l m of).1 (each-any-of m.snapshots)) l.machines is.machines
      (each-any-of l.machines)

  -- ---- media

  -- the medium's own image, or what is merged into it
  IsEndOf : Name → ImageName → Type 0
  IsEndOf name image = (image ≡ OfMedium name) ⊎ ((n : ℕ) × (image ≡ OfInner n) × IsMergedDown l name n)

  end-own : (name : Name) → IsEndOf name (OfMedium name)
  unfolding IsEndOf
  end-own name = inl refl

  end-merged : (name : Name) (j : NamedMerging) → merging_into (OfMedium name) l.merging ≡ Some j → IsEndOf name (OfInner j.child)
  unfolding IsEndOf
  end-merged name j e = inr (j.child, refl, record { merging = j; into = e; child = refl })

  down-parent : (name : Name) (n : ℕ) → IsMergedDown l name n → parent_of l.inners n ≡ Some (OfMedium name)
  down-parent name n down =
      ap (parent_of l.inners) (sym down.child) ∙ (merging-rules l is (OfMedium name) down.merging down.into).parent
      ∙ of down.merging.parent (merging-parent l is (OfMedium name) down.merging down.into)
    where
      of : (image : ImageName) → is_image image (OfMedium name) ≡ true → Some image ≡ Some (OfMedium name)
      of (OfMedium other) same = ap (λ x. Some (OfMedium x)) ((bytes_eq-Decides other name).0 same)
      of (OfInner k) same = absurd cc

  -- a slot that uses such an image's file shares the medium's disk at the end
  record SharesAtEnd (name : Name) (s : NamedSlot) : Type 0 where
    direct : held_at_end l.merging s.held ≡ Direct
    medium : bytes_eq s.medium name ≡ true

  end-shared : (name : Name) (s : NamedSlot) → IsUsing s → (image : ImageName) → HasImage l image → IsEndOf name image
      → bytes_eq (slot_file l.seed s) (image_file l.seed image) ≡ true → SharesAtEnd name s
  unfolding IsEndOf
  end-shared name s of image listed (inl same) file = by s.held refl (file-of s.held refl)
    where
      is_name : image_file l.seed image ≡ name
      is_name = ap (image_file l.seed) same

      named : IsTrue (is_medium_name name)
      named = named-listed l is name (subst (HasImage l) same listed)

      file-of : (h : Held) → s.held ≡ h → bytes_eq (image_file l.seed (image_held s.medium h)) name ≡ true
      file-of h e = ap (λ g. bytes_eq (image_file l.seed (image_held s.medium g)) name) (sym e) ∙ ap (bytes_eq (slot_file l.seed s)) (sym is_name)
          ∙ file

      by : (h : Held) → s.held ≡ h → bytes_eq (image_file l.seed (image_held s.medium h)) name ≡ true → SharesAtEnd name s
      by Direct e at = record { direct = ap (held_at_end l.merging) e; medium = at }
      by (Own k) e at = let clash : true ≡ false = sym at ∙ name_sym (inner_file l.seed k) name ∙ medium-not-inner l is name k named in absurd cc
      by Base e at = absurd (no-base of.rules.medium.mode (sym (ap (may_hold false of.rules.medium.mode) e) ∙ of.rules.held))
  end-shared name s of image listed (inr merged) file =
      let n = merged.0 in
      let there : has_number n (reverse l.inners) ≡ true = subst (HasImage l) merged.1 listed in
      let held = file-held s of n there (ap (λ g. bytes_eq (slot_file l.seed s) (image_file l.seed g)) (sym merged.1) ∙ file) in
      by n merged.2 s.held refl held
    where
      by : (n : ℕ) → IsMergedDown l name n → (h : Held) → s.held ≡ h → holds (OfInner n) s ≡ true → SharesAtEnd name s
      by n down Direct e held = let no : false ≡ true = rw e at held in absurd cc
      by n down (Own k) e held =
          let number : n ≡ k = eqb-true n k (rw e at held) in
          let ending : is_ending l.merging k ≡ true = down-ending l name k (subst (IsMergedDown l name) number down) in
          let own : medium_below (chain_of l.inners (OfInner k)) ≡ Some s.medium = subst (IsOwnOf l.inners s.medium) e of.rules.own in
          let both : Some name ≡ Some s.medium =
          sym (parent-below l n (OfMedium name) is (down-parent name n down)) ∙ ap (λ i. medium_below (chain_of l.inners (OfInner i))) number ∙ own in
          let same : name ≡ s.medium = cc in
          record { direct = ap (held_at_end l.merging) e ∙ rw ending refl; medium = ap (λ x. bytes_eq x name) (sym same) ∙ name_refl name }
      by n down Base e held = absurd (no-base of.rules.medium.mode (sym (ap (may_hold false of.rules.medium.mode) e) ∙ of.rules.held))

  module _ (running : Name → Bool) (a : Files) where
    abbrev machines : List WorldMachine
    machines = map (machine_in running l a) l.machines

    -- what slots that share the medium's disk have settled
    shared-settled : (name : Name) (i : ℕ) → loose_of_medium u machines name i ≡ false
        → AllByRecursion (λ (m : NamedMachine). AllByRecursion (λ (s : NamedSlot). SharesAtEnd name s → u m.name s.port i ≡ false) m.slots) l.machines
    shared-settled name i settled = All-map _ _ (λ m none. All-map _ _ (λ s no shares. settled-by s (u m.name s.port i) no shares) m.slots
        (none_of_any _ m.slots
        (sym (any_map (slot_in l a) (λ (s : WorldSlot). is_direct s && bytes_eq s.medium name && u m.name s.port i) m.slots) ∙ none)))
        l.machines (none_of_any _ l.machines (sym (any_map (machine_in running l a) (λ (m : WorldMachine).
        list_any (λ (s : WorldSlot). is_direct s && bytes_eq s.medium name && u m.name s.port i) m.slots) l.machines) ∙ settled))
      where
        settled-by : (s : NamedSlot) (b : Bool) → (is_direct (slot_in l a s) && bytes_eq s.medium name && b) ≡ false → SharesAtEnd name s → b ≡ false
        settled-by s b none shares =
            let direct : is_direct (slot_in l a s) ≡ true = ap (λ h. is_none (own_by l a s.medium h)) shares.direct in
            let medium = shares.medium in
            sym (rw (direct, medium) refl) ∙ none

    end-settled : (name : Name) (image : ImageName) → HasImage l image → IsEndOf name image → (i : ℕ) → loose_of_medium u machines name i ≡ false
        → unsettled_in l u (image_file l.seed image) i ≡ false
    end-settled name image listed of i settled = file-settled (image_file l.seed image) i (All-join _ _ _ (λ m using shared. All-join _ _ _
        (λ s uses settled same. settled (end-shared name s uses image listed of same)) m.slots using shared) l.machines each-using
        (shared-settled name i settled))

    end-chain : (name : Name)
        → AllByRecursion (λ (x : NamedInner). HasImage l (OfInner x.number) × IsEndOf name (OfInner x.number) → HasImage l x.parent
        × IsEndOf name x.parent) (reverse l.inners)
    unfolding IsEndOf
    end-chain name = All-join _ _ _ (λ x kept parent of. (kept.0, by x.number x.parent parent of.1)) (reverse l.inners) kept-parent
        (each-parent l.media l.inner (reverse l.inners) is.inners)
      where
        by : (n : ℕ) (image : ImageName) → parent_of l.inners n ≡ Some image
            → (OfInner n ≡ OfMedium name) ⊎ ((k : ℕ) × (OfInner n ≡ OfInner k) × IsMergedDown l name k)
            → (image ≡ OfMedium name) ⊎ ((k : ℕ) × (image ≡ OfInner k) × IsMergedDown l name k)
        by n image parent (inl same) = absurd cc
        by n image parent (inr merged) =
            let number : n ≡ merged.0 = let e = merged.1 in cc in
            let both : Some image ≡ Some (OfMedium name) = sym parent ∙ ap (parent_of l.inners) number ∙ down-parent name merged.0 merged.2 in
            let same : image ≡ OfMedium name = cc in
            inl same

    end-within : (m : Medium) → has_name medium_entry_name m.name l.media ≡ true
        → IsLooseWithin l (unsettled_in l u) (loose_of_medium u machines m.name) (end_image m.name (merging_into (OfMedium m.name) l.merging))
    end-within m listed = λ i settled. any_none _ (chain_of l.inners image)
        (All-map _ _ (λ j of. end-settled m.name j of.0 of.1 i settled) (chain_of l.inners image)
        (images_down-all (λ j. HasImage l j × IsEndOf m.name j) (reverse l.inners) image (end-chain m.name)
        (begin (merging_into (OfMedium m.name) l.merging) refl)))
      where
        image : ImageName
        image = end_image m.name (merging_into (OfMedium m.name) l.merging)

        begin : (o : Option NamedMerging) → merging_into (OfMedium m.name) l.merging ≡ o → HasImage l (end_image m.name o)
            × IsEndOf m.name (end_image m.name o)
        begin None e = (listed, end-own m.name)
        begin (Some j) e = (own-number (reverse l.inners) j.child j.parent (merging-rules l is (OfMedium m.name) j e).parent, end-merged m.name j e)

    -- Guests' unsettled sectors show at their own slots alone, and in the media whose disks these share.
    pub slots-loose : AreLooseWithin l (unsettled_in l u) u machines
    slots-loose = record {
      snapshots = snapshot-settled;
      slots = All-join _ _ _ slots-within l.machines (each_found named_machine_name l.machines is.machines_rise) each-using;
      media = All-map _ _ (λ m listed free. end-within m listed) l.media (each-listed l is);
    }

-- Where the files of images are as a crash may leave them while guests write to what slots use, the world is loosely as it was.
pub world-loosely : (changed running : Name → Bool) (l : NamedLibrary) (u : Unsettled) (a b : Files) → IsLibrary l
    → AreLikeImages l (unsettled_in l u) a b
    → ((name : Name) → IsTrue (is_medium_name name) → has_name medium_entry_name name l.media ≡ false → is_made l.making name ≡ false
    → b name ≡ a name)
    → IsLoosely u (world_of changed running l a) (world_of changed running l b)
world-loosely changed running l u a b is like shelf =
    world-like changed running l is (unsettled_in l u) a b like shelf u (slots-loose l is u running a)
