-- What guests write and read in loosely equal worlds.
use Rattle.std.proofs.Common.{◌<◌, IsFalse, take, drop, length-drop, ◌≡◌, ℕ, ◌+◌, ◌/◌, ◌≤◌, ◌==◌, ◌&&◌, Bool, true, false, not, cond, List, [], ◌∷◌, length, Option, Some, None, refl, sym, ap, subst, subst₂, ◌∙◌, arith, if◌then◌else◌, eqb-true, nat_lt, unwrap_or}
use Rattle.std.specs.List.{list_any, concat}
use Rattle.std.proofs.lemmas.List.{ext_get_or, length-take}
use Rattle.std.proofs.lemmas.Option.{unwrap_or-slice_get}
use Rattle.std.specs.Option.{option_and_then}
use Rattle.std.specs.Str.{bytes_eq}
use Rattle.std.proofs.lemmas.Bool.{cond_both, ltb-false}
use Rattle.vbm_modes.specs.Modes.{is_writable}
use Rattle.vbm_volume.specs.Sectors.{FlatDisk}
use Rattle.vbm_world.specs.declared.command.Answer.TheVariants.{Done, Sectors}
use Rattle.vbm_world.specs.declared.command.Command.{Command}
use Rattle.vbm_world.specs.declared.command.Command.TheVariants.{Write, Fill}
use Rattle.vbm_world.specs.declared.command.Refusal.TheVariants.{NoSuchMedium, NoSuchMachine, NoSuchSlot, NotRunning, OutOfRange, WriteProtected, IdsSpent}
use Rattle.vbm_world.specs.declared.world.WorldMedium.{WorldMedium}
use Rattle.vbm_world.specs.declared.world.WorldSlot.{WorldSlot}
use Rattle.vbm_world.specs.declared.world.WorldMachine.{WorldMachine}
use Rattle.vbm_named.specs.Names.{Name, is_named}
use Rattle.vbm_world.specs.World.{World, medium_name, machine_name, medium_of, is_direct}
use Rattle.vbm_world.specs.Places.{machine_of, slot_at, own_or_medium, slot_disk, with_medium, with_machine, with_slot}
use Rattle.vbm_world.specs.Refusals.{Check, is_spent}
use Rattle.vbm_world.specs.Outcomes.{Outcome, unless_refused}
use Rattle.vbm_world.specs.Guests.{disk_in, read_checks, bytes_at, read_sectors, with_sectors, sectors_in, filled, marked, written_medium, written, write_checks, write_sectors}
use Rattle.vbm_world.specs.Loose.{Unsettled, is_refused, left_unsettled, unsettled_after, with_unsettled, loose_of_medium, IsLikeFlat, IsLikeDisk, AreAlike, IsLikeMedium, IsLikeSlot, IsLikeMachine, IsLoosely}
use Rattle.vbm_world.specs.Step.{step_of}
use Rattle.vbm_world.specs.Sound.{IsSound}
use Rattle.vbm_named.proofs.Lists.{same_name, find_named}
use Rattle.vbm_world.proofs.Worlds.{Within, loosely_weaker}
use Rattle.vbm_world.proofs.Writing.{IsWrittenSlot, IsWrittenMachine, IsWritten, same_none, alike_any}
use Rattle.vbm_world.proofs.GuestDisks.{with_length, get_drop, get_taken}
use Rattle.vbm_world.proofs.GuestsKeep.{slot_port, none_is, own_is, slot_placed, machine_kept_written}
use Rattle.vbm_world.proofs.Changing.{by_own_name}
use Rattle.vbm_world.proofs.Apart.{slot_in}
use Rattle.vbm_world.proofs.Loosely.{alike_maps, AreFound, alike_find, cond_two, like_length, like_flat, with_like, AreLoosely, both_unless, both_found}

-- ---- settled sectors

-- a sector of a slot's disk that is loose
abbrev pub is_loose_in : Unsettled → World → (vm : Name) → Option WorldSlot → ℕ → Bool
is_loose_in u w vm None i = false
is_loose_in u w vm (Some s) i = if is_direct s then loose_of_medium u w.machines s.medium i else u vm s.port i

-- the sectors from one on, so many of them, are settled at a slot
abbrev pub AreSettled : Unsettled → World → (vm : Name) → ℕ → (lba count : ℕ) → Type 0
AreSettled u w vm port lba count = (i : ℕ) → lba ≤ i → i < lba + count → IsFalse (is_loose_in u w vm (slot_in w vm port) i)

bytes_same : (loose : ℕ → Bool) (a b : FlatDisk) (lba count : ℕ) → IsLikeFlat loose a b
    → ((i : ℕ) → lba ≤ i → i < lba + count → loose i ≡ false) → bytes_at b lba count ≡ bytes_at a lba count
bytes_same loose a b lba count like settled =
    let long : length b ≡ length a = like.as_long in
    let same : length (take count (drop lba b)) ≡ length (take count (drop lba a)) = simp (length-take, length-drop) (omega arith) in
    ap concat (ext_get_or [] (take count (drop lba b)) (take count (drop lba a)) same (λ i below.
    let few : length (take count (drop lba b)) ≤ count = simp length-take (omega arith) in
    let near : i < count = omega arith in
    let one = get_taken (drop lba a) count i near ∙ get_drop a lba i in
    let two = get_taken (drop lba b) count i near ∙ get_drop b lba i in
    let at = two ∙ like.same (lba + i) (settled (lba + i) (omega arith) (omega arith)) ∙ sym one in
    sym (unwrap_or-slice_get (take count (drop lba b)) i []) ∙ ap (λ (o : Option (List ℕ)). unwrap_or o []) at
    ∙ unwrap_or-slice_get (take count (drop lba a)) i []))

-- ---- a write in both

-- what is loose of media stays so in machines that were written
loose_kept : (u : Unsettled) (xs ys : List WorldMachine) → AreAlike IsWrittenMachine xs ys → loose_of_medium u ys ≡ loose_of_medium u xs
loose_kept u xs ys alike = λ j name i. alike_any IsWrittenMachine
    (λ (m : WorldMachine). list_any (λ (s : WorldSlot). is_direct s && bytes_eq s.medium name && u m.name s.port i) m.slots)
    (λ (m : WorldMachine). list_any (λ (s : WorldSlot). is_direct s && bytes_eq s.medium name && u m.name s.port i) m.slots)
    (λ a b two. alike_any IsWrittenSlot (λ (s : WorldSlot). is_direct s && bytes_eq s.medium name && u a.name s.port i)
    (λ (s : WorldSlot). is_direct s && bytes_eq s.medium name && u b.name s.port i)
    (λ s t one. λ k. same_none s.own t.own one.disk k && bytes_eq (one.medium k) name && u (two.name k) (one.port k) i) a.slots b.slots two.slots)
    xs ys alike j

module _ (u : Unsettled) (w v : World) (loosely : IsLoosely u w v) (ok : IsSound w)
    (m n : WorldMachine) (machines : IsLikeMachine u m n) (named : machine_of w m.name ≡ Some m)
    (s t : WorldSlot) (slots : IsLikeSlot (u m.name s.port) s t) (at : slot_at s.port m.slots ≡ Some s)
    (d e : WorldMedium) (media : IsLikeMedium (loose_of_medium u w.machines d.name) d e)
    (is : medium_of w s.medium ≡ Some d) (other_is : medium_of v t.medium ≡ Some e) where
  direct_same : is_direct t ≡ is_direct s
  direct_same = same_none s.own t.own (like_length (u m.name s.port) s.own t.own slots.disk)

  medium_named : d.name ≡ s.medium
  medium_named = same_name d.name s.medium (find_named medium_name s.medium d w.media is)

  shared_like : is_direct s ≡ true → IsLikeFlat (loose_of_medium u w.machines d.name) (disk_in w s) (disk_in v t)
  shared_like direct =
      let one : slot_disk w s ≡ d.flat =
      ap (own_or_medium w s.medium) (none_is s.own direct) ∙ ap (option_and_then (λ (k : WorldMedium). k.flat)) is in
      let two : slot_disk v t ≡ e.flat =
      ap (own_or_medium v t.medium) (none_is t.own (direct_same ∙ direct)) ∙ ap (option_and_then (λ (k : WorldMedium). k.flat)) other_is in
      like_flat (loose_of_medium u w.machines d.name) (slot_disk w s) (slot_disk v t)
      (subst₂ (IsLikeDisk (loose_of_medium u w.machines d.name)) (sym one) (sym two) media.disk)

  own_like : is_direct s ≡ false → IsLikeFlat (u m.name s.port) (disk_in w s) (disk_in v t)
  own_like own = like_flat (u m.name s.port) (slot_disk w s) (slot_disk v t)
      (subst₂ (IsLikeDisk (u m.name s.port)) (sym (own_is w s.medium s.own own)) (sym (own_is v t.medium t.own (direct_same ∙ own))) slots.disk)

  length_same : length (disk_in v t) ≡ length (disk_in w s)
  length_same = elim (is_direct s) as (λ b. is_direct s ≡ b → length (disk_in v t) ≡ length (disk_in w s)) [
    | true ↦ λ direct. (shared_like direct).as_long
    | false ↦ λ own. (own_like own).as_long
  ] refl

  checks_same : (lba count : ℕ) → write_checks v n t e lba count ≡ write_checks w m s d lba count
  checks_same lba count =
      let running : n.running ≡ m.running = ap (λ (k : WorldMachine). k.running) machines.rest in
      let mode = ap (λ (k : WorldMedium). is_writable k.mode) media.rest in
      let changed = ap (λ (k : WorldMedium). k.changed) media.rest in
      let spent = ap is_spent loosely.rest in
      λ i. (not (running i), NotRunning) ∷ (nat_lt (length_same i) (lba + count), OutOfRange) ∷ (not (mode i), WriteProtected)
      ∷ (direct_same i && not (changed i) && spent i, IdsSpent) ∷ []

  module _ (one two : FlatDisk) where
    medium_loosely : IsLikeFlat (loose_of_medium u w.machines d.name) one two → IsLoosely u
        (record (with_medium w d.name (written_medium w one)) { next = if d.changed then w.next else w.next + 1 })
        (record (with_medium v e.name (written_medium v two)) { next = if e.changed then v.next else v.next + 1 })
    medium_loosely like =
        let new : World = with_medium v e.name (written_medium v two) in
        let changed : e.changed ≡ d.changed = ap (λ (k : WorldMedium). k.changed) media.rest in
        let name : e.name ≡ d.name = ap (λ (k : WorldMedium). k.name) media.rest in
        record {
          rest = λ i. record (loosely.rest i) {
            next = if changed i then (loosely.rest i).next else (loosely.rest i).next + 1;
            media = new.media;
            machines = v.machines;
          };
          media = alike_maps (λ (x y : WorldMedium). IsLikeMedium (loose_of_medium u w.machines x.name) x y) _
              (λ (x : WorldMedium). cond (is_named medium_name d.name x) (written_medium w one x) x)
              (λ (y : WorldMedium). cond (is_named medium_name e.name y) (written_medium v two y) y) (λ x y xy.
              let same : is_named medium_name e.name y ≡ is_named medium_name d.name x =
              (λ i. bytes_eq (ap (λ (k : WorldMedium). k.name) xy.rest i) (name i)) in
              cond_two (λ (a b : WorldMedium). IsLikeMedium (loose_of_medium u w.machines a.name) a b) (is_named medium_name d.name x)
              (is_named medium_name e.name y) (written_medium w one x) x (written_medium v two y) y same (λ this. record {
                rest = λ i. record (marked (loosely.rest i) (xy.rest i)) { flat = Some two };
                disk = subst (λ (k : Name). IsLikeFlat (loose_of_medium u w.machines k) one two) (sym (same_name x.name d.name this)) like;
              }) (λ apart. xy)) w.media v.media loosely.media;
          machines = loosely.machines;
        }

    slots_loosely : IsLikeFlat (u m.name s.port) one two → IsLikeMachine u
        (record m { slots = with_slot s.port (λ (k : WorldSlot). record k { own = Some one }) m.slots })
        (record n { slots = with_slot t.port (λ (k : WorldSlot). record k { own = Some two }) n.slots })
    slots_loosely like =
        let port : t.port ≡ s.port = ap (λ (k : WorldSlot). k.port) slots.rest in
        record {
          rest = λ i. record (machines.rest i) { slots = with_slot t.port (λ (k : WorldSlot). record k { own = Some two }) n.slots };
          slots = alike_maps (λ (x y : WorldSlot). IsLikeSlot (u m.name x.port) x y) _
              (λ (x : WorldSlot). cond (x.port == s.port) (record x { own = Some one }) x)
              (λ (y : WorldSlot). cond (y.port == t.port) (record y { own = Some two }) y) (λ x y xy.
              let same : (y.port == t.port) ≡ (x.port == s.port) = (λ i. ap (λ (k : WorldSlot). k.port) xy.rest i == port i) in
              cond_two (λ (a b : WorldSlot). IsLikeSlot (u m.name a.port) a b) (x.port == s.port) (y.port == t.port)
              (record x { own = Some one }) x (record y { own = Some two }) y same (λ this. record {
                rest = λ i. record (xy.rest i) { own = Some two };
                disk = subst (λ (k : ℕ). IsLikeFlat (u m.name k) one two) (sym (eqb-true x.port s.port this)) like;
              }) (λ apart. xy)) m.slots n.slots machines.slots;
        }

    machine_loosely : is_direct s ≡ false → length one ≡ length (disk_in w s) → IsLikeFlat (u m.name s.port) one two → IsLoosely u
        (with_machine w (record m { slots = with_slot s.port (λ (k : WorldSlot). record k { own = Some one }) m.slots }) 0)
        (with_machine v (record n { slots = with_slot t.port (λ (k : WorldSlot). record k { own = Some two }) n.slots }) 0)
    machine_loosely own long like =
        let m′ : WorldMachine = record m { slots = with_slot s.port (λ (k : WorldSlot). record k { own = Some one }) m.slots } in
        let n′ : WorldMachine = record n { slots = with_slot t.port (λ (k : WorldSlot). record k { own = Some two }) n.slots } in
        let w′ : World = with_machine w m′ 0 in
        let v′ : World = with_machine v n′ 0 in
        let kept : IsWritten w w′ = machine_kept_written w ok m named s at d is one own long in
        let name : n.name ≡ m.name = ap (λ (k : WorldMachine). k.name) machines.rest in
        record {
          rest = λ i. record (loosely.rest i) { inner = (loosely.rest i).inner + 0; media = v.media; machines = v′.machines };
          media = subst (λ (loose : Name → ℕ → Bool). AreAlike (λ (x y : WorldMedium). IsLikeMedium (loose x.name) x y) w.media v.media)
              (sym (loose_kept u w.machines w′.machines kept.machines)) loosely.media;
          machines = alike_maps (IsLikeMachine u) (IsLikeMachine u) (λ (x : WorldMachine). cond (is_named machine_name m.name x) m′ x)
              (λ (y : WorldMachine). cond (is_named machine_name n.name y) n′ y) (λ x y xy.
              let same : is_named machine_name n.name y ≡ is_named machine_name m.name x =
              (λ i. bytes_eq (ap (λ (k : WorldMachine). k.name) xy.rest i) (name i)) in
              cond_two (IsLikeMachine u) (is_named machine_name m.name x) (is_named machine_name n.name y) m′ x n′ y same
              (λ this. slots_loosely like) (λ apart. xy)) w.machines v.machines loosely.machines;
        }

  writes_loosely : (lba : ℕ) (sectors : FlatDisk) → lba + length sectors ≤ length (disk_in w s)
      → IsLoosely u (written w m s d (with_sectors (disk_in w s) lba sectors)) (written v n t e (with_sectors (disk_in v t) lba sectors))
  writes_loosely lba sectors within =
      let one : FlatDisk = with_sectors (disk_in w s) lba sectors in
      let two : FlatDisk = with_sectors (disk_in v t) lba sectors in
      cond_two (IsLoosely u) (is_direct s) (is_direct t)
      (record (with_medium w d.name (written_medium w one)) { next = if d.changed then w.next else w.next + 1 })
      (with_machine w (record m { slots = with_slot s.port (λ (k : WorldSlot). record k { own = Some one }) m.slots }) 0)
      (record (with_medium v e.name (written_medium v two)) { next = if e.changed then v.next else v.next + 1 })
      (with_machine v (record n { slots = with_slot t.port (λ (k : WorldSlot). record k { own = Some two }) n.slots }) 0) direct_same
      (λ direct. medium_loosely one two
      (with_like (loose_of_medium u w.machines d.name) (disk_in w s) (disk_in v t) lba sectors (shared_like direct) within))
      (λ own. machine_loosely one two own (with_length (disk_in w s) lba sectors within)
      (with_like (u m.name s.port) (disk_in w s) (disk_in v t) lba sectors (own_like own) within))

  slot_loosely : (lba : ℕ) (sectors : FlatDisk) → AreLoosely u
      (unless_refused w (write_checks w m s d lba (length sectors)) (Done, written w m s d (with_sectors (disk_in w s) lba sectors)))
      (unless_refused v (write_checks v n t e lba (length sectors)) (Done, written v n t e (with_sectors (disk_in v t) lba sectors)))
  slot_loosely lba sectors =
      let one : Outcome = (Done, written w m s d (with_sectors (disk_in w s) lba sectors)) in
      let two : Outcome = (Done, written v n t e (with_sectors (disk_in v t) lba sectors)) in
      subst (λ (checks : List Check). AreLoosely u (unless_refused w (write_checks w m s d lba (length sectors)) one) (unless_refused v checks two))
      (sym (checks_same lba (length sectors)))
      (both_unless u w v loosely (write_checks w m s d lba (length sectors)) one two (λ pass. record {
        answer = refl;
        world = writes_loosely lba sectors (ltb-false (length (disk_in w s)) (lba + length sectors) pass.1.0);
      }))

  reads_same : (lba count : ℕ) → read_checks v n t lba count ≡ read_checks w m s lba count
  reads_same lba count =
      let running : n.running ≡ m.running = ap (λ (k : WorldMachine). k.running) machines.rest in
      λ i. (not (running i), NotRunning) ∷ (nat_lt (length_same i) (lba + count), OutOfRange) ∷ []

  bytes_read : (lba count : ℕ) → ((i : ℕ) → lba ≤ i → i < lba + count → is_loose_in u w m.name (Some s) i ≡ false)
      → bytes_at (disk_in v t) lba count ≡ bytes_at (disk_in w s) lba count
  bytes_read lba count settled = elim (is_direct s) as (λ b. is_direct s ≡ b
      → ((i : ℕ) → lba ≤ i → i < lba + count → (if b then loose_of_medium u w.machines s.medium i else u m.name s.port i) ≡ false)
      → bytes_at (disk_in v t) lba count ≡ bytes_at (disk_in w s) lba count) [
        | true ↦ λ direct each. bytes_same (loose_of_medium u w.machines d.name) (disk_in w s) (disk_in v t) lba count (shared_like direct)
            (λ i from below. ap (λ (k : Name). loose_of_medium u w.machines k i) medium_named ∙ each i from below)
        | false ↦ λ own each. bytes_same (u m.name s.port) (disk_in w s) (disk_in v t) lba count (own_like own) each
      ] refl settled

  slot_read : (lba count : ℕ) → ((i : ℕ) → lba ≤ i → i < lba + count → is_loose_in u w m.name (Some s) i ≡ false) → AreLoosely u
      (unless_refused w (read_checks w m s lba count) (Sectors (bytes_at (disk_in w s) lba count), w))
      (unless_refused v (read_checks v n t lba count) (Sectors (bytes_at (disk_in v t) lba count), v))
  slot_read lba count settled =
      let one : Outcome = (Sectors (bytes_at (disk_in w s) lba count), w) in
      let two : Outcome = (Sectors (bytes_at (disk_in v t) lba count), v) in
      subst (λ (checks : List Check). AreLoosely u (unless_refused w (read_checks w m s lba count) one) (unless_refused v checks two))
      (sym (reads_same lba count)) (both_unless u w v loosely (read_checks w m s lba count) one two
      (λ pass. record { answer = ap (λ (bytes : List ℕ). Sectors bytes) (bytes_read lba count settled); world = loosely }))

-- A write or a fill answers the same in loosely equal worlds, and leads to loosely equal ones.
pub write_same : (u : Unsettled) (w v : World) → IsLoosely u w v → IsSound w → (vm : Name) (port lba : ℕ) (sectors : FlatDisk)
    → AreLoosely u (write_sectors w vm port lba sectors) (write_sectors v vm port lba sectors)
write_same u w v loosely ok vm port lba sectors =
    both_found u w v loosely (IsLikeMachine u) NoSuchMachine (machine_of w vm) (machine_of v vm) _ _
    (alike_find (IsLikeMachine u) (is_named machine_name vm) (is_named machine_name vm)
    (λ a b like. ap (λ (k : WorldMachine). bytes_eq k.name vm) like.rest) w.machines v.machines loosely.machines) (λ m n m_is n_is machines.
    both_found u w v loosely (λ (s t : WorldSlot). IsLikeSlot (u m.name s.port) s t) NoSuchSlot (slot_at port m.slots) (slot_at port n.slots) _ _
    (alike_find (λ (s t : WorldSlot). IsLikeSlot (u m.name s.port) s t) (λ (k : WorldSlot). k.port == port) (λ (k : WorldSlot). k.port == port)
    (λ s t like. ap (λ (k : WorldSlot). k.port == port) like.rest) m.slots n.slots machines.slots) (λ s t s_at t_at slots.
    both_found u w v loosely (λ (d e : WorldMedium). IsLikeMedium (loose_of_medium u w.machines d.name) d e) NoSuchMedium
    (medium_of w s.medium) (medium_of v t.medium) _ _
    (alike_find (λ (d e : WorldMedium). IsLikeMedium (loose_of_medium u w.machines d.name) d e) (is_named medium_name s.medium)
    (is_named medium_name t.medium) (λ d e like. λ i. bytes_eq (like.rest i).name (slots.rest i).medium) w.media v.media loosely.media)
    (λ d e d_is e_is media.
    let at : s.port ≡ port = slot_port port s m.slots s_at in
    slot_loosely u w v loosely ok m n machines (by_own_name w vm m m_is) s t slots (ap (λ (k : ℕ). slot_at k m.slots) at ∙ s_at)
    d e media d_is e_is lba sectors)))

more_unsettled : (u : Unsettled) (vm : Name) (port lba count : ℕ) → Within u (with_unsettled u vm port lba count)
more_unsettled u vm port lba count name p sector is = rw is refl

-- So it is where the written sectors count as unsettled from then on.
pub write_loosely : (u : Unsettled) (w v : World) → IsLoosely u w v → IsSound w → (vm : Name) (port lba : ℕ) (sectors : FlatDisk)
    → AreLoosely (with_unsettled u vm port lba (length sectors)) (write_sectors w vm port lba sectors) (write_sectors v vm port lba sectors)
write_loosely u w v loosely ok vm port lba sectors =
    let same : AreLoosely u (write_sectors w vm port lba sectors) (write_sectors v vm port lba sectors) =
    write_same u w v loosely ok vm port lba sectors in
    record {
      answer = same.answer;
      world = loosely_weaker u (with_unsettled u vm port lba (length sectors)) (more_unsettled u vm port lba (length sectors)) _ _ same.world;
    }

-- what a command that settles nothing leaves unsettled
after_within : (u : Unsettled) (w : World) (command : Command) → Within u (left_unsettled u command) → Within u (unsettled_after u w command)
after_within u w command within =
    cond_both (is_refused (step_of w command 0).0) u (left_unsettled u command) (Within u) (λ e vm port sector is. is) (λ e. within)

-- The same as steps: a write or a fill leads from loosely equal worlds to loosely equal ones, with the sectors that are unsettled after it.
pub write_step : (u : Unsettled) (w v : World) → IsLoosely u w v → IsSound w → (vm : Name) (port lba : ℕ) (bytes : List ℕ)
    → AreLoosely (unsettled_after u w (Write vm port lba bytes)) (step_of w (Write vm port lba bytes) 0) (step_of v (Write vm port lba bytes) 0)
write_step u w v loosely ok vm port lba bytes =
    let same = write_same u w v loosely ok vm port lba (sectors_in bytes) in
    record {
      answer = same.answer;
      world = loosely_weaker u (unsettled_after u w (Write vm port lba bytes)) (after_within u w (Write vm port lba bytes)
          (more_unsettled u vm port lba (length bytes / 512))) (step_of w (Write vm port lba bytes) 0).1 (step_of v (Write vm port lba bytes) 0).1
          same.world;
    }

pub fill_step : (u : Unsettled) (w v : World) → IsLoosely u w v → IsSound w → (vm : Name) (port lba count byte : ℕ)
    → AreLoosely (unsettled_after u w (Fill vm port lba count byte)) (step_of w (Fill vm port lba count byte) 0)
    (step_of v (Fill vm port lba count byte) 0)
fill_step u w v loosely ok vm port lba count byte =
    let same = write_same u w v loosely ok vm port lba (filled count byte) in
    record {
      answer = same.answer;
      world = loosely_weaker u (unsettled_after u w (Fill vm port lba count byte)) (after_within u w (Fill vm port lba count byte)
          (more_unsettled u vm port lba count)) (step_of w (Fill vm port lba count byte) 0).1 (step_of v (Fill vm port lba count byte) 0).1
          same.world;
    }

-- ---- a read in both

found_other : {X : Type 0} (like : X → X → Type 0) (o p : Option X) (x : X) → AreFound like o p → o ≡ Some x → (y : X) × (p ≡ Some y) × like x y
found_other like (Some z) (Some y) x alike is = let same : z ≡ x = cc in (y, refl, subst (λ (k : _). like k y) same alike)
found_other like None p x alike is = absurd cc
found_other like (Some z) None x alike is = absurd alike

-- Settled sectors are read the same in loosely equal worlds.
pub read_loosely : (u : Unsettled) (w v : World) → IsLoosely u w v → IsSound w → (vm : Name) (port lba count : ℕ)
    → AreSettled u w vm port lba count → AreLoosely u (read_sectors w vm port lba count) (read_sectors v vm port lba count)
read_loosely u w v loosely ok vm port lba count settled =
    both_found u w v loosely (IsLikeMachine u) NoSuchMachine (machine_of w vm) (machine_of v vm) _ _
    (alike_find (IsLikeMachine u) (is_named machine_name vm) (is_named machine_name vm)
    (λ a b like. ap (λ (k : WorldMachine). bytes_eq k.name vm) like.rest) w.machines v.machines loosely.machines) (λ m n m_is n_is machines.
    both_found u w v loosely (λ (s t : WorldSlot). IsLikeSlot (u m.name s.port) s t) NoSuchSlot (slot_at port m.slots) (slot_at port n.slots) _ _
    (alike_find (λ (s t : WorldSlot). IsLikeSlot (u m.name s.port) s t) (λ (k : WorldSlot). k.port == port) (λ (k : WorldSlot). k.port == port)
    (λ s t like. ap (λ (k : WorldSlot). k.port == port) like.rest) m.slots n.slots machines.slots) (λ s t s_at t_at slots.
    let name : m.name ≡ vm = same_name m.name vm (find_named machine_name vm m w.machines m_is) in
    let at : s.port ≡ port = slot_port port s m.slots s_at in
    let named = by_own_name w vm m m_is in
    let found = ap (λ (k : ℕ). slot_at k m.slots) at ∙ s_at in
    let placed = slot_placed w ok m named s found in
    let other = found_other (λ (d e : WorldMedium). IsLikeMedium (loose_of_medium u w.machines d.name) d e) (medium_of w s.medium)
    (medium_of v t.medium) placed.0 (alike_find (λ (d e : WorldMedium). IsLikeMedium (loose_of_medium u w.machines d.name) d e)
    (is_named medium_name s.medium) (is_named medium_name t.medium) (λ d e like. λ i. bytes_eq (like.rest i).name (slots.rest i).medium)
    w.media v.media loosely.media) placed.1 in
    let here : slot_in w vm port ≡ Some s = ap (option_and_then (λ (k : WorldMachine). slot_at port k.slots)) m_is ∙ s_at in
    let each = λ (i : ℕ) (from : lba ≤ i) (below : i < lba + count).
    ap (λ (o : Option WorldSlot). is_loose_in u w vm o i) (sym here) ∙ settled i from below in
    slot_read u w v loosely ok m n machines named s t slots found placed.0 other.0 other.2 placed.1 other.1 lba count
    (λ i from below. subst (λ (k : Name). is_loose_in u w k (Some s) i ≡ false) (sym name) (each i from below))))
