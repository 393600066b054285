-- What a guest reads is what it wrote last.
use Rattle.std.proofs.Common.{◌≡◌, ℕ, ◌+◌, ◌≤◌, ◌==◌, Bool, true, false, not, cond, List, [], ◌∷◌, ◌++◌, length, take, drop, Option, Some, refl, sym, ap, subst₂, ◌∙◌, arith, if◌then◌else◌, nat_lt, unwrap_or, append_assoc}
use Rattle.std.specs.List.{concat}
use Rattle.std.specs.Option.{option_map, option_and_then}
use Rattle.std.proofs.lemmas.Bool.{cond_both, ltb-false, le-ltb}
use Rattle.std.proofs.lemmas.List.{length-take}
use Rattle.std.proofs.Math.Seq.{drop-append_seam, take-append_seam}
use Rattle.vbm_volume.specs.Sectors.{FlatDisk}
use Rattle.vbm_world.specs.declared.command.Answer.TheVariants.{Sectors}
use Rattle.vbm_world.specs.declared.command.Refusal.{Refusal}
use Rattle.vbm_world.specs.declared.command.Refusal.TheVariants.{NoSuchMedium, NoSuchMachine, NoSuchSlot, NotRunning, OutOfRange}
use Rattle.vbm_world.specs.declared.world.WorldMedium.{WorldMedium}
use Rattle.vbm_world.specs.declared.world.WorldSlot.{WorldSlot}
use Rattle.vbm_world.specs.declared.world.WorldMachine.{WorldMachine}
use Rattle.vbm_named.specs.Names.{Name, is_named}
use Rattle.vbm_world.specs.World.{World, medium_name, machine_name, medium_of, is_direct}
use Rattle.vbm_world.specs.Places.{machine_of, slot_at, own_or_medium, slot_disk, with_medium, with_machine, with_slot}
use Rattle.vbm_world.specs.Outcomes.{Outcome, unless_refused, found_or}
use Rattle.vbm_world.specs.Guests.{disk_in, read_checks, bytes_at, read_sectors, with_sectors, written_medium, written, write_checks, write_sectors}
use Rattle.vbm_world.specs.Loose.{is_refused}
use Rattle.vbm_named.proofs.Lists.{same_name, name_refl, find_named, find_change}
use Rattle.vbm_world.proofs.Keeping.{unless, found}
use Rattle.vbm_world.proofs.GuestDisks.{with_length}
use Rattle.vbm_world.proofs.GuestsKeep.{slot_port, none_is}
use Rattle.vbm_world.proofs.Changing.{by_own_name}
use Rattle.vbm_world.proofs.Apart.{machine_in_place}

-- ---- what is read of a disk that was found

-- a running machine's slot with this disk
record HasDisk (w : World) (vm : Name) (port : ℕ) (disk : FlatDisk) : Type 0 where
  machine : WorldMachine
  found : machine_of w vm ≡ Some machine
  runs : not machine.running ≡ false
  slot : WorldSlot
  at : slot_at port machine.slots ≡ Some slot
  has : slot_disk w slot ≡ Some disk

passes : (w : World) (a b : Bool) (r q : Refusal) (outcome : Outcome) → a ≡ false → b ≡ false
    → unless_refused w ((a, r) ∷ (b, q) ∷ []) outcome ≡ outcome
passes w false false r q outcome one two = refl
passes w true b r q outcome one two = absurd cc
passes w false true r q outcome one two = absurd cc

read_of : (w : World) (vm : Name) (port lba count : ℕ) (disk : FlatDisk) → HasDisk w vm port disk → lba + count ≤ length disk
    → read_sectors w vm port lba count ≡ (Sectors (bytes_at disk lba count), w)
read_of w vm port lba count disk h within =
    let bytes : WorldSlot → Outcome = λ (s : WorldSlot). (Sectors (bytes_at (disk_in w s) lba count), w) in
    let of_slot : WorldMachine → WorldSlot → Outcome =
    λ (m : WorldMachine) (s : WorldSlot). unless_refused w (read_checks w m s lba count) (bytes s) in
    let disk_is : disk_in w h.slot ≡ disk = ap (λ (o : Option FlatDisk). unwrap_or o []) h.has in
    let past : nat_lt (length (disk_in w h.slot)) (lba + count) ≡ false =
    ap (λ (d : FlatDisk). nat_lt (length d) (lba + count)) disk_is ∙ le-ltb (length disk) (lba + count) within in
    ap (λ (o : Option WorldMachine). found_or w NoSuchMachine o (λ m. found_or w NoSuchSlot (slot_at port m.slots) (of_slot m))) h.found
    ∙ ap (λ (o : Option WorldSlot). found_or w NoSuchSlot o (of_slot h.machine)) h.at
    ∙ passes w (not h.machine.running) (nat_lt (length (disk_in w h.slot)) (lba + count)) NotRunning OutOfRange (bytes h.slot) h.runs past
    ∙ (λ i. (Sectors (bytes_at (disk_is i) lba count), w))

-- the bytes of the sectors that were written
bytes_written : (disk : FlatDisk) (lba : ℕ) (sectors : FlatDisk) → lba + length sectors ≤ length disk
    → bytes_at (with_sectors disk lba sectors) lba (length sectors) ≡ concat sectors
bytes_written disk lba sectors within =
    let front : FlatDisk = take lba disk in
    let rest : FlatDisk = drop (lba + length sectors) disk in
    let long : length front ≡ lba = simp length-take (omega arith) in
    ap (λ (l : FlatDisk). concat (take (length sectors) l))
    (ap (drop lba) (append_assoc front sectors rest) ∙ ap (λ (n : ℕ). drop n (front ++ (sectors ++ rest))) (sym long)
    ∙ drop-append_seam front (sectors ++ rest))
    ∙ ap concat (take-append_seam sectors rest)

-- ---- the disk after a write

slot_at_this : (port : ℕ) (f : WorldSlot → WorldSlot) → ((t : WorldSlot) → (f t).port ≡ t.port) → (s : WorldSlot) (slots : List WorldSlot)
    → slot_at port slots ≡ Some s → slot_at port (with_slot port f slots) ≡ Some (f s)
slot_at_this port f keeps s [] at = absurd cc
slot_at_this port f keeps s (t ∷ slots) at = elim (t.port == port) as (λ b. (t.port == port) ≡ b → cond b (Some t) (slot_at port slots) ≡ Some s
    → cond ((cond b (f t) t).port == port) (Some (cond b (f t) t)) (slot_at port (with_slot port f slots)) ≡ Some (f s)) [
      | true ↦ λ e is.
          let new : ((f t).port == port) ≡ true = ap (λ (n : ℕ). n == port) (keeps t) ∙ e in
          let same : t ≡ s = cc in rw new (ap (λ (k : WorldSlot). Some (f k)) same)
      | false ↦ λ e is. rw e (slot_at_this port f keeps s slots is)
    ] refl at

module _ (w : World) (m : WorldMachine) (named : machine_of w m.name ≡ Some m) (runs : not m.running ≡ false)
    (s : WorldSlot) (at : slot_at s.port m.slots ≡ Some s) (medium : WorldMedium) (is : medium_of w s.medium ≡ Some medium) (disk : FlatDisk) where
  medium_disk : (next : ℕ) → is_direct s ≡ true
      → HasDisk (record (with_medium w medium.name (written_medium w disk)) { next = next }) m.name s.port disk
  medium_disk next direct =
      let v : World = record (with_medium w medium.name (written_medium w disk)) { next = next } in
      let there : medium_of v s.medium ≡ Some (written_medium w disk medium) =
      find_change medium_name medium.name (written_medium w disk) (λ d. refl) s.medium w.media
      ∙ ap (option_map (λ (d : WorldMedium). cond (is_named medium_name medium.name d) (written_medium w disk d) d)) is
      ∙ rw (name_refl medium.name) refl in
      record {
        machine = m;
        found = named;
        runs = runs;
        slot = s;
        at = at;
        has = ap (own_or_medium v s.medium) (none_is s.own direct) ∙ ap (option_and_then (λ (d : WorldMedium). d.flat)) there;
      }

  machine_disk : HasDisk (with_machine w (record m { slots = with_slot s.port (λ (t : WorldSlot). record t { own = Some disk }) m.slots }) 0)
      m.name s.port disk
  machine_disk = record {
    machine = record m { slots = with_slot s.port (λ (t : WorldSlot). record t { own = Some disk }) m.slots };
    found = machine_in_place w m (record m { slots = with_slot s.port (λ (t : WorldSlot). record t { own = Some disk }) m.slots }) refl named;
    runs = runs;
    slot = record s { own = Some disk };
    at = slot_at_this s.port (λ (t : WorldSlot). record t { own = Some disk }) (λ t. refl) s m.slots at;
    has = refl;
  }

  written_disk : HasDisk (written w m s medium disk) m.name s.port disk
  written_disk = cond_both (is_direct s)
      (record (with_medium w medium.name (written_medium w disk)) { next = if medium.changed then w.next else w.next + 1 })
      (with_machine w (record m { slots = with_slot s.port (λ (t : WorldSlot). record t { own = Some disk }) m.slots }) 0)
      (λ (v : World). HasDisk v m.name s.port disk) (medium_disk _) (λ own. machine_disk)

reads_written : (w : World) (m : WorldMachine) → machine_of w m.name ≡ Some m → not m.running ≡ false → (s : WorldSlot)
    → slot_at s.port m.slots ≡ Some s → (medium : WorldMedium) → medium_of w s.medium ≡ Some medium → (lba : ℕ) (sectors : FlatDisk)
    → lba + length sectors ≤ length (disk_in w s)
    → read_sectors (written w m s medium (with_sectors (disk_in w s) lba sectors)) m.name s.port lba (length sectors)
    ≡ (Sectors (concat sectors), written w m s medium (with_sectors (disk_in w s) lba sectors))
reads_written w m named runs s at medium is lba sectors within =
    let long : length (with_sectors (disk_in w s) lba sectors) ≡ length (disk_in w s) = with_length (disk_in w s) lba sectors within in
    read_of (written w m s medium (with_sectors (disk_in w s) lba sectors)) m.name s.port lba (length sectors)
    (with_sectors (disk_in w s) lba sectors) (written_disk w m named runs s at medium is (with_sectors (disk_in w s) lba sectors)) (omega arith)
    ∙ ap (λ (bytes : List ℕ). (Sectors bytes, written w m s medium (with_sectors (disk_in w s) lba sectors)))
    (bytes_written (disk_in w s) lba sectors within)

-- an outcome in whose world these sectors are read, unless it is a refusal
abbrev Reads : (vm : Name) → (port lba : ℕ) → FlatDisk → Outcome → Type 0
Reads vm port lba sectors outcome =
    is_refused outcome.0 ≡ false → read_sectors outcome.1 vm port lba (length sectors) ≡ (Sectors (concat sectors), outcome.1)

-- After an accepted write or fill the same sectors are read as they were written.
pub write_reads : (w : World) (vm : Name) (port lba : ℕ) (sectors : FlatDisk) → is_refused (write_sectors w vm port lba sectors).0 ≡ false
    → read_sectors (write_sectors w vm port lba sectors).1 vm port lba (length sectors)
    ≡ (Sectors (concat sectors), (write_sectors w vm port lba sectors).1)
write_reads w vm port lba sectors =
    found (Reads vm port lba sectors) w NoSuchMachine (machine_of w vm) _ (λ ok. absurd cc) (λ m m_is.
    found (Reads vm port lba sectors) w NoSuchSlot (slot_at port m.slots) _ (λ ok. absurd cc) (λ s s_at.
    found (Reads vm port lba sectors) w NoSuchMedium (medium_of w s.medium) _ (λ ok. absurd cc) (λ medium is.
    unless (Reads vm port lba sectors) w (write_checks w m s medium lba (length sectors)) _ (λ refusal ok. absurd cc) (λ pass ok.
    let name : m.name ≡ vm = same_name m.name vm (find_named machine_name vm m w.machines m_is) in
    let at : s.port ≡ port = slot_port port s m.slots s_at in
    subst₂ (λ (n : Name) (k : ℕ). read_sectors (written w m s medium (with_sectors (disk_in w s) lba sectors)) n k lba (length sectors)
    ≡ (Sectors (concat sectors), written w m s medium (with_sectors (disk_in w s) lba sectors))) name at
    (reads_written w m (by_own_name w vm m m_is) pass.0 s (ap (λ (k : ℕ). slot_at k m.slots) at ∙ s_at) medium is lba sectors
    (ltb-false (length (disk_in w s)) (lba + length sectors) pass.1.0))))))
