-- A write after the room for it was taken.
use Rattle.std.proofs.Common.{◌≡◌, ℕ, ◌+◌, ◌-◌, ◌/◌, ◌^◌, ◌<◌, ◌≤◌, Bool, true, false, List, length, refl, sym, ap, subst, ◌∙◌, arith}
use Rattle.std.specs.Prelude.{All}
use Rattle.vbm_ports.specs.Files.{Files, bytes_of}
use Rattle.vbm_ports.specs.Disk.{DiskState, OnlyReads}
use Rattle.vbm_header.specs.declared.Header.{Header}
use Rattle.vbm_intent.specs.Plan.{PlanState}
use Rattle.vbm_volume.specs.Sectors.{sector_count}
use Rattle.vbm_volume.specs.Chain.{Link, chain_sector, IsRising}
use Rattle.vbm_volume.specs.Wrote.{Wrote}
use Rattle.vbm_volume.proofs.Writings.{Wrote-reads}
use Rattle.vbm_image.specs.declared.image.Image.{Image}
use Rattle.vbm_image.specs.Images.{ImagesState}
use Rattle.vbm_image.specs.Image.{file_in, IsInForm}
use Rattle.vbm_chain.specs.Settled.{settled_links}
use Rattle.vbm_chain.proofs.ResolvedSectors.{at_item}
use Rattle.vbm_guest.specs.Runs.{in_run, with_run, last_of, OnLast, ReplacesRun, KeepsOtherChains}
use Rattle.vbm_guest.specs.Edited.{ChangesAt, StagesAtMost, IsRoomed}
use Rattle.vbm_guest.specs.declared.runs.RunEntries.{RunEntries}
use Rattle.vbm_guest.specs.RunEntries.{AreEntriesOf}
use Rattle.vbm_guest.specs.Memory.{HasRoomFor}
use Rattle.vbm_guest.specs.Preparing.{HasRoomForTwo}
use Rattle.vbm_guest.specs.Flushing.{staged_in}
use Rattle.vbm_guest.specs.Writing.{WroteRun}
use Rattle.vbm_guest.proofs.EditedImages.{image_at, changed_to, changed_from, changes_trans, stages_roomed}
use Rattle.vbm_guest.proofs.EditedChains.{roomed_links}
use Rattle.vbm_guest.proofs.EditedFiles.{reads_then, found_after}
use Rattle.vbm_guest.proofs.StagedCounts.{staged_more}

-- a run that the image has begins below 2^32
pub low_lba : (images : List Image) (chain : List ℕ) (lba n : ℕ) → All IsInForm images → last_of chain < length images → 0 < n
    → OnLast images chain (λ image. lba + n ≤ sector_count image.header) → lba < 2 ^ 32
low_lba images chain lba n form inside some range =
    let found = image_at images (last_of chain) inside in
    let header = (at_item IsInForm images (last_of chain) found.0 form found.1).header in
    let fits = range found.0 found.1 in
    let enough = header.enough in
    let few = header.blocks in
    omega arith

pub keeps_trans : (k : ℕ) (files mid now : Files) (images between others : List Image) → KeepsOtherChains k files images mid between
    → KeepsOtherChains k mid between now others → KeepsOtherChains k files images now others
keeps_trans k files mid now images between others one two chain without i = two chain without i ∙ one chain without i

module _ (chain : List ℕ) (images between : List Image) (roomed : ChangesAt IsRoomed (last_of chain) images between) where
  pub room_range : (lba n : ℕ) → OnLast images chain (λ image. lba + n ≤ sector_count image.header)
      → OnLast between chain (λ image. lba + n ≤ sector_count image.header)
  room_range lba n range image is =
      let was = changed_from IsRoomed (last_of chain) images between roomed image is in
      subst (λ (h : Header). lba + n ≤ sector_count h) (sym was.2.header) (range was.0 was.1)

  pub room_changes : (n : ℕ) (others : List Image) → ChangesAt (StagesAtMost n) (last_of chain) between others
      → ChangesAt (StagesAtMost n) (last_of chain) images others
  room_changes n others changes =
      changes_trans IsRoomed (StagesAtMost n) (StagesAtMost n) (last_of chain) images between others (λ x y z. stages_roomed n x y z) roomed changes

  module _ (files mid : Files) (same : mid ≡ files) where
    room_links : (c : List ℕ) → settled_links mid between c ≡ settled_links files images c
    room_links c = ap (λ (x : Files). settled_links x between c) same ∙ roomed_links (last_of chain) images between roomed files c

    pub room_rising : IsRising (settled_links files images chain) → IsRising (settled_links mid between chain)
    room_rising rising = subst IsRising (sym (room_links chain)) rising

    pub room_others : KeepsOtherChains (last_of chain) files images mid between
    room_others c without i = ap (λ (links : List Link). chain_sector links i) (room_links c)

    pub room_replaces : (now : Files) (others : List Image) (lba n : ℕ) (bytes : List ℕ) → ReplacesRun chain mid between now others lba n bytes
        → ReplacesRun chain files images now others lba n bytes
    room_replaces now others lba n bytes replaces i =
        replaces i ∙ ap (λ (links : List Link). with_run lba n bytes (chain_sector links) i) (room_links chain)

  pub room_wrote : (tells : Type 0) (lba n : ℕ) (old mid new : DiskState) → tells → OnlyReads tells old mid → WroteRun chain between lba n mid new
      → WroteRun chain images lba n old new
  room_wrote tells lba n old mid new told reads wrote image is =
      let to = changed_to IsRoomed (last_of chain) images between roomed image is in
      reads_then tells image.name image.header (in_run lba n) old mid new told reads
      (subst (λ (h : Header). Wrote image.name h (bytes_of (mid.files image.name)) (in_run lba n) mid new) to.2.header
      (subst (λ (x : List ℕ). Wrote x to.0.header (bytes_of (mid.files x)) (in_run lba n) mid new) to.2.name (wrote to.0 to.1)))

-- nothing was written
pub reads_wrote : (chain : List ℕ) (images : List Image) (tells : Type 0) (lba n : ℕ) (old new : DiskState) → tells → OnlyReads tells old new
    → WroteRun chain images lba n old new
reads_wrote chain images tells lba n old new told reads image is =
    Wrote-reads tells image.name image.header (file_in old.files image) (in_run lba n) old new told reads

-- ---- how many are staged

pub count_more : (n : ℕ) (images others : List Image) (chain : List ℕ) → last_of chain < length images
    → ChangesAt (StagesAtMost n) (last_of chain) images others → staged_in others ≤ staged_in images + n
count_more n images others chain inside changes =
    let found = image_at images (last_of chain) inside in
    staged_more n (last_of chain) images others found.0 found.1 changes

-- the room that was taken is enough, also where none was needed
pub room_after : (placed : Bool) (chain : List ℕ) (between others : ImagesState) (plan : PlanState) (size : ℕ)
    → last_of chain < length between.items → ChangesAt (StagesAtMost 2) (last_of chain) between.items others.items
    → HasRoomFor (staged_in between.items) plan → (placed ≡ true → others ≡ between)
    → (placed ≡ false → HasRoomForTwo between.items chain plan size) → HasRoomFor (staged_in others.items) plan
room_after true chain between others plan size inside changes room same two =
    subst (λ (x : ImagesState). HasRoomFor (staged_in x.items) plan) (sym (same refl)) room
room_after false chain between others plan size inside changes room same two =
    record { none = room.none; room = omega (arith, count_more 2 between.items others.items chain inside changes, (two refl).settling) }

-- entries that were looked up, after more was read
pub entries_after : (tells : Type 0) (files now : Files) (image : Image) (lba n : ℕ) (entries : RunEntries) → (tells → now ≡ files)
    → AreEntriesOf tells files image lba n entries → AreEntriesOf tells now image lba n entries
entries_after tells files now image lba n entries same found = record {
  first = found_after tells files now image (lba / 2048) entries.first same found.first;
  last = found_after tells files now image ((lba + n - 1) / 2048) entries.last same found.last;
}
