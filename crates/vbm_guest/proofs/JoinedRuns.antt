-- A run that is written in two parts.
use Rattle.std.proofs.Common.{◌≡◌, ◌⊎◌, inl, inr, ℕ, ◌+◌, ◌-◌, ◌*◌, ◌/◌, ◌%◌, ◌<◌, ◌≤◌, true, false, List, length, take, drop, refl, sym, ◌∙◌, ap, subst, arith, length-take}
use Rattle.std.specs.Prelude.{nat_le, nat_lt, if◌then◌else◌, Ok}
use Rattle.std.proofs.lemmas.Bool.{cases_Bool, lt-ltb, le-ltb, le-leb, lt-leb, false≢true}
use Rattle.std.proofs.lemmas.List.{drop-drop, get_or-take}
use Rattle.vbm_ports.specs.Files.{Files, bytes_of, piece}
use Rattle.vbm_ports.specs.Disk.{DiskState}
use Rattle.vbm_header.specs.declared.Header.{Header}
use Rattle.vbm_volume.specs.Image.{image_of}
use Rattle.vbm_volume.specs.Chain.{chain_sector}
use Rattle.vbm_volume.specs.Wrote.{Covers, Wrote}
use Rattle.vbm_volume.proofs.Pieces.{piece-ext}
use Rattle.vbm_volume.proofs.Writings.{Wrote-weaker, Wrote-goes_on}
use Rattle.vbm_image.specs.declared.image.Image.{Image}
use Rattle.vbm_image.specs.Image.{file_in}
use Rattle.vbm_chain.specs.Settled.{settled_links}
use Rattle.vbm_guest.specs.Runs.{in_run, with_run, ReplacesRun}
use Rattle.vbm_guest.proofs.ServedSectors.{run_in, run_out, cases_run}

-- ---- the sectors

module _ (lba m n : ℕ) (bytes : List ℕ) (size : length bytes ≡ (m + n) * 512) where
  piece_front : (k : ℕ) → k < m → piece (take (m * 512) bytes) (k * 512) 512 ≡ piece bytes (k * 512) 512
  piece_front k low =
      let whole : length (take (m * 512) bytes) ≡ m * 512 = omega (arith, length-take (m * 512) bytes) in
      piece-ext bytes (take (m * 512) bytes) (k * 512) 512 (omega arith) (omega arith)
      (λ i from to. get_or-take (m * 512) bytes i 0 (omega arith))

  piece_back : (k : ℕ) → piece (drop (m * 512) bytes) (k * 512) 512 ≡ piece bytes ((m + k) * 512) 512
  piece_back k =
      let e : m * 512 + k * 512 ≡ (m + k) * 512 = omega arith in
      ap (take 512) (drop-drop (k * 512) (m * 512) bytes ∙ ap (λ (o : ℕ). drop o bytes) e)

  runs_join : (sector : ℕ → List ℕ) (i : ℕ)
      → with_run (lba + m) n (drop (m * 512) bytes) (with_run lba m (take (m * 512) bytes) sector) i ≡ with_run lba (m + n) bytes sector i
  runs_join sector i = elim (cases_run (lba + m) n i) [
    | inl second ↦
        let from = second.0 in
        let to = second.1 in
        let e : (m + (i - (lba + m))) * 512 ≡ (i - lba) * 512 = omega arith in
        run_in (lba + m) n (drop (m * 512) bytes) (with_run lba m (take (m * 512) bytes) sector) i from to
        ∙ piece_back (i - (lba + m))
        ∙ ap (λ (o : ℕ). piece bytes o 512) e
        ∙ sym (run_in lba (m + n) bytes sector i (omega arith) (omega arith))
    | inr out ↦
        run_out (lba + m) n (drop (m * 512) bytes) (with_run lba m (take (m * 512) bytes) sector) i out ∙ elim (cases_run lba m i) [
          | inl first ↦
              let from = first.0 in
              let to = first.1 in
              run_in lba m (take (m * 512) bytes) sector i from to
              ∙ piece_front (i - lba) (omega arith)
              ∙ sym (run_in lba (m + n) bytes sector i from (omega arith))
          | inr none ↦ run_out lba m (take (m * 512) bytes) sector i none ∙ sym (run_out lba (m + n) bytes sector i (neither i out none))
        ]
  ]
    where
      neither : (i : ℕ) → (i < lba + m) ⊎ (lba + m + n ≤ i) → (i < lba) ⊎ (lba + m ≤ i) → (i < lba) ⊎ (lba + (m + n) ≤ i)
      neither i (inl a) (inl b) = inl b
      neither i (inl a) (inr b) = absurd (omega arith)
      neither i (inr a) (inl b) = inl b
      neither i (inr a) (inr b) = inr (omega arith)

  replaces_join : (chain : List ℕ) (files mid now : Files) (images between others : List Image)
      → ReplacesRun chain files images mid between lba m (take (m * 512) bytes)
      → ReplacesRun chain mid between now others (lba + m) n (drop (m * 512) bytes) → ReplacesRun chain files images now others lba (m + n) bytes
  replaces_join chain files mid now images between others one two i =
      two i
      ∙ ap (λ (x : List ℕ). if in_run (lba + m) n i then piece (drop (m * 512) bytes) ((i - (lba + m)) * 512) 512 else x) (one i)
      ∙ runs_join (chain_sector (settled_links files images chain)) i

-- ---- what a crash loosens

is_in : (lba n i : ℕ) → lba ≤ i → i < lba + n → in_run lba n i ≡ true
is_in lba n i from to =
    let low : nat_le lba i ≡ true = le-leb _ _ from in
    let high : nat_lt i (lba + n) ≡ true = lt-ltb _ _ to in
    rw (low, high) refl

is_out : (lba n i : ℕ) → (i < lba) ⊎ (lba + n ≤ i) → in_run lba n i ≡ false
is_out lba n i (inl before) = let low : nat_le lba i ≡ false = lt-leb _ _ before in rw low refl
is_out lba n i (inr behind) = elim (cases_Bool (nat_le lba i)) [
  | inl low ↦ let high : nat_lt i (lba + n) ≡ false = le-ltb _ _ behind in rw (low, high) refl
  | inr never ↦ rw never refl
]

-- a part of a run is in the run
pub covers_part : (lba n first count : ℕ) → lba ≤ first → first + count ≤ lba + n → Covers (in_run lba n) (in_run first count)
covers_part lba n first count from to i out = elim (cases_run first count i) [
  | inl run ↦ absurd (false≢true (sym out ∙ is_in lba n i (let a = run.0 in omega arith) (let b = run.1 in omega arith)))
  | inr beside ↦ is_out first count i beside
]

-- ---- as code counts them

pub first_lba : (lba : ℕ) → lba / 2048 * 2048 + lba % 2048 ≡ lba
first_lba lba = omega arith

module _ (lba m : ℕ) (bytes : List ℕ) (fits : m * 512 ≤ length bytes) (whole : length bytes ≡ length bytes / 512 * 512) (first next c1 c2 : ℕ)
    (e1 : first ≡ lba) (f1 : c1 ≡ m) (e2 : next ≡ lba + m) (f2 : c2 + m ≡ length bytes / 512) where
  both_count : m + c2 ≡ length bytes / 512
  both_count = omega arith

  pub two_replace : (front back : List ℕ) → front ≡ take (m * 512) bytes → back ≡ drop (m * 512) bytes → (chain : List ℕ) (files mid now : Files)
      (images between others : List Image) → ReplacesRun chain files images mid between first c1 front
      → ReplacesRun chain mid between now others next c2 back → ReplacesRun chain files images now others lba (length bytes / 512) bytes
  two_replace front back is_front is_back chain files mid now images between others one two =
      subst (λ (n : ℕ). ReplacesRun chain files images now others lba n bytes) both_count
      (replaces_join lba m c2 bytes (omega arith) chain files mid now images between others
      (subst (λ (x : ℕ). ReplacesRun chain files images mid between x m (take (m * 512) bytes)) e1
      (subst (λ (x : ℕ). ReplacesRun chain files images mid between first x (take (m * 512) bytes)) f1
      (subst (λ (x : List ℕ). ReplacesRun chain files images mid between first c1 x) is_front one)))
      (subst (λ (x : ℕ). ReplacesRun chain mid between now others x c2 (drop (m * 512) bytes)) e2
      (subst (λ (x : List ℕ). ReplacesRun chain mid between now others next c2 x) is_back two)))

  module _ (old mid new : DiskState) (image : Image) where
    pub one_wrote : Wrote image.name image.header (file_in old.files image) (in_run first c1) old mid
        → Wrote image.name image.header (file_in old.files image) (in_run lba (length bytes / 512)) old mid
    one_wrote one =
        Wrote-weaker image.name image.header (file_in old.files image) (in_run first c1) (in_run lba (length bytes / 512)) old mid
        (covers_part lba (length bytes / 512) first c1 (omega arith) (omega arith)) one

    pub two_wrote : (other : Image) → image_of (file_in old.files image) ≡ Ok image.header → other.name ≡ image.name → other.header ≡ image.header
        → Wrote image.name image.header (file_in old.files image) (in_run first c1) old mid
        → Wrote other.name other.header (file_in mid.files other) (in_run next c2) mid new
        → Wrote image.name image.header (file_in old.files image) (in_run lba (length bytes / 512)) old new
    two_wrote other accepted same_name same_header one two =
        Wrote-goes_on image.name image.header (in_run first c1) (in_run next c2) (in_run lba (length bytes / 512)) old mid new accepted
        (covers_part lba (length bytes / 512) first c1 (omega arith) (omega arith))
        (covers_part lba (length bytes / 512) next c2 (omega arith) (omega arith)) one
        (subst (λ (h : Header). Wrote image.name h (bytes_of (mid.files image.name)) (in_run next c2) mid new) same_header
        (subst (λ (x : List ℕ). Wrote x other.header (bytes_of (mid.files x)) (in_run next c2) mid new) same_name two))
