-- Writes to sectors of an image, one after another.
use Rattle.std.proofs.Common.{◌≡◌, ℕ, ◌+◌, ◌*◌, ◌≤◌, Bool, List, [], length, Option, Some, None, Result, Ok, Err, refl, sym, ap, subst, ◌∙◌}
use Rattle.std.proofs.Common.{arith}
use Rattle.std.specs.Result.{OnOk, OnErr}
use Rattle.vbm_ports.specs.Crash.{TornFile, WriteLeaves, Follows, Through}
use Rattle.vbm_ports.specs.Disk.{DiskState, Passes, OnlyReads}
use Rattle.vbm_ports.specs.Files.{Files, bytes_of, put, IsWritten}
use Rattle.vbm_ports.proofs.States.{Passes-trans, Passes-weaker}
use Rattle.vbm_header.specs.declared.Header.{Header}
use Rattle.vbm_header.proofs.Headers.{accepted}
use Rattle.vbm_volume.specs.Image.{image_of}
use Rattle.vbm_volume.specs.Like.{sector_at, IsLikeFile}
use Rattle.vbm_volume.specs.Wrote.{IsLikeIn, Covers, sectors_at, TouchesOnly, Loosens, Wrote}
use Rattle.vbm_volume.proofs.Images.{image_of-ok}
use Rattle.vbm_volume.proofs.Likes.{like_refl, like_image, like_sym, like_trans, like_weaker}
use Rattle.vbm_volume.proofs.Pieces.{torn-put}
use Rattle.vbm_volume.proofs.Torn.{torn_like, sectors_at-touches}

not_empty : (f : List ℕ) (h : Header) → image_of f ≡ Ok h → f ≡ [] → ⊥
not_empty f h e none =
    let long : 456 ≤ length f = (accepted f (length f) h (image_of-ok f h e).0).long in
    let short : length f ≡ 0 = ap length none in
    omega arith

-- an accepted file is there
pub is_there : (file : Option (List ℕ)) (h : Header) → image_of (bytes_of file) ≡ Ok h → file ≡ Some (bytes_of file)
is_there (Some f) h e = refl
is_there None h e = absurd (not_empty [] h e refl)

-- a file that is there, by its bytes
pub like_bytes : (h : Header) (loose : ℕ → Bool) (f : List ℕ) (file : Option (List ℕ)) → IsLikeIn h loose f file
    → IsLikeFile h loose f (bytes_of file)
like_bytes h loose f None like = absurd like
like_bytes h loose f (Some g) like = like

pub like_in : (h : Header) (loose : ℕ → Bool) (f : List ℕ) (file : Option (List ℕ)) → file ≡ Some f → image_of f ≡ Ok h
    → IsLikeIn h loose f file
like_in h loose f file is e = subst (IsLikeIn h loose f) (sym is) (like_refl f h loose e)

-- ---- one write

module _ (name : List ℕ) (h : Header) (sectors : ℕ → Bool) (at n : ℕ) (files : Files) (e : image_of (bytes_of (files name)) ≡ Ok h)
    (touches : TouchesOnly h (bytes_of (files name)) sectors at n) where
  torn_in : (loose : ℕ → Bool) → Covers loose sectors → (old new : Option (List ℕ)) → IsLikeIn h loose (bytes_of (files name)) old
      → TornFile at n (Some (bytes_of (files name))) old new → IsLikeIn h loose (bytes_of (files name)) new
  torn_in loose covers None new like torn = absurd like
  torn_in loose covers (Some g) None like torn = absurd torn
  torn_in loose covers (Some g) (Some j) like torn =
      let f : List ℕ = bytes_of (files name) in
      torn_like h f loose sectors at n f g j e touches covers (like_refl f h loose e) like torn

  -- a write, whole or torn
  pub leaves_loosens : (old new : Files) → WriteLeaves name at n files old new → Loosens name h (bytes_of (files name)) sectors old new
  leaves_loosens old new leaves = record {
    here = λ loose covers like. torn_in loose covers (old name) (new name) like
        (subst (λ (o : Option (List ℕ)). TornFile at n o (old name) (new name)) (is_there (files name) h e) leaves.here);
    others = leaves.others;
  }

-- a whole write is one of the ways in which it may be left
pub written_leaves : (name : List ℕ) (h : Header) (at : ℕ) (bytes : List ℕ) (files new : Files) → image_of (bytes_of (files name)) ≡ Ok h
    → IsWritten name at bytes files new → WriteLeaves name at (length bytes) files files new
written_leaves name h at bytes files new e is =
    let f : List ℕ = bytes_of (files name) in
    record {
      here = subst (λ (x : Option (List ℕ)). TornFile at (length bytes) (files name) (files name) x) (sym is.here)
          (subst (λ (x : Option (List ℕ)). TornFile at (length bytes) x x (Some (put at bytes f))) (sym (is_there (files name) h e))
          (torn-put at bytes f));
      others = is.others;
    }

-- what one write of a disk is to an image, by what the disk tells of the write
module _ {A E : Type 0} (r : Result A E) (name : List ℕ) (h : Header) (sectors : ℕ → Bool) (at : ℕ) (bytes : List ℕ) (old new : DiskState)
    (e : image_of (bytes_of (old.files name)) ≡ Ok h) (touches : TouchesOnly h (bytes_of (old.files name)) sectors at (length bytes)) where
  abbrev f : List ℕ
  f = bytes_of (old.files name)

  pub write_wrote : OnOk r (IsWritten name at bytes old.files new.files)
      → OnErr r (WriteLeaves name at (length bytes) old.files old.files new.files)
      → Follows (WriteLeaves name at (length bytes) old.files) old.may_leave new.may_leave
      → Passes old new new.may_leave
      → Wrote name h (bytes_of (old.files name)) sectors old new
  write_wrote ok err crash time = record {
    files = files r ok err;
    images = follows;
    time = Passes-weaker old new new.may_leave (Through (Loosens name h f sectors) old.may_leave) time follows;
  }
    where
      loosens : (x y : Files) → WriteLeaves name at (length bytes) old.files x y → Loosens name h f sectors x y
      loosens = leaves_loosens name h sectors at (length bytes) old.files e touches

      files : (s : Result A E) → OnOk s (IsWritten name at bytes old.files new.files)
          → OnErr s (WriteLeaves name at (length bytes) old.files old.files new.files) → Loosens name h f sectors old.files new.files
      files (Ok x) written left = loosens old.files new.files (written_leaves name h at bytes old.files new.files e written)
      files (Err x) written left = loosens old.files new.files left

      follows : Follows (Loosens name h f sectors) old.may_leave new.may_leave
      follows image may = let from = crash image may in (from.0, from.1, loosens from.0 image from.2)

-- the same at sectors of a position, with the call's own name and place
pub sectors_wrote : {A E : Type 0} (r : Result A E) (name : List ℕ) (h : Header) (p first count : ℕ) (bytes : List ℕ) (old new : DiskState)
    → image_of (bytes_of (old.files name)) ≡ Ok h → first + count ≤ 2048 → length bytes ≡ count * 512
    → (named : List ℕ) (at : ℕ) → named ≡ name → at ≡ sector_at h p first
    → OnOk r (IsWritten named at bytes old.files new.files)
    → OnErr r (WriteLeaves named at (length bytes) old.files old.files new.files)
    → Follows (WriteLeaves named at (length bytes) old.files) old.may_leave new.may_leave
    → Passes old new new.may_leave
    → Wrote name h (bytes_of (old.files name)) (sectors_at (bytes_of (old.files name)) h p first count) old new
sectors_wrote r name h p first count bytes old new e fits size named at is_name is_at ok err crash time =
    let f : List ℕ = bytes_of (old.files name) in
    let touches : TouchesOnly h f (sectors_at f h p first count) at (length bytes) =
    subst (λ (a : ℕ). TouchesOnly h f (sectors_at f h p first count) a (length bytes)) (sym is_at)
    (subst (λ (n : ℕ). TouchesOnly h f (sectors_at f h p first count) (sector_at h p first) n) (sym size)
    (sectors_at-touches f h p first count e fits)) in
    write_wrote r name h (sectors_at f h p first count) at bytes old new e touches
    (subst (λ (m : List ℕ). OnOk r (IsWritten m at bytes old.files new.files)) is_name ok)
    (subst (λ (m : List ℕ). OnErr r (WriteLeaves m at (length bytes) old.files old.files new.files)) is_name err)
    (subst (λ (m : List ℕ). Follows (WriteLeaves m at (length bytes) old.files) old.may_leave new.may_leave) is_name crash)
    time

-- ---- writes, one after another

-- more sectors
pub Loosens-weaker : (name : List ℕ) (h : Header) (f : List ℕ) (few more : ℕ → Bool) (a b : Files) → Covers more few
    → Loosens name h f few a b → Loosens name h f more a b
Loosens-weaker name h f few more a b fewer l = record {
  here = λ loose covers. l.here loose (λ i settled. fewer i (covers i settled));
  others = l.others;
}

pub Wrote-weaker : (name : List ℕ) (h : Header) (f : List ℕ) (few more : ℕ → Bool) (old new : DiskState) → Covers more few
    → Wrote name h f few old new → Wrote name h f more old new
Wrote-weaker name h f few more old new fewer wrote = record {
  files = Loosens-weaker name h f few more old.files new.files fewer wrote.files;
  images = λ image may. weaker image (wrote.images image may);
  time = Passes-weaker old new (Through (Loosens name h f few) old.may_leave) (Through (Loosens name h f more) old.may_leave) wrote.time weaker;
}
  where
    weaker : (image : Files) → Through (Loosens name h f few) old.may_leave image → Through (Loosens name h f more) old.may_leave image
    weaker image from = (from.0, from.1, Loosens-weaker name h f few more from.0 image fewer from.2)

-- Two stretches. The image was read as f before the first, and as g before the second.
module _ (name : List ℕ) (h : Header) (f g : List ℕ) (first next all : ℕ → Bool) (e : image_of f ≡ Ok h)
    (over_first : Covers all first) (over_next : Covers all next) (between : IsLikeFile h all f g) where
  between_loose : (loose : ℕ → Bool) → Covers loose all → IsLikeFile h loose f g
  between_loose loose covers = like_weaker f g h all loose covers between

  moved : (loose : ℕ → Bool) → Covers loose all → (file : Option (List ℕ)) → IsLikeIn h loose f file → IsLikeIn h loose g file
  moved loose covers None like = absurd like
  moved loose covers (Some x) like =
      let here = between_loose loose covers in like_trans g f x h loose (like_image f g h loose e here) (like_sym f g h loose e here) like

  back : (loose : ℕ → Bool) → Covers loose all → (file : Option (List ℕ)) → IsLikeIn h loose g file → IsLikeIn h loose f file
  back loose covers None like = absurd like
  back loose covers (Some x) like = like_trans f g x h loose e (between_loose loose covers) like

  pub Loosens-trans : (a b c : Files) → Loosens name h f first a b → Loosens name h g next b c → Loosens name h f all a c
  Loosens-trans a b c one two = record {
    here = λ loose covers like.
        let came = one.here loose (λ i settled. over_first i (covers i settled)) like in
        back loose covers (c name) (two.here loose (λ i settled. over_next i (covers i settled)) (moved loose covers (b name) came));
    others = λ other differ. two.others other differ ∙ one.others other differ;
  }

  pub Wrote-trans : (old mid new : DiskState) → Wrote name h f first old mid → Wrote name h g next mid new → Wrote name h f all old new
  Wrote-trans old mid new one two = record {
    files = Loosens-trans old.files mid.files new.files one.files two.files;
    images = λ image may. through image (two.images image may);
    time = Passes-trans old mid new (Through (Loosens name h f first) old.may_leave) (Through (Loosens name h g next) mid.may_leave)
        (Through (Loosens name h f all) old.may_leave) one.time two.time
        (λ image from. (from.0, from.1, Loosens-weaker name h f first all from.0 image over_first from.2)) through;
  }
    where
      through : (image : Files) → Through (Loosens name h g next) mid.may_leave image → Through (Loosens name h f all) old.may_leave image
      through image from =
          let start = one.images from.0 from.1 in
          (start.0, start.1, Loosens-trans start.0 from.0 image start.2 from.2)

-- two stretches, each told from the file's own bytes before it
pub Wrote-goes_on : (name : List ℕ) (h : Header) (first next all : ℕ → Bool) (old mid new : DiskState)
    → image_of (bytes_of (old.files name)) ≡ Ok h → Covers all first → Covers all next
    → Wrote name h (bytes_of (old.files name)) first old mid → Wrote name h (bytes_of (mid.files name)) next mid new
    → Wrote name h (bytes_of (old.files name)) all old new
Wrote-goes_on name h first next all old mid new e over_first over_next one two =
    let f : List ℕ = bytes_of (old.files name) in
    let between : IsLikeFile h all f (bytes_of (mid.files name)) =
    like_bytes h all f (mid.files name) (one.files.here all over_first (like_in h all f (old.files name) (is_there (old.files name) h e) e)) in
    Wrote-trans name h f (bytes_of (mid.files name)) first next all e over_first over_next between old mid new one two

-- a stretch that only reads
pub Loosens-refl : (name : List ℕ) (h : Header) (f : List ℕ) (sectors : ℕ → Bool) (files : Files) → Loosens name h f sectors files files
Loosens-refl name h f sectors files = record { here = λ loose covers like. like; others = λ other differ. refl }

pub Wrote-reads : (tells : Type 0) (name : List ℕ) (h : Header) (f : List ℕ) (sectors : ℕ → Bool) (old new : DiskState) → tells
    → OnlyReads tells old new → Wrote name h f sectors old new
Wrote-reads tells name h f sectors old new told reads = record {
  files = subst (λ (x : Files). Loosens name h f sectors old.files x) (sym (reads.files told)) (Loosens-refl name h f sectors old.files);
  images = λ image may. from image (reads.images image may);
  time = Passes-weaker old new old.may_leave (Through (Loosens name h f sectors) old.may_leave) reads.time from;
}
  where
    from : (image : Files) → old.may_leave image → Through (Loosens name h f sectors) old.may_leave image
    from image may = (image, may, Loosens-refl name h f sectors image)
