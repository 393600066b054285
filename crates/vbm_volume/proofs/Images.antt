-- What a file is, by its header first and then by its map.
use Rattle.std.proofs.Common.{◌≡◌, ℕ, ◌+◌, ◌^◌, ◌<◌, List, ◌++◌, length, take, drop, min, Option, None, Result, Ok, Err, refl, sym, ap, ◌∙◌, arith}
use Rattle.std.proofs.lemmas.List.{length-take, take_at}
use Rattle.vbm_ports.specs.Files.{Reads}
use Rattle.vbm_header.specs.declared.BadImage.{BadImage}
use Rattle.vbm_header.specs.declared.Header.{Header}
use Rattle.vbm_header.specs.Header.{first_that_fails, header_conditions, header_of, unless, fields}
use Rattle.vbm_header.proofs.Headers.{accepted, unless-ok, unless-err, first_that_fails-append, first_that_fails-found}
use Rattle.vbm_volume.specs.Image.{image_of, map_conditions, positions, IsSoundHeader}
use Rattle.vbm_volume.specs.Faults.{Answers}
use Rattle.vbm_volume.specs.declared.fault.MapFault.{MapFault}
use Rattle.vbm_volume.specs.declared.fault.MapFault.TheVariants.{Bad, Failed, NoMemory}

-- where the header is accepted the map decides
pub image_of-header : (f : List ℕ) (h : Header) → header_of f (length f) ≡ Ok h
    → image_of f ≡ unless (first_that_fails (map_conditions (positions f h) h (length f))) h
unfolding image_of header_of
image_of-header f h e =
    let whole = unless-ok (first_that_fails (header_conditions f (length f))) (fields f) h e in
    let by : Header → Result Header BadImage =
    λ (x : Header). unless (first_that_fails (header_conditions f (length f) ++ map_conditions (positions f x) x (length f))) x in
    ap by whole.1 ∙ ap (λ o. unless o h) (first_that_fails-append (header_conditions f (length f)) (map_conditions (positions f h) h (length f)) whole.0)

-- where the header isn't accepted nothing else counts
pub image_of-bad_header : (f : List ℕ) (k : BadImage) → header_of f (length f) ≡ Err k → image_of f ≡ Err k
unfolding image_of header_of
image_of-bad_header f k e =
    let found = unless-err (first_that_fails (header_conditions f (length f))) (fields f) k e in
    ap (λ o. unless o (fields f))
    (first_that_fails-found (header_conditions f (length f)) (map_conditions (positions f (fields f)) (fields f) (length f)) k found)

-- from what the check of the map found
pub image_of-checked : (f : List ℕ) (h : Header) (len : ℕ) (ps : List ℕ) (fault : Option BadImage) → length f ≡ len → header_of f len ≡ Ok h
    → ps ≡ positions f h → fault ≡ first_that_fails (map_conditions ps h len) → image_of f ≡ unless fault h
image_of-checked f h len ps fault size e here found =
    image_of-header f h (ap (header_of f) size ∙ e)
    ∙ rw (size, ← here, ← found) refl

-- what a read of the front gives
pub front_read : (f blank new : List ℕ) (n len : ℕ) → Reads f 0 blank new n → length blank ≡ 456 → length f ≡ len
    → take 456 f ≡ take (min len 456) new
front_read f blank new n len read room size =
    let all : new ≡ take 456 f ++ drop n blank = read.buffer ∙ ap (λ m. take m f ++ drop n blank) room in
    let count : length (take 456 f) ≡ min len 456 = length-take 456 f ∙ omega arith in
    sym (ap (take (min len 456)) all ∙ take_at (take 456 f) (drop n blank) (min len 456) count)

-- a header that is not accepted, and one that is
pub image_of-err_front : (f : List ℕ) (len : ℕ) (k : BadImage) → length f ≡ len → header_of f len ≡ Err k → image_of f ≡ Err k
image_of-err_front f len k size e = image_of-bad_header f k (ap (header_of f) size ∙ e)

-- what an accepted file's header and map meet
pub image_of-ok : (f : List ℕ) (h : Header) → image_of f ≡ Ok h
    → (header_of f (length f) ≡ Ok h) × (first_that_fails (map_conditions (positions f h) h (length f)) ≡ None)
image_of-ok f h e = go (header_of f (length f)) refl where
  go : (r : Result Header BadImage) → header_of f (length f) ≡ r
      → (header_of f (length f) ≡ Ok h) × (first_that_fails (map_conditions (positions f h) h (length f)) ≡ None)
  go (Err k) is = cc (image_of-bad_header f k is)
  go (Ok h') is =
      let both = unless-ok (first_that_fails (map_conditions (positions f h') h' (length f))) h' h (sym (image_of-header f h' is) ∙ e) in
      let same : h' ≡ h = both.1 in
      (is ∙ ap Ok same, ap (λ (x : Header). first_that_fails (map_conditions (positions f x) x (length f))) (sym same) ∙ both.0)

-- a file whose header is not accepted is no image
pub Answers-front : {T : Type 0} (f : List ℕ) (len : ℕ) (e : MapFault) (header : T → Header) → length f ≡ len
    → Answers {T = Header} (Err e) (λ h. h) (header_of f len) → Answers {T = T} (Err e) header (image_of f)
Answers-front f len (Bad k) header size is = image_of-err_front f len k size is
Answers-front f len Failed header size is = tt
Answers-front f len NoMemory header size is = tt

-- an accepted header has sound sizes
pub sound_header : (f : List ℕ) (len : ℕ) (h : Header) → header_of f len ≡ Ok h → h.allocated < 2 ^ 32 → IsSoundHeader h
sound_header f len h e few =
    let facts = accepted f len h e in
    record {
      header_end = omega (arith, facts.header_size, facts.header_end);
      sectors = facts.sectors;
      some = facts.some;
      most = facts.most;
      blocks = facts.blocks;
      enough = facts.enough;
      map = facts.map;
      before_data = facts.before_data;
      allocated = few;
    }
