-- Pieces of a file before and after bytes are put into it.
use Rattle.std.proofs.Common.{◌≡◌, ◌⊎◌, ℕ, ◌+◌, ◌-◌, ◌<◌, ◌≤◌, List, ◌++◌, length, get_or, take, drop, replicate, refl, sym, ap, ◌∙◌, arith, inl, inr}
use Rattle.std.proofs.lemmas.List.{append_assoc, append-nil, drop_at, drop-drop, drop-take, ext_get_or, get_or-drop, get_or-take, length-append}
use Rattle.std.proofs.lemmas.List.{length-drop, length-replicate, length-take, take-take, take_at}
use Rattle.vbm_ports.specs.Crash.{TornBytes}
use Rattle.vbm_ports.specs.Files.{piece, put}
use Rattle.vbm_ports.proofs.Puts.{length-put_any, put_before_any, put_after_any}
use Rattle.vbm_header.specs.Field.{number_at}
use Rattle.vbm_header.proofs.Fields.{number_at-drop, number_at-take}

pub length-piece : (f : List ℕ) (at n : ℕ) → at + n ≤ length f → length (piece f at n) ≡ n
length-piece f at n fits = omega (arith, length-take n (drop at f), length-drop at f)

pub get_or-piece : (f : List ℕ) (at n i : ℕ) → i < n → get_or (piece f at n) i 0 ≡ get_or f (at + i) 0
get_or-piece f at n i h = get_or-take n (drop at f) i 0 h ∙ get_or-drop at f i 0

-- pieces of the same bytes
pub piece-ext : (f g : List ℕ) (at n : ℕ) → at + n ≤ length f → at + n ≤ length g
    → ((i : ℕ) → at ≤ i → i < at + n → get_or g i 0 ≡ get_or f i 0) → piece g at n ≡ piece f at n
piece-ext f g at n fits_f fits_g same =
    ext_get_or 0 (piece g at n) (piece f at n) (length-piece g at n fits_g ∙ sym (length-piece f at n fits_f)) (λ i h.
    let low : i < n = omega (arith, length-piece g at n fits_g) in
    get_or-piece g at n i low ∙ same (at + i) (omega arith) (omega arith) ∙ sym (get_or-piece f at n i low))

-- a part of equal pieces
pub piece-part : (f g : List ℕ) (at to n o m : ℕ) → piece f at n ≡ piece g to n → o + m ≤ n → piece f (at + o) m ≡ piece g (to + o) m
piece-part f g at to n o m same within = part f at ∙ ap (λ (l : List ℕ). take m (drop o l)) same ∙ sym (part g to) where
  part : (x : List ℕ) (a : ℕ) → piece x (a + o) m ≡ take m (drop o (piece x a n))
  part x a =
      let rest : o + (n - o) ≡ n = omega arith in
      sym (take-take m (n - o) (drop (a + o) x) (omega arith))
      ∙ ap (λ (l : List ℕ). take m (take (n - o) l)) (sym (drop-drop o a x))
      ∙ ap (take m) (sym (drop-take o (n - o) (drop a x)) ∙ ap (λ (k : ℕ). drop o (take k (drop a x))) rest)

-- a piece of a piece
pub piece-piece : (f : List ℕ) (at n o m : ℕ) → o + m ≤ n → at + n ≤ length f → piece (piece f at n) o m ≡ piece f (at + o) m
piece-piece f at n o m within fits =
    let size : length (piece f at n) ≡ n = length-piece f at n fits in
    ext_get_or 0 (piece (piece f at n) o m) (piece f (at + o) m)
    (length-piece (piece f at n) o m (omega (arith, size)) ∙ sym (length-piece f (at + o) m (omega arith))) (λ i h.
    let low : i < m = omega (arith, length-piece (piece f at n) o m (omega (arith, size))) in
    let place : at + (o + i) ≡ at + o + i = omega arith in
    get_or-piece (piece f at n) o m i low ∙ get_or-piece f at n (o + i) (omega arith)
    ∙ ap (λ k. get_or f k 0) place ∙ sym (get_or-piece f (at + o) m i low))

-- the number that stands in equal pieces
pub number_at-same_piece : (f g : List ℕ) (at w : ℕ) → at + w ≤ length f → at + w ≤ length g → piece g at w ≡ piece f at w
    → number_at g at w ≡ number_at f at w
number_at-same_piece f g at w fits_f fits_g same = sym (alone g fits_g) ∙ ap (λ xs. number_at xs 0 w) same ∙ alone f fits_f where
  alone : (x : List ℕ) → at + w ≤ length x → number_at (piece x at w) 0 w ≡ number_at x at w
  alone x fits =
      let place : at + 0 ≡ at = omega arith in
      number_at-take w (drop at x) 0 w (omega arith) (omega (arith, length-drop at x))
      ∙ number_at-drop x at 0 w ∙ ap (λ k. number_at x k w) place

-- a piece that a torn write doesn't reach
pub torn_piece : (at n : ℕ) (file old new : List ℕ) → TornBytes at n file old new → (o m : ℕ) → o + m ≤ length old → o + m ≤ length file
    → (o + m ≤ at) ⊎ (at + n ≤ o) → piece new o m ≡ piece old o m
torn_piece at n file old new torn o m in_old in_file apart =
    let no_shorter = torn.no_shorter in
    piece-ext old new o m in_old (omega arith) (λ i low high. elim apart [
      | inl before ↦ torn.before i (omega arith) (omega arith) (omega arith)
      | inr after ↦ torn.after i (omega arith) (omega arith)
    ])

-- a whole write is one of the ways in which it may be torn
pub torn-put : (at : ℕ) (bytes f : List ℕ) → TornBytes at (length bytes) f f (put at bytes f)
torn-put at bytes f = record {
  no_shorter = omega (arith, length-put_any at bytes f);
  no_longer = omega (arith, length-put_any at bytes f);
  before = λ i in_old low in_file. put_before_any at bytes f i low in_old;
  after = λ i in_old high. put_after_any at bytes f i high;
}

-- the bytes that were put
pub piece-put : (at : ℕ) (bytes f : List ℕ) → piece (put at bytes f) at (length bytes) ≡ bytes
piece-put at bytes f =
    let front : List ℕ = take at f ++ replicate (at - length f) 0 in
    let size : length front ≡ at =
    omega (arith, length-append (take at f) (replicate (at - length f) 0), length-take at f, length-replicate {A = ℕ} (at - length f) 0) in
    ap (λ (l : List ℕ). take (length bytes) (drop at l)) (append_assoc front bytes (drop (at + length bytes) f))
    ∙ ap (take (length bytes)) (drop_at front (bytes ++ drop (at + length bytes) f) at size)
    ∙ take_at bytes (drop (at + length bytes) f) (length bytes) refl

-- a piece beside them
pub piece-put_other : (at : ℕ) (bytes f : List ℕ) (o m : ℕ) → o + m ≤ length f → (o + m ≤ at) ⊎ (at + length bytes ≤ o)
    → piece (put at bytes f) o m ≡ piece f o m
piece-put_other at bytes f o m fits apart = torn_piece at (length bytes) f f (put at bytes f) (torn-put at bytes f) o m fits fits apart

-- what lies behind them
pub drop-put : (at : ℕ) (bytes f : List ℕ) (from : ℕ) → at + length bytes ≤ from → drop from (put at bytes f) ≡ drop from f
drop-put at bytes f from past =
    ext_get_or 0 (drop from (put at bytes f)) (drop from f)
    (omega (arith, length-drop from (put at bytes f), length-drop from f, length-put_any at bytes f))
    (λ i h. get_or-drop from (put at bytes f) i 0 ∙ put_after_any at bytes f (from + i) (omega arith) ∙ sym (get_or-drop from f i 0))

-- bytes that are put where the known start of a file ends
pub put-next : (at : ℕ) (bytes done rest : List ℕ) → length done ≡ at
    → put at bytes (done ++ rest) ≡ (done ++ bytes) ++ drop (length bytes) rest
put-next at bytes done rest long =
    let none : at - length (done ++ rest) ≡ 0 = omega (arith, long, length-append done rest) in
    let front : take at (done ++ rest) ≡ done = take_at done rest at long in
    let behind : drop (at + length bytes) (done ++ rest) ≡ drop (length bytes) rest =
    ap (λ n. drop n (done ++ rest)) (omega arith) ∙ sym (drop-drop (length bytes) at (done ++ rest))
    ∙ ap (drop (length bytes)) (drop_at done rest at long) in
    rw (front, none, behind) (ap (λ l. l ++ bytes ++ drop (length bytes) rest) (append-nil done))
