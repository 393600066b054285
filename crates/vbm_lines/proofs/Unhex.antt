-- Words that spell bytes.
use Rattle.std.proofs.Common.{◌≡◌, ◌≢◌, ℕ, List, length, Ok, Err, arith, ap, sym, ◌∙◌}
use Rattle.hex.specs.declared.error.FromHexError.{FromHexError}
use Rattle.hex.specs.Hex.{decode_of, encode_lower, lower_digits}
use Rattle.hex.proofs.HexLemmas.{decode_of-encode_lower, decode_of-ok, length-encode_with}
use Rattle.vbm_lines.specs.Digits.{SpellsBytes}

decoded : (word bytes : List ℕ) → SpellsBytes word bytes → decode_of word ≡ Ok bytes
decoded word bytes h = ap decode_of (sym h.spelled) ∙ decode_of-encode_lower bytes h.fit

pub unspelled-refused : (word : List ℕ) (e : FromHexError) → decode_of word ≡ Err e → (bytes : List ℕ) → SpellsBytes word bytes → ⊥
unspelled-refused word e refused bytes h = cc (decoded word bytes h)

pub unspelled-other : (word read : List ℕ) → decode_of word ≡ Ok read → (encode_lower read ≡ word → ⊥)
    → (bytes : List ℕ) → SpellsBytes word bytes → ⊥
unspelled-other word read is other bytes h =
    let same : bytes ≡ read = cc (decoded word bytes h) in
    other (ap encode_lower (sym same) ∙ h.spelled)

pub unspelled-empty : (word : List ℕ) → length word ≡ 0 → (bytes : List ℕ) → SpellsBytes word bytes → ⊥
unspelled-empty word none bytes h = omega (arith, length-encode_with lower_digits bytes, ap length h.spelled, h.some)

pub spelled : (word bytes : List ℕ) → length word ≢ 0 → decode_of word ≡ Ok bytes → encode_lower bytes ≡ word → SpellsBytes word bytes
spelled word bytes some is same =
    let read = decode_of-ok word bytes is in
    record { spelled = same; some = omega (arith, read.2); fit = read.3 }
