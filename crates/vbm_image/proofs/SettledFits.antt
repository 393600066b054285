-- An image over its settled file, with nothing staged.
use Rattle.std.proofs.Common.{◌≡◌, ◌<◌, ℕ, List, [], Option, Some, None, true, refl, ap, ◌∙◌, arith}
use Rattle.std.specs.Prelude.{unwrap_or}
use Rattle.vbm_header.specs.declared.Header.{Header}
use Rattle.vbm_volume.specs.Image.{word_of, IsSoundHeader}
use Rattle.vbm_volume.specs.Marks.{is_marked}
use Rattle.vbm_volume.proofs.Torn.{map_within}
use Rattle.vbm_blockmap.specs.Pending.{Staged, position_in}
use Rattle.vbm_blockmap.specs.declared.used.TheConstants.{POSITION_LIMIT}
use Rattle.vbm_image.specs.Image.{staged_word, AreStagedIn, FitStaged, MarksEntries, FitUsed, FitsOver}
use Rattle.vbm_image.specs.Settling.{settled, settled_header}
use Rattle.vbm_image.proofs.SettledFiles.{settled_word}
use Rattle.vbm_image.proofs.SettledImages.{settled_image}

none_fits : (h : Header) (f : List ℕ) → FitStaged h [] f
none_fits h f = record {
  reach = λ b p is. absurd cc;
  unused = λ b p c is inside. absurd cc;
  apart = λ a b p is_a is_b. absurd cc;
}

module _ (h : Header) (staged : Staged) (f : List ℕ) (sound : IsSoundHeader h) (form : AreStagedIn h staged) where
  marked_word : (bits : List ℕ) → MarksEntries h staged f bits → (b : ℕ) → b < h.blocks → staged_word f h staged b < POSITION_LIMIT
      → is_marked bits (staged_word f h staged b) ≡ true
  marked_word bits marks b inside low = by (position_in staged b) refl low
    where
      by : (o : Option ℕ) → position_in staged b ≡ o → unwrap_or o (word_of f h b) < POSITION_LIMIT
          → is_marked bits (unwrap_or o (word_of f h b)) ≡ true
      by None at low = marks.settled b inside low
      by (Some p) at low = marks.staged_too b p at

  marks_settled : (used : Option (List ℕ)) → FitsOver h staged used f → FitUsed (settled_header h staged) [] (settled h staged f) used
  marks_settled None fits = tt
  marks_settled (Some bits) fits = record {
    settled = λ b inside low.
        let same = settled_word h sound staged f form (map_within f h fits.accepted).1 b inside in
        ap (is_marked bits) same ∙ marked_word bits fits.marks b inside (omega (arith, same));
    staged_too = λ b p is. absurd cc;
  }

pub fits_settled : (h : Header) (staged : Staged) (used : Option (List ℕ)) (f : List ℕ) → IsSoundHeader h → AreStagedIn h staged
    → FitsOver h staged used f → FitsOver (settled_header h staged) [] used (settled h staged f)
fits_settled h staged used f sound form fits = record {
  accepted = settled_image h f sound fits.accepted staged form fits.entries;
  entries = none_fits (settled_header h staged) (settled h staged f);
  marks = marks_settled h staged f sound form used fits;
}
