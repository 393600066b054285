-- What stays of an image over its file where sectors of a position are written, and where a block is staged.
use Rattle.std.proofs.Common.{◌≡◌, ◌≢◌, ℕ, ◌+◌, ◌*◌, ◌^◌, ◌<◌, ◌≤◌, Bool, true, List, [], ◌∷◌, ◌++◌, length, Option, Some, None, Ok, sym, ◌∙◌, ap, subst, arith, inl, inr}
use Rattle.std.proofs.lemmas.Bool.{false≢true}
use Rattle.std.proofs.lemmas.Bool.Decides.{eqb_tells}
use Rattle.vbm_ports.specs.Crash.{TornBytes}
use Rattle.vbm_ports.specs.Files.{Files, bytes_of, put, IsWritten}
use Rattle.vbm_ports.proofs.Puts.{length-put_any}
use Rattle.vbm_header.specs.declared.Header.{Header}
use Rattle.vbm_volume.specs.Image.{image_of, word_of, data_at}
use Rattle.vbm_volume.specs.Like.{sector_at, IsLikeFile}
use Rattle.vbm_volume.specs.Marks.{is_marked, MarksOneMore}
use Rattle.vbm_volume.specs.Wrote.{sectors_at}
use Rattle.vbm_volume.proofs.Likes.{like_image, like_refl, same_word}
use Rattle.vbm_volume.proofs.Pieces.{torn-put}
use Rattle.vbm_volume.proofs.Torn.{torn_like, sectors_at-touches}
use Rattle.vbm_blockmap.specs.Pending.{Staged, position_in}
use Rattle.vbm_blockmap.specs.declared.used.TheConstants.{POSITION_LIMIT}
use Rattle.vbm_image.specs.Image.{FitStaged, FitUsed, FitsOver}
use Rattle.vbm_image.specs.Staging.{IsTakenFrom}
use Rattle.vbm_image.proofs.StagedWords.{pushed}

-- ---- a file that is like another

module _ (f g : List ℕ) (h : Header) (loose : ℕ → Bool) (staged : Staged) (e : image_of f ≡ Ok h) (like : IsLikeFile h loose f g)
    (longer : length f ≤ length g) where
  like_word : (b : ℕ) → b < h.blocks → word_of g h b ≡ word_of f h b
  like_word = same_word f g h e like.head

  entries_like : FitStaged h staged f → FitStaged h staged g
  entries_like fits = record {
    reach = λ b p is. omega (arith, fits.reach b p is, longer);
    unused = λ b p c is inside w. fits.unused b p c is inside (sym (like_word c inside) ∙ w);
    apart = fits.apart;
  }

  marks_like : (used : Option (List ℕ)) → FitUsed h staged f used → FitUsed h staged g used
  marks_like None marks = tt
  marks_like (Some bits) marks = record {
    settled = λ b inside low.
        let same = like_word b inside in
        ap (is_marked bits) same ∙ marks.settled b inside (omega (arith, same));
    staged_too = marks.staged_too;
  }

  pub fits_like : (used : Option (List ℕ)) → FitsOver h staged used f → FitsOver h staged used g
  fits_like used fits = record {
    accepted = like_image f g h loose e like;
    entries = entries_like fits.entries;
    marks = marks_like used fits.marks;
  }

-- sectors that are written at a position
module _ (f : List ℕ) (h : Header) (p first count : ℕ) (bytes : List ℕ) (e : image_of f ≡ Ok h) (inside : first + count ≤ 2048)
    (size : length bytes ≡ count * 512) where
  abbrev written : List ℕ
  written = put (sector_at h p first) bytes f

  written_like : IsLikeFile h (sectors_at f h p first count) f written
  written_like =
      let loose = sectors_at f h p first count in
      torn_like h f loose loose (sector_at h p first) (count * 512) f f written e (sectors_at-touches f h p first count e inside)
      (λ i settled. settled) (like_refl f h loose e) (like_refl f h loose e)
      (subst (λ (n : ℕ). TornBytes (sector_at h p first) n f f written) size (torn-put (sector_at h p first) bytes f))

  pub written_long : (length f ≤ length (put (sector_at h p first) bytes f))
      × (sector_at h p first + count * 512 ≤ length (put (sector_at h p first) bytes f))
  written_long =
      (omega (arith, length-put_any (sector_at h p first) bytes f), omega (arith, length-put_any (sector_at h p first) bytes f, size))

  pub fits_written : (staged : Staged) (used : Option (List ℕ)) → FitsOver h staged used f
      → FitsOver h staged used (put (sector_at h p first) bytes f)
  fits_written staged used fits = fits_like f written h (sectors_at f h p first count) staged e written_like written_long.0 used fits

-- the same by what the disk tells
pub fits_in_written : (name : List ℕ) (h : Header) (p first count : ℕ) (bytes : List ℕ) (staged : Staged) (used : Option (List ℕ))
    (files now : Files) → FitsOver h staged used (bytes_of (files name)) → first + count ≤ 2048 → length bytes ≡ count * 512
    → IsWritten name (sector_at h p first) bytes files now → FitsOver h staged used (bytes_of (now name))
fits_in_written name h p first count bytes staged used files now fits inside size written =
    subst (λ (file : Option (List ℕ)). FitsOver h staged used (bytes_of file)) (sym written.here)
    (fits_written (bytes_of (files name)) h p first count bytes fits.accepted inside size staged used fits)

-- ---- a position that was not marked

module _ (h : Header) (staged : Staged) (f : List ℕ) (at : ℕ) (low : at < POSITION_LIMIT) where
  pub taken_no_word : (old new : Option (List ℕ)) → IsTakenFrom old new at → FitUsed h staged f old → (b : ℕ) → b < h.blocks
      → word_of f h b ≢ at
  taken_no_word None new taken marks b inside is = absurd taken
  taken_no_word (Some old) None taken marks b inside is = absurd taken
  taken_no_word (Some old) (Some new) taken marks b inside is =
      false≢true (sym taken.0.unmarked ∙ ap (is_marked old) (sym is) ∙ marks.settled b inside (omega (arith, is)))

  pub taken_none_staged : (old new : Option (List ℕ)) → IsTakenFrom old new at → FitUsed h staged f old → (b : ℕ)
      → position_in staged b ≢ Some at
  taken_none_staged None new taken marks b is = absurd taken
  taken_none_staged (Some old) None taken marks b is = absurd taken
  taken_none_staged (Some old) (Some new) taken marks b is = false≢true (sym taken.0.unmarked ∙ marks.staged_too b at is)

  still_marked : (old new : List ℕ) → MarksOneMore old new at → (p : ℕ) → is_marked old p ≡ true → is_marked new p ≡ true
  still_marked old new more p was = elim (eqb_tells p at) [
    | inl same ↦ ap (is_marked new) same.1 ∙ more.here
    | inr apart ↦ more.others p apart.1 ∙ was
  ]

  module _ (block : ℕ) where
    marks_pushed : (old new : Option (List ℕ)) → IsTakenFrom old new at → FitUsed h staged f old
        → FitUsed h (staged ++ (block, at) ∷ []) f new
    marks_pushed None new taken marks = absurd taken
    marks_pushed (Some old) None taken marks = absurd taken
    marks_pushed (Some old) (Some new) taken marks = record {
      settled = λ b inside word_low. still_marked old new taken.1 (word_of f h b) (marks.settled b inside word_low);
      staged_too = λ b p is. elim (pushed staged block at b p is) [
        | inl was ↦ still_marked old new taken.1 p (marks.staged_too b p was)
        | inr here ↦ ap (is_marked new) (sym here.1) ∙ taken.1.here
      ];
    }

    -- an entry more, whose data lies in the file
    pub fits_pushed : (old new : Option (List ℕ)) → IsTakenFrom old new at → data_at h (at + 1) ≤ length f → FitsOver h staged old f
        → FitsOver h (staged ++ (block, at) ∷ []) new f
    fits_pushed old new taken within fits =
        let none = taken_none_staged old new taken fits.marks in
        record {
          accepted = fits.accepted;
          entries = record {
            reach = λ b p is. elim (pushed staged block at b p is) [
              | inl was ↦ fits.entries.reach b p was
              | inr here ↦ omega (arith, here.1, within)
            ];
            unused = λ b p c is inside w. elim (pushed staged block at b p is) [
              | inl was ↦ fits.entries.unused b p c was inside w
              | inr here ↦ taken_no_word old new taken fits.marks c inside (w ∙ sym here.1)
            ];
            apart = λ a b p is_a is_b. elim (pushed staged block at a p is_a) [
              | inl was_a ↦ elim (pushed staged block at b p is_b) [
                | inl was_b ↦ fits.entries.apart a b p was_a was_b
                | inr here_b ↦ absurd (none a (was_a ∙ ap Some (sym here_b.1)))
              ]
              | inr here_a ↦ elim (pushed staged block at b p is_b) [
                | inl was_b ↦ absurd (none b (was_b ∙ ap Some (sym here_a.1)))
                | inr here_b ↦ here_a.0 ∙ sym here_b.0
              ]
            ];
          };
          marks = marks_pushed old new taken fits.marks;
        }

-- the same by what the disk tells
pub fits_in_staged : (name : List ℕ) (h : Header) (at block : ℕ) (bytes : List ℕ) (staged more : Staged) (old new : Option (List ℕ))
    (files now : Files) → at < POSITION_LIMIT → IsTakenFrom old new at → length bytes ≡ 2 ^ 20 → more ≡ staged ++ (block, at) ∷ []
    → FitsOver h staged old (bytes_of (files name)) → IsWritten name (sector_at h at 0) bytes files now
    → FitsOver h more new (bytes_of (now name))
fits_in_staged name h at block bytes staged more old new files now low taken size is fits written =
    let f : List ℕ = bytes_of (files name) in
    let count : length bytes ≡ 2048 * 512 = omega (arith, size) in
    let long = written_long f h at 0 2048 bytes fits.accepted (omega arith) count in
    subst (λ (s : Staged). FitsOver h s new (bytes_of (now name))) (sym is)
    (subst (λ (file : Option (List ℕ)). FitsOver h (staged ++ (block, at) ∷ []) new (bytes_of file)) (sym written.here)
    (fits_pushed h staged (put (sector_at h at 0) bytes f) at low block old new taken (omega (arith, long.1))
    (fits_written f h at 0 2048 bytes fits.accepted (omega arith) count staged old fits)))
