-- What the settling of all staged entries makes of the files and the chains.
use Rattle.std.proofs.Common.{◌≡◌, ◌≢◌, ◌⊎◌, inl, inr, ⊎_elim, ℕ, zero, suc, List, [], ◌∷◌, ◌++◌, map, reverse, slice_get, Option, Some, None, Result, Ok, Err, refl, sym, ap, subst, ◌∙◌, arith}
use Rattle.std.specs.Prelude.{All, OnOk}
use Rattle.std.specs.List.{cons_option}
use Rattle.std.proofs.lemmas.List.{reverse-append, map-append}
use Rattle.vbm_ports.specs.Files.{Files, bytes_of}
use Rattle.vbm_header.specs.declared.Header.{Header}
use Rattle.vbm_intent.specs.declared.change.Change.{Change}
use Rattle.vbm_intent.specs.declared.change.Change.TheVariants.{Write, Fill, Cut, Remove}
use Rattle.vbm_intent.specs.Changes.{of_file, file_after, changed, FitsFile, Fits}
use Rattle.vbm_intent.specs.Plan.{body_size}
use Rattle.vbm_intent.specs.Log.{SameBesidesLog}
use Rattle.vbm_intent.proofs.Applying.{cases_name}
use Rattle.vbm_volume.specs.Chain.{Link, sector_down}
use Rattle.vbm_volume.proofs.Writings.{is_there}
use Rattle.vbm_blockmap.specs.Pending.{Staged}
use Rattle.vbm_image.specs.declared.image.Image.{Image}
use Rattle.vbm_image.specs.Image.{file_in, IsInForm, FitsIn, FitsOver}
use Rattle.vbm_image.specs.Settling.{settled, settled_header, Settles, TakesAsSettled}
use Rattle.vbm_image.proofs.SettlingPlans.{settles}
use Rattle.vbm_image.proofs.SettledFits.{fits_settled}
use Rattle.vbm_chain.specs.Settled.{chain_images, settled_link, settled_links}
use Rattle.vbm_chain.proofs.SettledLinks.{fresh_link}
use Rattle.vbm_chain.proofs.ResolvedSectors.{at_item}
use Rattle.vbm_guest.specs.Edited.{AreNamedApart}
use Rattle.vbm_guest.specs.Flushing.{settling_all, IsTakenAsSettled, AreTakenAsSettled, ServesSame}
use Rattle.vbm_guest.proofs.EditedImages.{all_from}
use Rattle.vbm_guest.proofs.SettlingAll.{settling_of, of_nobody, of_image}
use Rattle.vbm_guest.proofs.TakenImages.{was_image}

-- a plan with no bytes has no changes
pub no_changes : (changes : List Change) → body_size changes ≡ 0 → changes ≡ []
no_changes [] none = refl
no_changes (Write name at bytes ∷ changes) none = absurd (omega arith)
no_changes (Fill name at len byte ∷ changes) none = absurd (omega arith)
no_changes (Cut name len ∷ changes) none = absurd (omega arith)
no_changes (Remove name ∷ changes) none = absurd (omega arith)

-- ---- the chains, which do not depend on cBlocksAllocated

abbrev erased : Link → Link
erased link = (link.0, record link.1 { allocated = 0 })

down_erased : (links : List Link) (i : ℕ) → sector_down links i ≡ sector_down (map erased links) i
down_erased [] i = refl
down_erased (link ∷ below) i = rw (down_erased below i) refl

reverse_erased : (links : List Link) → map erased (reverse links) ≡ reverse (map erased links)
reverse_erased [] = refl
reverse_erased (l ∷ ls) =
    ap (map erased) (reverse-append (l ∷ []) ls)
    ∙ map-append erased (reverse ls) (l ∷ [])
    ∙ ap (λ x. x ++ erased l ∷ []) (reverse_erased ls)
    ∙ sym (reverse-append (erased l ∷ []) (map erased ls))

module _ (files now : Files) where
  link_erased : (old new : Image) → TakesAsSettled old new → file_in now old ≡ settled old.header old.pending.staged (file_in files old)
      → erased (settled_link now new) ≡ erased (settled_link files old)
  link_erased old new takes file =
      let here : file_in now new ≡ settled old.header old.pending.staged (file_in files old) =
      ap (λ (m : List ℕ). bytes_of (now m)) takes.name ∙ file in
      ap erased (fresh_link now new takes.staged)
      ∙ ap (λ (h : Header). erased (file_in now new, h)) takes.header
      ∙ ap (λ (f : List ℕ). erased (f, settled_header old.header old.pending.staged)) here

  item_erased : (o p : Option Image) (xs ys : List Image) → IsTakenAsSettled o p
      → ((image : Image) → o ≡ Some image → file_in now image ≡ settled image.header image.pending.staged (file_in files image))
      → map erased (map (settled_link now) ys) ≡ map erased (map (settled_link files) xs)
      → map erased (map (settled_link now) (cons_option p ys)) ≡ map erased (map (settled_link files) (cons_option o xs))
  item_erased None None xs ys is file rest = rest
  item_erased None (Some new) xs ys is file rest = absurd is
  item_erased (Some old) None xs ys is file rest = absurd is
  item_erased (Some old) (Some new) xs ys is file rest =
      ap (λ l. l ∷ map erased (map (settled_link now) ys)) (link_erased old new is (file old refl))
      ∙ ap (λ ls. erased (settled_link files old) ∷ ls) rest

  module _ (images others : List Image) (taken : AreTakenAsSettled images others)
      (file : (k : ℕ) (image : Image) → slice_get images k ≡ Some image
      → file_in now image ≡ settled image.header image.pending.staged (file_in files image)) where
    links_erased : (chain : List ℕ) → map erased (settled_links now others chain) ≡ map erased (settled_links files images chain)
    links_erased [] = refl
    links_erased (k ∷ chain) =
        item_erased (slice_get images k) (slice_get others k) (chain_images images chain) (chain_images others chain) (taken k) (file k)
        (links_erased chain)

    serves_same : ServesSame files images now others
    serves_same chain i =
        down_erased (reverse (settled_links now others chain)) i
        ∙ ap (λ (links : List Link). sector_down links i)
        (reverse_erased (settled_links now others chain)
        ∙ ap reverse (links_erased chain)
        ∙ sym (reverse_erased (settled_links files images chain)))
        ∙ sym (down_erased (reverse (settled_links files images chain)) i)

-- ---- the files

-- the image of a name, or none is
by_name : (images : List Image) (name : List ℕ) → ((k : ℕ) × (image : Image) × (slice_get images k ≡ Some image) × (image.name ≡ name))
    ⊎ ((k : ℕ) (image : Image) → slice_get images k ≡ Some image → image.name ≢ name)
by_name [] name = inr (λ k image is. absurd cc)
by_name (i ∷ images) name = ⊎_elim
    (λ same. inl (0, i, refl, same.1))
    (λ other. ⊎_elim
    (λ found. inl (suc found.0, found.1, found.2, found.3))
    (λ none. inr (neither none other.1))
    (by_name images name))
    (cases_name i.name name)
  where
    neither : ((k : ℕ) (image : Image) → slice_get images k ≡ Some image → image.name ≢ name) → i.name ≢ name
        → (k : ℕ) (image : Image) → slice_get (i ∷ images) k ≡ Some image → image.name ≢ name
    neither none differ zero image is e = let same : i ≡ image = cc is in differ (ap (λ (x : Image). x.name) same ∙ e)
    neither none differ (suc k) image is e = none k image is e

image_settles : (files : Files) (image : Image) → IsInForm image → FitsIn files image
    → Settles image.name image.header image.pending.staged (file_in files image)
image_settles files image form fits =
    settles image.name image.header image.pending.staged (file_in files image) form.header form.staged fits.accepted fits.entries

module _ (files : Files) (images : List Image) (names : AreNamedApart images) (form : All IsInForm images) (fits : All (FitsIn files) images) where
  pub all_fit : Fits (settling_all images) files
  all_fit name = ⊎_elim
      (λ found.
      let image : Image = found.1 in
      let fits_here = at_item (FitsIn files) images found.0 image fits found.2 in
      let st = image_settles files image (at_item IsInForm images found.0 image form found.2) fits_here in
      subst (λ (n : List ℕ). FitsFile (of_file n (settling_all images)) (files n)) found.3
      (subst (λ cs. FitsFile cs (files image.name)) (sym (of_image images found.0 image names found.2))
      (subst (λ (o : Option (List ℕ)). FitsFile (settling_of image) o) (sym (is_there (files image.name) image.header fits_here.accepted)) st.fits)))
      (λ none. subst (λ cs. FitsFile cs (files name)) (sym (of_nobody images name none)) tt)
      (by_name images name)

  module _ (now : Files) (same : SameBesidesLog now (changed (settling_all images) files)) where
    pub file_now : (k : ℕ) (image : Image) → slice_get images k ≡ Some image
        → file_in now image ≡ settled image.header image.pending.staged (file_in files image)
    file_now k image is =
        let form_here = at_item IsInForm images k image form is in
        let fits_here = at_item (FitsIn files) images k image fits is in
        ap bytes_of
        (same image.name form_here.not_log
        ∙ ap (λ cs. file_after cs (files image.name)) (of_image images k image names is)
        ∙ ap (λ (o : Option (List ℕ)). file_after (settling_of image) o) (is_there (files image.name) image.header fits_here.accepted)
        ∙ (image_settles files image form_here fits_here).makes)

    pub flush_fits : (others : List Image) → AreTakenAsSettled images others → All (FitsIn now) others
    flush_fits others taken = all_from (FitsIn now) others (λ k new is.
        let was = was_image images others taken k new is in
        let old : Image = was.0 in
        let f : List ℕ = file_in files old in
        let file : file_in now new ≡ settled old.header old.pending.staged f =
        ap (λ (m : List ℕ). bytes_of (now m)) was.2.name ∙ file_now k old was.1 in
        let form_here = at_item IsInForm images k old form was.1 in
        subst (FitsOver new.header new.pending.staged new.used) (sym file)
        (subst (λ (h : Header). FitsOver h new.pending.staged new.used (settled old.header old.pending.staged f)) (sym was.2.header)
        (subst (λ (s : Staged). FitsOver (settled_header old.header old.pending.staged) s new.used (settled old.header old.pending.staged f))
        (sym was.2.staged)
        (subst (λ (u : Option (List ℕ)). FitsOver (settled_header old.header old.pending.staged) [] u (settled old.header old.pending.staged f))
        (sym was.2.used)
        (fits_settled old.header old.pending.staged old.used f form_here.header form_here.staged (at_item (FitsIn files) images k old fits was.1))))))

    pub flush_serves : (others : List Image) → AreTakenAsSettled images others → ServesSame files images now others
    flush_serves others taken = serves_same files now images others taken file_now

-- ---- where nothing is staged

pub on_any : {A B P : Type 0} (r : Result A B) → P → OnOk r P
on_any (Ok x) p = p
on_any (Err e) p = tt

pub same_besides : (changes : List Change) → changes ≡ [] → (files now : Files) → now ≡ files → SameBesidesLog now (changed changes files)
same_besides changes none files now same name differ =
    ap (λ (x : Files). x name) same ∙ sym (ap (λ (cs : List Change). changed cs files name) none)
