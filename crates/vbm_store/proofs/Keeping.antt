-- Files that are kept.
use Rattle.std.proofs.Common.{ℕ, ◌||◌, List, Option, Some, None, refl, sym, ap, subst, ⊎_elim, IsTrue}
use Rattle.std.specs.Prelude.{slice_index}
use Rattle.std.proofs.lemmas.Bool.{and_parts}
use Rattle.vbm_ports.specs.Files.{Files}
use Rattle.vbm_ports.specs.Names.{is_medium_name, is_inner_name}
use Rattle.vbm_intent.specs.Log.{SameBesidesLog}
use Rattle.vbm_named.specs.Names.{Name}
use Rattle.vbm_registry.specs.declared.library.Library.{Library}
use Rattle.vbm_registry.specs.Named.{named}
use Rattle.vbm_registry.specs.Rules.{IsLibrary}
use Rattle.vbm_standing.proofs.Stores.{medium_not_log}
use Rattle.vbm_store.specs.Listed.{is_listed, is_on_shelf}
use Rattle.vbm_store.specs.Kept.{KeepsFront, IfBoth, KeepsBytes, AreKept}
use Rattle.vbm_store.proofs.Readiness.{is_image_name, either, listed_named, image_not_log}

shelf_medium : (l : Library) (name : Name) → IsTrue (is_on_shelf l name) → IsTrue (is_medium_name name)
shelf_medium l name on = (and_parts _ _ (and_parts _ _ on).0).0

shelf_named : (l : Library) (name : Name) → IsTrue (is_on_shelf l name) → IsTrue (is_image_name name)
shelf_named l name on = ap (λ b. b || is_inner_name name) (shelf_medium l name on)

-- files that are named have the names of images
held_named : (l : Library) → IsLibrary (named l) → (name : Name) → IsTrue (is_on_shelf l name || is_listed l name) → IsTrue (is_image_name name)
held_named l is name held = ⊎_elim (shelf_named l name) (listed_named l is name) (either _ _ held)

front_same : (file now : Option (List ℕ)) → KeepsBytes file now → IfBoth KeepsFront file now
front_same None now same = tt
front_same (Some f) None same = tt
front_same (Some f) (Some g) same = λ h k was is i below other. ap (λ (bytes : List ℕ). slice_index bytes i) same

-- files are kept where those with the names of images keep their bytes
pub kept_images : (l k : Library) (files now : Files) → IsLibrary (named l)
    → ((name : Name) → IsTrue (is_image_name name) → KeepsBytes (files name) (now name)) → AreKept l files k now
kept_images l k files now is same = record {
  shelf = λ name was after. same name (shelf_named l name was);
  fronts = λ name was after. front_same (files name) (now name) (same name (held_named l is name was));
}

same_bytes : (file : Option (List ℕ)) → KeepsBytes file file
same_bytes None = tt
same_bytes (Some f) = refl

pub kept_itself : (l : Library) (files : Files) → IsLibrary (named l) → AreKept l files l files
kept_itself l files is = kept_images l l files files is (λ name named. same_bytes (files name))

-- the log aside
pub kept_besides : (l k : Library) (files to now : Files) → IsLibrary (named l) → SameBesidesLog now to → AreKept l files k to → AreKept l files k now
kept_besides l k files to now is same kept = record {
  shelf = λ name was after. subst (KeepsBytes (files name)) (sym (same name (medium_not_log name (shelf_medium l name was)))) (kept.shelf name was after);
  fronts = λ name was after.
      subst (IfBoth KeepsFront (files name)) (sym (same name (image_not_log name (held_named l is name was)))) (kept.fronts name was after);
}
