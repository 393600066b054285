-- The shelf of a store is sound: as it is without machines.
use Rattle.std.proofs.Common.{◌≡◌, ℕ, zero, suc, ◌*◌, ◌%◌, ◌^◌, ◌<◌, ◌≤◌, Bool, true, false, not, cond, ◌&&◌, List, map, length, Option, Some, None, Result, Ok, Err, refl, sym, ap, ◌∙◌, arith, IsTrue}
use Rattle.std.specs.Prelude.{IfSome}
use Rattle.std.specs.Option.{option_map}
use Rattle.std.proofs.lemmas.Bool.{and_parts, not-true}
use Rattle.std.proofs.lemmas.Bool.Decides.{nat_tests}
use Rattle.std.proofs.lemmas.List.{length_push}
use Rattle.vbm_ports.specs.Files.{Files}
use Rattle.vbm_ports.specs.Names.{is_medium_name}
use Rattle.vbm_header.specs.declared.BadImage.{BadImage}
use Rattle.vbm_header.specs.declared.Header.{Header}
use Rattle.vbm_header.specs.Header.{is_differencing}
use Rattle.vbm_volume.specs.Image.{image_of}
use Rattle.vbm_volume.specs.Sectors.{sector_count}
use Rattle.vbm_volume.proofs.Likes.{flat_length, capacity_good}
use Rattle.vbm_world.specs.declared.world.Shelved.{Shelved}
use Rattle.vbm_named.specs.Names.{Name, has_name}
use Rattle.vbm_world.specs.World.{medium_name}
use Rattle.vbm_world.specs.Refusals.{is_bad_size}
use Rattle.vbm_world.specs.Sound.{IsSized, IsSoundFile, IsSoundShelf}
use Rattle.vbm_named.proofs.Lists.{has_map}
use Rattle.vbm_registry.specs.Library.{medium_entry_name}
use Rattle.vbm_registry.specs.declared.media.Medium.{Medium}
use Rattle.vbm_standing.specs.Headers.{link_sectors, shelved_image, shelved_file}
use Rattle.vbm_registry.specs.Named.{NamedLibrary}
use Rattle.vbm_standing.specs.Meaning.{is_made, medium_in, shelf_in}

pub good_size : (n : ℕ) → 0 < n → n ≤ 2 ^ 41 → n % 512 ≡ 0 → is_bad_size n ≡ false
good_size n some most whole = grind (arith, nat_tests)

pub sized : (f : List ℕ) (h : Header) (n : ℕ) → image_of f ≡ Ok h → n ≡ sector_count h → IsSized n h.capacity
sized f h n e count =
    let good = capacity_good f h e in
    record { capacity_is = good.0 ∙ ap (λ k. 512 * k) (sym count); good = good_size h.capacity good.1 good.2 (omega (arith, good.0)) }

length-link_sectors : (f : List ℕ) (h : Header) (n : ℕ) → length (link_sectors f h n) ≡ n
unfolding link_sectors
length-link_sectors f h zero = refl
length-link_sectors f h (suc n) = length_push (link_sectors f h n) _ ∙ omega (arith, length-link_sectors f h n)

sound_or : (b : Bool) (x y : Shelved) → IsSoundFile x → IsSoundFile y → IsSoundFile (cond b x y)
sound_or true x y sound_x sound_y = sound_x
sound_or false x y sound_x sound_y = sound_y

sound_image : (f : List ℕ) (r : Result Header BadImage) → image_of f ≡ r → IsSoundFile (shelved_image f r)
sound_image f (Err bad) e = tt
sound_image f (Ok h) e =
    sound_or (is_differencing h.image_type) _ _ (sized f h _ e (length-link_sectors f h (sector_count h))) (sized f h _ e (flat_length f h))

if_some_or : {X : Type 0} (P : X → Type 0) (b : Bool) (o : Option X) → (b ≡ true → IfSome o P) → IfSome (cond b o None) P
if_some_or P true o some = some refl
if_some_or P false o some = tt

module _ (changed : Name → Bool) (l : NamedLibrary) (files : Files) where
  entry-name : (m : Medium) → medium_name (medium_in changed l files m) ≡ medium_entry_name m
  unfolding medium_in
  entry-name m = refl

  sound_shelved : (name : Name) (o : Option (List ℕ)) → IsTrue (is_medium_name name) → has_name medium_entry_name name l.media ≡ false
      → IfSome (option_map shelved_file o) (IsSoundShelf (map (medium_in changed l files) l.media) name)
  unfolding shelved_file
  sound_shelved name None named none = tt
  sound_shelved name (Some f) named none = record {
    named = named;
    no_medium = has_map (medium_in changed l files) medium_entry_name medium_name entry-name name l.media ∙ none;
    sound = sound_image f (image_of f) refl;
  }

  pub sound_shelf : (name : Name) → IfSome (shelf_in l files name) (IsSoundShelf (map (medium_in changed l files) l.media) name)
  sound_shelf name =
      let none = not (has_name medium_entry_name name l.media) in
      let unmade = not (is_made l.making name) in
      if_some_or _ (is_medium_name name && none && unmade) (option_map shelved_file (files name)) (λ on.
      let both = and_parts (is_medium_name name) none (and_parts (is_medium_name name && none) unmade on).0 in
      sound_shelved name (files name) both.0 (not-true _ both.1))
