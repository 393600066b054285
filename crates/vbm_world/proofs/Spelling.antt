-- No two commands have one form.
use Rattle.std.proofs.Common.{◌≡◌, ℕ, ◌<◌, ◌^◌, List, [], ◌∷◌, ◌++◌, length, Bool, true, false, refl, sym, ap, subst, ap₂, ◌∙◌, arith, get_or, inl, inr}
use Rattle.std.specs.Prelude.{codes, decimal}
use Rattle.std.specs.List.{All, list_all}
use Rattle.std.specs.Str.{bytes_eq}
use Rattle.std.proofs.lemmas.Bool.{and_parts}
use Rattle.std.proofs.lemmas.Fmt.{decimal_injective}
use Rattle.std.proofs.lemmas.List.Elements.{All-cons, All-nil}
use Rattle.std.proofs.lemmas.Slice.Eq.{bytes_eq-Decides}
use Rattle.std.proofs.lemmas.Bool.{cases_lt}
use Rattle.std.proofs.lemmas.List.{append_assoc, get_or_past}
use Rattle.hex.specs.Hex.{IsBytes, decode_of, encode_lower}
use Rattle.hex.proofs.HexLemmas.{decode_of-encode_lower}
use Rattle.vbm_ports.specs.Names.{is_medium_name, is_short_name, is_name_character}
use Rattle.vbm_lines.specs.Lines.{Words}
use Rattle.vbm_modes.specs.declared.Mode.{Mode}
use Rattle.vbm_modes.specs.declared.Mode.TheVariants.{Normal, Immutable, Writethrough, MultiAttach, Readonly}
use Rattle.vbm_volume.specs.declared.flat.Variant.{Variant}
use Rattle.vbm_volume.specs.declared.flat.Variant.TheVariants.{Standard, Fixed}
use Rattle.vbm_world.specs.declared.command.Command.{Command}
use Rattle.vbm_world.specs.declared.command.Command.TheVariants.{Compact}
use Rattle.vbm_world.specs.declared.command.PlaceName.{PlaceName}
use Rattle.vbm_world.specs.declared.command.PlaceName.TheVariants.{Medium, Slot, Snap}
use Rattle.vbm_world.specs.declared.command.Size.{Size}
use Rattle.vbm_world.specs.declared.command.Size.TheVariants.{Mb, Bytes}
use Rattle.vbm_world.specs.Texts.{words_of, size_words, variant_words, delete_words, mode_text, switch_text, place_text, size_number, IsSpelled, IsSpelledPlace, IsMedium, IsShort, IsPort, IsForm}
use Rattle.vbm_world.proofs.Verbs.{Verb, createmedium, closemedium, modifymedium, clonemedium, importchain, usage, lists, storageattach, snapshot, reads, writes, fills, Arguments, Modifying, to_mode, to_autoreset, to_compact, to_size, Cloning, to_new, to_existing, Listing, of_hdds, of_vms, Attaching, of_medium, of_none, Snapshotting, taking, restoring, restoring_current, deleting, listing, command_of, verb_of, arguments_of, command_of_its_verb, behind, begins_with_verb, of_verb}

-- ---- words that differ

-- texts that a test tells apart
texts_differ : (a b : List ℕ) → bytes_eq a b ≡ false → a ≡ b → ⊥
texts_differ a b other same =
    let equal : true ≡ false = sym ((bytes_eq-Decides a b).1 same) ∙ other in cc

-- lists of words that differ in a word
words_differ : (n : ℕ) (a b : Words) → bytes_eq (get_or a n []) (get_or b n []) ≡ false → a ≡ b → ⊥
words_differ n a b other same = texts_differ (get_or a n []) (get_or b n []) other (ap (λ (words : Words). get_or words n []) same)

one_mode : (a b : Mode) → mode_text a ≡ mode_text b → a ≡ b
one_mode Normal Normal e = refl
one_mode Immutable Immutable e = refl
one_mode Writethrough Writethrough e = refl
one_mode MultiAttach MultiAttach e = refl
one_mode Readonly Readonly e = refl
one_mode a b e = absurd (texts_differ (mode_text a) (mode_text b) refl e)

one_switch : (a b : Bool) → switch_text a ≡ switch_text b → a ≡ b
one_switch true true e = refl
one_switch false false e = refl
one_switch a b e = absurd (texts_differ (switch_text a) (switch_text b) refl e)

one_delete : (a b : Bool) → delete_words a ≡ delete_words b → a ≡ b
one_delete true true e = refl
one_delete false false e = refl
one_delete a b e = absurd cc

one_variant : (a b : Variant) → variant_words a ≡ variant_words b → a ≡ b
one_variant Standard Standard e = refl
one_variant Fixed Fixed e = refl
one_variant a b e = absurd cc

one_size : (a b : Size) (after_a after_b : Words) → size_number a < 2 ^ 64 → size_number b < 2 ^ 64
    → size_words a ++ after_a ≡ size_words b ++ after_b → (a ≡ b) × (after_a ≡ after_b)
one_size (Mb n) (Mb k) after_a after_b n_fits k_fits e = (ap Mb (decimal_injective n k n_fits k_fits cc), cc)
one_size (Bytes n) (Bytes k) after_a after_b n_fits k_fits e = (ap Bytes (decimal_injective n k n_fits k_fits cc), cc)
one_size a b after_a after_b a_fits b_fits e =
    absurd (words_differ 0 (size_words a ++ after_a) (size_words b ++ after_b) refl e)

pub one_last : (a b : Words) (x y : List ℕ) → a ++ x ∷ [] ≡ b ++ y ∷ [] → (a ≡ b) × (x ≡ y)
one_last [] [] x y e = (refl, cc)
one_last [] (c ∷ []) x y e = absurd cc
one_last [] (c ∷ d ∷ b) x y e = absurd cc
one_last (c ∷ []) [] x y e = absurd cc
one_last (c ∷ d ∷ a) [] x y e = absurd cc
one_last (c ∷ a) (d ∷ b) x y e =
    let k = one_last a b x y cc in (cc, k.1)

-- ---- places

-- no character of a name is `:` or `/`
abbrev pub AreOfNames : List ℕ → Type 0
AreOfNames text = list_all is_name_character text ≡ true

pub medium_characters : (name : List ℕ) → IsMedium name → AreOfNames name
unfolding is_medium_name
medium_characters name is = (and_parts _ _ (and_parts _ _ is).0).1

pub short_characters : (name : List ℕ) → IsShort name → AreOfNames name
unfolding is_short_name
short_characters name is = (and_parts _ _ is).1

not_both : (test : ℕ → Bool) (c d : ℕ) → test c ≡ true → test d ≡ false → c ≡ d → ⊥
not_both test c d is not same = let equal : true ≡ false = sym is ∙ ap test same ∙ not in cc

-- Texts are split in one way at the first character that fails a test.
pub one_split : (test : ℕ → Bool) (a b x y : List ℕ) (s t : ℕ) → list_all test a ≡ true → list_all test b ≡ true → test s ≡ false
    → test t ≡ false → a ++ s ∷ x ≡ b ++ t ∷ y → (a ≡ b) × (s ≡ t) × (x ≡ y)
one_split test [] [] x y s t a_is b_is s_not t_not e = (refl, cc, cc)
one_split test [] (d ∷ b) x y s t a_is b_is s_not t_not e = absurd (not_both test d s (and_parts _ _ b_is).0 s_not cc)
one_split test (c ∷ a) [] x y s t a_is b_is s_not t_not e = absurd (not_both test c t (and_parts _ _ a_is).0 t_not cc)
one_split test (c ∷ a) (d ∷ b) x y s t a_is b_is s_not t_not e =
    let tails : a ++ s ∷ x ≡ b ++ t ∷ y = cc in
    let heads : c ≡ d = cc in
    let k = one_split test a b x y s t (and_parts _ _ a_is).1 (and_parts _ _ b_is).1 s_not t_not tails in
    (ap₂ (λ (z : ℕ) (zs : List ℕ). z ∷ zs) heads k.0, k.1, k.2)

-- a text whose characters all pass has no such split
pub no_split : (test : ℕ → Bool) (a b y : List ℕ) (t : ℕ) → list_all test a ≡ true → test t ≡ false → a ≡ b ++ t ∷ y → ⊥
no_split test [] [] y t a_is t_not e = cc
no_split test [] (d ∷ b) y t a_is t_not e = cc
no_split test (c ∷ a) [] y t a_is t_not e = not_both test c t (and_parts _ _ a_is).0 t_not cc
no_split test (c ∷ a) (d ∷ b) y t a_is t_not e = no_split test a b y t (and_parts _ _ a_is).1 t_not cc

pub one_port : (n k : ℕ) → IsPort n → IsPort k → decimal n ≡ decimal k → n ≡ k
one_port n k n_is k_is e = decimal_injective n k (omega arith) (omega arith) e

pub slot_text : (vm : List ℕ) (port : ℕ) → place_text (Slot vm port) ≡ vm ++ 58 ∷ decimal port
slot_text vm port = append_assoc vm (codes ":") (decimal port)

pub snap_text : (vm snap : List ℕ) (port : ℕ) → place_text (Snap vm snap port) ≡ vm ++ 47 ∷ (snap ++ 58 ∷ decimal port)
snap_text vm snap port = simp append_assoc

pub one_place : (p q : PlaceName) → IsSpelledPlace p → IsSpelledPlace q → place_text p ≡ place_text q → p ≡ q
one_place (Medium name) (Medium other) p q e = cc
one_place (Medium name) (Slot vm port) p q e =
    absurd (no_split is_name_character name vm (decimal port) 58 (medium_characters name p) refl (e ∙ slot_text vm port))
one_place (Medium name) (Snap vm snap port) p q e =
    absurd (no_split is_name_character name vm (snap ++ 58 ∷ decimal port) 47 (medium_characters name p) refl (e ∙ snap_text vm snap port))
one_place (Slot vm port) (Medium name) p q e =
    absurd (no_split is_name_character name vm (decimal port) 58 (medium_characters name q) refl (sym e ∙ slot_text vm port))
one_place (Slot vm port) (Slot other k) p q e =
    let parts = one_split is_name_character vm other (decimal port) (decimal k) 58 58 (short_characters vm p.0) (short_characters other q.0) refl refl
    (sym (slot_text vm port) ∙ e ∙ slot_text other k) in
    let ports : port ≡ k = one_port port k p.1 q.1 parts.2 in
    let names : vm ≡ other = parts.0 in
    cc
one_place (Slot vm port) (Snap other snap k) p q e =
    let parts = one_split is_name_character vm other (decimal port) (snap ++ 58 ∷ decimal k) 58 47 (short_characters vm p.0) (short_characters other q.0) refl refl
    (sym (slot_text vm port) ∙ e ∙ snap_text other snap k) in
    absurd (omega (arith, parts.1))
one_place (Snap vm snap port) (Medium name) p q e =
    absurd (no_split is_name_character name vm (snap ++ 58 ∷ decimal port) 47 (medium_characters name q) refl (sym e ∙ snap_text vm snap port))
one_place (Snap vm snap port) (Slot other k) p q e =
    let parts = one_split is_name_character vm other (snap ++ 58 ∷ decimal port) (decimal k) 47 58 (short_characters vm p.0) (short_characters other q.0) refl refl
    (sym (snap_text vm snap port) ∙ e ∙ slot_text other k) in
    absurd (omega (arith, parts.1))
one_place (Snap vm snap port) (Snap other snap2 k) p q e =
    let parts = one_split is_name_character vm other (snap ++ 58 ∷ decimal port) (snap2 ++ 58 ∷ decimal k) 47 47 (short_characters vm p.0)
    (short_characters other q.0) refl refl (sym (snap_text vm snap port) ∙ e ∙ snap_text other snap2 k) in
    let behind = one_split is_name_character snap snap2 (decimal port) (decimal k) 58 58 (short_characters snap p.1) (short_characters snap2 q.1) refl refl
    parts.2 in
    let ports : port ≡ k = one_port port k p.2 q.2 behind.2 in
    let names : vm ≡ other = parts.0 in
    let snaps : snap ≡ snap2 = behind.0 in
    cc

-- ---- bytes

pub bytes_of_all : (bytes : List ℕ) → All (λ b. b < 256) bytes → IsBytes bytes
bytes_of_all bytes all i = elim (cases_lt i (length bytes)) [
  | inl within ↦ all i 0 within
  | inr past ↦ omega (arith, get_or_past bytes i 0 past)
]

pub one_hex : (a b : List ℕ) → All (λ b. b < 256) a → All (λ b. b < 256) b → encode_lower a ≡ encode_lower b → a ≡ b
one_hex a b a_is b_is e =
    let of_a = decode_of-encode_lower a (bytes_of_all a a_is) in
    let of_b = decode_of-encode_lower b (bytes_of_all b b_is) in
    let same = ap decode_of e in
    cc

all_of_one : (b : ℕ) → b < 256 → All (λ x. x < 256) (b ∷ [])
all_of_one b fits = All-cons (λ x. x < 256) b [] fits (All-nil (λ x. x < 256))

one_byte : (a b : ℕ) → a < 256 → b < 256 → encode_lower (a ∷ []) ≡ encode_lower (b ∷ []) → a ≡ b
one_byte a b a_fits b_fits e =
    let bytes = one_hex (a ∷ []) (b ∷ []) (all_of_one a a_fits) (all_of_one b b_fits) e in cc

-- ---- each verb

one_modifying : (a b : Modifying) → IsSpelled (command_of modifymedium a) → IsSpelled (command_of modifymedium b)
    → words_of (command_of modifymedium a) ≡ words_of (command_of modifymedium b) → command_of modifymedium a ≡ command_of modifymedium b
one_modifying (to_mode name mode) (to_mode other mode2) a b e =
    let modes : mode ≡ mode2 = one_mode mode mode2 cc in cc
one_modifying (to_autoreset vm port on) (to_autoreset other k on2) a b e =
    let places : _ = one_place (Slot vm port) (Slot other k) a b cc in
    let switches : on ≡ on2 = one_switch on on2 cc in cc
one_modifying (to_compact place) (to_compact other) a b e = ap Compact (one_place place other a b cc)
one_modifying (to_size name mb) (to_size other mb2) a b e =
    let sizes : mb ≡ mb2 = decimal_injective mb mb2 a.1 b.1 cc in cc
one_modifying a b a_spelled b_spelled e =
    absurd (words_differ 2 (words_of (command_of modifymedium a)) (words_of (command_of modifymedium b)) refl e)

one_cloning : (a b : Cloning) → IsSpelled (command_of clonemedium a) → IsSpelled (command_of clonemedium b)
    → words_of (command_of clonemedium a) ≡ words_of (command_of clonemedium b) → command_of clonemedium a ≡ command_of clonemedium b
one_cloning (to_new place name) (to_new other name2) a b e =
    let places : place ≡ other = one_place place other a.0 b.0 cc in cc
one_cloning (to_existing place name) (to_existing other name2) a b e =
    let places : place ≡ other = one_place place other a.0 b.0 cc in cc
one_cloning a b a_spelled b_spelled e = absurd cc

one_listing : (a b : Listing) → words_of (command_of lists a) ≡ words_of (command_of lists b) → command_of lists a ≡ command_of lists b
one_listing of_hdds of_hdds e = refl
one_listing of_vms of_vms e = refl
one_listing a b e = absurd (words_differ 1 (words_of (command_of lists a)) (words_of (command_of lists b)) refl e)

none_is_no_medium : IsMedium (codes "none") → ⊥
unfolding is_medium_name
none_is_no_medium is = cc

one_attaching : (a b : Attaching) → IsSpelled (command_of storageattach a) → IsSpelled (command_of storageattach b)
    → words_of (command_of storageattach a) ≡ words_of (command_of storageattach b) → command_of storageattach a ≡ command_of storageattach b
one_attaching (of_medium vm port name) (of_medium vm2 port2 name2) a b e =
    let ports : port ≡ port2 = one_port port port2 a.1 b.1 cc in cc
one_attaching (of_none vm port) (of_none vm2 port2) a b e =
    let ports : port ≡ port2 = one_port port port2 a.1 b.1 cc in cc
one_attaching (of_medium vm port name) (of_none vm2 port2) a b e =
    let same : name ≡ codes "none" = cc in absurd (none_is_no_medium (subst IsMedium same a.2))
one_attaching (of_none vm port) (of_medium vm2 port2 name) a b e =
    let same : name ≡ codes "none" = cc in absurd (none_is_no_medium (subst IsMedium same b.2))

one_snapshotting : (a b : Snapshotting) → words_of (command_of snapshot a) ≡ words_of (command_of snapshot b)
    → command_of snapshot a ≡ command_of snapshot b
one_snapshotting (taking vm name) (taking vm2 name2) e = cc
one_snapshotting (restoring vm name) (restoring vm2 name2) e = cc
one_snapshotting (restoring_current vm) (restoring_current vm2) e = cc
one_snapshotting (deleting vm name) (deleting vm2 name2) e = cc
one_snapshotting (listing vm) (listing vm2) e = cc
one_snapshotting a b e = absurd (words_differ 2 (words_of (command_of snapshot a)) (words_of (command_of snapshot b)) refl e)

one_of_verb : (verb : Verb) (a b : Arguments verb) → IsSpelled (command_of verb a) → IsSpelled (command_of verb b)
    → words_of (command_of verb a) ≡ words_of (command_of verb b) → command_of verb a ≡ command_of verb b
one_of_verb createmedium a b a_is b_is e =
    let names : a.0 ≡ b.0 = cc in
    let k = one_size a.1 b.1 (variant_words a.2) (variant_words b.2) a_is.1 b_is.1 cc in
    let sizes : a.1 ≡ b.1 = k.0 in
    let variants : a.2 ≡ b.2 = one_variant a.2 b.2 k.1 in
    cc
one_of_verb closemedium a b a_is b_is e =
    let names : a.0 ≡ b.0 = cc in
    let deletes : a.1 ≡ b.1 = one_delete a.1 b.1 cc in
    cc
one_of_verb modifymedium a b a_is b_is e = one_modifying a b a_is b_is e
one_of_verb clonemedium a b a_is b_is e = one_cloning a b a_is b_is e
one_of_verb importchain a b a_is b_is e =
    let k = one_last a.0 b.0 a.1 b.1 cc in
    let files : a.0 ≡ b.0 = k.0 in
    let names : a.1 ≡ b.1 = k.1 in
    cc
one_of_verb usage a b a_is b_is e = let places : a ≡ b = one_place a b a_is b_is cc in cc
one_of_verb lists a b a_is b_is e = one_listing a b e
one_of_verb storageattach a b a_is b_is e = one_attaching a b a_is b_is e
one_of_verb snapshot a b a_is b_is e = one_snapshotting a b e
one_of_verb reads a b a_is b_is e =
    let vms : a.0 ≡ b.0 = cc in
    let ports : a.1 ≡ b.1 = one_port a.1 b.1 a_is.1 b_is.1 cc in
    let lbas : a.2 ≡ b.2 = decimal_injective a.2 b.2 a_is.2 b_is.2 cc in
    let counts : a.3 ≡ b.3 = decimal_injective a.3 b.3 (omega (arith, a_is.3.1)) (omega (arith, b_is.3.1)) cc in
    cc
one_of_verb writes a b a_is b_is e =
    let vms : a.0 ≡ b.0 = cc in
    let ports : a.1 ≡ b.1 = one_port a.1 b.1 a_is.1 b_is.1 cc in
    let lbas : a.2 ≡ b.2 = decimal_injective a.2 b.2 a_is.2 b_is.2 cc in
    let bytes : a.3 ≡ b.3 = one_hex a.3 b.3 a_is.3.bytes_are b_is.3.bytes_are cc in
    cc
one_of_verb fills a b a_is b_is e =
    let vms : a.0 ≡ b.0 = cc in
    let ports : a.1 ≡ b.1 = one_port a.1 b.1 a_is.1 b_is.1 cc in
    let lbas : a.2 ≡ b.2 = decimal_injective a.2 b.2 a_is.2 b_is.2 cc in
    let counts : a.3 ≡ b.3 = decimal_injective a.3 b.3 (omega (arith, a_is.3.1)) (omega (arith, b_is.3.1)) cc in
    let bytes : a.4 ≡ b.4 = one_byte a.4 b.4 a_is.4 b_is.4 cc in
    cc
one_of_verb verb a b a_is b_is e = cc

-- ---- all commands

one_of_words : (c d : Command) → IsSpelled c → IsSpelled d → words_of c ≡ words_of d → c ≡ d
one_of_words c d c_is d_is e =
    let verb = verb_of d in
    let k = of_verb verb (behind (words_of d)) c (e ∙ begins_with_verb d) in
    let whole = command_of_its_verb d in
    sym k.1
    ∙ one_of_verb verb k.0 (arguments_of d) (subst IsSpelled (sym k.1) c_is) (subst IsSpelled (sym whole) d_is)
    (ap words_of k.1 ∙ e ∙ sym (ap words_of whole))
    ∙ whole

pub one_form : (words : Words) (c d : Command) → IsForm words c → IsForm words d → c ≡ d
one_form words c d is_c is_d = one_of_words c d is_c.spelled is_d.spelled (sym is_c.is ∙ is_d.is)

pub same_words : (words other : Words) (c : Command) → IsForm words c → IsForm other c → words ≡ other
same_words words other c is_c also_c = is_c.is ∙ sym also_c.is
