-- Commands by the first word of their forms, their verb.
use Rattle.std.proofs.Common.{◌≡◌, ℕ, List, [], ◌∷◌, Bool, if◌then◌else◌, refl, sym, ap, subst, ◌∙◌}
use Rattle.std.specs.Prelude.{codes}
use Rattle.std.specs.Str.{bytes_eq}
use Rattle.vbm_lines.specs.Lines.{Words}
use Rattle.vbm_modes.specs.declared.Mode.{Mode}
use Rattle.vbm_volume.specs.declared.flat.Variant.{Variant}
use Rattle.vbm_world.specs.declared.command.Command.{Command}
use Rattle.vbm_world.specs.declared.command.Command.TheVariants.{CreateMedium, OpenMedium, CloseMedium, SetMode, SetAutoreset, Compact, Resize, CloneNew, CloneExisting, ImportChain, ShowMediumInfo, Usage, ListHdds, ListVms, CreateVm, UnregisterVm, Attach, Detach, StartVm, PowerOff, Take, Restore, RestoreCurrent, DeleteSnapshot, ListSnapshots, Read, Write, Fill, Flush}
use Rattle.vbm_world.specs.declared.command.PlaceName.{PlaceName}
use Rattle.vbm_world.specs.declared.command.Size.{Size}
use Rattle.vbm_world.specs.Texts.{words_of, IsForm}

pub data Verb : Type 0 where
  createmedium : Verb
  openmedium : Verb
  closemedium : Verb
  modifymedium : Verb
  clonemedium : Verb
  importchain : Verb
  showmediuminfo : Verb
  usage : Verb
  lists : Verb
  createvm : Verb
  unregistervm : Verb
  storageattach : Verb
  startvm : Verb
  poweroff : Verb
  snapshot : Verb
  reads : Verb
  writes : Verb
  fills : Verb
  flushes : Verb

abbrev pub verb_text : Verb → List ℕ
verb_text createmedium = codes "createmedium"
verb_text openmedium = codes "openmedium"
verb_text closemedium = codes "closemedium"
verb_text modifymedium = codes "modifymedium"
verb_text clonemedium = codes "clonemedium"
verb_text importchain = codes "importchain"
verb_text showmediuminfo = codes "showmediuminfo"
verb_text usage = codes "usage"
verb_text lists = codes "list"
verb_text createvm = codes "createvm"
verb_text unregistervm = codes "unregistervm"
verb_text storageattach = codes "storageattach"
verb_text startvm = codes "startvm"
verb_text poweroff = codes "poweroff"
verb_text snapshot = codes "snapshot"
verb_text reads = codes "read"
verb_text writes = codes "write"
verb_text fills = codes "fill"
verb_text flushes = codes "flush"

-- the verb of a text that is one
abbrev verb_in : List ℕ → Verb
verb_in text =
    if bytes_eq text (codes "createmedium") then createmedium
    else if bytes_eq text (codes "openmedium") then openmedium
    else if bytes_eq text (codes "closemedium") then closemedium
    else if bytes_eq text (codes "modifymedium") then modifymedium
    else if bytes_eq text (codes "clonemedium") then clonemedium
    else if bytes_eq text (codes "importchain") then importchain
    else if bytes_eq text (codes "showmediuminfo") then showmediuminfo
    else if bytes_eq text (codes "usage") then usage
    else if bytes_eq text (codes "list") then lists
    else if bytes_eq text (codes "createvm") then createvm
    else if bytes_eq text (codes "unregistervm") then unregistervm
    else if bytes_eq text (codes "storageattach") then storageattach
    else if bytes_eq text (codes "startvm") then startvm
    else if bytes_eq text (codes "poweroff") then poweroff
    else if bytes_eq text (codes "snapshot") then snapshot
    else if bytes_eq text (codes "read") then reads
    else if bytes_eq text (codes "write") then writes
    else if bytes_eq text (codes "fill") then fills
    else flushes

verb_of_its_text : (verb : Verb) → verb_in (verb_text verb) ≡ verb
verb_of_its_text createmedium = refl
verb_of_its_text verb = refl

-- ---- what the commands of one verb have beside it

-- what follows `modifymedium`
pub data Modifying : Type 0 where
  to_mode : List ℕ → Mode → Modifying
  to_autoreset : List ℕ → ℕ → Bool → Modifying
  to_compact : PlaceName → Modifying
  to_size : List ℕ → ℕ → Modifying

pub data Cloning : Type 0 where
  to_new : PlaceName → List ℕ → Cloning
  to_existing : PlaceName → List ℕ → Cloning

pub data Listing : Type 0 where
  of_hdds : Listing
  of_vms : Listing

pub data Attaching : Type 0 where
  of_medium : List ℕ → ℕ → List ℕ → Attaching
  of_none : List ℕ → ℕ → Attaching

-- what follows `snapshot`
pub data Snapshotting : Type 0 where
  taking : List ℕ → List ℕ → Snapshotting
  restoring : List ℕ → List ℕ → Snapshotting
  restoring_current : List ℕ → Snapshotting
  deleting : List ℕ → List ℕ → Snapshotting
  listing : List ℕ → Snapshotting

abbrev pub Arguments : Verb → Type 0
Arguments createmedium = List ℕ × Size × Variant
Arguments openmedium = List ℕ
Arguments closemedium = List ℕ × Bool
Arguments modifymedium = Modifying
Arguments clonemedium = Cloning
Arguments importchain = Words × List ℕ
Arguments showmediuminfo = List ℕ
Arguments usage = PlaceName
Arguments lists = Listing
Arguments createvm = List ℕ
Arguments unregistervm = List ℕ
Arguments storageattach = Attaching
Arguments startvm = List ℕ
Arguments poweroff = List ℕ
Arguments snapshot = Snapshotting
Arguments reads = List ℕ × ℕ × ℕ × ℕ
Arguments writes = List ℕ × ℕ × ℕ × List ℕ
Arguments fills = List ℕ × ℕ × ℕ × ℕ × ℕ
Arguments flushes = List ℕ

abbrev pub command_of : (verb : Verb) → Arguments verb → Command
command_of createmedium a = CreateMedium a.0 a.1 a.2
command_of openmedium name = OpenMedium name
command_of closemedium a = CloseMedium a.0 a.1
command_of modifymedium (to_mode name mode) = SetMode name mode
command_of modifymedium (to_autoreset vm port on) = SetAutoreset vm port on
command_of modifymedium (to_compact place) = Compact place
command_of modifymedium (to_size name mb) = Resize name mb
command_of clonemedium (to_new place name) = CloneNew place name
command_of clonemedium (to_existing place target) = CloneExisting place target
command_of importchain a = ImportChain a.0 a.1
command_of showmediuminfo name = ShowMediumInfo name
command_of usage place = Usage place
command_of lists of_hdds = ListHdds
command_of lists of_vms = ListVms
command_of createvm name = CreateVm name
command_of unregistervm vm = UnregisterVm vm
command_of storageattach (of_medium vm port name) = Attach vm port name
command_of storageattach (of_none vm port) = Detach vm port
command_of startvm vm = StartVm vm
command_of poweroff vm = PowerOff vm
command_of snapshot (taking vm name) = Take vm name
command_of snapshot (restoring vm snap) = Restore vm snap
command_of snapshot (restoring_current vm) = RestoreCurrent vm
command_of snapshot (deleting vm snap) = DeleteSnapshot vm snap
command_of snapshot (listing vm) = ListSnapshots vm
command_of reads a = Read a.0 a.1 a.2 a.3
command_of writes a = Write a.0 a.1 a.2 a.3
command_of fills a = Fill a.0 a.1 a.2 a.3 a.4
command_of flushes vm = Flush vm

abbrev pub verb_of : Command → Verb
verb_of (CreateMedium name size variant) = createmedium
verb_of (OpenMedium name) = openmedium
verb_of (CloseMedium name delete) = closemedium
verb_of (SetMode name mode) = modifymedium
verb_of (SetAutoreset vm port on) = modifymedium
verb_of (Compact place) = modifymedium
verb_of (Resize name mb) = modifymedium
verb_of (CloneNew place name) = clonemedium
verb_of (CloneExisting place target) = clonemedium
verb_of (ImportChain files name) = importchain
verb_of (ShowMediumInfo name) = showmediuminfo
verb_of (Usage place) = usage
verb_of ListHdds = lists
verb_of ListVms = lists
verb_of (CreateVm name) = createvm
verb_of (UnregisterVm vm) = unregistervm
verb_of (Attach vm port name) = storageattach
verb_of (Detach vm port) = storageattach
verb_of (StartVm vm) = startvm
verb_of (PowerOff vm) = poweroff
verb_of (Take vm name) = snapshot
verb_of (Restore vm snap) = snapshot
verb_of (RestoreCurrent vm) = snapshot
verb_of (DeleteSnapshot vm snap) = snapshot
verb_of (ListSnapshots vm) = snapshot
verb_of (Read vm port lba count) = reads
verb_of (Write vm port lba bytes) = writes
verb_of (Fill vm port lba count byte) = fills
verb_of (Flush vm) = flushes

abbrev pub arguments_of : (c : Command) → Arguments (verb_of c)
arguments_of (CreateMedium name size variant) = (name, size, variant)
arguments_of (OpenMedium name) = name
arguments_of (CloseMedium name delete) = (name, delete)
arguments_of (SetMode name mode) = to_mode name mode
arguments_of (SetAutoreset vm port on) = to_autoreset vm port on
arguments_of (Compact place) = to_compact place
arguments_of (Resize name mb) = to_size name mb
arguments_of (CloneNew place name) = to_new place name
arguments_of (CloneExisting place target) = to_existing place target
arguments_of (ImportChain files name) = (files, name)
arguments_of (ShowMediumInfo name) = name
arguments_of (Usage place) = place
arguments_of ListHdds = of_hdds
arguments_of ListVms = of_vms
arguments_of (CreateVm name) = name
arguments_of (UnregisterVm vm) = vm
arguments_of (Attach vm port name) = of_medium vm port name
arguments_of (Detach vm port) = of_none vm port
arguments_of (StartVm vm) = vm
arguments_of (PowerOff vm) = vm
arguments_of (Take vm name) = taking vm name
arguments_of (Restore vm snap) = restoring vm snap
arguments_of (RestoreCurrent vm) = restoring_current vm
arguments_of (DeleteSnapshot vm snap) = deleting vm snap
arguments_of (ListSnapshots vm) = listing vm
arguments_of (Read vm port lba count) = (vm, port, lba, count)
arguments_of (Write vm port lba bytes) = (vm, port, lba, bytes)
arguments_of (Fill vm port lba count byte) = (vm, port, lba, count, byte)
arguments_of (Flush vm) = vm

pub command_of_its_verb : (c : Command) → command_of (verb_of c) (arguments_of c) ≡ c
command_of_its_verb (OpenMedium name) = refl
command_of_its_verb c = refl

-- ---- the words of a verb are a command of this verb

abbrev pub behind : Words → Words
behind [] = []
behind (word ∷ words) = words

abbrev first_word : Words → List ℕ
first_word [] = []
first_word (word ∷ words) = word

pub begins_with_verb : (c : Command) → words_of c ≡ verb_text (verb_of c) ∷ behind (words_of c)
begins_with_verb (OpenMedium name) = refl
begins_with_verb c = refl

same_verb : (verb : Verb) (tail : Words) (c : Command) → words_of c ≡ verb_text verb ∷ tail → verb_of c ≡ verb
same_verb verb tail c e =
    let text : verb_text (verb_of c) ≡ verb_text verb = ap first_word (sym (begins_with_verb c) ∙ e) in
    sym (verb_of_its_text (verb_of c)) ∙ ap verb_in text ∙ verb_of_its_text verb

pub of_verb : (verb : Verb) (tail : Words) (c : Command) → words_of c ≡ verb_text verb ∷ tail
    → (a : Arguments verb) × (command_of verb a ≡ c)
of_verb verb tail c e =
    subst (λ v. (a : Arguments v) × (command_of v a ≡ c)) (same_verb verb tail c e) (arguments_of c, command_of_its_verb c)

-- words are the form of no command if they are that of none of their verb
pub none_of_verb : (verb : Verb) (tail : Words) → ((a : Arguments verb) → IsForm (verb_text verb ∷ tail) (command_of verb a) → ⊥)
    → (c : Command) → IsForm (verb_text verb ∷ tail) c → ⊥
none_of_verb verb tail none c form =
    let k = of_verb verb tail c (sym form.is) in
    none k.0 (subst (IsForm (verb_text verb ∷ tail)) (sym k.1) form)

-- words whose first is no verb are the form of no command
pub none_of_others : (word : List ℕ) (tail : Words) → ((verb : Verb) → word ≡ verb_text verb → ⊥) → (c : Command)
    → IsForm (word ∷ tail) c → ⊥
none_of_others word tail none c form = none (verb_of c) (ap first_word (form.is ∙ begins_with_verb c))
