-- The words of a command, and the text of an answer.
use Rattle.std.specs.List.{All, AllByRecursion}
use Rattle.std.specs.Prelude.{◌≡◌, ℕ, ◌*◌, ◌^◌, ◌<◌, ◌≤◌, List, [], ◌∷◌, ◌++◌, length, map, Bool, true, false, if◌then◌else◌, Option, Some, None, IsTrue, codes, decimal}
use Rattle.uuid.specs.Text.{hyphenated_text, lower}
use Rattle.hex.specs.Hex.{encode_lower}
use Rattle.vbm_ports.specs.Names.{is_medium_name, is_short_name}
use Rattle.vbm_lines.specs.Lines.{Words}
use Rattle.vbm_modes.specs.declared.Mode.{Mode}
use Rattle.vbm_modes.specs.declared.Mode.TheVariants.{Normal, Immutable, Writethrough, MultiAttach, Readonly}
use Rattle.vbm_volume.specs.declared.flat.Variant.{Variant}
use Rattle.vbm_volume.specs.declared.flat.Variant.TheVariants.{Standard, Fixed}
use Rattle.vbm_world.specs.declared.command.Command.{Command}
use Rattle.vbm_world.specs.declared.command.Command.TheVariants.{CreateMedium, OpenMedium, CloseMedium, SetMode, SetAutoreset, Compact, Resize, CloneNew, CloneExisting, ImportChain, ShowMediumInfo, Usage, ListHdds, ListVms, CreateVm, UnregisterVm, Attach, Detach, StartVm, PowerOff, Take, Restore, RestoreCurrent, DeleteSnapshot, ListSnapshots, Read, Write, Fill, Flush}
use Rattle.vbm_world.specs.declared.command.PlaceName.{PlaceName}
use Rattle.vbm_world.specs.declared.command.PlaceName.TheVariants.{Medium, Slot, Snap}
use Rattle.vbm_world.specs.declared.limits.TheConstants.{PORT_LIMIT, FILL_LIMIT, WRITE_LIMIT, CHAIN_LIMIT}
use Rattle.vbm_world.specs.declared.command.Size.{Size}
use Rattle.vbm_world.specs.declared.command.Size.TheVariants.{Mb, Bytes}
use Rattle.vbm_world.specs.declared.command.Which.{Which}
use Rattle.vbm_world.specs.declared.command.Which.TheVariants.{Media, Machines, Snapshots, Places}
use Rattle.vbm_world.specs.declared.command.VmLine.{VmLine}
use Rattle.vbm_world.specs.declared.command.SnapLine.{SnapLine}
use Rattle.vbm_world.specs.declared.command.Answer.{Answer}
use Rattle.vbm_world.specs.declared.command.Answer.TheVariants.{Done, Id, Info, Count, MediaList, VmList, SnapList, Sectors, Refused}
use Rattle.vbm_world.specs.declared.command.Refusal.{Refusal}
use Rattle.vbm_world.specs.declared.command.Refusal.TheVariants.{BadLine, NoSuchMedium, NoSuchMachine, NoSuchSnapshot, NoSuchSlot, NameTaken, FileExists, NoSuchFile, NotAnImage, DuplicateId, ForeignId, InUse, Frozen, Running, NotRunning, Locked, SharedMedium, SlotTaken, AlreadyAttached, OutOfRange, WriteProtected, HasChildren, Shrinks, BadSize, WrongKind, Full, IdsSpent, BrokenChain, TooSmall, NoCurrent}

-- ---- the words of a command, as VBoxManage has them; `usage`, `importchain` and the commands of guests are this project's own

abbrev pub mode_text : Mode → List ℕ
mode_text Normal = codes "normal"
mode_text Immutable = codes "immutable"
mode_text Writethrough = codes "writethrough"
mode_text MultiAttach = codes "multiattach"
mode_text Readonly = codes "readonly"

-- a place's name: `VM:PORT`, `VM/SNAPSHOT:PORT`, or a medium's name
abbrev pub place_text : PlaceName → List ℕ
place_text (Medium name) = name
place_text (Slot vm port) = vm ++ codes ":" ++ decimal port
place_text (Snap vm snapshot port) = vm ++ codes "/" ++ snapshot ++ codes ":" ++ decimal port

abbrev pub size_words : Size → Words
size_words (Mb n) = codes "--size" ∷ decimal n ∷ []
size_words (Bytes n) = codes "--sizebyte" ∷ decimal n ∷ []

abbrev pub variant_words : Variant → Words
variant_words Standard = []
variant_words Fixed = codes "--variant" ∷ codes "Fixed" ∷ []

abbrev pub delete_words : Bool → Words
delete_words true = codes "--delete" ∷ []
delete_words false = []

abbrev pub switch_text : Bool → List ℕ
switch_text true = codes "on"
switch_text false = codes "off"

abbrev pub words_of : Command → Words
words_of (CreateMedium name size variant) = codes "createmedium" ∷ name ∷ size_words size ++ variant_words variant
words_of (OpenMedium name) = codes "openmedium" ∷ name ∷ []
words_of (CloseMedium name delete) = codes "closemedium" ∷ name ∷ delete_words delete
words_of (SetMode name mode) = codes "modifymedium" ∷ name ∷ codes "--type" ∷ mode_text mode ∷ []
words_of (SetAutoreset vm port on) = codes "modifymedium" ∷ place_text (Slot vm port) ∷ codes "--autoreset" ∷ switch_text on ∷ []
words_of (Compact place) = codes "modifymedium" ∷ place_text place ∷ codes "--compact" ∷ []
words_of (Resize name mb) = codes "modifymedium" ∷ name ∷ codes "--resize" ∷ decimal mb ∷ []
words_of (CloneNew place name) = codes "clonemedium" ∷ place_text place ∷ name ∷ []
words_of (CloneExisting place target) = codes "clonemedium" ∷ place_text place ∷ target ∷ codes "--existing" ∷ []
words_of (ImportChain files name) = codes "importchain" ∷ files ++ name ∷ []
words_of (ShowMediumInfo name) = codes "showmediuminfo" ∷ name ∷ []
words_of (Usage place) = codes "usage" ∷ place_text place ∷ []
words_of ListHdds = codes "list" ∷ codes "hdds" ∷ []
words_of ListVms = codes "list" ∷ codes "vms" ∷ []
words_of (CreateVm name) = codes "createvm" ∷ name ∷ []
words_of (UnregisterVm vm) = codes "unregistervm" ∷ vm ∷ []
words_of (Attach vm port name) = codes "storageattach" ∷ vm ∷ decimal port ∷ name ∷ []
words_of (Detach vm port) = codes "storageattach" ∷ vm ∷ decimal port ∷ codes "none" ∷ []
words_of (StartVm vm) = codes "startvm" ∷ vm ∷ []
words_of (PowerOff vm) = codes "poweroff" ∷ vm ∷ []
words_of (Take vm name) = codes "snapshot" ∷ vm ∷ codes "take" ∷ name ∷ []
words_of (Restore vm snapshot) = codes "snapshot" ∷ vm ∷ codes "restore" ∷ snapshot ∷ []
words_of (RestoreCurrent vm) = codes "snapshot" ∷ vm ∷ codes "restorecurrent" ∷ []
words_of (DeleteSnapshot vm snapshot) = codes "snapshot" ∷ vm ∷ codes "delete" ∷ snapshot ∷ []
words_of (ListSnapshots vm) = codes "snapshot" ∷ vm ∷ codes "list" ∷ []
words_of (Read vm port lba count) = codes "read" ∷ vm ∷ decimal port ∷ decimal lba ∷ decimal count ∷ []
words_of (Write vm port lba bytes) = codes "write" ∷ vm ∷ decimal port ∷ decimal lba ∷ encode_lower bytes ∷ []
words_of (Fill vm port lba count byte) =
    codes "fill" ∷ vm ∷ decimal port ∷ decimal lba ∷ decimal count ∷ encode_lower (byte ∷ []) ∷ []
words_of (Flush vm) = codes "flush" ∷ vm ∷ []

abbrev pub size_number : Size → ℕ
size_number (Mb n) = n
size_number (Bytes n) = n

-- names of media, of machines and of snapshots, and ports
abbrev pub IsMedium : List ℕ → Type 0
IsMedium name = IsTrue (is_medium_name name)

abbrev pub IsShort : List ℕ → Type 0
IsShort name = IsTrue (is_short_name name)

abbrev pub IsPort : ℕ → Type 0
IsPort port = port < PORT_LIMIT

abbrev pub IsSpelledPlace : PlaceName → Type 0
IsSpelledPlace (Medium name) = IsMedium name
IsSpelledPlace (Slot vm port) = IsShort vm × IsPort port
IsSpelledPlace (Snap vm snapshot port) = IsShort vm × IsShort snapshot × IsPort port

-- the numbers of sectors to read or fill
abbrev pub IsCount : ℕ → Type 0
IsCount count = (1 ≤ count) × (count ≤ FILL_LIMIT)

-- the bytes of 1 to 8 sectors
pub record AreSectors (bytes : List ℕ) : Type 0 where
  pub count : ℕ
  pub some : 1 ≤ count
  pub few : count ≤ WRITE_LIMIT
  pub long : length bytes ≡ 512 * count
  pub bytes_are : All (λ b. b < 256) bytes

-- A command that a form can spell: its names, ports, counts and bytes are such, and numbers are below 2^64.
abbrev pub IsSpelled : Command → Type 0
IsSpelled (CreateMedium name size variant) = IsMedium name × (size_number size < 2 ^ 64)
IsSpelled (OpenMedium name) = IsMedium name
IsSpelled (CloseMedium name delete) = IsMedium name
IsSpelled (SetMode name mode) = IsMedium name
IsSpelled (SetAutoreset vm port on) = IsShort vm × IsPort port
IsSpelled (Compact place) = IsSpelledPlace place
IsSpelled (Resize name mb) = IsMedium name × (mb < 2 ^ 64)
IsSpelled (CloneNew place name) = IsSpelledPlace place × IsMedium name
IsSpelled (CloneExisting place target) = IsSpelledPlace place × IsMedium target
IsSpelled (ImportChain files name) = (2 ≤ length files) × (length files ≤ CHAIN_LIMIT) × AllByRecursion IsMedium files × IsMedium name
IsSpelled (ShowMediumInfo name) = IsMedium name
IsSpelled (Usage place) = IsSpelledPlace place
IsSpelled ListHdds = Unit {0}
IsSpelled ListVms = Unit {0}
IsSpelled (CreateVm name) = IsShort name
IsSpelled (UnregisterVm vm) = IsShort vm
IsSpelled (Attach vm port name) = IsShort vm × IsPort port × IsMedium name
IsSpelled (Detach vm port) = IsShort vm × IsPort port
IsSpelled (StartVm vm) = IsShort vm
IsSpelled (PowerOff vm) = IsShort vm
IsSpelled (Take vm name) = IsShort vm × IsShort name
IsSpelled (Restore vm snapshot) = IsShort vm × IsShort snapshot
IsSpelled (RestoreCurrent vm) = IsShort vm
IsSpelled (DeleteSnapshot vm snapshot) = IsShort vm × IsShort snapshot
IsSpelled (ListSnapshots vm) = IsShort vm
IsSpelled (Read vm port lba count) = IsShort vm × IsPort port × (lba < 2 ^ 64) × IsCount count
IsSpelled (Write vm port lba bytes) = IsShort vm × IsPort port × (lba < 2 ^ 64) × AreSectors bytes
IsSpelled (Fill vm port lba count byte) = IsShort vm × IsPort port × (lba < 2 ^ 64) × IsCount count × (byte < 256)
IsSpelled (Flush vm) = IsShort vm

-- words are the form of this command
pub record IsForm (words : Words) (command : Command) : Type 0 where
  pub is : words ≡ words_of command
  pub spelled : IsSpelled command

-- ---- the text of an answer

abbrev pub variant_text : Variant → List ℕ
variant_text Standard = codes "Standard"
variant_text Fixed = codes "Fixed"

-- an identifier in the hyphenated lower-case form (RFC 9562, section 4)
abbrev pub id_text : List ℕ → List ℕ
id_text id = hyphenated_text lower id

-- each word after one space
abbrev pub spaced : Words → List ℕ
spaced [] = []
spaced (word ∷ words) = codes " " ++ word ++ spaced words

-- a list has its count before it
abbrev pub counted_words : Words → Words
counted_words words = decimal (length words) ∷ words

abbrev pub vm_word : VmLine → List ℕ
vm_word line = line.name ++ (if line.running then codes ":running" else codes ":off")

-- a name, or `-` for none
abbrev pub name_word : Option (List ℕ) → List ℕ
name_word None = codes "-"
name_word (Some name) = name

abbrev pub snapshot_word : SnapLine → List ℕ
snapshot_word line = line.name ++ codes ":" ++ name_word line.parent

abbrev pub which_text : Which → List ℕ
which_text Media = codes "media"
which_text Machines = codes "machines"
which_text Snapshots = codes "snapshots"
which_text Places = codes "places"

-- a refusal has a number of two digits and a name
abbrev pub refusal_text : Refusal → List ℕ
refusal_text BadLine = codes "error 01 BadLine"
refusal_text NoSuchMedium = codes "error 02 NoSuchMedium"
refusal_text NoSuchMachine = codes "error 03 NoSuchMachine"
refusal_text NoSuchSnapshot = codes "error 04 NoSuchSnapshot"
refusal_text NoSuchSlot = codes "error 05 NoSuchSlot"
refusal_text NameTaken = codes "error 06 NameTaken"
refusal_text FileExists = codes "error 07 FileExists"
refusal_text NoSuchFile = codes "error 08 NoSuchFile"
refusal_text (NotAnImage k) = codes "error 09 NotAnImage " ++ decimal k
refusal_text DuplicateId = codes "error 10 DuplicateId"
refusal_text ForeignId = codes "error 11 ForeignId"
refusal_text InUse = codes "error 12 InUse"
refusal_text Frozen = codes "error 13 Frozen"
refusal_text Running = codes "error 14 Running"
refusal_text NotRunning = codes "error 15 NotRunning"
refusal_text Locked = codes "error 16 Locked"
refusal_text SharedMedium = codes "error 17 SharedMedium"
refusal_text SlotTaken = codes "error 18 SlotTaken"
refusal_text AlreadyAttached = codes "error 19 AlreadyAttached"
refusal_text OutOfRange = codes "error 20 OutOfRange"
refusal_text WriteProtected = codes "error 21 WriteProtected"
refusal_text (HasChildren n) = codes "error 22 HasChildren " ++ decimal n
refusal_text Shrinks = codes "error 23 Shrinks"
refusal_text BadSize = codes "error 24 BadSize"
refusal_text WrongKind = codes "error 25 WrongKind"
refusal_text (Full which) = codes "error 26 Full " ++ which_text which
refusal_text IdsSpent = codes "error 27 IdsSpent"
refusal_text (BrokenChain i) = codes "error 28 BrokenChain " ++ decimal i
refusal_text TooSmall = codes "error 29 TooSmall"
refusal_text NoCurrent = codes "error 30 NoCurrent"

-- the words of an accepted answer behind `ok`
abbrev pub info_words : List ℕ → List ℕ → Mode → Variant → ℕ → Bool → Words
info_words id modify mode variant capacity frozen =
    id_text id ∷ id_text modify ∷ mode_text mode ∷ variant_text variant ∷ decimal capacity
    ∷ (if frozen then codes "frozen" else codes "free") ∷ []

-- the text of an answer, without the newline that ends its line
abbrev pub text_of : Answer → List ℕ
text_of Done = codes "ok"
text_of (Id id) = codes "ok" ++ spaced (id_text id ∷ [])
text_of (Info id modify mode variant capacity frozen) = codes "ok" ++ spaced (info_words id modify mode variant capacity frozen)
text_of (Count n) = codes "ok" ++ spaced (decimal n ∷ [])
text_of (MediaList names) = codes "ok" ++ spaced (counted_words names)
text_of (VmList lines) = codes "ok" ++ spaced (counted_words (map vm_word lines))
text_of (SnapList current lines) = codes "ok" ++ spaced (name_word current ∷ counted_words (map snapshot_word lines))
text_of (Sectors bytes) = codes "ok" ++ spaced (encode_lower bytes ∷ [])
text_of (Refused refusal) = refusal_text refusal

-- the line of an answer
abbrev pub line_of : Answer → List ℕ
line_of answer = text_of answer ++ codes "\n"
