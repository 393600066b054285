-- The shape of media (VBoxManage modifymedium --compact, --resize), and how much of an image is used.
use Rattle.std.specs.Prelude.{ℕ, ◌/◌, ◌^◌, ◌&&◌, ◌||◌, not, nat_lt, Bool, List, [], ◌∷◌}
use Rattle.std.specs.List.{list_any}
use Rattle.std.specs.Option.{option_map}
use Rattle.std.specs.Str.{bytes_eq}
use Rattle.vbm_modes.specs.Modes.{is_writable}
use Rattle.vbm_world.specs.declared.command.PlaceName.{PlaceName}
use Rattle.vbm_world.specs.declared.command.Answer.TheVariants.{Done, Count}
use Rattle.vbm_world.specs.declared.command.Refusal.TheVariants.{NoSuchMedium, Frozen, Running, WriteProtected, Shrinks, BadSize, WrongKind}
use Rattle.vbm_world.specs.declared.world.WorldMedium.{WorldMedium}
use Rattle.vbm_world.specs.declared.world.WorldSlot.{WorldSlot}
use Rattle.vbm_world.specs.declared.world.WorldSnapshot.{WorldSnapshot}
use Rattle.vbm_world.specs.declared.world.WorldMachine.{WorldMachine}
use Rattle.vbm_named.specs.Names.{Name}
use Rattle.vbm_world.specs.World.{World, medium_of, has_own, is_in_run}
use Rattle.vbm_world.specs.Places.{Place, find_place, with_medium}
use Rattle.vbm_world.specs.Refusals.{Check}
use Rattle.vbm_world.specs.Outcomes.{Outcome, unless_refused, found_or, sought_or}
use Rattle.vbm_world.specs.Clones.{is_fixed, padded}

-- ---- modifymedium PLACE --compact

abbrev pub compact_checks : World → Place → List Check
compact_checks w place =
    (is_in_run w place.medium.name, Running)
    ∷ (not (is_writable place.medium.mode), WriteProtected)
    ∷ (is_fixed place.medium.variant && place.is_base, WrongKind)
    ∷ []

-- Room that holds nothing is given back. No disk changes.
abbrev pub compact : World → PlaceName → Outcome
compact w place = sought_or w (find_place w place) (λ p. unless_refused w (compact_checks w p) (Done, w))

-- ---- modifymedium NAME --resize

-- slots have their own disks of the medium
abbrev pub has_own_of : Name → List WorldSlot → Bool
has_own_of name slots = list_any (λ (s : WorldSlot). has_own s && bytes_eq s.medium name) slots

-- some slot or snapshot has its own disk of the medium
abbrev pub is_built_on : World → Name → Bool
is_built_on w name = list_any (λ (m : WorldMachine).
    has_own_of name m.slots || list_any (λ (s : WorldSnapshot). has_own_of name s.slots) m.snapshots) w.machines

abbrev pub resize_checks : World → WorldMedium → (capacity : ℕ) → List Check
resize_checks w m capacity =
    (is_built_on w m.name, Frozen)
    ∷ (is_in_run w m.name, Running)
    ∷ (not (is_writable m.mode), WriteProtected)
    ∷ (nat_lt capacity m.capacity, Shrinks)
    ∷ (nat_lt (2 ^ 41) capacity, BadSize)
    ∷ (is_fixed m.variant, WrongKind)
    ∷ []

abbrev pub enlarged : ℕ → WorldMedium → WorldMedium
enlarged capacity m = record m { capacity = capacity; flat = option_map (padded (capacity / 512)) m.flat }

-- Zeros are appended to the disk.
abbrev pub resize : World → Name → (capacity : ℕ) → Outcome
resize w name capacity =
    found_or w NoSuchMedium (medium_of w name) (λ m.
    unless_refused w (resize_checks w m capacity) (Done, with_medium w name (enlarged capacity)))

-- ---- usage

-- How many blocks of the place's image have data is not the machine's to know: the number is given.
abbrev pub usage : World → PlaceName → (number : ℕ) → Outcome
usage w place number = sought_or w (find_place w place) (λ _. (Count number, w))
