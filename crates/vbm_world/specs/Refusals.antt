-- Refusals: first the named things of a command are looked up, from left to right, and the first that is missing is the answer.
-- Then of the conditions that hold, that with the least number is.
use Rattle.std.specs.Prelude.{ℕ, ◌^◌, ◌+◌, ◌*◌, ◌%◌, ◌==◌, ◌||◌, not, nat_lt, nat_le, Bool, if◌then◌else◌, List, [], ◌∷◌, length, sum_by, Option, Some, None, is_some}
use Rattle.vbm_ids.specs.declared.TheConstants.{NUMBER_LIMIT}
use Rattle.vbm_world.specs.declared.limits.TheConstants.{MEDIA_LIMIT}
use Rattle.vbm_world.specs.declared.command.Refusal.{Refusal}
use Rattle.vbm_world.specs.declared.command.Size.{Size}
use Rattle.vbm_world.specs.declared.command.Size.TheVariants.{Mb, Bytes}
use Rattle.vbm_world.specs.declared.world.WorldSnapshot.{WorldSnapshot}
use Rattle.vbm_world.specs.declared.world.WorldMachine.{WorldMachine}
use Rattle.vbm_named.specs.Names.{Name}
use Rattle.vbm_world.specs.World.{World, medium_of}

-- a condition, and the refusal that comes where it holds
abbrev pub Check : Type 0
Check = Bool × Refusal

abbrev pub first_refusal : List Check → Option Refusal
first_refusal [] = None
first_refusal (check ∷ checks) = if check.0 then Some check.1 else first_refusal checks

-- the capacity in bytes that a size asks for; a megabyte has 2^20
abbrev pub capacity_of : Size → ℕ
capacity_of (Mb n) = n * 2 ^ 20
capacity_of (Bytes n) = n

-- A capacity is a multiple of 512, from 512 bytes to 2^41.
abbrev pub is_bad_size : ℕ → Bool
is_bad_size n = (n == 0) || nat_lt (2 ^ 41) n || not (n % 512 == 0)

abbrev pub is_medium : World → Name → Bool
is_medium w name = is_some (medium_of w name)

-- there may be no more media
abbrev pub is_full : World → Bool
is_full w = nat_le MEDIA_LIMIT (length w.media)

-- the last identifier of media is drawn
abbrev pub is_spent : World → Bool
is_spent w = nat_le NUMBER_LIMIT w.next

-- so many numbers are not left of a counter
abbrev pub is_short : (counter drawn : ℕ) → Bool
is_short counter drawn = nat_lt NUMBER_LIMIT (counter + drawn)

-- how many snapshots the machines have
abbrev pub snapshots_in : World → ℕ
snapshots_in w = sum_by (λ (m : WorldMachine). length m.snapshots) w.machines

-- how many places the snapshots have
abbrev pub places_of : WorldMachine → ℕ
places_of m = sum_by (λ (s : WorldSnapshot). length s.slots) m.snapshots

abbrev pub places_in : World → ℕ
places_in w = sum_by places_of w.machines
