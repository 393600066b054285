-- The first sync of a run.
use Rattle.std.proofs.Common.{◌≡◌, ◌⊎◌, inl, inr}
use Rattle.vbm_ports.specs.Files.{Files}
use Rattle.vbm_ports.specs.Disk.{DiskState, OnlyReads}
use Rattle.vbm_engine.specs.Opens.{SyncsFirst}
use Rattle.vbm_top.specs.declared.status.Status.{Status}
use Rattle.vbm_top.specs.declared.status.Status.TheVariants.{DiskFault}
use Rattle.vbm_top.specs.Run.{SyncsOrFails}

-- A sync came first, and what has P has R; or nothing was done but reading, for a reason that the status tells.
pub syncs_or_fails : {tells reason : Type 0} {P R : Files → Type 0} {old new : DiskState} {status : Status}
    → ((image : Files) → P image → R image) → (reason → status ≡ DiskFault)
    → SyncsFirst old new P ⊎ (reason × OnlyReads tells old new) → SyncsOrFails tells old new status R
syncs_or_fails weaker told (inl first) = inl (record { later = first.later; since = λ image left. weaker image (first.since image left) })
syncs_or_fails weaker told (inr fails) = inr (inl (told fails.0), fails.1)
