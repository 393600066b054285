-- A script over the store that a disk holds.
use Rattle.std.proofs.Common.{◌≡◌, ◌⊎◌, ℕ, List, [], length, Ok, Err, refl, arith, inl, inr}
use Rattle.vbm_ports.specs.Files.{Files}
use Rattle.vbm_ports.specs.Disk.{DiskState, Passes, OnlyReads, IsCoherent}
use Rattle.vbm_ports.proofs.States.{Passes-trans, Passes-weaker}
use Rattle.vbm_world.specs.World.{World}
use Rattle.vbm_registry.specs.declared.fault.BadStore.{BadStore}
use Rattle.vbm_standing.specs.Stands.{Stands}
use Rattle.vbm_engine.specs.declared.engine.Engine.{Engine}
use Rattle.vbm_engine.specs.declared.engine.Opened.{Opened}
use Rattle.vbm_engine.specs.declared.engine.Opened.TheVariants.{Open, Refused, Fault}
use Rattle.vbm_engine.specs.declared.engine.Opened.TheVariants as opened
use Rattle.vbm_engine.specs.Opens.{AreRedone, StandsAlike, SyncsFirst}
use Rattle.vbm_engine.proofs.Openings.{syncs_goes_on, opened_synced}
use Rattle.vbm_top.specs.declared.status.Status.{Status}
use Rattle.vbm_top.specs.declared.status.Status.TheVariants.{DiskFault, NoMemory, StoreRefused}
use Rattle.vbm_top.specs.Streams.{Streams}
use Rattle.vbm_top.specs.Run.{store_line, IsSilent, Says}
use Rattle.vbm_top.specs.Script.{IsUnread, ran, faulty, unopened, unanswered, IsInScript, RunsScript, RunsLines}
use Rattle.vbm_top.proofs.Syncs.{syncs_or_fails}

-- the images of an opening
abbrev Opening : DiskState → DiskState → Type 0
Opening old mid = Passes old mid (λ image. old.may_leave image ⊎ StandsAlike old.files image)

-- what comes of its sync
abbrev pub Synced : Type 0 → DiskState → DiskState → Opened → Type 0
Synced tells old mid result = SyncsFirst old mid (StandsAlike old.files) ⊎ ((result ≡ Fault) × OnlyReads tells old mid)

module _ (given : Type 0) (most : ℕ) (input : List ℕ) (old : DiskState) (n : ℕ) where
  in_script : (image : Files) → old.may_leave image ⊎ StandsAlike old.files image
      → old.may_leave image ⊎ IsInScript given most old.files input n image
  in_script image (inl before) = inl before
  in_script image (inr alike) = inr (inl alike)

-- a run that did no more than open
module _ (given : Type 0) (most : ℕ) (input : List ℕ) (old mid : DiskState) where
  abbrev InScript : Files → Type 0
  InScript = IsInScript given most old.files input 0

  only_opened : Opening old mid → Passes old mid (λ image. old.may_leave image ⊎ InScript image)
  only_opened opening = Passes-weaker old mid _ _ opening (in_script given most input old 0)

-- the store opened, and its lines were run
pub opened_script : {tells : Type 0} {most : ℕ} {io : Streams} {old mid new : DiskState} {status : Status} {world : World} (e : Engine)
    → (tells → Stands old.files (Ok world)) → (tells → Opening old mid) → (tells → Synced tells old mid (Open e))
    → RunsLines tells most old.files world mid new io status → RunsScript tells most old new io status
opened_script {most = most} {io = io} {old = old} {mid = mid} {new = new} {world = world} e stood opening synced lines = record {
  out = lines.out;
  ends = ran lines.ends;
  any_moment = λ t. Passes-trans old mid new _ _ _ (opening t) (lines.any_moment t)
      (in_script io.source.tells most io.source.was.bytes old (length lines.out)) (λ image is. inr (inr (world, stood t, is)));
  synced = λ t. inl (syncs_goes_on old mid new _ _ _ (opened_synced e (synced t)) (lines.any_moment t) (λ image alike. inl alike)
      (λ image is. inr (world, stood t, is)));
}

module _ {tells : Type 0} {most : ℕ} {io : Streams} {old mid : DiskState} (unread : IsUnread io.source) (opening : tells → Opening old mid) where
  pub refused_script : {status : Status} (bad : BadStore) → (tells → Stands old.files (Err bad) × AreRedone old.files mid.files)
      → (tells → Synced tells old mid (Refused bad)) → Says io.sink (store_line bad) StoreRefused status → RunsScript tells most old mid io status
  refused_script {status = status} bad is synced says = record {
    out = [];
    ends = faulty bad is unread refl says;
    any_moment = λ t. only_opened io.source.tells most io.source.was.bytes old mid (opening t);
    synced = λ t. syncs_or_fails (λ image alike. inl alike) (λ fault. absurd cc) (synced t);
  }

  pub unopened_script : IsCoherent tells old → IsCoherent tells mid → (tells → Synced tells old mid Fault) → IsSilent io.sink
      → RunsScript tells most old mid io DiskFault
  unopened_script laws laws2 synced silence = record {
    out = [];
    ends = unopened images unread refl silence refl;
    any_moment = λ t. only_opened io.source.tells most io.source.was.bytes old mid (opening t);
    synced = λ t. syncs_or_fails (λ image alike. inl alike) (λ fault. refl) (synced t);
  }
    where
      images : tells → (image : Files) → mid.may_leave image → old.may_leave image ⊎ StandsAlike old.files image
      images t image may = elim ((opening t).only old.moment image (omega arith) (laws2.counts_now old.moment image (opening t).later may)) [
        | inl before ↦ inl (laws.only_now image before)
        | inr is ↦ is
      ]

  pub forgotten_script : (tells → StandsAlike old.files mid.files × AreRedone old.files mid.files)
      → (tells → Synced tells old mid opened.NoMemory) → IsSilent io.sink
      → RunsScript tells most old mid io NoMemory
  forgotten_script alike synced silence = record {
    out = [];
    ends = unanswered alike unread refl silence refl;
    any_moment = λ t. only_opened io.source.tells most io.source.was.bytes old mid (opening t);
    synced = λ t. syncs_or_fails (λ image alike. inl alike) (λ fault. absurd cc) (synced t);
  }
