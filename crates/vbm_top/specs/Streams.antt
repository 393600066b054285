-- A source and a sink over some calls.
use Rattle.std.specs.Prelude.{ℕ, true, false, List}
use Rattle.vbm_ports.specs.Counts.{IsCounted}

-- A stream at one moment: the bytes that a source has left or that a sink got, and how many calls failed.
pub record Moment : Type 0 where
  pub bytes : List ℕ
  pub faults : ℕ

-- A stream over some calls: whether it tells its bytes, and what it was before and is now.
pub record Stream : Type 1 where
  pub tells : Type 0
  pub was : Moment
  pub now : Moment

-- what a run reads and writes
pub record Streams : Type 1 where
  pub source : Stream
  pub sink : Stream

abbrev pub stream : {S : Type 0} → Type 0 → (S → List ℕ) → (S → ℕ) → S → S → Stream
stream tells bytes faults was now = record {
  tells = tells;
  was = record { bytes = bytes was; faults = faults was };
  now = record { bytes = bytes now; faults = faults now };
}

abbrev pub streams : Stream → Stream → Streams
streams source sink = record { source = source; sink = sink }

-- no call of the stream failed, and its bytes are so, if it tells them
abbrev pub Works : Stream → Type 0 → Type 0
Works s P = (s.tells → P) × IsCounted false s.was.faults s.now.faults

-- a call of the stream failed, and its bytes are so, if it tells them
abbrev pub Fails : Stream → Type 0 → Type 0
Fails s P = (s.tells → P) × IsCounted true s.was.faults s.now.faults
