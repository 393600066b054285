-- How the state of a disk goes on over several calls.
use Rattle.std.proofs.Common.{◌∙◌, ◌≤◌, ℕ, refl, arith, inl, inr, ⊎_elim}
use Rattle.vbm_ports.specs.Files.{Files}
use Rattle.vbm_ports.specs.Disk.{DiskState, Passes, OnlyReads}

-- before the first call
pub Passes-refl : (state : DiskState) (P : Files → Type 0) → Passes state state P
Passes-refl state P = record { later = omega arith; only = λ t image le left. inl left; keeps = λ t image le left. left }

-- one stretch after another
pub Passes-trans : (old mid new : DiskState) (P Q R : Files → Type 0) → Passes old mid P → Passes mid new Q
    → ((image : Files) → P image → R image) → ((image : Files) → Q image → R image) → Passes old new R
Passes-trans old mid new P Q R first second at_first at_second = record {
  later = omega (arith, first.later, second.later);
  only = λ t image le left. ⊎_elim (λ before. ⊎_elim (λ (was : old.left_since t image). inl was) (λ now. inr (at_first image now)) (first.only t image le before)) (λ now. inr (at_second image now)) (second.only t image (omega (arith, le, first.later)) left);
  keeps = λ t image le left. second.keeps t image (omega (arith, le, first.later)) (first.keeps t image le left);
}

-- a stretch of which less is said
pub Passes-weaker : (old new : DiskState) (P R : Files → Type 0) → Passes old new P → ((image : Files) → P image → R image) → Passes old new R
Passes-weaker old new P R first at_first = record {
  later = first.later;
  only = λ t image le left. ⊎_elim (λ was. inl was) (λ now. inr (at_first image now)) (first.only t image le left);
  keeps = first.keeps;
}

-- before the first read
pub OnlyReads-refl : (tells : Type 0) (state : DiskState) → OnlyReads tells state state
OnlyReads-refl tells state = record {
  files = λ told. refl;
  images = λ image now. now;
  time = Passes-refl state state.may_leave;
  calls = omega arith;
  faults = omega arith;
}

-- one read after another
pub OnlyReads-trans : (tells : Type 0) (old mid new : DiskState) → OnlyReads tells old mid → OnlyReads tells mid new → OnlyReads tells old new
OnlyReads-trans tells old mid new first second = record {
  files = λ told. second.files told ∙ first.files told;
  images = λ image now. first.images image (second.images image now);
  time = Passes-trans old mid new old.may_leave mid.may_leave old.may_leave first.time second.time (λ image now. now) first.images;
  calls = omega (arith, first.calls, second.calls);
  faults = omega (arith, first.faults, second.faults);
}

-- a call that changed the counts alone
pub OnlyReads-counts : (tells : Type 0) (old : DiskState) (calls faults : ℕ) → old.calls ≤ calls → old.faults ≤ faults
    → OnlyReads tells old (record old { calls = calls; faults = faults })
OnlyReads-counts tells old calls faults more_calls more_faults = record {
  files = λ told. refl;
  images = λ image now. now;
  time = record { later = omega arith; only = λ t image le left. inl left; keeps = λ t image le left. left };
  calls = more_calls;
  faults = more_faults;
}
