-- Facts on the outcome of a call.
use Rattle.std.specs.Prelude.{Result, Ok, Err, OnOk, OnErr, IfOk, IsOk, is_err, false, ◌≡◌, ◌↔◌, ◌⊎◌, refl}
use Rattle.std.proofs.Common.{inl, inr}

-- a weaker fact on success
pub OnOk-map : {T E : Type 0} (r : Result T E) {P Q : Type 0} → (P → Q) → OnOk r P → OnOk r Q
OnOk-map (Ok value) f holds = f holds
OnOk-map (Err error) f holds = tt

-- a weaker fact on failure
pub OnErr-map : {T E : Type 0} (r : Result T E) {P Q : Type 0} → (P → Q) → OnErr r P → OnErr r Q
OnErr-map (Ok value) f holds = tt
OnErr-map (Err error) f holds = f holds

-- a weaker fact on a value
pub IfOk-map : {T E : Type 0} (r : Result T E) {P Q : T → Type 0} → ((value : T) → P value → Q value) → IfOk r P → IfOk r Q
IfOk-map (Ok value) f holds = f value holds
IfOk-map (Err error) f holds = tt

-- either way
pub either_way : {T E : Type 0} (r : Result T E) {P P' Q Q' R : Type 0} → (P → P' → R) → (Q → Q' → R) → OnOk r P → OnOk r P' → OnErr r Q → OnErr r Q' → R
either_way (Ok value) f g ok ok_too err err_too = f ok ok_too
either_way (Err error) f g ok ok_too err err_too = g err err_too

-- success of one is success of the other
pub OnOk-along : {T E U F : Type 0} (r : Result T E) (o : Result U F) (P : Type 0) → IsOk r ↔ IsOk o → OnOk o P → OnOk r P
OnOk-along (Ok value) (Ok other) P same holds = holds
OnOk-along (Ok value) (Err other) P same holds = absurd (cc (same.0 refl))
OnOk-along (Err error) o P same holds = tt

-- either one, or on failure two
pub one_or_two : {T E U F : Type 0} (r : Result T E) (o : Result U F) {P Q R : Type 0} → IsOk r ↔ IsOk o → OnOk r P → OnErr r Q → OnErr o R → P ⊎ (Q × R)
one_or_two (Ok value) o same ok err other = inl ok
one_or_two (Err error) (Ok other) same ok err holds = absurd (cc (same.1 refl))
one_or_two (Err error) (Err other) same ok err holds = inr (err, holds)

-- what is known on success
pub on_success : {T E : Type 0} (r : Result T E) (P : Type 0) → is_err r ≡ false → OnOk r P → P
on_success (Ok value) P is holds = holds
on_success (Err error) P is holds = absurd (cc is)
