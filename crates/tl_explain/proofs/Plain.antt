-- Facts of tests and of options.
use Rattle.std.proofs.Common.{◌≡◌, ℕ, ◌==◌, ◌&&◌, true, false, Bool, not, refl, arith}
use Rattle.std.specs.Prelude.{Some}
use Rattle.tl_beat.specs.declared.beat.Beat.{Beat}
use Rattle.tl_beat.specs.declared.beat.Beat.TheVariants as beat
use Rattle.tl_beat.specs.statement.Control.{control_of, has_control}
use Rattle.tl_burst.specs.statement.Messages.{same_control}

pub is_one : {A : Type 0} {x y : A} → Some x ≡ Some y → x ≡ y
is_one e = cc

pub both_true : (a b : Bool) → (a && b) ≡ true → (a ≡ true) × (b ≡ true)
both_true true b e = (refl, e)
both_true false b e = absurd cc

pub not_true : (b : Bool) → not b ≡ true → b ≡ false
not_true true e = absurd cc
not_true false e = refl

pub same_true : (a b : ℕ) → a ≡ b → (a == b) ≡ true
same_true a b e = grind arith

-- a beat has the control fields of another
pub same_test : {w : ℕ} (x y : Beat w) → has_control x (control_of y) ≡ same_control x y
same_test (beat.A x) (beat.A y) = refl
same_test (beat.A x) (beat.B y) = refl
same_test (beat.A x) (beat.C y) = refl
same_test (beat.A x) (beat.D y) = refl
same_test (beat.A x) (beat.E y) = refl
same_test (beat.B x) (beat.A y) = refl
same_test (beat.B x) (beat.B y) = refl
same_test (beat.B x) (beat.C y) = refl
same_test (beat.B x) (beat.D y) = refl
same_test (beat.B x) (beat.E y) = refl
same_test (beat.C x) (beat.A y) = refl
same_test (beat.C x) (beat.B y) = refl
same_test (beat.C x) (beat.C y) = refl
same_test (beat.C x) (beat.D y) = refl
same_test (beat.C x) (beat.E y) = refl
same_test (beat.D x) (beat.A y) = refl
same_test (beat.D x) (beat.B y) = refl
same_test (beat.D x) (beat.C y) = refl
same_test (beat.D x) (beat.D y) = refl
same_test (beat.D x) (beat.E y) = refl
same_test (beat.E x) (beat.A y) = refl
same_test (beat.E x) (beat.B y) = refl
same_test (beat.E x) (beat.C y) = refl
same_test (beat.E x) (beat.D y) = refl
same_test (beat.E x) (beat.E y) = refl
