-- The codes of opcodes, and opcodes with a code.
use Rattle.std.proofs.Common.{◌≡◌, ℕ, ◌*◌, ◌/◌, ◌^◌, Bool, true, false, cond, List}
use Rattle.std.proofs.Common.{[], ◌∷◌}
use Rattle.std.proofs.Common.{refl, sym, ap, ◌∙◌}
use Rattle.std.proofs.lemmas.Bool.{eqb-true}
use Rattle.std.specs.Prelude.{Some, ◌==◌}
use Rattle.std.specs.List.{find}
use Rattle.tl_beat.specs.declared.opcode.OpA.{OpA}
use Rattle.tl_beat.specs.declared.opcode.OpA.TheVariants as a
use Rattle.tl_beat.specs.declared.opcode.OpB.{OpB}
use Rattle.tl_beat.specs.declared.opcode.OpB.TheVariants as b
use Rattle.tl_beat.specs.declared.opcode.OpC.{OpC}
use Rattle.tl_beat.specs.declared.opcode.OpC.TheVariants as c
use Rattle.tl_beat.specs.declared.opcode.OpD.{OpD}
use Rattle.tl_beat.specs.declared.opcode.OpD.TheVariants as d
use Rattle.tl_beat.specs.statement.Opcode.{a_code, b_code, c_code, d_code, a_opcodes, b_opcodes, c_opcodes, d_opcodes}
use Rattle.tl_beat.specs.statement.Opcode.{a_with, b_with, c_with, d_with}

pub find-passes : {X : Type 0} (test : X → Bool) (xs : List X) (x : X) → find test xs ≡ Some x → test x ≡ true
find-passes test [] x e = absurd cc
find-passes {X} test (y ∷ ys) x e = go (test y) refl e (λ f. find-passes test ys x f)
  where
    go : (b : Bool) → test y ≡ b → cond b (Some y) (find test ys) ≡ Some x → (find test ys ≡ Some x → test x ≡ true)
        → test x ≡ true
    go true h f more = let same : y ≡ x = cc in ap test (sym same) ∙ h
    go false h f more = more f

pub a_with-code : (opcode : OpA) → a_with (a_code opcode) ≡ Some opcode
a_with-code a.PutFullData = refl
a_with-code a.PutPartialData = refl
a_with-code a.ArithmeticData = refl
a_with-code a.LogicalData = refl
a_with-code a.Get = refl
a_with-code a.Intent = refl
a_with-code a.AcquireBlock = refl
a_with-code a.AcquirePerm = refl

pub a_code-digit : (opcode : OpA) → 0 ≡ a_code opcode / 2 ^ (4 * 1)
a_code-digit a.PutFullData = refl
a_code-digit a.PutPartialData = refl
a_code-digit a.ArithmeticData = refl
a_code-digit a.LogicalData = refl
a_code-digit a.Get = refl
a_code-digit a.Intent = refl
a_code-digit a.AcquireBlock = refl
a_code-digit a.AcquirePerm = refl

pub a_code-with : (code : ℕ) (opcode : OpA) → a_with code ≡ Some opcode → a_code opcode ≡ code
a_code-with code opcode e = eqb-true (a_code opcode) code (find-passes (λ o. a_code o == code) a_opcodes opcode e)

pub b_with-code : (opcode : OpB) → b_with (b_code opcode) ≡ Some opcode
b_with-code b.PutFullData = refl
b_with-code b.PutPartialData = refl
b_with-code b.ArithmeticData = refl
b_with-code b.LogicalData = refl
b_with-code b.Get = refl
b_with-code b.Intent = refl
b_with-code b.ProbeBlock = refl
b_with-code b.ProbePerm = refl

pub b_code-digit : (opcode : OpB) → 0 ≡ b_code opcode / 2 ^ (4 * 1)
b_code-digit b.PutFullData = refl
b_code-digit b.PutPartialData = refl
b_code-digit b.ArithmeticData = refl
b_code-digit b.LogicalData = refl
b_code-digit b.Get = refl
b_code-digit b.Intent = refl
b_code-digit b.ProbeBlock = refl
b_code-digit b.ProbePerm = refl

pub b_code-with : (code : ℕ) (opcode : OpB) → b_with code ≡ Some opcode → b_code opcode ≡ code
b_code-with code opcode e = eqb-true (b_code opcode) code (find-passes (λ o. b_code o == code) b_opcodes opcode e)

pub c_with-code : (opcode : OpC) → c_with (c_code opcode) ≡ Some opcode
c_with-code c.AccessAck = refl
c_with-code c.AccessAckData = refl
c_with-code c.HintAck = refl
c_with-code c.ProbeAck = refl
c_with-code c.ProbeAckData = refl
c_with-code c.Release = refl
c_with-code c.ReleaseData = refl

pub c_code-digit : (opcode : OpC) → 0 ≡ c_code opcode / 2 ^ (4 * 1)
c_code-digit c.AccessAck = refl
c_code-digit c.AccessAckData = refl
c_code-digit c.HintAck = refl
c_code-digit c.ProbeAck = refl
c_code-digit c.ProbeAckData = refl
c_code-digit c.Release = refl
c_code-digit c.ReleaseData = refl

pub c_code-with : (code : ℕ) (opcode : OpC) → c_with code ≡ Some opcode → c_code opcode ≡ code
c_code-with code opcode e = eqb-true (c_code opcode) code (find-passes (λ o. c_code o == code) c_opcodes opcode e)

pub d_with-code : (opcode : OpD) → d_with (d_code opcode) ≡ Some opcode
d_with-code d.AccessAck = refl
d_with-code d.AccessAckData = refl
d_with-code d.HintAck = refl
d_with-code d.Grant = refl
d_with-code d.GrantData = refl
d_with-code d.ReleaseAck = refl

pub d_code-digit : (opcode : OpD) → 0 ≡ d_code opcode / 2 ^ (4 * 1)
d_code-digit d.AccessAck = refl
d_code-digit d.AccessAckData = refl
d_code-digit d.HintAck = refl
d_code-digit d.Grant = refl
d_code-digit d.GrantData = refl
d_code-digit d.ReleaseAck = refl

pub d_code-with : (code : ℕ) (opcode : OpD) → d_with code ≡ Some opcode → d_code opcode ≡ code
d_code-with code opcode e = eqb-true (d_code opcode) code (find-passes (λ o. d_code o == code) d_opcodes opcode e)
