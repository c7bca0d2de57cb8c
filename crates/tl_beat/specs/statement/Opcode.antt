-- The opcodes of each channel: their codes, and whether their beats carry data.
use Rattle.std.specs.Prelude.{Bool, true, false, ℕ, List, [], ◌∷◌, Option, ◌==◌}
use Rattle.std.specs.List.{find}
use Rattle.tl_beat.specs.declared.opcode.OpA.{OpA}
use Rattle.tl_beat.specs.declared.opcode.OpA.TheVariants as a
use Rattle.tl_beat.specs.declared.opcode.OpB.{OpB}
use Rattle.tl_beat.specs.declared.opcode.OpB.TheVariants as b
use Rattle.tl_beat.specs.declared.opcode.OpC.{OpC}
use Rattle.tl_beat.specs.declared.opcode.OpC.TheVariants as c
use Rattle.tl_beat.specs.declared.opcode.OpD.{OpD}
use Rattle.tl_beat.specs.declared.opcode.OpD.TheVariants as d

-- the codes of the opcodes of channel A, by the specification's message table
abbrev pub a_code : OpA → ℕ
a_code a.PutFullData = 0
a_code a.PutPartialData = 1
a_code a.ArithmeticData = 2
a_code a.LogicalData = 3
a_code a.Get = 4
a_code a.Intent = 5
a_code a.AcquireBlock = 6
a_code a.AcquirePerm = 7

-- a message of this opcode carries data on channel A
abbrev pub a_carries_data : OpA → Bool
a_carries_data a.PutFullData = true
a_carries_data a.PutPartialData = true
a_carries_data a.ArithmeticData = true
a_carries_data a.LogicalData = true
a_carries_data _ = false

-- the codes of the opcodes of channel B, by the specification's message table
abbrev pub b_code : OpB → ℕ
b_code b.PutFullData = 0
b_code b.PutPartialData = 1
b_code b.ArithmeticData = 2
b_code b.LogicalData = 3
b_code b.Get = 4
b_code b.Intent = 5
b_code b.ProbeBlock = 6
b_code b.ProbePerm = 7

-- a message of this opcode carries data on channel B
abbrev pub b_carries_data : OpB → Bool
b_carries_data b.PutFullData = true
b_carries_data b.PutPartialData = true
b_carries_data b.ArithmeticData = true
b_carries_data b.LogicalData = true
b_carries_data _ = false

-- the codes of the opcodes of channel C, by the specification's message table
abbrev pub c_code : OpC → ℕ
c_code c.AccessAck = 0
c_code c.AccessAckData = 1
c_code c.HintAck = 2
c_code c.ProbeAck = 4
c_code c.ProbeAckData = 5
c_code c.Release = 6
c_code c.ReleaseData = 7

-- a message of this opcode carries data on channel C
abbrev pub c_carries_data : OpC → Bool
c_carries_data c.AccessAckData = true
c_carries_data c.ProbeAckData = true
c_carries_data c.ReleaseData = true
c_carries_data _ = false

-- the codes of the opcodes of channel D, by the specification's message table
abbrev pub d_code : OpD → ℕ
d_code d.AccessAck = 0
d_code d.AccessAckData = 1
d_code d.HintAck = 2
d_code d.Grant = 4
d_code d.GrantData = 5
d_code d.ReleaseAck = 6

-- a message of this opcode carries data on channel D
abbrev pub d_carries_data : OpD → Bool
d_carries_data d.AccessAckData = true
d_carries_data d.GrantData = true
d_carries_data _ = false

-- ---- the opcode with a code

-- the opcodes that are in use on channel A
abbrev pub a_opcodes : List OpA
a_opcodes = a.PutFullData ∷ a.PutPartialData ∷ a.ArithmeticData ∷ a.LogicalData ∷ a.Get ∷ a.Intent ∷ a.AcquireBlock
    ∷ a.AcquirePerm ∷ []

-- the opcode with this code on channel A, if one is in use
abbrev pub a_with : ℕ → Option OpA
a_with code = find (λ opcode. a_code opcode == code) a_opcodes

-- the opcodes that are in use on channel B
abbrev pub b_opcodes : List OpB
b_opcodes = b.PutFullData ∷ b.PutPartialData ∷ b.ArithmeticData ∷ b.LogicalData ∷ b.Get ∷ b.Intent ∷ b.ProbeBlock
    ∷ b.ProbePerm ∷ []

-- the opcode with this code on channel B, if one is in use
abbrev pub b_with : ℕ → Option OpB
b_with code = find (λ opcode. b_code opcode == code) b_opcodes

-- the opcodes that are in use on channel C
abbrev pub c_opcodes : List OpC
c_opcodes = c.AccessAck ∷ c.AccessAckData ∷ c.HintAck ∷ c.ProbeAck ∷ c.ProbeAckData ∷ c.Release ∷ c.ReleaseData ∷ []

-- the opcode with this code on channel C, if one is in use
abbrev pub c_with : ℕ → Option OpC
c_with code = find (λ opcode. c_code opcode == code) c_opcodes

-- the opcodes that are in use on channel D
abbrev pub d_opcodes : List OpD
d_opcodes = d.AccessAck ∷ d.AccessAckData ∷ d.HintAck ∷ d.Grant ∷ d.GrantData ∷ d.ReleaseAck ∷ []

-- the opcode with this code on channel D, if one is in use
abbrev pub d_with : ℕ → Option OpD
d_with code = find (λ opcode. d_code opcode == code) d_opcodes
