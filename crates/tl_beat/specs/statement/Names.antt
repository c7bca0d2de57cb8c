-- The names of channels, opcodes and faults.
use Rattle.std.specs.Prelude.{ℕ, List, codes}
use Rattle.tl_beat.specs.declared.fault.LineFault.{LineFault}
use Rattle.tl_beat.specs.declared.fault.LineFault.TheVariants as fault
use Rattle.tl_beat.specs.declared.channel.Channel.{Channel}
use Rattle.tl_beat.specs.declared.channel.Channel.TheVariants as channel
use Rattle.tl_beat.specs.declared.opcode.OpA.{OpA}
use Rattle.tl_beat.specs.declared.opcode.OpA.TheVariants as a
use Rattle.tl_beat.specs.declared.opcode.OpB.{OpB}
use Rattle.tl_beat.specs.declared.opcode.OpB.TheVariants as b
use Rattle.tl_beat.specs.declared.opcode.OpC.{OpC}
use Rattle.tl_beat.specs.declared.opcode.OpC.TheVariants as c
use Rattle.tl_beat.specs.declared.opcode.OpD.{OpD}
use Rattle.tl_beat.specs.declared.opcode.OpD.TheVariants as d

-- the letter of a channel
abbrev pub letter_of : Channel → ℕ
letter_of channel.A = 65
letter_of channel.B = 66
letter_of channel.C = 67
letter_of channel.D = 68
letter_of channel.E = 69

-- the specification's names of the opcodes on channel A
abbrev pub a_name : OpA → List ℕ
a_name a.PutFullData = codes "PutFullData"
a_name a.PutPartialData = codes "PutPartialData"
a_name a.ArithmeticData = codes "ArithmeticData"
a_name a.LogicalData = codes "LogicalData"
a_name a.Get = codes "Get"
a_name a.Intent = codes "Intent"
a_name a.AcquireBlock = codes "AcquireBlock"
a_name a.AcquirePerm = codes "AcquirePerm"

-- the specification's names of the opcodes on channel B
abbrev pub b_name : OpB → List ℕ
b_name b.PutFullData = codes "PutFullData"
b_name b.PutPartialData = codes "PutPartialData"
b_name b.ArithmeticData = codes "ArithmeticData"
b_name b.LogicalData = codes "LogicalData"
b_name b.Get = codes "Get"
b_name b.Intent = codes "Intent"
b_name b.ProbeBlock = codes "ProbeBlock"
b_name b.ProbePerm = codes "ProbePerm"

-- the specification's names of the opcodes on channel C
abbrev pub c_name : OpC → List ℕ
c_name c.AccessAck = codes "AccessAck"
c_name c.AccessAckData = codes "AccessAckData"
c_name c.HintAck = codes "HintAck"
c_name c.ProbeAck = codes "ProbeAck"
c_name c.ProbeAckData = codes "ProbeAckData"
c_name c.Release = codes "Release"
c_name c.ReleaseData = codes "ReleaseData"

-- the specification's names of the opcodes on channel D
abbrev pub d_name : OpD → List ℕ
d_name d.AccessAck = codes "AccessAck"
d_name d.AccessAckData = codes "AccessAckData"
d_name d.HintAck = codes "HintAck"
d_name d.Grant = codes "Grant"
d_name d.GrantData = codes "GrantData"
d_name d.ReleaseAck = codes "ReleaseAck"

-- the name of a line's fault
abbrev pub line_fault_name : LineFault → List ℕ
line_fault_name fault.F1 = codes "F1"
line_fault_name fault.F2 = codes "F2"
line_fault_name fault.F3 = codes "F3"
line_fault_name fault.F4 = codes "F4"
line_fault_name fault.F5 = codes "F5"
line_fault_name fault.F6 = codes "F6"
