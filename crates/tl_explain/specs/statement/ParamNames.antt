-- The name of a param by its opcode, if the opcode has one for it.
use Rattle.std.specs.Prelude.{ℕ, List, Option, None, option_map}
use Rattle.tl_beat.specs.declared.opcode.OpA.{OpA}
use Rattle.tl_beat.specs.declared.opcode.OpA.TheVariants as a
use Rattle.tl_beat.specs.declared.opcode.OpB.{OpB}
use Rattle.tl_beat.specs.declared.opcode.OpB.TheVariants as b
use Rattle.tl_beat.specs.declared.opcode.OpC.{OpC}
use Rattle.tl_beat.specs.declared.opcode.OpC.TheVariants as c
use Rattle.tl_beat.specs.declared.opcode.OpD.{OpD}
use Rattle.tl_beat.specs.declared.opcode.OpD.TheVariants as d
use Rattle.tl_params.specs.statement.Names.{arithmetic_name, cap_name, grow_name, intent_name}
use Rattle.tl_params.specs.statement.Names.{logical_name, prune_name, report_name}
use Rattle.tl_params.specs.statement.Param.{arithmetic_of, cap_of, grow_of, intent_of}
use Rattle.tl_params.specs.statement.Param.{logical_of, prune_of, report_named}

-- the specification's name of a param on channel A, if the opcode has one
abbrev pub a_param_name : OpA → ℕ → Option (List ℕ)
a_param_name a.ArithmeticData param = option_map arithmetic_name (arithmetic_of param)
a_param_name a.LogicalData param = option_map logical_name (logical_of param)
a_param_name a.Intent param = option_map intent_name (intent_of param)
a_param_name a.AcquireBlock param = option_map grow_name (grow_of param)
a_param_name a.AcquirePerm param = option_map grow_name (grow_of param)
a_param_name _ param = None

-- the specification's name of a param on channel B, if the opcode has one
abbrev pub b_param_name : OpB → ℕ → Option (List ℕ)
b_param_name b.ArithmeticData param = option_map arithmetic_name (arithmetic_of param)
b_param_name b.LogicalData param = option_map logical_name (logical_of param)
b_param_name b.Intent param = option_map intent_name (intent_of param)
b_param_name b.ProbeBlock param = option_map cap_name (cap_of param)
b_param_name b.ProbePerm param = option_map cap_name (cap_of param)
b_param_name _ param = None

-- the specification's name of a param on channel C, if the opcode has one
abbrev pub c_param_name : OpC → ℕ → Option (List ℕ)
c_param_name c.ProbeAck param = option_map report_name (report_named param)
c_param_name c.ProbeAckData param = option_map report_name (report_named param)
c_param_name c.Release param = option_map prune_name (prune_of param)
c_param_name c.ReleaseData param = option_map prune_name (prune_of param)
c_param_name _ param = None

-- the specification's name of a param on channel D, if the opcode has one
abbrev pub d_param_name : OpD → ℕ → Option (List ℕ)
d_param_name d.Grant param = option_map cap_name (cap_of param)
d_param_name d.GrantData param = option_map cap_name (cap_of param)
d_param_name _ param = None
