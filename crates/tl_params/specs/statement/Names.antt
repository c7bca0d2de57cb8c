-- The names of params, as the specification has them, and the names of rules.
use Rattle.std.specs.Prelude.{ℕ, List, codes}
use Rattle.tl_params.specs.declared.param.Grow.{Grow}
use Rattle.tl_params.specs.declared.param.Grow.TheVariants as grow
use Rattle.tl_params.specs.declared.param.Cap.{Cap}
use Rattle.tl_params.specs.declared.param.Cap.TheVariants as cap
use Rattle.tl_params.specs.declared.param.Prune.{Prune}
use Rattle.tl_params.specs.declared.param.Prune.TheVariants as prune
use Rattle.tl_params.specs.declared.param.Report.{Report}
use Rattle.tl_params.specs.declared.param.Report.TheVariants as report
use Rattle.tl_params.specs.declared.param.Arithmetic.{Arithmetic}
use Rattle.tl_params.specs.declared.param.Arithmetic.TheVariants as arithmetic
use Rattle.tl_params.specs.declared.param.Logical.{Logical}
use Rattle.tl_params.specs.declared.param.Logical.TheVariants as logical
use Rattle.tl_params.specs.declared.param.Intent.{Intent}
use Rattle.tl_params.specs.declared.param.Intent.TheVariants as intent
use Rattle.tl_params.specs.declared.memory_rule.MemoryRule.{MemoryRule}
use Rattle.tl_params.specs.declared.memory_rule.MemoryRule.TheVariants as memory_rule
use Rattle.tl_params.specs.declared.rule.Rule.{Rule}
use Rattle.tl_params.specs.declared.rule.Rule.TheVariants as rule

-- the specification's names of the grows
abbrev pub grow_name : Grow → List ℕ
grow_name grow.NtoB = codes "NtoB"
grow_name grow.NtoT = codes "NtoT"
grow_name grow.BtoT = codes "BtoT"

-- the specification's names of the caps
abbrev pub cap_name : Cap → List ℕ
cap_name cap.ToT = codes "toT"
cap_name cap.ToB = codes "toB"
cap_name cap.ToN = codes "toN"

-- the specification's names of the prunes
abbrev pub prune_name : Prune → List ℕ
prune_name prune.TtoB = codes "TtoB"
prune_name prune.TtoN = codes "TtoN"
prune_name prune.BtoN = codes "BtoN"

-- the specification's names of the reports
abbrev pub report_name : Report → List ℕ
report_name report.TtoB = codes "TtoB"
report_name report.TtoN = codes "TtoN"
report_name report.BtoN = codes "BtoN"
report_name report.TtoT = codes "TtoT"
report_name report.BtoB = codes "BtoB"
report_name report.NtoN = codes "NtoN"

-- the specification's names of the arithmetic operations
abbrev pub arithmetic_name : Arithmetic → List ℕ
arithmetic_name arithmetic.Min = codes "MIN"
arithmetic_name arithmetic.Max = codes "MAX"
arithmetic_name arithmetic.MinU = codes "MINU"
arithmetic_name arithmetic.MaxU = codes "MAXU"
arithmetic_name arithmetic.Add = codes "ADD"

-- the specification's names of the logical operations
abbrev pub logical_name : Logical → List ℕ
logical_name logical.Xor = codes "XOR"
logical_name logical.Or = codes "OR"
logical_name logical.And = codes "AND"
logical_name logical.Swap = codes "SWAP"

-- the specification's names of the intents
abbrev pub intent_name : Intent → List ℕ
intent_name intent.PrefetchRead = codes "PrefetchRead"
intent_name intent.PrefetchWrite = codes "PrefetchWrite"

-- the name of a rule
abbrev pub rule_name : Rule → List ℕ
rule_name rule.L1 = codes "L1"
rule_name rule.L2 = codes "L2"
rule_name rule.L3 = codes "L3"
rule_name rule.L4 = codes "L4"
rule_name rule.L5 = codes "L5"
rule_name rule.L6 = codes "L6"
rule_name rule.L7 = codes "L7"
rule_name rule.S1 = codes "S1"
rule_name rule.H1 = codes "H1"
rule_name rule.H2 = codes "H2"
rule_name rule.H3 = codes "H3"
rule_name rule.H4 = codes "H4"
rule_name rule.H5 = codes "H5"
rule_name rule.H6 = codes "H6"
rule_name rule.H7 = codes "H7"
rule_name rule.H8 = codes "H8"
rule_name rule.H9 = codes "H9"
rule_name rule.H10 = codes "H10"
rule_name rule.H11 = codes "H11"
rule_name rule.H12 = codes "H12"
rule_name rule.H13 = codes "H13"
rule_name rule.A1 = codes "A1"
rule_name rule.A2 = codes "A2"
rule_name rule.A3 = codes "A3"

-- the names of the rules between links
abbrev pub memory_rule_name : MemoryRule → List ℕ
memory_rule_name memory_rule.M1 = codes "M1"
memory_rule_name memory_rule.M2 = codes "M2"
memory_rule_name memory_rule.M3 = codes "M3"
memory_rule_name memory_rule.M4 = codes "M4"
