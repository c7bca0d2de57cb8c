-- Params by name: their numbers, the permissions before and after a transition, and the report that answers a Probe.
use Rattle.std.specs.Prelude.{ℕ, ◌==◌, if◌then◌else◌, Option, Some, None}
use Rattle.tl_params.specs.declared.param.Grow.{Grow}
use Rattle.tl_params.specs.declared.param.Grow.TheVariants as grow
use Rattle.tl_params.specs.declared.param.Cap.{Cap}
use Rattle.tl_params.specs.declared.param.Cap.TheVariants as cap
use Rattle.tl_params.specs.declared.param.Prune.{Prune}
use Rattle.tl_params.specs.declared.param.Prune.TheVariants as prune
use Rattle.tl_params.specs.declared.param.Report.{Report}
use Rattle.tl_params.specs.declared.param.Report.TheVariants as report
use Rattle.tl_params.specs.declared.param.Arithmetic.{Arithmetic}
use Rattle.tl_params.specs.declared.param.Arithmetic.TheVariants as arithmetic
use Rattle.tl_params.specs.declared.param.Logical.{Logical}
use Rattle.tl_params.specs.declared.param.Logical.TheVariants as logical
use Rattle.tl_params.specs.declared.param.Intent.{Intent}
use Rattle.tl_params.specs.declared.param.Intent.TheVariants as intent
use Rattle.tl_params.specs.declared.perm.Perm.{Perm}
use Rattle.tl_params.specs.declared.perm.Perm.TheVariants as perm

-- the param of an Acquire with this grow
abbrev pub grow_code : Grow → ℕ
grow_code grow.NtoB = 0
grow_code grow.NtoT = 1
grow_code grow.BtoT = 2

-- the grow with this param, if there is one
abbrev pub grow_of : ℕ → Option Grow
grow_of n =
    if n == 0 then Some grow.NtoB else
    if n == 1 then Some grow.NtoT else
    if n == 2 then Some grow.BtoT else
    None

-- the param of a Probe or a Grant with this cap
abbrev pub cap_code : Cap → ℕ
cap_code cap.ToT = 0
cap_code cap.ToB = 1
cap_code cap.ToN = 2

-- the cap with this param, if there is one
abbrev pub cap_of : ℕ → Option Cap
cap_of n =
    if n == 0 then Some cap.ToT else
    if n == 1 then Some cap.ToB else
    if n == 2 then Some cap.ToN else
    None

-- the param of a Release with this prune
abbrev pub prune_code : Prune → ℕ
prune_code prune.TtoB = 0
prune_code prune.TtoN = 1
prune_code prune.BtoN = 2

-- the prune with this param, if there is one
abbrev pub prune_of : ℕ → Option Prune
prune_of n =
    if n == 0 then Some prune.TtoB else
    if n == 1 then Some prune.TtoN else
    if n == 2 then Some prune.BtoN else
    None

-- the param of a ProbeAck with this report
abbrev pub report_code : Report → ℕ
report_code report.TtoB = 0
report_code report.TtoN = 1
report_code report.BtoN = 2
report_code report.TtoT = 3
report_code report.BtoB = 4
report_code report.NtoN = 5

-- the report with this param, if there is one
abbrev pub report_named : ℕ → Option Report
report_named n =
    if n == 0 then Some report.TtoB else
    if n == 1 then Some report.TtoN else
    if n == 2 then Some report.BtoN else
    if n == 3 then Some report.TtoT else
    if n == 4 then Some report.BtoB else
    if n == 5 then Some report.NtoN else
    None

-- the param of an ArithmeticData with this operation
abbrev pub arithmetic_code : Arithmetic → ℕ
arithmetic_code arithmetic.Min = 0
arithmetic_code arithmetic.Max = 1
arithmetic_code arithmetic.MinU = 2
arithmetic_code arithmetic.MaxU = 3
arithmetic_code arithmetic.Add = 4

-- the arithmetic operation with this param, if there is one
abbrev pub arithmetic_of : ℕ → Option Arithmetic
arithmetic_of n =
    if n == 0 then Some arithmetic.Min else
    if n == 1 then Some arithmetic.Max else
    if n == 2 then Some arithmetic.MinU else
    if n == 3 then Some arithmetic.MaxU else
    if n == 4 then Some arithmetic.Add else
    None

-- the param of a LogicalData with this operation
abbrev pub logical_code : Logical → ℕ
logical_code logical.Xor = 0
logical_code logical.Or = 1
logical_code logical.And = 2
logical_code logical.Swap = 3

-- the logical operation with this param, if there is one
abbrev pub logical_of : ℕ → Option Logical
logical_of n =
    if n == 0 then Some logical.Xor else
    if n == 1 then Some logical.Or else
    if n == 2 then Some logical.And else
    if n == 3 then Some logical.Swap else
    None

-- the param of an Intent
abbrev pub intent_code : Intent → ℕ
intent_code intent.PrefetchRead = 0
intent_code intent.PrefetchWrite = 1

-- the intent with this param, if there is one
abbrev pub intent_of : ℕ → Option Intent
intent_of n =
    if n == 0 then Some intent.PrefetchRead else
    if n == 1 then Some intent.PrefetchWrite else
    None

-- the permission from which an Acquire with this grow starts
abbrev pub grow_left : Grow → Perm
grow_left grow.NtoB = perm.None
grow_left grow.NtoT = perm.None
grow_left grow.BtoT = perm.Branch

-- the permission that an Acquire with this grow asks for
abbrev pub grow_right : Grow → Perm
grow_right grow.NtoB = perm.Branch
grow_right grow.NtoT = perm.Trunk
grow_right grow.BtoT = perm.Trunk

-- the highest permission that a Probe with this cap leaves, and the permission that a Grant with it gives
abbrev pub cap_right : Cap → Perm
cap_right cap.ToT = perm.Trunk
cap_right cap.ToB = perm.Branch
cap_right cap.ToN = perm.None

-- the permission from which a Release with this prune starts
abbrev pub prune_left : Prune → Perm
prune_left prune.TtoB = perm.Trunk
prune_left prune.TtoN = perm.Trunk
prune_left prune.BtoN = perm.Branch

-- the permission that a Release with this prune leaves
abbrev pub prune_right : Prune → Perm
prune_right prune.TtoB = perm.Branch
prune_right prune.TtoN = perm.None
prune_right prune.BtoN = perm.None

-- the permission that a report says was held before
abbrev pub report_left : Report → Perm
report_left report.TtoB = perm.Trunk
report_left report.TtoN = perm.Trunk
report_left report.BtoN = perm.Branch
report_left report.TtoT = perm.Trunk
report_left report.BtoB = perm.Branch
report_left report.NtoN = perm.None

-- the permission that a report says is held after
abbrev pub report_right : Report → Perm
report_right report.TtoB = perm.Branch
report_right report.TtoN = perm.None
report_right report.BtoN = perm.None
report_right report.TtoT = perm.Trunk
report_right report.BtoB = perm.Branch
report_right report.NtoN = perm.None

-- the report that answers a Probe of this cap while this permission is held
abbrev pub report_at : Cap → Perm → Report
report_at cap.ToN perm.Trunk = report.TtoN
report_at cap.ToN perm.Branch = report.BtoN
report_at cap.ToN perm.None = report.NtoN
report_at cap.ToB perm.Trunk = report.TtoB
report_at cap.ToB perm.Branch = report.BtoB
report_at cap.ToB perm.None = report.NtoN
report_at cap.ToT perm.Trunk = report.TtoT
report_at cap.ToT perm.Branch = report.BtoB
report_at cap.ToT perm.None = report.NtoN
