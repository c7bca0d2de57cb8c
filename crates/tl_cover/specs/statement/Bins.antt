-- The bins of a link's table: the situations that are counted on each link.
use Rattle.std.specs.Prelude.{List, [], ◌∷◌, ◌++◌, map}
use Rattle.std.specs.List.{flat_map}
use Rattle.tl_beat.specs.declared.opcode.OpA.TheVariants as a
use Rattle.tl_beat.specs.declared.opcode.OpB.TheVariants as b
use Rattle.tl_beat.specs.declared.opcode.OpC.TheVariants as c
use Rattle.tl_beat.specs.declared.opcode.OpD.TheVariants as d
use Rattle.tl_cover.specs.declared.message.MessageKind.{MessageKind}
use Rattle.tl_cover.specs.declared.message.MessageKind.TheVariants as kind
use Rattle.tl_cover.specs.declared.message.Param.{Param}
use Rattle.tl_cover.specs.declared.message.Param.TheVariants as param
use Rattle.tl_cover.specs.declared.situation.Bytes.{Bytes}
use Rattle.tl_cover.specs.declared.situation.Bytes.TheVariants as bytes
use Rattle.tl_cover.specs.declared.situation.Situation.{Situation}
use Rattle.tl_cover.specs.declared.situation.Depth.{Depth}
use Rattle.tl_cover.specs.declared.situation.Depth.TheVariants as depth
use Rattle.tl_cover.specs.declared.situation.Pending.{Pending}
use Rattle.tl_cover.specs.declared.situation.Pending.TheVariants as pending
use Rattle.tl_cover.specs.declared.situation.Situation.TheVariants.{Aligned, Among, Answered, Granted, Sent, Waited}
use Rattle.tl_cover.specs.declared.situation.Wait.{Wait}
use Rattle.tl_cover.specs.declared.situation.Wait.TheVariants as wait
use Rattle.tl_params.specs.declared.param.Arithmetic.TheVariants as arithmetic
use Rattle.tl_params.specs.declared.param.Cap.TheVariants as cap
use Rattle.tl_params.specs.declared.param.Grow.{Grow}
use Rattle.tl_params.specs.declared.param.Grow.TheVariants as grow
use Rattle.tl_params.specs.declared.param.Intent.TheVariants as intent
use Rattle.tl_params.specs.declared.param.Logical.TheVariants as logical
use Rattle.tl_params.specs.declared.param.Report.TheVariants as report

-- the numbers of bytes from this one on, up to those of a block
abbrev pub from_32 : List Bytes
from_32 = bytes.ThirtyTwo ∷ bytes.SixtyFour ∷ []

abbrev pub from_8 : List Bytes
from_8 = bytes.Eight ∷ bytes.Sixteen ∷ from_32

abbrev pub from_2 : List Bytes
from_2 = bytes.Two ∷ bytes.Four ∷ from_8

abbrev pub all_bytes : List Bytes
all_bytes = bytes.One ∷ from_2

-- the operations of ArithmeticData, and of LogicalData
abbrev pub arithmetics : List Param
arithmetics =
    param.Arithmetic arithmetic.Min
    ∷ param.Arithmetic arithmetic.Max
    ∷ param.Arithmetic arithmetic.MinU
    ∷ param.Arithmetic arithmetic.MaxU
    ∷ param.Arithmetic arithmetic.Add
    ∷ []

abbrev pub logicals : List Param
logicals =
    param.Logical logical.Xor
    ∷ param.Logical logical.Or
    ∷ param.Logical logical.And
    ∷ param.Logical logical.Swap
    ∷ []

abbrev pub intents : List Param
intents = param.Intent intent.PrefetchRead ∷ param.Intent intent.PrefetchWrite ∷ []

abbrev pub all_grows : List Grow
all_grows = grow.NtoB ∷ grow.NtoT ∷ grow.BtoT ∷ []

abbrev pub caps : List Param
caps = param.Cap cap.ToT ∷ param.Cap cap.ToB ∷ param.Cap cap.ToN ∷ []

-- all reports, and those from Trunk
abbrev pub reports : List Param
reports =
    param.Report report.TtoB
    ∷ param.Report report.TtoN
    ∷ param.Report report.BtoN
    ∷ param.Report report.TtoT
    ∷ param.Report report.BtoB
    ∷ param.Report report.NtoN
    ∷ []

abbrev pub reports_of_trunk : List Param
reports_of_trunk = param.Report report.TtoB ∷ param.Report report.TtoN ∷ param.Report report.TtoT ∷ []

-- a kind of message for each of these params and numbers of bytes
abbrev pub with_all : (Param → Bytes → MessageKind) → List Param → List Bytes → List MessageKind
with_all kind params many = flat_map (λ p. map (kind p) many) params

-- accesses of any number of bytes, atomics of 4 or 8, transfers of a block
abbrev pub all_kinds : List MessageKind
all_kinds =
    with_all (kind.A a.PutFullData) (param.Zero ∷ []) all_bytes
    ++ with_all (kind.A a.PutPartialData) (param.Zero ∷ []) all_bytes
    ++ with_all (kind.A a.ArithmeticData) arithmetics (bytes.Four ∷ bytes.Eight ∷ [])
    ++ with_all (kind.A a.LogicalData) logicals (bytes.Four ∷ bytes.Eight ∷ [])
    ++ with_all (kind.A a.Get) (param.Zero ∷ []) all_bytes
    ++ with_all (kind.A a.Intent) intents all_bytes
    ++ with_all (kind.A a.AcquireBlock) (map param.Grow all_grows) (bytes.SixtyFour ∷ [])
    ++ with_all (kind.A a.AcquirePerm) (map param.Grow all_grows) (bytes.SixtyFour ∷ [])
    ++ with_all (kind.B b.ProbeBlock) caps (bytes.SixtyFour ∷ [])
    ++ with_all (kind.B b.ProbePerm) caps (bytes.SixtyFour ∷ [])
    ++ with_all (kind.C c.ProbeAck) reports (bytes.SixtyFour ∷ [])
    ++ with_all (kind.C c.ProbeAckData) reports_of_trunk (bytes.SixtyFour ∷ [])
    ++ with_all (kind.C c.Release) reports (bytes.SixtyFour ∷ [])
    ++ with_all (kind.C c.ReleaseData) reports_of_trunk (bytes.SixtyFour ∷ [])
    ++ with_all (kind.D d.AccessAck) (param.Zero ∷ []) all_bytes
    ++ with_all (kind.D d.AccessAckData) (param.Zero ∷ []) all_bytes
    ++ with_all (kind.D d.HintAck) (param.Zero ∷ []) all_bytes
    ++ with_all (kind.D d.Grant) caps (bytes.SixtyFour ∷ [])
    ++ with_all (kind.D d.GrantData) caps (bytes.SixtyFour ∷ [])
    ++ with_all (kind.D d.ReleaseAck) (param.Zero ∷ []) (bytes.SixtyFour ∷ [])
    ++ kind.E ∷ []

-- the report of a client that held Trunk, Branch or None, to a Probe toT, toB or toN
abbrev pub all_answers : List Situation
all_answers =
    Answered report.TtoT cap.ToT
    ∷ Answered report.BtoB cap.ToT
    ∷ Answered report.NtoN cap.ToT
    ∷ Answered report.TtoB cap.ToB
    ∷ Answered report.BtoB cap.ToB
    ∷ Answered report.NtoN cap.ToB
    ∷ Answered report.TtoN cap.ToN
    ∷ Answered report.BtoN cap.ToN
    ∷ Answered report.NtoN cap.ToN
    ∷ []

abbrev pub all_waits : List Wait
all_waits =
    wait.None
    ∷ wait.One
    ∷ wait.Two
    ∷ wait.Four
    ∷ wait.Eight
    ∷ wait.Sixteen
    ∷ wait.ThirtyTwo
    ∷ wait.SixtyFour
    ∷ wait.Longer
    ∷ []

-- an access of this many bytes at each alignment that it may have
abbrev pub alignments : Bytes → List Bytes → List Situation
alignments size multiples = map (Aligned size) (size ∷ multiples)

abbrev pub all_alignments : List Situation
all_alignments =
    alignments bytes.One from_2
    ++ alignments bytes.Two (bytes.Four ∷ from_8)
    ++ alignments bytes.Four from_8
    ++ alignments bytes.Eight (bytes.Sixteen ∷ from_32)
    ++ alignments bytes.Sixteen from_32
    ++ alignments bytes.ThirtyTwo (bytes.SixtyFour ∷ [])
    ++ alignments bytes.SixtyFour []

abbrev pub all_depths : List Depth
all_depths = depth.One ∷ depth.Two ∷ depth.Four ∷ depth.Eight ∷ depth.Sixteen ∷ depth.More ∷ []

abbrev pub all_pending : List Pending
all_pending =
    pending.Acquire
    ∷ pending.Get
    ∷ pending.Put
    ∷ pending.Atomic
    ∷ pending.Release
    ∷ pending.Probe
    ∷ pending.Grant
    ∷ []

-- all bins, in the order of the table
abbrev pub all_bins : List Situation
all_bins =
    map Sent all_kinds ++ map Granted all_grows ++ all_answers ++ map Waited all_waits ++ all_alignments
    ++ flat_map (λ kind. map (Among kind) all_depths) all_pending
