-- The kinds of messages that a beat may be of.
use Rattle.std.specs.Prelude.{ℕ, Bool, true, false, not, ◌==◌, ◌&&◌, ◌||◌, ◌+◌, ◌*◌, ◌%◌, ◌^◌, if◌then◌else◌}
use Rattle.std.specs.Prelude.{nat_le, nat_lt}
use Rattle.std.specs.Bool.{beq}
use Rattle.tl_beat.specs.declared.beat.Beat.{Beat}
use Rattle.tl_beat.specs.declared.beat.Beat.TheVariants as beat
use Rattle.tl_beat.specs.declared.beat.BeatA.{BeatA}
use Rattle.tl_beat.specs.declared.opcode.OpA.{OpA}
use Rattle.tl_beat.specs.declared.opcode.OpA.TheVariants as a
use Rattle.tl_beat.specs.declared.opcode.OpD.{OpD}
use Rattle.tl_beat.specs.declared.opcode.OpD.TheVariants as d
use Rattle.tl_beat.specs.statement.Opcode.{c_carries_data, d_carries_data}
use Rattle.tl_cover.specs.declared.situation.Bytes.{Bytes}
use Rattle.tl_cover.specs.declared.situation.Bytes.TheVariants as bytes
use Rattle.tl_cover.specs.declared.situation.Lanes.{Lanes}
use Rattle.tl_cover.specs.declared.situation.Lanes.TheVariants as lanes
use Rattle.tl_cover.specs.declared.situation.Depth.{Depth}
use Rattle.tl_cover.specs.declared.situation.Depth.TheVariants as depth
use Rattle.tl_cover.specs.declared.situation.Pending.{Pending}
use Rattle.tl_cover.specs.declared.situation.Pending.TheVariants as pending
use Rattle.tl_cover.specs.declared.situation.Wait.{Wait}
use Rattle.tl_cover.specs.declared.situation.Wait.TheVariants as wait
use Rattle.tl_params.specs.declared.param.Arithmetic.{Arithmetic}
use Rattle.tl_params.specs.declared.param.Cap.{Cap}
use Rattle.tl_params.specs.declared.param.Cap.TheVariants as cap
use Rattle.tl_params.specs.declared.param.Grow.{Grow}
use Rattle.tl_params.specs.declared.param.Grow.TheVariants as grow
use Rattle.tl_params.specs.declared.param.Logical.{Logical}
use Rattle.tl_params.specs.declared.param.Report.{Report}
use Rattle.tl_params.specs.declared.param.Report.TheVariants as report
use Rattle.tl_params.specs.statement.Param.{arithmetic_code, cap_code, grow_code, logical_code, report_code}
use Rattle.tl_rules.specs.statement.History.{is_acquire, is_grant, is_probe, is_probe_ack, is_release}

-- the beat is of a Probe
abbrev pub is_probe_beat : {w : ℕ} → Beat w → Bool
is_probe_beat (beat.B x) = is_probe x.opcode
is_probe_beat _ = false

-- the beat is of a Release
abbrev pub is_release_beat : {w : ℕ} → Beat w → Bool
is_release_beat (beat.C x) = is_release x.opcode
is_release_beat _ = false

-- the beat is of an Acquire
abbrev pub is_acquire_beat : {w : ℕ} → Beat w → Bool
is_acquire_beat (beat.A x) = is_acquire x.opcode
is_acquire_beat _ = false

-- the beat is of an access: of a request other than an Acquire
abbrev pub is_access_beat : {w : ℕ} → Beat w → Bool
is_access_beat (beat.A x) = not (is_acquire x.opcode)
is_access_beat _ = false

-- the beat is of a Grant, with data or without
abbrev pub is_grant_beat : {w : ℕ} → Beat w → Bool
is_grant_beat (beat.D x) = is_grant x.opcode
is_grant_beat _ = false

-- the beat is of a Grant with data, or of one without
abbrev pub is_grant_with : {w : ℕ} → Bool → Beat w → Bool
is_grant_with wanted (beat.D x) = is_grant x.opcode && beq (d_carries_data x.opcode) wanted
is_grant_with wanted _ = false

-- the beat is a GrantAck
abbrev pub is_grant_ack_beat : {w : ℕ} → Beat w → Bool
is_grant_ack_beat (beat.E x) = true
is_grant_ack_beat _ = false

-- the opcode is Get
abbrev pub is_get_opcode : OpA → Bool
is_get_opcode a.Get = true
is_get_opcode _ = false

-- the opcode is PutFullData or PutPartialData
abbrev pub is_put_opcode : OpA → Bool
is_put_opcode a.PutFullData = true
is_put_opcode a.PutPartialData = true
is_put_opcode _ = false

-- the opcode is PutPartialData
abbrev pub is_partial_opcode : OpA → Bool
is_partial_opcode a.PutPartialData = true
is_partial_opcode _ = false

-- the opcode is ArithmeticData
abbrev pub is_arithmetic_opcode : OpA → Bool
is_arithmetic_opcode a.ArithmeticData = true
is_arithmetic_opcode _ = false

-- the opcode is LogicalData
abbrev pub is_logical_opcode : OpA → Bool
is_logical_opcode a.LogicalData = true
is_logical_opcode _ = false

-- the opcode is ArithmeticData or LogicalData
abbrev pub is_atomic_opcode : OpA → Bool
is_atomic_opcode a.ArithmeticData = true
is_atomic_opcode a.LogicalData = true
is_atomic_opcode _ = false

-- the beat is of a Get
abbrev pub is_get : {w : ℕ} → Beat w → Bool
is_get (beat.A x) = is_get_opcode x.opcode
is_get _ = false

-- the beat is of a Put, full or partial
abbrev pub is_put : {w : ℕ} → Beat w → Bool
is_put (beat.A x) = is_put_opcode x.opcode
is_put _ = false

-- the beat is of an atomic
abbrev pub is_atomic : {w : ℕ} → Beat w → Bool
is_atomic (beat.A x) = is_atomic_opcode x.opcode
is_atomic _ = false

-- the beat is of an Acquire with this grow
abbrev pub has_grow : {w : ℕ} → Grow → Beat w → Bool
has_grow grow (beat.A x) = is_acquire x.opcode && (x.param == grow_code grow)
has_grow grow _ = false

-- the cap that answers this grow
abbrev pub cap_for : Grow → Cap
cap_for grow.NtoB = cap.ToB
cap_for grow.NtoT = cap.ToT
cap_for grow.BtoT = cap.ToT

-- the beat is of a Grant, with data or without, with the cap that answers this grow
abbrev pub gives : {w : ℕ} → Grow → Beat w → Bool
gives grow (beat.D x) = is_grant x.opcode && (x.param == cap_code (cap_for grow))
gives grow _ = false

-- the beat is of a Probe with this cap
abbrev pub has_cap : {w : ℕ} → Cap → Beat w → Bool
has_cap cap (beat.B x) = is_probe x.opcode && (x.param == cap_code cap)
has_cap cap _ = false

-- the beat is of a Release, with data or without, with this report
abbrev pub releases_with : {w : ℕ} → Report → Beat w → Bool
releases_with report (beat.C x) = is_release x.opcode && (x.param == report_code report)
releases_with report _ = false

-- the beat is of a ProbeAck, with data or without, with this report
abbrev pub has_report : {w : ℕ} → Report → Beat w → Bool
has_report report (beat.C x) = is_probe_ack x.opcode && (x.param == report_code report)
has_report report _ = false

-- the beat is of a ProbeAck, with data or without
abbrev pub is_probe_ack_beat : {w : ℕ} → Beat w → Bool
is_probe_ack_beat (beat.C x) = is_probe_ack x.opcode
is_probe_ack_beat _ = false

-- the beat is of a ProbeAckData
abbrev pub is_report_with_data : {w : ℕ} → Beat w → Bool
is_report_with_data (beat.C x) = is_probe_ack x.opcode && c_carries_data x.opcode
is_report_with_data _ = false

-- the beat is of an ArithmeticData of this operation
abbrev pub has_arithmetic : {w : ℕ} → Arithmetic → Beat w → Bool
has_arithmetic operation (beat.A x) = is_arithmetic_opcode x.opcode && (x.param == arithmetic_code operation)
has_arithmetic operation _ = false

-- the beat is of a LogicalData of this operation
abbrev pub has_logical : {w : ℕ} → Logical → Beat w → Bool
has_logical operation (beat.A x) = is_logical_opcode x.opcode && (x.param == logical_code operation)
has_logical operation _ = false

-- the size field for this many bytes: 2 to the size is their number
abbrev pub size_of : Bytes → ℕ
size_of bytes.One = 0
size_of bytes.Two = 1
size_of bytes.Four = 2
size_of bytes.Eight = 3
size_of bytes.Sixteen = 4
size_of bytes.ThirtyTwo = 5
size_of bytes.SixtyFour = 6

-- the beat is of a request of this many bytes
abbrev pub asks_for : {w : ℕ} → Bytes → Beat w → Bool
asks_for many (beat.A x) = x.size == size_of many
asks_for many _ = false

-- the number of bytes
abbrev pub number_of : Bytes → ℕ
number_of bytes.One = 1
number_of bytes.Two = 2
number_of bytes.Four = 4
number_of bytes.Eight = 8
number_of bytes.Sixteen = 16
number_of bytes.ThirtyTwo = 32
number_of bytes.SixtyFour = 64

-- the number is the greatest one up to 64 that divides the address
abbrev pub is_alignment : Bytes → ℕ → Bool
is_alignment many address =
    (address % number_of many == 0) && ((number_of many == 64) || not (address % (2 * number_of many) == 0))

-- the beat is of a request whose address has this alignment
abbrev pub is_aligned : {w : ℕ} → Bytes → Beat w → Bool
is_aligned many (beat.A x) = is_alignment many x.address
is_aligned many _ = false

-- the number of beats is in this range
abbrev pub is_wait : Wait → ℕ → Bool
is_wait wait.None n = n == 0
is_wait wait.One n = n == 1
is_wait wait.Two n = nat_le 2 n && nat_lt n 4
is_wait wait.Four n = nat_le 4 n && nat_lt n 8
is_wait wait.Eight n = nat_le 8 n && nat_lt n 16
is_wait wait.Sixteen n = nat_le 16 n && nat_lt n 32
is_wait wait.ThirtyTwo n = nat_le 32 n && nat_lt n 64
is_wait wait.SixtyFour n = nat_le 64 n && nat_lt n 128
is_wait wait.Longer n = nat_le 128 n

-- requests of this opcode are of the kind
abbrev pub asks : Pending → OpA → Bool
asks pending.Acquire opcode = is_acquire opcode
asks pending.Get opcode = is_get_opcode opcode
asks pending.Put opcode = is_put_opcode opcode
asks pending.Atomic opcode = is_atomic_opcode opcode
asks _ opcode = false

-- the beat is of a message of this kind
abbrev pub is_pending_kind : {w : ℕ} → Pending → Beat w → Bool
is_pending_kind pending.Acquire x = is_acquire_beat x
is_pending_kind pending.Get x = is_get x
is_pending_kind pending.Put x = is_put x
is_pending_kind pending.Atomic x = is_atomic x
is_pending_kind pending.Release x = is_release_beat x
is_pending_kind pending.Probe x = is_probe_beat x
is_pending_kind pending.Grant x = is_grant_beat x

-- the number of messages of a kind that are pending before another one is in this range, with that one
abbrev pub is_depth : Depth → ℕ → Bool
is_depth depth.One n = n == 0
is_depth depth.Two n = n == 1
is_depth depth.Four n = nat_le 2 n && nat_lt n 4
is_depth depth.Eight n = nat_le 4 n && nat_lt n 8
is_depth depth.Sixteen n = nat_le 8 n && nat_lt n 16
is_depth depth.More n = nat_le 16 n

-- the lanes that the mask of a beat names: none, some or all
abbrev pub lanes_named : {w : ℕ} → BeatA w → Lanes
lanes_named {w} x =
    if x.mask == 0 then lanes.Empty else
    if x.mask + 1 == 2 ^ w then lanes.Full else
    lanes.Partial

-- the lanes are the same
abbrev pub same_lanes : Lanes → Lanes → Bool
same_lanes lanes.Empty lanes.Empty = true
same_lanes lanes.Partial lanes.Partial = true
same_lanes lanes.Full lanes.Full = true
same_lanes _ _ = false

-- the beat is of a PutPartialData whose mask names these lanes
abbrev pub has_lanes : {w : ℕ} → Lanes → Beat w → Bool
has_lanes many (beat.A x) = is_partial_opcode x.opcode && same_lanes (lanes_named x) many
has_lanes many _ = false

-- ---- beats that only a liberty allows

-- the beat is of a Probe whose source isn't 0
abbrev pub is_probe_with_source : {w : ℕ} → Beat w → Bool
is_probe_with_source (beat.B x) = is_probe x.opcode && not (x.source == 0)
is_probe_with_source _ = false

-- the beat is of a response other than a Grant, and its sink isn't 0
abbrev pub has_sink_without_grant : {w : ℕ} → Beat w → Bool
has_sink_without_grant (beat.D x) = not (is_grant x.opcode) && not (x.sink == 0)
has_sink_without_grant _ = false

-- the beat is of a Grant, with data or without, that is denied
abbrev pub is_denied_grant : {w : ℕ} → Beat w → Bool
is_denied_grant (beat.D x) = is_grant x.opcode && x.denied
is_denied_grant _ = false

-- the opcode is AccessAckData
abbrev pub is_access_data_opcode : OpD → Bool
is_access_data_opcode d.AccessAckData = true
is_access_data_opcode _ = false

-- the beat is of an AccessAckData that is denied, and not corrupt
abbrev pub is_denied_uncorrupt : {w : ℕ} → Beat w → Bool
is_denied_uncorrupt (beat.D x) = is_access_data_opcode x.opcode && (x.denied && not x.corrupt)
is_denied_uncorrupt _ = false

-- the beat is of a message that a link without a permission sends: an Acquire NtoB or NtoT, or a report NtoN
abbrev pub says_nothing_held : {w : ℕ} → Beat w → Bool
says_nothing_held x =
    has_grow grow.NtoB x || (has_grow grow.NtoT x || (has_report report.NtoN x || releases_with report.NtoN x))
