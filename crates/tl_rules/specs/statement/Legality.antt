-- Legality: the L rules judge a beat by the level of its link and by its channel alone.
use Rattle.std.specs.Prelude.{ℕ, zero, suc, Bool, true, false, not, List, [], ◌∷◌, ◌==◌, ◌&&◌, ◌||◌, ◌+◌, ◌%◌, ◌^◌}
use Rattle.std.specs.Prelude.{nat_lt, nat_le, if◌then◌else◌, Option, None, is_some}
use Rattle.std.specs.Bool.{beq}
use Rattle.std.specs.Option.{option_or}
use Rattle.tl_beat.specs.declared.channel.Channel.{Channel}
use Rattle.tl_beat.specs.declared.channel.Channel.TheVariants as channel
use Rattle.tl_beat.specs.declared.opcode.OpA.{OpA}
use Rattle.tl_beat.specs.declared.opcode.OpA.TheVariants as a
use Rattle.tl_beat.specs.declared.opcode.OpB.{OpB}
use Rattle.tl_beat.specs.declared.opcode.OpB.TheVariants as b
use Rattle.tl_beat.specs.declared.opcode.OpC.{OpC}
use Rattle.tl_beat.specs.declared.opcode.OpC.TheVariants as c
use Rattle.tl_beat.specs.declared.opcode.OpD.{OpD}
use Rattle.tl_beat.specs.declared.opcode.OpD.TheVariants as d
use Rattle.tl_beat.specs.declared.beat.Beat.{Beat}
use Rattle.tl_beat.specs.declared.beat.Beat.TheVariants as beat
use Rattle.tl_beat.specs.statement.First.{first_if}
use Rattle.tl_beat.specs.statement.Opcode.{a_carries_data, b_carries_data, c_carries_data, d_carries_data}
use Rattle.tl_burst.specs.declared.message.Message.{Message}
use Rattle.tl_burst.specs.statement.Burst.{beats_of, beat_of, bit}
use Rattle.tl_params.specs.declared.level.Level.{Level}
use Rattle.tl_params.specs.declared.level.Level.TheVariants as level
use Rattle.tl_params.specs.declared.param.Prune.TheVariants as prune
use Rattle.tl_params.specs.declared.param.Report.TheVariants as report
use Rattle.tl_params.specs.declared.rule.Rule.{Rule}
use Rattle.tl_params.specs.declared.rule.Rule.TheVariants.{L1, L2, L3, L4, L5, L6, L7}
use Rattle.tl_params.specs.statement.Param.{grow_of, cap_of, prune_of, prune_code, report_named, report_code}
use Rattle.tl_params.specs.statement.Param.{arithmetic_of, logical_of, intent_of}

-- ---- L1: the opcodes of a level

-- the number is in the list
abbrev pub is_one_of : ℕ → List ℕ → Bool
is_one_of n [] = false
is_one_of n (k ∷ ks) = (n == k) || is_one_of n ks

-- TL-UL has Get and the Puts. TL-UH has the atomics and Intent too, TL-C also the Acquires.
abbrev pub a_of_level : Level → OpA → Bool
a_of_level level.UL a.Get = true
a_of_level level.UL a.PutFullData = true
a_of_level level.UL a.PutPartialData = true
a_of_level level.UL _ = false
a_of_level level.UH a.AcquireBlock = false
a_of_level level.UH a.AcquirePerm = false
a_of_level level.UH _ = true
a_of_level level.C _ = true

-- the answers to these, and at TL-C the ReleaseAck
abbrev pub d_of_level : Level → OpD → Bool
d_of_level level.UL d.AccessAck = true
d_of_level level.UL d.AccessAckData = true
d_of_level level.UL _ = false
d_of_level level.UH d.AccessAck = true
d_of_level level.UH d.AccessAckData = true
d_of_level level.UH d.HintAck = true
d_of_level level.UH _ = false
d_of_level level.C _ = true

-- the level has the channels B, C and E
abbrev pub has_transfers : Level → Bool
has_transfers level.UL = false
has_transfers level.UH = false
has_transfers level.C = true

-- the beat isn't of the channel named, or its opcode isn't of the level
abbrev pub breaks_l1 : {w : ℕ} → Level → Channel → Beat w → Bool
breaks_l1 l channel.A (beat.A x) = not (a_of_level l x.opcode)
breaks_l1 l channel.B (beat.B x) = not (has_transfers l)
breaks_l1 l channel.C (beat.C x) = not (has_transfers l)
breaks_l1 l channel.D (beat.D x) = not (d_of_level l x.opcode)
breaks_l1 l channel.E (beat.E x) = not (has_transfers l)
breaks_l1 _ _ _ = true

-- ---- L7: an access forwarded on channel B, or the answer to one on channel C

-- an access that is forwarded on channel B
abbrev pub is_forwarded : OpB → Bool
is_forwarded b.ProbeBlock = false
is_forwarded b.ProbePerm = false
is_forwarded _ = true

-- the answer on channel C to a forwarded access
abbrev pub answers_forwarded : OpC → Bool
answers_forwarded c.AccessAck = true
answers_forwarded c.AccessAckData = true
answers_forwarded c.HintAck = true
answers_forwarded _ = false

-- L7: a forwarded access, or the answer to one
abbrev pub breaks_l7 : {w : ℕ} → Beat w → Bool
breaks_l7 (beat.B x) = is_forwarded x.opcode
breaks_l7 (beat.C x) = answers_forwarded x.opcode
breaks_l7 _ = false

-- ---- L2: params, and the sources and sinks that are fixed

-- the params of an opcode on channel A
abbrev pub a_has_param : OpA → ℕ → Bool
a_has_param a.PutFullData param = param == 0
a_has_param a.PutPartialData param = param == 0
a_has_param a.ArithmeticData param = is_some (arithmetic_of param)
a_has_param a.LogicalData param = is_some (logical_of param)
a_has_param a.Get param = param == 0
a_has_param a.Intent param = is_some (intent_of param)
a_has_param a.AcquireBlock param = is_some (grow_of param)
a_has_param a.AcquirePerm param = is_some (grow_of param)

-- the params of an opcode on channel C: a ProbeAck has a report, a Release a prune, and those with data start from
-- Trunk
abbrev pub c_has_param : OpC → ℕ → Bool
c_has_param c.ProbeAck param = is_some (report_named param)
c_has_param c.ProbeAckData param =
    is_one_of param (report_code report.TtoB ∷ report_code report.TtoN ∷ report_code report.TtoT ∷ [])
c_has_param c.Release param = is_some (prune_of param)
c_has_param c.ReleaseData param = is_one_of param (prune_code prune.TtoB ∷ prune_code prune.TtoN ∷ [])
c_has_param _ param = param == 0

-- the params of an opcode on channel D: a Grant has a cap, the others have 0
abbrev pub d_has_param : OpD → ℕ → Bool
d_has_param d.Grant param = is_some (cap_of param)
d_has_param d.GrantData param = is_some (cap_of param)
d_has_param _ param = param == 0

-- a ProbeAck has source 0, as its Probe does
abbrev pub c_has_source : OpC → ℕ → Bool
c_has_source c.ProbeAck source = source == 0
c_has_source c.ProbeAckData source = source == 0
c_has_source _ source = true

-- a Grant has any sink, the others have 0
abbrev pub d_has_sink : OpD → ℕ → Bool
d_has_sink d.Grant sink = true
d_has_sink d.GrantData sink = true
d_has_sink _ sink = sink == 0

-- L2: the opcode doesn't have this param, source or sink
abbrev pub breaks_l2 : {w : ℕ} → Beat w → Bool
breaks_l2 (beat.A x) = not (a_has_param x.opcode x.param)
breaks_l2 (beat.B x) = not (is_some (cap_of x.param) && (x.source == 0))
breaks_l2 (beat.C x) = not (c_has_param x.opcode x.param && c_has_source x.opcode x.source)
breaks_l2 (beat.D x) = not (d_has_param x.opcode x.param && d_has_sink x.opcode x.sink)
breaks_l2 (beat.E x) = false

-- ---- L3: sizes. An access has at most the bytes of a beat at UL, and at most those of a block at UH and C. A transfer
-- has a block.

-- the sizes of an access at a level: at UL those within a beat, at UH and C those within a block
abbrev pub access_has_size : ℕ → Level → ℕ → Bool
access_has_size w level.UL size = nat_le (2 ^ size) w
access_has_size w level.UH size = nat_le size 6
access_has_size w level.C size = nat_le size 6

-- the sizes of an opcode on channel A at a level: 4 or 8 bytes for atomics, a block for transfers
abbrev pub a_has_size : ℕ → Level → OpA → ℕ → Bool
a_has_size w l a.ArithmeticData size = is_one_of size (2 ∷ 3 ∷ [])
a_has_size w l a.LogicalData size = is_one_of size (2 ∷ 3 ∷ [])
a_has_size w l a.AcquireBlock size = size == 6
a_has_size w l a.AcquirePerm size = size == 6
a_has_size w l _ size = access_has_size w l size

-- the sizes of an opcode on channel D at a level: a block for transfers
abbrev pub d_has_size : ℕ → Level → OpD → ℕ → Bool
d_has_size w l d.Grant size = size == 6
d_has_size w l d.GrantData size = size == 6
d_has_size w l d.ReleaseAck size = size == 6
d_has_size w l _ size = access_has_size w l size

-- L3: the opcode doesn't have this size at the level
abbrev pub breaks_l3 : {w : ℕ} → Level → Beat w → Bool
breaks_l3 {w} l (beat.A x) = not (a_has_size w l x.opcode x.size)
breaks_l3 l (beat.B x) = not (x.size == 6)
breaks_l3 l (beat.C x) = not (x.size == 6)
breaks_l3 {w} l (beat.D x) = not (d_has_size w l x.opcode x.size)
breaks_l3 l (beat.E x) = false

-- ---- L4: alignment

-- the address is a multiple of the number of bytes
abbrev pub is_aligned : ℕ → ℕ → Bool
is_aligned address size = address % 2 ^ size == 0

-- L4: the address isn't aligned to the size
abbrev pub breaks_l4 : {w : ℕ} → Beat w → Bool
breaks_l4 (beat.A x) = not (is_aligned x.address x.size)
breaks_l4 (beat.B x) = not (is_aligned x.address x.size)
breaks_l4 (beat.C x) = not (is_aligned x.address x.size)
breaks_l4 _ = false

-- ---- L5: masks

-- The lane carries a byte of the message. A message with at least the bytes of a beat has all lanes, a smaller one
-- those of its addresses.
abbrev pub is_lane : ℕ → ℕ → ℕ → ℕ → Bool
is_lane w size address lane =
    if nat_le w (2 ^ size) then nat_lt lane w
    else nat_le (address % w) lane && nat_lt lane (address % w + 2 ^ size)

-- the test is true of each number below n
unfoldable pub each_below : ℕ → (ℕ → Bool) → Bool
each_below zero test = true
each_below (suc n) test = test n && each_below n test

-- each of the 16 bits of the mask is set exactly if its lane carries a byte
abbrev pub is_full_mask : ℕ → ℕ → ℕ → ℕ → Bool
is_full_mask w size address mask = each_below 16 (λ lane. beq (bit mask lane) (is_lane w size address lane))

-- each bit that is set, of the 16 bits of the mask, is that of a lane that carries a byte
abbrev pub is_part_mask : ℕ → ℕ → ℕ → ℕ → Bool
is_part_mask w size address mask = each_below 16 (λ lane. not (bit mask lane) || is_lane w size address lane)

-- the masks of an opcode on channel A: PutPartialData may leave lanes out, the others have all lanes
abbrev pub a_has_mask : ℕ → OpA → ℕ → ℕ → ℕ → Bool
a_has_mask w a.PutPartialData size address mask = is_part_mask w size address mask
a_has_mask w _ size address mask = is_full_mask w size address mask

-- L5: the mask doesn't fit size and address
abbrev pub breaks_l5 : {w : ℕ} → Beat w → Bool
breaks_l5 {w} (beat.A x) = not (a_has_mask w x.opcode x.size x.address x.mask)
breaks_l5 {w} (beat.B x) = not (is_full_mask w x.size x.address x.mask)
breaks_l5 _ = false

-- ---- L6: corrupt and denied

-- an answer to an access may be denied; with data it must be corrupt then
abbrev pub may_be_denied : OpD → Bool → Bool
may_be_denied d.AccessAck corrupt = true
may_be_denied d.AccessAckData corrupt = corrupt
may_be_denied d.HintAck corrupt = true
may_be_denied _ corrupt = false

-- L6: corrupt without data, or denied on an opcode that may not be denied
abbrev pub breaks_l6 : {w : ℕ} → Beat w → Bool
breaks_l6 (beat.A x) = x.corrupt && not (a_carries_data x.opcode)
breaks_l6 (beat.B x) = x.corrupt && not (b_carries_data x.opcode)
breaks_l6 (beat.C x) = x.corrupt && not (c_carries_data x.opcode)
breaks_l6 (beat.D x) = (x.corrupt && not (d_carries_data x.opcode))
    || (x.denied && not (may_be_denied x.opcode x.corrupt))
breaks_l6 (beat.E x) = false

-- ---- the first rule

-- the first L rule that the beat breaks, in the order L1, L7, L2, L3, L4, L5, L6
unfoldable pub illegal : {w : ℕ} → Level → Channel → Beat w → Option Rule
illegal l ch x =
    first_if (breaks_l1 l ch x) L1
    (first_if (breaks_l7 x) L7
    (first_if (breaks_l2 x) L2
    (first_if (breaks_l3 l x) L3
    (first_if (breaks_l4 x) L4
    (first_if (breaks_l5 x) L5
    (first_if (breaks_l6 x) L6 None))))))

-- the first L rule that one of these beats breaks, in the order of the beats
unfoldable pub first_illegal : {w : ℕ} → Level → Channel → List (Beat w) → Option Rule
first_illegal l ch [] = None
first_illegal l ch (x ∷ xs) = option_or (illegal l ch x) (first_illegal l ch xs)

-- n beats of a message from beat i on
unfoldable pub beats_from : {w : ℕ} → Message w → ℕ → ℕ → List (Beat w)
beats_from m i zero = []
beats_from m i (suc n) = beat_of m i ∷ beats_from m (i + 1) n

-- the first L rule that a beat of the message breaks, in the order of its beats
abbrev pub illegal_message : {w : ℕ} → Level → Channel → Message w → Option Rule
illegal_message l ch m = first_illegal l ch (beats_from m 0 (beats_of m))
