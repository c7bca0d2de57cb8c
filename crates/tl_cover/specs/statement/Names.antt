-- The names of situations in the report, and their sentences.
use Rattle.std.specs.Prelude.{ℕ, List, ◌++◌, codes, Option, Some, None}
use Rattle.tl_cover.specs.declared.situation.Bytes.{Bytes}
use Rattle.tl_cover.specs.declared.situation.Bytes.TheVariants as bytes
use Rattle.tl_cover.specs.declared.situation.Lanes.{Lanes}
use Rattle.tl_cover.specs.declared.situation.Lanes.TheVariants as lanes
use Rattle.tl_cover.specs.declared.situation.Situation.{Situation}
use Rattle.tl_cover.specs.declared.situation.Situation.TheVariants as situation
use Rattle.tl_cover.specs.declared.situation.Depth.{Depth}
use Rattle.tl_cover.specs.declared.situation.Depth.TheVariants as depth
use Rattle.tl_cover.specs.declared.situation.Pending.{Pending}
use Rattle.tl_cover.specs.declared.situation.Pending.TheVariants as pending
use Rattle.tl_cover.specs.declared.situation.Wait.{Wait}
use Rattle.tl_cover.specs.declared.situation.Wait.TheVariants as wait
use Rattle.tl_cover.specs.declared.message.Param.{Param}
use Rattle.tl_cover.specs.statement.Messages.{fields, letter, opcode_name, param_name}
use Rattle.tl_params.specs.statement.Names.{arithmetic_name, cap_name, grow_name, logical_name, report_name}

-- the name of lanes in the name of a situation
abbrev pub lanes_name : Lanes → List ℕ
lanes_name lanes.Empty = codes "empty"
lanes_name lanes.Partial = codes "partial"
lanes_name lanes.Full = codes "full"

-- a number of bytes in the name of a situation
abbrev pub bytes_name : Bytes → List ℕ
bytes_name bytes.One = codes "1"
bytes_name bytes.Two = codes "2"
bytes_name bytes.Four = codes "4"
bytes_name bytes.Eight = codes "8"
bytes_name bytes.Sixteen = codes "16"
bytes_name bytes.ThirtyTwo = codes "32"
bytes_name bytes.SixtyFour = codes "64"

-- a range of numbers of beats in the name of a situation
abbrev pub wait_name : Wait → List ℕ
wait_name wait.None = codes "0"
wait_name wait.One = codes "1"
wait_name wait.Two = codes "2-3"
wait_name wait.Four = codes "4-7"
wait_name wait.Eight = codes "8-15"
wait_name wait.Sixteen = codes "16-31"
wait_name wait.ThirtyTwo = codes "32-63"
wait_name wait.SixtyFour = codes "64-127"
wait_name wait.Longer = codes "128-up"

-- a kind of messages that can be pending in the name of a situation
abbrev pub pending_name : Pending → List ℕ
pending_name pending.Acquire = codes "acquire"
pending_name pending.Get = codes "get"
pending_name pending.Put = codes "put"
pending_name pending.Atomic = codes "atomic"
pending_name pending.Release = codes "release"
pending_name pending.Probe = codes "probe"
pending_name pending.Grant = codes "grant"

-- a range of numbers of messages in the name of a situation
abbrev pub depth_name : Depth → List ℕ
depth_name depth.One = codes "1"
depth_name depth.Two = codes "2"
depth_name depth.Four = codes "3-4"
depth_name depth.Eight = codes "5-8"
depth_name depth.Sixteen = codes "9-16"
depth_name depth.More = codes "17-up"

-- the first word of a situation's name
abbrev pub word : Situation → List ℕ
word situation.ProbeBesideRelease = codes "probe-beside-release"
word situation.ReleaseBesideProbe = codes "release-beside-probe"
word situation.ProbeBesideAcquire = codes "probe-beside-acquire"
word situation.ProbeBesideUpgrade = codes "probe-beside-upgrade"
word situation.ProbeOfNothing = codes "probe-of-nothing"
word situation.UpgradeLostWithData = codes "upgrade-lost-data"
word situation.UpgradeLostWithoutData = codes "upgrade-lost-no-data"
word situation.ReleaseBeforeGrantAck = codes "release-before-grant-ack"
word situation.TwoGrants = codes "two-grants"
word situation.FourGrants = codes "four-grants"
word (situation.Acquired grow) = codes "acquire"
word (situation.Granted grow) = codes "grant"
word (situation.Probed cap) = codes "probe"
word (situation.Reported report) = codes "report"
word (situation.Released report) = codes "release"
word situation.AccessBesideTransfer = codes "access-beside-transfer"
word situation.AccessOfHeldBlock = codes "access-of-held-block"
word (situation.Masked lanes) = codes "mask"
word (situation.GetOf bytes) = codes "get"
word (situation.PutOf bytes) = codes "put"
word (situation.AtomicOf bytes) = codes "atomic"
word (situation.Arithmetic operation) = codes "arithmetic"
word (situation.Logical operation) = codes "logical"
word situation.ResponseAtOnce = codes "response-at-once"
word situation.GrantAckLater = codes "grant-ack-later"
word situation.Contention = codes "contention"
word situation.ThreeContend = codes "three-contend"
word situation.ReadOfOwned = codes "read-of-owned"
word situation.WriteToOwned = codes "write-to-owned"
word situation.AtomicOnOwned = codes "atomic-on-owned"
word situation.WriteToShared = codes "write-to-shared"
word situation.ReportBesideGrant = codes "report-beside-grant"
word situation.BetweenBursts = codes "between-bursts"
word situation.EarlyResponse = codes "early-response"
word situation.EarlyGrantAck = codes "early-grant-ack"
word situation.ProbeWithSource = codes "probe-with-source"
word situation.SinkWithoutGrant = codes "sink-without-grant"
word situation.GrantOfMore = codes "grant-of-more"
word situation.CopyDropped = codes "copy-dropped"
word situation.GrantDenied = codes "grant-denied"
word situation.DeniedUncorrupt = codes "denied-uncorrupt"
word (situation.Sent kind) = letter kind
word (situation.Answered report cap) = codes "report"
word (situation.Waited wait) = codes "waited"
word (situation.Aligned bytes many) = codes "access"
word (situation.Among kind depth) = codes "pending"

-- the detail that distinguishes situations with the same first word
abbrev pub detail : Situation → Option (List ℕ)
detail (situation.Acquired grow) = Some (grow_name grow)
detail (situation.Granted grow) = Some (grow_name grow)
detail (situation.Probed cap) = Some (cap_name cap)
detail (situation.Reported report) = Some (report_name report)
detail (situation.Released report) = Some (report_name report)
detail (situation.Masked lanes) = Some (lanes_name lanes)
detail (situation.GetOf bytes) = Some (bytes_name bytes)
detail (situation.PutOf bytes) = Some (bytes_name bytes)
detail (situation.AtomicOf bytes) = Some (bytes_name bytes)
detail (situation.Arithmetic operation) = Some (arithmetic_name operation)
detail (situation.Logical operation) = Some (logical_name operation)
detail (situation.Sent kind) = Some (opcode_name kind)
detail (situation.Answered report cap) = Some (report_name report)
detail (situation.Waited wait) = Some (wait_name wait)
detail (situation.Aligned bytes many) = Some (bytes_name bytes)
detail (situation.Among kind depth) = Some (pending_name kind)
detail _ = None

-- the names of the param and of the bytes of a message
abbrev pub param_of : Option (Param × Bytes) → Option (List ℕ)
param_of None = None
param_of (Some f) = param_name f.0

abbrev pub bytes_of : Option (Param × Bytes) → Option (List ℕ)
bytes_of None = None
bytes_of (Some f) = Some (bytes_name f.1)

-- the second detail
abbrev pub second : Situation → Option (List ℕ)
second (situation.Sent kind) = param_of (fields kind)
second (situation.Answered report cap) = Some (cap_name cap)
second (situation.Aligned bytes many) = Some (codes "at")
second (situation.Among kind depth) = Some (depth_name depth)
second _ = None

-- the third detail
abbrev pub third : Situation → Option (List ℕ)
third (situation.Sent kind) = bytes_of (fields kind)
third (situation.Aligned bytes many) = Some (bytes_name many)
third _ = None

-- a text with a detail after a dash, if there is one
abbrev pub with_detail : List ℕ → Option (List ℕ) → List ℕ
with_detail text None = text
with_detail text (Some more) = text ++ codes "-" ++ more

-- a situation's name, such as report-TtoN or A-AcquireBlock-NtoB-64
abbrev pub name : Situation → List ℕ
name s = with_detail (with_detail (with_detail (word s) (detail s)) (second s)) (third s)

-- the sentence of a situation
abbrev pub sentence : Situation → List ℕ
sentence situation.ProbeBesideRelease = codes "a Probe while a Release of its block is pending"
sentence situation.ReleaseBesideProbe = codes "a Release while a Probe of its block is pending"
sentence situation.ProbeBesideAcquire = codes "a Probe of a block that the link asks for and doesn't hold"
sentence situation.ProbeBesideUpgrade = codes "a Probe of a block that the link asks for and holds as Branch"
sentence situation.ProbeOfNothing = codes "a Probe of a block that the link doesn't hold"
sentence situation.UpgradeLostWithData = codes "a GrantData for an Acquire BtoT whose copy was lost meanwhile"
sentence situation.UpgradeLostWithoutData = codes "a Grant for an Acquire BtoT whose copy was lost meanwhile"
sentence situation.ReleaseBeforeGrantAck = codes "a Release while the GrantAck of its block is pending"
sentence situation.TwoGrants = codes "a Grant while at least one other waits for its GrantAck on the link"
sentence situation.FourGrants = codes "a Grant while at least three others wait for their GrantAcks on the link"
sentence (situation.Acquired grow) = codes "an Acquire that asks for this growth"
sentence (situation.Granted grow) = codes "a Grant that lets what the link holds grow so"
sentence (situation.Probed cap) = codes "a Probe with this cap"
sentence (situation.Reported report) = codes "a ProbeAck with this report"
sentence (situation.Released report) = codes "a Release with this report"
sentence situation.AccessBesideTransfer =
    codes "an access while an Acquire or a Release of its block is pending on the link"
sentence situation.AccessOfHeldBlock = codes "an access to a block that its own link holds"
sentence (situation.Masked lanes) = codes "a PutPartialData whose first mask names this many lanes"
sentence (situation.GetOf bytes) = codes "a Get of this many bytes"
sentence (situation.PutOf bytes) = codes "a Put of this many bytes"
sentence (situation.AtomicOf bytes) = codes "an atomic of this many bytes"
sentence (situation.Arithmetic operation) = codes "an ArithmeticData of this operation"
sentence (situation.Logical operation) = codes "a LogicalData of this operation"
sentence situation.ResponseAtOnce = codes "a response right after a beat of its request or Release"
sentence situation.GrantAckLater = codes "a GrantAck right after a beat that isn't of channel D"
sentence situation.Contention = codes "an Acquire while an Acquire of its block is pending on at least one other link"
sentence situation.ThreeContend = codes "an Acquire while Acquires of its block are pending on at least two other links"
sentence situation.ReadOfOwned = codes "a Get from a block that another link holds as Trunk"
sentence situation.WriteToOwned = codes "a Put to a block that another link holds as Trunk"
sentence situation.AtomicOnOwned = codes "an atomic on a block that another link holds as Trunk"
sentence situation.WriteToShared = codes "a Put to a block that at least two other links hold as Branch"
sentence situation.ReportBesideGrant = codes "a ProbeAckData between the beats of another link's Grant"
sentence situation.BetweenBursts = codes "a Probe or a GrantAck between the beats of messages of A, C and D"
sentence situation.EarlyResponse = codes "a response before the last beat of its request or Release"
sentence situation.EarlyGrantAck = codes "a GrantAck before the last beat of its Grant"
sentence situation.ProbeWithSource = codes "a Probe whose source isn't 0"
sentence situation.SinkWithoutGrant = codes "a response that grants nothing, and whose sink isn't 0"
sentence situation.GrantOfMore = codes "a Grant toT for an Acquire NtoB"
sentence situation.CopyDropped = codes "an Acquire NtoB or NtoT, or a report NtoN, of a block that the link held"
sentence situation.GrantDenied = codes "a Grant that is denied"
sentence situation.DeniedUncorrupt = codes "a denied AccessAckData that isn't corrupt"
sentence (situation.Sent kind) = codes "a message of this channel, opcode, param and number of bytes"
sentence (situation.Answered report cap) = codes "a ProbeAck with this report, to a Probe with this cap"
sentence (situation.Waited wait) = codes "a ProbeAck so many beats of the trace after its Probe"
sentence (situation.Aligned bytes many) =
    codes "an access of this many bytes whose address this many divide, and no more up to 64"
sentence (situation.Among kind depth) =
    codes "a message of this kind; with it this many of its kind are pending on the link"
