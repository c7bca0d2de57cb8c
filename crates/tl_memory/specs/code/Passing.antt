-- Beats that pass each block by, and those that change what their link holds.
use Rattle.std.specs.Prelude.{ℕ, Bool, true, false, not, ◌&&◌, ◌||◌, if◌then◌else◌}
use Rattle.tl_beat.specs.declared.beat.Beat.{Beat}
use Rattle.tl_beat.specs.declared.beat.Beat.TheVariants as beat
use Rattle.tl_beat.specs.declared.beat.BeatA.{BeatA}
use Rattle.tl_beat.specs.declared.opcode.OpD.{OpD}
use Rattle.tl_beat.specs.declared.opcode.OpD.TheVariants as d
use Rattle.tl_beat.specs.declared.channel.Channel.TheVariants as channel
use Rattle.tl_burst.specs.statement.Messages.{History, unfinished}
use Rattle.tl_rules.specs.statement.Conformance.{comes_in_grant, comes_in_release}
use Rattle.tl_rules.specs.statement.History.{begins, ends, is_acquire, is_grant, is_release_ack}
use Rattle.tl_rules.specs.statement.Liberties.{grows_from_none}
use Rattle.tl_bytes.specs.statement.Bytes.{asks}

-- an Acquire from nothing held: with it all that its link held of the block may have been given up before
abbrev pub acquires_from_none : {w : ℕ} → BeatA w → Bool
acquires_from_none y = is_acquire y.opcode && grows_from_none y.param

-- the response brings what an access finds
abbrev pub is_answer : OpD → Bool
is_answer d.AccessAck = true
is_answer d.AccessAckData = true
is_answer _ = false

-- With the beat no access is asked for, nothing acquired from nothing held, no report complete, no response begun or
-- complete, and no Grant acknowledged that isn't complete, nor does it bring what an access finds: so it is with those
-- in the middle of a message.
abbrev pub passes_by : {w : ℕ} → Beat w → History w → Bool
passes_by (beat.A y) past = not (acquires_from_none y) && not (asks y past)
passes_by (beat.C y) past = not (ends (beat.C y) past)
passes_by (beat.D y) past = not ((begins (beat.D y) past || ends (beat.D y) past) || is_answer y.opcode)
passes_by (beat.E y) past = not (comes_in_grant y.sink (unfinished channel.D past))
passes_by _ past = true

-- with the beat its link may hold more or less of the block that it bears on: it acquires from nothing held, or a report
-- is complete, or a Grant, or it answers a Release or a Grant that isn't complete
abbrev pub changes_held : {w : ℕ} → Beat w → History w → Bool
changes_held (beat.A y) past = acquires_from_none y
changes_held (beat.C y) past = ends (beat.C y) past
changes_held (beat.D y) past =
    if is_release_ack y.opcode then comes_in_release y.source (unfinished channel.C past)
    else is_grant y.opcode && ends (beat.D y) past
changes_held (beat.E y) past = comes_in_grant y.sink (unfinished channel.D past)
changes_held _ past = false
