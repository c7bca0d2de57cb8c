-- The messages of a trace. Traces have the newest beat first, lists of messages the oldest message.
use Rattle.std.specs.Prelude.{ℕ, Bool, true, false, not, List, [], ◌∷◌, ◌++◌, ◌==◌, ◌&&◌, if◌then◌else◌, map, Option, None}
use Rattle.tl_beat.specs.declared.beat.Beat.{Beat}
use Rattle.tl_beat.specs.declared.beat.Beat.TheVariants as beat
use Rattle.tl_beat.specs.declared.beat.Link.{Link}
use Rattle.tl_beat.specs.declared.channel.Channel.{Channel}
use Rattle.tl_beat.specs.declared.channel.Channel.TheVariants as channel
use Rattle.tl_beat.specs.declared.control.Control.{Control}
use Rattle.tl_beat.specs.declared.control.Control.TheVariants as control
use Rattle.tl_beat.specs.statement.Control.{control_of}
use Rattle.tl_burst.specs.statement.Messages.{History, burst_length, on}
use Rattle.tl_burst.specs.statement.Part.{is_small}
use Rattle.tl_chart.specs.declared.arrow.Arrow.{Arrow}
use Rattle.tl_explain.specs.statement.Subject.{block_of}
use Rattle.tl_explain.specs.statement.Evidence.{next_line}
use Rattle.tl_rules.specs.statement.Conformance.{Trace, on_link}
use Rattle.tl_rules.specs.statement.History.{begins, ends, is_grant}

-- the channel of a beat, by its control fields
abbrev pub channel_in : Control → Channel
channel_in (control.A x) = channel.A
channel_in (control.B x) = channel.B
channel_in (control.C x) = channel.C
channel_in (control.D x) = channel.D
channel_in (control.E x) = channel.E

-- the block of the last Grant that began with this sink
unfoldable pub block_granted : {w : ℕ} → ℕ → History w → Option ℕ
block_granted s [] = None
block_granted s (beat.D x ∷ t) =
    if begins (beat.D x) t && (is_grant x.opcode && (x.sink == s)) then block_of (beat.D x) t else block_granted s t
block_granted s (_ ∷ t) = block_granted s t

-- the block of a beat's message: that of its address, or of the message that it answers
abbrev pub message_block : {w : ℕ} → Beat w → History w → Option ℕ
message_block (beat.A x) t = block_of (beat.A x) t
message_block (beat.B x) t = block_of (beat.B x) t
message_block (beat.C x) t = block_of (beat.C x) t
message_block (beat.D x) t = block_of (beat.D x) t
message_block (beat.E x) t = block_granted x.sink t

-- the number of beats of its message; 1 for a size above 6
abbrev pub beats_in : {w : ℕ} → Beat w → ℕ
beats_in x = if is_small x then burst_length x else 1

-- the message that begins with the beat x after t
abbrev pub message_from : {w : ℕ} → Link × Beat w → Trace w → Arrow
message_from x t = record {
  link = x.0;
  control = control_of x.1;
  block = message_block x.1 (on_link x.0.0 t);
  beats = beats_in x.1;
  first = next_line t;
  last = next_line t;
  complete = ends x.1 (on_link x.0.0 t);
  answered = false;
}

-- the beat x after t, which is at fault, as a message of its own, drawn as complete
abbrev pub fault_from : {w : ℕ} → Link × Beat w → Trace w → Arrow
fault_from x t = record {
  link = x.0;
  control = control_of x.1;
  block = message_block x.1 (on_link x.0.0 t);
  beats = beats_in x.1;
  first = next_line t;
  last = next_line t;
  complete = true;
  answered = false;
}

-- the beat x is of this message: it has the same link and channel, and beats of the message are missing
abbrev pub is_of : {w : ℕ} → Link × Beat w → Arrow → Bool
is_of x m = (m.link.0 == x.0.0) && (on (channel_in m.control) x.1 && not m.complete)

-- the message after the beat x after t, changed if the beat is of it
abbrev pub continued : {w : ℕ} → Link × Beat w → Trace w → Arrow → Arrow
continued x t m =
    if is_of x m then record m { last = next_line t; complete = ends x.1 (on_link x.0.0 t) } else m

-- The messages of a trace, each once, in the order of their first beats.
unfoldable pub messages : {w : ℕ} → Trace w → List Arrow
messages [] = []
messages (x ∷ t) =
    if begins x.1 (on_link x.0.0 t) then messages t ++ message_from x t ∷ [] else map (continued x t) (messages t)
