-- The channel of a beat, and its control fields, which all beats of a burst have in common.
use Rattle.std.specs.Prelude.{ℕ, Bool, false, ◌==◌, ◌&&◌}
use Rattle.std.specs.Bool.{beq}
use Rattle.tl_beat.specs.declared.beat.Beat.{Beat}
use Rattle.tl_beat.specs.declared.beat.Beat.TheVariants as beat
use Rattle.tl_beat.specs.declared.channel.Channel.{Channel}
use Rattle.tl_beat.specs.declared.channel.Channel.TheVariants as channel
use Rattle.tl_beat.specs.declared.control.Control.{Control}
use Rattle.tl_beat.specs.declared.control.Control.TheVariants.{A, B, C, D, E}
use Rattle.tl_beat.specs.statement.Opcode.{a_code, b_code, c_code, d_code}

-- the channel of a beat
abbrev pub channel_of : {w : ℕ} → Beat w → Channel
channel_of (beat.A x) = channel.A
channel_of (beat.B x) = channel.B
channel_of (beat.C x) = channel.C
channel_of (beat.D x) = channel.D
channel_of (beat.E x) = channel.E

-- the control fields of a beat
abbrev pub control_of : {w : ℕ} → Beat w → Control
control_of (beat.A x) =
    A (record { opcode = x.opcode; param = x.param; size = x.size; source = x.source; address = x.address })
control_of (beat.B x) =
    B (record { opcode = x.opcode; param = x.param; size = x.size; source = x.source; address = x.address })
control_of (beat.C x) =
    C (record { opcode = x.opcode; param = x.param; size = x.size; source = x.source; address = x.address })
control_of (beat.D x) =
    D (record {
      opcode = x.opcode;
      param = x.param;
      size = x.size;
      source = x.source;
      sink = x.sink;
      denied =
          x.denied;
    })
control_of (beat.E x) = E x.sink

-- the beat has these control fields
abbrev pub has_control : {w : ℕ} → Beat w → Control → Bool
has_control (beat.A x) (A y) =
    (a_code x.opcode == a_code y.opcode)
    && ((x.param == y.param) && ((x.size == y.size) && ((x.source == y.source) && (x.address == y.address))))
has_control (beat.B x) (B y) =
    (b_code x.opcode == b_code y.opcode)
    && ((x.param == y.param) && ((x.size == y.size) && ((x.source == y.source) && (x.address == y.address))))
has_control (beat.C x) (C y) =
    (c_code x.opcode == c_code y.opcode)
    && ((x.param == y.param) && ((x.size == y.size) && ((x.source == y.source) && (x.address == y.address))))
has_control (beat.D x) (D y) =
    (d_code x.opcode == d_code y.opcode)
    && ((x.param == y.param)
    && ((x.size == y.size) && ((x.source == y.source) && ((x.sink == y.sink) && beq x.denied y.denied))))
has_control (beat.E x) (E sink) = x.sink == sink
has_control _ _ = false
