-- The fields of a beat in C.
use Rattle.std.specs.Prelude.{ℕ, Bool, List, ◌≡◌, ◌++◌, ◌-◌, replicate, Option, Some, None, if◌then◌else◌}
use Rattle.tl_beat.specs.declared.beat.Beat.{Beat}
use Rattle.tl_beat.specs.declared.beat.Beat.TheVariants as beat
use Rattle.tl_beat.specs.declared.beat.BeatA.{BeatA}
use Rattle.tl_beat.specs.declared.beat.BeatB.{BeatB}
use Rattle.tl_beat.specs.declared.beat.BeatC.{BeatC}
use Rattle.tl_beat.specs.declared.beat.BeatD.{BeatD}
use Rattle.tl_beat.specs.statement.Opcode.{a_code, b_code, c_code, d_code}
use Rattle.tl_pictures.specs.declared.answer.Answer.{Answer}
use Rattle.tl_pictures.specs.declared.picture.Picture.{Picture}
use Rattle.tl_pictures.specs.statement.Answer.{ok, nothing}

-- the lanes of a beat of w bytes, then zeros; all zeros without data
abbrev pub lanes_shown : ℕ → Option (List ℕ) → List ℕ
lanes_shown w None = replicate 16 0
lanes_shown w (Some lanes) = lanes ++ replicate (16 - w) 0

-- 1 for true, 0 for false
abbrev pub flag : Bool → ℕ
flag set = if set then 1 else 0

-- the fields of a beat of channel A
abbrev pub a_depicted : {w : ℕ} → BeatA w → Picture
a_depicted {w} x = record {
  lanes = lanes_shown w x.lanes;
  address = x.address;
  mask = x.mask;
  channel = 0;
  opcode = a_code x.opcode;
  param = x.param;
  size = x.size;
  source = x.source;
  sink = 0;
  denied = 0;
  corrupt = flag x.corrupt;
}

-- the fields of a beat of channel B
abbrev pub b_depicted : {w : ℕ} → BeatB w → Picture
b_depicted {w} x = record {
  lanes = lanes_shown w x.lanes;
  address = x.address;
  mask = x.mask;
  channel = 1;
  opcode = b_code x.opcode;
  param = x.param;
  size = x.size;
  source = x.source;
  sink = 0;
  denied = 0;
  corrupt = flag x.corrupt;
}

-- the fields of a beat of channel C
abbrev pub c_depicted : {w : ℕ} → BeatC w → Picture
c_depicted {w} x = record {
  lanes = lanes_shown w x.lanes;
  address = x.address;
  mask = 0;
  channel = 2;
  opcode = c_code x.opcode;
  param = x.param;
  size = x.size;
  source = x.source;
  sink = 0;
  denied = 0;
  corrupt = flag x.corrupt;
}

-- the fields of a beat of channel D
abbrev pub d_depicted : {w : ℕ} → BeatD w → Picture
d_depicted {w} x = record {
  lanes = lanes_shown w x.lanes;
  address = 0;
  mask = 0;
  channel = 3;
  opcode = d_code x.opcode;
  param = x.param;
  size = x.size;
  source = x.source;
  sink = x.sink;
  denied = flag x.denied;
  corrupt = flag x.corrupt;
}

-- the fields of a beat; a field that its channel doesn't have is 0
abbrev pub depicted : {w : ℕ} → Beat w → Picture
depicted (beat.A x) = a_depicted x
depicted (beat.B x) = b_depicted x
depicted (beat.C x) = c_depicted x
depicted (beat.D x) = d_depicted x
depicted (beat.E x) = record {
  lanes = replicate 16 0;
  address = 0;
  mask = 0;
  channel = 4;
  opcode = 0;
  param = 0;
  size = 0;
  source = 0;
  sink = x.sink;
  denied = 0;
  corrupt = 0;
}

-- the beat is written to the picture, if there is one
abbrev pub ShowsBeat : {w : ℕ} → Option (Beat w) → Picture → Picture → Answer → Type 0
ShowsBeat None was picture answer = (answer ≡ nothing) × (picture ≡ was)
ShowsBeat (Some x) was picture answer = (answer ≡ ok) × (picture ≡ depicted x)
