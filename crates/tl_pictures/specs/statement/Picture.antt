-- The beat by its fields in a picture, if they are within their ranges.
use Rattle.std.specs.Prelude.{ℕ, Bool, true, false, ◌&&◌, ◌==◌, ◌^◌, ◌≡◌, refl, List, [], ◌∷◌, drop, slice_range}
use Rattle.std.specs.Prelude.{nat_lt, Option, Some, None, is_some, if◌then◌else◌}
use Rattle.tl_beat.specs.declared.beat.Beat.{Beat}
use Rattle.tl_beat.specs.declared.beat.Beat.TheVariants as beat
use Rattle.tl_beat.specs.declared.beat.BeatA.{BeatA}
use Rattle.tl_beat.specs.declared.beat.BeatB.{BeatB}
use Rattle.tl_beat.specs.declared.beat.BeatC.{BeatC}
use Rattle.tl_beat.specs.declared.beat.BeatD.{BeatD}
use Rattle.tl_beat.specs.declared.opcode.OpA.{OpA}
use Rattle.tl_beat.specs.declared.opcode.OpB.{OpB}
use Rattle.tl_beat.specs.declared.opcode.OpC.{OpC}
use Rattle.tl_beat.specs.declared.opcode.OpD.{OpD}
use Rattle.tl_beat.specs.statement.Opcode.{a_with, b_with, c_with, d_with, a_carries_data, b_carries_data}
use Rattle.tl_beat.specs.statement.Opcode.{c_carries_data, d_carries_data}
use Rattle.tl_pictures.specs.declared.picture.Picture.{Picture}

-- each byte is 0
abbrev pub all_zero : List ℕ → Bool
all_zero [] = true
all_zero (byte ∷ bytes) = byte == 0 && all_zero bytes

-- each byte from place n on is 0
abbrev pub is_zero_from : ℕ → List ℕ → Bool
is_zero_from n bytes = all_zero (drop n bytes)

-- the lanes of a beat of w bytes, if it carries data
abbrev pub lanes_in : Bool → ℕ → List ℕ → Option (List ℕ)
lanes_in true w bytes = Some (slice_range bytes 0 w)
lanes_in false w bytes = None

-- there are lanes exactly if the beat carries data
unfoldable pub some_lanes : (carries : Bool) (w : ℕ) (bytes : List ℕ) → is_some (lanes_in carries w bytes) ≡ carries
some_lanes true w bytes = refl
some_lanes false w bytes = refl

-- the bytes after the lanes are 0, and all bytes without data
abbrev pub lanes_fit : ℕ → Bool → List ℕ → Bool
lanes_fit w carries bytes = is_zero_from (if carries then w else 0) bytes

-- each field is within its range, and those that the channel doesn't have are 0
abbrev pub a_fits : ℕ → Bool → Picture → Bool
a_fits w carries x =
    nat_lt x.param 8 && nat_lt x.size 16 && nat_lt x.mask (2 ^ w) && x.sink == 0 && x.denied == 0 && nat_lt x.corrupt
    2 && lanes_fit w carries x.lanes

-- the same for channel C
abbrev pub c_fits : ℕ → Bool → Picture → Bool
c_fits w carries x =
    nat_lt x.param 8 && nat_lt x.size 16 && x.mask == 0 && x.sink == 0 && x.denied == 0 && nat_lt x.corrupt
    2 && lanes_fit w carries x.lanes

-- the same for channel D
abbrev pub d_fits : ℕ → Bool → Picture → Bool
d_fits w carries x =
    nat_lt x.param 4 && nat_lt x.size 16 && x.address == 0 && x.mask == 0 && nat_lt x.denied 2 && nat_lt x.corrupt
    2 && lanes_fit w carries x.lanes

-- the same for channel E
abbrev pub e_fits : Picture → Bool
e_fits x =
    x.opcode == 0 && x.param == 0 && x.size == 0 && x.source == 0 && x.address == 0 && x.mask == 0 && x.denied ==
    0 && x.corrupt == 0 && is_zero_from 0 x.lanes

-- the beat of channel A with this opcode and these fields
abbrev pub a_fields : (w : ℕ) → Picture → OpA → BeatA w
a_fields w x op = record {
  opcode = op;
  param = x.param;
  size = x.size;
  source = x.source;
  address = x.address;
  mask = x.mask;
  lanes = lanes_in (a_carries_data op) w x.lanes;
  corrupt = x.corrupt == 1;
  carries = some_lanes (a_carries_data op) w x.lanes;
}

-- the beat of channel A, if the opcode is in use and the fields are within their ranges
abbrev pub a_beat : (w : ℕ) → Picture → Option OpA → Option (Beat w)
a_beat w x None = None
a_beat w x (Some op) = if a_fits w (a_carries_data op) x then Some (beat.A (a_fields w x op)) else None

-- the beat of channel B with this opcode and these fields
abbrev pub b_fields : (w : ℕ) → Picture → OpB → BeatB w
b_fields w x op = record {
  opcode = op;
  param = x.param;
  size = x.size;
  source = x.source;
  address = x.address;
  mask = x.mask;
  lanes = lanes_in (b_carries_data op) w x.lanes;
  corrupt = x.corrupt == 1;
  carries = some_lanes (b_carries_data op) w x.lanes;
}

-- the beat of channel B, likewise; its fields have the ranges of channel A
abbrev pub b_beat : (w : ℕ) → Picture → Option OpB → Option (Beat w)
b_beat w x None = None
b_beat w x (Some op) = if a_fits w (b_carries_data op) x then Some (beat.B (b_fields w x op)) else None

-- the beat of channel C with this opcode and these fields
abbrev pub c_fields : (w : ℕ) → Picture → OpC → BeatC w
c_fields w x op = record {
  opcode = op;
  param = x.param;
  size = x.size;
  source = x.source;
  address = x.address;
  lanes = lanes_in (c_carries_data op) w x.lanes;
  corrupt = x.corrupt == 1;
  carries = some_lanes (c_carries_data op) w x.lanes;
}

-- the beat of channel C, likewise
abbrev pub c_beat : (w : ℕ) → Picture → Option OpC → Option (Beat w)
c_beat w x None = None
c_beat w x (Some op) = if c_fits w (c_carries_data op) x then Some (beat.C (c_fields w x op)) else None

-- the beat of channel D with this opcode and these fields
abbrev pub d_fields : (w : ℕ) → Picture → OpD → BeatD w
d_fields w x op = record {
  opcode = op;
  param = x.param;
  size = x.size;
  source = x.source;
  sink = x.sink;
  denied = x.denied == 1;
  lanes = lanes_in (d_carries_data op) w x.lanes;
  corrupt = x.corrupt == 1;
  carries = some_lanes (d_carries_data op) w x.lanes;
}

-- the beat of channel D, likewise
abbrev pub d_beat : (w : ℕ) → Picture → Option OpD → Option (Beat w)
d_beat w x None = None
d_beat w x (Some op) = if d_fits w (d_carries_data op) x then Some (beat.D (d_fields w x op)) else None

-- the beat of w bytes in a picture, if it is one; its channel is 0 for A to 4 for E
abbrev pub shown : (w : ℕ) → Picture → Option (Beat w)
shown w x =
    if x.channel == 0 then a_beat w x (a_with x.opcode) else
    if x.channel == 1 then b_beat w x (b_with x.opcode) else
    if x.channel == 2 then c_beat w x (c_with x.opcode) else
    if x.channel == 3 then d_beat w x (d_with x.opcode) else
    if x.channel == 4 then if e_fits x then Some (beat.E (record { sink = x.sink })) else None else None
