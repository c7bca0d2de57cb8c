-- The wide beat by its fields in a picture, if they are within their ranges.
use Rattle.std.specs.Prelude.{ℕ, Bool, true, false, ◌&&◌, ◌||◌, ◌==◌, ◌^◌, nat_lt, Option, Some, None}
use Rattle.std.specs.Prelude.{if◌then◌else◌}
use Rattle.tl_beat.specs.declared.channel.Channel.{Channel}
use Rattle.tl_beat.specs.declared.channel.Channel.TheVariants as channel
use Rattle.tl_beat.specs.declared.opcode.OpA.{OpA}
use Rattle.tl_beat.specs.declared.opcode.OpB.{OpB}
use Rattle.tl_beat.specs.declared.opcode.OpC.{OpC}
use Rattle.tl_beat.specs.declared.opcode.OpD.{OpD}
use Rattle.tl_beat.specs.statement.Opcode.{a_with, b_with, c_with, d_with, a_carries_data, b_carries_data}
use Rattle.tl_beat.specs.statement.Opcode.{c_carries_data, d_carries_data}
use Rattle.tl_wide.specs.declared.beat.WideBeat.{WideBeat}
use Rattle.tl_wide.specs.declared.beat.WideBeat.TheVariants as wide
use Rattle.tl_wide.specs.declared.beat.WideBeatA.{WideBeatA}
use Rattle.tl_wide.specs.declared.beat.WideBeatB.{WideBeatB}
use Rattle.tl_wide.specs.declared.beat.WideBeatC.{WideBeatC}
use Rattle.tl_wide.specs.declared.beat.WideBeatD.{WideBeatD}
use Rattle.tl_pictures.specs.declared.wide.Ranges.{Ranges}
use Rattle.tl_pictures.specs.declared.wide.WidePicture.{WidePicture}
use Rattle.tl_pictures.specs.statement.Picture.{lanes_fit, lanes_in, some_lanes}

-- the fields of a channel: the number of values of the small ones, and which of the others it has
abbrev pub ranges_of : Channel → Ranges
ranges_of channel.A = record {
  params = 8;
  sizes = 16;
  denials = 1;
  corruptions = 2;
  has_address = true;
  has_mask = true;
  has_source = true;
  has_sink = false;
}
ranges_of channel.B = record {
  params = 8;
  sizes = 16;
  denials = 1;
  corruptions = 2;
  has_address = true;
  has_mask = true;
  has_source = true;
  has_sink = false;
}
ranges_of channel.C = record {
  params = 8;
  sizes = 16;
  denials = 1;
  corruptions = 2;
  has_address = true;
  has_mask = false;
  has_source = true;
  has_sink = false;
}
ranges_of channel.D = record {
  params = 4;
  sizes = 16;
  denials = 2;
  corruptions = 2;
  has_address = false;
  has_mask = false;
  has_source = true;
  has_sink = true;
}
ranges_of channel.E = record {
  params = 1;
  sizes = 1;
  denials = 1;
  corruptions = 1;
  has_address = false;
  has_mask = false;
  has_source = false;
  has_sink = true;
}

-- each field is within its range, and those that the channel doesn't have are 0
abbrev pub fits : ℕ → Ranges → Bool → WidePicture → Bool
fits w r carries x =
    nat_lt x.param r.params && nat_lt x.size r.sizes && nat_lt x.denied r.denials && nat_lt x.corrupt r.corruptions
    && (r.has_address || x.address == 0) && (r.has_mask || x.mask == 0) && nat_lt x.mask (2 ^ w)
    && (r.has_source || x.source == 0) && (r.has_sink || x.sink == 0) && lanes_fit w carries x.lanes

-- the beat of channel A with this opcode and these fields
abbrev pub a_fields : (w : ℕ) → WidePicture → OpA → WideBeatA w
a_fields w x op = record {
  opcode = op;
  param = x.param;
  size = x.size;
  source = x.source;
  address = x.address;
  mask = x.mask;
  lanes = lanes_in (a_carries_data op) w x.lanes;
  corrupt = x.corrupt == 1;
  carries = some_lanes (a_carries_data op) w x.lanes;
}

abbrev pub a_where : (w : ℕ) → WidePicture → Option OpA → Option (WideBeat w)
a_where w x None = None
a_where w x (Some op) =
    if fits w (ranges_of channel.A) (a_carries_data op) x then Some (wide.A (a_fields w x op)) else None

-- the beat of channel A, if the opcode is in use and the fields are within their ranges
abbrev pub a_beat : (w : ℕ) → WidePicture → Option (WideBeat w)
a_beat w x = a_where w x (a_with x.opcode)

-- the beat of channel B with this opcode and these fields
abbrev pub b_fields : (w : ℕ) → WidePicture → OpB → WideBeatB w
b_fields w x op = record {
  opcode = op;
  param = x.param;
  size = x.size;
  source = x.source;
  address = x.address;
  mask = x.mask;
  lanes = lanes_in (b_carries_data op) w x.lanes;
  corrupt = x.corrupt == 1;
  carries = some_lanes (b_carries_data op) w x.lanes;
}

abbrev pub b_where : (w : ℕ) → WidePicture → Option OpB → Option (WideBeat w)
b_where w x None = None
b_where w x (Some op) =
    if fits w (ranges_of channel.B) (b_carries_data op) x then Some (wide.B (b_fields w x op)) else None

-- the beat of channel B, likewise
abbrev pub b_beat : (w : ℕ) → WidePicture → Option (WideBeat w)
b_beat w x = b_where w x (b_with x.opcode)

-- the beat of channel C with this opcode and these fields
abbrev pub c_fields : (w : ℕ) → WidePicture → OpC → WideBeatC w
c_fields w x op = record {
  opcode = op;
  param = x.param;
  size = x.size;
  source = x.source;
  address = x.address;
  lanes = lanes_in (c_carries_data op) w x.lanes;
  corrupt = x.corrupt == 1;
  carries = some_lanes (c_carries_data op) w x.lanes;
}

abbrev pub c_where : (w : ℕ) → WidePicture → Option OpC → Option (WideBeat w)
c_where w x None = None
c_where w x (Some op) =
    if fits w (ranges_of channel.C) (c_carries_data op) x then Some (wide.C (c_fields w x op)) else None

-- the beat of channel C, likewise
abbrev pub c_beat : (w : ℕ) → WidePicture → Option (WideBeat w)
c_beat w x = c_where w x (c_with x.opcode)

-- the beat of channel D with this opcode and these fields
abbrev pub d_fields : (w : ℕ) → WidePicture → OpD → WideBeatD w
d_fields w x op = record {
  opcode = op;
  param = x.param;
  size = x.size;
  source = x.source;
  sink = x.sink;
  denied = x.denied == 1;
  lanes = lanes_in (d_carries_data op) w x.lanes;
  corrupt = x.corrupt == 1;
  carries = some_lanes (d_carries_data op) w x.lanes;
}

abbrev pub d_where : (w : ℕ) → WidePicture → Option OpD → Option (WideBeat w)
d_where w x None = None
d_where w x (Some op) =
    if fits w (ranges_of channel.D) (d_carries_data op) x then Some (wide.D (d_fields w x op)) else None

-- the beat of channel D, likewise
abbrev pub d_beat : (w : ℕ) → WidePicture → Option (WideBeat w)
d_beat w x = d_where w x (d_with x.opcode)

-- the beat of channel E, a GrantAck, whose opcode is 0
abbrev pub e_beat : (w : ℕ) → WidePicture → Option (WideBeat w)
e_beat w x =
    if x.opcode == 0 && fits w (ranges_of channel.E) false x then Some (wide.E (record { sink = x.sink })) else None

-- the wide beat of w bytes in a picture, if it is one; its channel is 0 for A to 4 for E
abbrev pub shown_wide : (w : ℕ) → WidePicture → Option (WideBeat w)
shown_wide w x =
    if x.channel == 0 then a_beat w x else
    if x.channel == 1 then b_beat w x else
    if x.channel == 2 then c_beat w x else
    if x.channel == 3 then d_beat w x else if x.channel == 4 then e_beat w x else None
