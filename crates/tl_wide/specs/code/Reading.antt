-- How a wide line is read, by the pieces between its spaces.
use Rattle.std.specs.Prelude.{ℕ, ◌/◌, Bool, not, ◌||◌, List, [], ◌∷◌, length, Option, Some, None, is_some, Result, Ok}
use Rattle.std.specs.Prelude.{Err, nat_lt, ok_or, if◌then◌else◌}
use Rattle.std.specs.Io.BufRead.{ends_with_byte}
use Rattle.tl_beat.specs.declared.beat.Link.{Link}
use Rattle.tl_beat.specs.declared.channel.Channel.{Channel}
use Rattle.tl_beat.specs.declared.channel.Channel.TheVariants as channel
use Rattle.tl_beat.specs.declared.fault.LineFault.{LineFault}
use Rattle.tl_beat.specs.declared.fault.LineFault.TheVariants.{F1, F2, F4}
use Rattle.tl_beat.specs.code.Reading.{◌>>=◌, number_in, data_in, bit_in, at_most, agreement}
use Rattle.tl_beat.specs.statement.Opcode.{a_carries_data, b_carries_data, c_carries_data, d_carries_data, a_with}
use Rattle.tl_beat.specs.statement.Opcode.{b_with, c_with, d_with}
use Rattle.tl_beat.specs.statement.Line.{field, pieces, channel_named, without_last}
use Rattle.tl_wide.specs.declared.beat.WideBeat.{WideBeat}
use Rattle.tl_wide.specs.declared.beat.WideBeat.TheVariants as wide
use Rattle.tl_wide.specs.declared.beat.WideBeatA.{WideBeatA}
use Rattle.tl_wide.specs.declared.beat.WideBeatB.{WideBeatB}
use Rattle.tl_wide.specs.declared.beat.WideBeatC.{WideBeatC}
use Rattle.tl_wide.specs.declared.beat.WideBeatD.{WideBeatD}

-- ---- a beat of numbers: opcode in use, param at most the channel's greatest, data if the opcode has it

abbrev pub made_a : {w : ℕ} → ℕ → ℕ → ℕ → ℕ → ℕ → ℕ → Option (List ℕ) → Bool → Result (WideBeatA w) LineFault
made_a opcode param size source address mask lanes corrupt = do
  opcode ← ok_or (a_with opcode) F4
  param ← at_most 7 param
  carries ← agreement (is_some lanes) (a_carries_data opcode)
  Ok (record {
    opcode = opcode;
    param = param;
    size = size;
    source = source;
    address = address;
    mask = mask;
    lanes =
        lanes;
    corrupt = corrupt;
    carries = carries;
  })

abbrev pub made_b : {w : ℕ} → ℕ → ℕ → ℕ → ℕ → ℕ → ℕ → Option (List ℕ) → Bool → Result (WideBeatB w) LineFault
made_b opcode param size source address mask lanes corrupt = do
  opcode ← ok_or (b_with opcode) F4
  param ← at_most 7 param
  carries ← agreement (is_some lanes) (b_carries_data opcode)
  Ok (record {
    opcode = opcode;
    param = param;
    size = size;
    source = source;
    address = address;
    mask = mask;
    lanes =
        lanes;
    corrupt = corrupt;
    carries = carries;
  })

abbrev pub made_c : {w : ℕ} → ℕ → ℕ → ℕ → ℕ → ℕ → Option (List ℕ) → Bool → Result (WideBeatC w) LineFault
made_c opcode param size source address lanes corrupt = do
  opcode ← ok_or (c_with opcode) F4
  param ← at_most 7 param
  carries ← agreement (is_some lanes) (c_carries_data opcode)
  Ok (record {
    opcode = opcode;
    param = param;
    size = size;
    source = source;
    address = address;
    lanes = lanes;
    corrupt =
        corrupt;
    carries = carries;
  })

abbrev pub made_d : {w : ℕ} → ℕ → ℕ → ℕ → ℕ → ℕ → Bool → Option (List ℕ) → Bool → Result (WideBeatD w) LineFault
made_d opcode param size source sink denied lanes corrupt = do
  opcode ← ok_or (d_with opcode) F4
  param ← at_most 3 param
  carries ← agreement (is_some lanes) (d_carries_data opcode)
  Ok (record {
    opcode = opcode;
    param = param;
    size = size;
    source = source;
    sink = sink;
    denied = denied;
    lanes =
        lanes;
    corrupt = corrupt;
    carries = carries;
  })

-- ---- the beat of a channel's fields

abbrev pub linked : {w : ℕ} → ℕ → WideBeat w → Link × WideBeat w
linked link beat = (record { 0 = link }, beat)

unfoldable pub reading_a : {w : ℕ} → List (List ℕ) → Result (Link × WideBeat w) LineFault
reading_a {w} (link ∷ letter ∷ opcode ∷ param ∷ size ∷ source ∷ address ∷ mask ∷ lanes ∷ corrupt ∷ []) = do
  link ← number_in 2 link
  opcode ← number_in 1 opcode
  param ← number_in 1 param
  size ← number_in 1 size
  source ← number_in 4 source
  address ← number_in 16 address
  mask ← number_in (w / 4) mask
  lanes ← data_in w lanes
  corrupt ← bit_in corrupt
  x ← made_a opcode param size source address mask lanes corrupt
  Ok (linked link (wide.A x))
reading_a _ = Err F1

unfoldable pub reading_b : {w : ℕ} → List (List ℕ) → Result (Link × WideBeat w) LineFault
reading_b {w} (link ∷ letter ∷ opcode ∷ param ∷ size ∷ source ∷ address ∷ mask ∷ lanes ∷ corrupt ∷ []) = do
  link ← number_in 2 link
  opcode ← number_in 1 opcode
  param ← number_in 1 param
  size ← number_in 1 size
  source ← number_in 4 source
  address ← number_in 16 address
  mask ← number_in (w / 4) mask
  lanes ← data_in w lanes
  corrupt ← bit_in corrupt
  x ← made_b opcode param size source address mask lanes corrupt
  Ok (linked link (wide.B x))
reading_b _ = Err F1

unfoldable pub reading_c : {w : ℕ} → List (List ℕ) → Result (Link × WideBeat w) LineFault
reading_c {w} (link ∷ letter ∷ opcode ∷ param ∷ size ∷ source ∷ address ∷ lanes ∷ corrupt ∷ []) = do
  link ← number_in 2 link
  opcode ← number_in 1 opcode
  param ← number_in 1 param
  size ← number_in 1 size
  source ← number_in 4 source
  address ← number_in 16 address
  lanes ← data_in w lanes
  corrupt ← bit_in corrupt
  x ← made_c opcode param size source address lanes corrupt
  Ok (linked link (wide.C x))
reading_c _ = Err F1

unfoldable pub reading_d : {w : ℕ} → List (List ℕ) → Result (Link × WideBeat w) LineFault
reading_d {w} (link ∷ letter ∷ opcode ∷ param ∷ size ∷ source ∷ sink ∷ denied ∷ lanes ∷ corrupt ∷ []) = do
  link ← number_in 2 link
  opcode ← number_in 1 opcode
  param ← number_in 1 param
  size ← number_in 1 size
  source ← number_in 4 source
  sink ← number_in 4 sink
  denied ← bit_in denied
  lanes ← data_in w lanes
  corrupt ← bit_in corrupt
  x ← made_d opcode param size source sink denied lanes corrupt
  Ok (linked link (wide.D x))
reading_d _ = Err F1

unfoldable pub reading_e : {w : ℕ} → List (List ℕ) → Result (Link × WideBeat w) LineFault
reading_e (link ∷ letter ∷ sink ∷ []) = do
  link ← number_in 2 link
  sink ← number_in 4 sink
  Ok (linked link (wide.E (record { sink = sink })))
reading_e _ = Err F1

-- ---- a line

abbrev pub reading_on : {w : ℕ} → Option Channel → List (List ℕ) → Result (Link × WideBeat w) LineFault
reading_on None fields = Err F2
reading_on (Some channel.A) fields = reading_a fields
reading_on (Some channel.B) fields = reading_b fields
reading_on (Some channel.C) fields = reading_c fields
reading_on (Some channel.D) fields = reading_d fields
reading_on (Some channel.E) fields = reading_e fields

unfoldable pub reading_fields : {w : ℕ} → List (List ℕ) → Result (Link × WideBeat w) LineFault
reading_fields fields = if nat_lt (length fields) 2 then Err F1 else reading_on (channel_named (field fields 1)) fields

-- how a line with its line feed is read, if wide beats have w bytes
unfoldable pub reading : (w : ℕ) → List ℕ → Result (Link × WideBeat w) LineFault
reading w line =
    if nat_lt 256 (length line) || not (ends_with_byte 10 line) then Err F1 else reading_fields
    (pieces (without_last line))
