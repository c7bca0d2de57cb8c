-- How a line is read, by the pieces between its spaces.
use Rattle.std.specs.Prelude.{◌≡◌, refl, ℕ, ◌/◌, Bool, true, false, not, ◌||◌, List, [], ◌∷◌, length, Option, Some}
use Rattle.std.specs.Prelude.{None, is_some, Result, Ok, Err, nat_lt, ok_or, if◌then◌else◌}
use Rattle.std.specs.Io.BufRead.{ends_with_byte}
use Rattle.tl_beat.specs.declared.beat.Link.{Link}
use Rattle.tl_beat.specs.declared.beat.BeatA.{BeatA}
use Rattle.tl_beat.specs.declared.beat.BeatB.{BeatB}
use Rattle.tl_beat.specs.declared.beat.BeatC.{BeatC}
use Rattle.tl_beat.specs.declared.beat.BeatD.{BeatD}
use Rattle.tl_beat.specs.declared.beat.Beat.{Beat}
use Rattle.tl_beat.specs.declared.beat.Beat.TheVariants as beat
use Rattle.tl_beat.specs.declared.channel.Channel.{Channel}
use Rattle.tl_beat.specs.declared.channel.Channel.TheVariants as channel
use Rattle.tl_beat.specs.declared.fault.LineFault.{LineFault}
use Rattle.tl_beat.specs.declared.fault.LineFault.TheVariants.{F1, F2, F3, F4, F5, F6}
use Rattle.tl_beat.specs.statement.Opcode.{a_carries_data, b_carries_data, c_carries_data, d_carries_data, a_with}
use Rattle.tl_beat.specs.statement.Opcode.{b_with, c_with, d_with}
use Rattle.tl_beat.specs.statement.Digits.{is_digits, value_of, is_data, data_of, is_bit, bit_of}
use Rattle.tl_beat.specs.statement.Line.{field, pieces, channel_named, without_last}

infixl 10 ◌>>=◌
abbrev pub ◌>>=◌ : {A B : Type 0} → Result A LineFault → (A → Result B LineFault) → Result B LineFault
(Ok x) >>= f = f x
(Err e) >>= f = Err e

-- ---- the value of one field

abbrev pub number_in : ℕ → List ℕ → Result ℕ LineFault
number_in n field = if is_digits n field then Ok (value_of field) else Err F3

abbrev pub data_in : ℕ → List ℕ → Result (Option (List ℕ)) LineFault
data_in w field = if is_data w field then Ok (data_of field) else Err F3

abbrev pub bit_in : List ℕ → Result Bool LineFault
bit_in field = if is_bit field then Ok (bit_of field) else Err F3

-- ---- a beat of numbers: opcode in use, param at most the channel's greatest, data if the opcode has it

abbrev pub at_most : ℕ → ℕ → Result ℕ LineFault
at_most greatest param = if nat_lt greatest param then Err F5 else Ok param

-- a proof that two answers agree, or F6
abbrev pub agreement : (b c : Bool) → Result (b ≡ c) LineFault
agreement true true = Ok refl
agreement false false = Ok refl
agreement true false = Err F6
agreement false true = Err F6

abbrev pub made_a : {w : ℕ} → ℕ → ℕ → ℕ → ℕ → ℕ → ℕ → Option (List ℕ) → Bool → Result (BeatA w) LineFault
made_a opcode param size source address mask lanes corrupt = do
  opcode ← ok_or (a_with opcode) F4
  param ← at_most 7 param
  carries ← agreement (is_some lanes) (a_carries_data opcode)
  Ok (record {
    opcode = opcode;
    param = param;
    size = size;
    source = source;
    address = address;
    mask = mask;
    lanes =
        lanes;
    corrupt = corrupt;
    carries = carries;
  })

abbrev pub made_b : {w : ℕ} → ℕ → ℕ → ℕ → ℕ → ℕ → ℕ → Option (List ℕ) → Bool → Result (BeatB w) LineFault
made_b opcode param size source address mask lanes corrupt = do
  opcode ← ok_or (b_with opcode) F4
  param ← at_most 7 param
  carries ← agreement (is_some lanes) (b_carries_data opcode)
  Ok (record {
    opcode = opcode;
    param = param;
    size = size;
    source = source;
    address = address;
    mask = mask;
    lanes =
        lanes;
    corrupt = corrupt;
    carries = carries;
  })

abbrev pub made_c : {w : ℕ} → ℕ → ℕ → ℕ → ℕ → ℕ → Option (List ℕ) → Bool → Result (BeatC w) LineFault
made_c opcode param size source address lanes corrupt = do
  opcode ← ok_or (c_with opcode) F4
  param ← at_most 7 param
  carries ← agreement (is_some lanes) (c_carries_data opcode)
  Ok (record {
    opcode = opcode;
    param = param;
    size = size;
    source = source;
    address = address;
    lanes = lanes;
    corrupt =
        corrupt;
    carries = carries;
  })

abbrev pub made_d : {w : ℕ} → ℕ → ℕ → ℕ → ℕ → ℕ → Bool → Option (List ℕ) → Bool → Result (BeatD w) LineFault
made_d opcode param size source sink denied lanes corrupt = do
  opcode ← ok_or (d_with opcode) F4
  param ← at_most 3 param
  carries ← agreement (is_some lanes) (d_carries_data opcode)
  Ok (record {
    opcode = opcode;
    param = param;
    size = size;
    source = source;
    sink = sink;
    denied = denied;
    lanes =
        lanes;
    corrupt = corrupt;
    carries = carries;
  })

-- ---- the beat of a channel's fields

abbrev pub linked : {w : ℕ} → ℕ → Beat w → Link × Beat w
linked link beat = (record { 0 = link }, beat)

unfoldable pub reading_a : {w : ℕ} → List (List ℕ) → Result (Link × Beat w) LineFault
reading_a {w} (link ∷ letter ∷ opcode ∷ param ∷ size ∷ source ∷ address ∷ mask ∷ lanes ∷ corrupt ∷ []) = do
  link ← number_in 2 link
  opcode ← number_in 1 opcode
  param ← number_in 1 param
  size ← number_in 1 size
  source ← number_in 2 source
  address ← number_in 8 address
  mask ← number_in (w / 4) mask
  lanes ← data_in w lanes
  corrupt ← bit_in corrupt
  x ← made_a opcode param size source address mask lanes corrupt
  Ok (linked link (beat.A x))
reading_a _ = Err F1

unfoldable pub reading_b : {w : ℕ} → List (List ℕ) → Result (Link × Beat w) LineFault
reading_b {w} (link ∷ letter ∷ opcode ∷ param ∷ size ∷ source ∷ address ∷ mask ∷ lanes ∷ corrupt ∷ []) = do
  link ← number_in 2 link
  opcode ← number_in 1 opcode
  param ← number_in 1 param
  size ← number_in 1 size
  source ← number_in 2 source
  address ← number_in 8 address
  mask ← number_in (w / 4) mask
  lanes ← data_in w lanes
  corrupt ← bit_in corrupt
  x ← made_b opcode param size source address mask lanes corrupt
  Ok (linked link (beat.B x))
reading_b _ = Err F1

unfoldable pub reading_c : {w : ℕ} → List (List ℕ) → Result (Link × Beat w) LineFault
reading_c {w} (link ∷ letter ∷ opcode ∷ param ∷ size ∷ source ∷ address ∷ lanes ∷ corrupt ∷ []) = do
  link ← number_in 2 link
  opcode ← number_in 1 opcode
  param ← number_in 1 param
  size ← number_in 1 size
  source ← number_in 2 source
  address ← number_in 8 address
  lanes ← data_in w lanes
  corrupt ← bit_in corrupt
  x ← made_c opcode param size source address lanes corrupt
  Ok (linked link (beat.C x))
reading_c _ = Err F1

unfoldable pub reading_d : {w : ℕ} → List (List ℕ) → Result (Link × Beat w) LineFault
reading_d {w} (link ∷ letter ∷ opcode ∷ param ∷ size ∷ source ∷ sink ∷ denied ∷ lanes ∷ corrupt ∷ []) = do
  link ← number_in 2 link
  opcode ← number_in 1 opcode
  param ← number_in 1 param
  size ← number_in 1 size
  source ← number_in 2 source
  sink ← number_in 2 sink
  denied ← bit_in denied
  lanes ← data_in w lanes
  corrupt ← bit_in corrupt
  x ← made_d opcode param size source sink denied lanes corrupt
  Ok (linked link (beat.D x))
reading_d _ = Err F1

unfoldable pub reading_e : {w : ℕ} → List (List ℕ) → Result (Link × Beat w) LineFault
reading_e (link ∷ letter ∷ sink ∷ []) = do
  link ← number_in 2 link
  sink ← number_in 2 sink
  Ok (linked link (beat.E (record { sink = sink })))
reading_e _ = Err F1

-- ---- a line

abbrev pub reading_on : {w : ℕ} → Option Channel → List (List ℕ) → Result (Link × Beat w) LineFault
reading_on None fields = Err F2
reading_on (Some channel.A) fields = reading_a fields
reading_on (Some channel.B) fields = reading_b fields
reading_on (Some channel.C) fields = reading_c fields
reading_on (Some channel.D) fields = reading_d fields
reading_on (Some channel.E) fields = reading_e fields

unfoldable pub reading_fields : {w : ℕ} → List (List ℕ) → Result (Link × Beat w) LineFault
reading_fields fields = if nat_lt (length fields) 2 then Err F1 else reading_on (channel_named (field fields 1)) fields

-- how a line with its line feed is read, if beats have w bytes
unfoldable pub reading : (w : ℕ) → List ℕ → Result (Link × Beat w) LineFault
reading w line =
    if nat_lt 256 (length line) || not (ends_with_byte 10 line) then Err F1 else reading_fields
    (pieces (without_last line))
