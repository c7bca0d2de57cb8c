-- The one line of text that spells a beat, and the fault of a line that spells none.
use Rattle.std.specs.Prelude.{◌≡◌, ◌<◌, ◌^◌, ◌-◌, ◌/◌, ℕ, Bool, true, false, not, ◌&&◌, ◌||◌, List, [], ◌∷◌, ◌++◌}
use Rattle.std.specs.Prelude.{length, take, All, Option, Some, None}
use Rattle.std.specs.Prelude.{is_none, option_map, nat_lt, ◌==◌, if◌then◌else◌, slice_index_or, ⊤}
use Rattle.std.specs.List.{find}
use Rattle.std.specs.Io.BufRead.{ends_with_byte}
use Rattle.tl_beat.specs.declared.beat.Link.{Link}
use Rattle.tl_beat.specs.declared.beat.Beat.{Beat}
use Rattle.tl_beat.specs.declared.beat.Beat.TheVariants as beat
use Rattle.tl_beat.specs.declared.channel.Channel.{Channel}
use Rattle.tl_beat.specs.declared.channel.Channel.TheVariants as channel
use Rattle.tl_beat.specs.declared.fault.LineFault.{LineFault}
use Rattle.tl_beat.specs.declared.fault.LineFault.TheVariants.{F1, F2, F3, F4, F5, F6}
use Rattle.tl_beat.specs.statement.Opcode.{a_code, b_code, c_code, d_code, a_carries_data, b_carries_data}
use Rattle.tl_beat.specs.statement.Opcode.{c_carries_data, d_carries_data, a_with, b_with, c_with, d_with}
use Rattle.tl_beat.specs.statement.First.{first_if}
use Rattle.tl_beat.specs.statement.Names.{letter_of}
use Rattle.tl_beat.specs.statement.Digits.{digits, lanes_text, bit_text, is_digits, value_of, is_data, is_dash, is_bit}

-- ---- the spelling

-- the field that names a channel
abbrev pub letter : Channel → List ℕ
letter c = letter_of c ∷ []

-- the fields of a beat's line
abbrev pub fields_of : {w : ℕ} → Link → Beat w → List (List ℕ)
fields_of {w} link (beat.A x) =
    digits 2 link.0 ∷ letter channel.A ∷ digits 1 (a_code x.opcode) ∷ digits 1 x.param ∷ digits 1 x.size ∷ digits 2
    x.source ∷ digits 8 x.address
    ∷ digits (w / 4) x.mask ∷ lanes_text x.lanes ∷ bit_text x.corrupt ∷ []
fields_of {w} link (beat.B x) =
    digits 2 link.0 ∷ letter channel.B ∷ digits 1 (b_code x.opcode) ∷ digits 1 x.param ∷ digits 1 x.size ∷ digits 2
    x.source ∷ digits 8 x.address
    ∷ digits (w / 4) x.mask ∷ lanes_text x.lanes ∷ bit_text x.corrupt ∷ []
fields_of {w} link (beat.C x) =
    digits 2 link.0 ∷ letter channel.C ∷ digits 1 (c_code x.opcode) ∷ digits 1 x.param ∷ digits 1 x.size ∷ digits 2
    x.source ∷ digits 8 x.address
    ∷ lanes_text x.lanes ∷ bit_text x.corrupt ∷ []
fields_of {w} link (beat.D x) =
    digits 2 link.0 ∷ letter channel.D ∷ digits 1 (d_code x.opcode) ∷ digits 1 x.param ∷ digits 1 x.size ∷ digits 2
    x.source ∷ digits 2 x.sink
    ∷ bit_text x.denied ∷ lanes_text x.lanes ∷ bit_text x.corrupt ∷ []
fields_of {w} link (beat.E x) = digits 2 link.0 ∷ letter channel.E ∷ digits 2 x.sink ∷ []

-- fields in a row, with a space between each two
unfoldable pub spaced : List (List ℕ) → List ℕ
spaced [] = []
spaced (field ∷ []) = field
spaced (field ∷ next ∷ fields) = field ++ 32 ∷ spaced (next ∷ fields)

-- the line of a beat: its fields, and a line feed
abbrev pub line_of : {w : ℕ} → Link → Beat w → List ℕ
line_of link beat = spaced (fields_of link beat) ++ 10 ∷ []

-- param, size and mask fit into their fields
abbrev pub IsWritable : {w : ℕ} → Beat w → Type 0
IsWritable {w} (beat.A x) = (x.param < 8) × (x.size < 16) × (x.mask < 2 ^ w)
IsWritable {w} (beat.B x) = (x.param < 8) × (x.size < 16) × (x.mask < 2 ^ w)
IsWritable {w} (beat.C x) = (x.param < 8) × (x.size < 16)
IsWritable {w} (beat.D x) = (x.param < 4) × (x.size < 16)
IsWritable {w} (beat.E x) = ⊤

-- w lanes of a byte each, if there are lanes
abbrev pub AreLanes : ℕ → Option (List ℕ) → Type 0
AreLanes w None = ⊤
AreLanes w (Some lanes) = (length lanes ≡ w) × All (λ lane. lane < 2 ^ 8) lanes

-- each number is within its type, as a program's values are
abbrev pub IsInRange : {w : ℕ} → Beat w → Type 0
IsInRange {w} (beat.A x) = (x.source < 2 ^ 8) × (x.address < 2 ^ 32) × AreLanes w x.lanes
IsInRange {w} (beat.B x) = (x.source < 2 ^ 8) × (x.address < 2 ^ 32) × AreLanes w x.lanes
IsInRange {w} (beat.C x) = (x.source < 2 ^ 8) × (x.address < 2 ^ 32) × AreLanes w x.lanes
IsInRange {w} (beat.D x) = (x.source < 2 ^ 8) × (x.sink < 2 ^ 8) × AreLanes w x.lanes
IsInRange {w} (beat.E x) = x.sink < 2 ^ 8

-- the line is that of the beat on the link
pub record Spells {w : ℕ} (line : List ℕ) (link : Link) (beat : Beat w) : Type 0 where
  pub is_line : line ≡ line_of link beat
  pub link_in_range : link.0 < 2 ^ 8
  pub writable : IsWritable beat
  pub in_range : IsInRange beat

-- ---- the fault of a line

-- the character before the first piece
abbrev pub onto_first : ℕ → List (List ℕ) → List (List ℕ)
onto_first c [] = (c ∷ []) ∷ []
onto_first c (piece ∷ pieces) = (c ∷ piece) ∷ pieces

-- the pieces between spaces: two spaces in a row have an empty piece between them
unfoldable pub pieces : List ℕ → List (List ℕ)
pieces [] = [] ∷ []
pieces (c ∷ cs) = if c == 32 then [] ∷ pieces cs else onto_first c (pieces cs)

-- the field at this place, counted from 0; an empty one after the last
abbrev pub field : List (List ℕ) → ℕ → List ℕ
field fields i = slice_index_or fields i []

-- the channels in order of rising priority
abbrev pub channels : List Channel
channels = channel.A ∷ channel.B ∷ channel.C ∷ channel.D ∷ channel.E ∷ []

-- the channel whose letter this field is
abbrev pub channel_named : List ℕ → Option Channel
channel_named [] = None
channel_named (c ∷ []) = find (λ channel. c == letter_of channel) channels
channel_named (c ∷ d ∷ cs) = None

-- any field
abbrev pub is_any : List ℕ → Bool
is_any field = true

-- the forms of a channel's fields, for beats of w bytes
abbrev pub forms : ℕ → Channel → List (List ℕ → Bool)
forms w channel.A = is_digits 2 ∷ is_any ∷ is_digits 1 ∷ is_digits 1 ∷ is_digits 1 ∷ is_digits 2 ∷ is_digits
    8 ∷ is_digits (w / 4) ∷ is_data w ∷ is_bit ∷ []
forms w channel.B = is_digits 2 ∷ is_any ∷ is_digits 1 ∷ is_digits 1 ∷ is_digits 1 ∷ is_digits 2 ∷ is_digits
    8 ∷ is_digits (w / 4) ∷ is_data w ∷ is_bit ∷ []
forms w channel.C = is_digits 2 ∷ is_any ∷ is_digits 1 ∷ is_digits 1 ∷ is_digits 1 ∷ is_digits 2 ∷ is_digits 8 ∷ is_data
    w ∷ is_bit ∷ []
forms w channel.D = is_digits 2 ∷ is_any ∷ is_digits 1 ∷ is_digits 1 ∷ is_digits 1 ∷ is_digits 2 ∷ is_digits
    2 ∷ is_bit ∷ is_data w ∷ is_bit ∷ []
forms w channel.E = is_digits 2 ∷ is_any ∷ is_digits 2 ∷ []

-- each form has a field, which is of it
abbrev pub are_of_form : List (List ℕ → Bool) → List (List ℕ) → Bool
are_of_form [] fields = true
are_of_form (is_form ∷ forms) [] = false
are_of_form (is_form ∷ forms) (field ∷ fields) = is_form field && are_of_form forms fields

-- whether the opcode carries data, if a channel has an opcode with this code
abbrev pub carries_with : Channel → ℕ → Option Bool
carries_with channel.A code = option_map a_carries_data (a_with code)
carries_with channel.B code = option_map b_carries_data (b_with code)
carries_with channel.C code = option_map c_carries_data (c_with code)
carries_with channel.D code = option_map d_carries_data (d_with code)
carries_with channel.E code = None

-- the greatest param that fits into a channel's field
abbrev pub greatest_param : Channel → ℕ
greatest_param channel.D = 3
greatest_param _ = 7

-- the place of the data among a channel's fields
abbrev pub data_place : Channel → ℕ
data_place channel.C = 7
data_place _ = 8

-- digits for an opcode that carries no data, or a dash for one that does
abbrev pub is_misplaced : Option Bool → List ℕ → Bool
is_misplaced None field = false
is_misplaced (Some true) field = is_dash field
is_misplaced (Some false) field = not (is_dash field)

-- the first fault of the values of a line that has its channel's form: an opcode that isn't in use, a param beyond the
-- channel's width, data for an opcode that carries none, or no data for one that does
abbrev pub opcode_fault : Channel → List (List ℕ) → Option LineFault
opcode_fault channel fields =
    first_if (is_none (carries_with channel (value_of (field fields 2)))) F4
    (first_if (nat_lt (greatest_param channel) (value_of (field fields 3))) F5
    (first_if (is_misplaced (carries_with channel (value_of (field fields 2))) (field fields (data_place channel))) F6
    None))

-- the first fault of the values of a line; those of channel E have none
abbrev pub value_fault : Channel → List (List ℕ) → Option LineFault
value_fault channel.E fields = None
value_fault channel fields = opcode_fault channel fields

-- the first fault of a line of this channel, which its second field names, if it names one
abbrev pub channel_fault : ℕ → Option Channel → List (List ℕ) → Option LineFault
channel_fault w None fields = Some F2
channel_fault w (Some channel) fields =
    first_if (not (length fields == length (forms w channel))) F1
    (first_if (not (are_of_form (forms w channel) fields)) F3 (value_fault channel fields))

-- the first fault of a line with these fields
abbrev pub fields_fault : ℕ → List (List ℕ) → Option LineFault
fields_fault w fields = first_if (nat_lt (length fields) 2) F1 (channel_fault w (channel_named (field fields 1)) fields)

-- the line without its last byte
abbrev pub without_last : List ℕ → List ℕ
without_last line = take (length line - 1) line

-- the first fault of a line, for beats of w bytes; None if it spells a beat
abbrev pub line_fault : ℕ → List ℕ → Option LineFault
line_fault w line = first_if (nat_lt 256 (length line) || not (ends_with_byte 10 line)) F1
    (fields_fault w (pieces (without_last line)))
