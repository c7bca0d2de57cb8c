-- The one line of text that spells a wide beat, and the fault of a line that spells none.
use Rattle.std.specs.Prelude.{◌≡◌, ◌<◌, ◌^◌, ◌/◌, ℕ, Bool, not, ◌||◌, List, [], ◌∷◌, ◌++◌, length, Option, Some, None, nat_lt}
use Rattle.std.specs.Prelude.{◌==◌, ⊤}
use Rattle.std.specs.Io.BufRead.{ends_with_byte}
use Rattle.tl_beat.specs.declared.beat.Link.{Link}
use Rattle.tl_beat.specs.declared.channel.Channel.{Channel}
use Rattle.tl_beat.specs.declared.channel.Channel.TheVariants as channel
use Rattle.tl_beat.specs.declared.fault.LineFault.{LineFault}
use Rattle.tl_beat.specs.declared.fault.LineFault.TheVariants.{F1, F2, F3}
use Rattle.tl_beat.specs.statement.Digits.{digits, lanes_text, bit_text, is_digits, is_data, is_bit}
use Rattle.tl_beat.specs.statement.First.{first_if}
use Rattle.tl_beat.specs.statement.Line.{AreLanes, are_of_form, channel_named, field, is_any, letter, pieces, spaced}
use Rattle.tl_beat.specs.statement.Line.{value_fault, without_last}
use Rattle.tl_beat.specs.statement.Opcode.{a_code, b_code, c_code, d_code}
use Rattle.tl_wide.specs.declared.beat.WideBeat.{WideBeat}
use Rattle.tl_wide.specs.declared.beat.WideBeat.TheVariants as wide

-- ---- the spelling

-- the fields that lines of channels A to D begin with
abbrev pub head_fields : Link → Channel → ℕ → ℕ → ℕ → ℕ → List (List ℕ)
head_fields link channel code param size source =
    digits 2 link.0 ∷ letter channel ∷ digits 1 code ∷ digits 1 param ∷ digits 1 size ∷ digits 4 source ∷ []

-- the fields of a wide beat's line: those of a beat's line, with more digits of address, source, sink and mask
abbrev pub wide_fields : {w : ℕ} → Link → WideBeat w → List (List ℕ)
wide_fields {w} link (wide.A x) =
    head_fields link channel.A (a_code x.opcode) x.param x.size x.source
    ++ (digits 16 x.address ∷ digits (w / 4) x.mask ∷ lanes_text x.lanes ∷ bit_text x.corrupt ∷ [])
wide_fields {w} link (wide.B x) =
    head_fields link channel.B (b_code x.opcode) x.param x.size x.source
    ++ (digits 16 x.address ∷ digits (w / 4) x.mask ∷ lanes_text x.lanes ∷ bit_text x.corrupt ∷ [])
wide_fields link (wide.C x) =
    head_fields link channel.C (c_code x.opcode) x.param x.size x.source
    ++ (digits 16 x.address ∷ lanes_text x.lanes ∷ bit_text x.corrupt ∷ [])
wide_fields link (wide.D x) =
    head_fields link channel.D (d_code x.opcode) x.param x.size x.source
    ++ (digits 4 x.sink ∷ bit_text x.denied ∷ lanes_text x.lanes ∷ bit_text x.corrupt ∷ [])
wide_fields link (wide.E x) = digits 2 link.0 ∷ letter channel.E ∷ digits 4 x.sink ∷ []

-- the line of a wide beat: its fields, and a line feed
abbrev pub wide_line : {w : ℕ} → Link → WideBeat w → List ℕ
wide_line link beat = spaced (wide_fields link beat) ++ 10 ∷ []

-- param, size and mask fit into their fields
abbrev pub IsWideWritable : {w : ℕ} → WideBeat w → Type 0
IsWideWritable {w} (wide.A x) = (x.param < 8) × (x.size < 16) × (x.mask < 2 ^ w)
IsWideWritable {w} (wide.B x) = (x.param < 8) × (x.size < 16) × (x.mask < 2 ^ w)
IsWideWritable (wide.C x) = (x.param < 8) × (x.size < 16)
IsWideWritable (wide.D x) = (x.param < 4) × (x.size < 16)
IsWideWritable (wide.E x) = ⊤

-- each number is within its type, as a program's values are
abbrev pub IsWideInRange : {w : ℕ} → WideBeat w → Type 0
IsWideInRange {w} (wide.A x) = (x.source < 2 ^ 16) × (x.address < 2 ^ 64) × AreLanes w x.lanes
IsWideInRange {w} (wide.B x) = (x.source < 2 ^ 16) × (x.address < 2 ^ 64) × AreLanes w x.lanes
IsWideInRange {w} (wide.C x) = (x.source < 2 ^ 16) × (x.address < 2 ^ 64) × AreLanes w x.lanes
IsWideInRange {w} (wide.D x) = (x.source < 2 ^ 16) × (x.sink < 2 ^ 16) × AreLanes w x.lanes
IsWideInRange (wide.E x) = x.sink < 2 ^ 16

-- the line is that of the wide beat on the link
pub record WideSpells {w : ℕ} (line : List ℕ) (link : Link) (beat : WideBeat w) : Type 0 where
  pub is_line : line ≡ wide_line link beat
  pub link_in_range : link.0 < 2 ^ 8
  pub writable : IsWideWritable beat
  pub in_range : IsWideInRange beat

-- ---- the fault of a line

-- the forms of the fields that lines of channels A to D begin with
abbrev pub head_forms : List (List ℕ → Bool)
head_forms = is_digits 2 ∷ is_any ∷ is_digits 1 ∷ is_digits 1 ∷ is_digits 1 ∷ is_digits 4 ∷ []

-- the forms of a channel's fields, for beats of w bytes
abbrev pub wide_forms : ℕ → Channel → List (List ℕ → Bool)
wide_forms w channel.A = head_forms ++ (is_digits 16 ∷ is_digits (w / 4) ∷ is_data w ∷ is_bit ∷ [])
wide_forms w channel.B = head_forms ++ (is_digits 16 ∷ is_digits (w / 4) ∷ is_data w ∷ is_bit ∷ [])
wide_forms w channel.C = head_forms ++ (is_digits 16 ∷ is_data w ∷ is_bit ∷ [])
wide_forms w channel.D = head_forms ++ (is_digits 4 ∷ is_bit ∷ is_data w ∷ is_bit ∷ [])
wide_forms w channel.E = is_digits 2 ∷ is_any ∷ is_digits 4 ∷ []

-- the first fault of a line of this channel, which its second field names, if it names one
abbrev pub wide_channel_fault : ℕ → Option Channel → List (List ℕ) → Option LineFault
wide_channel_fault w None fields = Some F2
wide_channel_fault w (Some channel) fields =
    first_if (not (length fields == length (wide_forms w channel))) F1
    (first_if (not (are_of_form (wide_forms w channel) fields)) F3 (value_fault channel fields))

-- the first fault of a line with these fields
abbrev pub wide_fields_fault : ℕ → List (List ℕ) → Option LineFault
wide_fields_fault w fields =
    first_if (nat_lt (length fields) 2) F1 (wide_channel_fault w (channel_named (field fields 1)) fields)

-- the first fault of a line, for beats of w bytes; None if it spells a wide beat
abbrev pub wide_line_fault : ℕ → List ℕ → Option LineFault
wide_line_fault w line = first_if (nat_lt 256 (length line) || not (ends_with_byte 10 line)) F1
    (wide_fields_fault w (pieces (without_last line)))
