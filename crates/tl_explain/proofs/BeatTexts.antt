-- The text of a beat, from the line that spells it.
use Rattle.std.proofs.Common.{◌≡◌, ℕ, ◌+◌, ◌-◌, ◌≤◌, ◌/◌, List, [], ◌∷◌, ◌++◌, length, refl, arith}
use Rattle.std.proofs.Common.{length-append, inl, inr}
use Rattle.std.specs.Prelude.{Bool, true, false, Option, None, Some}
use Rattle.tl_beat.specs.declared.beat.Link.{Link}
use Rattle.tl_beat.specs.declared.beat.BeatA.{BeatA}
use Rattle.tl_beat.specs.declared.beat.BeatB.{BeatB}
use Rattle.tl_beat.specs.declared.beat.BeatC.{BeatC}
use Rattle.tl_beat.specs.declared.beat.BeatD.{BeatD}
use Rattle.tl_beat.specs.declared.beat.BeatE.{BeatE}
use Rattle.tl_beat.specs.declared.beat.Beat.TheVariants.{A, B, C, D, E}
use Rattle.tl_beat.specs.statement.Digits.{digits, lanes_text, bit_text}
use Rattle.tl_beat.specs.statement.Line.{AreLanes, Spells, spaced}
use Rattle.tl_beat.specs.statement.Names.{a_name, b_name, c_name, d_name}
use Rattle.tl_beat.specs.statement.Opcode.{a_code, b_code, c_code, d_code}
use Rattle.tl_beat.specs.statement.Width.{IsWidth}
use Rattle.tl_explain.specs.declared.columns.TheConstants.{FIRST_FIELD, BEHIND_ADDRESS, BEHIND_DENIED, DATA_END}
use Rattle.tl_explain.specs.code.Cuts.{HasData, head_text, request_text, release_text, response_text}
use Rattle.tl_explain.specs.code.Cuts.{acknowledgement_text}
use Rattle.tl_explain.specs.statement.ParamNames.{a_param_name, b_param_name, c_param_name, d_param_name}
use Rattle.tl_explain.specs.statement.Text.{text_of}
use Rattle.tl_explain.proofs.Cuts.{request_line, request_is, release_is, response_is, acknowledgement_is}
use Rattle.tl_beat.proofs.SpelledDigits.{length-lane_digits}

pub text_a : {w : ℕ} (line : List ℕ) (link : Link) (x : BeatA w) → IsWidth w → Spells line link (A x)
    → request_text (w / 4) line (head_text line (a_name x.opcode)) (a_param_name x.opcode x.param) ≡ text_of link (A x)
text_a {w} line link x width s =
    rw s.is_line (request_is w width 65 link.0 (a_code x.opcode) (a_name x.opcode) (a_param_name x.opcode x.param)
    x.param x.size x.source x.address x.mask (lanes_text x.lanes) x.corrupt)

pub text_b : {w : ℕ} (line : List ℕ) (link : Link) (x : BeatB w) → IsWidth w → Spells line link (B x)
    → request_text (w / 4) line (head_text line (b_name x.opcode)) (b_param_name x.opcode x.param) ≡ text_of link (B x)
text_b {w} line link x width s =
    rw s.is_line (request_is w width 66 link.0 (b_code x.opcode) (b_name x.opcode) (b_param_name x.opcode x.param)
    x.param x.size x.source x.address x.mask (lanes_text x.lanes) x.corrupt)

pub text_c : {w : ℕ} (line : List ℕ) (link : Link) (x : BeatC w) → Spells line link (C x)
    → release_text line (head_text line (c_name x.opcode)) (c_param_name x.opcode x.param) ≡ text_of link (C x)
text_c {w} line link x s =
    release_is link.0 (c_code x.opcode) (c_name x.opcode) (c_param_name x.opcode x.param) x.param x.size
    x.source x.address (lanes_text x.lanes) x.corrupt line s.is_line

pub text_d : {w : ℕ} (line : List ℕ) (link : Link) (x : BeatD w) → Spells line link (D x)
    → response_text line (head_text line (d_name x.opcode)) (d_param_name x.opcode x.param) ≡ text_of link (D x)
text_d {w} line link x s =
    response_is link.0 (d_code x.opcode) (d_name x.opcode) (d_param_name x.opcode x.param) x.param x.size
    x.source x.sink x.denied (lanes_text x.lanes) x.corrupt line s.is_line

pub text_e : {w : ℕ} (line : List ℕ) (link : Link) (x : BeatE) → Spells {w = w} line link (E x)
    → acknowledgement_text line ≡ text_of {w = w} link (E x)
text_e {w} line link x s = rw s.is_line (acknowledgement_is link.0 x.sink)

-- ---- the lines have data at their ends

one_bit : (b : Bool) → length (bit_text b) ≡ 1
one_bit false = refl
one_bit true = refl

end_length : (d : List ℕ) (corrupt : Bool) → length ((d ++ 32 ∷ bit_text corrupt) ++ 10 ∷ []) ≡ length d + 3
end_length d corrupt = omega (
  arith,
  length-append (d ++ 32 ∷ bit_text corrupt) (10 ∷ []),
  length-append d
      (32 ∷ bit_text corrupt),
  one_bit corrupt,
)

data_of : (w : ℕ) (lanes : Option (List ℕ)) → AreLanes w lanes → HasData w (length (lanes_text lanes))
data_of w None are = inl refl
data_of w (Some lanes) are = inr (omega (arith, length-lane_digits lanes, are.0))

request_data : (w : ℕ) → IsWidth w → (letter link opcode param size source address mask : ℕ) (d : List ℕ)
    (corrupt : Bool)
    → length (request_line (w / 4) letter link opcode param size source address mask d corrupt)
    - (BEHIND_ADDRESS + w / 4 + 1 + DATA_END) ≡ length d
unfolding digits spaced
request_data w (inl four) letter link opcode param size source address mask d corrupt =
    rw four (omega (arith, end_length d corrupt))
request_data w (inr (inl eight)) letter link opcode param size source address mask d corrupt =
    rw eight (omega (arith, end_length d corrupt))
request_data w (inr (inr sixteen)) letter link opcode param size source address mask d corrupt =
    rw sixteen (omega (arith, end_length d corrupt))

pub data_a : {w : ℕ} (line : List ℕ) (link : Link) (x : BeatA w) → IsWidth w → Spells line link (A x)
    → HasData w (length line - (BEHIND_ADDRESS + w / 4 + 1 + DATA_END))
data_a {w} line link x width s =
    rw (
      s.is_line,
      request_data w width 65 link.0 (a_code x.opcode) x.param x.size x.source x.address x.mask
          (lanes_text x.lanes) x.corrupt,
    ) (data_of w x.lanes s.in_range.2)

pub data_b : {w : ℕ} (line : List ℕ) (link : Link) (x : BeatB w) → IsWidth w → Spells line link (B x)
    → HasData w (length line - (BEHIND_ADDRESS + w / 4 + 1 + DATA_END))
data_b {w} line link x width s =
    rw (
      s.is_line,
      request_data w width 66 link.0 (b_code x.opcode) x.param x.size x.source x.address x.mask
          (lanes_text x.lanes) x.corrupt,
    ) (data_of w x.lanes s.in_range.2)

release_data : (link opcode param size source address : ℕ) (d : List ℕ) (corrupt : Bool)
    → length (spaced (digits 2 link ∷ (67 ∷ []) ∷ digits 1 opcode ∷ digits 1 param ∷ digits 1 size ∷ digits 2
    source ∷ digits 8 address ∷ d ∷ bit_text corrupt ∷ []) ++ 10 ∷ []) - (BEHIND_ADDRESS + DATA_END) ≡ length d
unfolding digits spaced
release_data link opcode param size source address d corrupt = omega (arith, end_length d corrupt)

pub data_c : {w : ℕ} (line : List ℕ) (link : Link) (x : BeatC w) → Spells line link (C x)
    → HasData w (length line - (BEHIND_ADDRESS + DATA_END))
data_c {w} line link x s =
    rw (
      s.is_line,
      release_data link.0 (c_code x.opcode) x.param x.size x.source x.address (lanes_text x.lanes)
          x.corrupt,
    ) (data_of w x.lanes s.in_range.2)

response_data : (link opcode param size source sink : ℕ) (denied : Bool) (d : List ℕ) (corrupt : Bool)
    → length (spaced (digits 2 link ∷ (68 ∷ []) ∷ digits 1 opcode ∷ digits 1 param ∷ digits 1 size ∷ digits 2
    source ∷ digits 2 sink ∷ bit_text denied ∷ d ∷ bit_text corrupt ∷ []) ++ 10 ∷ [])
    - (BEHIND_DENIED + DATA_END) ≡ length d
unfolding digits spaced
response_data link opcode param size source sink false d corrupt = omega (arith, end_length d corrupt)
response_data link opcode param size source sink true d corrupt = omega (arith, end_length d corrupt)

pub data_d : {w : ℕ} (line : List ℕ) (link : Link) (x : BeatD w) → Spells line link (D x)
    → HasData w (length line - (BEHIND_DENIED + DATA_END))
data_d {w} line link x s =
    rw (
      s.is_line,
      response_data link.0 (d_code x.opcode) x.param x.size x.source x.sink x.denied (lanes_text x.lanes)
          x.corrupt,
    ) (data_of w x.lanes s.in_range.2)

pub long_e : {w : ℕ} (line : List ℕ) (link : Link) (x : BeatE) → Spells {w = w} line link (E x)
    → FIRST_FIELD + 3 ≤ length line
unfolding digits spaced
long_e {w} line link x s = rw s.is_line (omega arith)
