-- A line read from left to right, as the code goes; only private clauses cite this.
use denote.Ref.{Bor}
use Rattle.std.specs.Prelude.{◌≡◌, ℕ, zero, suc, ◌+◌, ◌*◌, ◌-◌, ◌/◌, Bool, true, false, not, ◌&&◌, ◌||◌, List, [], ◌∷◌}
use Rattle.std.specs.Prelude.{length, take, drop, count_by, Option}
use Rattle.std.specs.Prelude.{Some, None, Result, Ok, Err, nat_le, nat_lt, slice_index, ◌==◌, if◌then◌else◌}
use Rattle.std.specs.List.{after_first}
use Rattle.std.specs.Io.BufRead.{ends_with_byte}
use Rattle.tl_beat.specs.declared.beat.Link.{Link}
use Rattle.tl_beat.specs.declared.beat.BeatA.{BeatA}
use Rattle.tl_beat.specs.declared.beat.BeatB.{BeatB}
use Rattle.tl_beat.specs.declared.beat.BeatC.{BeatC}
use Rattle.tl_beat.specs.declared.beat.BeatD.{BeatD}
use Rattle.tl_beat.specs.declared.beat.Beat.{Beat}
use Rattle.tl_beat.specs.declared.beat.Beat.TheVariants as beat
use Rattle.tl_beat.specs.declared.fault.LineFault.{LineFault}
use Rattle.tl_beat.specs.declared.read.line.Head.{Head}
use Rattle.tl_beat.specs.declared.fault.LineFault.TheVariants.{F1, F2, F3}
use Rattle.tl_beat.specs.statement.Digits.{is_digit, digit_value, is_dash}
use Rattle.tl_beat.specs.code.Reading.{◌>>=◌, made_a, made_b, made_c, made_d, linked}

-- ---- fields

abbrev pub digit_of : ℕ → Option ℕ
digit_of c = if is_digit c then Some (digit_value c) else None

abbrev pub value_or_16 : ℕ → ℕ
value_or_16 c = if is_digit c then digit_value c else 16

abbrev pub value_or_fault : Option ℕ → List ℕ → Result (ℕ × List ℕ) LineFault
value_or_fault None rest = Err F3
value_or_fault (Some d) rest = Ok (d, rest)

abbrev pub digit_at : List ℕ → Result (ℕ × List ℕ) LineFault
digit_at [] = Err F3
digit_at (c ∷ cs) = value_or_fault (digit_of c) cs

-- n digits after a number
unfoldable pub digits_at : ℕ → ℕ → List ℕ → Result (ℕ × List ℕ) LineFault
digits_at number zero bytes = Ok (number, bytes)
digits_at number (suc n) bytes = do
  d ← digit_at bytes
  digits_at (16 * number + d.0) n d.1

abbrev pub space_at : List ℕ → Result (List ℕ) LineFault
space_at [] = Err F3
space_at (c ∷ cs) = if c == 32 then Ok cs else Err F3

-- a number of n digits, and a space
abbrev pub field_at : ℕ → List ℕ → Result (ℕ × List ℕ) LineFault
field_at n bytes = do
  number ← digits_at 0 n bytes
  rest ← space_at number.1
  Ok (number.0, rest)

-- a byte of two digits
abbrev pub pair_at : List ℕ → Result (ℕ × List ℕ) LineFault
pair_at [] = Err F3
pair_at (c ∷ []) = Err F3
pair_at (c ∷ d ∷ cs) = if is_digit c && is_digit d then Ok (16 * digit_value c + digit_value d, cs) else Err F3

-- n lanes before others, the last lane first, after which nothing is left
unfoldable pub lanes_at : List ℕ → ℕ → List ℕ → Result (List ℕ) LineFault
lanes_at lanes zero [] = Ok lanes
lanes_at lanes zero (c ∷ cs) = Err F3
lanes_at lanes (suc n) bytes = do
  lane ← pair_at bytes
  lanes_at (lane.0 ∷ lanes) n lane.1

abbrev pub some_lanes : Result (List ℕ) LineFault → Result (Option (List ℕ)) LineFault
some_lanes (Ok x) = Ok (Some x)
some_lanes (Err e) = Err e

-- a dash, or the digits of w lanes
abbrev pub data_at : ℕ → List ℕ → Result (Option (List ℕ)) LineFault
data_at w field = if is_dash field then Ok None else some_lanes (lanes_at [] w field)

abbrev pub bit_of_byte : ℕ → Result Bool LineFault
bit_of_byte c = if c == 48 then Ok false else if c == 49 then Ok true else Err F3

-- a bit and a space
abbrev pub bit_field_at : List ℕ → Result (Bool × List ℕ) LineFault
bit_field_at [] = Err F3
bit_field_at (c ∷ cs) = do
  bit ← bit_of_byte c
  rest ← space_at cs
  Ok (bit, rest)

abbrev pub at_end : {A : Type 0} → A × List ℕ → Result A LineFault
at_end (x, []) = Ok x
at_end (x, c ∷ cs) = Err F3

-- ---- the parts that lines of several channels share

-- the fields before the address or the sink; the letter and its space are passed over
unfoldable pub head_at : List ℕ → Result (Head × List ℕ) LineFault
head_at bytes = do
  link ← field_at 2 bytes
  opcode ← field_at 1 (drop 2 link.1)
  param ← field_at 1 opcode.1
  size ← field_at 1 param.1
  source ← field_at 2 size.1
  Ok (record { link = link.0; opcode = opcode.0; param = param.0; size = size.0; source = source.0 }, source.1)

-- data, a space and the corrupt bit at the end
unfoldable pub tail_at : ℕ → List ℕ → Result (Option (List ℕ) × Bool) LineFault
tail_at w bytes =
    if nat_le 2 (length bytes) && (slice_index bytes (length bytes - 2) == 32)
    then (do
      lanes ← data_at w (take (length bytes - 2) bytes)
      corrupt ← bit_of_byte (slice_index bytes (length bytes - 1))
      Ok (lanes, corrupt))
    else Err F3

-- ---- a line that is read over a beat

-- the link and the beat that are read there, or the fault
abbrev pub placed : {w : ℕ} → Result Link LineFault → Beat w → Result (Link × Beat w) LineFault
placed (Ok link) beat = Ok (link, beat)
placed (Err fault) beat = Err fault

abbrev pub on_a : {w : ℕ} → ℕ → Result (BeatA w) LineFault → Result (Link × Beat w) LineFault
on_a link read = read >>= λ x. Ok (linked link (beat.A x))

abbrev pub on_b : {w : ℕ} → ℕ → Result (BeatB w) LineFault → Result (Link × Beat w) LineFault
on_b link read = read >>= λ x. Ok (linked link (beat.B x))

abbrev pub on_c : {w : ℕ} → ℕ → Result (BeatC w) LineFault → Result (Link × Beat w) LineFault
on_c link read = read >>= λ x. Ok (linked link (beat.C x))

abbrev pub on_d : {w : ℕ} → ℕ → Result (BeatD w) LineFault → Result (Link × Beat w) LineFault
on_d link read = read >>= λ x. Ok (linked link (beat.D x))

-- ---- the line of each channel, without its line feed

unfoldable pub line_a_at : {w : ℕ} → List ℕ → Result (Link × Beat w) LineFault
line_a_at {w} bytes = do
  head ← head_at bytes
  address ← field_at 8 head.1
  mask ← field_at (w / 4) address.1
  tail ← tail_at w mask.1
  on_a head.0.link (made_a head.0.opcode head.0.param head.0.size head.0.source address.0 mask.0 tail.0 tail.1)

unfoldable pub line_b_at : {w : ℕ} → List ℕ → Result (Link × Beat w) LineFault
line_b_at {w} bytes = do
  head ← head_at bytes
  address ← field_at 8 head.1
  mask ← field_at (w / 4) address.1
  tail ← tail_at w mask.1
  on_b head.0.link (made_b head.0.opcode head.0.param head.0.size head.0.source address.0 mask.0 tail.0 tail.1)

unfoldable pub line_c_at : {w : ℕ} → List ℕ → Result (Link × Beat w) LineFault
line_c_at {w} bytes = do
  head ← head_at bytes
  address ← field_at 8 head.1
  tail ← tail_at w address.1
  on_c head.0.link (made_c head.0.opcode head.0.param head.0.size head.0.source address.0 tail.0 tail.1)

unfoldable pub line_d_at : {w : ℕ} → List ℕ → Result (Link × Beat w) LineFault
line_d_at {w} bytes = do
  head ← head_at bytes
  sink ← field_at 2 head.1
  denied ← bit_field_at sink.1
  tail ← tail_at w denied.1
  on_d head.0.link (made_d head.0.opcode head.0.param head.0.size head.0.source sink.0 denied.0 tail.0 tail.1)

unfoldable pub line_e_at : {w : ℕ} → List ℕ → Result (Link × Beat w) LineFault
line_e_at bytes = do
  link ← field_at 2 bytes
  sink ← digits_at 0 2 (drop 2 link.1)
  sink ← at_end sink
  Ok (linked link.0 (beat.E (record { sink = sink })))

-- ---- a line of any channel

-- the letter after the first space, if it is a field of its own
abbrev pub letter_in : List ℕ → Option ℕ
letter_in [] = None
letter_in (c ∷ []) = Some c
letter_in (c ∷ d ∷ cs) = if d == 32 then Some c else None

abbrev pub spaces_in : List ℕ → ℕ
spaces_in body = count_by (λ b. b == 32) body

abbrev pub line_with : {w : ℕ} → Option ℕ → ℕ → List ℕ → Result (Link × Beat w) LineFault
line_with None spaces body = Err F2
line_with (Some c) spaces body =
    if c == 65 then (if spaces == 9 then line_a_at body else Err F1) else
    if c == 66 then (if spaces == 9 then line_b_at body else Err F1) else
    if c == 67 then (if spaces == 8 then line_c_at body else Err F1) else
    if c == 68 then (if spaces == 9 then line_d_at body else Err F1) else
    if c == 69 then (if spaces == 2 then line_e_at body else Err F1) else Err F2

abbrev pub body_at : {w : ℕ} → List ℕ → Result (Link × Beat w) LineFault
body_at body =
    if spaces_in body == 0 then Err F1 else line_with (letter_in (after_first (λ b. b == 32) body)) (spaces_in body)
    body

-- a line with its line feed
abbrev pub line_at : {w : ℕ} → List ℕ → Result (Link × Beat w) LineFault
line_at line = if nat_lt 256 (length line) || not (ends_with_byte 10 line) then Err F1 else body_at
    (take (length line - 1) line)

-- ---- the result of a function is the result of reading

abbrev pub Gives : {X R : Type 0} → Result (X × Bor R) LineFault → Result (X × R) LineFault → Type 0
Gives (Ok x) read = read ≡ Ok (x.0, x.1.now)
Gives (Err e) read = read ≡ Err e

abbrev pub GivesRest : {R : Type 0} → Result (Bor R) LineFault → Result R LineFault → Type 0
GivesRest (Ok x) read = read ≡ Ok x.now
GivesRest (Err e) read = read ≡ Err e
