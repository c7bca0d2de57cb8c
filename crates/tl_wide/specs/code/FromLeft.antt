-- A wide line read from left to right, as the code goes; only private clauses cite this.
use Rattle.std.specs.Prelude.{ℕ, ◌-◌, ◌/◌, not, ◌||◌, List, length}
use Rattle.std.specs.Prelude.{take, drop, Option, Some, None, Result, Ok, Err}
use Rattle.std.specs.Prelude.{nat_lt, ◌==◌, if◌then◌else◌}
use Rattle.std.specs.List.{after_first}
use Rattle.std.specs.Io.BufRead.{ends_with_byte}
use Rattle.tl_beat.specs.declared.beat.Link.{Link}
use Rattle.tl_beat.specs.declared.fault.LineFault.{LineFault}
use Rattle.tl_beat.specs.declared.fault.LineFault.TheVariants.{F1, F2}
use Rattle.tl_beat.specs.code.FromLeft.{at_end, bit_field_at, digits_at, field_at, letter_in, spaces_in, tail_at}
use Rattle.tl_beat.specs.code.Reading.{◌>>=◌}
use Rattle.tl_wide.specs.code.Reading.{made_a, made_b, made_c, made_d, linked}
use Rattle.tl_wide.specs.declared.beat.WideBeat.{WideBeat}
use Rattle.tl_wide.specs.declared.beat.WideBeat.TheVariants as wide
use Rattle.tl_wide.specs.declared.beat.WideBeatA.{WideBeatA}
use Rattle.tl_wide.specs.declared.beat.WideBeatB.{WideBeatB}
use Rattle.tl_wide.specs.declared.beat.WideBeatC.{WideBeatC}
use Rattle.tl_wide.specs.declared.beat.WideBeatD.{WideBeatD}
use Rattle.tl_wide.specs.declared.read.line.Head.{Head}

-- ---- the parts that lines of several channels share

-- the fields before the address or the sink; the letter and its space are passed over
unfoldable pub head_at : List ℕ → Result (Head × List ℕ) LineFault
head_at bytes = do
  link ← field_at 2 bytes
  opcode ← field_at 1 (drop 2 link.1)
  param ← field_at 1 opcode.1
  size ← field_at 1 param.1
  source ← field_at 4 size.1
  Ok (record { link = link.0; opcode = opcode.0; param = param.0; size = size.0; source = source.0 }, source.1)

-- ---- a line that is read over a beat

-- the link and the beat that are read there, or the fault
abbrev pub placed : {w : ℕ} → Result Link LineFault → WideBeat w → Result (Link × WideBeat w) LineFault
placed (Ok link) beat = Ok (link, beat)
placed (Err fault) beat = Err fault

abbrev pub on_a : {w : ℕ} → ℕ → Result (WideBeatA w) LineFault → Result (Link × WideBeat w) LineFault
on_a link read = read >>= λ x. Ok (linked link (wide.A x))

abbrev pub on_b : {w : ℕ} → ℕ → Result (WideBeatB w) LineFault → Result (Link × WideBeat w) LineFault
on_b link read = read >>= λ x. Ok (linked link (wide.B x))

abbrev pub on_c : {w : ℕ} → ℕ → Result (WideBeatC w) LineFault → Result (Link × WideBeat w) LineFault
on_c link read = read >>= λ x. Ok (linked link (wide.C x))

abbrev pub on_d : {w : ℕ} → ℕ → Result (WideBeatD w) LineFault → Result (Link × WideBeat w) LineFault
on_d link read = read >>= λ x. Ok (linked link (wide.D x))

-- ---- the line of each channel, without its line feed

unfoldable pub line_a_at : {w : ℕ} → List ℕ → Result (Link × WideBeat w) LineFault
line_a_at {w} bytes = do
  head ← head_at bytes
  address ← field_at 16 head.1
  mask ← field_at (w / 4) address.1
  tail ← tail_at w mask.1
  on_a head.0.link (made_a head.0.opcode head.0.param head.0.size head.0.source address.0 mask.0 tail.0 tail.1)

unfoldable pub line_b_at : {w : ℕ} → List ℕ → Result (Link × WideBeat w) LineFault
line_b_at {w} bytes = do
  head ← head_at bytes
  address ← field_at 16 head.1
  mask ← field_at (w / 4) address.1
  tail ← tail_at w mask.1
  on_b head.0.link (made_b head.0.opcode head.0.param head.0.size head.0.source address.0 mask.0 tail.0 tail.1)

unfoldable pub line_c_at : {w : ℕ} → List ℕ → Result (Link × WideBeat w) LineFault
line_c_at {w} bytes = do
  head ← head_at bytes
  address ← field_at 16 head.1
  tail ← tail_at w address.1
  on_c head.0.link (made_c head.0.opcode head.0.param head.0.size head.0.source address.0 tail.0 tail.1)

unfoldable pub line_d_at : {w : ℕ} → List ℕ → Result (Link × WideBeat w) LineFault
line_d_at {w} bytes = do
  head ← head_at bytes
  sink ← field_at 4 head.1
  denied ← bit_field_at sink.1
  tail ← tail_at w denied.1
  on_d head.0.link (made_d head.0.opcode head.0.param head.0.size head.0.source sink.0 denied.0 tail.0 tail.1)

unfoldable pub line_e_at : {w : ℕ} → List ℕ → Result (Link × WideBeat w) LineFault
line_e_at bytes = do
  link ← field_at 2 bytes
  sink ← digits_at 0 4 (drop 2 link.1)
  sink ← at_end sink
  Ok (linked link.0 (wide.E (record { sink = sink })))

-- ---- a line of any channel

abbrev pub line_with : {w : ℕ} → Option ℕ → ℕ → List ℕ → Result (Link × WideBeat w) LineFault
line_with None spaces body = Err F2
line_with (Some c) spaces body =
    if c == 65 then (if spaces == 9 then line_a_at body else Err F1) else
    if c == 66 then (if spaces == 9 then line_b_at body else Err F1) else
    if c == 67 then (if spaces == 8 then line_c_at body else Err F1) else
    if c == 68 then (if spaces == 9 then line_d_at body else Err F1) else
    if c == 69 then (if spaces == 2 then line_e_at body else Err F1) else Err F2

abbrev pub body_at : {w : ℕ} → List ℕ → Result (Link × WideBeat w) LineFault
body_at body =
    if spaces_in body == 0 then Err F1 else line_with (letter_in (after_first (λ b. b == 32) body)) (spaces_in body)
    body

-- a line with its line feed
abbrev pub line_at : {w : ℕ} → List ℕ → Result (Link × WideBeat w) LineFault
line_at line = if nat_lt 256 (length line) || not (ends_with_byte 10 line) then Err F1 else body_at
    (take (length line - 1) line)
