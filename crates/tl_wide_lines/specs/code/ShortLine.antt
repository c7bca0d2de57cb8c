-- A wide beat by a beat that has the lower halves of its names, and their higher halves.
use Rattle.std.specs.Prelude.{ℕ, ◌+◌, ◌*◌, ◌^◌, List, ◌++◌, take, drop}
use Rattle.tl_beat.specs.declared.beat.Beat.{Beat}
use Rattle.tl_beat.specs.declared.beat.Beat.TheVariants as beat
use Rattle.tl_beat.specs.declared.beat.BeatA.{BeatA}
use Rattle.tl_beat.specs.declared.beat.BeatB.{BeatB}
use Rattle.tl_beat.specs.declared.beat.BeatC.{BeatC}
use Rattle.tl_beat.specs.declared.beat.BeatD.{BeatD}
use Rattle.tl_beat.specs.declared.beat.Link.{Link}
use Rattle.tl_wide.specs.declared.beat.WideBeat.{WideBeat}
use Rattle.tl_wide.specs.declared.beat.WideBeat.TheVariants as wide
use Rattle.tl_wide.specs.declared.beat.WideBeatA.{WideBeatA}
use Rattle.tl_wide.specs.declared.beat.WideBeatB.{WideBeatB}
use Rattle.tl_wide.specs.declared.beat.WideBeatC.{WideBeatC}
use Rattle.tl_wide.specs.declared.beat.WideBeatD.{WideBeatD}
use Rattle.tl_wide_lines.specs.declared.short.High.{High}
use Rattle.tl_wide.specs.statement.Line.{WideSpells}

-- ---- the beat

-- a source or a sink by its halves
abbrev pub whole_id : ℕ → ℕ → ℕ
whole_id high low = 256 * high + low

-- an address by its halves
abbrev pub whole_address : ℕ → ℕ → ℕ
whole_address high low = 16 ^ 8 * high + low

abbrev pub widened_a : {w : ℕ} → BeatA w → High → WideBeatA w
widened_a x high = record {
  opcode = x.opcode;
  param = x.param;
  size = x.size;
  source = whole_id high.source x.source;
  address = whole_address high.address x.address;
  mask = x.mask;
  lanes = x.lanes;
  corrupt = x.corrupt;
  carries = x.carries;
}

abbrev pub widened_b : {w : ℕ} → BeatB w → High → WideBeatB w
widened_b x high = record {
  opcode = x.opcode;
  param = x.param;
  size = x.size;
  source = whole_id high.source x.source;
  address = whole_address high.address x.address;
  mask = x.mask;
  lanes = x.lanes;
  corrupt = x.corrupt;
  carries = x.carries;
}

abbrev pub widened_c : {w : ℕ} → BeatC w → High → WideBeatC w
widened_c x high = record {
  opcode = x.opcode;
  param = x.param;
  size = x.size;
  source = whole_id high.source x.source;
  address = whole_address high.address x.address;
  lanes = x.lanes;
  corrupt = x.corrupt;
  carries = x.carries;
}

abbrev pub widened_d : {w : ℕ} → BeatD w → High → WideBeatD w
widened_d x high = record {
  opcode = x.opcode;
  param = x.param;
  size = x.size;
  source = whole_id high.source x.source;
  sink = whole_id high.sink x.sink;
  denied = x.denied;
  lanes = x.lanes;
  corrupt = x.corrupt;
  carries = x.carries;
}

-- the wide beat of these halves
abbrev pub widened : {w : ℕ} → Beat w → High → WideBeat w
widened (beat.A x) high = wide.A (widened_a x high)
widened (beat.B x) high = wide.B (widened_b x high)
widened (beat.C x) high = wide.C (widened_c x high)
widened (beat.D x) high = wide.D (widened_d x high)
widened (beat.E x) high = wide.E (record { sink = whole_id high.sink x.sink })

-- ---- its line

-- the line spells it on the link
abbrev pub SpellsWidened : {w : ℕ} → List ℕ → Beat w → Link × High → Type 0
SpellsWidened line beat read = WideSpells line read.0 (widened beat read.1)

-- a line of channel A to D without the higher digits of its source, and of the field after it, of which there are
-- so many more
abbrev pub shortened : List ℕ → ℕ → List ℕ
shortened line more = take 11 line ++ (take 3 (drop 13 line) ++ drop (16 + more) line)
