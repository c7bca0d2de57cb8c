-- A narrow trace has the same verdict if it is written wide.
use Rattle.std.specs.Prelude.{ℕ, ◌≡◌, [], ◌∷◌, List, map, option_map, ⊤}
use Rattle.tl_beat.specs.declared.beat.Beat.{Beat}
use Rattle.tl_beat.specs.declared.beat.Beat.TheVariants as beat
use Rattle.tl_beat.specs.declared.beat.BeatA.{BeatA}
use Rattle.tl_beat.specs.declared.beat.BeatB.{BeatB}
use Rattle.tl_beat.specs.declared.beat.BeatC.{BeatC}
use Rattle.tl_beat.specs.declared.beat.BeatD.{BeatD}
use Rattle.tl_beat.specs.statement.Line.{IsInRange, IsWritable}
use Rattle.tl_params.specs.declared.level.Level.{Level}
use Rattle.tl_params.specs.declared.liberties.Liberties.{Liberties}
use Rattle.tl_rules.specs.statement.Conformance.{Trace}
use Rattle.tl_rules.specs.statement.Liberties.{first_fault_under}
use Rattle.tl_wide.specs.declared.beat.WideBeat.{WideBeat}
use Rattle.tl_wide.specs.declared.beat.WideBeat.TheVariants as wide
use Rattle.tl_wide.specs.declared.beat.WideBeatA.{WideBeatA}
use Rattle.tl_wide.specs.declared.beat.WideBeatB.{WideBeatB}
use Rattle.tl_wide.specs.declared.beat.WideBeatC.{WideBeatC}
use Rattle.tl_wide.specs.declared.beat.WideBeatD.{WideBeatD}
use Rattle.tl_wide.specs.statement.Naming.{WideTrace}
use Rattle.tl_wide.specs.statement.Verdict.{Breaks, first_wide_fault}
use Rattle.tl_wide.specs.statement.Width.{part_width}

-- ---- the wide beat with the fields of a beat, if both have w bytes

-- for channel A
abbrev pub widened_a : (w : ℕ) → BeatA (part_width w) → WideBeatA w
widened_a w x = record {
  opcode = x.opcode;
  param = x.param;
  size = x.size;
  source = x.source;
  address = x.address;
  mask = x.mask;
  lanes = x.lanes;
  corrupt = x.corrupt;
  carries = x.carries;
}

-- for channel B
abbrev pub widened_b : (w : ℕ) → BeatB (part_width w) → WideBeatB w
widened_b w x = record {
  opcode = x.opcode;
  param = x.param;
  size = x.size;
  source = x.source;
  address = x.address;
  mask = x.mask;
  lanes = x.lanes;
  corrupt = x.corrupt;
  carries = x.carries;
}

-- for channel C
abbrev pub widened_c : (w : ℕ) → BeatC (part_width w) → WideBeatC w
widened_c w x = record {
  opcode = x.opcode;
  param = x.param;
  size = x.size;
  source = x.source;
  address = x.address;
  lanes = x.lanes;
  corrupt = x.corrupt;
  carries = x.carries;
}

-- for channel D
abbrev pub widened_d : (w : ℕ) → BeatD (part_width w) → WideBeatD w
widened_d w x = record {
  opcode = x.opcode;
  param = x.param;
  size = x.size;
  source = x.source;
  sink = x.sink;
  denied = x.denied;
  lanes = x.lanes;
  corrupt = x.corrupt;
  carries = x.carries;
}

-- for any channel
abbrev pub widened : (w : ℕ) → Beat (part_width w) → WideBeat w
widened w (beat.A x) = wide.A (widened_a w x)
widened w (beat.B x) = wide.B (widened_b w x)
widened w (beat.C x) = wide.C (widened_c w x)
widened w (beat.D x) = wide.D (widened_d w x)
widened w (beat.E x) = wide.E (record { sink = x.sink })

-- ---- a trace

-- a trace written wide
abbrev pub widened_trace : (w : ℕ) → Trace (part_width w) → WideTrace w
widened_trace w t = map (λ x. (x.0, widened w x.1)) t

-- each beat has a line: its numbers are within their types, and fit into their fields
abbrev pub HaveLines : {w : ℕ} → Trace w → Type 0
HaveLines [] = ⊤
HaveLines (x ∷ t) = (IsWritable x.1 × IsInRange x.1) × HaveLines t

-- a trace of beats that have lines has the same first fault if it is written wide: the same rule and place
abbrev pub KeepsNarrow : ℕ → Type 0
KeepsNarrow w = (l : Liberties) (levels : List Level) (trace : Trace (part_width w)) → HaveLines trace
    → first_wide_fault l levels (widened_trace w trace)
    ≡ option_map (λ fault. (fault.0, Breaks fault.1)) (first_fault_under l levels trace)
