-- The meaning of a wide trace: the trace of the beats of at most 16 bytes that its beats become.
use Rattle.std.specs.Prelude.{ℕ, Bool, ◌==◌, ◌&&◌, if◌then◌else◌, List, [], ◌∷◌, map}
use Rattle.tl_beat.specs.declared.beat.Beat.{Beat}
use Rattle.tl_beat.specs.declared.beat.Beat.TheVariants as beat
use Rattle.tl_beat.specs.declared.beat.BeatA.{BeatA}
use Rattle.tl_beat.specs.declared.beat.BeatB.{BeatB}
use Rattle.tl_beat.specs.declared.beat.BeatC.{BeatC}
use Rattle.tl_beat.specs.declared.beat.BeatD.{BeatD}
use Rattle.tl_beat.specs.declared.beat.Link.{Link}
use Rattle.tl_beat.specs.statement.Opcode.{a_carries_data, b_carries_data, c_carries_data, d_carries_data}
use Rattle.tl_rules.specs.statement.Conformance.{Trace}
use Rattle.tl_wide.specs.declared.beat.WideBeat.{WideBeat}
use Rattle.tl_wide.specs.declared.beat.WideBeat.TheVariants as wide
use Rattle.tl_wide.specs.declared.beat.WideBeatA.{WideBeatA}
use Rattle.tl_wide.specs.declared.beat.WideBeatB.{WideBeatB}
use Rattle.tl_wide.specs.declared.beat.WideBeatC.{WideBeatC}
use Rattle.tl_wide.specs.declared.beat.WideBeatD.{WideBeatD}
use Rattle.tl_wide.specs.statement.Naming.{WideTrace, is_beyond, narrow_address, place_in, sinks, sources}
use Rattle.tl_wide.specs.statement.Parts.{common_mask, has_stray, part_carries, part_lanes, parts_of}
use Rattle.tl_wide.specs.statement.Parts.{shown_carries, shown_mask, shown_opcode}
use Rattle.tl_wide.specs.statement.Width.{part_width}

-- ---- one part of a beat, the newest of the trace t

-- a part of a beat of channel A, with this mask
abbrev pub a_part : {w : ℕ} → Link → WideBeatA w → WideTrace w → Bool → ℕ → ℕ → BeatA (part_width w)
a_part {w} link x t stray mask part = record {
  opcode = shown_opcode stray x.opcode;
  param = x.param;
  size = x.size;
  source = place_in (sources link.0 t) x.source;
  address = narrow_address t x.address;
  mask = mask;
  lanes = part_lanes w part x.lanes;
  corrupt = x.corrupt;
  carries = part_carries w part x.lanes (a_carries_data (shown_opcode stray x.opcode))
      (shown_carries stray x.opcode x.lanes x.carries);
}

-- a part of a beat of channel B, with this mask
abbrev pub b_part : {w : ℕ} → Link → WideBeatB w → WideTrace w → ℕ → ℕ → BeatB (part_width w)
b_part {w} link x t mask part = record {
  opcode = x.opcode;
  param = x.param;
  size = x.size;
  source = place_in (sources link.0 t) x.source;
  address = narrow_address t x.address;
  mask = mask;
  lanes = part_lanes w part x.lanes;
  corrupt = x.corrupt;
  carries = part_carries w part x.lanes (b_carries_data x.opcode) x.carries;
}

-- a part of a beat of channel C
abbrev pub c_part : {w : ℕ} → Link → WideBeatC w → WideTrace w → ℕ → BeatC (part_width w)
c_part {w} link x t part = record {
  opcode = x.opcode;
  param = x.param;
  size = x.size;
  source = place_in (sources link.0 t) x.source;
  address = narrow_address t x.address;
  lanes = part_lanes w part x.lanes;
  corrupt = x.corrupt;
  carries = part_carries w part x.lanes (c_carries_data x.opcode) x.carries;
}

-- a part of a beat of channel D
abbrev pub d_part : {w : ℕ} → Link → WideBeatD w → WideTrace w → ℕ → BeatD (part_width w)
d_part {w} link x t part = record {
  opcode = x.opcode;
  param = x.param;
  size = x.size;
  source = place_in (sources link.0 t) x.source;
  sink = place_in (sinks t) x.sink;
  denied = x.denied;
  lanes = part_lanes w part x.lanes;
  corrupt = x.corrupt;
  carries = part_carries w part x.lanes (d_carries_data x.opcode) x.carries;
}

-- ---- all parts of a beat, the newest of the trace t

-- the parts of a beat that carries data, by the parts of its message; a beat without data has one part, the first
abbrev pub parts_where : {w : ℕ} → Bool → (ℕ → Beat w) → List ℕ → Beat w → List (Beat w)
parts_where carries of parts alone = if carries then map of parts else alone ∷ []

-- the mask of a beat without data: the lanes that each part of its message has, or none if the mask has a stray lane
abbrev pub lone_mask : ℕ → Bool → List ℕ → ℕ → ℕ
lone_mask w stray parts mask = if stray then 0 else common_mask w parts mask

-- the parts of a beat of channel A
abbrev pub a_parts : {w : ℕ} → Link → WideBeatA w → WideTrace w → Bool → List ℕ → List (Beat (part_width w))
a_parts {w} link x t stray parts =
    parts_where (a_carries_data x.opcode)
    (λ part. beat.A (a_part link x t stray (shown_mask stray w x.mask part) part)) parts
    (beat.A (a_part link x t stray (lone_mask w stray parts x.mask) 0))

-- the parts of a beat of channel B
abbrev pub b_parts : {w : ℕ} → Link → WideBeatB w → WideTrace w → Bool → List ℕ → List (Beat (part_width w))
b_parts {w} link x t stray parts =
    parts_where (b_carries_data x.opcode)
    (λ part. beat.B (b_part link x t (shown_mask stray w x.mask part) part)) parts
    (beat.B (b_part link x t (lone_mask w stray parts x.mask) 0))

-- the address of the last beat of channel A with this source on the link, 0 if there is none
unfoldable pub asked_address : {w : ℕ} → Link → ℕ → WideTrace w → ℕ
asked_address link source [] = 0
asked_address link source ((on, wide.A x) ∷ t) =
    if (on.0 == link.0) && (x.source == source) then x.address else asked_address link source t
asked_address link source (_ ∷ t) = asked_address link source t

-- The beats that a wide beat becomes, in their order. For a beat of channel D the address of its request says which
-- parts of a message it carries.
abbrev pub beats_of : {w : ℕ} → Link → WideBeat w → WideTrace w → List (Beat (part_width w))
beats_of {w} link (wide.A x) t =
    a_parts link x t (has_stray w (parts_of w x.size x.address) x.mask) (parts_of w x.size x.address)
beats_of {w} link (wide.B x) t =
    b_parts link x t (has_stray w (parts_of w x.size x.address) x.mask) (parts_of w x.size x.address)
beats_of {w} link (wide.C x) t =
    parts_where (c_carries_data x.opcode) (λ part. beat.C (c_part link x t part)) (parts_of w x.size x.address)
    (beat.C (c_part link x t 0))
beats_of {w} link (wide.D x) t =
    parts_where (d_carries_data x.opcode) (λ part. beat.D (d_part link x t part))
    (parts_of w x.size (asked_address link x.source t)) (beat.D (d_part link x t 0))
beats_of link (wide.E x) t = beat.E (record { sink = place_in (sinks t) x.sink }) ∷ []

-- ---- a trace

-- beats of one link
abbrev pub on_one_link : {w : ℕ} → Link → List (Beat w) → Trace w
on_one_link link beats = map (λ x. (link, x)) beats

-- The beats of each beat of `trace`, up to the first that names a block, a source or a sink for which no number is
-- left. `before` has the beats before these, the newest first; in `trace` the next one is first.
unfoldable pub narrowed_from : {w : ℕ} → WideTrace w → WideTrace w → List (Trace (part_width w))
narrowed_from before [] = []
narrowed_from before (x ∷ trace) =
    if is_beyond x.0 (x ∷ before) then []
    else on_one_link x.0 (beats_of x.0 x.1 (x ∷ before)) ∷ narrowed_from (x ∷ before) trace

-- the beats of each beat of a trace
abbrev pub narrowed : {w : ℕ} → WideTrace w → List (Trace (part_width w))
narrowed trace = narrowed_from [] trace
