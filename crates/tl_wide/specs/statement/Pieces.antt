-- The beats that a wide beat becomes, once its names have numbers, one after another.
use Rattle.std.specs.Prelude.{ℕ, zero, suc, ◌-◌, ◌/◌, ◌==◌, Bool, false, filter}
use Rattle.std.specs.Prelude.{if◌then◌else◌, List, [], ◌∷◌, map, Option, Some, None}
use Rattle.tl_beat.specs.declared.beat.Beat.{Beat}
use Rattle.tl_beat.specs.declared.beat.Beat.TheVariants as beat
use Rattle.tl_beat.specs.statement.Opcode.{a_carries_data, b_carries_data, c_carries_data, d_carries_data}
use Rattle.tl_wide.specs.declared.beat.WideBeat.{WideBeat}
use Rattle.tl_wide.specs.declared.beat.WideBeat.TheVariants as wide
use Rattle.tl_wide.specs.declared.parts.Named.{Named}
use Rattle.tl_wide.specs.declared.parts.Parts.{Parts}
use Rattle.tl_wide.specs.statement.Narrowed.{lone_mask, parts_where}
use Rattle.tl_wide.specs.statement.Parts.{has_stray, part_carries, part_lanes, parts_of, reaches_part}
use Rattle.tl_wide.specs.statement.Parts.{shown_carries, shown_mask, shown_opcode}
use Rattle.tl_wide.specs.statement.Width.{part_width}

-- ---- the message of a beat

-- the beat carries data
abbrev pub carries_of : {w : ℕ} → WideBeat w → Bool
carries_of (wide.A x) = a_carries_data x.opcode
carries_of (wide.B x) = b_carries_data x.opcode
carries_of (wide.C x) = c_carries_data x.opcode
carries_of (wide.D x) = d_carries_data x.opcode
carries_of (wide.E x) = false

-- the size of a beat, 0 on channel E
abbrev pub size_in : {w : ℕ} → WideBeat w → ℕ
size_in (wide.A x) = x.size
size_in (wide.B x) = x.size
size_in (wide.C x) = x.size
size_in (wide.D x) = x.size
size_in (wide.E x) = 0

-- the mask of a beat, 0 on channels without one
abbrev pub mask_in : {w : ℕ} → WideBeat w → ℕ
mask_in (wide.A x) = x.mask
mask_in (wide.B x) = x.mask
mask_in _ = 0

-- the address of its message; a beat of channel D has that of the request that it answers
abbrev pub reached_at : {w : ℕ} → WideBeat w → ℕ → ℕ
reached_at (wide.A x) asked = x.address
reached_at (wide.B x) asked = x.address
reached_at (wide.C x) asked = x.address
reached_at (wide.D x) asked = asked
reached_at (wide.E x) asked = 0

-- ---- one part

-- a part of a beat whose names have these numbers
abbrev pub piece_of : {w p : ℕ} → WideBeat w → Named → Bool → ℕ → ℕ → Beat p
piece_of {w} (wide.A x) n stray mask part = beat.A (record {
  opcode = shown_opcode stray x.opcode;
  param = x.param;
  size = x.size;
  source = n.source;
  address = n.address;
  mask = mask;
  lanes = part_lanes w part x.lanes;
  corrupt = x.corrupt;
  carries = part_carries w part x.lanes (a_carries_data (shown_opcode stray x.opcode))
      (shown_carries stray x.opcode x.lanes x.carries);
})
piece_of {w} (wide.B x) n stray mask part = beat.B (record {
  opcode = x.opcode;
  param = x.param;
  size = x.size;
  source = n.source;
  address = n.address;
  mask = mask;
  lanes = part_lanes w part x.lanes;
  corrupt = x.corrupt;
  carries = part_carries w part x.lanes (b_carries_data x.opcode) x.carries;
})
piece_of {w} (wide.C x) n stray mask part = beat.C (record {
  opcode = x.opcode;
  param = x.param;
  size = x.size;
  source = n.source;
  address = n.address;
  lanes = part_lanes w part x.lanes;
  corrupt = x.corrupt;
  carries = part_carries w part x.lanes (c_carries_data x.opcode) x.carries;
})
piece_of {w} (wide.D x) n stray mask part = beat.D (record {
  opcode = x.opcode;
  param = x.param;
  size = x.size;
  source = n.source;
  sink = n.sink;
  denied = x.denied;
  lanes = part_lanes w part x.lanes;
  corrupt = x.corrupt;
  carries = part_carries w part x.lanes (d_carries_data x.opcode) x.carries;
})
piece_of (wide.E x) n stray mask part = beat.E (record { sink = n.sink })

-- ---- the parts to come

-- this many numbers from the first on
unfoldable pub from : ℕ → ℕ → List ℕ
from first zero = []
from first (suc count) = first ∷ from (suc first) count

-- the parts of a message from this one on
abbrev pub parts_from : ℕ → ℕ → ℕ → ℕ → List ℕ
parts_from w size address first =
    filter (reaches_part w size address) (from first (w / part_width w - first))

-- the parts to come of a beat, from this one on
abbrev pub left_by : {w p : ℕ} → WideBeat w → Named → Bool → ℕ → List (Beat p)
left_by {w} x n stray next =
    if carries_of x then map (λ part. piece_of x n stray (shown_mask stray w (mask_in x) part) part)
    (parts_from w (size_in x) (reached_at x n.asked) next)
    else if next == 0 then piece_of x n stray
    (lone_mask w stray (parts_of w (size_in x) (reached_at x n.asked)) (mask_in x)) 0 ∷ []
    else []

-- the parts to come of a beat
abbrev pub left_of : {w p : ℕ} → WideBeat w → Parts → List (Beat p)
left_of x s = left_by x s.named s.stray s.next

-- the first of these beats, if there is one, and the others after it
abbrev pub in_front : {w : ℕ} → Option (Beat w) → List (Beat w) → List (Beat w)
in_front None left = []
in_front (Some x) left = x ∷ left

-- ---- all parts

-- the parts of a beat whose names have these numbers
abbrev pub pieces_by : {w p : ℕ} → WideBeat w → Named → Bool → List ℕ → List (Beat p)
pieces_by {w} x n stray parts =
    parts_where (carries_of x) (λ part. piece_of x n stray (shown_mask stray w (mask_in x) part) part) parts
    (piece_of x n stray (lone_mask w stray parts (mask_in x)) 0)

abbrev pub pieces_in : {w p : ℕ} → WideBeat w → Named → List ℕ → List (Beat p)
pieces_in {w} x n parts = pieces_by x n (has_stray w parts (mask_in x)) parts

abbrev pub pieces_of : {w p : ℕ} → WideBeat w → Named → List (Beat p)
pieces_of {w} x n = pieces_in x n (parts_of w (size_in x) (reached_at x n.asked))
