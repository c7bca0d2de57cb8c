-- The place of a beat in the unfinished burst of its channel.
use Rattle.std.specs.Prelude.{ℕ, Bool, true, false, List, [], ◌∷◌, ◌==◌, ◌+◌, ◌<◌, ◌≤◌, ◌^◌, if◌then◌else◌, length}
use Rattle.std.specs.Prelude.{nat_le, Result, Ok, Err, ⊤}
use Rattle.tl_beat.specs.declared.beat.Beat.{Beat}
use Rattle.tl_beat.specs.declared.beat.Beat.TheVariants as beat
use Rattle.tl_burst.specs.declared.part.Part.{Part}
use Rattle.tl_burst.specs.declared.part.Part.TheVariants.{First, Middle, Last, Only}
use Rattle.tl_burst.specs.declared.part.Broken.{Broken}
use Rattle.tl_burst.specs.declared.part.Broken.TheVariants.{S1}
use Rattle.tl_burst.specs.statement.Messages.{burst_length, breaks_burst}

-- the size is one that a message may have
abbrev pub is_small : {w : ℕ} → Beat w → Bool
is_small (beat.A x) = nat_le x.size 6
is_small (beat.B x) = nat_le x.size 6
is_small (beat.C x) = nat_le x.size 6
is_small (beat.D x) = nat_le x.size 6
is_small (beat.E x) = true

-- An assembler can take the beat: its size fits a message, and its mask fits the beat.
abbrev pub IsTakeable : {w : ℕ} → Beat w → Type 0
IsTakeable {w} (beat.A x) = (x.size ≤ 6) × (x.mask < 2 ^ w)
IsTakeable {w} (beat.B x) = (x.size ≤ 6) × (x.mask < 2 ^ w)
IsTakeable {w} (beat.C x) = x.size ≤ 6
IsTakeable {w} (beat.D x) = x.size ≤ 6
IsTakeable {w} (beat.E x) = ⊤

-- the place of a beat in its burst, if it is the first or not, and the last or not
abbrev pub place : Bool → Bool → Part
place true true = Only
place true false = First
place false true = Last
place false false = Middle

-- there is no unfinished burst
abbrev pub is_empty : {w : ℕ} → List (Beat w) → Bool
is_empty [] = true
is_empty (x ∷ xs) = false

-- the beat completes the burst
abbrev pub completes : {w : ℕ} → Beat w → List (Beat w) → Bool
completes x burst = length burst + 1 == burst_length x

-- the place of a beat after the unfinished burst, whose newest beat is first, or S1
abbrev pub part_of : {w : ℕ} → Beat w → List (Beat w) → Result Part Broken
part_of x burst = if breaks_burst x burst then Err S1 else Ok (place (is_empty burst) (completes x burst))

-- the beat continues a burst and doesn't complete it
abbrev pub is_middle : Result Part Broken → Bool
is_middle (Ok Middle) = true
is_middle _ = false
