-- Bytes that a copy may have, and beats that give some back.
use Rattle.std.specs.Prelude.{ℕ, Bool, true, false, ◌≡◌, Option, Some, None}
use Rattle.tl_beat.specs.declared.beat.BeatC.{BeatC}
use Rattle.tl_beat.specs.declared.beat.Beat.{Beat}
use Rattle.tl_beat.specs.declared.beat.Beat.TheVariants as beat
use Rattle.tl_beat.specs.statement.Opcode.{c_carries_data}
use Rattle.tl_bytes.specs.statement.Bytes.{told_as}
use Rattle.tl_commits.specs.statement.Completeness.{Completeness}
use Rattle.tl_commits.specs.statement.Events.{Events}
use Rattle.tl_commits.specs.statement.Seen.{values_seen}

-- the byte v is a possible value of the byte at an address
abbrev pub is_seen : {w : ℕ} → Completeness → ℕ → Events w → ℕ → ℕ → Bool
is_seen complete n e address v = told_as v (values_seen complete n address e)

-- the beat has data on channel C
abbrev pub carries : {w : ℕ} → Beat w → Bool
carries (beat.C x) = c_carries_data x.opcode
carries _ = false

-- this is the beat, if it has data on channel C
abbrev pub IsCarrier : {w : ℕ} → Option (BeatC w) → Beat w → Type 0
IsCarrier None x = carries x ≡ false
IsCarrier (Some y) x = (x ≡ beat.C y) × (c_carries_data y.opcode ≡ true)
