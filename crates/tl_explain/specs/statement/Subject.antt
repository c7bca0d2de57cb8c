-- The block that a beat is about.
use Rattle.std.specs.Prelude.{ℕ, if◌then◌else◌, Option, Some, None}
use Rattle.tl_beat.specs.declared.beat.Beat.{Beat}
use Rattle.tl_beat.specs.declared.beat.Beat.TheVariants as beat
use Rattle.tl_beat.specs.declared.beat.BeatA.{BeatA}
use Rattle.tl_beat.specs.declared.beat.BeatC.{BeatC}
use Rattle.tl_burst.specs.statement.Messages.{History}
use Rattle.tl_rules.specs.statement.History.{block_at, is_release_ack, request_of, release_of}

-- the block of a request, if there is one
abbrev pub block_asked : {w : ℕ} → Option (BeatA w) → Option ℕ
block_asked None = None
block_asked (Some x) = Some (block_at x.address)

-- the block of a Release, if there is one
abbrev pub block_released : {w : ℕ} → Option (BeatC w) → Option ℕ
block_released None = None
block_released (Some x) = Some (block_at x.address)

-- the block of a beat's message; for an answer that of the request or Release
abbrev pub block_of : {w : ℕ} → Beat w → History w → Option ℕ
block_of (beat.A x) t = Some (block_at x.address)
block_of (beat.B x) t = Some (block_at x.address)
block_of (beat.C x) t = Some (block_at x.address)
block_of (beat.D x) t = if is_release_ack x.opcode then block_released (release_of x.source t) else block_asked
    (request_of x.source t)
block_of (beat.E x) t = None
