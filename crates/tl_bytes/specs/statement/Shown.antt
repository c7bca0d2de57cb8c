-- Whether a Get may be performed while a link holds Trunk: a report has given the block's bytes, and left its sender
-- Trunk.
use Rattle.std.specs.Prelude.{ℕ, Bool, true, false, [], ◌∷◌, ◌==◌, ◌&&◌, ◌||◌, Option, Some, None, is_some}
use Rattle.tl_beat.specs.declared.beat.Beat.{Beat}
use Rattle.tl_beat.specs.declared.beat.Beat.TheVariants as beat
use Rattle.tl_beat.specs.declared.beat.BeatC.{BeatC}
use Rattle.tl_beat.specs.declared.beat.Link.{Link}
use Rattle.tl_beat.specs.declared.opcode.OpC.{OpC}
use Rattle.tl_beat.specs.declared.opcode.OpC.TheVariants as c
use Rattle.tl_burst.specs.statement.Messages.{History}
use Rattle.tl_params.specs.declared.perm.Perm.{Perm}
use Rattle.tl_params.specs.declared.perm.Perm.TheVariants as perm
use Rattle.tl_rules.specs.statement.OpenMessages.{open_probe, open_request}
use Rattle.tl_rules.specs.declared.past.Probe.{Probe}
use Rattle.tl_rules.specs.statement.Conformance.{Trace, is_probe_block, on_link, same_perm}
use Rattle.tl_rules.specs.statement.History.{block_at, ends, reported}
use Rattle.tl_bytes.specs.statement.Free.{is_free}

-- there is a Probe, and it asks for the block's bytes
abbrev pub asks_bytes : Option Probe → Bool
asks_bytes None = false
asks_bytes (Some probe) = is_probe_block probe.opcode

-- A report gives the bytes: by its data, or by having none, which says that nothing was written. The ProbeAck of a
-- ProbePerm never has data, and gives nothing.
abbrev pub tells_bytes : OpC → Option Probe → Bool
tells_bytes c.ProbeAck asked = asks_bytes asked
tells_bytes c.ProbeAckData asked = true
tells_bytes c.Release asked = true
tells_bytes c.ReleaseData asked = true
tells_bytes _ asked = false

-- the report leaves its sender Trunk, and gives the bytes
abbrev pub shows_bytes : {w : ℕ} → BeatC w → History w → Bool
shows_bytes x past =
    same_perm (reported x.param) perm.Trunk && tells_bytes x.opcode (open_probe (block_at x.address) past)

-- such a report of the block is complete with this beat
abbrev pub shows : {w : ℕ} → ℕ → Beat w → History w → Bool
shows block (beat.C x) past = ends (beat.C x) past && ((block_at x.address == block) && shows_bytes x past)
shows block _ past = false

-- with this beat an access that needs this permission of the block may be performed: the block is free for it, or the
-- access reads and the block's bytes are shown
abbrev pub is_window : {w : ℕ} → ℕ → Perm → ℕ → Link × Beat w → Trace w → Bool
is_window n given block x t =
    is_free n given block (x ∷ t) || (same_perm given perm.Branch && shows block x.1 (on_link x.0.0 t))

-- there was such a moment since the request with this source, which is pending on the link, was complete
unfoldable pub had_window : {w : ℕ} → ℕ → ℕ → ℕ → Perm → ℕ → Trace w → Bool
had_window n link source given block [] = false
had_window n link source given block (x ∷ t) =
    is_some (open_request source (on_link link (x ∷ t)))
    && (is_window n given block x t || had_window n link source given block t)
