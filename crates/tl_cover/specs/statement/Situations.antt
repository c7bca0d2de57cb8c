-- The situations: a message begins in one by its first beat and the facts about it.
use Rattle.std.specs.Prelude.{ℕ, Bool, true, false, not, ◌==◌, ◌&&◌, ◌||◌, ◌-◌, Option, Some, None, nat_le}
use Rattle.tl_beat.specs.declared.beat.Beat.{Beat}
use Rattle.tl_beat.specs.declared.beat.Beat.TheVariants as beat
use Rattle.tl_beat.specs.declared.beat.Link.{Link}
use Rattle.tl_beat.specs.declared.control.Control.{Control}
use Rattle.tl_beat.specs.declared.control.Control.TheVariants as control
use Rattle.tl_cover.specs.declared.scene.ProbeAt.{ProbeAt}
use Rattle.tl_cover.specs.declared.scene.Scene.{Scene}
use Rattle.tl_cover.specs.declared.situation.Situation.{Situation}
use Rattle.tl_cover.specs.declared.situation.Situation.TheVariants as situation
use Rattle.tl_cover.specs.declared.situation.Wait.{Wait}
use Rattle.tl_cover.specs.statement.Kinds.{asks_for, gives, has_arithmetic, has_cap, has_grow, has_lanes, has_logical}
use Rattle.tl_cover.specs.statement.Kinds.{has_report, has_sink_without_grant, is_access_beat, is_denied_grant}
use Rattle.tl_cover.specs.statement.Kinds.{is_denied_uncorrupt, is_probe_with_source, is_report_with_data}
use Rattle.tl_cover.specs.statement.Kinds.{releases_with, says_nothing_held}
use Rattle.tl_cover.specs.statement.Kinds.{is_acquire_beat, is_atomic, is_get, is_grant_ack_beat, is_grant_beat}
use Rattle.tl_cover.specs.statement.Kinds.{is_grant_with, is_probe_beat, is_put, is_release_beat}
use Rattle.tl_cover.specs.statement.Kinds.{is_aligned, is_depth, is_pending_kind, is_probe_ack_beat, is_wait}
use Rattle.tl_cover.specs.statement.Messages.{is_of_kind}
use Rattle.tl_cover.specs.statement.Scene.{scene}
use Rattle.tl_params.specs.declared.liberties.Liberties.{Liberties}
use Rattle.tl_params.specs.declared.param.Cap.{Cap}
use Rattle.tl_params.specs.declared.param.Grow.TheVariants as grow
use Rattle.tl_params.specs.declared.perm.Perm.{Perm}
use Rattle.tl_params.specs.declared.perm.Perm.TheVariants as perm
use Rattle.tl_params.specs.statement.Param.{cap_code, grow_code, grow_left}
use Rattle.tl_rules.specs.declared.past.Request.{Request}
use Rattle.tl_rules.specs.statement.Conformance.{Trace, on_link, same_perm}
use Rattle.tl_rules.specs.statement.History.{begins, is_acquire, is_grant, is_release, is_release_ack}

-- the link holds this permission of the block
abbrev pub holds : Perm → Scene → Bool
holds held s = same_perm s.block.held held

-- the request is an Acquire BtoT
abbrev pub is_upgrade : Option Request → Bool
is_upgrade None = false
is_upgrade (Some r) = is_acquire r.opcode && (r.param == grow_code grow.BtoT)

-- the request is an Acquire NtoB
abbrev pub asks_to_read : Option Request → Bool
asks_to_read None = false
asks_to_read (Some r) = is_acquire r.opcode && (r.param == grow_code grow.NtoB)

-- the copy with which an Acquire BtoT began is lost
abbrev pub has_lost_copy : Scene → Bool
has_lost_copy s = is_upgrade s.request && holds perm.None s

-- the beat is one of the response's request, or of its Release for a ReleaseAck
abbrev pub follows : {w : ℕ} → Beat w → Option Control → Bool
follows (beat.D x) (Some (control.A y)) = not (is_release_ack x.opcode) && (y.source == x.source)
follows (beat.D x) (Some (control.C y)) =
    is_release_ack x.opcode && (is_release y.opcode && (y.source == x.source))
follows _ _ = false

-- the GrantAck has the sink of the Grant
abbrev pub acknowledges : {w : ℕ} → Beat w → Option Control → Bool
acknowledges (beat.E x) (Some (control.D y)) = is_grant y.opcode && (y.sink == x.sink)
acknowledges _ _ = false

-- the beat is of channel D
abbrev pub is_response : Option Control → Bool
is_response (Some (control.D y)) = true
is_response _ = false

-- there is a pending Probe with this cap
abbrev pub is_asked : Cap → Option ProbeAt → Bool
is_asked cap None = false
is_asked cap (Some probe) = probe.param == cap_code cap

-- there is a pending Probe, and so many beats came after it, the last of them in this line
abbrev pub has_waited : Wait → ℕ → Option ProbeAt → Bool
has_waited wait line None = false
has_waited wait line (Some probe) = is_wait wait (line - probe.line)

-- a message that begins with the beat x, with these facts, begins in the situation
abbrev pub meets : {w : ℕ} → Situation → Beat w → Scene → Bool
meets situation.ProbeBesideRelease x s = is_probe_beat x && s.block.release
meets situation.ReleaseBesideProbe x s = is_release_beat x && s.block.probe
meets situation.ProbeBesideAcquire x s = is_probe_beat x && (s.block.acquire && holds perm.None s)
meets situation.ProbeBesideUpgrade x s = is_probe_beat x && (s.block.acquire && holds perm.Branch s)
meets situation.ProbeOfNothing x s = is_probe_beat x && holds perm.None s
meets situation.UpgradeLostWithData x s = is_grant_with true x && has_lost_copy s
meets situation.UpgradeLostWithoutData x s = is_grant_with false x && has_lost_copy s
meets situation.ReleaseBeforeGrantAck x s = is_release_beat x && s.block.grant_ack
meets situation.TwoGrants x s = is_grant_beat x && nat_le 1 s.waiting
meets situation.FourGrants x s = is_grant_beat x && nat_le 3 s.waiting
meets (situation.Acquired grow) x s = has_grow grow x
meets (situation.Granted grow) x s = gives grow x && holds (grow_left grow) s
meets (situation.Probed cap) x s = has_cap cap x
meets (situation.Reported report) x s = has_report report x
meets (situation.Released report) x s = releases_with report x
meets situation.AccessBesideTransfer x s = is_access_beat x && (s.block.acquire || s.block.release)
meets situation.AccessOfHeldBlock x s = is_access_beat x && not (holds perm.None s)
meets (situation.Masked lanes) x s = has_lanes lanes x
meets (situation.GetOf bytes) x s = is_get x && asks_for bytes x
meets (situation.PutOf bytes) x s = is_put x && asks_for bytes x
meets (situation.AtomicOf bytes) x s = is_atomic x && asks_for bytes x
meets (situation.Arithmetic operation) x s = has_arithmetic operation x
meets (situation.Logical operation) x s = has_logical operation x
meets situation.ResponseAtOnce x s = follows x s.previous
meets situation.GrantAckLater x s = is_grant_ack_beat x && not (is_response s.previous)
meets situation.Contention x s = is_acquire_beat x && nat_le 1 s.block.acquiring
meets situation.ThreeContend x s = is_acquire_beat x && nat_le 2 s.block.acquiring
meets situation.ReadOfOwned x s = is_get x && nat_le 1 s.block.owners
meets situation.WriteToOwned x s = is_put x && nat_le 1 s.block.owners
meets situation.AtomicOnOwned x s = is_atomic x && nat_le 1 s.block.owners
meets situation.WriteToShared x s = is_put x && nat_le 2 s.block.readers
meets situation.ReportBesideGrant x s = is_report_with_data x && nat_le 1 s.granting
meets situation.BetweenBursts x s = s.between
meets situation.EarlyResponse x s = follows x s.answered
meets situation.EarlyGrantAck x s = acknowledges x s.answered
meets situation.ProbeWithSource x s = is_probe_with_source x
meets situation.SinkWithoutGrant x s = has_sink_without_grant x
meets situation.GrantOfMore x s = gives grow.NtoT x && asks_to_read s.request
meets situation.CopyDropped x s = says_nothing_held x && not (holds perm.None s)
meets situation.GrantDenied x s = is_denied_grant x
meets situation.DeniedUncorrupt x s = is_denied_uncorrupt x
meets (situation.Sent kind) x s = is_of_kind kind x
meets (situation.Answered report cap) x s = has_report report x && is_asked cap s.asked
meets (situation.Waited wait) x s = is_probe_ack_beat x && has_waited wait s.line s.asked
meets (situation.Aligned bytes many) x s = is_access_beat x && (asks_for bytes x && is_aligned many x)
meets (situation.Among kind depth) x s = is_pending_kind kind x && is_depth depth s.depth

-- a message begins in the situation with the beat x after t, the trace of n links
abbrev pub occurs : {w : ℕ} → Liberties → ℕ → Situation → Link × Beat w → Trace w → Bool
occurs l n s x t = begins x.1 (on_link x.0.0 t) && meets s x.1 (scene l n x.0.0 x.1 t)
