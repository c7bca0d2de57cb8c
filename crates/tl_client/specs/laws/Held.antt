-- The permission held after the calls of a client.
use Rattle.std.specs.Prelude.{ℕ, ◌==◌, ◌&&◌, if◌then◌else◌, Option, None, Result, Ok, Err}
use Rattle.tl_beat.specs.declared.beat.Beat.{Beat}
use Rattle.tl_beat.specs.declared.beat.Beat.TheVariants as beat
use Rattle.tl_burst.specs.declared.message.Message.{Message}
use Rattle.tl_burst.specs.statement.Messages.{History}
use Rattle.tl_params.specs.declared.perm.Perm.{Perm}
use Rattle.tl_params.specs.declared.rule.Rule.{Rule}
use Rattle.tl_rules.specs.statement.History.{block_at, ends, grants, capped, held}
use Rattle.tl_params.specs.statement.Param.{prune_right, report_right}
use Rattle.tl_client.specs.declared.busy.Busy.{Busy}
use Rattle.tl_client.specs.declared.operation.Op.{Op}
use Rattle.tl_client.specs.declared.operation.Op.TheVariants.{Release}
use Rattle.tl_client.specs.declared.verdict.Verdict.{Verdict}
use Rattle.tl_client.specs.declared.verdict.Verdict.TheVariants.{Stalled}
use Rattle.tl_client.specs.statement.Offer.{report_for}

-- the permission of block k after an operation: a Release that starts leaves the right end of its prune
abbrev pub left_by : {w : ℕ} → Option Busy → Op w → ℕ → Perm → Perm
left_by None (Release block prune) k p = if k == block then prune_right prune else p
left_by _ _ k p = p

-- The permission of block k after a beat was taken. A Probe leaves the right end of its report, and the last beat of a
-- Grant gives its cap.
abbrev pub held_with : {w : ℕ} → Beat w → History w → ℕ → Perm
held_with (beat.B x) t k = if k == block_at x.address then report_right (report_for x (held (block_at x.address) t))
    else held k t
held_with (beat.D x) t k = if ends (beat.D x) t && grants k x t then capped x.param else held k t
held_with _ t k = held k t

-- the permission of block k after this answer to a beat
abbrev pub held_by : {w : ℕ} → Result (Verdict × Option (Message w)) Rule → Beat w → History w → ℕ → Perm
held_by (Err rule) x t k = held k t
held_by (Ok (Stalled, m)) x t k = held k t
held_by (Ok _) x t k = held_with x t k
