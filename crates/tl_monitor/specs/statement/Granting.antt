-- The permission that a link holds of a block, with a Grant counted from its first beat on, and until its GrantAck if
-- that comes before its last beat.
use Rattle.std.specs.Prelude.{ℕ, not, ◌&&◌, if◌then◌else◌, List, ◌∷◌, Option, Some, None, unwrap_or, nat_lt, length}
use Rattle.tl_beat.specs.declared.beat.Beat.{Beat}
use Rattle.tl_beat.specs.declared.beat.Beat.TheVariants as beat
use Rattle.tl_beat.specs.declared.beat.Link.{Link}
use Rattle.tl_beat.specs.declared.channel.Channel.TheVariants as channel
use Rattle.tl_burst.specs.statement.Messages.{History, unfinished}
use Rattle.tl_params.specs.declared.key.Key.TheVariants.{GrantAckOf}
use Rattle.tl_params.specs.declared.level.Level.{Level}
use Rattle.tl_params.specs.declared.liberties.Liberties.{Liberties}
use Rattle.tl_params.specs.declared.perm.Perm.{Perm}
use Rattle.tl_params.specs.declared.perm.Perm.TheVariants as perm
use Rattle.tl_rules.specs.statement.Conformance.{Trace, on_link}
use Rattle.tl_rules.specs.statement.History.{grants, capped, pending}
use Rattle.tl_rules.specs.statement.Liberties.{held_under}

-- the permission that a Grant of the block with these beats, the newest first, gives; none if it is denied
abbrev pub given_by : {w : ℕ} → ℕ → List (Beat w) → History w → Option Perm
given_by k (beat.D x ∷ burst) t = if grants k x t && not x.denied then Some (capped x.param) else None
given_by k _ t = None

-- the permission that the unfinished Grant of the block gives, if its GrantAck is pending: after that the permission is
-- held
abbrev pub coming : {w : ℕ} → ℕ → History w → Option Perm
coming k t = if pending (GrantAckOf k) t then given_by k (unfinished channel.D t) t else None

-- the permission held of the block under liberties, with such a Grant counted from its first beat on
abbrev pub granted_under : {w : ℕ} → Liberties → ℕ → History w → Perm
granted_under l k t = unwrap_or (coming k t) (held_under l k t)

-- `coming` on a link; none on a link without a level
abbrev pub coming_on : {w : ℕ} → List Level → Link → ℕ → Trace w → Option Perm
coming_on levels link block t = if nat_lt link.0 (length levels) then coming block (on_link link.0 t) else None

-- `granted_under` on a link; None on a link without a level
abbrev pub granted_on_under : {w : ℕ} → Liberties → List Level → Link → ℕ → Trace w → Perm
granted_on_under l levels link block t =
    if nat_lt link.0 (length levels) then granted_under l block (on_link link.0 t) else perm.None
