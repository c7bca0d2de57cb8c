-- What a Grant gives that has begun, and is neither complete nor acknowledged, by the tables of its link.
use Rattle.std.specs.Prelude.{ℕ, Bool, false, not, ◌==◌, ◌&&◌, if◌then◌else◌, Option, Some, None, is_some}
use Rattle.tl_beat.specs.declared.control.Control.{Control}
use Rattle.tl_beat.specs.declared.control.Control.TheVariants.{D}
use Rattle.tl_params.specs.declared.perm.Perm.{Perm}
use Rattle.tl_rules.specs.declared.past.Request.{Request}
use Rattle.tl_rules.specs.statement.History.{is_grant, capped}
use Rattle.tl_monitor.specs.code.KnownBlocks.{known_in}
use Rattle.tl_monitor.specs.statement.Count.{at}
use Rattle.tl_monitor.specs.declared.bursts.Unfinished.{Unfinished}
use Rattle.tl_monitor.specs.declared.link_state.LinkState.{LinkState}

abbrev pub is_for : ℕ → Option Request → Bool
is_for k None = false
is_for k (Some asked) = asked.block == k

abbrev pub given_by_control : ℕ → LinkState → Control → Option Perm
given_by_control k state (D x) =
    if is_grant x.opcode
    && (is_for k (at state.requests x.source) && (not x.denied && is_some (known_in state.blocks k).grant))
    then Some (capped x.param)
    else None
given_by_control k state _ = None

abbrev pub coming_by : {P : Type 0} → ℕ → LinkState → Option (Unfinished P) → Option Perm
coming_by k state None = None
coming_by k state (Some u) = given_by_control k state u.control

abbrev pub coming_in : ℕ → LinkState → Option Perm
coming_in k state = coming_by k state state.bursts.d
