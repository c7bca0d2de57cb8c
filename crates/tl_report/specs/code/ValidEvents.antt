-- That an event can be spelled is known in one way.
use Rattle.std.proofs.Props.{props}
use Rattle.std.specs.Prelude.{ℕ}
use Rattle.tl_wide_event_lines.specs.code.EventJudging.{IsValid}
use Rattle.tl_wide_events.specs.declared.commit.WideEvent.{WideEvent}
use Rattle.tl_wide_events.specs.declared.commit.WideEvent.TheVariants as wide
use Rattle.tl_wide_events.specs.declared.commit.WideCommit.TheVariants as commit

-- two proofs that an event can be spelled are the same
pub IsValid-prop : {w : ℕ} (x : WideEvent w) → IsProp (IsValid x)
IsValid-prop (wide.Beat x) = hlevel props
IsValid-prop (wide.Commit (commit.Store piece value)) = hlevel props
IsValid-prop (wide.Commit (commit.Load piece value)) = hlevel props
IsValid-prop (wide.Commit (commit.Begin piece)) = hlevel props
