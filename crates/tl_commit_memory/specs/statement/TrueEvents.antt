-- That the bytes which a run of one memory brings are true by the stores and loads of cores too.
use Rattle.std.specs.Prelude.{ℕ, true, [], ◌∷◌, ◌≡◌, ⊤}
use Rattle.tl_beat.specs.declared.beat.Beat.TheVariants as beat
use Rattle.tl_events.specs.declared.commit.Event.{Event}
use Rattle.tl_events.specs.declared.commit.Event.TheVariants as event
use Rattle.tl_rules.specs.statement.Effect.{Memory}
use Rattle.tl_commits.specs.statement.Completeness.{Completeness}
use Rattle.tl_commits.specs.statement.Events.{Events}
use Rattle.tl_commits.specs.statement.True.{is_true_seen}
use Rattle.tl_commit_memory.specs.statement.CommitRun.{CommitRun, IsCommitRun, StartsAs, events_in}

-- the bytes of a response are true after e, by the beats and the commits
abbrev pub IsTrueEvent : {w : ℕ} → Completeness → ℕ → ℕ → Event w → Events w → Type 0
IsTrueEvent complete n link (event.Beat (beat.D z)) e = is_true_seen complete z.opcode n link z e ≡ true
IsTrueEvent complete n link _ e = ⊤

-- so are those of all responses in a trace
unfoldable pub AreTrueEvents : {w : ℕ} → Completeness → ℕ → Events w → Type 0
AreTrueEvents complete n [] = ⊤
AreTrueEvents complete n (x ∷ e) = IsTrueEvent complete n x.0.0 x.1 e × AreTrueEvents complete n e

-- Whatever memory was at first, but zero if the header says that it was, and whichever links say that all their stores
-- are in the trace: if there is such a run beside the beats and the commits, no GrantData brings bytes that may not be
-- granted by M2, and no AccessAckData bytes that its request may not bring by M3.
abbrev pub TrueCommitRuns : ℕ → Type 0
TrueCommitRuns w = (complete : Completeness) (n : ℕ) (first : Memory) (run : CommitRun w) → StartsAs complete.zero first
    → IsCommitRun n first run → AreTrueEvents complete n (events_in run)
