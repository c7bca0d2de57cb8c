-- The beats of a run with commits, and the run without these.
use Rattle.tl_commit_memory.proofs.Imports.{CommitRun, Committed, Events, Happened, IsCommitRun, IsRun, Leaves, Memory}
use Rattle.tl_commit_memory.proofs.Imports.{Performs, Stores, Takes, beats_of, events_in, run_in, trace_in}
use Rattle.tl_commit_memory.proofs.Imports.{Channel, Run}
use Rattle.std.proofs.Common.{◌≡◌, ℕ, zero, suc, Bool, true, false, ◌&&◌, [], ◌∷◌, refl, sym, ◌∙◌, ap}
use Rattle.std.specs.Prelude.{if◌then◌else◌, ◌==◌}
use Rattle.tl_burst.specs.statement.Messages.{on}
unfoldable use Rattle.tl_commits.specs.statement.True.{before_last_seen}
unfoldable use Rattle.tl_one_memory.specs.statement.Run.{run_before}

-- the beats of the trace are those that the run took
pub beats-are : {w : ℕ} (steps : CommitRun w) → beats_of (events_in steps) ≡ trace_in (run_in steps)
unfolding beats_of events_in trace_in run_in
beats-are [] = refl
beats-are (Happened (Takes link x) ∷ steps) = ap (λ t. (link, x) ∷ t) (beats-are steps)
beats-are (Happened (Performs d i test left) ∷ steps) = beats-are steps
beats-are (Happened (Stores block bytes) ∷ steps) = beats-are steps
beats-are (Happened (Leaves d i bytes) ∷ steps) = beats-are steps
beats-are (Committed link x ∷ steps) = beats-are steps

-- it is a run of one memory
pub is-run : {w : ℕ} (n : ℕ) (first : Memory) (steps : CommitRun w) → IsCommitRun n first steps
    → IsRun n first (run_in steps)
unfolding IsCommitRun IsRun run_in
is-run n first [] is = tt
is-run n first (Happened x ∷ steps) is = (is.0, is-run n first steps is.1)
is-run n first (Committed link x ∷ steps) is = is-run n first steps is.1

-- ---- before the last beats of a response

-- the steps before the last k beats that were taken on channel D of a link
unfoldable pub steps_before : {w : ℕ} → ℕ → ℕ → CommitRun w → CommitRun w
steps_before link zero steps = steps
steps_before link (suc k) [] = []
steps_before link (suc k) (Happened (Takes l x) ∷ steps) =
    if (l.0 == link) && on Channel.D x then steps_before link k steps else steps_before link (suc k) steps
steps_before link (suc k) (Happened (Performs d i test left) ∷ steps) = steps_before link (suc k) steps
steps_before link (suc k) (Happened (Stores block bytes) ∷ steps) = steps_before link (suc k) steps
steps_before link (suc k) (Happened (Leaves d i bytes) ∷ steps) = steps_before link (suc k) steps
steps_before link (suc k) (Committed l x ∷ steps) = steps_before link (suc k) steps

before-none : {w : ℕ} (link : ℕ) (e : Events w) → before_last_seen link zero e ≡ e
unfolding before_last_seen
before-none link [] = refl
before-none link (x ∷ e) = refl

none-before : {w : ℕ} (link : ℕ) (steps : CommitRun w) → steps_before link zero steps ≡ steps
unfolding steps_before
none-before link [] = refl
none-before link (x ∷ steps) = refl

pub events-before : {w : ℕ} (link k : ℕ) (steps : CommitRun w)
    → events_in (steps_before link k steps) ≡ before_last_seen link k (events_in steps)
unfolding events_in steps_before before_last_seen
events-before link zero steps = ap (λ s. events_in s) (none-before link steps)
    ∙ sym (before-none link (events_in steps))
events-before link (suc k) [] = refl
events-before {w} link (suc k) (Happened (Takes l x) ∷ steps) =
    go ((l.0 == link) && on Channel.D x) (events-before link k steps) (events-before link (suc k) steps)
  where
    go : (b : Bool) → events_in (steps_before link k steps) ≡ before_last_seen link k (events_in steps)
        → events_in (steps_before link (suc k) steps) ≡ before_last_seen link (suc k) (events_in steps)
        → events_in (if b then steps_before link k steps else steps_before link (suc k) steps)
        ≡ (if b then before_last_seen link k (events_in steps) else before_last_seen link (suc k) (events_in steps))
    go true e f = e
    go false e f = f
events-before link (suc k) (Happened (Performs d i test left) ∷ steps) = events-before link (suc k) steps
events-before link (suc k) (Happened (Stores block bytes) ∷ steps) = events-before link (suc k) steps
events-before link (suc k) (Happened (Leaves d i bytes) ∷ steps) = events-before link (suc k) steps
events-before link (suc k) (Committed l x ∷ steps) = events-before link (suc k) steps

pub run-before : {w : ℕ} (link k : ℕ) (steps : CommitRun w)
    → run_in (steps_before link k steps) ≡ run_before link k (run_in steps)
unfolding run_in steps_before run_before
run-before link zero [] = refl
run-before link zero (Happened x ∷ steps) = refl
run-before {w} link zero (Committed l x ∷ steps) = ap (λ s. run_in s) (none-before link (Committed l x ∷ steps))
    ∙ none (run_in steps)
  where
    none : (run : Run w) → run ≡ run_before link zero run
    none [] = refl
    none (x ∷ run) = refl
run-before link (suc k) [] = refl
run-before {w} link (suc k) (Happened (Takes l x) ∷ steps) =
    go ((l.0 == link) && on Channel.D x) (run-before link k steps) (run-before link (suc k) steps)
  where
    go : (b : Bool) → run_in (steps_before link k steps) ≡ run_before link k (run_in steps)
        → run_in (steps_before link (suc k) steps) ≡ run_before link (suc k) (run_in steps)
        → run_in (if b then steps_before link k steps else steps_before link (suc k) steps)
        ≡ (if b then run_before link k (run_in steps) else run_before link (suc k) (run_in steps))
    go true e f = e
    go false e f = f
run-before link (suc k) (Happened (Performs d i test left) ∷ steps) = run-before link (suc k) steps
run-before link (suc k) (Happened (Stores block bytes) ∷ steps) = run-before link (suc k) steps
run-before link (suc k) (Happened (Leaves d i bytes) ∷ steps) = run-before link (suc k) steps
run-before link (suc k) (Committed l x ∷ steps) = run-before link (suc k) steps

pub is-before : {w : ℕ} (n : ℕ) (first : Memory) (link k : ℕ) (steps : CommitRun w) → IsCommitRun n first steps
    → IsCommitRun n first (steps_before link k steps)
unfolding IsCommitRun steps_before
is-before n first link zero [] is = is
is-before n first link zero (x ∷ steps) is = is
is-before n first link (suc k) [] is = is
is-before {w} n first link (suc k) (Happened (Takes l x) ∷ steps) is =
    go ((l.0 == link) && on Channel.D x) (is-before n first link k steps is.1)
    (is-before n first link (suc k) steps is.1)
  where
    go : (b : Bool) → IsCommitRun n first (steps_before link k steps)
        → IsCommitRun n first (steps_before link (suc k) steps)
        → IsCommitRun n first (if b then steps_before link k steps else steps_before link (suc k) steps)
    go true e f = e
    go false e f = f
is-before n first link (suc k) (Happened (Performs d i test left) ∷ steps) is =
    is-before n first link (suc k) steps is.1
is-before n first link (suc k) (Happened (Stores block bytes) ∷ steps) is = is-before n first link (suc k) steps is.1
is-before n first link (suc k) (Happened (Leaves d i bytes) ∷ steps) is = is-before n first link (suc k) steps is.1
is-before n first link (suc k) (Committed l x ∷ steps) is = is-before n first link (suc k) steps is.1
