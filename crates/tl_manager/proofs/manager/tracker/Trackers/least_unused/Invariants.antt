use Rattle.std.proofs.Common.{ℕ, ◌≡◌, ◌<◌, false}
use Rattle.tl_manager.{specs.code.Tracking.is_free, specs.code.Trackers.tracker_at}
use Rattle.tl_manager.proofs.manager.tracker.Trackers.least_unused.Given as goal

abbrev pub invariant-loop-number : goal.invariant-loop-number
invariant-loop-number g l = (i : ℕ) → i < l.number → is_free (tracker_at l.self i) ≡ false
