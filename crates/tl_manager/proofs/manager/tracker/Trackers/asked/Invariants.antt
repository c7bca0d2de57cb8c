use Rattle.std.proofs.Common.{ℕ, ◌≡◌, ◌<◌, false}
use Rattle.tl_manager.{specs.code.Tracking.serves_source, specs.code.Trackers.tracker_at}
use Rattle.tl_manager.proofs.manager.tracker.Trackers.asked.Given as goal

abbrev pub invariant-loop-number : goal.invariant-loop-number
invariant-loop-number g l = (i : ℕ) → i < l.number → serves_source l.link.0 l.source (tracker_at l.self i) ≡ false
