-- The trackers by their numbers.
use Rattle.std.specs.Prelude.{ℕ, false, true, Option, Some, None, ◌≡◌, ◌⊎◌, slice_index_or}
use Rattle.tl_burst.specs.declared.message.MessageA.{MessageA}
use Rattle.tl_manager.specs.code.Tracking.{is_of, serves_source, request_in}
use Rattle.tl_manager.specs.declared.manager.tracker.Tracker.{Tracker}
use Rattle.tl_manager.specs.declared.manager.tracker.Tracker.TheVariants.{Free}
use Rattle.tl_manager.specs.declared.manager.tracker.Trackers.{Trackers}

-- the tracker with this number, free past the last
abbrev pub tracker_at : {w : ℕ} → Trackers w → ℕ → Tracker w
tracker_at trackers n = slice_index_or trackers.all n Free

-- the tracker is of the block, or it is free and none is of the block
abbrev pub IsOfBlock : {w : ℕ} → Trackers w → ℕ → Tracker w → Type 0
IsOfBlock trackers block tracker =
    ((n : ℕ) × (tracker ≡ tracker_at trackers n) × (is_of block tracker ≡ true))
    ⊎ ((tracker ≡ Free) × ((i : ℕ) → is_of block (tracker_at trackers i) ≡ false))

-- the request that a client asks with this source, or there is none
abbrev pub IsAsked : {w : ℕ} → Trackers w → ℕ → ℕ → Option (MessageA w) → Type 0
IsAsked trackers client source (Some request) =
    (n : ℕ) × (serves_source client source (tracker_at trackers n) ≡ true)
    × (request_in (tracker_at trackers n) ≡ Some request)
IsAsked trackers client source None = (i : ℕ) → serves_source client source (tracker_at trackers i) ≡ false
