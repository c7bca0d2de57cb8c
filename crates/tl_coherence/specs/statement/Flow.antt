-- The beats that were delivered, on one link and on all.
use Rattle.std.specs.Prelude.{ℕ, List, [], ◌∷◌, ◌++◌, ◌==◌, if◌then◌else◌, ⊤}
use Rattle.tl_beat.specs.declared.beat.Beat.{Beat}
use Rattle.tl_burst.specs.statement.Messages.{History}
use Rattle.tl_rules.specs.statement.Conformance.{Trace}
use Rattle.tl_coherence.specs.declared.event.Event.{Event}
use Rattle.tl_coherence.specs.declared.event.Event.TheVariants.{Deliver}
use Rattle.tl_coherence.specs.declared.event.Outcome.{Outcome}
use Rattle.tl_coherence.specs.declared.event.Outcome.TheVariants.{Moved, Done}
use Rattle.tl_coherence.specs.statement.Log.{Log}

-- the beat that was taken on link n at an event
abbrev pub taken_on : {w : ℕ} → ℕ → Event w → Outcome w → List (Beat w)
taken_on n (Deliver link ch) (Moved x) = if link.0 == n then x ∷ [] else []
taken_on n (Deliver link ch) (Done x source finish) = if link.0 == n then x ∷ [] else []
taken_on n _ _ = []

-- the beats that were taken on the link, the newest first
unfoldable pub flow : {w : ℕ} → ℕ → Log w → History w
flow n [] = []
flow n (x ∷ log) = taken_on n x.0 x.1 ++ flow n log

-- the beat that was taken at an event, with its link
abbrev pub taken_at : {w : ℕ} → Event w → Outcome w → Trace w
taken_at (Deliver link ch) (Moved x) = (link, x) ∷ []
taken_at (Deliver link ch) (Done x source finish) = (link, x) ∷ []
taken_at _ _ = []

-- the beats that were taken on all links, the newest first
unfoldable pub trace_of : {w : ℕ} → Log w → Trace w
trace_of [] = []
trace_of (x ∷ log) = taken_at x.0 x.1 ++ trace_of log

-- P is true of the beat that was taken after this log, if one was
abbrev pub IsTaken : {w : ℕ} → (Log w → ℕ → Beat w → Type 0) → Log w → Trace w → Type 0
IsTaken P log [] = ⊤
IsTaken P log (x ∷ rest) = P log x.0.0 x.1

-- P is true of each beat that was taken, after the events before it
unfoldable pub EachTaken : {w : ℕ} → (Log w → ℕ → Beat w → Type 0) → Log w → Type 0
EachTaken P [] = ⊤
EachTaken P (x ∷ log) = IsTaken P log (taken_at x.0 x.1) × EachTaken P log
