-- The events of a world, and its state after them.
use Rattle.std.specs.Prelude.{ℕ, List, [], ◌∷◌, ◌≡◌, ⊤}
use Rattle.tl_params.specs.declared.config.Config.{Config}
use Rattle.tl_coherence.specs.declared.event.Event.{Event}
use Rattle.tl_coherence.specs.declared.event.Outcome.{Outcome}
use Rattle.tl_coherence.specs.statement.Step.{stepped}
use Rattle.tl_coherence.specs.statement.System.{System, fresh}

-- events with their outcomes, the newest first
abbrev pub Log : ℕ → Type 0
Log w = List (Event w × Outcome w)

-- the state after these events
unfoldable pub system_after : {w : ℕ} → Config → Log w → System w
system_after config [] = fresh
system_after config (x ∷ log) = (stepped config x.0 (system_after config log)).after

-- each outcome is that of its event after the events before it
unfoldable pub IsLog : {w : ℕ} → Config → Log w → Type 0
IsLog config [] = ⊤
IsLog config (x ∷ log) = (x.1 ≡ (stepped config x.0 (system_after config log)).outcome) × IsLog config log

-- the log with these events and outcomes added; the first of them comes next
unfoldable pub logged : {w : ℕ} → List (Event w) → List (Outcome w) → Log w → Log w
logged (e ∷ events) (o ∷ outcomes) log = logged events outcomes ((e, o) ∷ log)
logged _ _ log = log
