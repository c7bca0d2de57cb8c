-- The lines of the beats of a trace with commits.
use Rattle.std.specs.Prelude.{ℕ, ◌+◌, ◌==◌, if◌then◌else◌, length, [], ◌∷◌}
use Rattle.tl_commits.specs.statement.Events.{Events, beats_of}
use Rattle.tl_events.specs.declared.commit.Event.{Event}
use Rattle.tl_events.specs.declared.commit.Event.TheVariants as event
use Rattle.tl_witness.specs.statement.Naming.{Naming}

-- the line of the beat with this number, which is this event after those of e, or the other line
abbrev pub line_or : {w : ℕ} → Event w → Events w → ℕ → ℕ → ℕ
line_or (event.Beat x) e n other = if n == length (beats_of e) + 2 then length e + 2 else other
line_or (event.Commit x) e n other = other

-- The line of the beat with this number. The beats alone are numbered as the lines of a trace without commits: the
-- header has the number 1, and the first beat 2. A number that no beat has stays.
unfoldable pub line_of_beat : {w : ℕ} → Events w → ℕ → ℕ
line_of_beat [] n = n
line_of_beat (x ∷ e) n = line_or x.1 e n (line_of_beat e n)

-- beats are named by the lines of these events, which are named so, and addresses as they are
abbrev pub event_names : {w : ℕ} → Naming → Events w → Naming
event_names names e = record { line = λ n. names.line (line_of_beat e n); address = names.address }
