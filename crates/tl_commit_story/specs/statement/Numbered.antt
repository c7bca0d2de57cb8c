-- The beats of a trace with commits, numbered as the lines of the trace are.
use Rattle.std.specs.Prelude.{ℕ, [], ◌∷◌}
use Rattle.tl_beat.specs.declared.beat.Beat.{Beat}
use Rattle.tl_beat.specs.declared.beat.Beat.TheVariants as beat
use Rattle.tl_beat.specs.declared.beat.Link.{Link}
use Rattle.tl_commits.specs.statement.Events.{Events}
use Rattle.tl_events.specs.declared.commit.Event.{Event}
use Rattle.tl_events.specs.declared.commit.Event.TheVariants as event
use Rattle.tl_rules.specs.statement.Conformance.{Trace}

-- a link that no header names
abbrev pub no_link : Link
no_link = record { 0 = 255 }

-- a beat of it
abbrev pub no_beat : (w : ℕ) → Beat w
no_beat w = beat.E (record { sink = 0 })

-- one more event: a beat, or for a commit that beat of no link
abbrev pub numbered_with : {w : ℕ} → Link → Event w → Trace w → Trace w
numbered_with link (event.Beat x) t = (link, x) ∷ t
numbered_with {w} link (event.Commit x) t = (no_link, no_beat w) ∷ t

-- The beats of a trace, with that beat of no link for each commit. Each link that a header names has the same beats as
-- without these, and there are as many beats as events: so the line of a beat, counted by the beats before it, is its
-- line in the trace with commits.
unfoldable pub numbered : {w : ℕ} → Events w → Trace w
numbered [] = []
numbered (x ∷ e) = numbered_with x.0 x.1 (numbered e)
