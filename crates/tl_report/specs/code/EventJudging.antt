-- What a judge of lines of beats and commits has taken.
use Rattle.std.specs.Prelude.{ℕ, true}
use Rattle.tl_beat.specs.declared.beat.Link.{Link}
use Rattle.tl_commit_lines.specs.code.EventWatching.{KnowsEvents}
use Rattle.tl_commits.specs.statement.Events.{Events}
use Rattle.tl_events.specs.declared.commit.Event.{Event}
use Rattle.tl_report.specs.code.LineJudging.{Ways}
use Rattle.tl_report.specs.declared.events.EventLineJudge.{EventLineJudge}
use Rattle.tl_report.specs.statement.Form.{EventTerms, events}

-- under these terms it has taken these events
abbrev pub KnowsTaken : (w : ℕ) → EventLineJudge w → EventTerms → Events w → Type 0
KnowsTaken w judge terms e = KnowsEvents terms.together judge.judge terms.links terms.may e

-- it takes beats and commits, and knows them after a line at fault too
abbrev pub event_ways : (w : ℕ) → Ways (EventLineJudge w) EventTerms (Link × Event w)
event_ways w = record { form = events w; knows = KnowsTaken w; goes_on = λ _. true }
