-- What a judge of wide beats and commits knows, and is for.
use Rattle.std.specs.Prelude.{◌≡◌, ℕ}
use Rattle.tl_beat.specs.declared.beat.Link.{Link}
use Rattle.tl_commit_lines.specs.statement.MarkedHeader.{links_in}
use Rattle.tl_commit_lines.specs.code.EventWatching.{KnowsEvents}
use Rattle.tl_commit_lines.specs.declared.header.CommitHeader.{CommitHeader}
use Rattle.tl_commits.specs.statement.Events.{Events}
use Rattle.tl_report.specs.code.KeptJudging.{kept_ways}
use Rattle.tl_report.specs.code.LineJudging.{Ways}
use Rattle.tl_report.specs.code.Taking.{Takings, none-some}
use Rattle.tl_report.specs.declared.kept.KeptLineJudge.{KeptLineJudge}
use Rattle.tl_report.specs.declared.wide_events.SpelledEvent.{SpelledEvent}
use Rattle.tl_report.specs.declared.wide_events.WideEventTaker.{WideEventTaker}
use Rattle.tl_report.specs.statement.Form.{EventTerms, wide_events}
use Rattle.tl_report.specs.statement.Found.{event_terms_of}
use Rattle.tl_wide.specs.statement.Narrowing.{Follows}
use Rattle.tl_wide.specs.statement.Width.{part_width}
use Rattle.tl_wide_event_lines.specs.declared.judge.WideEventJudge.{WideEventJudge}
use Rattle.tl_wide_events.specs.declared.commit.WideEvent.{WideEvent}
use Rattle.tl_wide_events.specs.statement.Narrowed.{WideEvents, names_of, narrowed}

-- The judge has taken these events, the newest first. `events` has what they became, with beats of any width; the judge's
-- own width is that of the parts.
pub record KnowsWideEvents {w p : ℕ} (terms : EventTerms) (judge : WideEventJudge p) (t : WideEvents w) : Type 0 where
  pub events : (q : ℕ) → Events q
  pub are_events : events (part_width w) ≡ narrowed t
  pub follows : Follows judge.narrower (names_of t)
  pub known : KnowsEvents terms.together judge.judge terms.links terms.may (events p)

-- it takes wide beats and commits
abbrev pub wide_event_takings : (w p : ℕ)
    → Takings (WideEventTaker w p) CommitHeader (SpelledEvent w) EventTerms (Link × WideEvent w)
wide_event_takings w p = record {
  form = wide_events w;
  shown = λ x. (x.link, x.event);
  terms_of = λ together links. event_terms_of together links.may (links_in links);
  takes = λ judge terms t. KnowsWideEvents terms judge.judge t;
  apart = λ terms t x fault good bad. none-some good bad;
}

-- the same of a judge of their lines
abbrev pub wide_event_ways : (w p : ℕ)
    → Ways (KeptLineJudge (WideEventTaker w p) CommitHeader (SpelledEvent w)) EventTerms (Link × WideEvent w)
wide_event_ways w p = kept_ways (wide_event_takings w p)
