-- What is recorded of a link while the events of a trace are followed.
use Rattle.std.specs.Prelude.{◌≡◌, ◌+◌, ◌++◌, ◌∷◌, ℕ, Bool, true, false, List, length, slice_get, Option, Some, None, ⊤}
use Rattle.tl_allowed.specs.code.Known.{Knows}
use Rattle.tl_allowed.specs.declared.allowances.Allowances.{Allowances}
use Rattle.tl_beat.specs.declared.beat.Link.{Link}
use Rattle.tl_commits.specs.statement.Events.{Events, beats_of}
use Rattle.tl_events.specs.declared.commit.Event.{Event}
use Rattle.tl_explain.specs.code.Recorded.{IsRecordUnder}
use Rattle.tl_params.specs.declared.level.Level.{Level}
use Rattle.tl_params.specs.declared.liberties.Liberties.{Liberties}
use Rattle.tl_params.specs.declared.rule.Rule.{Rule}
use Rattle.tl_rules.specs.statement.Conformance.{Trace}
use Rattle.tl_commit_story.specs.declared.link_record.LinkRecord.{LinkRecord}
use Rattle.tl_commit_story.specs.statement.Grounds.{AreLinkGrounds}
use Rattle.tl_commit_story.specs.statement.Numbered.{numbered}

-- further liberties are looked at if each link is judged by itself, and then by monitors that know these beats
abbrev pub KnowsAllowances : {w : ℕ} → Bool → Option (Allowances w) → List Level → Liberties → Trace w → Type 0
KnowsAllowances true None levels may t = ⊤
KnowsAllowances false (Some a) levels may t = Knows a levels may t
KnowsAllowances _ _ levels may t = ⊥

-- all that is kept is what the events say
pub record KnowsLink {w : ℕ} (together : Bool) (r : LinkRecord w) (may : Liberties) (levels : List Level) (e : Events w)
    : Type 0 where
  pub recorded : IsRecordUnder may r.recorder (numbered e)
  pub may_is : r.may ≡ may
  pub level_is : r.level ≡ slice_get levels r.recorder.subject.link.0
  pub allowed : KnowsAllowances together r.allowances levels may (beats_of e)

-- one more event, in the line of this number
abbrev pub RecordsEvent : {w : ℕ} → LinkRecord w → LinkRecord w → ℕ → Link → Event w → Type 0
RecordsEvent {w} old new number link x =
    (together : Bool) (may : Liberties) (levels : List Level) (e : Events w) → number ≡ length e + 2
    → KnowsLink together old may levels e → KnowsLink together new may levels ((link, x) ∷ e)

-- the text has the grounds, behind what it had
abbrev pub TellsLink : {w : ℕ} → LinkRecord w → Rule → Link → Event w → List ℕ → List ℕ → Type 0
TellsLink {w} r rule link x was is =
    (together : Bool) (may : Liberties) (levels : List Level) (e : Events w) → KnowsLink together r may levels e
    → (grounds : List ℕ) × (is ≡ was ++ grounds) × AreLinkGrounds together rule may levels link x e grounds
