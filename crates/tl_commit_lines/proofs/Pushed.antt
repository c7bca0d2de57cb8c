-- What a judge says of an event, and of the line of one.
use Rattle.std.proofs.Common.{◌≡◌, ℕ, Bool, true, false, List, [], ◌∷◌, ap, inl, inr, refl, sym, subst}
use Rattle.std.specs.Prelude.{IfOk, Option, Some, None, Result, Ok, Err, option_map}
use Rattle.tl_beat.specs.declared.beat.Beat.{Beat}
use Rattle.tl_beat.specs.declared.beat.Link.{Link}
use Rattle.tl_beat.specs.declared.fault.LineFault.{LineFault}
use Rattle.tl_commits.specs.declared.judge.CommitJudge.{CommitJudge}
use Rattle.tl_commits.specs.declared.rule.CommitBreach.{CommitBreach}
use Rattle.tl_commits.specs.statement.Completeness.{Completeness}
use Rattle.tl_commits.specs.statement.Breaches.{broken_event}
use Rattle.tl_commits.specs.statement.Events.{Events, beats_of}
use Rattle.tl_commits.specs.statement.Knows.{IsEvent, KnowsCommits}
use Rattle.tl_lines.specs.declared.fault.Fault.{Fault}
use Rattle.tl_lines.specs.declared.fault.Fault.TheVariants.{Line, Rule as Breaks}
use Rattle.tl_events.specs.declared.commit.Commit.{Commit}
use Rattle.tl_events.specs.declared.commit.Event.{Event}
use Rattle.tl_events.specs.declared.commit.Event.TheVariants as event
use Rattle.tl_events.specs.statement.EventLine.{SpellsEvent, event_fault}
use Rattle.tl_monitor.proofs.Knowing.{broken_by, unbroken}
use Rattle.tl_monitor.specs.declared.fault.MonitorFault.TheVariants as monitor
use Rattle.tl_monitor.specs.declared.monitor.Monitor.{Monitor}
use Rattle.tl_monitor.specs.statement.Knows.{KnowsUnder, fault_under}
use Rattle.tl_params.specs.declared.level.Level.{Level}
use Rattle.tl_params.specs.declared.liberties.Liberties.{Liberties}
use Rattle.tl_params.specs.declared.rule.Rule.{Rule}
use Rattle.tl_rules.specs.statement.Conformance.{Trace}
use Rattle.tl_rules.specs.statement.Liberties.{broken_on_link_under}
use Rattle.tl_commit_lines.specs.code.EventWatching.{JudgesEvent, KnowsEvents, WatchesEvent}
use Rattle.tl_commit_lines.specs.declared.judge.EventJudge.{EventJudge}
use Rattle.tl_commit_lines.specs.declared.judge.EventJudge.TheVariants.{OfAll, OfLinks}
use Rattle.tl_commit_lines.specs.statement.JudgedEvents.{fault_of_commits}
use Rattle.tl_commit_lines.specs.statement.MarkedHeader.{MarkedLinks, complete_of, levels_of}

-- a commit that a line spells has a valid piece
pub event-valid : {w : ℕ} (line : List ℕ) (link : Link) (x : Event w) → SpellsEvent line link x → IsEvent x
event-valid line link (event.Beat x) spells = tt
event-valid line link (event.Commit x) spells = spells.is_commit

-- a monitor that has judged no beat knows no event
pub begun : {w : ℕ} (m : Monitor w) (levels : List Level) (links : MarkedLinks) (may : Liberties)
    → levels ≡ levels_of links → KnowsUnder m levels may [] false → KnowsEvents false (OfLinks m) links may []
unfolding beats_of
begun m levels links may is known = subst (λ (l : List Level). KnowsUnder m l may [] false) is known

module _ {w : ℕ} (link : Link) where
  -- what is said of the event wherever the judge has these events
  abbrev Says : EventJudge w → EventJudge w → Event w → Option Fault → Type 0
  Says old new x found = (together : Bool) (links : MarkedLinks) (may : Liberties) (e : Events w)
      → KnowsEvents together old links may e → JudgesEvent together new links may e link x found

  -- ---- all links together

  abbrev Above : CommitJudge w → (List Level → Completeness → Liberties → Events w → Type 0) → Type 0
  Above j So = (levels : List Level) (complete : Completeness) (l : Liberties) (e : Events w)
      → KnowsCommits j levels complete l e → So levels complete l e

  pub all-good : (old new : CommitJudge w) (x : Event w)
      → Above old (λ levels complete l e. broken_event levels complete l link x e ≡ None)
      → Above old (λ levels complete l e. KnowsCommits new levels complete l ((link, x) ∷ e))
      → Says (OfAll old) (OfAll new) x None
  all-good old new x fine knows false links may e known = absurd known
  all-good old new x fine knows true links may e known = (
    ap (option_map fault_of_commits) (fine (levels_of links) (complete_of links) may e known),
    knows (levels_of links) (complete_of links) may e known,
  )

  pub all-bad : (old new : CommitJudge w) (x : Event w) (breach : CommitBreach)
      → Above old (λ levels complete l e. broken_event levels complete l link x e ≡ Some breach)
      → Above old (λ levels complete l e. KnowsCommits new levels complete l e)
      → Says (OfAll old) (OfAll new) x (Some (fault_of_commits breach))
  all-bad old new x breach broken knows false links may e known = absurd known
  all-bad old new x breach broken knows true links may e known = (
    ap (option_map fault_of_commits) (broken (levels_of links) (complete_of links) may e known),
    knows (levels_of links) (complete_of links) may e known,
  )

  -- ---- each link by itself

  abbrev Beside : Monitor w → (List Level → Liberties → Trace w → Type 0) → Type 0
  Beside m So = (levels : List Level) (may : Liberties) (t : Trace w) → KnowsUnder m levels may t false → So levels may t

  pub beat-good : (old new : Monitor w) (x : Beat w)
      → Beside old (λ levels may t. fault_under levels may t false (link, x) ≡ None)
      → Beside old (λ levels may t. KnowsUnder new levels may ((link, x) ∷ t) false)
      → Says (OfLinks old) (OfLinks new) (event.Beat x) None
  unfolding beats_of
  beat-good old new x fine knows true links may e known = absurd known
  beat-good old new x fine knows false links may e known = (
    ap (option_map Breaks) (unbroken (broken_on_link_under may (levels_of links) (link, x) (beats_of e))
        (fine (levels_of links) may (beats_of e) known)),
    knows (levels_of links) may (beats_of e) known,
  )

  pub beat-bad : (old new : Monitor w) (x : Beat w) (rule : Rule)
      → Beside old (λ levels may t. fault_under levels may t false (link, x) ≡ Some (monitor.Broken rule))
      → Beside old (λ levels may t. KnowsUnder new levels may t false)
      → Says (OfLinks old) (OfLinks new) (event.Beat x) (Some (Breaks rule))
  beat-bad old new x rule broken knows true links may e known = absurd known
  beat-bad old new x rule broken knows false links may e known = (
    ap (option_map Breaks) (broken_by (broken_on_link_under may (levels_of links) (link, x) (beats_of e)) rule
        (broken (levels_of links) may (beats_of e) known)),
    knows (levels_of links) may (beats_of e) known,
  )

  -- a commit changes nothing
  commit-passed : (m : Monitor w) (x : Commit) → Says (OfLinks m) (OfLinks m) (event.Commit x) None
  unfolding beats_of
  commit-passed m x true links may e known = absurd known
  commit-passed m x false links may e known = (refl, known)

  -- nor does an event that is no beat
  pub passed : (m : Monitor w) (x : Event w) → ((y : Beat w) → x ≡ event.Beat y → ⊥) → Says (OfLinks m) (OfLinks m) x None
  passed m (event.Beat y) other = absurd (other y refl)
  passed m (event.Commit y) other = commit-passed m y

  -- ---- the line of an event

  pub line-watched : {E : Type 0} (old new : EventJudge w) (line : List ℕ) (x : Event w) (r : Result (Option Fault) E)
      → SpellsEvent line link x → IfOk r (Says old new x)
      → IfOk r (λ found. (together : Bool) → WatchesEvent together old new line found)
  line-watched old new line x (Err e) spells says = tt
  line-watched old new line x (Ok None) spells says = λ together links may e known.
      let (good, knows) = says together links may e known in
      (link, x, spells, good, knows)
  line-watched old new line x (Ok (Some found)) spells says = λ together links may e known.
      inr (link, x, spells, (says together links may e known).0)

pub line-unread : {w : ℕ} (judge : EventJudge w) (line : List ℕ) (fault : LineFault) → Some fault ≡ event_fault w line
    → (together : Bool) → WatchesEvent together judge judge line (Some (Line fault))
line-unread judge line fault is = λ together links may e known. inl (fault, sym is, refl)
