-- What a handler of traces with commits knows.
use Rattle.std.specs.Prelude.{◌≡◌, ◌++◌, ℕ, Bool, true, false, List, [], ◌∷◌, length, Option, Some, None, ⊤}
use Rattle.tl_beat.specs.declared.beat.Link.{Link}
use Rattle.tl_params.specs.declared.liberties.Liberties.{Liberties}
use Rattle.tl_params.specs.declared.width.Width.{Width}
use Rattle.tl_params.specs.declared.width.Width.TheVariants as width
use Rattle.tl_monitor.specs.statement.Knows.{KnowsUnder}
use Rattle.tl_events.specs.declared.commit.Event.{Event}
use Rattle.tl_events.specs.statement.EventLine.{SpellsEvent}
use Rattle.tl_commits.specs.statement.Events.{Events, beats_of}
use Rattle.tl_commits.specs.statement.Knows.{KnowsCommits}
use Rattle.tl_lines.specs.declared.fault.Fault.{Fault}
use Rattle.tl_lines.specs.declared.status.Status.{Status}
use Rattle.tl_lines.specs.statement.Width.{bytes_of}
use Rattle.tl_wide_lines.specs.code.WideWatching.{KnowsTraceLines, trace_judged_for, waits}
use Rattle.tl_wide_lines.specs.declared.lines.TraceLines.{TraceLines}
use Rattle.tl_commit_lines.specs.declared.judge.EventJudge.{EventJudge}
use Rattle.tl_commit_lines.specs.declared.judge.EventJudge.TheVariants.{OfAll, OfLinks}
use Rattle.tl_commit_lines.specs.declared.lines.EventLines.{EventLines}
use Rattle.tl_commit_lines.specs.declared.lines.EventLinks.{EventLinks}
use Rattle.tl_commit_lines.specs.declared.lines.EventLinks.TheVariants.{Four, Eight, Sixteen}
use Rattle.tl_commit_lines.specs.statement.JudgedEvents.{IsEventAtFault, JudgedEvents, fault_by}
use Rattle.tl_commit_lines.specs.statement.MarkedHeader.{MarkedLinks, NamesMarked, complete_of, levels_of}

-- ---- events

-- the judge knows the events of a trace, none of which was at fault
abbrev pub KnowsEvents : {w : ℕ} → Bool → EventJudge w → MarkedLinks → Liberties → Events w → Type 0
KnowsEvents false (OfLinks monitor) links may e = KnowsUnder monitor (levels_of links) may (beats_of e) false
KnowsEvents true (OfAll judge) links may e = KnowsCommits judge (levels_of links) (complete_of links) may e
KnowsEvents _ _ links may e = ⊥

-- the judge's answer to an event after a trace: it isn't at fault, and the judge knows the longer trace; or it is, and
-- the judge knows the trace as before
abbrev pub JudgesEvent : {w : ℕ} → Bool → EventJudge w → MarkedLinks → Liberties → Events w → Link → Event w
    → Option Fault → Type 0
JudgesEvent {w} together new links may e link x None =
    (fault_by w together links may link x e ≡ None) × KnowsEvents together new links may ((link, x) ∷ e)
JudgesEvent {w} together new links may e link x (Some found) =
    (fault_by w together links may link x e ≡ Some found) × KnowsEvents together new links may e

-- the same of the next line
abbrev pub WatchesEvent : {w : ℕ} → Bool → EventJudge w → EventJudge w → List ℕ → Option Fault → Type 0
WatchesEvent {w} together old new line None =
    (links : MarkedLinks) (may : Liberties) (e : Events w) → KnowsEvents together old links may e
    → (link : Link) × (x : Event w) × SpellsEvent line link x × (fault_by w together links may link x e ≡ None)
    × KnowsEvents together new links may ((link, x) ∷ e)
WatchesEvent {w} together old new line (Some found) =
    (links : MarkedLinks) (may : Liberties) (e : Events w) → KnowsEvents together old links may e
    → IsEventAtFault w together links may e line found

-- ---- lines

-- These lines are a header and those of events that aren't at fault, and the judge knows the events. Nothing has been
-- said.
pub record KnowsEventTrace (wide : Width) (together : Bool) (allow : Liberties) (judge : EventJudge (bytes_of wide))
    (lines : List (List ℕ)) (text : List ℕ) : Type 0 where
  pub header : List ℕ
  pub spelled : List (List ℕ)
  pub may : Liberties
  pub links : MarkedLinks
  pub events : Events (bytes_of wide)
  pub are_lines : lines ≡ header ∷ spelled
  pub named : NamesMarked allow header wide may links
  pub known : KnowsEvents together judge links may events
  pub counted : length spelled ≡ length events
  pub before : (more : List (List ℕ)) (rest : List ℕ) (status : Status)
      → JudgedEvents (bytes_of wide) together links may events more rest status
      → JudgedEvents (bytes_of wide) together links may [] (spelled ++ more) rest status
  pub silent : text ≡ []

abbrev pub KnowsEventLinks : Bool → Liberties → EventLinks → List (List ℕ) → List ℕ → Type 0
KnowsEventLinks together allow (Four judge) lines text = KnowsEventTrace width.Four together allow judge lines text
KnowsEventLinks together allow (Eight judge) lines text = KnowsEventTrace width.Eight together allow judge lines text
KnowsEventLinks together allow (Sixteen judge) lines text = KnowsEventTrace width.Sixteen together allow judge lines text

-- what a judge of each width says of the next line
abbrev pub WatchesLine : Bool → EventLinks → EventLinks → List ℕ → Option Fault → Type 0
WatchesLine together (Four old) (Four new) line answer = WatchesEvent together old new line answer
WatchesLine together (Eight old) (Eight new) line answer = WatchesEvent together old new line answer
WatchesLine together (Sixteen old) (Sixteen new) line answer = WatchesEvent together old new line answer
WatchesLine together _ _ line answer = ⊥

-- the first of these lines, if there is one, is no header of a trace with commits
abbrev pub NoneMarked : Liberties → List (List ℕ) → Type 0
NoneMarked allow [] = ⊤
NoneMarked allow (line ∷ lines) =
    (width : Width) (may : Liberties) (links : MarkedLinks) → ¬ NamesMarked allow line width may links

-- what the first line begins: a judge that knows the header, or none if it is no such header
abbrev pub BeginsMarked : Bool → Liberties → List ℕ → Option EventLinks → Type 0
BeginsMarked together allow line None = NoneMarked allow (line ∷ [])
BeginsMarked together allow line (Some links) = KnowsEventLinks together allow links (line ∷ []) []

-- ---- the handler

-- after these lines without a fault, this text has been appended
abbrev pub KnowsEventBy : Bool → Liberties → TraceLines → Option EventLinks → List (List ℕ) → List ℕ → Type 0
KnowsEventBy together allow plain None lines text =
    KnowsTraceLines plain lines text × (trace_judged_for plain ≡ (together, allow)) × NoneMarked allow lines
KnowsEventBy together allow plain (Some links) lines text =
    KnowsEventLinks together allow links lines text × (waits plain ≡ true)

abbrev pub KnowsEventLines : EventLines → List (List ℕ) → List ℕ → Type 0
KnowsEventLines h lines text = KnowsEventBy h.together h.allow h.plain h.events lines text

-- whether the links are judged together, and their further liberties
abbrev pub events_judged_for : EventLines → Bool × Liberties
events_judged_for h = (h.together, h.allow)
