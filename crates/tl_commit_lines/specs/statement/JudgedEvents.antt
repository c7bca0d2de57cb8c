-- The verdict on a trace with commits, and on a trace with any header.
use Rattle.std.specs.Prelude.{◌≡◌, ◌⊎◌, ◌+◌, ◌-◌, ◌++◌, ℕ, Bool, true, false, List, [], ◌∷◌, length, Option, Some, None}
use Rattle.std.specs.Prelude.{option_map}
use Rattle.tl_beat.specs.declared.beat.Link.{Link}
use Rattle.tl_beat.specs.declared.fault.LineFault.{LineFault}
use Rattle.tl_params.specs.declared.liberties.Liberties.{Liberties}
use Rattle.tl_params.specs.declared.width.Width.{Width}
use Rattle.tl_rules.specs.statement.Liberties.{broken_on_link_under}
use Rattle.tl_events.specs.declared.commit.Event.{Event}
use Rattle.tl_events.specs.declared.commit.Event.TheVariants as event
use Rattle.tl_events.specs.statement.EventLine.{SpellsEvent, event_fault}
use Rattle.tl_commits.specs.declared.rule.CommitBreach.{CommitBreach}
use Rattle.tl_commits.specs.declared.rule.CommitBreach.TheVariants.{OfBeats, OfCommits}
use Rattle.tl_commits.specs.statement.Breaches.{broken_event}
use Rattle.tl_commits.specs.statement.Events.{Events, beats_of}
use Rattle.tl_lines.specs.declared.fault.Fault.{Fault}
use Rattle.tl_lines.specs.declared.fault.Fault.TheVariants.{CommitRule, Line, Rule as Breaks}
use Rattle.tl_lines.specs.declared.status.Status.{Status}
use Rattle.tl_lines.specs.declared.status.Status.TheVariants.{Clean, Broken}
use Rattle.tl_lines.specs.statement.Coherent.{fault_of_breach}
use Rattle.tl_lines.specs.statement.Fault.{fault_text}
use Rattle.tl_lines.specs.statement.JudgedSo.{said_by}
use Rattle.tl_lines.specs.statement.Width.{bytes_of}
use Rattle.tl_wide_lines.specs.statement.JudgedTrace.{JudgedTrace}
use Rattle.tl_commit_lines.specs.statement.MarkedHeader.{MarkedLinks, NamesMarked, complete_of, levels_of}

-- ---- the fault of an event

-- the fault of an event that breaks this rule
abbrev pub fault_of_commits : CommitBreach → Fault
fault_of_commits (OfBeats breach) = fault_of_breach breach
fault_of_commits (OfCommits rule) = CommitRule rule

-- The fault of an event on these links after the events of e, the newest first. With all links judged together it is
-- the first rule that the event breaks. With each link by itself a beat is at fault for the first rule that it breaks
-- after the earlier beats of its link, and a commit for none.
abbrev pub fault_by : (w : ℕ) → Bool → MarkedLinks → Liberties → Link → Event w → Events w → Option Fault
fault_by w true links may link x e =
    option_map fault_of_commits (broken_event (levels_of links) (complete_of links) may link x e)
fault_by w false links may link (event.Beat x) e =
    option_map Breaks (broken_on_link_under may (levels_of links) (link, x) (beats_of e))
fault_by w false links may link (event.Commit x) e = None

-- ---- lines

-- The line is at fault for this after the events of e. It spells no event, or one that is at fault for it.
abbrev pub IsEventAtFault : (w : ℕ) → Bool → MarkedLinks → Liberties → Events w → List ℕ → Fault → Type 0
IsEventAtFault w together links may e line found =
    ((of_line : LineFault) × (event_fault w line ≡ Some of_line) × (found ≡ Line of_line))
    ⊎ ((link : Link) × (x : Event w) × SpellsEvent line link x × (fault_by w together links may link x e ≡ Some found))

-- The text and status of these lines, after a header and the events of e. If each line spells an event without a fault,
-- the text has the number of all events. Otherwise it is `line N X` for the first line at fault, whatever follows. The
-- header is line 1.
unfoldable pub JudgedEvents : (w : ℕ) → Bool → MarkedLinks → Liberties → Events w → List (List ℕ) → List ℕ → Status
    → Type 0
JudgedEvents w together links may e [] text status = (text ≡ said_by together (length e)) × (status ≡ Clean)
JudgedEvents w together links may e (line ∷ lines) text status =
    ((link : Link) × (x : Event w) × SpellsEvent line link x × (fault_by w together links may link x e ≡ None)
    × JudgedEvents w together links may ((link, x) ∷ e) lines text status)
    ⊎ ((found : Fault) × IsEventAtFault w together links may e line found × (text ≡ fault_text (length e + 2) found)
    × (status ≡ Broken))

-- ---- a trace with any header

-- The text and the status of a trace, with its links judged together or each by itself. A trace whose header names no
-- link of level C+, and doesn't say that memory was zero, has no commits, and is judged as such.
abbrev pub JudgedCommits : Bool → Liberties → List (List ℕ) → List ℕ → Status → Type 0
JudgedCommits together allow [] text status = JudgedTrace together allow [] text status
JudgedCommits together allow (line ∷ lines) text status =
    ((width : Width) × (may : Liberties) × (links : MarkedLinks) × NamesMarked allow line width may links
    × JudgedEvents (bytes_of width) together links may [] lines text status)
    ⊎ (((width : Width) (may : Liberties) (links : MarkedLinks) → ¬ NamesMarked allow line width may links)
    × JudgedTrace together allow (line ∷ lines) text status)

-- the text for these lines before the end of the input, if none is at fault
abbrev pub CommitsSoFar : Bool → Liberties → List (List ℕ) → List ℕ → Type 0
CommitsSoFar together allow lines text =
    ((lines ≡ []) × (text ≡ []))
    ⊎ JudgedCommits together allow lines (text ++ said_by together (length lines - 1)) Clean
