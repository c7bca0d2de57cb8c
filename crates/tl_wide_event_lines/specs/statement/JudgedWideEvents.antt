-- The verdict on a wide trace with commits, and on a trace with any header.
use Rattle.std.specs.Prelude.{◌≡◌, ◌⊎◌, ◌+◌, ◌-◌, ◌++◌, ℕ, Bool, List, [], ◌∷◌, length, Some, None}
use Rattle.tl_beat.specs.declared.beat.Link.{Link}
use Rattle.tl_beat.specs.declared.fault.LineFault.{LineFault}
use Rattle.tl_commit_lines.specs.statement.MarkedHeader.{MarkedLinks}
use Rattle.tl_commit_lines.specs.statement.JudgedEvents.{JudgedCommits}
use Rattle.tl_lines.specs.declared.fault.Fault.{Fault}
use Rattle.tl_lines.specs.declared.fault.Fault.TheVariants.{Line}
use Rattle.tl_lines.specs.declared.status.Status.{Status}
use Rattle.tl_lines.specs.declared.status.Status.TheVariants.{Clean, Broken}
use Rattle.tl_lines.specs.statement.Fault.{fault_text}
use Rattle.tl_lines.specs.statement.JudgedSo.{said_by}
use Rattle.tl_params.specs.declared.liberties.Liberties.{Liberties}
use Rattle.tl_wide.specs.declared.width.WideWidth.{WideWidth}
use Rattle.tl_wide.specs.statement.Width.{wide_bytes_of}
use Rattle.tl_wide_events.specs.declared.commit.WideEvent.{WideEvent}
use Rattle.tl_wide_events.specs.statement.Narrowed.{WideEvents}
use Rattle.tl_wide_events.specs.statement.WideEventLine.{SpellsWideEvent, wide_event_fault}
use Rattle.tl_wide_event_lines.specs.statement.EventFaults.{wide_fault_by}
use Rattle.tl_wide_event_lines.specs.statement.WideMarkedHeader.{NamesWideMarked}

-- ---- lines

-- The line is at fault for this after the wide events of t. It spells no event, or one that is at fault for it.
abbrev pub IsWideAtFault : (w : ℕ) → Bool → MarkedLinks → Liberties → WideEvents w → List ℕ → Fault → Type 0
IsWideAtFault w together links may t line found =
    ((of_line : LineFault) × (wide_event_fault w line ≡ Some of_line) × (found ≡ Line of_line))
    ⊎ ((link : Link) × (x : WideEvent w) × SpellsWideEvent line link x
    × (wide_fault_by w together links may link x t ≡ Some found))

-- The text and status of these lines, after a header and the wide events of t. If each line spells an event without a
-- fault, the text has the number of all events. Otherwise it is `line N X` for the first line at fault, whatever
-- follows. The header is line 1.
unfoldable pub JudgedWideEvents : (w : ℕ) → Bool → MarkedLinks → Liberties → WideEvents w → List (List ℕ)
    → List ℕ → Status → Type 0
JudgedWideEvents w together links may t [] text status = (text ≡ said_by together (length t)) × (status ≡ Clean)
JudgedWideEvents w together links may t (line ∷ lines) text status =
    ((link : Link) × (x : WideEvent w) × SpellsWideEvent line link x
    × (wide_fault_by w together links may link x t ≡ None)
    × JudgedWideEvents w together links may ((link, x) ∷ t) lines text status)
    ⊎ ((found : Fault) × IsWideAtFault w together links may t line found × (text ≡ fault_text (length t + 2) found)
    × (status ≡ Broken))

-- ---- a trace with any header

-- The text and the status of a trace, with its links judged together or each by itself. A trace whose header isn't that
-- of a wide trace with commits is judged as before.
abbrev pub JudgedAny : Bool → Liberties → List (List ℕ) → List ℕ → Status → Type 0
JudgedAny together allow [] text status = JudgedCommits together allow [] text status
JudgedAny together allow (line ∷ lines) text status =
    ((width : WideWidth) × (may : Liberties) × (links : MarkedLinks) × NamesWideMarked allow line width may links
    × JudgedWideEvents (wide_bytes_of width) together links may [] lines text status)
    ⊎ (((width : WideWidth) (may : Liberties) (links : MarkedLinks) → ¬ NamesWideMarked allow line width may links)
    × JudgedCommits together allow (line ∷ lines) text status)

-- the text for these lines before the end of the input, if none is at fault
abbrev pub AnySoFar : Bool → Liberties → List (List ℕ) → List ℕ → Type 0
AnySoFar together allow lines text =
    ((lines ≡ []) × (text ≡ []))
    ⊎ JudgedAny together allow lines (text ++ said_by together (length lines - 1)) Clean
