-- The findings in a trace whose beats and commits at fault aren't taken.
use Rattle.std.specs.Prelude.{◌≡◌, ◌⊎◌, ◌||◌, ◌+◌, ℕ, suc, zero, Bool, not, List, [], ◌∷◌, length, map, nat_lt}
use Rattle.std.specs.Prelude.{if◌then◌else◌}
use Rattle.std.specs.Io.BufRead.{ends_with_byte}
use Rattle.tl_command.specs.declared.search.Aim.{Aim}
use Rattle.tl_params.specs.declared.level.Level.{Level}
use Rattle.tl_params.specs.declared.liberties.Liberties.{Liberties}
use Rattle.tl_params.specs.declared.width.Width.{Width}
use Rattle.tl_lines.specs.declared.fault.Fault.{Fault}
use Rattle.tl_lines.specs.declared.fault.Fault.TheVariants.{Header}
use Rattle.tl_lines.specs.statement.LinksHeader.{NamesAllowed}
use Rattle.tl_lines.specs.statement.Width.{bytes_of}
use Rattle.tl_report.specs.declared.findings.Finding.{Finding}
use Rattle.tl_commit_lines.specs.statement.MarkedHeader.{MarkedLinks, NamesMarked}
use Rattle.tl_report.specs.statement.Form.{EventTerms, Form, IsAtFault, Terms, events, narrow, wide, wide_events}
use Rattle.tl_report.specs.statement.Taken.{AreCounted}
use Rattle.tl_wide.specs.declared.width.WideWidth.{WideWidth}
use Rattle.tl_wide.specs.statement.Width.{wide_bytes_of}
use Rattle.tl_wide_event_lines.specs.statement.WideMarkedHeader.{NamesWideMarked}
use Rattle.tl_wide_lines.specs.statement.WideHeader.{NamesWide}

-- the most lines at fault that are looked for
abbrev pub most_of : Aim → ℕ
most_of aim = suc aim.behind

-- the line has no LF at its end, or more than 256 bytes: no line after it is read
abbrev pub is_open : List ℕ → Bool
is_open line = not (ends_with_byte 10 line) || nat_lt 256 (length line)

-- the number of lines at fault still looked for after this one; 0 if no line after it is read
abbrev pub left_behind : List ℕ → ℕ → ℕ
left_behind line most = if is_open line then 0 else most

-- The findings in these lines, the first of which has number n. They come after a header and the beats of t. At most as
-- many lines at fault are found as are looked for. A line is judged after the beats that were taken before it. Its beat
-- is taken if the line isn't at fault, and counted in its cell.
unfoldable pub FindsAfter : {X : Type 0} → Form X → List X → ℕ → ℕ → List (List ℕ) → List Finding → ℕ → List ℕ → Type 0
FindsAfter form t n zero lines found beats cells = (found ≡ []) × AreCounted beats cells (map form.cell t)
FindsAfter form t n (suc most) [] found beats cells = (found ≡ []) × AreCounted beats cells (map form.cell t)
FindsAfter {X} form t n (suc most) (line ∷ lines) found beats cells =
    ((x : X) × form.spells line x × form.is_good t x
    × FindsAfter form (x ∷ t) (n + 1) (suc most) lines found beats cells)
    ⊎ ((fault : Fault) × (later : List Finding) × IsAtFault form t line fault
    × (found ≡ record { line = n; fault = fault } ∷ later)
    × FindsAfter form t (n + 1) (left_behind line most) lines later beats cells)

-- ---- a whole trace

-- the terms of a trace whose links have these liberties and these levels
abbrev pub terms_of : Bool → Liberties → List Level → Terms
terms_of together may levels = record { together = together; may = may; levels = levels }

-- the same of a trace with commits
abbrev pub event_terms_of : Bool → Liberties → MarkedLinks → EventTerms
event_terms_of together may links = record { together = together; may = may; links = links }

-- the line is a header of narrow beats, and these are the findings after it
abbrev pub FindsNarrow : Aim → List ℕ → List (List ℕ) → List Finding → ℕ → List ℕ → Type 0
FindsNarrow aim line lines found beats cells =
    (width : Width) × (may : Liberties) × (levels : List Level) × NamesAllowed aim.allow line width may levels
    × FindsAfter (narrow (bytes_of width) (terms_of aim.together may levels)) [] 2 (most_of aim) lines found beats cells

-- the same for a header of wide beats
abbrev pub FindsWide : Aim → List ℕ → List (List ℕ) → List Finding → ℕ → List ℕ → Type 0
FindsWide aim line lines found beats cells =
    (width : WideWidth) × (may : Liberties) × (levels : List Level)
    × NamesWide aim.allow line width may levels
    × FindsAfter (wide (wide_bytes_of width) (terms_of aim.together may levels)) [] 2 (most_of aim) lines found beats cells

-- the same for a header of a trace with commits
abbrev pub FindsEvents : Aim → List ℕ → List (List ℕ) → List Finding → ℕ → List ℕ → Type 0
FindsEvents aim line lines found beats cells =
    (width : Width) × (may : Liberties) × (links : MarkedLinks) × NamesMarked aim.allow line width may links
    × FindsAfter (events (bytes_of width) (event_terms_of aim.together may links)) [] 2 (most_of aim) lines found beats
    cells

-- the same for a header of a wide trace with commits
abbrev pub FindsWideEvents : Aim → List ℕ → List (List ℕ) → List Finding → ℕ → List ℕ → Type 0
FindsWideEvents aim line lines found beats cells =
    (width : WideWidth) × (may : Liberties) × (links : MarkedLinks)
    × NamesWideMarked aim.allow line width may links
    × FindsAfter (wide_events (wide_bytes_of width) (event_terms_of aim.together may links)) [] 2 (most_of aim) lines found
    beats cells

-- the line is no header of narrow beats
abbrev pub IsNotNarrow : Aim → List ℕ → Type 0
IsNotNarrow aim line = (width : Width) (may : Liberties) (levels : List Level)
    → ¬ NamesAllowed aim.allow line width may levels

-- the line is no header of wide beats
abbrev pub IsNotWide : Aim → List ℕ → Type 0
IsNotWide aim line = (width : WideWidth) (may : Liberties) (levels : List Level)
    → ¬ NamesWide aim.allow line width may levels

-- the line is no header of a trace with commits
abbrev pub IsNotMarked : Aim → List ℕ → Type 0
IsNotMarked aim line = (width : Width) (may : Liberties) (links : MarkedLinks)
    → ¬ NamesMarked aim.allow line width may links

-- the line is no header of a wide trace with commits
abbrev pub IsNotWideMarked : Aim → List ℕ → Type 0
IsNotWideMarked aim line = (width : WideWidth) (may : Liberties) (links : MarkedLinks)
    → ¬ NamesWideMarked aim.allow line width may links

-- the line is no header
abbrev pub IsHeadless : Aim → List ℕ → Type 0
IsHeadless aim line = IsNotNarrow aim line × IsNotWide aim line × IsNotMarked aim line × IsNotWideMarked aim line

-- the one line at fault of a trace without a header
abbrev pub no_header : List Finding
no_header = record { line = 1; fault = Header } ∷ []

-- the findings in a trace without a header: it is at fault at its first line, and no beat is taken
abbrev pub FindsNone : List Finding → ℕ → List ℕ → Type 0
FindsNone found beats cells = (found ≡ no_header) × AreCounted beats cells []

-- The findings in a whole trace for this aim: lines at fault, the number of beats and commits taken, and the counts of
-- the cells.
-- If there is no first line, or it spells no header, it is the only line at fault.
unfoldable pub FindsFor : Aim → List (List ℕ) → List Finding → ℕ → List ℕ → Type 0
FindsFor aim [] found beats cells = FindsNone found beats cells
FindsFor aim (line ∷ lines) found beats cells =
    FindsWide aim line lines found beats cells
    ⊎ FindsNarrow aim line lines found beats cells
    ⊎ FindsEvents aim line lines found beats cells
    ⊎ FindsWideEvents aim line lines found beats cells
    ⊎ (IsHeadless aim line × FindsNone found beats cells)
