-- What a search knows of the lines that it was given. `ways` is that of the judge's trait.
use Rattle.std.specs.Prelude.{◌≡◌, ◌≢◌, ◌+◌, ◌<◌, ℕ, suc, Bool, true, false, List, [], ◌∷◌, ◌++◌, length, map}
use Rattle.std.specs.Prelude.{◌||◌, not, nat_lt, Option, Some, None}
use Rattle.tl_beat.specs.declared.fault.LineFault.TheVariants.{F1}
use Rattle.tl_command.specs.declared.search.Aim.{Aim}
use Rattle.tl_lines.specs.code.Progress.{HasAll}
use Rattle.tl_lines.specs.declared.fault.Fault.{Fault}
use Rattle.tl_lines.specs.declared.fault.Fault.TheVariants.{Line}
use Rattle.tl_lines.specs.declared.status.Status.{Status}
use Rattle.tl_lines.specs.declared.status.Status.TheVariants.{Clean, Broken}
use Rattle.tl_report.specs.code.EventJudging.{event_ways}
use Rattle.tl_report.specs.code.LineJudging.{Ways}
use Rattle.tl_report.specs.code.NarrowJudging.{narrow_ways}
use Rattle.tl_report.specs.code.WideEventJudging.{wide_event_ways}
use Rattle.tl_report.specs.code.WideJudging.{wide_ways}
use Rattle.tl_report.specs.declared.findings.Finding.{Finding}
use Rattle.tl_report.specs.declared.findings.Findings.{Findings}
use Rattle.tl_report.specs.declared.search.Search.{Search}
use Rattle.tl_report.specs.declared.search_lines.SearchLines.{SearchLines}
use Rattle.tl_report.specs.declared.search_lines.SearchLines.TheVariants as of
use Rattle.tl_report.specs.statement.Form.{Form, IsAtFault}
use Rattle.tl_report.specs.statement.Found.{FindsAfter, FindsFor, IsHeadless, is_open, no_header}
use Rattle.tl_report.specs.statement.Taken.{AreCounted}

-- nothing was read after the header
pub record IsBegun {J : Type 0} (s : Search J) (aim : Aim) (judge : J) : Type 0 where
  pub aim_is : s.aim ≡ aim
  pub judge_is : s.judge ≡ judge
  pub none_found : s.findings.faults.items ≡ []
  pub none_taken : AreCounted s.findings.beats s.findings.cells.items []
  pub header : s.lines ≡ 1
  pub unended : s.over ≡ false

-- These lines were read, and more are looked for: what is found after them is found after what was.
pub record KnowsSearch {J T X : Type 0} (ways : Ways J T X) (s : Search J) (lines : List (List ℕ)) : Type 0 where
  pub terms : T
  pub trace : List X
  pub left : ℕ
  pub known : ways.knows s.judge terms trace
  pub goes_on : 0 < s.aim.behind → ways.goes_on s.judge ≡ true
  pub so_many : AreCounted s.findings.beats s.findings.cells.items (map (ways.form terms).cell trace)
  pub most_are : s.aim.behind ≡ length s.findings.faults.items + left
  pub unended : s.over ≡ false
  pub some : lines ≢ []
  pub before : (more : List (List ℕ)) (later : List Finding) (beats : ℕ) (cells : List ℕ)
      → FindsAfter (ways.form terms) trace (s.lines + 1) (suc left) more later beats cells
      → FindsFor s.aim (lines ++ more) (s.findings.faults.items ++ later) beats cells

-- what is found with a line that ends a search without being noted
abbrev pub found_with : Bool → List Finding → ℕ → List Finding
found_with true found line = found
found_with false found line = found ++ record { line = line; fault = Line F1 } ∷ []

-- all faults of these lines were found
abbrev pub EndsSearch : {J : Type 0} → Search J → List (List ℕ) → Type 0
EndsSearch s lines = FindsFor s.aim lines
    (found_with s.over s.findings.faults.items (s.lines + 1)) s.findings.beats s.findings.cells.items

-- a line was read: more are looked for, or it ends the search, whatever follows it
abbrev pub SearchesLine : {J T X : Type 0} → Ways J T X → Search J → Search J → List ℕ → Option Fault → Type 0
SearchesLine ways old new line None =
    (lines : List (List ℕ)) → KnowsSearch ways old lines → KnowsSearch ways new (lines ++ line ∷ [])
SearchesLine ways old new line (Some fault) =
    (lines : List (List ℕ)) → KnowsSearch ways old lines → (more : List (List ℕ)) → EndsSearch new (lines ++ line ∷ more)

-- the findings count the beats of a trace
abbrev pub Counts : {J X : Type 0} → Form X → Search J → List X → Type 0
Counts form s t = AreCounted s.findings.beats s.findings.cells.items (map form.cell t)

-- what a line is at fault for after the beats that a search has taken, and what it has taken with the line
abbrev pub SearchJudges : {J T X : Type 0} → Ways J T X → Search J → Search J → List ℕ → Option Fault → Type 0
SearchJudges {J} {T} {X} ways old new line None =
    (terms : T) (t : List X) → ways.knows old.judge terms t → Counts (ways.form terms) old t
    → (x : X) × (ways.form terms).spells line x × (ways.form terms).is_good t x
    × ways.knows new.judge terms (x ∷ t) × Counts (ways.form terms) new (x ∷ t)
SearchJudges {J} {T} {X} ways old new line (Some fault) =
    (terms : T) (t : List X) → ways.knows old.judge terms t → Counts (ways.form terms) old t
    → IsAtFault (ways.form terms) t line fault
    × (ways.goes_on old.judge ≡ true → ways.knows new.judge terms t) × Counts (ways.form terms) new t

-- what a beat doesn't change of a search
pub record IsElsewhereSame {J T X : Type 0} (ways : Ways J T X) (old new : Search J) : Type 0 where
  pub aim_is : new.aim ≡ old.aim
  pub found_is : new.findings.faults.items ≡ old.findings.faults.items
  pub lines_are : new.lines ≡ old.lines
  pub over_is : new.over ≡ old.over
  pub goes_on : ways.goes_on new.judge ≡ ways.goes_on old.judge

-- a line at fault was noted: whether more are looked for after it
pub record Notes {J : Type 0} (old new : Search J) (line : List ℕ) (number : ℕ) (fault : Fault) (more : Bool) : Type 0 where
  pub aim_is : new.aim ≡ old.aim
  pub judge_is : new.judge ≡ old.judge
  pub beats_are : new.findings.beats ≡ old.findings.beats
  pub cells_are : new.findings.cells.items ≡ old.findings.cells.items
  pub lines_are : new.lines ≡ old.lines
  pub found_is : new.findings.faults.items ≡ old.findings.faults.items ++ record { line = number; fault = fault } ∷ []
  pub over_is : new.over ≡ (is_open line || nat_lt old.aim.behind (length old.findings.faults.items + 1))
  pub more_is : more ≡ not new.over

-- what was found, at the end of the input or at a line that ends the search
abbrev pub found_by : Status → Bool → List Finding → ℕ → List Finding
found_by Clean over found line = found
found_by Broken over found line = found_with over found line

abbrev pub EndsWith : Status → Bool → Findings → ℕ → Findings → Type 0
EndsWith status over had lines f =
    (f.faults.items ≡ found_by status over had.faults.items (lines + 1)) × (f.beats ≡ had.beats)
    × (f.cells.items ≡ had.cells.items)

-- what a search is for
abbrev pub aim_of : SearchLines → Aim
aim_of (of.Waiting alloc aim) = aim
aim_of (of.Four s) = s.aim
aim_of (of.Eight s) = s.aim
aim_of (of.Sixteen s) = s.aim
aim_of (of.WideFour s) = s.aim
aim_of (of.WideEight s) = s.aim
aim_of (of.WideSixteen s) = s.aim
aim_of (of.WideThirtyTwo s) = s.aim
aim_of (of.WideSixtyFour s) = s.aim
aim_of (of.EventFour s) = s.aim
aim_of (of.EventEight s) = s.aim
aim_of (of.EventSixteen s) = s.aim
aim_of (of.WideEventFour s) = s.aim
aim_of (of.WideEventEight s) = s.aim
aim_of (of.WideEventSixteen s) = s.aim
aim_of (of.WideEventThirtyTwo s) = s.aim
aim_of (of.WideEventSixtyFour s) = s.aim

-- these lines were read, whatever was said of them
abbrev pub KnowsLines : SearchLines → List (List ℕ) → List ℕ → Type 0
KnowsLines (of.Waiting alloc aim) lines text = lines ≡ []
KnowsLines (of.Four s) lines text = KnowsSearch (narrow_ways 4) s lines
KnowsLines (of.Eight s) lines text = KnowsSearch (narrow_ways 8) s lines
KnowsLines (of.Sixteen s) lines text = KnowsSearch (narrow_ways 16) s lines
KnowsLines (of.WideFour s) lines text = KnowsSearch (wide_ways 4 4) s lines
KnowsLines (of.WideEight s) lines text = KnowsSearch (wide_ways 8 8) s lines
KnowsLines (of.WideSixteen s) lines text = KnowsSearch (wide_ways 16 16) s lines
KnowsLines (of.WideThirtyTwo s) lines text = KnowsSearch (wide_ways 32 16) s lines
KnowsLines (of.WideSixtyFour s) lines text = KnowsSearch (wide_ways 64 16) s lines
KnowsLines (of.EventFour s) lines text = KnowsSearch (event_ways 4) s lines
KnowsLines (of.EventEight s) lines text = KnowsSearch (event_ways 8) s lines
KnowsLines (of.EventSixteen s) lines text = KnowsSearch (event_ways 16) s lines
KnowsLines (of.WideEventFour s) lines text = KnowsSearch (wide_event_ways 4 4) s lines
KnowsLines (of.WideEventEight s) lines text = KnowsSearch (wide_event_ways 8 8) s lines
KnowsLines (of.WideEventSixteen s) lines text = KnowsSearch (wide_event_ways 16 16) s lines
KnowsLines (of.WideEventThirtyTwo s) lines text = KnowsSearch (wide_event_ways 32 16) s lines
KnowsLines (of.WideEventSixtyFour s) lines text = KnowsSearch (wide_event_ways 64 16) s lines

-- an input without a line has no header
abbrev pub TellsLines : List (List ℕ) → List ℕ → Status → Type 0
TellsLines lines text status = status ≡ Clean → lines ≢ []

-- all faults of these lines were found
abbrev pub EndsLines : SearchLines → List (List ℕ) → Type 0
EndsLines (of.Waiting alloc aim) lines =
    (beats : ℕ) (cells : List ℕ) → AreCounted beats cells []
    → FindsFor aim lines no_header beats cells
EndsLines (of.Four s) lines = EndsSearch s lines
EndsLines (of.Eight s) lines = EndsSearch s lines
EndsLines (of.Sixteen s) lines = EndsSearch s lines
EndsLines (of.WideFour s) lines = EndsSearch s lines
EndsLines (of.WideEight s) lines = EndsSearch s lines
EndsLines (of.WideSixteen s) lines = EndsSearch s lines
EndsLines (of.WideThirtyTwo s) lines = EndsSearch s lines
EndsLines (of.WideSixtyFour s) lines = EndsSearch s lines
EndsLines (of.EventFour s) lines = EndsSearch s lines
EndsLines (of.EventEight s) lines = EndsSearch s lines
EndsLines (of.EventSixteen s) lines = EndsSearch s lines
EndsLines (of.WideEventFour s) lines = EndsSearch s lines
EndsLines (of.WideEventEight s) lines = EndsSearch s lines
EndsLines (of.WideEventSixteen s) lines = EndsSearch s lines
EndsLines (of.WideEventThirtyTwo s) lines = EndsSearch s lines
EndsLines (of.WideEventSixtyFour s) lines = EndsSearch s lines

-- these are all faults of the input
abbrev pub HasFound : SearchLines → Status → Findings → Type 0
HasFound h status f =
    (lines : List (List ℕ)) → HasAll KnowsLines EndsLines h lines status → (status ≡ Clean → lines ≢ [])
    → FindsFor (aim_of h) lines f.faults.items f.beats f.cells.items

-- what the first line begins: a search after the header, or none if it is no header of this kind
abbrev pub Begins : (Aim → List ℕ → Type 0) → Aim → List ℕ → Option SearchLines → Type 0
Begins IsNone aim line None = IsNone aim line
Begins IsNone aim line (Some s) = KnowsLines s (line ∷ []) [] × (aim_of s ≡ aim)

-- a search has read the header alone, and its judge has taken no beat under these terms
pub record StartsSearch {J T X : Type 0} (ways : Ways J T X) (aim : Aim) (terms : T) (s : Search J) : Type 0 where
  pub begun : IsBegun s aim s.judge
  pub known : ways.knows s.judge terms []
  pub goes_on : 0 < aim.behind → ways.goes_on s.judge ≡ true

-- the first line was judged: the search goes on after the header, or the line is none
abbrev pub StartsLines : Aim → SearchLines → SearchLines → List ℕ → Option Fault → Type 0
StartsLines aim old new line None = KnowsLines new (line ∷ []) [] × (aim_of new ≡ aim)
StartsLines aim old new line (Some fault) = (new ≡ old) × IsHeadless aim line
