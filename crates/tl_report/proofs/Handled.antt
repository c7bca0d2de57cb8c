-- What a handler of the lines of a trace says and has found, with a search of any form of beats.
use Rattle.std.proofs.Common.{◌≡◌, ℕ, List, [], ◌∷◌, ◌++◌, refl, inl, inr, ap}
use Rattle.std.specs.Prelude.{IfOk, Option, Some, None, Result, Ok, Err}
use Rattle.std.specs.Io.KnownBytes.{Consumes}
use Rattle.std.specs.declared.alloc.Global.{Global}
use Rattle.tl_beat.specs.declared.beat.Link.{Link}
use Rattle.tl_command.specs.declared.search.Aim.{Aim}
use Rattle.tl_params.specs.declared.level.Level.{Level}
use Rattle.tl_params.specs.declared.liberties.Liberties.{Liberties}
use Rattle.tl_params.specs.declared.width.Width.{Width}
use Rattle.tl_lines.specs.code.Judging.{Ends, EndsHere, Finishes, Judges, Stops}
use Rattle.tl_lines.specs.statement.Lines.{IsOpen, lines_of}
use Rattle.tl_lines.specs.code.Progress.{HasAll}
use Rattle.tl_lines.specs.code.Run.{Stands}
use Rattle.tl_lines.specs.statement.Run.{EndsAs}
use Rattle.tl_lines.specs.declared.fault.Fault.{Fault}
use Rattle.tl_lines.specs.declared.links_header.LinksHeader.{LinksHeader}
use Rattle.tl_lines.specs.declared.status.Status.{Status}
use Rattle.tl_lines.specs.declared.status.Status.TheVariants.{Clean, Broken}
use Rattle.tl_lines.specs.statement.LinksHeader.{NamesAllowed}
use Rattle.tl_lines.specs.statement.Width.{bytes_of}
use Rattle.tl_lines.proofs.Decoded.{open_fault}
use Rattle.tl_lines.proofs.LinksHeaders.{open_allowed}
use Rattle.tl_commit_lines.proofs.JudgedLines.{open-event}
use Rattle.tl_commit_lines.proofs.MarkedHeaders.{open_marked}
use Rattle.tl_commit_lines.specs.declared.header.CommitHeader.{CommitHeader}
use Rattle.tl_commit_lines.specs.statement.MarkedHeader.{MarkedLinks, NamesMarked}
use Rattle.tl_report.proofs.Searched.{found_in, knows_header, opened}
use Rattle.tl_report.proofs.Variants.{IsSearch}
use Rattle.tl_report.specs.code.EventJudging.{event_ways}
use Rattle.tl_report.specs.code.LineJudging.{Ways}
use Rattle.tl_report.specs.code.NarrowJudging.{narrow_ways}
use Rattle.tl_report.specs.code.Searching.{EndsLines, EndsWith, HasFound, KnowsLines, KnowsSearch, SearchesLine}
use Rattle.tl_report.specs.code.Searching.{StartsLines, StartsSearch, TellsLines, aim_of}
use Rattle.tl_report.specs.code.WideEventJudging.{wide_event_ways}
use Rattle.tl_report.specs.code.WideJudging.{wide_ways}
use Rattle.tl_report.specs.declared.events.EventLineJudge.{EventLineJudge}
use Rattle.tl_report.specs.declared.findings.Findings.{Findings}
use Rattle.tl_report.specs.declared.narrow.NarrowLineJudge.{NarrowLineJudge}
use Rattle.tl_report.specs.declared.search.Search.{Search}
use Rattle.tl_report.specs.declared.search_lines.SearchLines.{SearchLines}
use Rattle.tl_report.specs.declared.search_lines.SearchLines.TheVariants as of
use Rattle.tl_report.specs.declared.kept.KeptLineJudge.{KeptLineJudge}
use Rattle.tl_report.specs.declared.wide.WideTaker.{WideTaker}
use Rattle.tl_report.specs.declared.wide_events.SpelledEvent.{SpelledEvent}
use Rattle.tl_report.specs.declared.wide_events.WideEventTaker.{WideEventTaker}
use Rattle.tl_report.specs.statement.Found.{FindsFor, IsHeadless, event_terms_of, no_header, terms_of}
use Rattle.tl_report.specs.statement.Said.{Searches}
use Rattle.tl_report.specs.statement.Taken.{AreCounted}
use Rattle.tl_wide.specs.declared.beat.WideBeat.{WideBeat}
use Rattle.tl_wide.specs.declared.width.WideWidth.{WideWidth}
use Rattle.tl_wide.specs.statement.Width.{part_width, wide_bytes_of}
use Rattle.tl_wide_event_lines.proofs.JudgedLines.{open-event as open-wide-event}
use Rattle.tl_wide_event_lines.proofs.WideMarkedHeaders.{open_wide as open_wide_marked}
use Rattle.tl_wide_event_lines.specs.statement.WideMarkedHeader.{NamesWideMarked}
use Rattle.tl_wide_lines.proofs.JudgedLines.{open-fault}
use Rattle.tl_wide_lines.proofs.WideHeaders.{open_wide}
use Rattle.tl_wide_lines.specs.statement.WideHeader.{NamesWide}

-- ---- the first line

pub begun_narrow : (line : List ℕ) (width : Width) (may : Liberties) (levels : List Level) (aim : Aim)
    (s : Search (NarrowLineJudge (bytes_of width))) → NamesAllowed aim.allow line width may levels
    → StartsSearch (narrow_ways (bytes_of width)) aim (terms_of aim.together may levels) s
    → KnowsSearch (narrow_ways (bytes_of width)) s (line ∷ [])
unfolding FindsFor
begun_narrow line width may levels aim s spells is =
    knows_header (narrow_ways (bytes_of width)) aim (terms_of aim.together may levels) s line is
    (λ lines found beats cells finds. inr (inl (width, may, levels, spells, finds)))

pub begun_wide : (line : List ℕ) (width : WideWidth) (may : Liberties) (levels : List Level) (aim : Aim)
    (s : Search (KeptLineJudge (WideTaker (wide_bytes_of width) (part_width (wide_bytes_of width))) LinksHeader
    (Link × WideBeat (wide_bytes_of width))))
    → NamesWide aim.allow line width may levels
    → StartsSearch (wide_ways (wide_bytes_of width) (part_width (wide_bytes_of width))) aim (terms_of aim.together may levels) s
    → KnowsSearch (wide_ways (wide_bytes_of width) (part_width (wide_bytes_of width))) s (line ∷ [])
unfolding FindsFor
begun_wide line width may levels aim s spells is =
    knows_header (wide_ways (wide_bytes_of width) (part_width (wide_bytes_of width))) aim
    (terms_of aim.together may levels) s line is
    (λ lines found beats cells finds. inl (width, may, levels, spells, finds))

pub begun_events : (line : List ℕ) (width : Width) (may : Liberties) (links : MarkedLinks) (aim : Aim)
    (s : Search (EventLineJudge (bytes_of width))) → NamesMarked aim.allow line width may links
    → StartsSearch (event_ways (bytes_of width)) aim (event_terms_of aim.together may links) s
    → KnowsSearch (event_ways (bytes_of width)) s (line ∷ [])
unfolding FindsFor
begun_events line width may links aim s spells is =
    knows_header (event_ways (bytes_of width)) aim (event_terms_of aim.together may links) s line is
    (λ lines found beats cells finds. inr (inr (inl (width, may, links, spells, finds))))

pub begun_wide_events : (line : List ℕ) (width : WideWidth) (may : Liberties) (links : MarkedLinks) (aim : Aim)
    (s : Search (KeptLineJudge (WideEventTaker (wide_bytes_of width) (part_width (wide_bytes_of width))) CommitHeader
    (SpelledEvent (wide_bytes_of width)))) → NamesWideMarked aim.allow line width may links
    → StartsSearch (wide_event_ways (wide_bytes_of width) (part_width (wide_bytes_of width))) aim
    (event_terms_of aim.together may links) s
    → KnowsSearch (wide_event_ways (wide_bytes_of width) (part_width (wide_bytes_of width))) s (line ∷ [])
unfolding FindsFor
begun_wide_events line width may links aim s spells is =
    knows_header (wide_event_ways (wide_bytes_of width) (part_width (wide_bytes_of width))) aim
    (event_terms_of aim.together may links) s line is
    (λ lines found beats cells finds. inr (inr (inr (inl (width, may, links, spells, finds)))))

-- a broken status isn't clean
pub unclean : {A : Type 0} → Broken ≡ Clean → A
unclean e = absurd cc

pub no_header_ends : (alloc : Global) (aim : Aim) (line : List ℕ) → IsHeadless aim line
    → Ends KnowsLines EndsLines (of.Waiting alloc aim) (of.Waiting alloc aim) line
unfolding FindsFor
no_header_ends alloc aim line none = λ lines text known more beats cells counted.
    rw known (inr (inr (inr (inr (none, (refl, counted))))))

-- a line that has no LF or more than 256 bytes is no header
pub open_header : (alloc : Global) (aim : Aim) (line : List ℕ) → IsOpen line
    → Ends KnowsLines EndsLines (of.Waiting alloc aim) (of.Waiting alloc aim) line
open_header alloc aim line is =
    no_header_ends alloc aim line (
      open_allowed aim.allow line is,
      open_wide aim.allow line is,
      open_marked aim.allow line is,
      open_wide_marked aim.allow line is,
    )

pub stops : (h : SearchLines) (line was is : List ℕ) (fault : Fault) → Stops KnowsLines TellsLines h line was is fault
stops h line was is fault = λ lines before known more broken. unclean broken

pub missing_ends : (alloc : Global) (aim : Aim) → EndsHere KnowsLines EndsLines (of.Waiting alloc aim)
unfolding FindsFor
missing_ends alloc aim = λ lines text known beats cells counted. rw known (refl, counted)

-- the first line began a search, or is no header
pub started : {E : Type 0} (alloc : Global) (aim : Aim) (new : SearchLines) (line was : List ℕ) (r : Result (Option Fault) E)
    → IfOk r (StartsLines aim (of.Waiting alloc aim) new line)
    → IfOk r (Judges KnowsLines TellsLines (of.Waiting alloc aim) new line was was)
started alloc aim new line was (Err e) starts = tt
started alloc aim new line was (Ok None) starts = λ lines before known. rw known (knows_text new (before ++ was) starts.0)
  where
    knows_text : (h : SearchLines) (text : List ℕ) → KnowsLines h (line ∷ []) [] → KnowsLines h (line ∷ []) text
    knows_text (of.Waiting alloc aim) text k = k
    knows_text (of.Four s) text k = k
    knows_text (of.Eight s) text k = k
    knows_text (of.Sixteen s) text k = k
    knows_text (of.WideFour s) text k = k
    knows_text (of.WideEight s) text k = k
    knows_text (of.WideSixteen s) text k = k
    knows_text (of.WideThirtyTwo s) text k = k
    knows_text (of.WideSixtyFour s) text k = k
    knows_text (of.EventFour s) text k = k
    knows_text (of.EventEight s) text k = k
    knows_text (of.EventSixteen s) text k = k
    knows_text (of.WideEventFour s) text k = k
    knows_text (of.WideEventEight s) text k = k
    knows_text (of.WideEventSixteen s) text k = k
    knows_text (of.WideEventThirtyTwo s) text k = k
    knows_text (of.WideEventSixtyFour s) text k = k
started alloc aim new line was (Ok (Some fault)) starts = λ lines before known more broken. unclean broken

pub start_ends : {E : Type 0} (alloc : Global) (aim : Aim) (new : SearchLines) (line : List ℕ) (r : Result (Option Fault) E)
    → IfOk r (StartsLines aim (of.Waiting alloc aim) new line) → (fault : Fault) → r ≡ Ok (Some fault)
    → Ends KnowsLines EndsLines (of.Waiting alloc aim) new line
start_ends alloc aim new line (Err e) starts fault is = absurd cc
start_ends alloc aim new line (Ok None) starts fault is = absurd cc
start_ends alloc aim new line (Ok (Some other)) starts fault is = rw starts.0 (no_header_ends alloc aim line starts.1)

pub start_aim : {E : Type 0} (alloc : Global) (aim : Aim) (new : SearchLines) (line : List ℕ) (r : Result (Option Fault) E)
    → IfOk r (StartsLines aim (of.Waiting alloc aim) new line) → IfOk r (λ _. aim_of new ≡ aim)
start_aim alloc aim new line (Err e) starts = tt
start_aim alloc aim new line (Ok None) starts = starts.1
start_aim alloc aim new line (Ok (Some fault)) starts = ap aim_of starts.0

-- ---- what the handler says of a line

module _ {J T X : Type 0} (ways : Ways J T X) (wrap : Search J → SearchLines) (so : IsSearch ways wrap) where
  pub read_judged : {E : Type 0} (old new : Search J) (line was : List ℕ) (r : Result (Option Fault) E)
      → IfOk r (SearchesLine ways old new line) → IfOk r (Judges KnowsLines TellsLines (wrap old) (wrap new) line was was)
  read_judged old new line was (Err e) reads = tt
  read_judged old new line was (Ok None) reads = λ lines before known.
      so.out new (lines ++ line ∷ []) (before ++ was) (reads lines (so.into old lines (before ++ was) known))
  read_judged old new line was (Ok (Some fault)) reads = λ lines before known more broken. unclean broken

  pub read_ends : {E : Type 0} (old new : Search J) (line : List ℕ) (r : Result (Option Fault) E)
      → IfOk r (SearchesLine ways old new line) → (fault : Fault) → r ≡ Ok (Some fault)
      → Ends KnowsLines EndsLines (wrap old) (wrap new) line
  read_ends old new line (Err e) reads fault is = absurd cc
  read_ends old new line (Ok None) reads fault is = absurd cc
  read_ends old new line (Ok (Some other)) reads fault is = λ lines text known more.
      so.out_ends new (lines ++ line ∷ more) (reads lines (so.into old lines text known) more)

-- ---- a line that has no LF or more than 256 bytes

abbrev IsRead : SearchLines → Type 0
IsRead h = (alloc : Global) (aim : Aim) → h ≡ of.Waiting alloc aim → ⊥

pub open_ends : (h : SearchLines) → IsRead h → (line : List ℕ) → IsOpen line → Ends KnowsLines EndsLines h h line
open_ends (of.Waiting alloc aim) read line is = absurd (read alloc aim refl)
open_ends (of.Four s) read line is = λ lines text k more.
    opened (narrow_ways 4) s line lines k is (λ terms. open_fault 4 line is) more
open_ends (of.Eight s) read line is = λ lines text k more.
    opened (narrow_ways 8) s line lines k is (λ terms. open_fault 8 line is) more
open_ends (of.Sixteen s) read line is = λ lines text k more.
    opened (narrow_ways 16) s line lines k is (λ terms. open_fault 16 line is) more
open_ends (of.WideFour s) read line is = λ lines text k more.
    opened (wide_ways 4 4) s line lines k is (λ terms. open-fault 4 line is) more
open_ends (of.WideEight s) read line is = λ lines text k more.
    opened (wide_ways 8 8) s line lines k is (λ terms. open-fault 8 line is) more
open_ends (of.WideSixteen s) read line is = λ lines text k more.
    opened (wide_ways 16 16) s line lines k is (λ terms. open-fault 16 line is) more
open_ends (of.WideThirtyTwo s) read line is = λ lines text k more.
    opened (wide_ways 32 16) s line lines k is (λ terms. open-fault 32 line is) more
open_ends (of.WideSixtyFour s) read line is = λ lines text k more.
    opened (wide_ways 64 16) s line lines k is (λ terms. open-fault 64 line is) more
open_ends (of.EventFour s) read line is = λ lines text k more.
    opened (event_ways 4) s line lines k is (λ terms. open-event 4 line is) more
open_ends (of.EventEight s) read line is = λ lines text k more.
    opened (event_ways 8) s line lines k is (λ terms. open-event 8 line is) more
open_ends (of.EventSixteen s) read line is = λ lines text k more.
    opened (event_ways 16) s line lines k is (λ terms. open-event 16 line is) more
open_ends (of.WideEventFour s) read line is = λ lines text k more.
    opened (wide_event_ways 4 4) s line lines k is (λ terms. open-wide-event 4 line is) more
open_ends (of.WideEventEight s) read line is = λ lines text k more.
    opened (wide_event_ways 8 8) s line lines k is (λ terms. open-wide-event 8 line is) more
open_ends (of.WideEventSixteen s) read line is = λ lines text k more.
    opened (wide_event_ways 16 16) s line lines k is (λ terms. open-wide-event 16 line is) more
open_ends (of.WideEventThirtyTwo s) read line is = λ lines text k more.
    opened (wide_event_ways 32 16) s line lines k is (λ terms. open-wide-event 32 line is) more
open_ends (of.WideEventSixtyFour s) read line is = λ lines text k more.
    opened (wide_event_ways 64 16) s line lines k is (λ terms. open-wide-event 64 line is) more

-- ---- the end

pub read_clean : (h : SearchLines) → IsRead h → (count : ℕ) (was is : List ℕ)
    → Finishes KnowsLines TellsLines h count was is None
read_clean (of.Waiting alloc aim) read count was is = absurd (read alloc aim refl)
read_clean (of.Four s) read count was is = λ lines before k counted clean. k.some
read_clean (of.Eight s) read count was is = λ lines before k counted clean. k.some
read_clean (of.Sixteen s) read count was is = λ lines before k counted clean. k.some
read_clean (of.WideFour s) read count was is = λ lines before k counted clean. k.some
read_clean (of.WideEight s) read count was is = λ lines before k counted clean. k.some
read_clean (of.WideSixteen s) read count was is = λ lines before k counted clean. k.some
read_clean (of.WideThirtyTwo s) read count was is = λ lines before k counted clean. k.some
read_clean (of.WideSixtyFour s) read count was is = λ lines before k counted clean. k.some
read_clean (of.EventFour s) read count was is = λ lines before k counted clean. k.some
read_clean (of.EventEight s) read count was is = λ lines before k counted clean. k.some
read_clean (of.EventSixteen s) read count was is = λ lines before k counted clean. k.some
read_clean (of.WideEventFour s) read count was is = λ lines before k counted clean. k.some
read_clean (of.WideEventEight s) read count was is = λ lines before k counted clean. k.some
read_clean (of.WideEventSixteen s) read count was is = λ lines before k counted clean. k.some
read_clean (of.WideEventThirtyTwo s) read count was is = λ lines before k counted clean. k.some
read_clean (of.WideEventSixtyFour s) read count was is = λ lines before k counted clean. k.some

pub no_lines : (alloc : Global) (aim : Aim) (status : Status) (f : Findings) → f.faults.items ≡ no_header
    → AreCounted f.beats f.cells.items [] → HasFound (of.Waiting alloc aim) status f
no_lines alloc aim Clean f found none lines has some = absurd (some refl has.1)
no_lines alloc aim Broken f found none lines has some = rw found (has f.beats f.cells.items none)

module _ {J T X : Type 0} (ways : Ways J T X) (wrap : Search J → SearchLines) (so : IsSearch ways wrap) where
  pub found_so : {E : Type 0} (s : Search J) (status : Status) (r : Result Findings E) → IfOk r (EndsWith status s.over s.findings s.lines)
      → IfOk r (HasFound (wrap s) status)
  found_so s status (Err e) is = tt
  found_so s Clean (Ok f) is = λ lines has some.
      rw (so.aim_is s) (found_in ways s Clean f lines is (λ e. so.into s lines has.0 has.1) (λ e. absurd cc))
  found_so s Broken (Ok f) is = λ lines has some.
      rw (so.aim_is s) (found_in ways s Broken f lines is (λ e. unclean e) (λ e. so.into_ends s lines has))

pub searches : (had left : Option (List ℕ)) (h : SearchLines) (aim : Aim) (text : List ℕ) (status : Status)
    (f : Findings)
    → (read : List ℕ) × Consumes had left read × TellsLines (lines_of read) text status
    × EndsAs TellsLines left read text status × HasAll KnowsLines EndsLines h (lines_of read) status
    × Stands EndsLines left read h
    → HasFound h status f → aim_of h ≡ aim
    → Searches aim had left f.faults.items f.beats f.cells.items
searches had left h aim text Clean f (read, consumed, told, ended, has, stands) found is = (
  read,
  consumed,
  rw (← is) (found (lines_of read) has told),
  inr ended,
)
searches had left h aim text Broken f (read, consumed, told, ended, has, inl stands) found is = (
  read,
  consumed,
  rw (← is) (found (lines_of read) has told),
  inl (λ more. rw (← is) (found (lines_of (read ++ more)) (stands more) unclean)),
)
searches had left h aim text Broken f (read, consumed, told, ended, has, inr end) found is = (
  read,
  consumed,
  rw (← is) (found (lines_of read) has told),
  inr end,
)
