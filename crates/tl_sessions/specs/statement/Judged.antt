-- The answer of a monitor to a beat, and the monitor's knowledge afterwards.
use Rattle.std.specs.Prelude.{ℕ, Bool, ◌≡◌, ◌⊎◌, List, Option, Some, None, Result, ⊤}
use Rattle.tl_beat.specs.declared.beat.Beat.{Beat}
use Rattle.tl_beat.specs.declared.beat.Link.{Link}
use Rattle.tl_beat.specs.declared.fault.LineFault.{LineFault}
use Rattle.tl_beat.specs.statement.Line.{Spells, line_fault}
use Rattle.tl_params.specs.declared.level.Level.{Level}
use Rattle.tl_params.specs.declared.liberties.Liberties.{Liberties}
use Rattle.tl_params.specs.declared.profile.Profile.{Profile}
use Rattle.tl_rules.specs.statement.Conformance.{Trace, on_link}
use Rattle.tl_monitor.specs.declared.fault.MonitorFault.{MonitorFault}
use Rattle.tl_monitor.specs.declared.monitor.Monitor.{Monitor}
use Rattle.tl_monitor.specs.statement.Knows.{Knows, KnowsUnder, Answers, fault_of, fault_under, recorded_after, closed_after}
use Rattle.tl_monitor.specs.statement.Numbers.{entry_count, entry_count_under, IsMoreUnder, IsMoreWhereRefused}
use Rattle.tl_pictures.specs.declared.answer.Answer.{Answer}
use Rattle.tl_pictures.specs.declared.picture.Picture.{Picture}
use Rattle.tl_pictures.specs.statement.Answer.{answer_of, ok, IsBad}
use Rattle.tl_pictures.specs.statement.Codes.{link_at}
use Rattle.tl_pictures.specs.statement.Picture.{shown}

-- whether a monitor is closed after a beat, by its state before and the result
abbrev pub Closing : Type 0
Closing = Bool → Result ⊤ MonitorFault → Bool

-- a broken rule closes the monitor
abbrev pub stops : Closing
stops closed judged = closed_after judged

-- the monitor stays open or closed as it was
abbrev pub goes_on : Closing
goes_on closed judged = closed

-- The beat was judged by the rules, after the trace that the monitor knew. The monitor then knows the trace with the
-- beat if it was taken. Memory ran out only if the beat adds a pending key of some kind or a held block.
pub record Judged {w : ℕ} (after : Closing) (old new : Monitor w) (x : Link × Beat w) (answer : Answer) : Type 0 where
  pub judged : Result ⊤ MonitorFault
  pub told : answer ≡ answer_of judged
  pub lawful : (levels : List Level) (p : Profile) (t : Trace w) (closed : Bool) → Knows old levels p t closed
      → Answers (fault_of levels p t closed x) judged
  pub knows : (levels : List Level) (p : Profile) (t : Trace w) (closed : Bool) → Knows old levels p t closed
      → Knows new levels p (recorded_after judged x t) (after closed judged)
  pub memory : (levels : List Level) (p : Profile) (t : Trace w) (closed : Bool) → Knows old levels p t closed
      → IsMoreWhereRefused (on_link x.0.0 t) x.1 judged
  pub lawful_under : (levels : List Level) (l : Liberties) (t : Trace w) (closed : Bool)
      → KnowsUnder old levels l t closed → Answers (fault_under levels l t closed x) judged
  pub knows_under : (levels : List Level) (l : Liberties) (t : Trace w) (closed : Bool)
      → KnowsUnder old levels l t closed
      → KnowsUnder new levels l (recorded_after judged x t) (after closed judged)
  pub memory_under : (levels : List Level) (l : Liberties) (t : Trace w) (closed : Bool)
      → KnowsUnder old levels l t closed → IsMoreUnder l (on_link x.0.0 t) x.1 judged

-- the monitor judges the beat on the link; None of either is bad input
abbrev pub ToldOfBeat : {w : ℕ} → Closing → Monitor w → Monitor w → Option Link → Option (Beat w) → Answer → Type 0
ToldOfBeat after old new (Some link) (Some beat) answer = Judged after old new (link, beat) answer
ToldOfBeat after old new _ _ answer = IsBad answer old new

-- the monitor judges the beat of this picture, on the link with this number, 0 to 15
abbrev pub ToldOf : {w : ℕ} → Closing → Monitor w → Monitor w → ℕ → Picture → Answer → Type 0
ToldOf {w} after old new link x answer = ToldOfBeat after old new (link_at link) (shown w x) answer

-- The monitor judges the link and beat that this line of a trace spells, for any link. A line that spells no beat is
-- bad input.
abbrev pub ToldOfLine : {w : ℕ} → Monitor w → Monitor w → List ℕ → Answer → Type 0
ToldOfLine {w} old new line answer =
    ((link : Link) × (x : Beat w) × Spells line link x × Judged stops old new (link, x) answer)
    ⊎ ((fault : LineFault) × (line_fault w line ≡ Some fault) × IsBad answer old new)

-- the number of entries of the link; None is bad input
abbrev pub EntriesOnLink : {w : ℕ} → Monitor w → Option Link → ℕ → ℕ → Answer → Type 0
EntriesOnLink m None was entries answer = IsBad answer was entries
EntriesOnLink {w} m (Some link) was entries answer = (answer ≡ ok)
    × ((levels : List Level) (p : Profile) (t : Trace w) (closed : Bool) → Knows m levels p t closed
    → entries ≡ entry_count levels link t)
    × ((levels : List Level) (l : Liberties) (t : Trace w) (closed : Bool) → KnowsUnder m levels l t closed
    → entries ≡ entry_count_under l levels link t)

-- the number of pending keys and held blocks of the link with this number
abbrev pub EntriesOf : {w : ℕ} → Monitor w → ℕ → ℕ → ℕ → Answer → Type 0
EntriesOf m link was entries answer = EntriesOnLink m (link_at link) was entries answer
