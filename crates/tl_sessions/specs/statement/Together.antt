-- The answer to a beat that a judge judges with the beats of all links, and the judge's knowledge afterwards.
use Rattle.std.specs.Prelude.{ℕ, Bool, ◌≡◌, ◌⊎◌, List, Option, Some, Result, ⊤}
use Rattle.tl_beat.specs.declared.beat.Beat.{Beat}
use Rattle.tl_beat.specs.declared.beat.Link.{Link}
use Rattle.tl_beat.specs.declared.fault.LineFault.{LineFault}
use Rattle.tl_beat.specs.statement.Line.{Spells, line_fault}
use Rattle.tl_params.specs.declared.level.Level.{Level}
use Rattle.tl_params.specs.declared.liberties.Liberties.{Liberties}
use Rattle.tl_rules.specs.statement.Conformance.{Trace}
use Rattle.tl_together.specs.declared.fault.JudgeFault.{JudgeFault}
use Rattle.tl_together.specs.declared.judge.Judge.{Judge}
use Rattle.tl_together.specs.statement.Knows.{Knows, Answers, fault_of, recorded_after, closed_after}
use Rattle.tl_pictures.specs.declared.answer.Answer.{Answer}
use Rattle.tl_pictures.specs.declared.picture.Picture.{Picture}
use Rattle.tl_pictures.specs.statement.Answer.{judge_answer, IsBad}
use Rattle.tl_pictures.specs.statement.Codes.{link_at}
use Rattle.tl_pictures.specs.statement.Picture.{shown}

-- whether a judge is closed after a beat, by its state before and the result
abbrev pub Closing : Type 0
Closing = Bool → Result ⊤ JudgeFault → Bool

-- a broken rule closes the judge
abbrev pub stops : Closing
stops closed judged = closed_after closed judged

-- the judge stays open or closed as it was
abbrev pub goes_on : Closing
goes_on closed judged = closed

-- The beat was judged by the rules of its link and of memory, after the trace of all links that the judge knew. The
-- judge then knows the trace with the beat if it was taken.
pub record JudgedTogether {w : ℕ} (after : Closing) (old new : Judge w) (x : Link × Beat w) (answer : Answer) : Type 0
  where
    pub judged : Result ⊤ JudgeFault
    pub told : answer ≡ judge_answer judged
    pub lawful : (levels : List Level) (l : Liberties) (t : Trace w) (closed : Bool) → Knows old levels l t closed
        → Answers (fault_of levels l t closed x) judged
    pub knows : (levels : List Level) (l : Liberties) (t : Trace w) (closed : Bool) → Knows old levels l t closed
        → Knows new levels l (recorded_after judged x t) (after closed judged)

-- the judge judges the beat on the link; None of either is bad input
abbrev pub ToldOfBeatTogether : {w : ℕ} → Closing → Judge w → Judge w → Option Link → Option (Beat w) → Answer → Type 0
ToldOfBeatTogether after old new (Some link) (Some beat) answer = JudgedTogether after old new (link, beat) answer
ToldOfBeatTogether after old new _ _ answer = IsBad answer old new

-- the judge judges the beat of this picture, on the link with this number, 0 to 15
abbrev pub ToldTogether : {w : ℕ} → Closing → Judge w → Judge w → ℕ → Picture → Answer → Type 0
ToldTogether {w} after old new link x answer = ToldOfBeatTogether after old new (link_at link) (shown w x) answer

-- The judge judges the link and beat that this line of a trace spells. A line that spells no beat is bad input.
abbrev pub ToldOfLineTogether : {w : ℕ} → Judge w → Judge w → List ℕ → Answer → Type 0
ToldOfLineTogether {w} old new line answer =
    ((link : Link) × (x : Beat w) × Spells line link x × JudgedTogether stops old new (link, x) answer)
    ⊎ ((fault : LineFault) × (line_fault w line ≡ Some fault) × IsBad answer old new)
