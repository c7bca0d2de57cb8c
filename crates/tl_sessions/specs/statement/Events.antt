-- The answer of a judge of beats and commits to an event, and the judge's knowledge afterwards.
use Rattle.std.specs.Prelude.{ℕ, Bool, true, false, ◌≡◌, ◌⊎◌, List, Option, Some, Result, Err, ⊤}
use Rattle.tl_beat.specs.declared.beat.Beat.{Beat}
use Rattle.tl_beat.specs.declared.beat.Link.{Link}
use Rattle.tl_beat.specs.declared.fault.LineFault.{LineFault}
use Rattle.tl_beat.specs.statement.Line.{Spells, line_fault}
use Rattle.tl_commits.specs.declared.fault.CommitFault.{CommitFault}
use Rattle.tl_commits.specs.declared.fault.CommitFault.TheVariants.{Broken}
use Rattle.tl_commits.specs.declared.judge.CommitJudge.{CommitJudge}
use Rattle.tl_commits.specs.statement.Completeness.{Completeness}
use Rattle.tl_commits.specs.statement.Breaches.{broken_event}
use Rattle.tl_commits.specs.statement.Events.{Events}
use Rattle.tl_commits.specs.statement.Knows.{Answers, KnowsCommits, recorded_after}
use Rattle.tl_events.specs.declared.commit.Commit.{Commit}
use Rattle.tl_events.specs.declared.commit.Event.{Event}
use Rattle.tl_events.specs.declared.commit.Event.TheVariants as event
use Rattle.tl_events.specs.statement.CommitLine.{SpellsCommit, commit_fault}
use Rattle.tl_params.specs.declared.level.Level.{Level}
use Rattle.tl_params.specs.declared.liberties.Liberties.{Liberties}
use Rattle.tl_pictures.specs.declared.answer.Answer.{Answer}
use Rattle.tl_pictures.specs.declared.commit.CommitPicture.{CommitPicture}
use Rattle.tl_pictures.specs.declared.picture.Picture.{Picture}
use Rattle.tl_pictures.specs.statement.Answer.{closed, commit_answer, IsBad}
use Rattle.tl_pictures.specs.statement.Codes.{link_at}
use Rattle.tl_pictures.specs.statement.CommitPicture.{commit_shown}
use Rattle.tl_pictures.specs.statement.Picture.{shown}
use Rattle.tl_sessions.specs.declared.event_judge.EventJudge.{EventJudge}

-- The event was judged by the judge's rules, after the events of all links that it knew. It then knows the events with
-- this one if it was taken.
pub record Judges {w : ℕ} (old new : CommitJudge w) (x : Link × Event w) (judged : Result ⊤ CommitFault) : Type 0 where
  pub lawful : (levels : List Level) (complete : Completeness) (l : Liberties) (e : Events w)
      → KnowsCommits old levels complete l e → Answers (broken_event levels complete l x.0 x.1 e) judged
  pub knows : (levels : List Level) (complete : Completeness) (l : Liberties) (e : Events w)
      → KnowsCommits old levels complete l e → KnowsCommits new levels complete l (recorded_after judged x e)

-- whether an open judge is closed after an event: by a broken rule, if that stops it
abbrev pub closed_after : Bool → Result ⊤ CommitFault → Bool
closed_after stops (Err (Broken breach)) = stops
closed_after stops _ = false

-- an open judge judged the event; `stops` says whether a broken rule closes it
pub record JudgedOpen {w : ℕ} (stops : Bool) (old new : EventJudge w) (x : Link × Event w) (answer : Answer) : Type 0
  where
    pub judged : Result ⊤ CommitFault
    pub told : answer ≡ commit_answer judged
    pub judges : Judges old.judge new.judge x judged
    pub closed_is : new.closed ≡ closed_after stops judged

-- a closed judge stays as it is, and an open one judges the event
abbrev pub JudgedEvent : {w : ℕ} → Bool → EventJudge w → EventJudge w → Link × Event w → Answer → Type 0
JudgedEvent stops old new x answer =
    ((old.closed ≡ true) × (answer ≡ closed) × (new ≡ old))
    ⊎ ((old.closed ≡ false) × JudgedOpen stops old new x answer)

-- ---- a beat or a commit in C

-- the judge judges the beat on the link; None of either is bad input
abbrev pub ToldOfLinkBeat : {w : ℕ} → Bool → EventJudge w → EventJudge w → Option Link → Option (Beat w) → Answer
    → Type 0
ToldOfLinkBeat stops old new (Some link) (Some x) answer = JudgedEvent stops old new (link, event.Beat x) answer
ToldOfLinkBeat stops old new _ _ answer = IsBad answer old new

-- the judge judges the beat of this picture, on the link with this number, 0 to 15
abbrev pub ToldOfBeat : {w : ℕ} → Bool → EventJudge w → EventJudge w → ℕ → Picture → Answer → Type 0
ToldOfBeat {w} stops old new link x answer = ToldOfLinkBeat stops old new (link_at link) (shown w x) answer

-- the judge judges the commit on the link; None of either is bad input
abbrev pub ToldOfLinkCommit : {w : ℕ} → Bool → EventJudge w → EventJudge w → Option Link → Option Commit → Answer
    → Type 0
ToldOfLinkCommit stops old new (Some link) (Some x) answer = JudgedEvent stops old new (link, event.Commit x) answer
ToldOfLinkCommit stops old new _ _ answer = IsBad answer old new

-- the judge judges the commit of this picture, on the link with this number, 0 to 15
abbrev pub ToldOfCommit : {w : ℕ} → Bool → EventJudge w → EventJudge w → ℕ → CommitPicture → Answer → Type 0
ToldOfCommit stops old new link x answer = ToldOfLinkCommit stops old new (link_at link) (commit_shown x) answer

-- ---- a line of a trace

-- The judge judges the link and commit that this line spells. A line that spells no commit is bad input.
abbrev pub ToldOfCommitLine : {w : ℕ} → EventJudge w → EventJudge w → List ℕ → Answer → Type 0
ToldOfCommitLine old new line answer =
    ((link : Link) × (x : Commit) × SpellsCommit line link x × JudgedEvent true old new (link, event.Commit x) answer)
    ⊎ ((fault : LineFault) × (commit_fault line ≡ Some fault) × IsBad answer old new)

-- The judge judges the link and beat that this line spells, or else the link and commit. A line that spells neither is
-- bad input.
abbrev pub ToldOfEventLine : {w : ℕ} → EventJudge w → EventJudge w → List ℕ → Answer → Type 0
ToldOfEventLine {w} old new line answer =
    ((link : Link) × (x : Beat w) × Spells line link x × JudgedEvent true old new (link, event.Beat x) answer)
    ⊎ ((fault : LineFault) × (line_fault w line ≡ Some fault) × ToldOfCommitLine old new line answer)
