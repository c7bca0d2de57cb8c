-- Monitors and judges of wide beats, and of these and commits, that were made.
use Rattle.std.proofs.Common.{◌≡◌, ℕ, List, [], subst, sym, inl}
use Rattle.std.specs.Prelude.{map, Result, Ok, Err}
use Rattle.tl_commits.specs.statement.Completeness.{Completeness}
use Rattle.tl_commits.specs.statement.Events.{beats_of}
use Rattle.tl_monitor.specs.declared.monitor.Monitor.{Monitor}
use Rattle.tl_params.specs.declared.liberties.Liberties.{Liberties}
use Rattle.tl_pictures.specs.declared.answer.Answer.{Answer}
use Rattle.tl_pictures.specs.statement.Codes.{level_at, liberties_at}
use Rattle.tl_together.specs.declared.judge.Judge.{Judge}
use Rattle.tl_sessions.specs.code.WideJudging.{IsEmpty, MakesWide}
use Rattle.tl_sessions.specs.declared.event_judge.EventJudge.{EventJudge}
use Rattle.tl_sessions.specs.declared.part_judge.PartJudge.{PartJudge}
use Rattle.tl_sessions.specs.declared.part_judge.PartJudge.TheVariants.{OfLinks, OfAll, OfEvents}
use Rattle.tl_sessions.specs.declared.wide.WideJudge.{WideJudge}
use Rattle.tl_sessions.specs.statement.EventsOpened.{IsFreshEvents}
use Rattle.tl_sessions.specs.statement.Opened.{IsFreshUnder}
use Rattle.tl_sessions.specs.statement.TogetherOpened.{IsFreshJudge}
use Rattle.tl_sessions.specs.statement.Wide.{Judging, Alone, Together, WithCommits, KnowsParts}

made_of : {p : ℕ} (judging : Judging) (codes : List ℕ) (liberties : ℕ) (judge : PartJudge p)
    (result : Result (WideJudge p) Answer)
    → KnowsParts judging judge (map level_at codes) (liberties_at liberties) [] → IsEmpty judge result
    → MakesWide judging codes liberties result
made_of {p} judging codes liberties judge (Ok s) knows (closed, none, is, follows) = (
  closed,
  none,
  follows,
  subst (λ (j : PartJudge p). KnowsParts judging j (map level_at codes) (liberties_at liberties) []) (sym is) knows,
)
made_of judging codes liberties judge (Err answer) knows memory = inl memory

-- one that judges each link by itself
pub made_alone : {p : ℕ} (codes : List ℕ) (liberties : ℕ) (m : Monitor p) (result : Result (WideJudge p) Answer)
    → IsFreshUnder codes liberties m → IsEmpty (OfLinks m) result → MakesWide Alone codes liberties result
unfolding beats_of
made_alone codes liberties m result fresh empty = made_of Alone codes liberties (OfLinks m) result fresh empty

-- one that judges all links together
pub made_together : {p : ℕ} (codes : List ℕ) (liberties : ℕ) (l : Liberties) (j : Judge p)
    (result : Result (WideJudge p) Answer)
    → l ≡ liberties_at liberties → IsFreshJudge codes l j → IsEmpty (OfAll j) result
    → MakesWide Together codes liberties result
unfolding beats_of
made_together codes liberties l j result is fresh empty =
    made_of Together codes liberties (OfAll j) result (rw is at fresh) empty

-- one that judges them with the commits of their cores
pub made_with_commits : {p : ℕ} (codes : List ℕ) (complete : Completeness) (liberties : ℕ) (j : EventJudge p)
    (result : Result (WideJudge p) Answer)
    → IsFreshEvents codes complete liberties j → IsEmpty (OfEvents j.judge) result
    → MakesWide (WithCommits complete) codes liberties result
made_with_commits codes complete liberties j result fresh empty =
    made_of (WithCommits complete) codes liberties (OfEvents j.judge) result fresh.1 empty
