-- The arguments from which C makes a judge of beats and commits, and sessions with one.
use Rattle.std.specs.Prelude.{ℕ, Bool, true, false, ◌&&◌, ◌==◌, ◌≡◌, List, [], length, map, Option, Some, None}
use Rattle.std.specs.Prelude.{Result, Ok, Err}
use Rattle.tl_commits.specs.statement.Completeness.{Completeness}
use Rattle.tl_commits.specs.statement.Knows.{KnowsCommits}
use Rattle.tl_params.specs.statement.Config.{IsCount}
use Rattle.tl_pictures.specs.declared.answer.Answer.{Answer}
use Rattle.tl_pictures.specs.statement.Answer.{ok}
use Rattle.tl_pictures.specs.statement.Codes.{are_flags, flag_at, is_flag, level_at, liberties_at}
use Rattle.tl_sessions.specs.declared.event_judge.AnyEventJudge.TheVariants as events
use Rattle.tl_sessions.specs.declared.event_judge.EventJudge.{EventJudge}
use Rattle.tl_sessions.specs.declared.session.Session.{Session}
use Rattle.tl_sessions.specs.declared.session.Session.TheVariants as session
use Rattle.tl_sessions.specs.statement.Opened.{IsRefusal, may_open_under, refusal}

-- how complete the trace is, by a flag for each link, that all its stores are in the trace, and one that memory was zero
-- before it
abbrev pub completeness_at : List ℕ → ℕ → Completeness
completeness_at complete memory = record { stores = map flag_at complete; zero = flag_at memory }

-- the arguments fit: 1 to 16 levels, a flag for each, one for memory, and a width
abbrev pub may_open_events : List ℕ → List ℕ → ℕ → ℕ → Bool
may_open_events codes complete memory width =
    may_open_under codes width && length complete == length codes && are_flags complete && is_flag memory

-- a new judge of such a trace has these levels and liberties, and no events
abbrev pub IsFreshEvents : {w : ℕ} → List ℕ → Completeness → ℕ → EventJudge w → Type 0
IsFreshEvents codes complete liberties j =
    (j.closed ≡ false) × KnowsCommits j.judge (map level_at codes) complete (liberties_at liberties) []

-- the result of making a judge: a new one, or a refusal
abbrev pub MakesEvents : {w : ℕ} → List ℕ → Completeness → ℕ → Result (EventJudge w) Answer → Type 0
MakesEvents codes complete liberties (Ok j) = IsFreshEvents codes complete liberties j
MakesEvents codes complete liberties (Err answer) = IsRefusal (IsCount (length codes)) answer

-- the session holds a new judge of this width
abbrev pub IsOpenedEvents : List ℕ → Completeness → ℕ → ℕ → Session → Type 0
IsOpenedEvents codes complete width liberties (session.Events (events.Four j)) =
    (width ≡ 4) × IsFreshEvents codes complete liberties j
IsOpenedEvents codes complete width liberties (session.Events (events.Eight j)) =
    (width ≡ 8) × IsFreshEvents codes complete liberties j
IsOpenedEvents codes complete width liberties (session.Events (events.Sixteen j)) =
    (width ≡ 16) × IsFreshEvents codes complete liberties j
IsOpenedEvents codes complete width liberties _ = ⊥

-- the result of a call that opens a judge of beats and commits with an empty handle: the session, if any, and the answer
abbrev pub OpensEvents : List ℕ → List ℕ → ℕ → ℕ → ℕ → Option Session → Answer → Type 0
OpensEvents codes complete memory width liberties (Some s) answer =
    (answer ≡ ok)
    × (may_open_events codes complete memory width ≡ true)
    × IsOpenedEvents codes (completeness_at complete memory) width liberties s
OpensEvents codes complete memory width liberties None answer =
    answer ≡ refusal (may_open_events codes complete memory width)
