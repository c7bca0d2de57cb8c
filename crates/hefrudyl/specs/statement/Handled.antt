-- The calls of C on a monitor, a judge, a cover, a client and a manager by its handle.
use Rattle.std.specs.Prelude.{ℕ, List, ◌≡◌, Option, Some, None, false}
use Rattle.tl_pictures.specs.declared.answer.Answer.{Answer}
use Rattle.tl_pictures.specs.declared.commit.CommitPicture.{CommitPicture}
use Rattle.tl_pictures.specs.declared.config.LinkConfig.{LinkConfig}
use Rattle.tl_pictures.specs.declared.operation.Operation.{Operation}
use Rattle.tl_pictures.specs.declared.outcome.Outcome.{Outcome}
use Rattle.tl_pictures.specs.declared.outcome.Reception.{Reception}
use Rattle.tl_pictures.specs.declared.picture.Picture.{Picture}
use Rattle.tl_pictures.specs.declared.wide.WidePicture.{WidePicture}
use Rattle.tl_sessions.specs.declared.cover.BinTally.{BinTally}
use Rattle.tl_sessions.specs.declared.cover.Tally.{Tally}
use Rattle.tl_sessions.specs.declared.session.Session.{Session}
use Rattle.tl_pictures.specs.statement.Answer.{bad, IsBad}
use Rattle.tl_sessions.specs.statement.Covering.{BinSession, CountsSession, OpensCovering, TallySession}
use Rattle.tl_sessions.specs.statement.EventsOpened.{OpensEvents}
use Rattle.tl_sessions.specs.statement.Opened.{OpensTo, OpensUnder}
use Rattle.tl_sessions.specs.statement.Sessions
use Rattle.tl_sessions.specs.statement.WideOpened.{CommitsWide, JudgesWide, MonitorsWide}
use Rattle.tl_sessions.specs.statement.WideOpened.{WideEventsOpen, WideJudgeOpens, WideMonitorOpens}

-- a full handle stays, and the call is bad input; P is true of the session of an empty handle afterwards, and of the
-- answer
abbrev pub OpensHandle : (Option Session → Answer → Type 0) → Option Session → Option Session → Answer → Type 0
OpensHandle P (Some old) new answer = IsBad answer (Some old) new
OpensHandle P None new answer = P new answer

-- C opens a monitor of links with a profile
abbrev pub MonitorOpenTold : Option Session → Option Session → List ℕ → ℕ → ℕ → Answer → Type 0
MonitorOpenTold old new levels width profile answer = OpensHandle (OpensTo levels width profile) old new answer

-- C opens a monitor of links with liberties
abbrev pub MonitorOpenUnderTold : Option Session → Option Session → List ℕ → ℕ → ℕ → Answer → Type 0
MonitorOpenUnderTold old new levels width liberties answer =
    OpensHandle (OpensUnder levels width liberties) old new answer

-- C opens a judge of all links with a profile
abbrev pub JudgeOpenTold : Option Session → Option Session → List ℕ → ℕ → ℕ → Answer → Type 0
JudgeOpenTold old new levels width profile answer =
    OpensHandle (Sessions.JudgeOpens levels width profile) old new answer

-- C opens a judge of all links with liberties
abbrev pub JudgeOpenUnderTold : Option Session → Option Session → List ℕ → ℕ → ℕ → Answer → Type 0
JudgeOpenUnderTold old new levels width liberties answer =
    OpensHandle (Sessions.JudgeOpensUnder levels width liberties) old new answer

-- C opens a judge of beats and commits of all links with liberties, and says which links have all their stores in the
-- trace, and whether memory was zero before it
abbrev pub JudgeOpenZeroTold : Option Session → Option Session → List ℕ → List ℕ → ℕ → ℕ → ℕ → Answer → Type 0
JudgeOpenZeroTold old new levels complete memory width liberties answer =
    OpensHandle (OpensEvents levels complete memory width liberties) old new answer

-- the same, and memory may have been anything
abbrev pub JudgeOpenCommitsTold : Option Session → Option Session → List ℕ → List ℕ → ℕ → ℕ → Answer → Type 0
JudgeOpenCommitsTold old new levels complete width liberties answer =
    JudgeOpenZeroTold old new levels complete 0 width liberties answer

-- C opens a monitor of wide beats of links with liberties
abbrev pub WideMonitorOpenTold : Option Session → Option Session → List ℕ → ℕ → ℕ → Answer → Type 0
WideMonitorOpenTold old new levels width liberties answer =
    OpensHandle (WideMonitorOpens levels width liberties) old new answer

-- C opens a judge of wide beats of all links with liberties
abbrev pub WideJudgeOpenTold : Option Session → Option Session → List ℕ → ℕ → ℕ → Answer → Type 0
WideJudgeOpenTold old new levels width liberties answer =
    OpensHandle (WideJudgeOpens levels width liberties) old new answer

-- C opens a judge of wide beats and commits of all links with liberties, and says which links have all their stores
-- judged, and whether memory was zero at first
abbrev pub WideOpenZeroTold : Option Session → Option Session → List ℕ → List ℕ → ℕ → ℕ → ℕ → Answer → Type 0
WideOpenZeroTold old new levels complete memory width liberties answer =
    OpensHandle (WideEventsOpen levels complete memory width liberties) old new answer

-- the same, and memory may have been anything
abbrev pub WideEventsOpenTold : Option Session → Option Session → List ℕ → List ℕ → ℕ → ℕ → Answer → Type 0
WideEventsOpenTold old new levels complete width liberties answer =
    WideOpenZeroTold old new levels complete 0 width liberties answer

-- C opens a covering of links with liberties
abbrev pub CoverOpenTold : Option Session → Option Session → List ℕ → ℕ → ℕ → Answer → Type 0
CoverOpenTold old new levels width liberties answer =
    OpensHandle (OpensCovering levels width liberties) old new answer

-- C opens a client
abbrev pub ClientOpenTold : Option Session → Option Session → ℕ → ℕ → ℕ → ℕ → ℕ → Answer → Type 0
ClientOpenTold old new level blocks sources width profile answer =
    OpensHandle (Sessions.ClientOpens level blocks sources width profile) old new answer

-- C opens a manager of links with a profile
abbrev pub ManagerOpenTold : Option Session → Option Session → List LinkConfig → ℕ → ℕ → ℕ → ℕ → Answer → Type 0
ManagerOpenTold old new links blocks trackers width profile answer =
    OpensHandle (Sessions.ManagerOpens links blocks trackers width profile) old new answer

-- C opens a manager of links with liberties and sources of Probes
abbrev pub ManagerOpenUnderTold : Option Session → Option Session → List LinkConfig → ℕ → ℕ → ℕ → ℕ → List ℕ → Answer
    → Type 0
ManagerOpenUnderTold old new links blocks trackers width liberties sources answer =
    OpensHandle (Sessions.ManagerOpensUnder links blocks trackers width liberties sources) old new answer

-- P is true of the session before and after; an empty handle is refused, and stays empty
abbrev pub OnHandle : (Session → Session → Type 0) → Type 0 → Option Session → Option Session → Type 0
OnHandle P refused (Some old) (Some new) = P old new
OnHandle P refused None new = refused × (new ≡ None)
OnHandle _ _ _ _ = ⊥

-- ---- monitors

-- C pushes the beat of a picture to a monitor
abbrev pub PushTold : ℕ → Picture → Answer → Option Session → Option Session → Type 0
PushTold link x answer old new = OnHandle (Sessions.PushSession link x answer) (answer ≡ bad) old new

-- C tries the beat of a picture at a monitor, which stays open or closed as it was
abbrev pub TryTold : ℕ → Picture → Answer → Option Session → Option Session → Type 0
TryTold link x answer old new = OnHandle (Sessions.TrySession link x answer) (answer ≡ bad) old new

-- C pushes a line of a trace to a monitor
abbrev pub LineTold : List ℕ → Answer → Option Session → Option Session → Type 0
LineTold line answer old new = OnHandle (Sessions.LineSession line answer) (answer ≡ bad) old new

-- C asks for the number of a link's entries, and the monitor stays as it was
abbrev pub EntriesTold : ℕ → ℕ → ℕ → Answer → Option Session → Option Session → Type 0
EntriesTold link was now answer old new = OnHandle (λ s u. Sessions.EntriesSession link was now answer s × (u ≡ s))
    (IsBad answer was now) old new

-- ---- judges of all links

-- C pushes the beat of a picture to a judge
abbrev pub JudgeTold : ℕ → Picture → Answer → Option Session → Option Session → Type 0
JudgeTold link x answer old new = OnHandle (Sessions.JudgesSession link x answer) (answer ≡ bad) old new

-- C tries the beat of a picture at a judge, which stays open or closed as it was
abbrev pub JudgeTryTold : ℕ → Picture → Answer → Option Session → Option Session → Type 0
JudgeTryTold link x answer old new = OnHandle (Sessions.TriesSession link x answer) (answer ≡ bad) old new

-- C pushes a line of a trace to a judge
abbrev pub JudgeLineTold : List ℕ → Answer → Option Session → Option Session → Type 0
JudgeLineTold line answer old new = OnHandle (Sessions.JudgesLineSession line answer) (answer ≡ bad) old new

-- C pushes the commit of a picture to a judge, of beats of any width
abbrev pub CommitTold : ℕ → CommitPicture → Answer → Option Session → Option Session → Type 0
CommitTold link x answer old new = OnHandle (CommitsWide link x answer) (answer ≡ bad) old new

-- C tries the commit of a picture at a judge, which stays open or closed as it was
abbrev pub TryCommitTold : ℕ → CommitPicture → Answer → Option Session → Option Session → Type 0
TryCommitTold link x answer old new = OnHandle (Sessions.CommitsSession false link x answer) (answer ≡ bad) old new

-- ---- wide beats

-- C pushes the wide beat of a picture to a monitor
abbrev pub WidePushTold : ℕ → WidePicture → Answer → Option Session → Option Session → Type 0
WidePushTold link x answer old new = OnHandle (MonitorsWide link x answer) (answer ≡ bad) old new

-- C pushes the wide beat of a picture to a judge
abbrev pub WideJudgeTold : ℕ → WidePicture → Answer → Option Session → Option Session → Type 0
WideJudgeTold link x answer old new = OnHandle (JudgesWide link x answer) (answer ≡ bad) old new

-- ---- covers

-- C pushes the beat of a picture to a covering
abbrev pub CountTold : ℕ → Picture → Answer → Option Session → Option Session → Type 0
CountTold link x answer old new = OnHandle (CountsSession link x answer) (answer ≡ bad) old new

-- C asks for the tally of a situation, and the covering stays as it was
abbrev pub TallyTold : ℕ → Tally → Tally → Answer → Option Session → Option Session → Type 0
TallyTold situation was tally answer old new = OnHandle (λ s u. TallySession situation was tally answer s × (u ≡ s))
    (IsBad answer was tally) old new

-- C asks for the tally of a bin on a link, and the covering stays as it was
abbrev pub BinTold : ℕ → ℕ → BinTally → BinTally → Answer → Option Session → Option Session → Type 0
BinTold link bin was tally answer old new = OnHandle (λ s u. BinSession link bin was tally answer s × (u ≡ s))
    (IsBad answer was tally) old new

-- ---- clients

-- C asks a client for an operation
abbrev pub AskTold : Operation → Outcome → Outcome → Answer → Option Session → Option Session → Type 0
AskTold x was now answer old new = OnHandle (Sessions.AsksSession x was now answer) (IsBad answer was now) old
    new

-- C offers a client the beat of a picture
abbrev pub OfferTold : Picture → Reception → Reception → Answer → Option Session → Option Session → Type 0
OfferTold x was now answer old new = OnHandle (Sessions.OffersSession x was now answer) (IsBad answer was now)
    old new

-- C asks if a client would stall a beat, and the client stays as it was
abbrev pub StallsTold : Picture → ℕ → ℕ → Answer → Option Session → Option Session → Type 0
StallsTold x was now answer old new = OnHandle (λ s u. Sessions.StallsSession x was now answer s × (u ≡ s))
    (IsBad answer was now) old new

-- C asks for the next beat of a client on a channel, and the client stays as it was
abbrev pub NextTold : ℕ → Picture → Picture → Answer → Option Session → Option Session → Type 0
NextTold channel was now answer old new = OnHandle (λ s u. Sessions.NextSession channel was now answer s × (u ≡ s))
    (IsBad answer was now) old new

-- C pops the next beat of a client on a channel
abbrev pub PopTold : ℕ → Picture → Picture → Answer → Option Session → Option Session → Type 0
PopTold channel was now answer old new = OnHandle (Sessions.PopSession channel was now answer)
    (IsBad answer was now) old new

-- C asks for the permission that a client holds of a block, and the client stays as it was
abbrev pub HeldTold : ℕ → ℕ → ℕ → Answer → Option Session → Option Session → Type 0
HeldTold block was now answer old new = OnHandle (λ s u. Sessions.HeldSession block was now answer s × (u ≡ s))
    (IsBad answer was now) old new

-- C asks for a client's copy of a block, and the client stays as it was
abbrev pub CopyTold : ℕ → List ℕ → List ℕ → Answer → Option Session → Option Session → Type 0
CopyTold block was now answer old new = OnHandle (λ s u. Sessions.CopySession block was now answer s × (u ≡ s))
    (IsBad answer was now) old new

-- C asks if a client is closed, and the client stays as it was
abbrev pub ClosedTold : ℕ → ℕ → Answer → Option Session → Option Session → Type 0
ClosedTold was now answer old new = OnHandle (λ s u. Sessions.ClosedSession was now answer s × (u ≡ s))
    (IsBad answer was now) old new

-- ---- managers

-- C offers a manager the beat of a picture on a link
abbrev pub AdmitTold : ℕ → Picture → ℕ → ℕ → Answer → Option Session → Option Session → Type 0
AdmitTold link x was now answer old new = OnHandle (Sessions.AdmitsSession link x was now answer) (IsBad answer was now)
    old new

-- C asks if a manager would stall a beat on a link, and the manager stays as it was
abbrev pub StallsAtTold : ℕ → Picture → ℕ → ℕ → Answer → Option Session → Option Session → Type 0
StallsAtTold link x was now answer old new =
    OnHandle (λ s u. Sessions.StallsAtSession link x was now answer s × (u ≡ s)) (IsBad answer was now) old new

-- C asks for the next beat of a manager on a channel of a link, and the manager stays as it was
abbrev pub NextAtTold : ℕ → ℕ → Picture → Picture → Answer → Option Session → Option Session → Type 0
NextAtTold link channel was now answer old new =
    OnHandle (λ s u. Sessions.NextAtSession link channel was now answer s × (u ≡ s)) (IsBad answer was now) old new

-- C pops the next beat of a manager on a channel of a link
abbrev pub PopAtTold : ℕ → ℕ → Picture → Picture → Answer → Option Session → Option Session → Type 0
PopAtTold link channel was now answer old new = OnHandle (Sessions.PopAtSession link channel was now answer)
    (IsBad answer was now) old new

-- C asks if a link of a manager is closed, and the manager stays as it was
abbrev pub ClosedAtTold : ℕ → ℕ → ℕ → Answer → Option Session → Option Session → Type 0
ClosedAtTold link was now answer old new = OnHandle (λ s u. Sessions.ClosedAtSession link was now answer s × (u ≡ s))
    (IsBad answer was now) old new
