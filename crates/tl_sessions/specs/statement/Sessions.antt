-- The calls of C on a monitor, a judge, a client or a manager that a session holds.
use Rattle.std.specs.Prelude.{ℕ, Bool, List, ◌≡◌, true, false, Option, Some, None}
use Rattle.tl_monitor.specs.declared.monitor.Monitor.{Monitor}
use Rattle.tl_together.specs.declared.judge.Judge.{Judge}
use Rattle.tl_ports.specs.declared.client.ClientPort.{ClientPort}
use Rattle.tl_pictures.specs.declared.answer.Answer.{Answer}
use Rattle.tl_ports.specs.declared.manager.ManagerPort.{ManagerPort}
use Rattle.tl_sessions.specs.declared.client.AnyPort.TheVariants as port
use Rattle.tl_sessions.specs.declared.event_judge.AnyEventJudge.TheVariants as events
use Rattle.tl_sessions.specs.declared.event_judge.EventJudge.{EventJudge}
use Rattle.tl_sessions.specs.declared.judge.AnyJudge.TheVariants as judge
use Rattle.tl_sessions.specs.declared.manager.AnyManager.TheVariants as manager
use Rattle.tl_sessions.specs.declared.monitor.AnyMonitor.TheVariants as monitor
use Rattle.tl_pictures.specs.declared.commit.CommitPicture.{CommitPicture}
use Rattle.tl_pictures.specs.declared.config.LinkConfig.{LinkConfig}
use Rattle.tl_pictures.specs.declared.operation.Operation.{Operation}
use Rattle.tl_pictures.specs.declared.outcome.Outcome.{Outcome}
use Rattle.tl_pictures.specs.declared.outcome.Reception.{Reception}
use Rattle.tl_pictures.specs.declared.picture.Picture.{Picture}
use Rattle.tl_sessions.specs.declared.session.Session.{Session}
use Rattle.tl_sessions.specs.declared.session.Session.TheVariants as session
use Rattle.tl_pictures.specs.statement.Answer.{ok, bad, IsBad}
use Rattle.tl_sessions.specs.statement.Client.{Asked, OfferedOf, Stalls, Shows, Pops, Holds, Copies, Closed}
use Rattle.tl_sessions.specs.statement.ClientOpened.{may_open_client, IsFreshClient}
use Rattle.tl_sessions.specs.statement.Events.{ToldOfBeat, ToldOfCommit, ToldOfEventLine}
use Rattle.tl_sessions.specs.statement.Judged as told
use Rattle.tl_sessions.specs.statement.Judged.{ToldOf, ToldOfLine, EntriesOf}
use Rattle.tl_sessions.specs.statement.Manager.{Admitted, StallsAt, ShowsAt, PopsAt, ClosedAt}
use Rattle.tl_sessions.specs.statement.ManagerOpened.{may_open_manager, may_open_manager_under, profile_code, terms_at}
use Rattle.tl_sessions.specs.statement.ManagerOpened.{IsFreshManager, IsFreshManagerUnder}
use Rattle.tl_sessions.specs.statement.Opened.{may_open, may_open_under, refusal}
use Rattle.tl_sessions.specs.statement.Together as together
use Rattle.tl_sessions.specs.statement.Together.{ToldTogether, ToldOfLineTogether}
use Rattle.tl_sessions.specs.statement.TogetherOpened.{IsFreshJudge}
use Rattle.tl_params.specs.declared.liberties.Liberties.{Liberties}
use Rattle.tl_params.specs.statement.Liberties.{liberties_of}
use Rattle.tl_partner.specs.declared.terms.Terms.{Terms}
use Rattle.tl_pictures.specs.statement.Codes.{liberties_at, profile_at}

-- ---- monitors

-- P is true of the monitor before and after, of the same width. A session without a monitor is refused, and stays.
abbrev pub OnMonitor : ((w : ℕ) → Monitor w → Monitor w → Type 0) → Type 0 → Session → Session → Type 0
OnMonitor P refused (session.Monitor (monitor.Four old)) (session.Monitor (monitor.Four new)) = P 4 old new
OnMonitor P refused (session.Monitor (monitor.Eight old)) (session.Monitor (monitor.Eight new)) = P 8 old new
OnMonitor P refused (session.Monitor (monitor.Sixteen old)) (session.Monitor (monitor.Sixteen new)) = P 16 old new
OnMonitor P refused (session.Client old) new = refused × (new ≡ session.Client old)
OnMonitor P refused (session.Manager old) new = refused × (new ≡ session.Manager old)
OnMonitor P refused (session.Judge old) new = refused × (new ≡ session.Judge old)
OnMonitor P refused (session.Covering old) new = refused × (new ≡ session.Covering old)
OnMonitor P refused (session.WideMonitor old) new = refused × (new ≡ session.WideMonitor old)
OnMonitor P refused (session.WideJudge old) new = refused × (new ≡ session.WideJudge old)
OnMonitor P refused (session.WideEvents old) new = refused × (new ≡ session.WideEvents old)
OnMonitor P refused (session.Events old) new = refused × (new ≡ session.Events old)
OnMonitor _ _ _ _ = ⊥

-- the session's monitor judges the beat of this picture; a broken rule closes it
abbrev pub PushSession : ℕ → Picture → Answer → Session → Session → Type 0
PushSession link x answer old new = OnMonitor (λ w m n. ToldOf told.stops m n link x answer) (answer ≡ bad) old new

-- the session's monitor judges the beat of this picture, and stays open or closed as it was
abbrev pub TrySession : ℕ → Picture → Answer → Session → Session → Type 0
TrySession link x answer old new = OnMonitor (λ w m n. ToldOf told.goes_on m n link x answer) (answer ≡ bad) old new

-- the session's monitor judges a line of a trace
abbrev pub LineSession : List ℕ → Answer → Session → Session → Type 0
LineSession line answer old new = OnMonitor (λ w m n. ToldOfLine m n line answer) (answer ≡ bad) old new

-- the number of entries of a link of the session's monitor
abbrev pub EntriesSession : ℕ → ℕ → ℕ → Answer → Session → Type 0
EntriesSession link was entries answer s =
    OnMonitor (λ w m n. EntriesOf m link was entries answer) (IsBad answer was entries) s s

-- ---- judges of all links

-- the session holds a new judge of this width
abbrev pub IsOpenedJudge : List ℕ → ℕ → Liberties → Session → Type 0
IsOpenedJudge codes width l (session.Judge (judge.Four j)) = (width ≡ 4) × IsFreshJudge codes l j
IsOpenedJudge codes width l (session.Judge (judge.Eight j)) = (width ≡ 8) × IsFreshJudge codes l j
IsOpenedJudge codes width l (session.Judge (judge.Sixteen j)) = (width ≡ 16) × IsFreshJudge codes l j
IsOpenedJudge codes width l _ = ⊥

-- the result of opening a judge of links with these liberties: a session, if the arguments fit, or a refusal
abbrev pub OpensJudge : List ℕ → ℕ → Liberties → Bool → Option Session → Answer → Type 0
OpensJudge codes width l may (Some s) answer = (answer ≡ ok) × (may ≡ true) × IsOpenedJudge codes width l s
OpensJudge codes width l may None answer = answer ≡ refusal may

-- the result of a call that opens a judge with an empty handle, of links with a profile
abbrev pub JudgeOpens : List ℕ → ℕ → ℕ → Option Session → Answer → Type 0
JudgeOpens codes width profile =
    OpensJudge codes width (liberties_of (profile_at profile)) (may_open codes width profile)

-- the result of a call that opens a judge with an empty handle, of links with liberties
abbrev pub JudgeOpensUnder : List ℕ → ℕ → ℕ → Option Session → Answer → Type 0
JudgeOpensUnder codes width liberties =
    OpensJudge codes width (liberties_at liberties) (may_open_under codes width)

-- P is true of the judge before and after, of the same width, or Q if it judges beats and commits. A session without a
-- judge is refused, and stays.
abbrev pub OnJudge : ((w : ℕ) → Judge w → Judge w → Type 0) → ((w : ℕ) → EventJudge w → EventJudge w → Type 0) → Type 0
    → Session → Session → Type 0
OnJudge P Q refused (session.Judge (judge.Four old)) (session.Judge (judge.Four new)) = P 4 old new
OnJudge P Q refused (session.Judge (judge.Eight old)) (session.Judge (judge.Eight new)) = P 8 old new
OnJudge P Q refused (session.Judge (judge.Sixteen old)) (session.Judge (judge.Sixteen new)) = P 16 old new
OnJudge P Q refused (session.Events (events.Four old)) (session.Events (events.Four new)) = Q 4 old new
OnJudge P Q refused (session.Events (events.Eight old)) (session.Events (events.Eight new)) = Q 8 old new
OnJudge P Q refused (session.Events (events.Sixteen old)) (session.Events (events.Sixteen new)) = Q 16 old new
OnJudge P Q refused (session.Monitor old) new = refused × (new ≡ session.Monitor old)
OnJudge P Q refused (session.Client old) new = refused × (new ≡ session.Client old)
OnJudge P Q refused (session.Manager old) new = refused × (new ≡ session.Manager old)
OnJudge P Q refused (session.Covering old) new = refused × (new ≡ session.Covering old)
OnJudge P Q refused (session.WideMonitor old) new = refused × (new ≡ session.WideMonitor old)
OnJudge P Q refused (session.WideJudge old) new = refused × (new ≡ session.WideJudge old)
OnJudge P Q refused (session.WideEvents old) new = refused × (new ≡ session.WideEvents old)
OnJudge _ _ _ _ _ = ⊥

-- the session's judge judges the beat of this picture; a broken rule closes it
abbrev pub JudgesSession : ℕ → Picture → Answer → Session → Session → Type 0
JudgesSession link x answer old new =
    OnJudge (λ w j k. ToldTogether together.stops j k link x answer) (λ w j k. ToldOfBeat true j k link x answer)
    (answer ≡ bad) old new

-- the session's judge judges the beat of this picture, and stays open or closed as it was
abbrev pub TriesSession : ℕ → Picture → Answer → Session → Session → Type 0
TriesSession link x answer old new =
    OnJudge (λ w j k. ToldTogether together.goes_on j k link x answer) (λ w j k. ToldOfBeat false j k link x answer)
    (answer ≡ bad) old new

-- the session's judge judges a line of a trace
abbrev pub JudgesLineSession : List ℕ → Answer → Session → Session → Type 0
JudgesLineSession line answer old new =
    OnJudge (λ w j k. ToldOfLineTogether j k line answer) (λ w j k. ToldOfEventLine j k line answer) (answer ≡ bad) old new

-- The session's judge of beats and commits judges the commit of this picture; a broken rule closes it if it stops it. A
-- judge of beats alone is refused, and stays.
abbrev pub CommitsSession : Bool → ℕ → CommitPicture → Answer → Session → Session → Type 0
CommitsSession stops link x answer old new =
    OnJudge (λ w j k. IsBad answer j k) (λ w j k. ToldOfCommit stops j k link x answer) (answer ≡ bad) old new

-- ---- clients

-- the session holds a new client of this width
abbrev pub IsOpenedClient : ℕ → ℕ → ℕ → ℕ → ℕ → Session → Type 0
IsOpenedClient level blocks sources width profile (session.Client (port.Four p)) =
    (width ≡ 4) × IsFreshClient level blocks sources profile p
IsOpenedClient level blocks sources width profile (session.Client (port.Eight p)) =
    (width ≡ 8) × IsFreshClient level blocks sources profile p
IsOpenedClient level blocks sources width profile (session.Client (port.Sixteen p)) =
    (width ≡ 16) × IsFreshClient level blocks sources profile p
IsOpenedClient level blocks sources width profile _ = ⊥

-- the result of a call that opens a client with an empty handle: the session that it opens, if any, and the answer
abbrev pub ClientOpens : ℕ → ℕ → ℕ → ℕ → ℕ → Option Session → Answer → Type 0
ClientOpens level blocks sources width profile (Some s) answer =
    (answer ≡ ok) × (may_open_client level blocks sources width profile ≡ true) × IsOpenedClient level blocks sources
    width profile s
ClientOpens level blocks sources width profile None answer =
    answer ≡ refusal (may_open_client level blocks sources width profile)

-- P is true of the client before and after, of the same width. A session without a client is refused, and stays.
abbrev pub OnClient : ((w : ℕ) → ClientPort w → ClientPort w → Type 0) → Type 0 → Session → Session → Type 0
OnClient P refused (session.Client (port.Four old)) (session.Client (port.Four new)) = P 4 old new
OnClient P refused (session.Client (port.Eight old)) (session.Client (port.Eight new)) = P 8 old new
OnClient P refused (session.Client (port.Sixteen old)) (session.Client (port.Sixteen new)) = P 16 old new
OnClient P refused (session.Monitor old) new = refused × (new ≡ session.Monitor old)
OnClient P refused (session.Manager old) new = refused × (new ≡ session.Manager old)
OnClient P refused (session.Judge old) new = refused × (new ≡ session.Judge old)
OnClient P refused (session.Covering old) new = refused × (new ≡ session.Covering old)
OnClient P refused (session.WideMonitor old) new = refused × (new ≡ session.WideMonitor old)
OnClient P refused (session.WideJudge old) new = refused × (new ≡ session.WideJudge old)
OnClient P refused (session.WideEvents old) new = refused × (new ≡ session.WideEvents old)
OnClient P refused (session.Events old) new = refused × (new ≡ session.Events old)
OnClient _ _ _ _ = ⊥

-- the session's client is asked for an operation
abbrev pub AsksSession : Operation → Outcome → Outcome → Answer → Session → Session → Type 0
AsksSession x was outcome answer old new =
    OnClient (λ w p q. Asked w p q x was outcome answer) (IsBad answer was outcome) old new

-- the session's client is offered the beat of this picture
abbrev pub OffersSession : Picture → Reception → Reception → Answer → Session → Session → Type 0
OffersSession x was reception answer old new =
    OnClient (λ w p q. OfferedOf w p q x was reception answer) (IsBad answer was reception) old new

-- the session's client would stall the beat of this picture, as a flag
abbrev pub StallsSession : Picture → ℕ → ℕ → Answer → Session → Type 0
StallsSession x was stalled answer s = OnClient (λ w p q. Stalls w p x was stalled answer) (IsBad answer was stalled) s
    s

-- the picture shows the next beat of the session's client on a channel
abbrev pub NextSession : ℕ → Picture → Picture → Answer → Session → Type 0
NextSession channel was beat answer s = OnClient (λ w p q. Shows w p channel was beat answer) (IsBad answer was beat) s
    s

-- the picture shows the next beat of the session's client on a channel, and the beat is removed
abbrev pub PopSession : ℕ → Picture → Picture → Answer → Session → Session → Type 0
PopSession channel was beat answer old new =
    OnClient (λ w p q. Pops w p q channel was beat answer) (IsBad answer was beat) old new

-- the number is the permission that the session's client holds of the block
abbrev pub HeldSession : ℕ → ℕ → ℕ → Answer → Session → Type 0
HeldSession block was perm answer s = OnClient (λ w p q. Holds w p block perm answer) (IsBad answer was perm) s s

-- the bytes are the copy of the block that the session's client has
abbrev pub CopySession : ℕ → List ℕ → List ℕ → Answer → Session → Type 0
CopySession block was bytes answer s = OnClient (λ w p q. Copies w p block was bytes answer) (IsBad answer was bytes) s
    s

-- the session's client is closed, as a flag
abbrev pub ClosedSession : ℕ → ℕ → Answer → Session → Type 0
ClosedSession was closed answer s = OnClient (λ w p q. Closed w p closed answer) (IsBad answer was closed) s s

-- ---- managers

-- the session holds a new manager of this width
abbrev pub IsOpenedManager : List LinkConfig → ℕ → ℕ → ℕ → ℕ → Session → Type 0
IsOpenedManager links blocks trackers width profile (session.Manager (manager.Four p)) =
    (width ≡ 4) × IsFreshManager links blocks trackers profile p
IsOpenedManager links blocks trackers width profile (session.Manager (manager.Eight p)) =
    (width ≡ 8) × IsFreshManager links blocks trackers profile p
IsOpenedManager links blocks trackers width profile (session.Manager (manager.Sixteen p)) =
    (width ≡ 16) × IsFreshManager links blocks trackers profile p
IsOpenedManager links blocks trackers width profile _ = ⊥

-- the result of a call that opens a manager with an empty handle: the session that it opens, if any, and the answer
abbrev pub ManagerOpens : List LinkConfig → ℕ → ℕ → ℕ → ℕ → Option Session → Answer → Type 0
ManagerOpens links blocks trackers width profile (Some s) answer =
    (answer ≡ ok) × (may_open_manager links blocks trackers width profile ≡ true) × IsOpenedManager links blocks
    trackers width profile s
ManagerOpens links blocks trackers width profile None answer =
    answer ≡ refusal (may_open_manager links blocks trackers width profile)

-- the session holds a new manager of this width, which grants its clients these terms
abbrev pub IsOpenedManagerUnder : List LinkConfig → ℕ → ℕ → ℕ → ℕ → Terms → Session → Type 0
IsOpenedManagerUnder links blocks trackers width profile terms (session.Manager (manager.Four p)) =
    (width ≡ 4) × IsFreshManagerUnder links blocks trackers profile terms p
IsOpenedManagerUnder links blocks trackers width profile terms (session.Manager (manager.Eight p)) =
    (width ≡ 8) × IsFreshManagerUnder links blocks trackers profile terms p
IsOpenedManagerUnder links blocks trackers width profile terms (session.Manager (manager.Sixteen p)) =
    (width ≡ 16) × IsFreshManagerUnder links blocks trackers profile terms p
IsOpenedManagerUnder links blocks trackers width profile terms _ = ⊥

-- the result of opening a manager that grants these terms: a session, if the arguments fit, or a refusal
abbrev pub OpensManager : List LinkConfig → ℕ → ℕ → ℕ → ℕ → Terms → Bool → Option Session → Answer → Type 0
OpensManager links blocks trackers width profile terms may (Some s) answer =
    (answer ≡ ok) × (may ≡ true) × IsOpenedManagerUnder links blocks trackers width profile terms s
OpensManager links blocks trackers width profile terms may None answer = answer ≡ refusal may

-- the result of a call that opens a manager with an empty handle, of clients with liberties
abbrev pub ManagerOpensUnder : List LinkConfig → ℕ → ℕ → ℕ → ℕ → List ℕ → Option Session → Answer → Type 0
ManagerOpensUnder links blocks trackers width liberties sources =
    OpensManager links blocks trackers width (profile_code (liberties_at liberties)) (terms_at liberties sources)
    (may_open_manager_under links blocks trackers width liberties sources)

-- P is true of the manager before and after, of the same width. A session without a manager is refused, and stays.
abbrev pub OnManager : ((w : ℕ) → ManagerPort w → ManagerPort w → Type 0) → Type 0 → Session → Session → Type 0
OnManager P refused (session.Manager (manager.Four old)) (session.Manager (manager.Four new)) = P 4 old new
OnManager P refused (session.Manager (manager.Eight old)) (session.Manager (manager.Eight new)) = P 8 old new
OnManager P refused (session.Manager (manager.Sixteen old)) (session.Manager (manager.Sixteen new)) = P 16 old new
OnManager P refused (session.Monitor old) new = refused × (new ≡ session.Monitor old)
OnManager P refused (session.Client old) new = refused × (new ≡ session.Client old)
OnManager P refused (session.Judge old) new = refused × (new ≡ session.Judge old)
OnManager P refused (session.Covering old) new = refused × (new ≡ session.Covering old)
OnManager P refused (session.WideMonitor old) new = refused × (new ≡ session.WideMonitor old)
OnManager P refused (session.WideJudge old) new = refused × (new ≡ session.WideJudge old)
OnManager P refused (session.WideEvents old) new = refused × (new ≡ session.WideEvents old)
OnManager P refused (session.Events old) new = refused × (new ≡ session.Events old)
OnManager _ _ _ _ = ⊥

-- the session's manager is offered the beat of this picture on a link
abbrev pub AdmitsSession : ℕ → Picture → ℕ → ℕ → Answer → Session → Session → Type 0
AdmitsSession link x was taken answer old new =
    OnManager (λ w p q. Admitted w p q link x was taken answer) (IsBad answer was taken) old new

-- the session's manager would stall the beat of this picture on a link, as a flag
abbrev pub StallsAtSession : ℕ → Picture → ℕ → ℕ → Answer → Session → Type 0
StallsAtSession link x was stalled answer s =
    OnManager (λ w p q. StallsAt w p link x was stalled answer) (IsBad answer was stalled) s s

-- the picture shows the next beat of the session's manager on a channel of a link
abbrev pub NextAtSession : ℕ → ℕ → Picture → Picture → Answer → Session → Type 0
NextAtSession link channel was beat answer s =
    OnManager (λ w p q. ShowsAt w p link channel was beat answer) (IsBad answer was beat) s s

-- the picture shows the next beat of the session's manager on a channel of a link, and the beat is removed
abbrev pub PopAtSession : ℕ → ℕ → Picture → Picture → Answer → Session → Session → Type 0
PopAtSession link channel was beat answer old new =
    OnManager (λ w p q. PopsAt w p q link channel was beat answer) (IsBad answer was beat) old new

-- the link of the session's manager is closed, as a flag
abbrev pub ClosedAtSession : ℕ → ℕ → ℕ → Answer → Session → Type 0
ClosedAtSession link was closed answer s =
    OnManager (λ w p q. ClosedAt w p link was closed answer) (IsBad answer was closed) s s
