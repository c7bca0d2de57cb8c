-- The arguments from which C makes a monitor or a judge of wide beats, or a judge of these and commits, and sessions with
-- one.
use Rattle.std.specs.Prelude.{ℕ, Bool, true, false, ◌&&◌, ◌==◌, ◌≡◌, List, [], length, map, nat_le, Option, Some, None}
use Rattle.tl_pictures.specs.declared.answer.Answer.{Answer}
use Rattle.tl_pictures.specs.declared.commit.CommitPicture.{CommitPicture}
use Rattle.tl_pictures.specs.declared.wide.WidePicture.{WidePicture}
use Rattle.tl_pictures.specs.statement.Answer.{bad, ok}
use Rattle.tl_pictures.specs.statement.Codes.{are_flags, are_levels, is_flag, is_wide_width, level_at, liberties_at}
use Rattle.tl_wide.specs.statement.Width.{part_width}
use Rattle.tl_sessions.specs.declared.session.Session.{Session}
use Rattle.tl_sessions.specs.declared.session.Session.TheVariants as session
use Rattle.tl_sessions.specs.declared.shown.Shown.{Shown}
use Rattle.tl_sessions.specs.declared.shown.Shown.TheVariants as fields
use Rattle.tl_sessions.specs.declared.wide.AnyWide.{AnyWide}
use Rattle.tl_sessions.specs.declared.wide.AnyWide.TheVariants as wide
use Rattle.tl_sessions.specs.declared.wide.WideJudge.{WideJudge}
use Rattle.tl_sessions.specs.statement.EventsOpened.{completeness_at}
use Rattle.tl_sessions.specs.statement.Opened.{refusal}
use Rattle.tl_sessions.specs.statement.Sessions.{CommitsSession}
use Rattle.tl_sessions.specs.statement.Wide.{Judging, Alone, Together, WithCommits, KnowsWide, ToldWide}

-- the arguments fit: 1 to 16 levels and a width of 4, 8, 16, 32 or 64
abbrev pub may_open_wide : List ℕ → ℕ → Bool
may_open_wide codes width =
    nat_le 1 (length codes) && nat_le (length codes) 16 && are_levels codes && is_wide_width width

-- the same, and there is a flag for each level, and one for memory
abbrev pub may_open_wide_events : List ℕ → List ℕ → ℕ → ℕ → Bool
may_open_wide_events codes complete memory width =
    may_open_wide codes width && length complete == length codes && are_flags complete && is_flag memory

-- one that has these levels and liberties, and no events
abbrev pub IsFreshWide : (w : ℕ) → Judging → List ℕ → ℕ → WideJudge (part_width w) → Type 0
IsFreshWide w judging codes liberties s =
    KnowsWide {w = w} s judging (map level_at codes) (liberties_at liberties) [] None false

-- it has this width
abbrev pub IsFreshAny : Judging → List ℕ → ℕ → ℕ → AnyWide → Type 0
IsFreshAny judging codes width liberties (wide.Four s) = (width ≡ 4) × IsFreshWide 4 judging codes liberties s
IsFreshAny judging codes width liberties (wide.Eight s) = (width ≡ 8) × IsFreshWide 8 judging codes liberties s
IsFreshAny judging codes width liberties (wide.Sixteen s) = (width ≡ 16) × IsFreshWide 16 judging codes liberties s
IsFreshAny judging codes width liberties (wide.ThirtyTwo s) = (width ≡ 32) × IsFreshWide 32 judging codes liberties s
IsFreshAny judging codes width liberties (wide.SixtyFour s) = (width ≡ 64) × IsFreshWide 64 judging codes liberties s

-- the session holds a new monitor or judge of wide beats, or a new judge of these and commits
abbrev pub IsOpenedWide : Judging → List ℕ → ℕ → ℕ → Session → Type 0
IsOpenedWide Alone codes width liberties (session.WideMonitor s) = IsFreshAny Alone codes width liberties s
IsOpenedWide Together codes width liberties (session.WideJudge s) = IsFreshAny Together codes width liberties s
IsOpenedWide (WithCommits complete) codes width liberties (session.WideEvents s) =
    IsFreshAny (WithCommits complete) codes width liberties s
IsOpenedWide _ codes width liberties _ = ⊥

-- the result of opening one: a session, if the arguments fit, or a refusal
abbrev pub OpensWide : Bool → Judging → List ℕ → ℕ → ℕ → Option Session → Answer → Type 0
OpensWide may judging codes width liberties (Some s) answer =
    (answer ≡ ok) × (may ≡ true) × IsOpenedWide judging codes width liberties s
OpensWide may judging codes width liberties None answer = answer ≡ refusal may

-- the result of a call that opens a monitor with an empty handle
abbrev pub WideMonitorOpens : List ℕ → ℕ → ℕ → Option Session → Answer → Type 0
WideMonitorOpens codes width = OpensWide (may_open_wide codes width) Alone codes width

-- the result of a call that opens a judge of beats with an empty handle
abbrev pub WideJudgeOpens : List ℕ → ℕ → ℕ → Option Session → Answer → Type 0
WideJudgeOpens codes width = OpensWide (may_open_wide codes width) Together codes width

-- the result of a call that opens a judge of beats and commits with an empty handle
abbrev pub WideEventsOpen : List ℕ → List ℕ → ℕ → ℕ → ℕ → Option Session → Answer → Type 0
WideEventsOpen codes complete memory width =
    OpensWide (may_open_wide_events codes complete memory width) (WithCommits (completeness_at complete memory)) codes
    width

-- ---- sessions

-- the answer to the wide beat or the commit with these fields; the width stays
abbrev pub ToldAny : ℕ → Shown → Answer → AnyWide → AnyWide → Type 0
ToldAny link x answer (wide.Four old) (wide.Four new) = ToldWide 4 old new link x answer
ToldAny link x answer (wide.Eight old) (wide.Eight new) = ToldWide 8 old new link x answer
ToldAny link x answer (wide.Sixteen old) (wide.Sixteen new) = ToldWide 16 old new link x answer
ToldAny link x answer (wide.ThirtyTwo old) (wide.ThirtyTwo new) = ToldWide 32 old new link x answer
ToldAny link x answer (wide.SixtyFour old) (wide.SixtyFour new) = ToldWide 64 old new link x answer
ToldAny _ _ _ _ _ = ⊥

-- the answer of the session's monitor of wide beats; a session without one is refused, and stays
abbrev pub MonitorsWide : ℕ → WidePicture → Answer → Session → Session → Type 0
MonitorsWide link x answer (session.WideMonitor old) (session.WideMonitor new) =
    ToldAny link (fields.Beat x) answer old new
MonitorsWide link x answer (session.WideMonitor old) new = ⊥
MonitorsWide link x answer old new = (answer ≡ bad) × (new ≡ old)

-- the same of a session's judge of wide beats, or of these and commits
abbrev pub JudgesWide : ℕ → WidePicture → Answer → Session → Session → Type 0
JudgesWide link x answer (session.WideJudge old) (session.WideJudge new) = ToldAny link (fields.Beat x) answer old new
JudgesWide link x answer (session.WideJudge old) new = ⊥
JudgesWide link x answer (session.WideEvents old) (session.WideEvents new) = ToldAny link (fields.Beat x) answer old new
JudgesWide link x answer (session.WideEvents old) new = ⊥
JudgesWide link x answer old new = (answer ≡ bad) × (new ≡ old)

-- the answer of the session's judge of commits to a commit, which closes it if it breaks a rule
abbrev pub CommitsWide : ℕ → CommitPicture → Answer → Session → Session → Type 0
CommitsWide link x answer (session.WideEvents old) (session.WideEvents new) =
    ToldAny link (fields.Commit x) answer old new
CommitsWide link x answer (session.WideEvents old) new = ⊥
CommitsWide link x answer old new = CommitsSession true link x answer old new
