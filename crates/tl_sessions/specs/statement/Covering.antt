-- The calls of C on a covering, which counts the situations of links.
use Rattle.std.specs.Prelude.{ℕ, Bool, ◌≡◌, ◌⊎◌, true, false, List, [], map, length, slice_get, unwrap_or, ⊤}
use Rattle.std.specs.Prelude.{Option, Some, None, Result, Ok, Err}
use Rattle.tl_beat.specs.declared.beat.Beat.{Beat}
use Rattle.tl_beat.specs.declared.beat.Link.{Link}
use Rattle.tl_cover.specs.declared.covering.Covering.{Covering}
use Rattle.tl_cover.specs.declared.row.LinkBin.{LinkBin}
use Rattle.tl_cover.specs.declared.row.Row.{Row}
use Rattle.tl_cover.specs.declared.situation.Situation.{Situation}
use Rattle.tl_cover.specs.statement.Covered.{bin_on}
use Rattle.tl_cover.specs.statement.Covers.{Covers, CoversAfter, bin_in, rows_in}
use Rattle.tl_cover.specs.statement.Names.{name, sentence}
use Rattle.tl_monitor.specs.declared.fault.MonitorFault.{MonitorFault}
use Rattle.tl_monitor.specs.statement.Knows.{Answers, fault_under}
use Rattle.tl_params.specs.declared.level.Level.{Level}
use Rattle.tl_params.specs.declared.liberties.Liberties.{Liberties}
use Rattle.tl_params.specs.statement.Config.{IsCount}
use Rattle.tl_pictures.specs.declared.answer.Answer.{Answer}
use Rattle.tl_pictures.specs.declared.picture.Picture.{Picture}
use Rattle.tl_pictures.specs.statement.Answer.{answer_of, bad, ok, IsBad}
use Rattle.tl_pictures.specs.statement.Codes.{level_at, liberties_at, link_at}
use Rattle.tl_pictures.specs.statement.Depicted.{flag}
use Rattle.tl_pictures.specs.statement.Picture.{shown}
use Rattle.tl_pictures.specs.statement.Written.{IsWritten}
use Rattle.tl_rules.specs.statement.Conformance.{Trace}
use Rattle.tl_sessions.specs.declared.cover.AnyCovering.TheVariants as covering
use Rattle.tl_sessions.specs.declared.cover.BinTally.{BinTally}
use Rattle.tl_sessions.specs.declared.cover.Tally.{Tally}
use Rattle.tl_sessions.specs.declared.session.Session.{Session}
use Rattle.tl_sessions.specs.declared.session.Session.TheVariants as session
use Rattle.tl_sessions.specs.statement.Opened.{IsRefusal, may_open_under, refusal}

-- ---- a new covering

-- a new covering has these levels and liberties, and no beats
abbrev pub IsFreshCovering : {w : ℕ} → List ℕ → ℕ → Covering w → Type 0
IsFreshCovering codes liberties c = Covers c (map level_at codes) (liberties_at liberties) [] false

-- the result of making a covering: a new one, or a refusal
abbrev pub MakesCovering : {w : ℕ} → List ℕ → ℕ → Result (Covering w) Answer → Type 0
MakesCovering codes liberties (Ok c) = IsFreshCovering codes liberties c
MakesCovering codes liberties (Err answer) = IsRefusal (IsCount (length codes)) answer

-- the session holds a new covering of this width
abbrev pub IsOpenedCovering : List ℕ → ℕ → ℕ → Session → Type 0
IsOpenedCovering codes width liberties (session.Covering (covering.Four c)) =
    (width ≡ 4) × IsFreshCovering codes liberties c
IsOpenedCovering codes width liberties (session.Covering (covering.Eight c)) =
    (width ≡ 8) × IsFreshCovering codes liberties c
IsOpenedCovering codes width liberties (session.Covering (covering.Sixteen c)) =
    (width ≡ 16) × IsFreshCovering codes liberties c
IsOpenedCovering codes width liberties _ = ⊥

-- the result of a call that opens a covering with an empty handle: the session that it opens, if any, and the answer
abbrev pub OpensCovering : List ℕ → ℕ → ℕ → Option Session → Answer → Type 0
OpensCovering codes width liberties (Some s) answer = (answer ≡ ok) × (may_open_under codes width ≡ true)
    × IsOpenedCovering codes width liberties s
OpensCovering codes width liberties None answer = answer ≡ refusal (may_open_under codes width)

-- ---- beats

-- The beat was judged as a monitor judges it. The covering then covers the trace with the beat if it was taken.
pub record Counted {w : ℕ} (old new : Covering w) (x : Link × Beat w) (answer : Answer) : Type 0 where
  pub judged : Result ⊤ MonitorFault
  pub told : answer ≡ answer_of judged
  pub lawful : (levels : List Level) (l : Liberties) (t : Trace w) (closed : Bool) → Covers old levels l t closed
      → Answers (fault_under levels l t closed x) judged
  pub covers : (levels : List Level) (l : Liberties) (t : Trace w) (closed : Bool) → Covers old levels l t closed
      → CoversAfter judged new levels l x t

-- the covering judges and counts the beat on the link; None of either is bad input
abbrev pub CountsBeat : {w : ℕ} → Covering w → Covering w → Option Link → Option (Beat w) → Answer → Type 0
CountsBeat old new (Some link) (Some beat) answer = Counted old new (link, beat) answer
CountsBeat old new _ _ answer = IsBad answer old new

-- the covering judges and counts the beat of this picture, on the link with this number, 0 to 15
abbrev pub CountsOf : {w : ℕ} → Covering w → Covering w → ℕ → Picture → Answer → Type 0
CountsOf {w} old new link x answer = CountsBeat old new (link_at link) (shown w x) answer

-- ---- counts

-- the count of a situation, and its first line; 0 if it never came
abbrev pub tally_of : Row → Tally
tally_of r = record { count = r.count; line = unwrap_or r.first 0 }

-- the tally is that of the row; None is bad input
abbrev pub TallyIn : Option Row → Tally → Tally → Answer → Type 0
TallyIn None was tally answer = IsBad answer was tally
TallyIn (Some r) was tally answer = (answer ≡ ok) × (tally ≡ tally_of r)

-- the tally of the situation with this number; the situations are numbered from 0, in the order of the report
abbrev pub TallyOf : {w : ℕ} → Covering w → ℕ → Tally → Tally → Answer → Type 0
TallyOf c number was tally answer = TallyIn (slice_get (rows_in c) number) was tally answer

-- ---- the bins of a link's table

-- the tally of a bin on a link; the line is 0 if it never came, and `possible` is 1 if the link can have it, or had it
abbrev pub bin_tally_of : LinkBin → BinTally
bin_tally_of b = record { count = b.row.count; line = unwrap_or b.row.first 0; possible = flag b.possible }

-- the tally is that of the bin; None is bad input
abbrev pub BinIn : Option LinkBin → BinTally → BinTally → Answer → Type 0
BinIn None was tally answer = IsBad answer was tally
BinIn (Some b) was tally answer = (answer ≡ ok) × (tally ≡ bin_tally_of b)

-- The tally of the bin with this number on this link. It is that of the bin in the link's table, for every trace that
-- the covering covers. Bins are numbered from 0, in the order of the table.
pub record BinOf {w : ℕ} (c : Covering w) (link number : ℕ) (was tally : BinTally) (answer : Answer) : Type 0 where
  pub told : BinIn (bin_in c link number) was tally answer
  pub counted : (levels : List Level) (l : Liberties) (t : Trace w) (closed : Bool) → Covers c levels l t closed
      → BinIn (bin_on l levels link t number) was tally answer

-- ---- sessions

-- P is true of the covering before and after, of the same width. A session without a covering is refused, and stays.
abbrev pub OnCovering : ((w : ℕ) → Covering w → Covering w → Type 0) → Type 0 → Session → Session → Type 0
OnCovering P refused (session.Covering (covering.Four old)) (session.Covering (covering.Four new)) = P 4 old new
OnCovering P refused (session.Covering (covering.Eight old)) (session.Covering (covering.Eight new)) = P 8 old new
OnCovering P refused (session.Covering (covering.Sixteen old)) (session.Covering (covering.Sixteen new)) = P 16 old new
OnCovering P refused (session.Monitor old) new = refused × (new ≡ session.Monitor old)
OnCovering P refused (session.Judge old) new = refused × (new ≡ session.Judge old)
OnCovering P refused (session.Client old) new = refused × (new ≡ session.Client old)
OnCovering P refused (session.Manager old) new = refused × (new ≡ session.Manager old)
OnCovering P refused (session.WideMonitor old) new = refused × (new ≡ session.WideMonitor old)
OnCovering P refused (session.WideJudge old) new = refused × (new ≡ session.WideJudge old)
OnCovering P refused (session.WideEvents old) new = refused × (new ≡ session.WideEvents old)
OnCovering P refused (session.Events old) new = refused × (new ≡ session.Events old)
OnCovering _ _ _ _ = ⊥

-- the session's covering judges and counts the beat of this picture on this link
abbrev pub CountsSession : ℕ → Picture → Answer → Session → Session → Type 0
CountsSession link x answer old new = OnCovering (λ w c d. CountsOf c d link x answer) (answer ≡ bad) old new

-- the tally of the situation with this number, from the session's covering
abbrev pub TallySession : ℕ → Tally → Tally → Answer → Session → Type 0
TallySession number was tally answer s =
    OnCovering (λ w c d. TallyOf c number was tally answer) (IsBad answer was tally) s s

-- the tally of the bin with this number on this link, from the session's covering
abbrev pub BinSession : ℕ → ℕ → BinTally → BinTally → Answer → Session → Type 0
BinSession link number was tally answer s =
    OnCovering (λ w c d. BinOf c link number was tally answer) (IsBad answer was tally) s s

-- ---- names

-- the sentence of a situation; empty if there is none
abbrev pub sentence_of : Option Situation → List ℕ
sentence_of None = []
sentence_of (Some s) = sentence s

-- the sentence of the situation with this number in a list; empty if there is none
abbrev pub sentence_at : List Situation → ℕ → List ℕ
sentence_at all number = sentence_of (slice_get all number)

-- the name of a situation; empty if there is none
abbrev pub name_of : Option Situation → List ℕ
name_of None = []
name_of (Some s) = name s

-- the name is written, or nothing for want of memory
abbrev pub IsNameWritten : Option Situation → List ℕ → List ℕ → ℕ → Type 0
IsNameWritten found old new count = IsWritten (name_of found) old new count ⊎ ((count ≡ 0) × (new ≡ old))

-- the same of the situation with this number in a list; the name is empty if there is no such situation
abbrev pub IsNamed : List Situation → ℕ → List ℕ → List ℕ → ℕ → Type 0
IsNamed all number old new count = IsNameWritten (slice_get all number) old new count
