-- The arguments from which C makes a monitor, and the state of a new monitor.
use Rattle.std.specs.Prelude.{ℕ, Bool, true, false, ◌&&◌, ◌≡◌, ◌⊎◌, List, [], map, length, nat_le, Option, Some}
use Rattle.std.specs.Prelude.{None, Result, Ok, Err, if◌then◌else◌}
use Rattle.tl_params.specs.declared.config.NewFault.{NewFault}
use Rattle.tl_params.specs.declared.config.NewFault.TheVariants as fault
use Rattle.tl_params.specs.statement.Config.{IsCount}
use Rattle.tl_monitor.specs.declared.monitor.Monitor.{Monitor}
use Rattle.tl_monitor.specs.statement.Knows.{Knows, KnowsUnder}
use Rattle.tl_pictures.specs.declared.answer.Answer.{Answer}
use Rattle.tl_sessions.specs.declared.monitor.AnyMonitor.TheVariants as any
use Rattle.tl_sessions.specs.declared.session.Session.{Session}
use Rattle.tl_sessions.specs.declared.session.Session.TheVariants as session
use Rattle.tl_pictures.specs.statement.Answer.{ok, bad, no_memory}
use Rattle.tl_pictures.specs.statement.Codes.{level_at, liberties_at, profile_at, are_levels, is_width, is_profile}

-- the arguments fit: 1 to 16 levels, a width and a profile
abbrev pub may_open : List ℕ → ℕ → ℕ → Bool
may_open codes width profile =
    nat_le 1 (length codes) && nat_le (length codes) 16 && are_levels codes && is_width width && is_profile
    profile

-- a new monitor has these levels and this profile, and no beats
abbrev pub IsFresh : {w : ℕ} → List ℕ → ℕ → Monitor w → Type 0
IsFresh codes profile m = Knows m (map level_at codes) (profile_at profile) [] false

-- the answer if nothing is opened: out of memory if the arguments fit, otherwise bad input
abbrev pub refusal : Bool → Answer
refusal may = if may then no_memory else bad

-- the answer if nothing is made: out of memory, or bad input, which is given only if the arguments don't fit
abbrev pub IsRefusal : Type 0 → Answer → Type 0
IsRefusal Fits answer = (answer ≡ no_memory) ⊎ ((answer ≡ bad) × ¬ Fits)

-- the answer to a client or a manager that can't be made for this reason
abbrev pub new_answer : NewFault → Answer
new_answer fault.Memory = no_memory
new_answer _ = bad

-- the result of making a monitor: a new one, or a refusal
abbrev pub Makes : {w : ℕ} → List ℕ → ℕ → Result (Monitor w) Answer → Type 0
Makes codes profile (Ok m) = IsFresh codes profile m
Makes codes profile (Err answer) = IsRefusal (IsCount (length codes)) answer

-- the session holds a new monitor of this width
abbrev pub IsOpened : List ℕ → ℕ → ℕ → Session → Type 0
IsOpened codes width profile (session.Monitor (any.Four m)) = (width ≡ 4) × IsFresh codes profile m
IsOpened codes width profile (session.Monitor (any.Eight m)) = (width ≡ 8) × IsFresh codes profile m
IsOpened codes width profile (session.Monitor (any.Sixteen m)) = (width ≡ 16) × IsFresh codes profile m
IsOpened codes width profile _ = ⊥

-- the result of a call that opens a monitor with an empty handle: the session that it opens, if any, and the answer
abbrev pub OpensTo : List ℕ → ℕ → ℕ → Option Session → Answer → Type 0
OpensTo codes width profile (Some s) answer = (answer ≡ ok) × (may_open codes width profile ≡ true)
    × IsOpened codes width profile s
OpensTo codes width profile None answer = answer ≡ refusal (may_open codes width profile)

-- ---- under liberties

-- the arguments fit: 1 to 16 levels and a width
abbrev pub may_open_under : List ℕ → ℕ → Bool
may_open_under codes width = nat_le 1 (length codes) && nat_le (length codes) 16 && are_levels codes && is_width width

-- a new monitor has these levels and liberties, and no beats
abbrev pub IsFreshUnder : {w : ℕ} → List ℕ → ℕ → Monitor w → Type 0
IsFreshUnder codes liberties m = KnowsUnder m (map level_at codes) (liberties_at liberties) [] false

-- the result of making a monitor with liberties: a new one, or a refusal
abbrev pub MakesUnder : {w : ℕ} → List ℕ → ℕ → Result (Monitor w) Answer → Type 0
MakesUnder codes liberties (Ok m) = IsFreshUnder codes liberties m
MakesUnder codes liberties (Err answer) = IsRefusal (IsCount (length codes)) answer

-- the session holds a new monitor of this width with these liberties
abbrev pub IsOpenedUnder : List ℕ → ℕ → ℕ → Session → Type 0
IsOpenedUnder codes width liberties (session.Monitor (any.Four m)) = (width ≡ 4) × IsFreshUnder codes liberties m
IsOpenedUnder codes width liberties (session.Monitor (any.Eight m)) = (width ≡ 8) × IsFreshUnder codes liberties m
IsOpenedUnder codes width liberties (session.Monitor (any.Sixteen m)) = (width ≡ 16) × IsFreshUnder codes liberties m
IsOpenedUnder codes width liberties _ = ⊥

-- the same as `OpensTo`, for a monitor of links with liberties
abbrev pub OpensUnder : List ℕ → ℕ → ℕ → Option Session → Answer → Type 0
OpensUnder codes width liberties (Some s) answer = (answer ≡ ok) × (may_open_under codes width ≡ true)
    × IsOpenedUnder codes width liberties s
OpensUnder codes width liberties None answer = answer ≡ refusal (may_open_under codes width)

-- the session that was made, if any
abbrev pub ok_of : Result Session Answer → Option Session
ok_of (Ok s) = Some s
ok_of (Err answer) = None

-- the answer to a call that makes a session
abbrev pub answer_in : Result Session Answer → Answer
answer_in (Ok s) = ok
answer_in (Err answer) = answer
