-- What the judge of the events that a wide event becomes answers, of whatever width they are; only private clauses cite
-- this.
use Rattle.std.specs.Prelude.{ℕ, Bool, true, false, ◌≡◌, ◌==◌, ◌&&◌, ◌⊎◌, List, [], ◌∷◌, length, map, Option, Some, None}
use Rattle.std.specs.Prelude.{Result, Ok, Err, ⊤}
use Rattle.std.specs.Str.{bytes_eq}
use Rattle.tl_beat.specs.declared.beat.Link.{Link}
use Rattle.tl_commits.specs.declared.rule.CommitBreach.{CommitBreach}
use Rattle.tl_commits.specs.statement.Events.{Events}
use Rattle.tl_events.specs.declared.commit.Event.{Event}
use Rattle.tl_params.specs.declared.level.Level.{Level}
use Rattle.tl_params.specs.declared.liberties.Liberties.{Liberties}
use Rattle.tl_params.specs.statement.Config.{IsCount}
use Rattle.tl_pictures.specs.declared.answer.Answer.{Answer}
use Rattle.tl_pictures.specs.declared.commit.CommitPicture.{CommitPicture}
use Rattle.tl_pictures.specs.declared.wide.WidePicture.{WidePicture}
use Rattle.tl_pictures.specs.statement.Answer.{breaks_commits, closed, no_memory, ok, too_many, IsBad}
use Rattle.tl_pictures.specs.statement.Codes.{level_at, liberties_at, link_at}
use Rattle.tl_wide.specs.statement.Naming.{is_beyond}
use Rattle.tl_wide.specs.statement.Narrowing.{Follows}
use Rattle.tl_wide.specs.statement.Width.{part_width}
use Rattle.tl_wide_events.specs.declared.commit.WideEvent.{WideEvent}
use Rattle.tl_wide_events.specs.declared.commit.WideEvent.TheVariants as wide
use Rattle.tl_wide_events.specs.statement.Narrowed.{WideEvents, events_of, names_of, with_events}
use Rattle.tl_wide_events.specs.statement.WideCommitLine.{IsWideCommit}
use Rattle.tl_sessions.specs.declared.part_judge.Left.{Left}
use Rattle.tl_sessions.specs.declared.part_judge.PartJudge.{PartJudge}
use Rattle.tl_sessions.specs.declared.part_judge.Verdict.{Verdict}
use Rattle.tl_sessions.specs.declared.part_judge.Verdict.TheVariants.{Taken, Broken, OutOfMemory}
use Rattle.tl_sessions.specs.declared.shown.Shown.{Shown}
use Rattle.tl_sessions.specs.declared.shown.Shown.TheVariants as fields
use Rattle.tl_sessions.specs.declared.wide.Begun.{Begun}
use Rattle.tl_sessions.specs.declared.wide.WideJudge.{WideJudge}
use Rattle.tl_sessions.specs.statement.Opened.{IsRefusal}
use Rattle.tl_sessions.specs.statement.Wide.{IsOf, IsValidLeft, Judging, KnowsParts, RunsOutAt, RunsOutAtEvent, breach_of}
use Rattle.tl_sessions.specs.statement.Wide.{event_shown, events_left, part_breach}

-- ---- the events that a wide event becomes

-- an event is taken, or it breaks this rule, or memory runs out at it; in both of these the trace stays
abbrev pub TakesEvent : {p : ℕ} {E : Type 0} → Judging → PartJudge p → List Level → Liberties → Events p → Link → Event p
    → Result (Option CommitBreach) E → Type 0
TakesEvent judging new levels l e link x (Ok None) =
    (breach_of judging levels l link x e ≡ None) × KnowsParts judging new levels l ((link, x) ∷ e)
TakesEvent judging new levels l e link x (Ok (Some breach)) = breach_of judging levels l link x e ≡ Some breach
TakesEvent judging new levels l e link x (Err refused) =
    KnowsParts judging new levels l e × RunsOutAtEvent judging levels l link x e

-- events that are left of these have the fault that these have, after what was taken
abbrev pub PartsLeft : {p : ℕ} → PartJudge p → PartJudge p → Link → List (Event p) → List (Event p) → Type 0
PartsLeft {p} old now link events rest =
    (judging : Judging) (levels : List Level) (l : Liberties) (e : Events p) → KnowsParts judging old levels l e
    → (u : Events p) × KnowsParts judging now levels l u
    × (part_breach judging levels l link events e ≡ part_breach judging levels l link rest u)
    × (with_events link events e ≡ with_events link rest u)

-- the same, and memory ran out at the first that is left
abbrev pub PartsStop : {p : ℕ} → PartJudge p → PartJudge p → Link → List (Event p) → List (Event p) → Type 0
PartsStop {p} old now link events rest =
    (judging : Judging) (levels : List Level) (l : Liberties) (e : Events p) → KnowsParts judging old levels l e
    → (u : Events p) × KnowsParts judging now levels l u
    × (part_breach judging levels l link events e ≡ part_breach judging levels l link rest u)
    × (with_events link events e ≡ with_events link rest u) × RunsOutAt judging levels l link rest u

-- all of these events are taken, or one breaks this rule, or there was no memory for the first that is left
abbrev pub TakesParts : {w p : ℕ} → PartJudge p → PartJudge p → Link → WideEvent w → List (Event p) → Verdict → Type 0
TakesParts {w} {p} old new link x events Taken =
    (judging : Judging) (levels : List Level) (l : Liberties) (e : Events p) → KnowsParts judging old levels l e
    → (part_breach judging levels l link events e ≡ None) × KnowsParts judging new levels l (with_events link events e)
TakesParts {w} {p} old new link x events (Broken breach) =
    (judging : Judging) (levels : List Level) (l : Liberties) (e : Events p) → KnowsParts judging old levels l e
    → part_breach judging levels l link events e ≡ Some breach
TakesParts {w} {p} old new link x events (OutOfMemory rest) =
    IsValidLeft rest × PartsStop old new link events (events_left rest x)

-- ---- a wide event

-- two pictures of beats have the same fields
abbrev pub is_same_beat : WidePicture → WidePicture → Bool
is_same_beat a b =
    bytes_eq a.lanes b.lanes && a.address == b.address && a.mask == b.mask && a.source == b.source && a.sink == b.sink
    && a.channel == b.channel && a.opcode == b.opcode && a.param == b.param && a.size == b.size && a.denied == b.denied
    && a.corrupt == b.corrupt

-- two pictures of commits have the same fields
abbrev pub is_same_commit : CommitPicture → CommitPicture → Bool
is_same_commit a b = a.value == b.value && a.address == b.address && a.kind == b.kind && a.size == b.size

-- the same of two beats, or of two commits
abbrev pub is_same : Shown → Shown → Bool
is_same (fields.Beat a) (fields.Beat b) = is_same_beat a b
is_same (fields.Commit a) (fields.Commit b) = is_same_commit a b
is_same (fields.Beat a) (fields.Commit b) = false
is_same (fields.Commit a) (fields.Beat b) = false

-- a commit is of a piece that a line can spell
abbrev pub IsWideEvent : {w : ℕ} → WideEvent w → Type 0
IsWideEvent (wide.Beat x) = ⊤
IsWideEvent (wide.Commit x) = IsWideCommit x

-- one that judges parts so, and has seen no event, or there is no memory for it
abbrev pub IsEmpty : {p : ℕ} → PartJudge p → Result (WideJudge p) Answer → Type 0
IsEmpty judge (Ok s) =
    (s.closed ≡ false) × (s.begun ≡ None) × (s.judge ≡ judge) × ((w : ℕ) → Follows {w = w} s.narrower.value [])
IsEmpty judge (Err answer) = answer ≡ no_memory

-- the event was begun, and this is left of it
abbrev pub GoesOn : {p : ℕ} → WideJudge p → WideJudge p → ℕ → Shown → Left → Type 0
GoesOn old new code x rest = (new ≡ old) × (old.begun ≡ Some (record { link = code; shown = x; rest = rest }))

-- the event begins, and all that it becomes is left
abbrev pub Begins : {w p : ℕ} → WideJudge p → WideJudge p → Link → WideEvent w → Left → Type 0
Begins {w} old new link x rest =
    (new.begun ≡ old.begun) × (new.judge ≡ old.judge) × (new.closed ≡ old.closed) × IsValidLeft rest
    × ((t : WideEvents w) → Follows old.narrower.value (names_of t)
    → (is_beyond link (names_of ((link, x) ∷ t)) ≡ false)
    × (events_left {p = part_width w} rest x ≡ events_of link x (names_of ((link, x) ∷ t)))
    × Follows new.narrower.value (names_of ((link, x) ∷ t)))

-- nothing is known to have changed
abbrev pub Stays : {w p : ℕ} → WideEvent w → WideJudge p → WideJudge p → Type 0
Stays {w} x old new = (new.begun ≡ old.begun) × (new.judge ≡ old.judge) × (new.closed ≡ old.closed)
    × ((t : WideEvents w) → Follows old.narrower.value (names_of t) → Follows new.narrower.value (names_of t))

-- what is left of an event that wasn't begun, or the reason why it can't be judged
abbrev pub BeginsEvent : {w p : ℕ} → WideJudge p → WideJudge p → Link → WideEvent w → Result Left Answer → Type 0
BeginsEvent old new link x (Ok rest) = Begins old new link x rest
BeginsEvent {w} old new link x (Err answer) =
    ((answer ≡ no_memory) × Stays x old new)
    ⊎ ((answer ≡ too_many) × Stays x old new
    × ((t : WideEvents w) → Follows old.narrower.value (names_of t)
    → is_beyond link (names_of ((link, x) ∷ t)) ≡ true))

-- another event was begun
abbrev pub HasOther : {p : ℕ} → WideJudge p → ℕ → Shown → Type 0
HasOther old code x = (b : Begun) × (old.begun ≡ Some b) × ¬ (IsOf b code x)

-- the same of an event that may have been begun
abbrev pub BeginsParts : {w p : ℕ} → WideJudge p → WideJudge p → Link → ℕ → Shown → WideEvent w → Result Left Answer
    → Type 0
BeginsParts old new link code shown x (Ok rest) =
    GoesOn old new code shown rest ⊎ ((old.begun ≡ None) × Begins old new link x rest)
BeginsParts old new link code shown x (Err answer) =
    (HasOther old code shown × IsBad answer old new) ⊎ ((old.begun ≡ None) × BeginsEvent old new link x (Err answer))

-- what is answered for an event when what was left of it had this verdict
abbrev pub AnswersVerdict : {p : ℕ} → WideJudge p → WideJudge p → ℕ → Shown → Verdict → Answer → Type 0
AnswersVerdict old new code x Taken answer = (answer ≡ ok) × (new.begun ≡ None) × (new.closed ≡ old.closed)
AnswersVerdict old new code x (Broken breach) answer = (answer ≡ breaks_commits breach) × (new.closed ≡ true)
AnswersVerdict old new code x (OutOfMemory rest) answer =
    (answer ≡ no_memory) × (new.begun ≡ Some (record { link = code; shown = x; rest = rest }))
    × (new.closed ≡ old.closed)

-- what is left of an event was judged
abbrev pub JudgesLeft : {w p : ℕ} → WideJudge p → WideJudge p → Link → ℕ → Shown → WideEvent w → Left → Answer → Type 0
JudgesLeft {w} {p} old new link code shown x rest answer =
    (verdict : Verdict) × (IsValidLeft rest → TakesParts old.judge new.judge link x (events_left {p = p} rest x) verdict)
    × (new.narrower.value ≡ old.narrower.value) × AnswersVerdict old new code shown verdict answer

-- the answer to an event
abbrev pub JudgesWideEvent : {w p : ℕ} → WideJudge p → WideJudge p → Link → ℕ → Shown → WideEvent w → Answer → Type 0
JudgesWideEvent {w} {p} old new link code shown x answer =
    ((old.closed ≡ true) × (answer ≡ closed) × (new ≡ old))
    ⊎ ((old.closed ≡ false) × BeginsParts old new link code shown x (Err answer))
    ⊎ ((old.closed ≡ false) × (between : WideJudge p) × (rest : Left)
    × BeginsParts old between link code shown x (Ok rest) × JudgesLeft between new link code shown x rest answer)

-- the answer to the event with these fields; None of link or event is bad input
abbrev pub ToldOfEvent : {w p : ℕ} → WideJudge p → WideJudge p → ℕ → Shown → Option Link → Option (WideEvent w)
    → Answer → Type 0
ToldOfEvent old new code shown (Some link) (Some x) answer = JudgesWideEvent old new link code shown x answer
ToldOfEvent old new code shown _ _ answer = IsBad answer old new

abbrev pub ToldOfShown : {p : ℕ} → (w : ℕ) → WideJudge p → WideJudge p → ℕ → Shown → Answer → Type 0
ToldOfShown w old new code shown answer = ToldOfEvent old new code shown (link_at code) (event_shown w shown) answer

-- ---- making one

-- the result of making one whose parts have p bytes: one that knows no events, or a refusal
abbrev pub MakesWide : {p : ℕ} → Judging → List ℕ → ℕ → Result (WideJudge p) Answer → Type 0
MakesWide judging codes liberties (Ok s) =
    (s.closed ≡ false) × (s.begun ≡ None) × ((w : ℕ) → Follows {w = w} s.narrower.value [])
    × KnowsParts judging s.judge (map level_at codes) (liberties_at liberties) []
MakesWide judging codes liberties (Err answer) = IsRefusal (IsCount (length codes)) answer
