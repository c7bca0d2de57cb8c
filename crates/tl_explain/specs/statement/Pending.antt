-- The order in which the messages pending at the end of a trace are listed.
use Rattle.std.specs.Prelude.{◌≡◌, ◌⊎◌, ℕ, zero, suc, Bool, true, not, ◌&&◌, ◌||◌, ◌==◌, nat_lt, List, [], ◌∷◌, ◌++◌}
use Rattle.std.specs.Prelude.{length, if◌then◌else◌, ◌-◌, Option, Some, None, codes}
use Rattle.std.specs.List.{AllPass, Contains}
use Rattle.std.specs.Fmt.{decimal}
use Rattle.tl_beat.specs.declared.beat.Beat.{Beat}
use Rattle.tl_beat.specs.declared.beat.Link.{Link}
use Rattle.tl_beat.specs.statement.Line.{Spells}
use Rattle.tl_explain.specs.statement.Spelled.{spelled}
use Rattle.tl_explain.specs.declared.ledger.Kind.{Kind}
use Rattle.tl_explain.specs.declared.ledger.Kind.TheVariants.{Request, Release, Grant, Probe, Burst}
use Rattle.tl_explain.specs.declared.ledger.Pending.{Pending}
use Rattle.tl_explain.specs.declared.told.Spelling.{Spelling}
use Rattle.tl_explain.specs.statement.Sentences.{beat_line}

-- ---- the order

-- the order of entries with the same line: a burst comes after the message that its first beat began
abbrev pub rank : Kind → ℕ
rank Request = 0
rank Release = 1
rank Grant = 2
rank Probe = 3
rank Burst = 4

-- one message comes before the other: its line is earlier, or in the same line its kind comes first
abbrev pub is_before : Pending → Pending → Bool
is_before one other =
    nat_lt one.opening.line other.opening.line
    || ((one.opening.line == other.opening.line) && nat_lt (rank one.kind) (rank other.kind))

-- the message comes after this one, if there is one
abbrev pub is_behind : Option Pending → Pending → Bool
is_behind None message = true
is_behind (Some after) message = is_before after message

-- the oldest of these messages that come after this one; None if there is none
abbrev pub IsNext : List Pending → Option Pending → Option Pending → Type 0
IsNext pending after None = AllPass (λ message. not (is_behind after message)) pending
IsNext pending after (Some next) =
    Contains pending next × (is_behind after next ≡ true)
    × AllPass (λ message. not (is_behind after message && is_before message next)) pending

-- ---- the text

-- the answer that a pending message lacks
abbrev pub missing : Kind → List ℕ
missing Request = codes "a request without an answer"
missing Release = codes "a Release without ReleaseAck"
missing Grant = codes "a Grant without GrantAck"
missing Probe = codes "a Probe without ProbeAck"
missing Burst = codes "a burst that isn't complete"

-- that answer, in a line of its own
unfoldable pub missing_line : Kind → List ℕ
missing_line kind = codes "  " ++ missing kind ++ codes ":\n"

-- how the words of a beat are appended as it was recorded: a line that spells a beat of w bytes has the words of that
-- beat
abbrev pub says_recorded : ℕ → ℕ → Spelling → List ℕ → List ℕ → Type 0
says_recorded w number line old new = (link : Link) (beat : Beat w) → Spells (spelled line) link beat
    → new ≡ old ++ beat_line number link beat

-- the text for one message is appended: the answer that it lacks, and in these words the beat that began it
abbrev pub TellsOne : (ℕ → Spelling → List ℕ → List ℕ → Type 0) → Pending → List ℕ → List ℕ → Type 0
TellsOne says message old new =
    says message.opening.line message.opening.spelling (old ++ missing_line message.kind) new

-- the texts of at most n messages are appended: of the oldest after this one, each before the next
unfoldable pub TellsOldest : (ℕ → Spelling → List ℕ → List ℕ → Type 0) → List Pending → Option Pending → ℕ → List ℕ
    → List ℕ → Type 0
TellsOldest says pending after zero old new = new ≡ old
TellsOldest says pending after (suc n) old new =
    (IsNext pending after None × (new ≡ old))
    ⊎ ((next : Pending) × (mid : List ℕ) × IsNext pending after (Some next) × TellsOne says next old mid
    × TellsOldest says pending (Some next) n mid new)

-- the number of pending messages
unfoldable pub pending_heading : ℕ → List ℕ
pending_heading count = codes "  pending at the end: " ++ decimal count ++ codes ", the oldest first\n"

-- the number of messages after the 20 that are listed
unfoldable pub pending_rest : ℕ → List ℕ
pending_rest count = if nat_lt 20 count then codes "  and " ++ decimal (count - 20) ++ codes " more\n" else []

-- the text for these messages is appended: their number, in these words the oldest 20, and the number of the others
abbrev pub TellsPending : (ℕ → Spelling → List ℕ → List ℕ → Type 0) → List Pending → List ℕ → List ℕ → Type 0
TellsPending says [] old new = new ≡ old ++ codes "  nothing is pending at the end\n"
TellsPending says (message ∷ more) old new =
    (mid : List ℕ)
    × TellsOldest says (message ∷ more) None 20 (old ++ pending_heading (length (message ∷ more))) mid
    × (new ≡ mid ++ pending_rest (length (message ∷ more)))
