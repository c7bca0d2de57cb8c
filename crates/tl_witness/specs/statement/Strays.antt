-- The lines about bytes that a response has and may not have.
use Rattle.std.specs.Prelude.{ℕ, zero, suc, Bool, true, false, [], ◌∷◌, ◌++◌, ◌+◌, ◌-◌, if◌then◌else◌, codes, List}
use Rattle.std.specs.Prelude.{◌*◌, ◌/◌, find, length, nat_lt, Option, Some, None}
use Rattle.std.specs.Fmt.{decimal}
use Rattle.tl_beat.specs.declared.beat.Beat.TheVariants as beat
use Rattle.tl_beat.specs.declared.beat.BeatD.{BeatD}
use Rattle.tl_beat.specs.declared.channel.Channel.TheVariants as channel
use Rattle.tl_beat.specs.declared.opcode.OpD.{OpD}
use Rattle.tl_beat.specs.declared.opcode.OpD.TheVariants as d
use Rattle.tl_beat.specs.statement.Digits.{digits}
use Rattle.tl_burst.specs.statement.Messages.{unfinished}
use Rattle.tl_bytes.specs.statement.Bytes.{Access, before_last, found_after, is_of, may_be, may_grant}
use Rattle.tl_bytes.specs.statement.Bytes.{pending_accesses}
use Rattle.tl_bytes.specs.statement.Lines.{told_moment}
use Rattle.tl_memory.specs.statement.Expecting.{may_answer}
use Rattle.tl_rules.specs.statement.OpenMessages.{open_request}
use Rattle.tl_rules.specs.declared.past.Request.{Request}
use Rattle.tl_rules.specs.statement.Admission.{lanes_of}
use Rattle.tl_rules.specs.statement.Conformance.{Trace, on_link}
use Rattle.tl_witness.specs.statement.Naming.{Naming}

-- the words before a value: the first differ from those after other values
abbrev pub lead_text : Bool → List ℕ
lead_text any = if any then codes ", or " else codes ", and may be "

-- the line that showed a value, if the byte may still have it; `moment` is the number of beats before that line's
abbrev pub told_text : Naming → Option ℕ → List ℕ
told_text names None = []
told_text names (Some moment) = codes ", set in line " ++ decimal (names.line (moment + 2))

-- a value
abbrev pub value_text : Naming → ℕ → Option ℕ → List ℕ
value_text names v moment = digits 2 v ++ told_text names moment

-- the values for which the test is true, of n from v on, each with the line that showed it; `any` says that other
-- values come before them
unfoldable pub values_text : Naming → (ℕ → Bool) → (ℕ → Option ℕ) → Bool → ℕ → ℕ → List ℕ
values_text names test told any zero v = if any then [] else codes ", and no value of it was seen"
values_text names test told any (suc n) v =
    if test v then lead_text any ++ (value_text names v (told v) ++ values_text names test told true n (v + 1)) else
    values_text names test told any n (v + 1)

-- the byte at an address is v, and may have each value for which the test is true
unfoldable pub stray_line : Naming → ℕ → ℕ → (ℕ → Bool) → (ℕ → Option ℕ) → List ℕ
stray_line names address v test told =
    codes "  byte " ++ names.address address ++ codes " is " ++ digits 2 v ++ values_text names test told false 256
    0 ++ codes "\n"

-- the line of a byte after n others; only the first eight have one
abbrev pub next_line : Naming → ℕ → ℕ → ℕ → (ℕ → Bool) → (ℕ → Option ℕ) → List ℕ
next_line names n address v test told = if nat_lt n 8 then stray_line names address v test told else []

-- the number of bytes after the first eight
abbrev pub more_text : ℕ → List ℕ
more_text n = if nat_lt 8 n then codes "  and " ++ decimal (n - 8) ++ codes " more\n" else []

-- the lines of those of these bytes, from this address on, for which the test is false, after n others
unfoldable pub strays_text : Naming → (ℕ → ℕ → Bool) → (ℕ → ℕ → Option ℕ) → ℕ → ℕ → List ℕ → List ℕ
strays_text names test told n address [] = more_text n
strays_text names test told n address (v ∷ bytes) =
    if test address v then strays_text names test told n (address + 1) bytes else
    next_line names n address v (test address) (told address) ++ strays_text names test told (n + 1) (address + 1) bytes

-- ---- by the beats that all links have carried

-- the number of beats before the one that showed this value of the byte at an address, if the byte may still have it
-- after t
abbrev pub told_after : {w : ℕ} → ℕ → Trace w → ℕ → ℕ → Option ℕ
told_after n t address v = told_moment v (may_be n address t)

-- the number of beats that have come of the unfinished response on a link
abbrev pub beats_come : {w : ℕ} → ℕ → Trace w → ℕ
beats_come link t = length (unfinished channel.D (on_link link t))

-- M2: the bytes of a beat of a Grant that answers this request, which they can't have had at its first beat
abbrev pub granted_text : {w : ℕ} → Naming → ℕ → ℕ → BeatD w → Option Request → Trace w → List ℕ
granted_text names n link x None t = []
granted_text {w} names n link x (Some asked) t =
    strays_text names (may_grant n (before_last link (beats_come link t) t)) (told_after n t) 0
    (64 * asked.block + w * beats_come link t) (lanes_of (beat.D x))

-- M3: the bytes of a beat of the answer to this access, which it can't have found by then
abbrev pub answered_text : {w : ℕ} → Naming → ℕ → ℕ → BeatD w → Option (Access w) → Trace w → List ℕ
answered_text names n link x None t = []
answered_text {w} names n link x (Some access) t =
    strays_text names (may_answer n access (found_after (Some access) link (beats_come link t) t)) (told_after n t) 0
    (w * (access.request.address / w) + w * beats_come link t) (lanes_of (beat.D x))

-- the bytes of a beat of a response with this opcode, which they can't have after t
abbrev pub bytes_text : {w : ℕ} → Naming → OpD → ℕ → ℕ → BeatD w → Trace w → List ℕ
bytes_text names d.GrantData n link x t = granted_text names n link x (open_request x.source (on_link link t)) t
bytes_text names d.AccessAckData n link x t =
    answered_text names n link x (find (is_of link x.source) (pending_accesses t)) t
bytes_text names _ n link x t = []
