-- The bytes that pending Gets and atomics may have found, as a judge keeps them.
use Rattle.std.specs.List.{AllZip}
use Rattle.std.specs.Prelude.{ℕ, suc, Bool, true, false, not, ◌∷◌, ◌+◌, ◌*◌, ◌<◌, ◌≡◌, ◌==◌, ◌&&◌, ◌||◌, List}
use Rattle.std.specs.Prelude.{if◌then◌else◌, find, is_some, length, min, nat_lt, Option, Some, None}
use Rattle.tl_beat.specs.declared.beat.Beat.{Beat}
use Rattle.tl_beat.specs.declared.beat.Beat.TheVariants as beat
use Rattle.tl_beat.specs.declared.beat.BeatA.{BeatA}
use Rattle.tl_beat.specs.declared.beat.BeatD.{BeatD}
use Rattle.tl_beat.specs.declared.beat.Link.{Link}
use Rattle.tl_beat.specs.declared.channel.Channel.TheVariants as channel
use Rattle.tl_beat.specs.declared.opcode.OpA.{OpA}
use Rattle.tl_beat.specs.declared.opcode.OpD.{OpD}
use Rattle.tl_beat.specs.declared.opcode.OpD.TheVariants as d
use Rattle.tl_burst.specs.statement.Messages.{unfinished}
use Rattle.tl_bytes.specs.statement.Bytes as bytes
use Rattle.tl_bytes.specs.statement.Bytes.{Access, all_but, is_access, is_get, is_put, may_write, pending_accesses, told_as}
use Rattle.tl_bytes.specs.statement.Early.{outrun_accesses}
use Rattle.tl_bytes.specs.statement.Shown.{is_window}
use Rattle.tl_memory.specs.code.ByteSet.{has_at}
use Rattle.tl_params.specs.declared.level.Level.{Level}
use Rattle.tl_params.specs.declared.liberties.Liberties.{Liberties}
use Rattle.tl_rules.specs.statement.Conformance.{Trace, on_link}
use Rattle.tl_rules.specs.statement.History.{block_at}
use Rattle.tl_rules.specs.statement.Windows.{needs}
use Rattle.tl_together.specs.code.Windows.{MayShow}
use Rattle.tl_together.specs.declared.judge.Judge.{Judge}
use Rattle.tl_together.specs.statement.Knows.{Knows}
use Rattle.tl_events.specs.declared.commit.Event.TheVariants as event
use Rattle.tl_commits.specs.code.Reached.{is_reached}
use Rattle.tl_commits.specs.code.ValueTable.{KnowsTable, Table}
use Rattle.tl_commits.specs.declared.reading.Reading.{Reading}
use Rattle.tl_commits.specs.statement.Completeness.{Completeness}
use Rattle.tl_commits.specs.statement.Copies.{link_beats}
use Rattle.tl_commits.specs.statement.Events.{Events, beats_of}
use Rattle.tl_commits.specs.statement.Seen.{values_seen}
use Rattle.tl_commits.specs.statement.True.{found_after_seen, is_true_seen, may_read_seen}

-- ---- beats

-- the request is a Get or an atomic, which finds bytes
abbrev pub finds : OpA → Bool
finds opcode = is_access opcode && not (is_put opcode)

abbrev pub asks_bytes : {w : ℕ} → Beat w → Bool
asks_bytes (beat.A x) = finds x.opcode
asks_bytes _ = false

-- this is the beat, if it is of such a request
abbrev pub IsReader : {w : ℕ} → Option (BeatA w) → Beat w → Type 0
IsReader None x = asks_bytes x ≡ false
IsReader (Some y) x = (x ≡ beat.A y) × (finds y.opcode ≡ true)

abbrev pub brings_read : OpD → Bool
brings_read d.AccessAckData = true
brings_read _ = false

abbrev pub is_read : {w : ℕ} → Beat w → Bool
is_read (beat.D x) = brings_read x.opcode
is_read _ = false

-- this is the beat, if it is of an AccessAckData
abbrev pub IsRead : {w : ℕ} → Option (BeatD w) → Beat w → Type 0
IsRead None x = is_read x ≡ false
IsRead (Some y) x = (x ≡ beat.D y) × (y.opcode ≡ d.AccessAckData)

-- M3 of a beat: if it is of an AccessAckData, the access may have found its bytes
abbrev pub reads_truly : {w : ℕ} → Completeness → ℕ → ℕ → Beat w → Events w → Bool
reads_truly complete n link (beat.D x) e =
    if brings_read x.opcode then is_true_seen complete d.AccessAckData n link x e else true
reads_truly complete n link _ e = true

-- ---- what is kept of an access

-- the reading is of the access with this source on the link
abbrev pub is_of : ℕ → ℕ → Reading → Bool
is_of link source r = (r.link.0 == link) && (r.source == source)

-- its access reaches the byte at a place of its block
abbrev pub reaches : Reading → ℕ → Bool
reaches r place = is_reached r.address r.size place

-- the number of these beats of channel D, if they are of an answer to the access with this source
abbrev pub answer_beats : {w : ℕ} → ℕ → List (Beat w) → ℕ
answer_beats source (beat.D y ∷ older) = if y.source == source then suc (length older) else 0
answer_beats source _ = 0

-- the number of beats that have come of the unfinished answer to the access with this source on a link
abbrev pub come : {w : ℕ} → ℕ → ℕ → Events w → ℕ
come link source e = answer_beats source (unfinished channel.D (link_beats link e))

-- the events after which the access found its bytes at the latest
abbrev pub found_by : {w : ℕ} → Access w → Events w → Events w
found_by access e = found_after_seen (Some access) access.link (come access.link access.request.source e) e

-- this is what is kept of the access: the values of the bytes that it reaches
pub record IsReading {w : ℕ} (r : Reading) (complete : Completeness) (n : ℕ) (access : Access w) (e : Events w)
    : Type 0 where
  pub opcode_is : r.opcode ≡ access.request.opcode
  pub address_is : r.address ≡ access.request.address
  pub size_is : r.size ≡ access.request.size
  pub begun_is : r.begun ≡ nat_lt 0 (come access.link access.request.source e)
  pub found_are : (place v : ℕ) → place < 64 → v < 256 → reaches r place ≡ true
      → has_at r.found place v
      ≡ may_read_seen complete n access (found_by access e) (64 * block_at access.request.address + place) v

abbrev pub IsReadingOf : {w : ℕ} → Option Reading → Completeness → ℕ → Access w → Events w → Type 0
IsReadingOf None complete n access e = ⊥
IsReadingOf (Some r) complete n access e = IsReading r complete n access e

-- each pending access that isn't a Put has a reading
abbrev pub KnowsReadings : {w : ℕ} → List Reading → Completeness → ℕ → Events w → Type 0
KnowsReadings {w} readings complete n e = (link source : ℕ) (access : Access w)
    → find (bytes.is_of link source) (pending_accesses (beats_of e)) ≡ Some access
    → is_put access.request.opcode ≡ false → IsReadingOf (find (is_of link source) readings) complete n access e

-- there is a reading for the request of a beat that finds bytes
abbrev pub IsMet : {w : ℕ} → List Reading → ℕ → Beat w → Type 0
IsMet {w} readings link x = (y : BeatA w) → x ≡ beat.A y → finds y.opcode ≡ true
    → is_some (find (is_of link y.source) readings) ≡ true

-- ---- one more beat

-- the reading of an access that is asked for with a beat
pub record IsFresh {w : ℕ} (r : Reading) (link : Link) (y : BeatA w) : Type 0 where
  pub link_is : r.link ≡ link
  pub source_is : r.source ≡ y.source
  pub opcode_is : r.opcode ≡ y.opcode
  pub address_is : r.address ≡ y.address
  pub size_is : r.size ≡ min y.size 6
  pub begun_is : r.begun ≡ false
  pub found_are : (place v : ℕ) → place < 64 → v < 256 → reaches r place ≡ true → has_at r.found place v ≡ false

-- the readings are of the same access, and the same bytes were found
pub record IsSameFound (old new : Reading) : Type 0 where
  pub link_is : new.link ≡ old.link
  pub source_is : new.source ≡ old.source
  pub opcode_is : new.opcode ≡ old.opcode
  pub address_is : new.address ≡ old.address
  pub size_is : new.size ≡ old.size
  pub found_is : new.found ≡ old.found

-- the reading begins if this beat of a request asks for its access
pub record IsAsked {w : ℕ} (link : Link) (y : BeatA w) (old new : Reading) : Type 0 where
  pub own : (finds y.opcode && is_of link.0 y.source old) ≡ true → IsFresh new link y
  pub other : (finds y.opcode && is_of link.0 y.source old) ≡ false → new ≡ old

-- its answer has begun if this beat is of it and `more` of its beats are to come
pub record IsAnswered {w : ℕ} (link : Link) (y : BeatD w) (more : Bool) (old new : Reading) : Type 0 where
  pub same : IsSameFound old new
  pub begun_is : new.begun ≡ (if is_of link.0 y.source old then more else old.begun)

-- The reading with one more beat. `more` says whether the beat leaves a message of channel D unfinished.
abbrev pub IsNoted : {w : ℕ} → Link → Beat w → Bool → Reading → Reading → Type 0
IsNoted link (beat.A y) more old new = IsAsked link y old new
IsNoted link (beat.D y) more old new = IsAnswered link y more old new
IsNoted link _ more old new = new ≡ old

-- the access may find the byte v at a place of its block after these events
abbrev pub may_find : {w : ℕ} → Completeness → ℕ → Reading → Events w → ℕ → ℕ → Bool
may_find complete n r e place v =
    told_as v (values_seen complete n (64 * block_at r.address + place) e)
    || may_write (64 * block_at r.address + place) v (all_but r.link.0 r.source (pending_accesses (beats_of e)))
    (outrun_accesses (beats_of e))

-- it may still find bytes: it is a Get, or its answer hasn't begun
abbrev pub goes_on : Reading → Bool
goes_on r = is_get r.opcode || not r.begun

-- the reading with the bytes that the access may find now, if it finds some
pub record IsFound {w : ℕ} (complete : Completeness) (n : ℕ) (now : Bool) (e : Events w) (old new : Reading) : Type 0 where
  pub link_is : new.link ≡ old.link
  pub source_is : new.source ≡ old.source
  pub opcode_is : new.opcode ≡ old.opcode
  pub address_is : new.address ≡ old.address
  pub size_is : new.size ≡ old.size
  pub begun_is : new.begun ≡ old.begun
  pub found_are : (place v : ℕ) → place < 64 → v < 256 → reaches old place ≡ true
      → has_at new.found place v ≡ (has_at old.found place v || (now && may_find complete n old e place v))

-- the beat shows that the access may be performed
abbrev pub is_open : {w : ℕ} → ℕ → Reading → Link × Beat w → Trace w → Bool
is_open n r x t = is_window n (needs r.opcode) (block_at r.address) x t

-- the reading after one more beat, whose events come before
pub record IsTaken {w : ℕ} (complete : Completeness) (n : ℕ) (link : Link) (x : Beat w) (e : Events w)
    (old new : Reading) : Type 0 where
  pub noted : Reading
  pub is_noted : IsNoted link x (nat_lt 0 (length (unfinished channel.D (link_beats link.0 ((link, event.Beat x) ∷ e)))))
      old noted
  pub is_found : IsFound complete n (goes_on noted && is_open n noted (link, x) (beats_of e)) ((link, event.Beat x) ∷ e)
      noted new

-- so by the judge of beats and the values of blocks after that beat
abbrev pub IsTakenBy : {w : ℕ} → Judge w → Table → Link → Beat w → Option ℕ → Reading → Reading
    → Type 0
IsTakenBy {w} judge table link x shown old new = (levels : List Level) (l : Liberties) (complete : Completeness)
    (e : Events w) → Knows judge levels l ((link, x) ∷ beats_of e) false → link.0 < length levels
    → MayShow shown x (on_link link.0 (beats_of e)) → KnowsTable table complete (length levels) ((link, event.Beat x) ∷ e)
    → IsTaken complete (length levels) link x e old new

abbrev pub AreTakenBy : {w : ℕ} → Judge w → Table → Link → Beat w → Option ℕ → List Reading
    → List Reading → Type 0
AreTakenBy judge table link x shown old new = AllZip (IsTakenBy judge table link x shown) old new

-- ---- the bytes of an answer

-- the answer may bring the byte v at a place, or doesn't reach it
abbrev pub allows : Reading → ℕ → ℕ → Bool
allows r place v = not (reaches r place) || has_at r.found place v

-- so for this test of the bytes of a block
abbrev pub AllowsAs : Reading → ℕ → (ℕ → ℕ → Bool) → Type 0
AllowsAs r block test = (place v : ℕ) → place < 64 → v < 256 → allows r place v ≡ test (64 * block + place) v
