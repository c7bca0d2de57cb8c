-- The bytes that a Grant and a read may bring, by beats and commits: M2 and M3 with the stores and loads of cores.
use Rattle.std.specs.Prelude.{ℕ, zero, suc, Bool, true, false, not, [], ◌∷◌, ◌==◌, ◌&&◌, ◌||◌, ◌+◌, ◌*◌, ◌/◌}
use Rattle.std.specs.Prelude.{if◌then◌else◌, length, filter, find, nat_lt, nat_le, Option, Some, None}
use Rattle.tl_beat.specs.declared.beat.Beat.TheVariants as beat
use Rattle.tl_beat.specs.declared.beat.BeatD.{BeatD}
use Rattle.tl_beat.specs.declared.beat.Link.{Link}
use Rattle.tl_beat.specs.declared.channel.Channel.TheVariants as channel
use Rattle.tl_beat.specs.declared.opcode.OpD.{OpD}
use Rattle.tl_beat.specs.declared.opcode.OpD.TheVariants as d
use Rattle.tl_burst.specs.statement.Burst.{reaches}
use Rattle.tl_burst.specs.statement.Messages.{on, unfinished}
use Rattle.tl_rules.specs.statement.OpenMessages.{open_request}
use Rattle.tl_rules.specs.declared.past.Request.{Request}
use Rattle.tl_rules.specs.statement.Admission.{is_spoiled, lanes_of}
use Rattle.tl_rules.specs.statement.History.{block_at}
use Rattle.tl_rules.specs.statement.Windows.{needs}
use Rattle.tl_bytes.specs.statement.Bytes.{Access, each_from, is_get, is_of, may_write}
use Rattle.tl_bytes.specs.statement.Bytes.{others, pending_accesses, told_as}
use Rattle.tl_bytes.specs.statement.Bytes.{windows_since}
use Rattle.tl_bytes.specs.statement.Early.{is_overtaken, outrun_accesses}
use Rattle.tl_bytes.specs.statement.Shown.{is_window}
use Rattle.tl_events.specs.declared.commit.Event.{Event}
use Rattle.tl_events.specs.declared.commit.Event.TheVariants as event
use Rattle.tl_commits.specs.statement.Completeness.{Completeness}
use Rattle.tl_commits.specs.statement.Copies.{link_beats}
use Rattle.tl_commits.specs.statement.Events.{Events, beats_of}
use Rattle.tl_commits.specs.statement.Seen.{values_seen}

-- Each definition is the one of `tl_bytes` with the same name but for its end, over the values that commits say too.

-- the byte v may be granted: it is possible, or a pending access that has had a window may write it
abbrev pub may_grant_seen : {w : ℕ} → Completeness → ℕ → Events w → ℕ → ℕ → Bool
may_grant_seen complete n e address v =
    told_as v (values_seen complete n address e)
    || may_write address v
    (filter (λ x. nat_lt 0 (windows_since n (block_at address) x.asked (beats_of e))) (pending_accesses (beats_of e)))
    (outrun_accesses (beats_of e))

-- an access may find the byte v: it is possible, or another pending access may write it
abbrev pub may_find_seen : {w : ℕ} → Completeness → ℕ → Access w → Events w → ℕ → ℕ → Bool
may_find_seen complete n access e address v =
    told_as v (values_seen complete n address e)
    || may_write address v (others access (beats_of e)) (outrun_accesses (beats_of e))

-- with this event, which comes after e, the access may find the byte v: with a beat in one of its windows
abbrev pub finds_with : {w : ℕ} → Completeness → ℕ → Access w → Link → Event w → Events w → ℕ → ℕ → Bool
finds_with complete n access link (event.Beat x) e address v =
    is_window n (needs access.request.opcode) (block_at address) (link, x) (beats_of e)
    && may_find_seen complete n access ((link, event.Beat x) ∷ e) address v
finds_with complete n access link (event.Commit x) e address v = false

-- in one of its windows since it was asked for, an access may have found the byte v
unfoldable pub may_read_seen : {w : ℕ} → Completeness → ℕ → Access w → Events w → ℕ → ℕ → Bool
may_read_seen complete n access [] address v = false
may_read_seen complete n access (x ∷ e) address v =
    nat_le access.asked (length (beats_of (x ∷ e)))
    && (finds_with complete n access x.0 x.1 e address v || may_read_seen complete n access e address v)

-- the event is a beat of channel D of the link
abbrev pub is_response_on : {w : ℕ} → ℕ → Link → Event w → Bool
is_response_on link from (event.Beat x) = (from.0 == link) && on channel.D x
is_response_on link from (event.Commit x) = false

-- the trace before the last k beats of channel D of a link
unfoldable pub before_last_seen : {w : ℕ} → ℕ → ℕ → Events w → Events w
before_last_seen link zero e = e
before_last_seen link (suc k) [] = []
before_last_seen link (suc k) (x ∷ e) =
    if is_response_on link x.0 x.1 then before_last_seen link k e else before_last_seen link (suc k) e

-- the bytes of beat k of a Grant of the block, which began after e, may be granted
abbrev pub grants_truly_seen : {w : ℕ} → Completeness → ℕ → ℕ → ℕ → BeatD w → Events w → Bool
grants_truly_seen {w} complete n block k x e =
    each_from (may_grant_seen complete n e) (64 * block + w * k) (lanes_of (beat.D x))

-- the trace after which an access finds its bytes at the latest
abbrev pub found_after_seen : {w : ℕ} → Option (Access w) → ℕ → ℕ → Events w → Events w
found_after_seen None link k e = e
found_after_seen (Some access) link k e = if is_get access.request.opcode then e else before_last_seen link k e

-- the answer to an access that finds its bytes after e at the latest may bring the byte v: the access may have found it, or
-- doesn't reach its address
abbrev pub may_answer_seen : {w : ℕ} → Completeness → ℕ → Access w → Events w → ℕ → ℕ → Bool
may_answer_seen complete n access e address v =
    not (reaches access.request.address access.request.size address) || may_read_seen complete n access e address v

-- an access may have found the requested bytes of beat k of its answer by then
abbrev pub reads_truly_seen : {w : ℕ} → Completeness → ℕ → Option (Access w) → ℕ → BeatD w → Events w → Bool
reads_truly_seen complete n None k x e = true
reads_truly_seen {w} complete n (Some access) k x e =
    each_from (may_answer_seen complete n access e) (w * (access.request.address / w) + w * k) (lanes_of (beat.D x))

-- M2: the bytes of a beat of a GrantData may be granted. Those that are in doubt aren't judged.
abbrev pub is_true_grant_seen : {w : ℕ} → Completeness → ℕ → ℕ → BeatD w → Option Request → Events w → Bool
is_true_grant_seen complete n link x None e = true
is_true_grant_seen complete n link x (Some asked) e =
    is_overtaken asked.block x (link_beats link e)
    || grants_truly_seen complete n asked.block (length (unfinished channel.D (link_beats link e))) x
    (before_last_seen link (length (unfinished channel.D (link_beats link e))) e)

-- M3: the request may have found the bytes of a beat of its AccessAckData
abbrev pub is_true_read_seen : {w : ℕ} → Completeness → ℕ → ℕ → BeatD w → Events w → Bool
is_true_read_seen complete n link x e =
    reads_truly_seen complete n (find (is_of link x.source) (pending_accesses (beats_of e)))
    (length (unfinished channel.D (link_beats link e))) x
    (found_after_seen (find (is_of link x.source) (pending_accesses (beats_of e))) link
    (length (unfinished channel.D (link_beats link e))) e)

-- the bytes of a response are true: those that are corrupt or denied aren't judged
abbrev pub is_true_seen : {w : ℕ} → Completeness → OpD → ℕ → ℕ → BeatD w → Events w → Bool
is_true_seen complete d.GrantData n link x e =
    is_spoiled (beat.D x) || is_true_grant_seen complete n link x (open_request x.source (link_beats link e)) e
is_true_seen complete d.AccessAckData n link x e = is_spoiled (beat.D x) || is_true_read_seen complete n link x e
is_true_seen complete _ n link x e = true
