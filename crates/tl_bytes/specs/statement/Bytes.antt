-- The possible values of the bytes of memory, by the beats of all links of a manager, and the bytes that a Grant and a
-- read may bring.
use Rattle.std.specs.Prelude.{ℕ, zero, suc, Bool, true, false, not, [], ◌∷◌, ◌==◌, ◌&&◌, ◌||◌, ◌+◌, ◌-◌, ◌*◌, ◌/◌, ◌%◌}
use Rattle.std.specs.Prelude.{◌^◌, ◌≤◌, if◌then◌else◌, List, length, filter, find, slice_get, nat_lt, nat_le}
use Rattle.std.specs.Prelude.{Option, Some, None, is_some, unwrap_or, min}
use Rattle.std.proofs.Common.{arith}
use Rattle.tl_bytes.specs.declared.telling.Telling.{Telling}
use Rattle.tl_beat.specs.declared.beat.Beat.{Beat}
use Rattle.tl_beat.specs.declared.beat.Beat.TheVariants as beat
use Rattle.tl_beat.specs.declared.beat.BeatA.{BeatA}
use Rattle.tl_beat.specs.declared.beat.BeatD.{BeatD}
use Rattle.tl_beat.specs.declared.beat.Link.{Link}
use Rattle.tl_beat.specs.declared.channel.Channel.TheVariants as channel
use Rattle.tl_beat.specs.declared.opcode.OpA.{OpA}
use Rattle.tl_beat.specs.declared.opcode.OpA.TheVariants as a
use Rattle.tl_beat.specs.declared.opcode.OpD.{OpD}
use Rattle.tl_beat.specs.declared.opcode.OpD.TheVariants as d
use Rattle.tl_beat.specs.statement.Opcode.{c_carries_data}
use Rattle.tl_burst.specs.declared.message.Message.TheVariants as message
use Rattle.tl_burst.specs.declared.message.MessageA.{MessageA}
use Rattle.tl_burst.specs.statement.Burst.{byte_at, reaches}
use Rattle.tl_burst.specs.statement.Messages.{History, on, unfinished}
use Rattle.tl_params.specs.declared.perm.Perm.TheVariants as perm
use Rattle.tl_rules.specs.statement.OpenMessages.{open_request}
use Rattle.tl_rules.specs.declared.past.Request.{Request}
use Rattle.tl_rules.specs.statement.Admission.{bytes_carried, is_spoiled, lanes_of}
use Rattle.tl_rules.specs.statement.Conformance.{Trace, on_link}
use Rattle.tl_rules.specs.statement.Effect.{Memory, effect}
use Rattle.tl_rules.specs.statement.History.{block_at, ends, grants, is_release_ack, request_of}
use Rattle.tl_rules.specs.statement.Windows.{needs}
pub use Rattle.tl_bytes.specs.statement.Early.{ends_request}
use Rattle.tl_bytes.specs.statement.Early.{Outrun, is_outrun, is_outrun_of, is_overtaken, is_release_of, is_released}
use Rattle.tl_bytes.specs.statement.Early.{outrun_accesses, outruns, reaches_byte, settled_by, telling_beats}
use Rattle.tl_bytes.specs.statement.Free.{is_free}
use Rattle.tl_bytes.specs.statement.Shown.{is_window}

-- Moments are numbers of beats: moment n is after the first n beats of the trace.

-- ---- the bytes of bursts

-- the byte at place p of a burst's bytes, for beats with the newest first; None if its beat is to come, or is corrupt
-- or denied
unfoldable pub carried_byte : {w : ℕ} → List (Beat w) → ℕ → Option ℕ
carried_byte [] p = None
carried_byte {w} (x ∷ older) p =
    if p / w == length older
    then if is_spoiled x then None else slice_get (lanes_of x) (p % w)
    else carried_byte older p

-- the mask of all bytes of a request's beats
unfoldable pub carried_mask : {w : ℕ} → List (Beat w) → ℕ
carried_mask {w} (beat.A x ∷ older) = carried_mask older + x.mask * 2 ^ (w * length older)
carried_mask _ = 0

-- ---- accesses

-- the request is an access
abbrev pub is_access : OpA → Bool
is_access a.AcquireBlock = false
is_access a.AcquirePerm = false
is_access a.Intent = false
is_access _ = true

-- the request is a Put: it may be performed beat by beat
abbrev pub is_put : OpA → Bool
is_put a.PutFullData = true
is_put a.PutPartialData = true
is_put _ = false

-- With this beat an access may be performed: a Put with each beat, by the bytes that have come, and another access with
-- the last beat of its request.
abbrev pub asks : {w : ℕ} → BeatA w → History w → Bool
asks x past = is_access x.opcode && (is_put x.opcode || ends (beat.A x) past)

-- the smaller of a number and 6 is at most 6
pub min_small : (n : ℕ) → min n 6 ≤ 6
min_small n = omega arith

-- A pending access: its link, its request, whether a beat of the request was corrupt, and the moment since which it may
-- be performed. If the request of a Put isn't complete, it has the beats that have come.
pub record Access (w : ℕ) : Type 0 where
  pub link : ℕ
  pub request : MessageA w
  pub spoiled : Bool
  pub asked : ℕ

-- the access of a request with these beats, the newest of which is x
abbrev pub asked_by : {w : ℕ} → ℕ → BeatA w → List (Beat w) → ℕ → Access w
asked_by link x burst moment = record {
  link = link;
  request = record {
    opcode = x.opcode;
    param = x.param;
    size = min x.size 6;
    source = x.source;
    address = x.address;
    payload = bytes_carried burst;
    mask = carried_mask burst;
    corrupt = 0;
    small = min_small x.size;
  };
  spoiled = is_some (find is_spoiled burst);
  asked = moment;
}

-- the access is the one with this source on the link
abbrev pub is_of : {w : ℕ} → ℕ → ℕ → Access w → Bool
is_of link source access = (access.link == link) && (access.request.source == source)

-- the moment since which an access may be performed whose beat comes at this moment: an earlier one if the access is
-- pending already
abbrev pub asked_since : {w : ℕ} → Option (Access w) → ℕ → ℕ
asked_since None moment = moment
asked_since (Some access) moment = access.asked

-- these accesses without the one with this source on the link
abbrev pub all_but : {w : ℕ} → ℕ → ℕ → List (Access w) → List (Access w)
all_but link source accesses = filter (λ access. not (is_of link source access)) accesses

-- with this beat an access may be performed, and it isn't one of those whose answers outran their requests
abbrev pub asks_new : {w : ℕ} → ℕ → BeatA w → History w → List Outrun → Bool
asks_new link x past outrun = asks x past && not (is_some (find (is_outrun_of link x.source) outrun))

-- with this beat an access isn't pending any more: its answer is complete, or begins before its request is complete
abbrev pub leaves_pending : {w : ℕ} → BeatD w → History w → Bool
leaves_pending x past = ends_request x past || outruns x past

-- The pending accesses with one more beat. Those whose answers outran their requests don't belong to them.
abbrev pub pending_with : {w : ℕ} → ℕ → Beat w → History w → ℕ → List Outrun → List (Access w) → List (Access w)
pending_with link (beat.A x) past moment outrun before =
    if asks_new link x past outrun
    then asked_by link x (beat.A x ∷ unfinished channel.A past) (asked_since (find (is_of link x.source) before) moment)
    ∷ all_but link x.source before
    else before
pending_with link (beat.D x) past moment outrun before =
    if leaves_pending x past then all_but link x.source before else before
pending_with link _ past moment outrun before = before

-- the accesses that may be performed, and whose answers aren't complete
unfoldable pub pending_accesses : {w : ℕ} → Trace w → List (Access w)
pending_accesses [] = []
pending_accesses (x ∷ t) =
    pending_with x.0.0 x.1 (on_link x.0.0 t) (suc (length t)) (outrun_accesses t) (pending_accesses t)

-- a request with this opcode may write the byte at an address
abbrev pub writes : {w : ℕ} → OpA → MessageA w → ℕ → Bool
writes a.PutFullData m address = is_some (byte_at 0 (message.A m) address)
writes a.PutPartialData m address = is_some (byte_at 0 (message.A m) address)
writes a.ArithmeticData m address = reaches m.address m.size address
writes a.LogicalData m address = reaches m.address m.size address
writes _ m address = false

-- the access may write the byte at an address
abbrev pub access_writes : {w : ℕ} → ℕ → Access w → Bool
access_writes address access = writes access.request.opcode access.request address

-- the memory that an access found, by the beats of its answer
abbrev pub found_memory : {w : ℕ} → MessageA w → List (Beat w) → Memory
found_memory {w} m burst address = unwrap_or (carried_byte burst (address - w * (m.address / w))) 0

-- the value that a Put writes, or an atomic with this answer; any value if a beat of them is corrupt or denied
abbrev pub value_written : {w : ℕ} → Access w → List (Beat w) → ℕ → Option ℕ
value_written access answer address =
    if access.spoiled || is_some (find is_spoiled answer) then None
    else Some ((effect (message.A access.request) (found_memory access.request answer)).0 address)

-- the value that a pending access may write: any if it is an atomic
abbrev pub pending_value : {w : ℕ} → OpA → Access w → ℕ → Option ℕ
pending_value a.PutFullData access address = value_written access [] address
pending_value a.PutPartialData access address = value_written access [] address
pending_value _ access address = None

-- the value that an access with this answer leaves: a Put leaves the value that it writes, by any answer
abbrev pub value_left : {w : ℕ} → OpA → Access w → List (Beat w) → ℕ → Option ℕ
value_left a.PutFullData access answer address = value_written access [] address
value_left a.PutPartialData access answer address = value_written access [] address
value_left _ access answer address = value_written access answer address

-- the answer with these beats, the newest first, is denied
abbrev pub is_denied : {w : ℕ} → List (Beat w) → Bool
is_denied (beat.D x ∷ older) = x.denied
is_denied _ = false

-- ---- windows for writing

-- the number of windows that a block has had since a moment, with the open one
unfoldable pub windows_since : {w : ℕ} → ℕ → ℕ → ℕ → Trace w → ℕ
windows_since n block asked [] = 0
windows_since n block asked (x ∷ t) =
    if nat_lt (suc (length t)) asked then 0 else
    windows_since n block asked t
    + (if is_free n perm.Trunk block (x ∷ t)
    && ((suc (length t) == asked) || not (is_free n perm.Trunk block t)) then 1 else 0)

-- the moment at which the open window began, or `asked` if it began before
unfoldable pub window_began : {w : ℕ} → ℕ → ℕ → ℕ → Trace w → ℕ
window_began n block asked [] = 0
window_began n block asked (x ∷ t) =
    if nat_lt asked (suc (length t)) && is_free n perm.Trunk block t
    then window_began n block asked t else suc (length t)

-- the last moment at which the block was free for writing
unfoldable pub last_window : {w : ℕ} → ℕ → ℕ → Trace w → ℕ
last_window n block [] = 0
last_window n block (x ∷ t) =
    if is_free n perm.Trunk block (x ∷ t) then suc (length t) else last_window n block t

-- ---- the possible values of bytes

-- the request is an AcquirePerm, whose client writes the whole block unread
abbrev pub is_perm_only : OpA → Bool
is_perm_only a.AcquirePerm = true
is_perm_only _ = false

-- there is a request, and it is an AcquirePerm
abbrev pub asks_unread : {w : ℕ} → Option (BeatA w) → Bool
asks_unread None = false
asks_unread (Some x) = is_perm_only x.opcode

-- the response is a Grant that sets the block's bytes: one with data, or one that answers an AcquirePerm
abbrev pub tells_granted : {w : ℕ} → OpD → Option (BeatA w) → Bool
tells_granted d.GrantData asked = true
tells_granted d.Grant asked = asks_unread asked
tells_granted _ asked = false

-- a Grant of the block that sets its bytes is complete with this beat, isn't denied, and wasn't overtaken
abbrev pub tells_by_grant : {w : ℕ} → ℕ → BeatD w → History w → Bool
tells_by_grant block x past =
    grants block x past
    && (not x.denied && (tells_granted x.opcode (request_of x.source past) && not (is_overtaken block x past)))

-- This beat sets the possible values of the block's bytes. It completes a report or a Grant with data, or a Grant that
-- answers an AcquirePerm, after which they may have any value. Or it answers a Release whose last beat is to come: then
-- the bytes of the beats to come may have any value, and the last beat sets nothing.
abbrev pub tells : {w : ℕ} → ℕ → Beat w → History w → Bool
tells block (beat.C x) past =
    ends (beat.C x) past
    && (c_carries_data x.opcode && ((block_at x.address == block) && not (is_released block (beat.C x) past)))
tells block (beat.D x) past =
    ends (beat.D x) past
    && (if is_release_ack x.opcode then is_release_of block x.source (unfinished channel.C past)
    else tells_by_grant block x past)
tells block _ past = false

-- the moment at which a message last set the block's bytes
unfoldable pub last_told : {w : ℕ} → ℕ → Trace w → ℕ
last_told block [] = 0
last_told block (x ∷ t) = if tells block x.1 (on_link x.0.0 t) then suc (length t) else last_told block t

-- the possible values are the same; None is any value
abbrev pub same_value : Option ℕ → Option ℕ → Bool
same_value None None = true
same_value (Some u) (Some v) = u == v
same_value _ _ = false

-- this possible value, and the earlier ones that differ from it
abbrev pub told_too : Telling → List Telling → List Telling
told_too now before = now ∷ filter (λ e. not (same_value e.value now.value)) before

-- The possible values of a byte when the answer to an access that writes it is complete. If the access had one window,
-- which is open, and isn't denied: its own value, and those that became possible since that window began. If no window
-- is open, and a message set the bytes since the block was last free: the values as before. Otherwise its own value and
-- those as before.
abbrev pub after_write : {w : ℕ} → ℕ → ℕ → Access w → Bool → Telling → Trace w → List Telling → List Telling
after_write n block access denied now t before =
    if is_free n perm.Trunk block t
    then if (windows_since n block access.asked t == 1) && not denied
    then told_too now (filter (λ e. nat_le (window_began n block access.asked t) e.moment) before)
    else told_too now before
    else if nat_lt (last_window n block t) (last_told block t) then before else told_too now before

-- the same for the access with this answer, if it is pending and writes the byte at an address
abbrev pub after_answer : {w : ℕ} → ℕ → ℕ → Option (Access w) → List (Beat w) → Trace w → List Telling → List Telling
after_answer n address None answer t before = before
after_answer n address (Some access) answer t before =
    if access_writes address access
    then after_write n (block_at address) access (is_denied answer)
    (record { value = value_left access.request.opcode access answer address; moment = length t }) t before
    else before

-- the same with one more beat on a link: the values change only if it completes an answer
abbrev pub after_beat : {w : ℕ} → ℕ → ℕ → ℕ → Beat w → Trace w → List Telling → List Telling
after_beat n address link (beat.D x) t before =
    if ends_request x (on_link link t)
    then after_answer n address (find (is_of link x.source) (pending_accesses t))
    (beat.D x ∷ unfinished channel.D (on_link link t)) t before
    else before
after_beat n address link _ t before = before

-- with this beat an access is complete, request and answer, whose answer outran its request and that reaches the byte at
-- an address
abbrev pub is_settled : {w : ℕ} → ℕ → Link × Beat w → Trace w → Bool
is_settled address x t = reaches_byte address (settled_by x.0.0 x.1 (on_link x.0.0 t) (outrun_accesses t))

-- the same values, and any value if such an access is complete
abbrev pub after_settling : {w : ℕ} → ℕ → Link × Beat w → Trace w → List Telling → List Telling
after_settling address x t before =
    if is_settled address x t then told_too (record { value = None; moment = length t }) before else before

-- the possible values of the byte at an address, the newest first: any value before the trace
unfoldable pub may_be : {w : ℕ} → ℕ → ℕ → Trace w → List Telling
may_be n address [] = record { value = None; moment = 0 } ∷ []
may_be n address (x ∷ t) =
    if tells (block_at address) x.1 (on_link x.0.0 t)
    then record {
      value = carried_byte (telling_beats x.1 (on_link x.0.0 t)) (address % 64);
      moment = length t;
    } ∷ []
    else after_settling address x t (after_beat n address x.0.0 x.1 t (may_be n address t))

-- ---- the bytes that may be granted, and read

-- the possible value is v, or any
abbrev pub could_be : ℕ → Option ℕ → Bool
could_be v None = true
could_be v (Some u) = u == v

-- one of these possible values is v, or any
abbrev pub told_as : ℕ → List Telling → Bool
told_as v tellings = is_some (find (λ e. could_be v e.value) tellings)

-- one of these accesses may write v at the address
abbrev pub written_as : {w : ℕ} → ℕ → ℕ → List (Access w) → Bool
written_as address v accesses =
    is_some (find (λ x. access_writes address x && could_be v (pending_value x.request.opcode x address)) accesses)

-- one of these accesses, or of those whose answers outran their requests, may write v at the address
abbrev pub may_write : {w : ℕ} → ℕ → ℕ → List (Access w) → List Outrun → Bool
may_write address v accesses outrun = written_as address v accesses || is_outrun address outrun

-- each of these bytes, the first of which is at this address, passes a test
unfoldable pub each_from : (ℕ → ℕ → Bool) → ℕ → List ℕ → Bool
each_from test address [] = true
each_from test address (v ∷ bytes) = test address v && each_from test (address + 1) bytes

-- the trace before the last k beats of channel D of a link
unfoldable pub before_last : {w : ℕ} → ℕ → ℕ → Trace w → Trace w
before_last link zero t = t
before_last link (suc k) [] = []
before_last link (suc k) (x ∷ t) =
    if (x.0.0 == link) && on channel.D x.1 then before_last link k t else before_last link (suc k) t

-- the byte v may be granted after t: it is possible, or a pending access that has had a window may write it
abbrev pub may_grant : {w : ℕ} → ℕ → Trace w → ℕ → ℕ → Bool
may_grant n t address v =
    told_as v (may_be n address t)
    || may_write address v (filter (λ x. nat_lt 0 (windows_since n (block_at address) x.asked t)) (pending_accesses t))
    (outrun_accesses t)

-- the pending accesses without this one
abbrev pub others : {w : ℕ} → Access w → Trace w → List (Access w)
others access t = all_but access.link access.request.source (pending_accesses t)

-- an access may find the byte v: it is possible, or another pending access may write it
abbrev pub may_find : {w : ℕ} → ℕ → Access w → Trace w → ℕ → ℕ → Bool
may_find n access t address v =
    told_as v (may_be n address t) || may_write address v (others access t) (outrun_accesses t)

-- in one of its windows since it was asked for, an access may have found the byte v
unfoldable pub may_read : {w : ℕ} → ℕ → Access w → Trace w → ℕ → ℕ → Bool
may_read n access [] address v = false
may_read n access (x ∷ t) address v =
    nat_le access.asked (suc (length t))
    && ((is_window n (needs access.request.opcode) (block_at address) x t && may_find n access (x ∷ t) address v)
    || may_read n access t address v)

-- the bytes of beat k of a Grant of the block, which began after t, may be granted
abbrev pub grants_truly : {w : ℕ} → ℕ → ℕ → ℕ → BeatD w → Trace w → Bool
grants_truly {w} n block k x t = each_from (may_grant n t) (64 * block + w * k) (lanes_of (beat.D x))

-- the request only reads: it may be served beat by beat
abbrev pub is_get : OpA → Bool
is_get a.Get = true
is_get _ = false

-- The trace after which an access finds its bytes at the latest, if a beat of its answer comes after t and k beats of
-- the answer came before it. A Get finds them before the beat, and another access before its answer begins.
abbrev pub found_after : {w : ℕ} → Option (Access w) → ℕ → ℕ → Trace w → Trace w
found_after None link k t = t
found_after (Some access) link k t = if is_get access.request.opcode then t else before_last link k t

-- an access may have found the requested bytes of beat k of its answer by then
abbrev pub reads_truly : {w : ℕ} → ℕ → Option (Access w) → ℕ → BeatD w → Trace w → Bool
reads_truly n None k x t = true
reads_truly {w} n (Some access) k x t =
    each_from (λ address v. not (reaches access.request.address access.request.size address) || may_read n access t
    address v) (w * (access.request.address / w) + w * k) (lanes_of (beat.D x))

-- M2: the bytes of a beat of a GrantData may be granted. Those that are in doubt aren't judged.
abbrev pub is_true_grant : {w : ℕ} → ℕ → ℕ → BeatD w → Option Request → Trace w → Bool
is_true_grant n link x None t = true
is_true_grant n link x (Some asked) t =
    is_overtaken asked.block x (on_link link t)
    || grants_truly n asked.block (length (unfinished channel.D (on_link link t))) x
    (before_last link (length (unfinished channel.D (on_link link t))) t)

-- M3: the request may have found the bytes of a beat of its AccessAckData
abbrev pub is_true_read : {w : ℕ} → ℕ → ℕ → BeatD w → Trace w → Bool
is_true_read n link x t =
    reads_truly n (find (is_of link x.source) (pending_accesses t)) (length (unfinished channel.D (on_link link t))) x
    (found_after (find (is_of link x.source) (pending_accesses t)) link (length (unfinished channel.D (on_link link t))) t)

-- the bytes of a response are true after t: those that are corrupt or denied aren't judged
abbrev pub is_true : {w : ℕ} → OpD → ℕ → ℕ → BeatD w → Trace w → Bool
is_true d.GrantData n link x t = is_spoiled (beat.D x) || is_true_grant n link x (open_request x.source (on_link link t)) t
is_true d.AccessAckData n link x t = is_spoiled (beat.D x) || is_true_read n link x t
is_true _ n link x t = true
