-- The rules M5 to M7: commits that a cache can't have made, and reports that lose or change stored bytes.
use Rattle.std.specs.Prelude.{ℕ, Bool, true, not, ◌&&◌, ◌||◌, ◌+◌, ◌*◌, ◌^◌, if◌then◌else◌, List, find}
use Rattle.std.specs.Prelude.{length, Option, Some, None, is_some}
use Rattle.tl_beat.specs.declared.beat.Beat.{Beat}
use Rattle.tl_beat.specs.declared.beat.Beat.TheVariants as beat
use Rattle.tl_beat.specs.declared.beat.BeatC.{BeatC}
use Rattle.tl_beat.specs.declared.channel.Channel.TheVariants as channel
use Rattle.tl_beat.specs.statement.Opcode.{c_carries_data}
use Rattle.tl_burst.specs.statement.Messages.{History, unfinished}
use Rattle.tl_params.specs.declared.perm.Perm.TheVariants as perm
use Rattle.tl_rules.specs.statement.OpenMessages.{open_probe}
use Rattle.tl_rules.specs.statement.Admission.{is_spoiled, lanes_of}
use Rattle.tl_rules.specs.statement.Conformance.{same_perm}
use Rattle.tl_rules.specs.statement.History.{block_at, is_acquire, reported}
use Rattle.tl_rules.specs.statement.Legality.{each_below}
use Rattle.tl_rules.specs.statement.Liberties.{grows_from_none}
use Rattle.tl_bytes.specs.declared.telling.Telling.{Telling}
use Rattle.tl_bytes.specs.statement.Bytes.{could_be, each_from, told_as}
use Rattle.tl_bytes.specs.statement.Early.{is_released}
use Rattle.tl_events.specs.declared.commit.Commit.{Commit}
use Rattle.tl_events.specs.declared.commit.Commit.TheVariants as commit
use Rattle.tl_events.specs.declared.commit.Piece.{Piece}
use Rattle.tl_events.specs.declared.rule.CommitRule.{CommitRule}
use Rattle.tl_events.specs.declared.rule.CommitRule.TheVariants.{M5, M6, M7}
use Rattle.tl_commits.specs.statement.Completeness.{Completeness, is_complete}
use Rattle.tl_commits.specs.statement.Copies.{brought, holds, holds_trunk, is_known, link_beats, may_load}
use Rattle.tl_commits.specs.statement.Copies.{may_store}
use Rattle.tl_commits.specs.statement.Events.{Events, at_some, beats_of}
use Rattle.tl_commits.specs.statement.Seen.{asks_nothing, byte_in, is_plain_ack, memory_may, seen, values_seen}

-- ---- M5 and M6

-- the test passes for each byte of the piece
abbrev pub each_byte : Piece → (ℕ → Bool) → Bool
each_byte piece test = each_below (2 ^ piece.size) (λ i. test (piece.address + i))

-- a core may load the byte at an address now
abbrev pub is_loadable : {w : ℕ} → ℕ → ℕ → Events w → Bool
is_loadable link address e = may_load address (link_beats link e)

-- the copy that a link holds may have the byte v: it isn't known, or v is a possible value
abbrev pub may_have : {w : ℕ} → Completeness → ℕ → ℕ → ℕ → ℕ → Events w → Bool
may_have complete n link address v e =
    holds (block_at address) (link_beats link e)
    && (not (is_known complete link (block_at address) (link_beats link e)) || told_as v
    (values_seen complete n address e))

-- a load may bring the byte v, given the byte that a Grant under way has brought
abbrev pub brings : {w : ℕ} → Option (Option ℕ) → Completeness → ℕ → ℕ → ℕ → ℕ → Events w → Bool
brings None complete n link address v e = may_have complete n link address v e
brings (Some value) complete n link address v e = could_be v value

-- a load may bring the byte v now
abbrev pub may_bring : {w : ℕ} → Completeness → ℕ → ℕ → ℕ → ℕ → Events w → Bool
may_bring complete n link address v e = brings (brought address (link_beats link e)) complete n link address v e

-- the rule that a store breaks
abbrev pub broken_store : {w : ℕ} → ℕ → Piece → Events w → Option CommitRule
broken_store link piece e = if may_store (block_at piece.address) (link_beats link e) then None else Some M5

-- a core may load each byte of the piece now
abbrev pub is_piece_loadable : {w : ℕ} → ℕ → Piece → Events w → Bool
is_piece_loadable link piece e = each_byte piece (λ address. is_loadable link address e)

-- at no moment of the load could the piece be loaded
abbrev pub lacks_copy : {w : ℕ} → ℕ → Piece → Events w → Bool
lacks_copy link piece e = not (at_some (is_piece_loadable link piece) link piece e)

-- the rule that a load breaks: at no moment could the piece be loaded, or a byte of it could at no moment be this one
abbrev pub broken_load : {w : ℕ} → Completeness → ℕ → ℕ → Piece → ℕ → Events w → Option CommitRule
broken_load complete n link piece value e =
    if lacks_copy link piece e then Some M5 else
    if not (each_byte piece (λ address. at_some (may_bring complete n link address (byte_in piece value address)) link
    piece e)) then Some M6 else None

-- the rule that a commit breaks
abbrev pub broken_commit : {w : ℕ} → Completeness → ℕ → ℕ → Commit → Events w → Option CommitRule
broken_commit complete n link (commit.Store piece value) e = broken_store link piece e
broken_commit complete n link (commit.Load piece value) e = broken_load complete n link piece value e
broken_commit complete n link (commit.Begin piece) e = None

-- ---- M7

-- the possible values have one in common; None is any value
abbrev pub agree : Option ℕ → Option ℕ → Bool
agree None v = true
agree (Some u) v = could_be u v

-- one of these possible values may be one of those
abbrev pub have_common : List Telling → List Telling → Bool
have_common these those = is_some (find (λ x. is_some (find (λ y. agree x.value y.value) those)) these)

-- the byte at an address may have a value that memory may have, if it was stored
abbrev pub is_kept : {w : ℕ} → Completeness → ℕ → ℕ → Events w → Bool
is_kept complete n address e =
    not (seen complete n address e).stored
    || have_common (values_seen complete n address e) (memory_may complete.zero n address (beats_of e))

-- so may each byte of the block that was stored
abbrev pub is_clean : {w : ℕ} → Completeness → ℕ → ℕ → Events w → Bool
is_clean complete n block e = each_below 64 (λ place. is_kept complete n (64 * block + place) e)

-- a report may give back the byte v, given the byte that a Grant under way has brought
abbrev pub gives : {w : ℕ} → Option (Option ℕ) → Completeness → ℕ → ℕ → ℕ → Events w → Bool
gives None complete n address v e = told_as v (values_seen complete n address e)
gives (Some value) complete n address v e = could_be v value

-- a report of a link may give back the byte v
abbrev pub may_give : {w : ℕ} → Completeness → ℕ → ℕ → Events w → ℕ → ℕ → Bool
may_give complete n link e address v = gives (brought address (link_beats link e)) complete n address v e

-- the copy may have the bytes of a beat of a report; those of a report that is answered aren't judged, nor
-- those of a link of which the trace doesn't have all stores
abbrev pub gives_truly : {w : ℕ} → Completeness → ℕ → ℕ → BeatC w → Events w → Bool
gives_truly {w} complete n link x e =
    not (is_complete complete link)
    || (is_released (block_at x.address) (beat.C x) (link_beats link e)
    || (is_spoiled (beat.C x)
    || each_from (may_give complete n link e)
    (64 * block_at x.address + w * length (unfinished channel.C (link_beats link e))) (lanes_of (beat.C x))))

-- the beat takes Trunk of this block away without data
abbrev pub takes_trunk : {w : ℕ} → Beat w → History w → Option ℕ
takes_trunk (beat.A x) past =
    if (is_acquire x.opcode && grows_from_none x.param) && holds_trunk (block_at x.address) past
    then Some (block_at x.address) else None
takes_trunk (beat.C x) past =
    if not (same_perm (reported x.param) perm.Trunk)
    && (holds_trunk (block_at x.address) past
    && not (is_plain_ack x.opcode && asks_nothing (open_probe (block_at x.address) past)))
    then Some (block_at x.address) else None
takes_trunk _ past = None

-- no byte that was stored to this block is lost, if there is one and all stores of the link are in the trace
abbrev pub keeps_stores : {w : ℕ} → Completeness → ℕ → ℕ → Option ℕ → Events w → Bool
keeps_stores complete n link None e = true
keeps_stores complete n link (Some block) e = not (is_complete complete link) || is_clean complete n block e

-- the beat gives back bytes that the copy may have
abbrev pub gives_back : {w : ℕ} → Completeness → ℕ → ℕ → Beat w → Events w → Bool
gives_back complete n link (beat.C x) e =
    if c_carries_data x.opcode then gives_truly complete n link x e else
    keeps_stores complete n link (takes_trunk (beat.C x) (link_beats link e)) e
gives_back complete n link x e = keeps_stores complete n link (takes_trunk x (link_beats link e)) e

-- M7, at each beat of a report, and at an Acquire that says that a copy is gone
abbrev pub broken_report : {w : ℕ} → Completeness → ℕ → ℕ → Beat w → Events w → Option CommitRule
broken_report complete n link x e = if gives_back complete n link x e then None else Some M7
