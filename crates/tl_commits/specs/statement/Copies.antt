-- The permission that a link holds of a block, the bytes that a Grant under way has brought, and reports under way.
use Rattle.std.specs.Prelude.{ℕ, Bool, false, not, ◌∷◌, ◌==◌, ◌&&◌, ◌||◌, ◌/◌, ◌%◌, if◌then◌else◌, List, length}
use Rattle.std.specs.Prelude.{nat_lt, Option, Some, None, is_some}
use Rattle.tl_beat.specs.declared.beat.Beat.{Beat}
use Rattle.tl_beat.specs.declared.beat.Beat.TheVariants as beat
use Rattle.tl_beat.specs.declared.channel.Channel.TheVariants as channel
use Rattle.tl_burst.specs.statement.Messages.{History, unfinished}
use Rattle.tl_params.specs.declared.key.Key.TheVariants.{ReleaseOf}
use Rattle.tl_params.specs.declared.perm.Perm.TheVariants as perm
use Rattle.tl_rules.specs.statement.Conformance.{on_link, same_perm}
use Rattle.tl_rules.specs.statement.History.{block_at, grants, is_release, pending}
use Rattle.tl_bytes.specs.statement.Bytes.{carried_byte}
use Rattle.tl_bytes.specs.statement.Free.{may_hold}
use Rattle.tl_commits.specs.statement.Completeness.{Completeness, is_complete}
use Rattle.tl_commits.specs.statement.Events.{Events, beats_of}

-- the beats of a link
abbrev pub link_beats : {w : ℕ} → ℕ → Events w → History w
link_beats link e = on_link link (beats_of e)

-- the link holds Trunk of the block
abbrev pub holds_trunk : {w : ℕ} → ℕ → History w → Bool
holds_trunk block past = same_perm (may_hold block past) perm.Trunk

-- the link holds a permission of the block
abbrev pub holds : {w : ℕ} → ℕ → History w → Bool
holds block past = not (same_perm (may_hold block past) perm.None)

-- these beats, the newest first, are those of a Grant of the block
abbrev pub is_filled_by : {w : ℕ} → ℕ → List (Beat w) → History w → Bool
is_filled_by block (beat.D x ∷ burst) past = grants block x past
is_filled_by block _ past = false

-- a GrantData of the block is under way
abbrev pub is_filling : {w : ℕ} → ℕ → History w → Bool
is_filling block past = is_filled_by block (unfinished channel.D past) past

-- the byte at an address that the beats of an unfinished GrantData of its block have brought; none if its beat is to
-- come
abbrev pub brought : {w : ℕ} → ℕ → History w → Option (Option ℕ)
brought {w} address past =
    if is_filling (block_at address) past && nat_lt (address % 64 / w) (length (unfinished channel.D past))
    then Some (carried_byte (unfinished channel.D past) (address % 64))
    else None

-- these beats, the newest first, are those of a report of the block that has no answer yet
abbrev pub is_given_by : {w : ℕ} → ℕ → List (Beat w) → History w → Bool
is_given_by block (beat.C x ∷ burst) past =
    (block_at x.address == block) && (not (is_release x.opcode) || pending (ReleaseOf block) past)
is_given_by block _ past = false

-- a ProbeAckData or ReleaseData of the block is under way
abbrev pub is_giving : {w : ℕ} → ℕ → History w → Bool
is_giving block past = is_given_by block (unfinished channel.C past) past

-- a core may store to the block: its cache holds Trunk, and no data of the block is under way
abbrev pub may_store : {w : ℕ} → ℕ → History w → Bool
may_store block past = holds_trunk block past && (not (is_filling block past) && not (is_giving block past))

-- a core may load the byte at an address: its cache holds the block, or a Grant under way has brought the byte
abbrev pub may_load : {w : ℕ} → ℕ → History w → Bool
may_load address past = holds (block_at address) past || is_some (brought address past)

-- The bytes of the block in the copy are known from the trace: it has all stores of the link, or the link doesn't hold
-- Trunk.
abbrev pub is_known : {w : ℕ} → Completeness → ℕ → ℕ → History w → Bool
is_known complete link block past = is_complete complete link || not (holds_trunk block past)
