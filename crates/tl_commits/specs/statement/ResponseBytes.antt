-- The values that the bytes of a response may have by its next beat, as M2 and M3 allow.
use Rattle.std.specs.Prelude.{ℕ, Bool, ◌+◌, ◌*◌, ◌/◌, length, Some}
use Rattle.tl_beat.specs.declared.channel.Channel.TheVariants as channel
use Rattle.tl_burst.specs.statement.Messages.{unfinished}
use Rattle.tl_bytes.specs.statement.Bytes.{Access}
use Rattle.tl_rules.specs.declared.past.Request.{Request}
use Rattle.tl_commits.specs.statement.Completeness.{Completeness}
use Rattle.tl_commits.specs.statement.Copies.{link_beats}
use Rattle.tl_commits.specs.statement.Events.{Events}
use Rattle.tl_commits.specs.statement.True.{before_last_seen, found_after_seen, may_answer_seen, may_grant_seen}

-- the number of beats that have come of the unfinished response on a link
abbrev pub beats_come : {w : ℕ} → ℕ → Events w → ℕ
beats_come link e = length (unfinished channel.D (link_beats link e))

-- the byte at an address may be v in a GrantData of which the next beat comes after e
abbrev pub may_be_granted : {w : ℕ} → Completeness → ℕ → ℕ → Events w → ℕ → ℕ → Bool
may_be_granted complete n link e address v =
    may_grant_seen complete n (before_last_seen link (beats_come link e) e) address v

-- the byte at an address may be v in the answer to an access of which the next beat comes after e
abbrev pub may_be_answered : {w : ℕ} → Completeness → ℕ → ℕ → Access w → Events w → ℕ → ℕ → Bool
may_be_answered complete n link access e address v =
    may_answer_seen complete n access (found_after_seen (Some access) link (beats_come link e) e) address v

-- the address of the first byte that the next beat of a GrantData brings
abbrev pub granted_from : {w : ℕ} → ℕ → Request → Events w → ℕ
granted_from {w} link asked e = 64 * asked.block + w * beats_come link e

-- the address of the first byte that the next beat of the answer to an access brings
abbrev pub answered_from : {w : ℕ} → ℕ → Access w → Events w → ℕ
answered_from {w} link access e = w * (access.request.address / w) + w * beats_come link e
