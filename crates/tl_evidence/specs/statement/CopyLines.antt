-- The lines about bytes of a copy: those that a load or a report has and can't have, and stored ones that are lost.
use Rattle.std.specs.Hash.{le_bytes}
use Rattle.std.specs.Prelude.{ℕ, zero, suc, Bool, false, [], ◌++◌, ◌+◌, ◌*◌, ◌^◌, if◌then◌else◌, codes, List, length, nat_lt}
use Rattle.std.specs.Prelude.{Option}
use Rattle.tl_beat.specs.declared.beat.Beat.{Beat}
use Rattle.tl_beat.specs.declared.beat.Beat.TheVariants as beat
use Rattle.tl_beat.specs.declared.beat.BeatC.{BeatC}
use Rattle.tl_beat.specs.declared.channel.Channel.TheVariants as channel
use Rattle.tl_beat.specs.statement.Opcode.{c_carries_data}
use Rattle.tl_burst.specs.statement.Messages.{unfinished}
use Rattle.tl_bytes.specs.statement.Bytes.{told_as}
use Rattle.tl_commits.specs.statement.Completeness.{Completeness}
use Rattle.tl_commits.specs.statement.Commits.{is_kept, may_bring, may_give}
use Rattle.tl_commits.specs.statement.Copied.{copy_values}
use Rattle.tl_commits.specs.statement.Copies.{link_beats}
use Rattle.tl_commits.specs.statement.Events.{Events, at_some, beats_of}
use Rattle.tl_commits.specs.statement.Seen.{memory_may}
use Rattle.tl_events.specs.declared.commit.Commit.{Commit}
use Rattle.tl_events.specs.declared.commit.Commit.TheVariants as commit
use Rattle.tl_events.specs.declared.commit.Event.{Event}
use Rattle.tl_events.specs.declared.commit.Event.TheVariants as event
use Rattle.tl_events.specs.declared.commit.Piece.{Piece}
use Rattle.tl_events.specs.declared.rule.CommitRule.{CommitRule}
use Rattle.tl_events.specs.declared.rule.CommitRule.TheVariants.{M5}
use Rattle.tl_rules.specs.statement.Admission.{lanes_of}
use Rattle.tl_rules.specs.statement.History.{block_at}
use Rattle.tl_witness.specs.statement.Naming.{Naming}
use Rattle.tl_witness.specs.statement.Strays.{more_text, strays_text, values_text}
use Rattle.tl_evidence.specs.statement.SetLines.{set_at}

-- ---- the lines that set the values of a byte

-- of the byte at an address in the copy of a link: the number of events before the one that set a value there, a store,
-- a load or a beat
abbrev pub set_in_copy : {w : ℕ} → Completeness → ℕ → ℕ → Events w → ℕ → ℕ → Option ℕ
set_in_copy complete n link e address v = set_at (copy_values complete n link address) v e

-- of that byte in memory, if no copy is given back
abbrev pub set_in_memory : {w : ℕ} → Bool → ℕ → Events w → ℕ → ℕ → Option ℕ
set_in_memory from_zero n e address v = set_at (λ e. memory_may from_zero n address (beats_of e)) v e

-- ---- bytes that came

-- M6: the bytes of a load that it can't have loaded at any moment since it began, each with all that it may have loaded
abbrev pub loaded_lines : {w : ℕ} → Naming → Completeness → ℕ → ℕ → Piece → ℕ → Events w → List ℕ
loaded_lines names complete n link piece value e =
    strays_text names (λ address v. at_some (may_bring complete n link address v) link piece e)
    (set_in_copy complete n link e) 0 piece.address (le_bytes (2 ^ piece.size) value)

-- M7: the bytes of a beat of a report that it can't give back, each with all that it may give back
abbrev pub given_lines : {w : ℕ} → Naming → Completeness → ℕ → ℕ → BeatC w → Events w → List ℕ
given_lines {w} names complete n link x e =
    strays_text names (may_give complete n link e) (set_in_copy complete n link e) 0
    (64 * block_at x.address + w * length (unfinished channel.C (link_beats link e))) (lanes_of (beat.C x))

-- ---- bytes that are lost

-- the line of a byte that was stored and can't have a value of memory: all its values in the copy, and those in memory
unfoldable pub lost_line : {w : ℕ} → Naming → Completeness → ℕ → ℕ → ℕ → Events w → List ℕ
lost_line names complete n link address e =
    codes "  byte " ++ (names.address address ++ (codes " of the copy was stored"
    ++ (values_text names (λ v. told_as v (copy_values complete n link address e))
    (set_in_copy complete n link e address) false 256 0
    ++ (codes "; that of memory wasn't"
    ++ (values_text names (λ v. told_as v (memory_may complete.zero n address (beats_of e)))
    (set_in_memory complete.zero n e address) false 256 0 ++ codes "\n")))))

-- the line of such a byte after so many others; only the first eight have one
abbrev pub counted_line : {w : ℕ} → Naming → Completeness → ℕ → ℕ → ℕ → ℕ → Events w → List ℕ
counted_line names complete n link others address e = if nat_lt others 8 then lost_line names complete n link address e else []

-- the lines of those of the next bytes, from an address on, that are such, after so many others
unfoldable pub lost_from : {w : ℕ} → Naming → Completeness → ℕ → ℕ → ℕ → ℕ → ℕ → Events w → List ℕ
lost_from names complete n link others address zero e = more_text others
lost_from names complete n link others address (suc bytes) e =
    if is_kept complete n address e then lost_from names complete n link others (address + 1) bytes e else
    counted_line names complete n link others address e ++ lost_from names complete n link (others + 1) (address + 1) bytes e

-- M7: those of a block
abbrev pub lost_lines : {w : ℕ} → Naming → Completeness → ℕ → ℕ → ℕ → Events w → List ℕ
lost_lines names complete n link block e = lost_from names complete n link 0 (64 * block) 64 e

-- ---- all

-- the lines for a beat on one of n links
abbrev pub beat_lines : {w : ℕ} → Naming → Completeness → ℕ → ℕ → Beat w → Events w → List ℕ
beat_lines names complete n link (beat.A x) e = lost_lines names complete n link (block_at x.address) e
beat_lines names complete n link (beat.C x) e =
    if c_carries_data x.opcode then given_lines names complete n link x e
    else lost_lines names complete n link (block_at x.address) e
beat_lines names complete n link _ e = []

-- the lines for a store or a load
abbrev pub commit_lines : {w : ℕ} → Naming → Completeness → ℕ → ℕ → Commit → Events w → List ℕ
commit_lines names complete n link (commit.Load piece value) e = loaded_lines names complete n link piece value e
commit_lines names complete n link _ e = []

-- the lines for an event
abbrev pub event_lines : {w : ℕ} → Naming → Completeness → ℕ → ℕ → Event w → Events w → List ℕ
event_lines names complete n link (event.Commit x) e = commit_lines names complete n link x e
event_lines names complete n link (event.Beat x) e = beat_lines names complete n link x e

-- for the breach of a rule of stores and loads after e: M5 is about no values
abbrev pub copy_lines : {w : ℕ} → Naming → CommitRule → Completeness → ℕ → ℕ → Event w → Events w → List ℕ
copy_lines names M5 complete n link x e = []
copy_lines names _ complete n link x e = event_lines names complete n link x e
