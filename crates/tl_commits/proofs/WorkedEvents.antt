-- Events of worked traces: beats of 16 bytes of block 0, and what cores store and load there.
use Rattle.std.proofs.Common.{ℕ, refl, true, false, List, [], ◌∷◌, ◌++◌}
use Rattle.std.specs.Prelude.{map, None}
use Rattle.tl_beat.specs.declared.beat.Beat.{Beat}
use Rattle.tl_beat.specs.declared.beat.Beat.TheVariants as beat
use Rattle.tl_beat.specs.declared.beat.Link.{Link}
use Rattle.tl_beat.specs.declared.opcode.OpB.TheVariants as b
use Rattle.tl_bytes.proofs.WorkedBeats.{acquire, acquire_unread, four, given_up, grant_ack, grant_beat, grant_unread}
use Rattle.tl_bytes.proofs.WorkedBeats.{wide}
use Rattle.tl_params.specs.declared.level.Level.{Level}
use Rattle.tl_params.specs.declared.level.Level.TheVariants as level
use Rattle.tl_rules.specs.statement.Conformance.{Trace, on_link}
use Rattle.tl_events.specs.declared.commit.Commit.TheVariants as commit
use Rattle.tl_events.specs.declared.commit.Event.{Event}
use Rattle.tl_events.specs.declared.commit.Event.TheVariants as event
use Rattle.tl_events.specs.declared.commit.Piece.{Piece}
use Rattle.tl_commits.specs.statement.Completeness.{Completeness, with_stores}
use Rattle.tl_commits.specs.statement.Events.{Events, beats_of, is_loading, since_begun}
use Rattle.tl_burst.specs.statement.Messages.{unfinished}
use Rattle.tl_bytes.specs.statement.Bytes.{carried_byte, each_from, last_told, last_window, pending_accesses}
use Rattle.tl_bytes.specs.statement.Bytes.{window_began, windows_since}
use Rattle.tl_bytes.specs.statement.Early.{outrun_accesses, reported_since}
use Rattle.tl_bytes.specs.statement.Free.{all_liberties, is_free}
use Rattle.tl_bytes.specs.statement.Shown.{had_window}
use Rattle.tl_rules.specs.statement.History.{grant_sink, pending, probe_of, release_of, request_of}
use Rattle.tl_rules.specs.statement.Legality.{each_below}
use Rattle.tl_rules.specs.statement.Liberties.{broken_after_under, broken_order_under, held_under, illegal_under}
use Rattle.tl_together.specs.statement.Coherence.{is_grantable}
use Rattle.tl_commits.specs.statement.Breaches.{commit_breach_from}
use Rattle.tl_commits.specs.statement.Seen.{memory_may, seen}
use Rattle.tl_commits.specs.statement.True.{before_last_seen, may_read_seen}

abbrev pub two_caches : List Level
two_caches = level.C ∷ level.C ∷ []

-- all stores of both links are in the trace
abbrev pub all_told : Completeness
all_told = with_stores (true ∷ true ∷ [])

-- beats alone
abbrev pub beats : {w : ℕ} → Trace w → Events w
beats t = map (λ x. (x.0, event.Beat x.1)) t

abbrev pub piece : ℕ → ℕ → Piece
piece size address = record { size = size; address = address }

abbrev pub stores : {w : ℕ} → ℕ → ℕ → ℕ → ℕ → Link × Event w
stores link size address value = (record { 0 = link }, event.Commit (commit.Store (piece size address) value))

abbrev pub loads : {w : ℕ} → ℕ → ℕ → ℕ → ℕ → Link × Event w
loads link size address value = (record { 0 = link }, event.Commit (commit.Load (piece size address) value))

abbrev pub begins_to_load : {w : ℕ} → ℕ → ℕ → ℕ → Link × Event w
begins_to_load link size address = (record { 0 = link }, event.Commit (commit.Begin (piece size address)))

-- a Probe that leaves nothing, and one that asks for no data
abbrev pub probe_block : Link × Beat 16
probe_block = (
  record { 0 = 0 },
  beat.B (record {
    opcode = b.ProbeBlock;
    param = 2;
    size = 6;
    source = 0;
    address = 0;
    mask = 65535;
    lanes = None;
    corrupt = false;
    carries = refl;
  }),
)

abbrev pub probe_perm : Link × Beat 16
probe_perm = (
  record { 0 = 0 },
  beat.B (record {
    opcode = b.ProbePerm;
    param = 2;
    size = 6;
    source = 0;
    address = 0;
    mask = 65535;
    lanes = None;
    corrupt = false;
    carries = refl;
  }),
)

-- link 0 is granted a copy of bytes 5 to write, in six beats
abbrev pub writer : Events 16 → Events 16
writer rest = beats (acquire 0 1 0 65535 ∷ four (grant_beat 0 0 0 0 (wide 5)) ++ grant_ack 0 0 ∷ []) ++ rest

-- or to read
abbrev pub reader : Events 16 → Events 16
reader rest = beats (acquire 0 0 0 65535 ∷ four (grant_beat 0 1 0 0 (wide 5)) ++ grant_ack 0 0 ∷ []) ++ rest

-- only the first beat of such a copy has come
abbrev pub filling : Events 16 → Events 16
filling rest = beats (acquire 0 1 0 65535 ∷ grant_beat 0 0 0 0 (wide 5) ∷ []) ++ rest

-- link 0 may write the block, unread
abbrev pub unread : Events 16 → Events 16
unread rest = beats (acquire_unread 0 0 65535 ∷ grant_unread 0 0 0 ∷ grant_ack 0 0 ∷ []) ++ rest

-- link 0 gives all up, probed so, and sends no data
abbrev pub gives_up : Link × Beat 16 → Events 16
gives_up probe = beats (probe ∷ given_up 0 ∷ [])

-- All that a trace is judged with. A proof that unfolds this unfolds that.
unfoldable pub judging : Unit {0}
unfolding commit_breach_from seen memory_may beats_of is_loading since_begun may_read_seen before_last_seen is_free
    is_grantable had_window on_link unfinished request_of release_of probe_of grant_sink pending held_under
    all_liberties outrun_accesses reported_since illegal_under each_below broken_order_under broken_after_under
    pending_accesses each_from carried_byte windows_since window_began last_window last_told
judging = tt
