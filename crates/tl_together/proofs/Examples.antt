-- The shortest traces that break a rule of memory, and beside each the right one.
use Rattle.std.proofs.Common.{◌≡◌, ℕ, refl, true, false, List, [], ◌∷◌}
use Rattle.std.specs.Prelude.{Some, None}
use Rattle.tl_beat.specs.declared.beat.Beat.{Beat}
use Rattle.tl_beat.specs.declared.beat.Beat.TheVariants as beat
use Rattle.tl_beat.specs.declared.beat.Link.{Link}
use Rattle.tl_beat.specs.declared.opcode.OpA.TheVariants as a
use Rattle.tl_beat.specs.declared.opcode.OpB.TheVariants as b
use Rattle.tl_beat.specs.declared.opcode.OpC.TheVariants as c
use Rattle.tl_beat.specs.declared.opcode.OpD.TheVariants as d
use Rattle.tl_burst.specs.statement.Messages.{unfinished}
use Rattle.tl_params.specs.declared.level.Level.{Level}
use Rattle.tl_params.specs.declared.level.Level.TheVariants as level
use Rattle.tl_params.specs.declared.liberties.Liberties.{Liberties}
use Rattle.tl_params.specs.statement.Liberties.{no_liberties}
use Rattle.tl_params.specs.declared.rule.Rule.TheVariants.{H2, H12}
use Rattle.tl_rules.specs.statement.Conformance.{Trace, on_link}
use Rattle.tl_rules.specs.statement.Liberties.{broken_after_under, broken_order_under, held_under, illegal_under}
use Rattle.tl_rules.specs.statement.History.{request_of, release_of, probe_of, grant_sink, pending}
use Rattle.tl_rules.specs.statement.Legality.{each_below}
use Rattle.tl_together.specs.declared.breach.Breach.TheVariants.{OfLink, OfMemory}
use Rattle.tl_params.specs.declared.memory_rule.MemoryRule.TheVariants.{M1, M4}
use Rattle.tl_bytes.specs.statement.Early.{outrun_accesses, reported_since}
use Rattle.tl_bytes.specs.statement.Free.{all_liberties, is_free}
use Rattle.tl_bytes.specs.statement.Shown.{had_window}
use Rattle.tl_bytes.specs.statement.Bytes.{before_last, carried_byte, each_from, may_be, may_read, pending_accesses}
use Rattle.tl_together.specs.statement.Coherence.{breach_from, first_breach, is_grantable}

-- beats of 8 bytes of block 0, on these links
abbrev acquire_perm : ℕ → ℕ → Link × Beat 8
acquire_perm link param = (
  record { 0 = link },
  beat.A (record {
    opcode = a.AcquirePerm;
    param = param;
    size = 6;
    source = 0;
    address = 0;
    mask = 255;
    lanes = None;
    corrupt = false;
    carries = refl;
  }),
)

abbrev grant : ℕ → ℕ → ℕ → Link × Beat 8
grant link cap sink = (
  record { 0 = link },
  beat.D (record {
    opcode = d.Grant;
    param = cap;
    size = 6;
    source = 0;
    sink = sink;
    denied = false;
    lanes = None;
    corrupt = false;
    carries = refl;
  }),
)

abbrev grant_ack : ℕ → ℕ → Link × Beat 8
grant_ack link sink = (record { 0 = link }, beat.E (record { sink = sink }))

abbrev probe_perm : ℕ → ℕ → Link × Beat 8
probe_perm link cap = (
  record { 0 = link },
  beat.B (record {
    opcode = b.ProbePerm;
    param = cap;
    size = 6;
    source = 0;
    address = 0;
    mask = 255;
    lanes = None;
    corrupt = false;
    carries = refl;
  }),
)

abbrev probe_block : ℕ → ℕ → Link × Beat 8
probe_block link cap = (
  record { 0 = link },
  beat.B (record {
    opcode = b.ProbeBlock;
    param = cap;
    size = 6;
    source = 0;
    address = 0;
    mask = 255;
    lanes = None;
    corrupt = false;
    carries = refl;
  }),
)

abbrev probe_ack : ℕ → ℕ → Link × Beat 8
probe_ack link report = (
  record { 0 = link },
  beat.C (record {
    opcode = c.ProbeAck;
    param = report;
    size = 6;
    source = 0;
    address = 0;
    lanes = None;
    corrupt = false;
    carries = refl;
  }),
)

abbrev get : ℕ → Link × Beat 8
get link = (
  record { 0 = link },
  beat.A (record {
    opcode = a.Get;
    param = 0;
    size = 3;
    source = 1;
    address = 0;
    mask = 255;
    lanes = None;
    corrupt = false;
    carries = refl;
  }),
)

abbrev eight : List ℕ
eight = 0 ∷ 0 ∷ 0 ∷ 0 ∷ 0 ∷ 0 ∷ 0 ∷ 0 ∷ []

abbrev answer : ℕ → Link × Beat 8
answer link = (
  record { 0 = link },
  beat.D (record {
    opcode = d.AccessAckData;
    param = 0;
    size = 3;
    source = 1;
    sink = 0;
    denied = false;
    lanes = Some eight;
    corrupt = false;
    carries = refl;
  }),
)

-- an answer that is denied, whose bytes are corrupt
abbrev denial : ℕ → Link × Beat 8
denial link = (
  record { 0 = link },
  beat.D (record {
    opcode = d.AccessAckData;
    param = 0;
    size = 3;
    source = 1;
    sink = 0;
    denied = true;
    lanes = Some eight;
    corrupt = true;
    carries = refl;
  }),
)

abbrev two_caches : List Level
two_caches = level.C ∷ level.C ∷ []

-- one link asks for Trunk and has it
abbrev one_writes : Trace 8 → Trace 8
one_writes rest = acquire_perm 0 1 ∷ grant 0 0 0 ∷ grant_ack 0 0 ∷ rest

-- Trunk for both
two_writers : first_breach two_caches no_liberties (one_writes (acquire_perm 1 1 ∷ grant 1 0 1 ∷ [])) ≡ Some
    (4, OfMemory M1)
unfolding breach_from is_free is_grantable had_window on_link unfinished request_of release_of probe_of grant_sink pending
    held_under all_liberties outrun_accesses reported_since
    illegal_under each_below broken_order_under broken_after_under pending_accesses each_from may_read before_last may_be
    carried_byte
two_writers = refl

-- a copy beside Trunk
a_reader_beside_a_writer : first_breach two_caches no_liberties (one_writes (acquire_perm 1 0 ∷ grant 1 1 1 ∷ [])) ≡ Some
    (4, OfMemory M1)
unfolding breach_from is_free is_grantable had_window on_link unfinished request_of release_of probe_of grant_sink pending
    held_under all_liberties outrun_accesses reported_since
    illegal_under each_below broken_order_under broken_after_under pending_accesses each_from may_read before_last may_be
    carried_byte
a_reader_beside_a_writer = refl

-- the first has given all up
one_after_the_other : first_breach two_caches no_liberties
    (one_writes (acquire_perm 1 1 ∷ probe_perm 0 2 ∷ probe_ack 0 1 ∷ grant 1 0 1 ∷ [])) ≡ None
unfolding breach_from is_free is_grantable had_window on_link unfinished request_of release_of probe_of grant_sink pending
    held_under all_liberties outrun_accesses reported_since
    illegal_under each_below broken_order_under broken_after_under pending_accesses each_from may_read before_last may_be
    carried_byte
one_after_the_other = refl

-- the first has kept a copy, and the second has one
two_readers : first_breach two_caches no_liberties
    (one_writes (acquire_perm 1 0 ∷ probe_perm 0 1 ∷ probe_ack 0 0 ∷ grant 1 1 1 ∷ [])) ≡ None
unfolding breach_from is_free is_grantable had_window on_link unfinished request_of release_of probe_of grant_sink pending
    held_under all_liberties outrun_accesses reported_since
    illegal_under each_below broken_order_under broken_after_under pending_accesses each_from may_read before_last may_be
    carried_byte
two_readers = refl

-- one block for both: each asks for it with its bytes, and the first beats of both answers
abbrev acquire_block : ℕ → ℕ → Link × Beat 8
acquire_block link param = (
  record { 0 = link },
  beat.A (record {
    opcode = a.AcquireBlock;
    param = param;
    size = 6;
    source = 0;
    address = 0;
    mask = 255;
    lanes = None;
    corrupt = false;
    carries = refl;
  }),
)

abbrev grant_data : ℕ → ℕ → ℕ → Link × Beat 8
grant_data link cap sink = (
  record { 0 = link },
  beat.D (record {
    opcode = d.GrantData;
    param = cap;
    size = 6;
    source = 0;
    sink = sink;
    denied = false;
    lanes = Some eight;
    corrupt = false;
    carries = refl;
  }),
)

granted_to_both : first_breach two_caches no_liberties
    (acquire_block 0 1 ∷ acquire_block 1 1 ∷ grant_data 0 0 0 ∷ grant_data 1 0 1 ∷ []) ≡ Some (3, OfMemory M1)
unfolding breach_from is_free is_grantable had_window on_link unfinished request_of release_of probe_of grant_sink pending
    held_under all_liberties outrun_accesses reported_since illegal_under each_below broken_order_under broken_after_under pending_accesses each_from may_read before_last may_be
    carried_byte
granted_to_both = refl

-- to read, both may
granted_to_readers : first_breach two_caches no_liberties
    (acquire_block 0 0 ∷ acquire_block 1 0 ∷ grant_data 0 1 0 ∷ grant_data 1 1 1 ∷ []) ≡ None
unfolding breach_from is_free is_grantable had_window on_link unfinished request_of release_of probe_of grant_sink pending
    held_under all_liberties outrun_accesses reported_since illegal_under each_below broken_order_under broken_after_under pending_accesses each_from may_read before_last may_be
    carried_byte
granted_to_readers = refl

-- a Get that is answered while another link may write
a_get_beside_a_writer : first_breach two_caches no_liberties (one_writes (get 1 ∷ answer 1 ∷ [])) ≡ Some (4, OfMemory M4)
unfolding breach_from is_free is_grantable had_window on_link unfinished request_of release_of probe_of grant_sink pending
    held_under all_liberties outrun_accesses reported_since
    illegal_under each_below broken_order_under broken_after_under pending_accesses each_from may_read before_last may_be
    carried_byte
a_get_beside_a_writer = refl

-- an access that is denied isn't performed, and needs no moment
a_denied_get_beside_a_writer : first_breach two_caches no_liberties (one_writes (get 1 ∷ denial 1 ∷ [])) ≡ None
unfolding breach_from is_free is_grantable had_window on_link unfinished request_of release_of probe_of grant_sink pending
    held_under all_liberties outrun_accesses reported_since
    illegal_under each_below broken_order_under broken_after_under pending_accesses each_from may_read before_last may_be
    carried_byte
a_denied_get_beside_a_writer = refl

-- the other has become a reader first
a_get_after_a_probe : first_breach two_caches no_liberties
    (one_writes (get 1 ∷ probe_perm 0 1 ∷ probe_ack 0 0 ∷ answer 1 ∷ [])) ≡ None
unfolding breach_from is_free is_grantable had_window on_link unfinished request_of release_of probe_of grant_sink pending
    held_under all_liberties outrun_accesses reported_since
    illegal_under each_below broken_order_under broken_after_under pending_accesses each_from may_read before_last may_be
    carried_byte
a_get_after_a_probe = refl

-- the other stays a writer, and its report says that it has written nothing
a_get_that_is_shown : first_breach two_caches no_liberties
    (one_writes (get 1 ∷ probe_block 0 0 ∷ probe_ack 0 3 ∷ answer 1 ∷ [])) ≡ None
unfolding breach_from is_free is_grantable had_window on_link unfinished request_of release_of probe_of grant_sink pending
    held_under all_liberties outrun_accesses reported_since
    illegal_under each_below broken_order_under broken_after_under pending_accesses each_from may_read before_last may_be
    carried_byte
a_get_that_is_shown = refl

-- the answer to a ProbePerm doesn't say so
a_get_that_is_shown_nothing : first_breach two_caches no_liberties
    (one_writes (get 1 ∷ probe_perm 0 0 ∷ probe_ack 0 3 ∷ answer 1 ∷ [])) ≡ Some (6, OfMemory M4)
unfolding breach_from is_free is_grantable had_window on_link unfinished request_of release_of probe_of grant_sink pending
    held_under all_liberties outrun_accesses reported_since
    illegal_under each_below broken_order_under broken_after_under pending_accesses each_from may_read before_last may_be
    carried_byte
a_get_that_is_shown_nothing = refl

-- and what it said before the Get is over
a_get_that_is_shown_too_early : first_breach two_caches no_liberties
    (one_writes (probe_block 0 0 ∷ probe_ack 0 3 ∷ get 1 ∷ answer 1 ∷ [])) ≡ Some (6, OfMemory M4)
unfolding breach_from is_free is_grantable had_window on_link unfinished request_of release_of probe_of grant_sink pending
    held_under all_liberties outrun_accesses reported_since
    illegal_under each_below broken_order_under broken_after_under pending_accesses each_from may_read before_last may_be
    carried_byte
a_get_that_is_shown_too_early = refl

-- the Get was performed before the other became a writer, and its answer comes later
a_late_answer : first_breach two_caches no_liberties (get 1 ∷ one_writes (answer 1 ∷ [])) ≡ None
unfolding breach_from is_free is_grantable had_window on_link unfinished request_of release_of probe_of grant_sink pending
    held_under all_liberties outrun_accesses reported_since
    illegal_under each_below broken_order_under broken_after_under pending_accesses each_from may_read before_last may_be
    carried_byte
a_late_answer = refl

-- a broken rule of the link comes first
a_rule_of_the_link : first_breach two_caches no_liberties (one_writes (grant 1 0 1 ∷ [])) ≡ Some (3, OfLink H2)
unfolding breach_from is_free is_grantable had_window on_link unfinished request_of release_of probe_of grant_sink pending
    held_under all_liberties outrun_accesses reported_since
    illegal_under each_below broken_order_under broken_after_under pending_accesses each_from may_read before_last may_be
    carried_byte
a_rule_of_the_link = refl

-- ---- under liberties

abbrev drops : Liberties
drops = record no_liberties { drops = true }

abbrev denies : Liberties
denies = record no_liberties { denied = true }

-- the first has dropped its copy, and says so when it is probed
gone_without_a_word : first_breach two_caches drops
    (one_writes (acquire_perm 1 1 ∷ probe_perm 0 2 ∷ probe_ack 0 5 ∷ grant 1 0 1 ∷ [])) ≡ None
unfolding breach_from is_free is_grantable had_window on_link unfinished request_of release_of probe_of grant_sink pending
    held_under all_liberties outrun_accesses reported_since
    illegal_under each_below broken_order_under broken_after_under pending_accesses each_from may_read before_last may_be
    carried_byte
gone_without_a_word = refl

-- which its link mustn't do without the liberty
gone_against_the_rules : first_breach two_caches no_liberties
    (one_writes (acquire_perm 1 1 ∷ probe_perm 0 2 ∷ probe_ack 0 5 ∷ grant 1 0 1 ∷ [])) ≡ Some (5, OfLink H12)
unfolding breach_from is_free is_grantable had_window on_link unfinished request_of release_of probe_of grant_sink pending
    held_under all_liberties outrun_accesses reported_since
    illegal_under each_below broken_order_under broken_after_under pending_accesses each_from may_read before_last may_be
    carried_byte
gone_against_the_rules = refl

-- while it has said nothing it may still be a writer
granted_unasked : first_breach two_caches drops (one_writes (acquire_perm 1 1 ∷ grant 1 0 1 ∷ [])) ≡ Some
    (4, OfMemory M1)
unfolding breach_from is_free is_grantable had_window on_link unfinished request_of release_of probe_of grant_sink pending
    held_under all_liberties outrun_accesses reported_since
    illegal_under each_below broken_order_under broken_after_under pending_accesses each_from may_read before_last may_be
    carried_byte
granted_unasked = refl

abbrev denied_grant : ℕ → ℕ → ℕ → Link × Beat 8
denied_grant link cap sink = (
  record { 0 = link },
  beat.D (record {
    opcode = d.Grant;
    param = cap;
    size = 6;
    source = 0;
    sink = sink;
    denied = true;
    lanes = None;
    corrupt = false;
    carries = refl;
  }),
)

-- a Grant that is denied gives nothing, beside a writer and for another to come
denied_beside_a_writer : first_breach two_caches denies (one_writes (acquire_perm 1 1 ∷ denied_grant 1 0 1 ∷ [])) ≡ None
unfolding breach_from is_free is_grantable had_window on_link unfinished request_of release_of probe_of grant_sink pending
    held_under all_liberties outrun_accesses reported_since
    illegal_under each_below broken_order_under broken_after_under pending_accesses each_from may_read before_last may_be
    carried_byte
denied_beside_a_writer = refl

granted_after_a_denial : first_breach two_caches denies
    (acquire_perm 0 1 ∷ denied_grant 0 0 0 ∷ grant_ack 0 0 ∷ acquire_perm 1 1 ∷ grant 1 0 1 ∷ []) ≡ None
unfolding breach_from is_free is_grantable had_window on_link unfinished request_of release_of probe_of grant_sink pending
    held_under all_liberties outrun_accesses reported_since
    illegal_under each_below broken_order_under broken_after_under pending_accesses each_from may_read before_last may_be
    carried_byte
granted_after_a_denial = refl
