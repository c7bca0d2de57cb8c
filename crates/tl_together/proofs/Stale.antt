-- Traces whose bytes are stale, and beside each the right one.
use Rattle.std.proofs.Common.{◌≡◌, ℕ, true, refl, List, [], ◌∷◌, ◌++◌}
use Rattle.std.specs.Prelude.{Some, None, replicate}
use Rattle.tl_beat.specs.declared.beat.Beat.{Beat}
use Rattle.tl_beat.specs.declared.beat.Beat.TheVariants as beat
use Rattle.tl_beat.specs.declared.beat.Link.{Link}
use Rattle.tl_burst.specs.statement.Messages.{unfinished}
use Rattle.tl_params.specs.declared.level.Level.{Level}
use Rattle.tl_params.specs.declared.level.Level.TheVariants as level
use Rattle.tl_params.specs.statement.Liberties.{no_liberties}
use Rattle.tl_rules.specs.statement.Admission.{bytes_carried}
use Rattle.tl_rules.specs.statement.Conformance.{Trace, on_link}
use Rattle.tl_rules.specs.statement.Liberties.{broken_after_under, broken_order_under, held_under, illegal_under}
use Rattle.tl_rules.specs.statement.Effect.{effect}
use Rattle.tl_rules.specs.statement.History.{request_of, release_of, probe_of, grant_sink, pending}
use Rattle.tl_rules.specs.statement.Legality.{each_below}
use Rattle.tl_bytes.specs.statement.Early.{outrun_accesses, reported_since}
use Rattle.tl_bytes.specs.statement.Free.{all_liberties, is_free}
use Rattle.tl_bytes.specs.statement.Shown.{had_window}
use Rattle.tl_bytes.specs.statement.Bytes.{before_last, carried_byte, carried_mask, each_from, last_told, last_window}
use Rattle.tl_bytes.specs.statement.Bytes.{may_be, may_read, pending_accesses, window_began, windows_since}
use Rattle.tl_bytes.proofs.WorkedBeats.{acquire, done, eight, found, get, grant_ack, grant_beat, put}
use Rattle.tl_together.specs.declared.breach.Breach.TheVariants.{OfMemory}
use Rattle.tl_params.specs.declared.memory_rule.MemoryRule.TheVariants.{M1, M2, M3, M4}
use Rattle.tl_together.specs.statement.Coherence.{breach_from, first_breach, is_grantable}

abbrev two_caches : List Level
two_caches = level.C ∷ level.C ∷ []

-- eight bytes of block 0 are 5, and then 7
abbrev twice_written : Trace 8 → Trace 8
twice_written rest =
    put 0 0 3 (eight 5) 255 ∷ done 0 0 3 ∷ put 0 0 3 (eight 7) 255 ∷ done 0 0 3 ∷ rest

-- a Grant of the block to the other link, whose first beat brings bytes v
abbrev granted : ℕ → Trace 8
granted v = acquire 1 0 0 255 ∷ grant_beat 1 1 0 0 (eight v) ∷ []

-- a Get of the other link that brings bytes v
abbrev read : ℕ → Trace 8
read v = get 1 0 3 255 ∷ found 1 0 3 (eight v) ∷ []

-- a Grant of what was there before
a_stale_grant : first_breach two_caches no_liberties (twice_written (granted 5)) ≡ Some (5, OfMemory M2)
unfolding breach_from is_free is_grantable had_window on_link unfinished request_of release_of probe_of grant_sink pending
    held_under all_liberties outrun_accesses reported_since
    illegal_under each_below broken_order_under broken_after_under may_be may_read pending_accesses carried_byte
    bytes_carried carried_mask windows_since window_began last_window last_told each_from before_last effect
a_stale_grant = refl

-- of what was written last
a_true_grant : first_breach two_caches no_liberties (twice_written (granted 7)) ≡ None
unfolding breach_from is_free is_grantable had_window on_link unfinished request_of release_of probe_of grant_sink pending
    held_under all_liberties outrun_accesses reported_since
    illegal_under each_below broken_order_under broken_after_under may_be may_read pending_accesses carried_byte
    bytes_carried carried_mask windows_since window_began last_window last_told each_from before_last effect
a_true_grant = refl

-- a Get of what was there before
a_stale_get : first_breach two_caches no_liberties (twice_written (read 5)) ≡ Some (5, OfMemory M3)
unfolding breach_from is_free is_grantable had_window on_link unfinished request_of release_of probe_of grant_sink pending
    held_under all_liberties outrun_accesses reported_since
    illegal_under each_below broken_order_under broken_after_under may_be may_read pending_accesses carried_byte
    bytes_carried carried_mask windows_since window_began last_window last_told each_from before_last effect
a_stale_get = refl

-- of what was written last
a_true_get : first_breach two_caches no_liberties (twice_written (read 7)) ≡ None
unfolding breach_from is_free is_grantable had_window on_link unfinished request_of release_of probe_of grant_sink pending
    held_under all_liberties outrun_accesses reported_since
    illegal_under each_below broken_order_under broken_after_under may_be may_read pending_accesses carried_byte
    bytes_carried carried_mask windows_since window_began last_window last_told each_from before_last effect
a_true_get = refl

-- eight bytes are 5, and a Put of 7 is denied
abbrev denied : Link × Beat 8 → Link × Beat 8
denied (link, beat.D x) = (link, beat.D (record x { denied = true }))
denied x = x

abbrev refused : Trace 8 → Trace 8
refused rest =
    put 0 0 3 (eight 5) 255 ∷ done 0 0 3 ∷ put 0 0 3 (eight 7) 255 ∷ denied (done 0 0 3) ∷ rest

-- a Get of neither
a_get_of_neither : first_breach two_caches no_liberties (refused (read 6)) ≡ Some (5, OfMemory M3)
unfolding breach_from is_free is_grantable had_window on_link unfinished request_of release_of probe_of grant_sink pending
    held_under all_liberties outrun_accesses reported_since
    illegal_under each_below broken_order_under broken_after_under may_be may_read pending_accesses carried_byte
    bytes_carried carried_mask windows_since window_began last_window last_told each_from before_last effect
a_get_of_neither = refl

-- of what was there before
a_get_of_the_old : first_breach two_caches no_liberties (refused (read 5)) ≡ None
unfolding breach_from is_free is_grantable had_window on_link unfinished request_of release_of probe_of grant_sink pending
    held_under all_liberties outrun_accesses reported_since
    illegal_under each_below broken_order_under broken_after_under may_be may_read pending_accesses carried_byte
    bytes_carried carried_mask windows_since window_began last_window last_told each_from before_last effect
a_get_of_the_old = refl

-- of what was denied
a_get_of_the_denied : first_breach two_caches no_liberties (refused (read 7)) ≡ None
unfolding breach_from is_free is_grantable had_window on_link unfinished request_of release_of probe_of grant_sink pending
    held_under all_liberties outrun_accesses reported_since
    illegal_under each_below broken_order_under broken_after_under may_be may_read pending_accesses carried_byte
    bytes_carried carried_mask windows_since window_began last_window last_told each_from before_last effect
a_get_of_the_denied = refl

-- a rule of the Grant itself comes before one of its bytes
a_stale_grant_beside_a_writer : first_breach two_caches no_liberties
    (twice_written
    (acquire 0 1 0 255 ∷ replicate 8 (grant_beat 0 0 0 0 (eight 7)) ++ grant_ack 0 0 ∷ granted 5))
    ≡ Some (15, OfMemory M1)
unfolding breach_from is_free is_grantable had_window on_link unfinished request_of release_of probe_of grant_sink pending
    held_under all_liberties outrun_accesses reported_since
    illegal_under each_below broken_order_under broken_after_under may_be may_read pending_accesses carried_byte
    bytes_carried carried_mask windows_since window_began last_window last_told each_from before_last effect
a_stale_grant_beside_a_writer = refl

-- so does one of its answer, beside a writer
a_stale_get_beside_a_writer : first_breach two_caches no_liberties
    (twice_written
    (acquire 0 1 0 255 ∷ replicate 8 (grant_beat 0 0 0 0 (eight 7)) ++ grant_ack 0 0 ∷ read 5))
    ≡ Some (15, OfMemory M4)
unfolding breach_from is_free is_grantable had_window on_link unfinished request_of release_of probe_of grant_sink pending
    held_under all_liberties outrun_accesses reported_since
    illegal_under each_below broken_order_under broken_after_under may_be may_read pending_accesses carried_byte
    bytes_carried carried_mask windows_since window_began last_window last_told each_from before_last effect
a_stale_get_beside_a_writer = refl

-- sixteen bytes are 5, and a Grant brings v in its second beat
abbrev granted_later : ℕ → Trace 8
granted_later v =
    put 0 0 4 (eight 5) 255 ∷ put 0 0 4 (eight 5) 255 ∷ done 0 0 4 ∷ acquire 1 0 0 255 ∷ grant_beat 1 1 0 0 (eight 5)
    ∷ grant_beat 1 1 0 0 (eight v) ∷ []

-- what was there before, in a beat behind the first
a_stale_second_beat : first_breach two_caches no_liberties (granted_later 4) ≡ Some (5, OfMemory M2)
unfolding breach_from is_free is_grantable had_window on_link unfinished request_of release_of probe_of grant_sink pending
    held_under all_liberties outrun_accesses reported_since
    illegal_under each_below broken_order_under broken_after_under may_be may_read pending_accesses carried_byte
    bytes_carried carried_mask windows_since window_began last_window last_told each_from before_last effect
a_stale_second_beat = refl

-- what was written
a_true_second_beat : first_breach two_caches no_liberties (granted_later 5) ≡ None
unfolding breach_from is_free is_grantable had_window on_link unfinished request_of release_of probe_of grant_sink pending
    held_under all_liberties outrun_accesses reported_since
    illegal_under each_below broken_order_under broken_after_under may_be may_read pending_accesses carried_byte
    bytes_carried carried_mask windows_since window_began last_window last_told each_from before_last effect
a_true_second_beat = refl
