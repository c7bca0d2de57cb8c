-- Worked traces of blocks that go from link to link: what a Grant may tell of their bytes, and a read bring.
use Rattle.tl_bytes.proofs.Imports.{unfinished, Trace, on_link, is_free, may_be, may_read, pending_accesses}
use Rattle.tl_bytes.proofs.Imports.{carried_byte, windows_since, window_began, last_window, last_told}
use Rattle.std.proofs.Common.{◌≡◌, ℕ, refl, List, [], ◌∷◌, ◌++◌}
use Rattle.std.specs.Prelude.{Some, None}
use Rattle.tl_rules.{specs.statement.Admission.bytes_carried, specs.statement.Effect.effect}
use Rattle.tl_rules.specs.statement.History.{grant_sink, pending, probe_of, release_of, request_of}
use Rattle.tl_rules.specs.statement.Liberties.{held_under}
use Rattle.tl_bytes.specs.statement.Free.{all_liberties}
use Rattle.tl_bytes.specs.statement.Early.{outrun_accesses}
use Rattle.tl_bytes.specs.statement.Bytes.{carried_mask, each_from, before_last}
use Rattle.tl_bytes.proofs.WorkedBeats.{put, done, get, found, acquire, acquire_unread, grant_beat, grant_unread}
use Rattle.tl_bytes.proofs.WorkedBeats.{grant_ack, release_beat, four, spoilt, wide, given_back, untrue_from, untrue}

-- ---- what a Grant may tell

-- another link asks to read it, and is granted it with bytes v
abbrev granted : ℕ → Trace 16
granted v = acquire 1 0 0 65535 ∷ four (grant_beat 1 1 0 1 (wide v))

-- the bytes that were given back
the_bytes_given_back : untrue (given_back (granted 9)) ≡ None
unfolding untrue_from may_be may_read pending_accesses carried_byte bytes_carried carried_mask windows_since
    window_began last_window last_told each_from before_last effect unfinished on_link request_of release_of probe_of
    grant_sink pending held_under all_liberties is_free outrun_accesses
the_bytes_given_back = refl

-- and not those of the Grant before
the_bytes_of_the_grant_before : untrue (given_back (granted 5)) ≡ Some 11
unfolding untrue_from may_be may_read pending_accesses carried_byte bytes_carried carried_mask windows_since
    window_began last_window last_told each_from before_last effect unfinished on_link request_of release_of probe_of
    grant_sink pending held_under all_liberties is_free outrun_accesses
the_bytes_of_the_grant_before = refl

-- a Put that is pending may not have been performed
a_put_to_come : untrue (given_back (put 0 0 4 (wide 7) 65535 ∷ granted 9)) ≡ None
unfolding untrue_from may_be may_read pending_accesses carried_byte bytes_carried carried_mask windows_since
    window_began last_window last_told each_from before_last effect unfinished on_link request_of release_of probe_of
    grant_sink pending held_under all_liberties is_free outrun_accesses
a_put_to_come = refl

-- or may have been
a_put_that_was_performed : untrue
    (given_back (put 0 0 4 (wide 7) 65535 ∷ acquire 1 0 0 65535 ∷ grant_beat 1 1 0 1 (wide 7) ∷ [])) ≡ None
unfolding untrue_from may_be may_read pending_accesses carried_byte bytes_carried carried_mask windows_since
    window_began last_window last_told each_from before_last effect unfinished on_link request_of release_of probe_of
    grant_sink pending held_under all_liberties is_free outrun_accesses
a_put_that_was_performed = refl

-- where it is answered it was
a_put_that_is_lost : untrue (given_back (put 0 0 4 (wide 7) 65535 ∷ done 0 0 4 ∷ granted 9)) ≡ Some 13
unfolding untrue_from may_be may_read pending_accesses carried_byte bytes_carried carried_mask windows_since
    window_began last_window last_told each_from before_last effect unfinished on_link request_of release_of probe_of
    grant_sink pending held_under all_liberties is_free outrun_accesses
a_put_that_is_lost = refl

-- a Put that is answered after the Grant may be in it
a_put_answered_late : untrue (given_back (put 0 0 4 (wide 7) 65535 ∷ granted 9 ++ done 0 0 4 ∷ grant_ack 1 1 ∷ []))
    ≡ None
unfolding untrue_from may_be may_read pending_accesses carried_byte bytes_carried carried_mask windows_since
    window_began last_window last_told each_from before_last effect unfinished on_link request_of release_of probe_of
    grant_sink pending held_under all_liberties is_free outrun_accesses
a_put_answered_late = refl

-- what a Grant told the next one tells too
the_bytes_granted : untrue (acquire 0 0 0 65535 ∷ four (grant_beat 0 1 0 0 (wide 5)) ++ granted 5) ≡ None
unfolding untrue_from may_be may_read pending_accesses carried_byte bytes_carried carried_mask windows_since
    window_began last_window last_told each_from before_last effect unfinished on_link request_of release_of probe_of
    grant_sink pending held_under all_liberties is_free outrun_accesses
the_bytes_granted = refl

-- and nothing else
bytes_that_were_never_granted : untrue (acquire 0 0 0 65535 ∷ four (grant_beat 0 1 0 0 (wide 5)) ++ granted 6) ≡ Some 6
unfolding untrue_from may_be may_read pending_accesses carried_byte bytes_carried carried_mask windows_since
    window_began last_window last_told each_from before_last effect unfinished on_link request_of release_of probe_of
    grant_sink pending held_under all_liberties is_free outrun_accesses
bytes_that_were_never_granted = refl

-- the same with bytes 8 in its first beat, and 9 in the others
abbrev granted_eights : Trace 16
granted_eights =
    acquire 1 0 0 65535 ∷ grant_beat 1 1 0 1 (wide 8) ∷ grant_beat 1 1 0 1 (wide 9) ∷ grant_beat 1 1 0 1 (wide 9)
    ∷ grant_beat 1 1 0 1 (wide 9) ∷ []

-- of two Puts before a Grant the one that it tells was the last, also where their answers come after it
puts_answered_after_a_grant : untrue (given_back (put 0 0 4 (wide 7) 65535 ∷ put 0 1 4 (wide 8) 65535 ∷ granted_eights
    ++ done 0 0 4 ∷ done 0 1 4 ∷ get 0 0 4 65535 ∷ found 0 0 4 (wide 8) ∷ [])) ≡ None
unfolding untrue_from may_be may_read pending_accesses carried_byte bytes_carried carried_mask windows_since
    window_began last_window last_told each_from before_last effect unfinished on_link request_of release_of probe_of
    grant_sink pending held_under all_liberties is_free outrun_accesses
puts_answered_after_a_grant = refl

-- and the other is gone
a_put_before_a_grant : untrue (given_back (put 0 0 4 (wide 7) 65535 ∷ put 0 1 4 (wide 8) 65535 ∷ granted_eights
    ++ done 0 0 4 ∷ done 0 1 4 ∷ get 0 0 4 65535 ∷ found 0 0 4 (wide 7) ∷ [])) ≡ Some 20
unfolding untrue_from may_be may_read pending_accesses carried_byte bytes_carried carried_mask windows_since
    window_began last_window last_told each_from before_last effect unfinished on_link request_of release_of probe_of
    grant_sink pending held_under all_liberties is_free outrun_accesses
a_put_before_a_grant = refl

-- corrupt data that are given back tell nothing
corrupt_data_given_back : untrue (acquire 0 1 0 65535 ∷ four (grant_beat 0 0 0 0 (wide 5)) ++ four
    (spoilt (release_beat 0 1 (wide 9))) ++ granted 3) ≡ None
unfolding untrue_from may_be may_read pending_accesses carried_byte bytes_carried carried_mask windows_since
    window_began last_window last_told each_from before_last effect unfinished on_link request_of release_of probe_of
    grant_sink pending held_under all_liberties is_free outrun_accesses
corrupt_data_given_back = refl

-- corrupt data of a Grant aren't judged
corrupt_data_granted : untrue (given_back (acquire 1 0 0 65535 ∷ four (spoilt (grant_beat 1 1 0 1 (wide 3))))) ≡ None
unfolding untrue_from may_be may_read pending_accesses carried_byte bytes_carried carried_mask windows_since
    window_began last_window last_told each_from before_last effect unfinished on_link request_of release_of probe_of
    grant_sink pending held_under all_liberties is_free outrun_accesses
corrupt_data_granted = refl

-- one who writes the whole block unread may leave anything
a_block_written_unread : untrue (given_back (acquire_unread 0 0 65535 ∷ grant_unread 0 0 0 ∷ granted 3)) ≡ None
unfolding untrue_from may_be may_read pending_accesses carried_byte bytes_carried carried_mask windows_since
    window_began last_window last_told each_from before_last effect unfinished on_link request_of release_of probe_of
    grant_sink pending held_under all_liberties is_free outrun_accesses
a_block_written_unread = refl

-- ---- reads beside a writer

abbrev granted_to_0 : List ℕ → Trace 16
granted_to_0 bytes = acquire 0 1 0 65535 ∷ four (grant_beat 0 0 0 0 bytes) ++ grant_ack 0 0 ∷ []

-- a Get may be performed at once, and its answer come later
a_get_at_once : untrue (given_back (get 1 0 4 65535 ∷ granted_to_0 (wide 9) ++ four (release_beat 0 1 (wide 3)) ++ found
    1 0 4 (wide 9) ∷ [])) ≡ None
unfolding untrue_from may_be may_read pending_accesses carried_byte bytes_carried carried_mask windows_since
    window_began last_window last_told each_from before_last effect unfinished on_link request_of release_of probe_of
    grant_sink pending held_under all_liberties is_free outrun_accesses
a_get_at_once = refl

-- or it is performed late
a_get_late : untrue (given_back (get 1 0 4 65535 ∷ granted_to_0 (wide 9) ++ four (release_beat 0 1 (wide 3)) ++ found 1
    0 4 (wide 3) ∷ [])) ≡ None
unfolding untrue_from may_be may_read pending_accesses carried_byte bytes_carried carried_mask windows_since
    window_began last_window last_told each_from before_last effect unfinished on_link request_of release_of probe_of
    grant_sink pending held_under all_liberties is_free outrun_accesses
a_get_late = refl

-- but what was told before it was asked it may not bring
a_get_too_early : untrue
    (given_back (get 1 0 4 65535 ∷ granted_to_0 (wide 9) ++ four (release_beat 0 1 (wide 3)) ++ found 1 0 4
    (wide 5) ∷ [])) ≡ Some 21
unfolding untrue_from may_be may_read pending_accesses carried_byte bytes_carried carried_mask windows_since
    window_began last_window last_told each_from before_last effect unfinished on_link request_of release_of probe_of
    grant_sink pending held_under all_liberties is_free outrun_accesses
a_get_too_early = refl
