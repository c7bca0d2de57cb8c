-- Worked traces of reads: what they may bring, and beside it what they may not.
use Rattle.tl_bytes.proofs.Imports.{unfinished, Trace, on_link, is_free, may_be, may_read, pending_accesses}
use Rattle.tl_bytes.proofs.Imports.{carried_byte, windows_since, window_began, last_window, last_told}
use Rattle.std.proofs.Common.{◌≡◌, ℕ, refl, List, [], ◌∷◌}
use Rattle.std.specs.Prelude.{replicate, Some, None}
use Rattle.tl_rules.specs.statement.Admission.{bytes_carried}
use Rattle.tl_rules.specs.statement.Effect.{effect, number_from}
use Rattle.tl_rules.specs.statement.History.{grant_sink, pending, probe_of, release_of, request_of}
use Rattle.tl_rules.specs.statement.Liberties.{held_under}
use Rattle.tl_bytes.specs.statement.Free.{all_liberties}
use Rattle.tl_bytes.specs.statement.Early.{outrun_accesses}
use Rattle.tl_bytes.specs.statement.Bytes.{carried_mask, each_from, before_last}
use Rattle.tl_bytes.proofs.WorkedBeats.{eight, put, part, done, get, add, found, given_to_get, shown_to_get, wide}
use Rattle.tl_bytes.proofs.WorkedBeats.{untrue_from, untrue}

-- ---- what a Get may bring

-- before anything was told
unknown_bytes : untrue {w = 8} (get 1 0 3 255 ∷ found 1 0 3 (eight 9) ∷ []) ≡ None
unfolding untrue_from may_be may_read pending_accesses carried_byte bytes_carried carried_mask windows_since
    window_began last_window last_told each_from before_last effect unfinished on_link request_of release_of probe_of
    grant_sink pending held_under all_liberties is_free outrun_accesses
unknown_bytes = refl

-- after a Put is answered, what it wrote
new_bytes : untrue {w = 8} (put 0 0 3 (eight 7) 255 ∷ done 0 0 3 ∷ get 1 0 3 255 ∷ found 1 0 3 (eight 7) ∷ []) ≡ None
unfolding untrue_from may_be may_read pending_accesses carried_byte bytes_carried carried_mask windows_since
    window_began last_window last_told each_from before_last effect unfinished on_link request_of release_of probe_of
    grant_sink pending held_under all_liberties is_free outrun_accesses
new_bytes = refl

-- and nothing else
stale_bytes : untrue {w = 8} (put 0 0 3 (eight 7) 255 ∷ done 0 0 3 ∷ get 1 0 3 255 ∷ found 1 0 3 (eight 0) ∷ [])
    ≡ Some 3
unfolding untrue_from may_be may_read pending_accesses carried_byte bytes_carried carried_mask windows_since
    window_began last_window last_told each_from before_last effect unfinished on_link request_of release_of probe_of
    grant_sink pending held_under all_liberties is_free outrun_accesses
stale_bytes = refl

-- a Put of some bytes writes those
a_put_of_one_byte : untrue {w = 8} (put 0 0 3 (eight 5) 255 ∷ done 0 0 3 ∷ part 0 0 3 (eight 7) 1 ∷ done 0 0 3 ∷ get 1 0
    3 255 ∷ found 1 0 3 (7 ∷ replicate 7 5) ∷ []) ≡ None
unfolding untrue_from may_be may_read pending_accesses carried_byte bytes_carried carried_mask windows_since
    window_began last_window last_told each_from before_last effect unfinished on_link request_of release_of probe_of
    grant_sink pending held_under all_liberties is_free outrun_accesses
a_put_of_one_byte = refl

-- and no others
bytes_beside_a_put : untrue {w = 8} (put 0 0 3 (eight 5) 255 ∷ done 0 0 3 ∷ part 0 0 3 (eight 7) 1 ∷ done 0 0 3 ∷ get 1
    0 3 255 ∷ found 1 0 3 (eight 7) ∷ []) ≡ Some 5
unfolding untrue_from may_be may_read pending_accesses carried_byte bytes_carried carried_mask windows_since
    window_began last_window last_told each_from before_last effect unfinished on_link request_of release_of probe_of
    grant_sink pending held_under all_liberties is_free outrun_accesses
bytes_beside_a_put = refl

-- beside a Put that is pending, what was before
read_before_a_put : untrue {w = 8} (put 0 0 3 (eight 5) 255 ∷ done 0 0 3 ∷ put 0 0 3 (eight 7) 255 ∷ get 1 0 3
    255 ∷ found 1 0 3 (eight 5) ∷ []) ≡ None
unfolding untrue_from may_be may_read pending_accesses carried_byte bytes_carried carried_mask windows_since
    window_began last_window last_told each_from before_last effect unfinished on_link request_of release_of probe_of
    grant_sink pending held_under all_liberties is_free outrun_accesses
read_before_a_put = refl

-- or what it writes
read_after_a_put : untrue {w = 8} (put 0 0 3 (eight 5) 255 ∷ done 0 0 3 ∷ put 0 0 3 (eight 7) 255 ∷ get 1 0 3
    255 ∷ found 1 0 3 (eight 7) ∷ []) ≡ None
unfolding untrue_from may_be may_read pending_accesses carried_byte bytes_carried carried_mask windows_since
    window_began last_window last_told each_from before_last effect unfinished on_link request_of release_of probe_of
    grant_sink pending held_under all_liberties is_free outrun_accesses
read_after_a_put = refl

-- and nothing else
read_from_nowhere : untrue {w = 8} (put 0 0 3 (eight 5) 255 ∷ done 0 0 3 ∷ put 0 0 3 (eight 7) 255 ∷ get 1 0 3
    255 ∷ found 1 0 3 (eight 6) ∷ []) ≡ Some 4
unfolding untrue_from may_be may_read pending_accesses carried_byte bytes_carried carried_mask windows_since
    window_began last_window last_told each_from before_last effect unfinished on_link request_of release_of probe_of
    grant_sink pending held_under all_liberties is_free outrun_accesses
read_from_nowhere = refl

-- of two Puts that overlap either may have come last
either_came_last : untrue {w = 8} (put 0 0 3 (eight 5) 255 ∷ put 1 0 3 (eight 7) 255 ∷ done 1 0 3 ∷ done 0 0 3 ∷ get 1 0
    3 255 ∷ found 1 0 3 (eight 7) ∷ []) ≡ None
unfolding untrue_from may_be may_read pending_accesses carried_byte bytes_carried carried_mask windows_since
    window_began last_window last_told each_from before_last effect unfinished on_link request_of release_of probe_of
    grant_sink pending held_under all_liberties is_free outrun_accesses
either_came_last = refl

-- of two Puts, one after the other, the second came last
second_came_last : untrue {w = 8} (put 0 0 3 (eight 5) 255 ∷ done 0 0 3 ∷ put 1 0 3 (eight 7) 255 ∷ done 1 0 3 ∷ get 1 0
    3 255 ∷ found 1 0 3 (eight 5) ∷ []) ≡ Some 5
unfolding untrue_from may_be may_read pending_accesses carried_byte bytes_carried carried_mask windows_since
    window_began last_window last_told each_from before_last effect unfinished on_link request_of release_of probe_of
    grant_sink pending held_under all_liberties is_free outrun_accesses
second_came_last = refl

-- an atomic finds the old number
an_atomic_finds : untrue {w = 8} (put 0 0 3 (eight 255) 255 ∷ done 0 0 3 ∷ add 1 0 3 (1 ∷ replicate 7 0) 255 ∷ found 1 0
    3 (eight 255) ∷ []) ≡ None
unfolding untrue_from may_be may_read pending_accesses carried_byte bytes_carried carried_mask windows_since
    window_began last_window last_told each_from before_last effect unfinished on_link request_of release_of probe_of
    grant_sink pending held_under all_liberties is_free outrun_accesses
an_atomic_finds = refl

-- and not the new one
an_atomic_answers_the_new : untrue {w = 8} (put 0 0 3 (eight 255) 255 ∷ done 0 0 3 ∷ add 1 0 3 (1 ∷ replicate 7 0)
    255 ∷ found 1 0 3 (eight 0) ∷ []) ≡ Some 3
unfolding untrue_from may_be may_read pending_accesses carried_byte bytes_carried carried_mask windows_since
    window_began last_window last_told each_from before_last effect unfinished on_link request_of release_of probe_of
    grant_sink pending held_under all_liberties is_free outrun_accesses
an_atomic_answers_the_new = refl

-- an ADD wraps
an_add_wraps : untrue {w = 8} (add 0 0 3 (1 ∷ replicate 7 0) 255 ∷ found 0 0 3 (eight 255) ∷ get 1 0 3 255 ∷ found 1 0 3
    (eight 0) ∷ []) ≡ None
unfolding untrue_from may_be may_read pending_accesses carried_byte bytes_carried carried_mask windows_since
    window_began last_window last_told each_from before_last effect unfinished on_link request_of release_of probe_of
    grant_sink pending held_under all_liberties is_free outrun_accesses number_from
an_add_wraps = refl

-- and carries within its bytes
an_add_that_is_lost : untrue {w = 8} (add 0 0 3 (1 ∷ replicate 7 0) 255 ∷ found 0 0 3 (eight 255) ∷ get 1 0 3
    255 ∷ found 1 0 3 (0 ∷ replicate 7 255) ∷ []) ≡ Some 3
unfolding untrue_from may_be may_read pending_accesses carried_byte bytes_carried carried_mask windows_since
    window_began last_window last_told each_from before_last effect unfinished on_link request_of release_of probe_of
    grant_sink pending held_under all_liberties is_free outrun_accesses number_from
an_add_that_is_lost = refl

-- ---- four bytes a beat

abbrev fives : List ℕ
fives = replicate 4 5

-- eight bytes are 5, and an ADD to them is asked for
abbrev adding : Trace 4 → Trace 4
adding rest =
    put 0 0 3 fives 15 ∷ put 0 0 3 fives 15 ∷ done 0 0 3 ∷ add 0 0 3 (1 ∷ 0 ∷ 0 ∷ 0 ∷ []) 15
    ∷ add 0 0 3 (replicate 4 0) 15 ∷ rest

-- between the two beats of an atomic's answer a Get may bring the new bytes
a_get_between_the_beats_of_an_answer : untrue
    (adding (found 0 0 3 fives ∷ get 1 0 2 15 ∷ found 1 0 2 (6 ∷ 5 ∷ 5 ∷ 5 ∷ []) ∷ found 0 0 3 fives ∷ [])) ≡ None
unfolding untrue_from may_be may_read pending_accesses carried_byte bytes_carried carried_mask windows_since
    window_began last_window last_told each_from before_last effect unfinished on_link request_of release_of probe_of
    grant_sink pending held_under all_liberties is_free outrun_accesses number_from
a_get_between_the_beats_of_an_answer = refl

-- after them it may bring nothing else
a_get_after_an_answer : untrue (adding (found 0 0 3 fives ∷ found 0 0 3 fives ∷ get 1 0 2 15 ∷ found 1 0 2 fives ∷ []))
    ≡ Some 8
unfolding untrue_from may_be may_read pending_accesses carried_byte bytes_carried carried_mask windows_since
    window_began last_window last_told each_from before_last effect unfinished on_link request_of release_of probe_of
    grant_sink pending held_under all_liberties is_free outrun_accesses number_from
a_get_after_an_answer = refl

abbrev sevens : List ℕ
sevens = replicate 4 7

abbrev nines : List ℕ
nines = replicate 4 9

-- a Get is served beat by beat: its second beat may bring what was written after the first
a_get_served_beat_by_beat : untrue {w = 4} (put 0 0 3 fives 15 ∷ put 0 0 3 fives 15 ∷ done 0 0 3 ∷ get 1 0 3 15 ∷ found
    1 0 3 fives ∷ put 0 0 3 sevens 15 ∷ put 0 0 3 sevens 15 ∷ done 0 0 3 ∷ found 1 0 3 sevens ∷ []) ≡ None
unfolding untrue_from may_be may_read pending_accesses carried_byte bytes_carried carried_mask windows_since
    window_began last_window last_told each_from before_last effect unfinished on_link request_of release_of probe_of
    grant_sink pending held_under all_liberties is_free outrun_accesses
a_get_served_beat_by_beat = refl

-- but not what nobody wrote
a_beat_from_nowhere : untrue {w = 4} (put 0 0 3 fives 15 ∷ put 0 0 3 fives 15 ∷ done 0 0 3 ∷ get 1 0 3 15 ∷ found 1 0 3
    fives ∷ put 0 0 3 sevens 15 ∷ put 0 0 3 sevens 15 ∷ done 0 0 3 ∷ found 1 0 3 (replicate 4 6) ∷ []) ≡ Some 8
unfolding untrue_from may_be may_read pending_accesses carried_byte bytes_carried carried_mask windows_since
    window_began last_window last_told each_from before_last effect unfinished on_link request_of release_of probe_of
    grant_sink pending held_under all_liberties is_free outrun_accesses
a_beat_from_nowhere = refl

-- eight bytes are 5, and the first beat of a Put to them has come
abbrev begun : Trace 4 → Trace 4
begun rest = put 0 0 3 fives 15 ∷ put 0 0 3 fives 15 ∷ done 0 0 3 ∷ put 0 0 3 sevens 15 ∷ rest

-- a Put is written beat by beat: a Get may bring what its first beat brought before the second has come
a_put_written_beat_by_beat : untrue
    (begun (get 1 0 2 15 ∷ found 1 0 2 sevens ∷ put 0 0 3 sevens 15 ∷ done 0 0 3 ∷ [])) ≡ None
unfolding untrue_from may_be may_read pending_accesses carried_byte bytes_carried carried_mask windows_since
    window_began last_window last_told each_from before_last effect unfinished on_link request_of release_of probe_of
    grant_sink pending held_under all_liberties is_free outrun_accesses
a_put_written_beat_by_beat = refl

-- or what was there before
a_put_written_at_its_end : untrue
    (begun (get 1 0 2 15 ∷ found 1 0 2 fives ∷ put 0 0 3 sevens 15 ∷ done 0 0 3 ∷ [])) ≡ None
unfolding untrue_from may_be may_read pending_accesses carried_byte bytes_carried carried_mask windows_since
    window_began last_window last_told each_from before_last effect unfinished on_link request_of release_of probe_of
    grant_sink pending held_under all_liberties is_free outrun_accesses
a_put_written_at_its_end = refl

-- but not what is still to come
a_byte_before_its_beat : untrue (begun (get 1 0 3 15 ∷ found 1 0 3 sevens ∷ found 1 0 3 sevens ∷ put 0 0 3 sevens
    15 ∷ done 0 0 3 ∷ [])) ≡ Some 6
unfolding untrue_from may_be may_read pending_accesses carried_byte bytes_carried carried_mask windows_since
    window_began last_window last_told each_from before_last effect unfinished on_link request_of release_of probe_of
    grant_sink pending held_under all_liberties is_free outrun_accesses
a_byte_before_its_beat = refl

-- when it is answered it is written
a_put_answered : untrue (begun (put 0 0 3 sevens 15 ∷ done 0 0 3 ∷ get 1 0 2 15 ∷ found 1 0 2 fives ∷ [])) ≡ Some 7
unfolding untrue_from may_be may_read pending_accesses carried_byte bytes_carried carried_mask windows_since
    window_began last_window last_told each_from before_last effect unfinished on_link request_of release_of probe_of
    grant_sink pending held_under all_liberties is_free outrun_accesses
a_put_answered = refl

-- a Put that comes and is answered between the beats of another one may be written behind the first beat of that
a_put_between_beats : untrue (begun (put 1 0 3 nines 15 ∷ put 1 0 3 nines 15 ∷ done 1 0 3 ∷ put 0 0 3 sevens 15 ∷ done
    0 0 3 ∷ get 1 0 3 15 ∷ found 1 0 3 nines ∷ found 1 0 3 sevens ∷ [])) ≡ None
unfolding untrue_from may_be may_read pending_accesses carried_byte bytes_carried carried_mask windows_since
    window_began last_window last_told each_from before_last effect unfinished on_link request_of release_of probe_of
    grant_sink pending held_under all_liberties is_free outrun_accesses
a_put_between_beats = refl

-- an atomic is performed before its answer begins
a_write_after_an_answer_began : untrue (adding (found 0 0 3 fives ∷ put 1 0 3 sevens 15 ∷ put 1 0 3 sevens 15 ∷ done 1 0
    3 ∷ found 0 0 3 sevens ∷ [])) ≡ Some 9
unfolding untrue_from may_be may_read pending_accesses carried_byte bytes_carried carried_mask windows_since
    window_began last_window last_told each_from before_last effect unfinished on_link request_of release_of probe_of
    grant_sink pending held_under all_liberties is_free outrun_accesses number_from
a_write_after_an_answer_began = refl

-- ---- windows

-- a Get that waits for a Probe's report brings what that shows
the_bytes_that_are_shown : untrue (shown_to_get (found 1 0 4 (wide 9) ∷ [])) ≡ None
unfolding untrue_from may_be may_read pending_accesses carried_byte bytes_carried carried_mask windows_since
    window_began last_window last_told each_from before_last effect unfinished on_link request_of release_of probe_of
    grant_sink pending held_under all_liberties is_free outrun_accesses
the_bytes_that_are_shown = refl

-- and not what was before, while the Get had no window
the_bytes_before_the_report : untrue (shown_to_get (found 1 0 4 (wide 5) ∷ [])) ≡ Some 12
unfolding untrue_from may_be may_read pending_accesses carried_byte bytes_carried carried_mask windows_since
    window_began last_window last_told each_from before_last effect unfinished on_link request_of release_of probe_of
    grant_sink pending held_under all_liberties is_free outrun_accesses
the_bytes_before_the_report = refl

-- so it is of one that waits for a Release
the_bytes_of_the_release : untrue (given_to_get (found 1 0 4 (wide 9) ∷ [])) ≡ None
unfolding untrue_from may_be may_read pending_accesses carried_byte bytes_carried carried_mask windows_since
    window_began last_window last_told each_from before_last effect unfinished on_link request_of release_of probe_of
    grant_sink pending held_under all_liberties is_free outrun_accesses
the_bytes_of_the_release = refl

the_bytes_before_the_release : untrue (given_to_get (found 1 0 4 (wide 5) ∷ [])) ≡ Some 11
unfolding untrue_from may_be may_read pending_accesses carried_byte bytes_carried carried_mask windows_since
    window_began last_window last_told each_from before_last effect unfinished on_link request_of release_of probe_of
    grant_sink pending held_under all_liberties is_free outrun_accesses
the_bytes_before_the_release = refl
