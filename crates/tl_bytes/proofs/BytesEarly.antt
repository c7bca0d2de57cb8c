-- Worked traces of answers that begin before the message that they answer is complete.
use Rattle.tl_bytes.proofs.Imports.{unfinished, Trace, on_link, is_free, may_be, may_read, pending_accesses}
use Rattle.tl_bytes.proofs.Imports.{carried_byte, windows_since, window_began, last_window, last_told}
use Rattle.std.proofs.Common.{◌≡◌, ℕ, refl, List, [], ◌∷◌, ◌++◌}
use Rattle.std.specs.Prelude.{replicate, Some, None}
use Rattle.tl_rules.specs.statement.Admission.{bytes_carried}
use Rattle.tl_rules.specs.statement.Effect.{effect}
use Rattle.tl_rules.specs.statement.History.{grant_sink, pending, probe_of, release_of, request_of}
use Rattle.tl_rules.specs.statement.Liberties.{held_under}
use Rattle.tl_bytes.specs.statement.Free.{all_liberties}
use Rattle.tl_bytes.specs.statement.Early.{outrun_accesses, reported_since}
use Rattle.tl_bytes.specs.statement.Bytes.{carried_mask, each_from, before_last}
use Rattle.tl_bytes.proofs.WorkedBeats.{put, done, get, found, acquire, grant_beat, grant_ack, release_beat, release_ack}
use Rattle.tl_bytes.proofs.WorkedBeats.{given_up, four, wide, untrue_from, untrue}

-- ---- a Put

abbrev fives : List ℕ
fives = replicate 4 5

abbrev sevens : List ℕ
sevens = replicate 4 7

abbrev nines : List ℕ
nines = replicate 4 9

-- eight bytes are 5, and a Put to them is answered with its first beat
abbrev outrun : Trace 4 → Trace 4
outrun rest = put 0 0 3 fives 15 ∷ put 0 0 3 fives 15 ∷ done 0 0 3 ∷ put 0 0 3 sevens 15 ∷ done 0 0 3 ∷ rest

-- until its last beat its bytes may be anything
before_its_last_beat : untrue (outrun (get 1 0 3 15 ∷ found 1 0 3 nines ∷ found 1 0 3 nines ∷ [])) ≡ None
unfolding untrue_from may_be may_read pending_accesses carried_byte bytes_carried carried_mask windows_since
    window_began last_window last_told each_from before_last effect unfinished on_link request_of release_of probe_of
    grant_sink pending held_under all_liberties is_free outrun_accesses
before_its_last_beat = refl

-- and so after it
after_its_last_beat : untrue
    (outrun (put 0 0 3 sevens 15 ∷ get 1 0 3 15 ∷ found 1 0 3 nines ∷ found 1 0 3 fives ∷ [])) ≡ None
unfolding untrue_from may_be may_read pending_accesses carried_byte bytes_carried carried_mask windows_since
    window_began last_window last_told each_from before_last effect unfinished on_link request_of release_of probe_of
    grant_sink pending held_under all_liberties is_free outrun_accesses
after_its_last_beat = refl

-- but not when another Put was answered that came behind it
after_the_next_put : untrue (outrun (put 0 0 3 sevens 15 ∷ put 1 0 2 fives 15 ∷ done 1 0 2 ∷ get 1 0 2 15 ∷ found 1 0 2
    nines ∷ [])) ≡ Some 9
unfolding untrue_from may_be may_read pending_accesses carried_byte bytes_carried carried_mask windows_since
    window_began last_window last_told each_from before_last effect unfinished on_link request_of release_of probe_of
    grant_sink pending held_under all_liberties is_free outrun_accesses
after_the_next_put = refl

-- nor do bytes change that it doesn't reach
beside_it : untrue {w = 4} (put 0 0 3 fives 15 ∷ put 0 0 3 fives 15 ∷ done 0 0 3 ∷ put 1 1 2 nines 15 ∷ put 0 0 3 sevens
    15 ∷ done 1 1 2 ∷ done 0 0 3 ∷ put 0 0 3 sevens 15 ∷ get 1 0 2 15 ∷ found 1 0 2 fives ∷ []) ≡ None
unfolding untrue_from may_be may_read pending_accesses carried_byte bytes_carried carried_mask windows_since
    window_began last_window last_told each_from before_last effect unfinished on_link request_of release_of probe_of
    grant_sink pending held_under all_liberties is_free outrun_accesses
beside_it = refl

-- ---- a Release

-- a link is granted Trunk of bytes 5, and gives it back with bytes 9: its Release is answered after two of its four
-- beats
abbrev released : Trace 16 → Trace 16
released rest =
    acquire 0 1 0 65535 ∷ four (grant_beat 0 0 0 0 (wide 5)) ++ grant_ack 0 0 ∷ release_beat 0 1 (wide 9)
    ∷ release_beat 0 1 (wide 9) ∷ release_ack 0 1 ∷ rest

-- then another link may be granted it, with the bytes that have come, and any for the others
granted_after_an_early_answer : untrue (released (acquire 1 0 0 65535 ∷ grant_beat 1 1 0 1 (wide 9) ∷ grant_beat 1 1 0 1
    (wide 9) ∷ grant_beat 1 1 0 1 (wide 3) ∷ [])) ≡ None
unfolding untrue_from may_be may_read pending_accesses carried_byte bytes_carried carried_mask windows_since
    window_began last_window last_told each_from before_last effect unfinished on_link request_of release_of probe_of
    grant_sink pending held_under all_liberties is_free outrun_accesses reported_since
granted_after_an_early_answer = refl

-- but not with other bytes than those that have come
bytes_of_the_first_beats : untrue
    (released (acquire 1 0 0 65535 ∷ grant_beat 1 1 0 1 (wide 9) ∷ grant_beat 1 1 0 1 (wide 5) ∷ [])) ≡ Some 11
unfolding untrue_from may_be may_read pending_accesses carried_byte bytes_carried carried_mask windows_since
    window_began last_window last_told each_from before_last effect unfinished on_link request_of release_of probe_of
    grant_sink pending held_under all_liberties is_free outrun_accesses reported_since
bytes_of_the_first_beats = refl

-- a Put that is performed behind the answer stays, whatever beats of the Release are to come
a_put_behind_the_answer : untrue (released (put 1 0 4 (wide 7) 65535 ∷ done 1 0 4 ∷ release_beat 0 1 (wide 9)
    ∷ release_beat 0 1 (wide 9) ∷ get 1 0 4 65535 ∷ found 1 0 4 (wide 7) ∷ [])) ≡ None
unfolding untrue_from may_be may_read pending_accesses carried_byte bytes_carried carried_mask windows_since
    window_began last_window last_told each_from before_last effect unfinished on_link request_of release_of probe_of
    grant_sink pending held_under all_liberties is_free outrun_accesses reported_since
a_put_behind_the_answer = refl

-- ---- a Grant

-- a link is granted Trunk of bytes 5, and acknowledges that with the first of four beats
abbrev acknowledged : Trace 16 → Trace 16
acknowledged rest =
    put 1 0 6 (wide 5) 65535 ∷ put 1 0 6 (wide 5) 65535 ∷ put 1 0 6 (wide 5) 65535 ∷ put 1 0 6 (wide 5) 65535
    ∷ done 1 0 6 ∷ acquire 0 1 0 65535 ∷ grant_beat 0 0 0 0 (wide 5) ∷ grant_ack 0 0 ∷ rest

-- its other beats are judged as without that
other_beats : untrue (acknowledged (grant_beat 0 0 0 0 (wide 5) ∷ grant_beat 0 0 0 0 (wide 6) ∷ [])) ≡ Some 9
unfolding untrue_from may_be may_read pending_accesses carried_byte bytes_carried carried_mask windows_since
    window_began last_window last_told each_from before_last effect unfinished on_link request_of release_of probe_of
    grant_sink pending held_under all_liberties is_free outrun_accesses reported_since
other_beats = refl

-- unless the link gave the block up: then a Put of another link may have come before them
beats_in_doubt : untrue (acknowledged (given_up 0 ∷ put 1 0 4 (wide 7) 65535 ∷ done 1 0 4 ∷ grant_beat 0 0 0 0
    (wide 7) ∷ [])) ≡ None
unfolding untrue_from may_be may_read pending_accesses carried_byte bytes_carried carried_mask windows_since
    window_began last_window last_told each_from before_last effect unfinished on_link request_of release_of probe_of
    grant_sink pending held_under all_liberties is_free outrun_accesses reported_since
beats_in_doubt = refl

-- and they say nothing of the block's bytes
what_beats_in_doubt_leave : untrue (acknowledged (given_up 0 ∷ put 1 0 4 (wide 7) 65535 ∷ done 1 0 4 ∷ grant_beat 0 0 0 0
    (wide 5) ∷ grant_beat 0 0 0 0 (wide 5) ∷ grant_beat 0 0 0 0 (wide 5) ∷ get 1 0 4 65535 ∷ found 1 0 4 (wide 5) ∷ []))
    ≡ Some 15
unfolding untrue_from may_be may_read pending_accesses carried_byte bytes_carried carried_mask windows_since
    window_began last_window last_told each_from before_last effect unfinished on_link request_of release_of probe_of
    grant_sink pending held_under all_liberties is_free outrun_accesses reported_since
what_beats_in_doubt_leave = refl
