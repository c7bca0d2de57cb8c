-- Windows of a Get, evaluated: beside one who may write it has none, until a report shows the bytes.
use Rattle.tl_one_memory.proofs.Imports.{Trace, on_link, is_free, pending_accesses, unfinished}
use Rattle.std.proofs.Common.{◌≡◌, true, false, [], ◌∷◌, refl}
use Rattle.tl_params.specs.declared.perm.Perm.{Perm}
use Rattle.tl_rules.specs.statement.History.{pending, probe_of, request_of}
use Rattle.tl_rules.specs.statement.Liberties.{held_under}
use Rattle.tl_bytes.specs.statement.Free.{all_liberties}
use Rattle.tl_bytes.specs.statement.Early.{outrun_accesses}
use Rattle.tl_bytes.proofs.WorkedBeats.{acquire_unread, done, eight, get, grant_unread, put}
use Rattle.tl_one_memory.proofs.Wider.{probed, reported}
unfoldable use Rattle.tl_one_memory.specs.statement.Windowed.{had_window_since}

-- link 0 may write block 0
abbrev owned : Trace 8
owned = grant_unread 0 0 0 ∷ acquire_unread 0 0 255 ∷ []

nothing_held_is_a_window : had_window_since {w = 8} 2 1 0 Perm.Branch 0
    (get 1 0 3 255 ∷ done 0 0 3 ∷ put 0 0 3 (eight 7) 255 ∷ []) ≡ true
unfolding had_window_since on_link unfinished pending_accesses outrun_accesses held_under all_liberties request_of
    is_free
nothing_held_is_a_window = refl

beside_trunk_there_is_none : had_window_since {w = 8} 2 1 0 Perm.Branch 0 (get 1 0 3 255 ∷ owned) ≡ false
unfolding had_window_since on_link unfinished pending_accesses outrun_accesses held_under all_liberties request_of
    is_free
beside_trunk_there_is_none = refl

a_window_before_the_request_is_none : had_window_since {w = 8} 2 1 0 Perm.Branch 0
    (get 1 0 3 255 ∷ grant_unread 0 0 0 ∷ get 1 0 3 255 ∷ acquire_unread 0 0 255 ∷ []) ≡ false
unfolding had_window_since on_link unfinished pending_accesses outrun_accesses held_under all_liberties request_of
    is_free
a_window_before_the_request_is_none = refl

a_report_that_shows_the_bytes_is_one : had_window_since {w = 8} 2 1 0 Perm.Branch 0
    (reported 3 ∷ probed 0 ∷ get 1 0 3 255 ∷ owned) ≡ true
unfolding had_window_since on_link unfinished pending_accesses outrun_accesses held_under all_liberties request_of
    is_free pending probe_of
a_report_that_shows_the_bytes_is_one = refl

but_not_for_who_writes : had_window_since {w = 8} 2 1 0 Perm.Trunk 0
    (reported 3 ∷ probed 0 ∷ put 1 0 3 (eight 7) 255 ∷ owned) ≡ false
unfolding had_window_since on_link unfinished pending_accesses outrun_accesses held_under all_liberties request_of
    is_free pending probe_of
but_not_for_who_writes = refl
