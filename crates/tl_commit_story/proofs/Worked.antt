-- The grounds of worked traces: link 0 is granted a copy of block 0 to write, in four beats of 16 bytes.
use Rattle.std.proofs.Common.{◌≡◌, refl, [], ◌∷◌}
use Rattle.std.specs.Prelude.{None, Some, map, reverse, take}
use Rattle.tl_beat.specs.declared.channel.Channel.TheVariants as channel
use Rattle.tl_burst.specs.statement.Messages.{unfinished}
use Rattle.tl_bytes.proofs.WorkedBeats.{grant_beat, wide}
use Rattle.tl_events.specs.declared.commit.Commit.TheVariants as commit
use Rattle.tl_events.specs.declared.commit.Event.TheVariants as event
use Rattle.tl_params.specs.declared.perm.Perm.TheVariants as perm
use Rattle.tl_params.specs.statement.Liberties.{no_liberties}
use Rattle.tl_rules.specs.statement.Conformance.{on_link}
use Rattle.tl_rules.specs.statement.History.{grant_sink, pending, probe_of, release_of, request_of}
use Rattle.tl_rules.specs.statement.Liberties.{held_under}
use Rattle.tl_commits.specs.statement.Events.{Events, beats_of}
use Rattle.tl_commits.proofs.WorkedEvents.{piece, stores, two_caches, writer}
use Rattle.tl_commit_story.specs.declared.cached.Cached.{Cached}
use Rattle.tl_commit_story.specs.statement.BeatLines.{line_of_beat}
use Rattle.tl_commit_story.specs.statement.Cached.{begun_by, came, held_since, holding, last_store}
use Rattle.tl_commit_story.specs.statement.Words.{event_text}

abbrev block_0 : Cached
block_0 = record { link = record { 0 = 0 }; block = 0 }

-- the newest event first: a store of byte 5 by each of two commits behind the Grant
abbrev written : Events 16
written = reverse (writer (stores 0 0 5 1 ∷ stores 0 3 0 2 ∷ []))

-- two beats of the Grant have come
abbrev granting : Events 16
granting = reverse (take 3 (writer []))

held : holding no_liberties two_caches block_0 written ≡ perm.Trunk
unfolding beats_of on_link unfinished held_under request_of release_of probe_of grant_sink pending
held = refl

-- since the last beat of the Grant, in line 6
since : held_since no_liberties two_caches block_0 written
    ≡ event_text {w = 16} 6 (record { 0 = 0 }) (event.Beat (grant_beat 0 0 0 0 (wide 5)).1)
unfolding held_since beats_of on_link unfinished held_under request_of release_of probe_of grant_sink pending
since = refl

-- nothing is held before it, and the Grant is under way since line 3
unheld : held_since no_liberties two_caches block_0 granting ≡ []
unfolding held_since beats_of on_link unfinished held_under request_of release_of probe_of grant_sink pending
unheld = refl

two_beats : came channel.D block_0 granting ≡ 2
unfolding beats_of on_link unfinished
two_beats = refl

coming : begun_by channel.D two_caches block_0 granting
    ≡ event_text {w = 16} 3 (record { 0 = 0 }) (event.Beat (grant_beat 0 0 0 0 (wide 5)).1)
unfolding begun_by beats_of on_link unfinished request_of release_of probe_of grant_sink pending
coming = refl

complete : begun_by channel.D two_caches block_0 written ≡ []
unfolding begun_by beats_of on_link unfinished request_of release_of probe_of grant_sink pending
complete = refl

-- the second store reached byte 5, and the first no byte that the second didn't
last : last_store 0 5 written ≡ Some (record { number = 9; link = record { 0 = 0 }; piece = piece 3 0; value = 2 })
unfolding last_store
last = refl

never : last_store 0 8 written ≡ None
unfolding last_store
never = refl

-- a load begins in line 5, and the third beat of the Grant comes in line 6
abbrev begun_between : Events 16
begun_between =
    (record { 0 = 0 }, event.Beat (grant_beat 0 0 0 0 (wide 5)).1)
    ∷ (record { 0 = 0 }, event.Commit (commit.Begin (piece 3 0)))
    ∷ granting

-- that beat is the fourth, and the second is that of line 3
lines : map (line_of_beat begun_between) (1 ∷ 3 ∷ 4 ∷ 5 ∷ 6 ∷ []) ≡ 1 ∷ 3 ∷ 4 ∷ 6 ∷ 6 ∷ []
unfolding line_of_beat beats_of
lines = refl
