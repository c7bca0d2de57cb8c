-- The shortest traces that break a rule of commits, and beside each the nearest right one.
use Rattle.std.proofs.Common.{◌≡◌, refl, [], ◌∷◌, ◌++◌}
use Rattle.std.specs.Prelude.{Some, None, replicate, true}
use Rattle.tl_bytes.proofs.WorkedBeats.{acquire, four, grant_beat, release_ack, release_beat, wide}
use Rattle.tl_params.specs.declared.level.Level.TheVariants as level
use Rattle.tl_params.specs.declared.liberties.Liberties.{Liberties}
use Rattle.tl_params.specs.declared.memory_rule.MemoryRule.TheVariants.{M2}
use Rattle.tl_params.specs.declared.rule.Rule.TheVariants.{L1}
use Rattle.tl_params.specs.statement.Liberties.{no_liberties}
use Rattle.tl_together.specs.declared.breach.Breach.TheVariants.{OfLink, OfMemory}
use Rattle.tl_commits.specs.declared.rule.CommitBreach.TheVariants.{OfBeats, OfCommits}
use Rattle.tl_events.specs.declared.rule.CommitRule.TheVariants.{M5, M6, M7}
use Rattle.tl_commits.specs.statement.Breaches.{first_commit_breach}
use Rattle.tl_commits.specs.statement.Completeness.{incomplete}
use Rattle.tl_commits.proofs.WorkedEvents.{all_told, beats, begins_to_load, filling, gives_up, loads, probe_block}
use Rattle.tl_commits.proofs.WorkedEvents.{probe_perm, judging, reader, stores, two_caches, unread, writer}

-- ---- stores

-- a store to a copy that may be written
stored : first_commit_breach {w = 16} two_caches all_told no_liberties
    (writer (stores 0 0 3 9 ∷ [])) ≡ None
unfolding judging
stored = refl

-- to a copy to read
stored_to_branch : first_commit_breach {w = 16} two_caches all_told no_liberties
    (reader (stores 0 0 3 9 ∷ [])) ≡ Some (6, OfCommits M5)
unfolding judging
stored_to_branch = refl

-- to no copy
stored_to_nothing : first_commit_breach {w = 16} two_caches all_told no_liberties
    (stores 0 0 3 9 ∷ []) ≡ Some (0, OfCommits M5)
unfolding judging
stored_to_nothing = refl

-- before the copy has come
stored_too_early : first_commit_breach {w = 16} two_caches all_told no_liberties
    (filling (stores 0 0 3 9 ∷ [])) ≡ Some (2, OfCommits M5)
unfolding judging
stored_too_early = refl

-- after the copy began to leave
stored_too_late : first_commit_breach {w = 16} two_caches all_told no_liberties
    (writer (beats (release_beat 0 1 (wide 5) ∷ []) ++ stores 0 0 3 9 ∷ [])) ≡ Some (7, OfCommits M5)
unfolding judging
stored_too_late = refl

-- on a link that has no cache
stored_without_cache : first_commit_breach {w = 16} (level.UH ∷ []) all_told no_liberties
    (stores 0 0 3 9 ∷ []) ≡ Some (0, OfBeats (OfLink L1))
unfolding judging
stored_without_cache = refl

-- on no link
stored_nowhere : first_commit_breach {w = 16} two_caches all_told no_liberties
    (stores 2 0 3 9 ∷ []) ≡ Some (0, OfBeats (OfLink L1))
unfolding judging
stored_nowhere = refl

-- ---- loads

-- a load brings what was granted
loaded : first_commit_breach {w = 16} two_caches all_told no_liberties
    (reader (loads 0 1 2 1285 ∷ [])) ≡ None
unfolding judging
loaded = refl

-- or something else
loaded_otherwise : first_commit_breach {w = 16} two_caches all_told no_liberties
    (reader (loads 0 1 2 1286 ∷ [])) ≡ Some (6, OfCommits M6)
unfolding judging
loaded_otherwise = refl

-- from no copy
loaded_from_nothing : first_commit_breach {w = 16} two_caches all_told no_liberties
    (loads 0 0 3 5 ∷ []) ≡ Some (0, OfCommits M5)
unfolding judging
loaded_from_nothing = refl

-- from the beat of a Grant that has come
loaded_early : first_commit_breach {w = 16} two_caches all_told no_liberties
    (filling (loads 0 3 8 361700864190383365 ∷ [])) ≡ None
unfolding judging
loaded_early = refl

-- which has other bytes
loaded_otherwise_early : first_commit_breach {w = 16} two_caches all_told no_liberties
    (filling (loads 0 3 8 361700864190383366 ∷ [])) ≡ Some (2, OfCommits M6)
unfolding judging
loaded_otherwise_early = refl

-- from a beat that is to come
loaded_too_early : first_commit_breach {w = 16} two_caches all_told no_liberties
    (filling (loads 0 0 16 5 ∷ [])) ≡ Some (2, OfCommits M5)
unfolding judging
loaded_too_early = refl

-- a load brings what the core stored
loaded_back : first_commit_breach {w = 16} two_caches all_told no_liberties
    (writer (stores 0 1 2 2314 ∷ loads 0 0 3 9 ∷ loads 0 0 2 10 ∷ [])) ≡ None
unfolding judging
loaded_back = refl

-- and not what was before it
loaded_back_stale : first_commit_breach {w = 16} two_caches all_told no_liberties
    (writer (stores 0 1 2 2314 ∷ loads 0 0 3 5 ∷ [])) ≡ Some (7, OfCommits M6)
unfolding judging
loaded_back_stale = refl

-- unless the trace doesn't have all stores of the link
loaded_unrecorded : first_commit_breach {w = 16} two_caches incomplete no_liberties
    (writer (stores 0 0 3 9 ∷ loads 0 0 3 5 ∷ [])) ≡ None
unfolding judging
loaded_unrecorded = refl

-- a load after the copy is gone
loaded_too_late : first_commit_breach {w = 16} two_caches all_told no_liberties
    (writer (gives_up probe_block ++ loads 0 0 3 5 ∷ [])) ≡ Some (8, OfCommits M5)
unfolding judging
loaded_too_late = refl

-- that began before
loaded_in_time : first_commit_breach {w = 16} two_caches all_told no_liberties
    (writer (begins_to_load 0 0 3 ∷ gives_up probe_block ++ loads 0 0 3 5 ∷ [])) ≡ None
unfolding judging
loaded_in_time = refl

-- another began
another_began : first_commit_breach {w = 16} two_caches all_told no_liberties
    (writer (begins_to_load 0 0 2 ∷ gives_up probe_block ++ loads 0 0 3 5 ∷ [])) ≡ Some (9, OfCommits M5)
unfolding judging
another_began = refl

-- so does one of more bytes
a_larger_began : first_commit_breach {w = 16} two_caches all_told no_liberties
    (writer (begins_to_load 0 1 2 ∷ gives_up probe_block ++ loads 0 0 2 5 ∷ [])) ≡ Some (9, OfCommits M5)
unfolding judging
a_larger_began = refl

-- or one on another link
elsewhere_began : first_commit_breach {w = 16} two_caches all_told no_liberties
    (writer (begins_to_load 1 0 3 ∷ gives_up probe_block ++ loads 0 0 3 5 ∷ [])) ≡ Some (9, OfCommits M5)
unfolding judging
elsewhere_began = refl

-- it began, and ended
began_once : first_commit_breach {w = 16} two_caches all_told no_liberties
    (writer (begins_to_load 0 0 3 ∷ loads 0 0 3 5 ∷ gives_up probe_block ++ loads 0 0 3 5 ∷ [])) ≡ Some
    (10, OfCommits M5)
unfolding judging
began_once = refl

-- a load that began before a store may miss it
loaded_before_a_store : first_commit_breach {w = 16} two_caches all_told no_liberties
    (writer (begins_to_load 0 0 3 ∷ stores 0 0 3 9 ∷ loads 0 0 3 5 ∷ [])) ≡ None
unfolding judging
loaded_before_a_store = refl

-- and brings nothing else
loaded_nowhere : first_commit_breach {w = 16} two_caches all_told no_liberties
    (writer (begins_to_load 0 0 3 ∷ stores 0 0 3 9 ∷ loads 0 0 3 7 ∷ [])) ≡ Some (8, OfCommits M6)
unfolding judging
loaded_nowhere = refl

-- a load says what a byte is of which nothing is known
loaded_twice : first_commit_breach {w = 16} two_caches all_told no_liberties
    (unread (loads 0 0 3 7 ∷ loads 0 0 3 8 ∷ [])) ≡ Some (4, OfCommits M6)
unfolding judging
loaded_twice = refl

-- one that began earlier doesn't
loaded_twice_slowly : first_commit_breach {w = 16} two_caches all_told no_liberties
    (unread (begins_to_load 0 0 3 ∷ loads 0 0 3 7 ∷ loads 0 0 3 8 ∷ [])) ≡ None
unfolding judging
loaded_twice_slowly = refl

-- nor one that isn't judged
loaded_unjudged : first_commit_breach {w = 16} two_caches incomplete no_liberties
    (writer (loads 0 0 3 7 ∷ gives_up probe_block ++ beats (acquire 1 0 0 65535 ∷ grant_beat 1 1 0 1 (wide 5) ∷ [])))
    ≡ None
unfolding judging
loaded_unjudged = refl

-- ---- reports

-- a report gives back what was stored
given_back : first_commit_breach {w = 16} two_caches all_told no_liberties
    (writer (stores 0 0 3 9 ∷ beats (release_beat 0 1 (5 ∷ 5 ∷ 5 ∷ 9 ∷ replicate 12 5) ∷ []))) ≡ None
unfolding judging
given_back = refl

-- or what was before it
given_back_stale : first_commit_breach {w = 16} two_caches all_told no_liberties
    (writer (stores 0 0 3 9 ∷ beats (release_beat 0 1 (wide 5) ∷ []))) ≡ Some (7, OfCommits M7)
unfolding judging
given_back_stale = refl

-- which nobody knows unless the trace has all stores
given_back_unrecorded : first_commit_breach {w = 16} two_caches incomplete no_liberties
    (writer (stores 0 0 3 9 ∷ beats (release_beat 0 1 (wide 5) ∷ []))) ≡ None
unfolding judging
given_back_unrecorded = refl

-- a copy that was written is given up without data
lost : first_commit_breach {w = 16} two_caches all_told no_liberties
    (writer (stores 0 0 3 9 ∷ gives_up probe_block)) ≡ Some (8, OfCommits M7)
unfolding judging
lost = refl

-- what was stored is what was there
lost_nothing : first_commit_breach {w = 16} two_caches all_told no_liberties
    (writer (stores 0 0 3 5 ∷ gives_up probe_block)) ≡ None
unfolding judging
lost_nothing = refl

-- nobody knows
lost_unrecorded : first_commit_breach {w = 16} two_caches incomplete no_liberties
    (writer (stores 0 0 3 9 ∷ gives_up probe_block)) ≡ None
unfolding judging
lost_unrecorded = refl

-- the manager wants no data
lost_as_wanted : first_commit_breach {w = 16} two_caches all_told no_liberties
    (writer (stores 0 0 3 9 ∷ gives_up probe_perm)) ≡ None
unfolding judging
lost_as_wanted = refl

-- a second store loses what the first has lost
lost_twice : first_commit_breach {w = 16} two_caches all_told no_liberties
    (writer (stores 0 0 3 9 ∷ stores 0 0 3 9 ∷ gives_up probe_block)) ≡ Some (9, OfCommits M7)
unfolding judging
lost_twice = refl

-- or brings back what was there
brought_back : first_commit_breach {w = 16} two_caches all_told no_liberties
    (writer (stores 0 0 3 9 ∷ stores 0 0 3 5 ∷ gives_up probe_block)) ≡ None
unfolding judging
brought_back = refl

-- what was there before an AcquirePerm isn't known
lost_unread : first_commit_breach {w = 16} two_caches all_told no_liberties
    (unread (stores 0 0 3 9 ∷ gives_up probe_block)) ≡ None
unfolding judging
lost_unread = refl

-- but for a block whose bytes were known
lost_unread_known : first_commit_breach {w = 16} two_caches all_told no_liberties
    (writer (beats (four (release_beat 0 1 (wide 5)) ++ release_ack 0 1 ∷ []) ++ unread
    (stores 0 0 3 9 ∷ gives_up probe_block))) ≡ Some (16, OfCommits M7)
unfolding judging
lost_unread_known = refl

-- which are stored again
kept_unread : first_commit_breach {w = 16} two_caches all_told no_liberties
    (writer (beats (four (release_beat 0 1 (wide 5)) ++ release_ack 0 1 ∷ []) ++ unread
    (stores 0 0 3 5 ∷ gives_up probe_block))) ≡ None
unfolding judging
kept_unread = refl

-- ---- copies that are dropped without a word

abbrev drops : Liberties
drops = record no_liberties { drops = true }

-- a copy that was written is gone
dropped : first_commit_breach {w = 16} two_caches all_told drops
    (writer (stores 0 0 3 9 ∷ beats (acquire 0 1 0 65535 ∷ []))) ≡ Some (7, OfCommits M7)
unfolding judging
dropped = refl

-- a clean one is
dropped_clean : first_commit_breach {w = 16} two_caches all_told drops
    (writer (loads 0 0 3 5 ∷ beats (acquire 0 1 0 65535 ∷ []))) ≡ None
unfolding judging
dropped_clean = refl

-- a Grant doesn't bring what was stored
granted_stale : first_commit_breach {w = 16} two_caches incomplete drops
    (writer (stores 0 0 3 9 ∷ beats (acquire 0 1 0 65535 ∷ grant_beat 0 0 0 1 (wide 5) ∷ []))) ≡ Some
    (8, OfBeats (OfMemory M2))
unfolding judging
granted_stale = refl
