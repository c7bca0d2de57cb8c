-- The shortest traces that break a rule if memory was zero before them, and none else, and beside each the nearest
-- right one.
use Rattle.std.proofs.Common.{◌≡◌, refl, [], ◌∷◌, ◌++◌}
use Rattle.std.specs.Prelude.{Some, None, false, true}
use Rattle.tl_beat.specs.declared.beat.Beat.{Beat}
use Rattle.tl_beat.specs.declared.beat.Beat.TheVariants as beat
use Rattle.tl_beat.specs.declared.beat.Link.{Link}
use Rattle.tl_beat.specs.declared.opcode.OpB.TheVariants as b
use Rattle.tl_beat.specs.declared.opcode.OpC.TheVariants as c
use Rattle.tl_bytes.proofs.WorkedBeats.{acquire, found, get, grant_beat, wide}
use Rattle.tl_params.specs.declared.memory_rule.MemoryRule.TheVariants.{M2, M3}
use Rattle.tl_params.specs.statement.Liberties.{no_liberties}
use Rattle.tl_together.specs.declared.breach.Breach.TheVariants.{OfMemory}
use Rattle.tl_commits.specs.declared.rule.CommitBreach.TheVariants.{OfBeats, OfCommits}
use Rattle.tl_events.specs.declared.rule.CommitRule.TheVariants.{M6, M7}
use Rattle.tl_commits.specs.statement.Breaches.{first_commit_breach}
use Rattle.tl_commits.specs.statement.Completeness.{Completeness}
use Rattle.tl_commits.specs.statement.Events.{Events}
use Rattle.tl_commits.proofs.WorkedEvents.{all_told, beats, gives_up, loads, judging, probe_block, stores, two_caches}
use Rattle.tl_commits.proofs.WorkedEvents.{unread}

-- all stores of both links are in the trace, and memory was zero before it
abbrev from_zero : Completeness
from_zero = record { stores = true ∷ true ∷ []; zero = true }

-- a Probe that asks for no data and leaves a copy to read, and its answer
abbrev probe_to_branch : Link × Beat 16
probe_to_branch = (
  record { 0 = 0 },
  beat.B (record {
    opcode = b.ProbePerm;
    param = 1;
    size = 6;
    source = 0;
    address = 0;
    mask = 65535;
    lanes = None;
    corrupt = false;
    carries = refl;
  }),
)

abbrev kept_branch : Link × Beat 16
kept_branch = (
  record { 0 = 0 },
  beat.C (record {
    opcode = c.ProbeAck;
    param = 0;
    size = 6;
    source = 0;
    address = 0;
    lanes = None;
    corrupt = false;
    carries = refl;
  }),
)

-- link 0 stores a 9 to byte 3 of a copy that it may write, unread; a Probe takes Trunk away, and wants no data
abbrev lost_store : Events 16 → Events 16
lost_store rest = unread (stores 0 0 3 9 ∷ beats (probe_to_branch ∷ kept_branch ∷ [])) ++ rest

-- ---- the first Grant of a block

-- brings zeros
granted_zeros : first_commit_breach {w = 16} two_caches from_zero no_liberties
    (beats (acquire 0 1 0 65535 ∷ grant_beat 0 0 0 0 (wide 0) ∷ [])) ≡ None
unfolding judging
granted_zeros = refl

-- or others
granted_others : first_commit_breach {w = 16} two_caches from_zero no_liberties
    (beats (acquire 0 1 0 65535 ∷ grant_beat 0 0 0 0 (wide 5) ∷ [])) ≡ Some (1, OfBeats (OfMemory M2))
unfolding judging
granted_others = refl

-- which it may if memory was anything
granted_any : first_commit_breach {w = 16} two_caches all_told no_liberties
    (beats (acquire 0 1 0 65535 ∷ grant_beat 0 0 0 0 (wide 5) ∷ [])) ≡ None
unfolding judging
granted_any = refl

-- ---- the first read

-- finds zeros
read_zeros : first_commit_breach {w = 16} two_caches from_zero no_liberties
    (beats (get 0 0 4 65535 ∷ found 0 0 4 (wide 0) ∷ [])) ≡ None
unfolding judging
read_zeros = refl

-- or others
read_others : first_commit_breach {w = 16} two_caches from_zero no_liberties
    (beats (get 0 0 4 65535 ∷ found 0 0 4 (wide 5) ∷ [])) ≡ Some (1, OfBeats (OfMemory M3))
unfolding judging
read_others = refl

-- which it may if memory was anything
read_any : first_commit_breach {w = 16} two_caches all_told no_liberties
    (beats (get 0 0 4 65535 ∷ found 0 0 4 (wide 5) ∷ [])) ≡ None
unfolding judging
read_any = refl

-- ---- a store to a copy that was never read, which is given up without data

-- is lost
lost_other : first_commit_breach {w = 16} two_caches from_zero no_liberties
    (unread (stores 0 0 3 9 ∷ gives_up probe_block)) ≡ Some (5, OfCommits M7)
unfolding judging
lost_other = refl

-- unless it wrote what memory has
lost_zero : first_commit_breach {w = 16} two_caches from_zero no_liberties
    (unread (stores 0 0 3 0 ∷ gives_up probe_block)) ≡ None
unfolding judging
lost_zero = refl

-- ---- a load of a byte whose store is lost, as the manager wants it

-- finds what memory has
loaded_zero : first_commit_breach {w = 16} two_caches from_zero no_liberties
    (lost_store (loads 0 0 3 0 ∷ [])) ≡ None
unfolding judging
loaded_zero = refl

-- which isn't what was stored
loaded_other : first_commit_breach {w = 16} two_caches from_zero no_liberties
    (lost_store (loads 0 0 3 9 ∷ [])) ≡ Some (6, OfCommits M6)
unfolding judging
loaded_other = refl

-- which it may be if memory was anything
loaded_any : first_commit_breach {w = 16} two_caches all_told no_liberties
    (lost_store (loads 0 0 3 9 ∷ [])) ≡ None
unfolding judging
loaded_any = refl
