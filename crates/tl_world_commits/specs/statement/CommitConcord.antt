-- That no event of a world breaks a rule, judged together with all beats, stores and loads before it.
use Rattle.std.specs.Prelude.{ℕ, Bool, ◌≡◌, None, reverse}
use Rattle.tl_params.specs.declared.config.Config.{Config}
use Rattle.tl_params.specs.declared.liberties.Liberties.{Liberties}
use Rattle.tl_params.specs.statement.Liberties.{liberties_of}
use Rattle.tl_forgiving.specs.statement.Forgiving.{IsWithin}
use Rattle.tl_commits.specs.statement.Breaches.{first_commit_breach}
use Rattle.tl_coherence.specs.statement.Delivery.{levels_of}
use Rattle.tl_coherence.specs.statement.Headline.{IsGiven}
use Rattle.tl_coherence.specs.statement.Log.{Log}
use Rattle.tl_coherence.specs.statement.Ranged.{AreRanged}
use Rattle.tl_world_commits.specs.statement.Unbroken.{complete_of}
use Rattle.tl_world_commits.specs.statement.WorldEvents.{events_of}

-- The events of each world whose clients are given bytes, the oldest first, have no first breach of a rule, under any
-- liberties that the profile's are among, also if the header says that memory was zero.
abbrev pub CommitConcord : ℕ → Type 0
CommitConcord w = (zero : Bool) (config : Config) (l : Liberties) (log : Log w) → IsGiven config log → AreRanged log
    → IsWithin (liberties_of config.profile) l
    → first_commit_breach (levels_of config) (complete_of zero config) l (reverse (events_of log)) ≡ None
