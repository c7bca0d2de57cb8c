-- That no beat of a world breaks a rule, judged together with all that its links have carried.
use Rattle.std.specs.Prelude.{ℕ, ◌≡◌, None, reverse}
use Rattle.tl_params.specs.declared.config.Config.{Config}
use Rattle.tl_params.specs.declared.liberties.Liberties.{Liberties}
use Rattle.tl_params.specs.statement.Liberties.{liberties_of}
use Rattle.tl_forgiving.specs.statement.Forgiving.{IsWithin}
use Rattle.tl_coherence.specs.statement.Delivery.{levels_of}
use Rattle.tl_coherence.specs.statement.Flow.{trace_of}
use Rattle.tl_coherence.specs.statement.Headline.{IsGiven}
use Rattle.tl_coherence.specs.statement.Log.{Log}
use Rattle.tl_together.specs.statement.Coherence.{first_breach}

-- the beats of all links, the oldest first, have no first breach, under any liberties that the profile's are among
abbrev pub Concord : ℕ → Type 0
Concord w = (config : Config) (l : Liberties) (log : Log w) → IsGiven config log
    → IsWithin (liberties_of config.profile) l
    → first_breach (levels_of config) l (reverse (trace_of log)) ≡ None
