-- No event of a world breaks a rule for commits.
use Rattle.std.proofs.Common.{ℕ, Bool, [], ◌∷◌, refl, subst}
use Rattle.std.proofs.lemmas.List.{length-map}
use Rattle.tl_params.specs.declared.config.Config.{Config}
use Rattle.tl_events.specs.declared.commit.Event.TheVariants as event
use Rattle.tl_commits.specs.statement.Events.{Events}
use Rattle.tl_coherence.specs.statement.Delivery.{levels_of}
unfoldable use Rattle.tl_commit_memory.specs.statement.KeptCopies.{KeepCopies}
use Rattle.tl_commit_memory.proofs.Copies.{kept_copies}
use Rattle.tl_world_commits.proofs.Reports.{links, zeros, zeros-start}
unfoldable use Rattle.tl_world_commits.proofs.Steps.{AreCached}
use Rattle.tl_world_commits.proofs.WorldSteps.{world-steps}
use Rattle.tl_world_commits.specs.statement.Unbroken.{UnbrokenCommits, complete_of}
unfoldable use Rattle.tl_world_commits.specs.statement.Unbroken.{AreUnbroken}
use Rattle.tl_world_commits.specs.statement.WorldEvents.{events_of}

-- commits of links with a cache that break none of M5 and M6 break no rule
unbroken : {w : ℕ} (from_zero : Bool) (config : Config) (e : Events w) → AreCached (levels_of config) e
    → KeepCopies (complete_of from_zero config) (links config) e → AreUnbroken from_zero config e
unfolding AreCached KeepCopies AreUnbroken
unbroken from_zero config [] cached kept = tt
unbroken from_zero config ((link, event.Beat x) ∷ e) cached kept = (kept.0, unbroken from_zero config e cached.1 kept.1)
unbroken from_zero config ((link, event.Commit x) ∷ e) cached kept = (
  rw (cached.0, length-map config.clients.items (λ client. client.level), kept.0) refl,
  unbroken from_zero config e cached.1 kept.1,
)

pub unbroken_commits : {w : ℕ} → UnbrokenCommits w
unbroken_commits from_zero config log given ranged =
    let has = world-steps from_zero config log given ranged in
    unbroken from_zero config (events_of log) has.cached
    (subst (λ e. KeepCopies (complete_of from_zero config) (links config) e) has.events_are
    (kept_copies (complete_of from_zero config) (links config) zeros has.steps (zeros-start from_zero) has.is_run has.copies))
