-- Whatever happens to a manager and its clients, what is outstanding is what is open, and a delivery is next exactly
-- while something is outstanding.
use Rattle.std.proofs.Common.{◌≡◌, ℕ, ◌<◌, true, [], ◌∷◌, None, arith, ◌==◌, is_none}
use Rattle.tl_coherence.proofs
use proofs.Imports.{nat_tests, IsWidth, Config, config_fault, trackers_fit, IsGiven, outstanding, Log, system_after}
use proofs.Imports.{next_delivery}
use Rattle.tl_coherence.specs.{statement.Headline.AreTyped, statement.Log.IsLog}
use proofs.outstanding.{Counted.AreCounted, Counted.counted-first, Counted.counted-next}
use proofs.outstanding.{Movement.next-while-outstanding}
use proofs.links.{HeadsOfLinks.first-of, FromInvariant.coherent, FromInvariant.matched-given}
use proofs.deliveries.Matching.{shadow, matched}
use proofs.queues.Limits.{limits-fit}

-- the starts of every log are its ends and what is open after it
pub counted : {w : ℕ} (config : Config) (log : Log w) → IsWidth w → AreTyped log → IsLog config log
    → AreCounted config log (shadow config log).state
unfolding shadow AreTyped IsLog
counted config [] width typed is = counted-first config
counted config (x ∷ log) width typed is = rw is.0 (counted-next (shadow config log) x.0 width
    (matched config log width typed.1 is.1) (counted config log width typed.1 is.1))

-- a configuration without a fault has a tracker
some_tracker : (n : ℕ) → trackers_fit n ≡ true → 0 < n
some_tracker n e = grind (arith, nat_tests)

tracked : (config : Config) → config_fault config ≡ None → 0 < config.trackers
tracked config e = grind (arith, some_tracker, limits-fit)

-- a delivery is next exactly while something is outstanding
pub moving : {w : ℕ} (config : Config) (log : Log w) → IsGiven config log
    → is_none (next_delivery config (system_after config log)) ≡ (outstanding log == 0)
moving config log given = next-while-outstanding (matched-given config log given) (coherent config log given)
    (tracked config given.fits) (λ c terms ch x rest at beats. first-of _ log _ c terms ch x rest given.width
    (matched-given config log given) at beats) given.width (counted config log given.width given.typed given.is_log)
