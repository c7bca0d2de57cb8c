-- What is outstanding after a log is what is open: the starts of the log are its ends and what is open after it.
use Rattle.std.proofs.Common.{◌≡◌, ℕ, ◌+◌, ◌*◌, Bool, [], ◌∷◌, refl, arith, ◌/◌}
use Rattle.tl_coherence.proofs
use proofs.Imports.{IsWidth, Config, one_if, open_releases, open_requests, total, Event, Outcome, State, AbstractState}
use proofs.Imports.{abstract_step, first_state, SimulationRelation, ends_release, ends_request, load, outstanding}
use proofs.Imports.{starts_release, starts_request, releases, requests, Log, system_after, stepped}
use Rattle.tl_coherence.specs.statement.Load.{number}
use proofs.protocol.Served.{clients_in, sources_in, IsBalance}
use proofs.outstanding.Outstanding.{counted-followed}
use proofs.queues.Tokens.{total-zero}

-- the starts of this log are its ends and what is open in this state
pub record AreCounted {w : ℕ} {X : Type 0} (config : Config) (log : Log w) (s : State X) : Type 0 where
  pub requests_are : number starts_request log ≡ number (λ e o. ends_request o) log + open_requests config s
  pub releases_are : number starts_release log ≡ number (λ e o. ends_release o) log + open_releases config s

pub number-next : {w : ℕ} (test : Event w → Outcome w → Bool) (event : Event w) (o : Outcome w) (log : Log w)
    → number test ((event, o) ∷ log) ≡ number test log + one_if (test event o)
number-next {w} test event o log = grind arith

-- nothing has started, and nothing is open
pub counted-first : {w : ℕ} (config : Config) → AreCounted {w = w} config [] first_state
counted-first config =
    let requests_none : open_requests config first_state ≡ 0 = total-zero (clients_in config)
    (λ c. total (sources_in config c) (λ i. 0) + 0) (λ c few. let none : total (sources_in config c) (λ i. 0) ≡ 0 =
    total-zero (sources_in config c) (λ i. 0) (λ i lt. refl) in omega (arith, none)) in
    let releases_none = total-zero (clients_in config) (λ c. total (sources_in config c) (λ i. 0))
    (λ c few. total-zero (sources_in config c) (λ i. 0) (λ i lt. refl)) in
    record { requests_are = omega (arith, requests_none); releases_are = omega (arith, releases_none) }

counted-balance : {w : ℕ} {X : Type 0} {config : Config} {log : Log w} {s s' : State X} (event : Event w)
    (o : Outcome w) → IsBalance config s s' (starts_request event o) (ends_request o) (starts_release event o)
    (ends_release o) → AreCounted config log s → AreCounted config ((event, o) ∷ log) s'
counted-balance {log} event o is before = record {
  requests_are = omega (
    arith,
    is.requests,
    before.requests_are,
    number-next starts_request event o log,
    number-next (λ e p. ends_request p) event o log,
  );
  releases_are = omega (
    arith,
    is.releases,
    before.releases_are,
    number-next starts_release event o log,
    number-next (λ e p. ends_release p) event o log,
  );
}

-- and every event keeps it
pub counted-next : {w : ℕ} {config : Config} {log : Log w} (h : AbstractState w) (event : Event w) → IsWidth w
    → SimulationRelation config log h.mail h.request h.state (system_after config log) → AreCounted config log h.state
    → AreCounted config ((event, (stepped config event (system_after config log)).outcome) ∷ log)
    (abstract_step config event (system_after config log) h).state
counted-next {config} {log} h event width matched before = counted-balance event
    _ (counted-followed h width matched event) before

-- what is outstanding is what is open
pub requests-open : {w : ℕ} {X : Type 0} (config : Config) (log : Log w) (s : State X) → AreCounted config log s
    → requests log ≡ open_requests config s
unfolding requests
requests-open config log s is = omega (arith, is.requests_are)

pub releases-open : {w : ℕ} {X : Type 0} (config : Config) (log : Log w) (s : State X) → AreCounted config log s
    → releases log ≡ open_releases config s
unfolding releases
releases-open config log s is = omega (arith, is.releases_are)

pub outstanding-open : {w : ℕ} {X : Type 0} {config : Config} {log : Log w} {s : State X} → AreCounted config log s
    → outstanding log ≡ open_requests config s + open_releases config s
outstanding-open {config} {log} {s} is = omega (arith, requests-open _ log s is, releases-open _ log s is)

-- and the load is that of what is open
pub load-open : {w : ℕ} {X : Type 0} {config : Config} {log : Log w} {s : State X} → AreCounted config log s
    → load log ≡ (64 / w + 33) * open_requests config s + (64 / w + 1) * open_releases config s
load-open {w} {config} {log} {s} is = cc (requests-open config log s is, releases-open _ log s is)
