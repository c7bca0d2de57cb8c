-- What is outstanding is counted, and is few.
use Rattle.std.proofs.Common.{◌≡◌, ◌<◌, ◌≤◌, ◌+◌, ◌-◌, ◌*◌, ◌^◌, ℕ, zero, suc, Bool, true, false, ◌∷◌, None, refl, ◌∙◌}
use Rattle.std.proofs.Common.{length, arith}
use Rattle.std.proofs.lemmas.Bool.Decides.{nat_tests}
use Rattle.std.specs.Prelude.{slice_index_or}
use Rattle.std.proofs.Math.Nat.{min-eq_left}
use Rattle.tl_params.specs.declared.config.ClientConfig.{ClientConfig}
use Rattle.tl_params.specs.declared.config.Config.{Config}
use Rattle.tl_params.specs.declared.level.Level.TheVariants as level
use Rattle.tl_params.specs.statement.Config.{config_fault, blocks_fit, trackers_fit, all_sources_fit}
use Rattle.tl_params.specs.statement.Range.{is_from_to}
use Rattle.tl_coherence.specs.declared.event.Event.{Event}
use Rattle.tl_coherence.specs.declared.event.Event.TheVariants.{Ask, Deliver}
use Rattle.tl_coherence.specs.declared.event.Outcome.{Outcome}
use Rattle.tl_coherence.specs.declared.event.Outcome.TheVariants as outcome
use Rattle.tl_coherence.specs.statement.Delivery.{sources_of}
use Rattle.tl_coherence.specs.statement.Headline.{IsGiven}
use Rattle.tl_world.specs.code.Holds.{clients_of}
use Rattle.tl_coherence.specs.statement.Load.{starts_request, starts_release, ends_request, ends_release, requests}
use Rattle.tl_coherence.specs.statement.Load.{releases}
use Rattle.tl_coherence.specs.statement.Log.{Log}
use Rattle.tl_world.specs.code.Opened.{counted}
use Rattle.tl_coherence.specs.bound.Rank.{total, is_used, is_let, open_requests, open_releases}
use Rattle.tl_coherence.specs.statement.System.{terms_at}
use Rattle.tl_manager.specs.laws.Pending.{one_if}
use Rattle.tl_coherence.specs.refinement.SimulationRelation.{is_caching}
use Rattle.tl_coherence.proofs.simulation.Bounded.{matched-bounded}
use Rattle.tl_coherence.proofs.protocol.Capacities.{few_on_e}
use Rattle.tl_coherence.proofs.outstanding.Counted.{number-next, requests-open, releases-open}
use Rattle.tl_coherence.proofs.links.FromInvariant.{matched-given}
use Rattle.tl_coherence.proofs.queues.Limits.{limits-fit, all-fit}
use Rattle.tl_world.proofs.Made.{sources-at}
use Rattle.tl_coherence.proofs.deliveries.Matching.{shadow}
use Rattle.tl_coherence.proofs.simulation.Owned.{sources-own}
use Rattle.tl_coherence.proofs.outstanding.Progress as progress

-- ---- totals

total-ones : (n : ℕ) (test : ℕ → Bool) → total n (λ i. one_if (test i)) ≤ n
unfolding total
total-ones zero test = omega arith
total-ones (suc n) test = let below = total-ones n test in go (test n) below
  where
    go : (b : Bool) → total n (λ i. one_if (test i)) ≤ n → total n (λ i. one_if (test i)) + one_if b ≤ suc n
    go true below = omega (arith, below)
    go false below = omega (arith, below)

total-most : (n : ℕ) (f : ℕ → ℕ) → ((i : ℕ) → i < n → f i ≤ 16) → total n f ≤ 16 * n
unfolding total
total-most zero f each = omega arith
total-most (suc n) f each = let rest = total-most n f (λ i lt. each i (omega (arith, lt))) in let last =
    each n (omega arith) in omega (arith, rest, last)

-- ---- a configuration within its limits

from_to : (n m : ℕ) → is_from_to 1 m n ≡ true → n ≤ m
from_to n m e = grind (arith, nat_tests, e)

record AreFew (config : Config) : Type 0 where
  clients : clients_of config ≤ 16
  trackers : config.trackers ≤ 8
  sources : (c : ℕ) → c < clients_of config → sources_of (terms_at config c) ≤ 8

few : (config : Config) → config_fault config ≡ None → AreFew config
few config fits =
    let parts = limits-fit (is_from_to 1 16 (length config.clients.items)) (blocks_fit config.blocks)
    (trackers_fit config.trackers) (all_sources_fit config.clients.items) fits in
    let some : ClientConfig = record { level = level.UL; sources = 0 } in
    record {
      clients = from_to (length config.clients.items) 16 parts.0;
      trackers = from_to config.trackers 8 parts.2;
      sources = λ c lt. rw (sources-at config c some lt) (from_to (slice_index_or config.clients.items c some).sources 8
          (all-fit config.clients.items c some parts.3 lt));
    }

-- ---- after a log

module _ {w : ℕ} (config : Config) (log : Log w) (given : IsGiven config log) where
  pub requests-few : requests log ≤ 256
  requests-few =
      let limits = few config given.fits in
      let counted_open = requests-open config log (shadow config log).state
      (progress.counted config log given.width given.typed given.is_log) in
      let many : open_requests config (shadow config log).state ≤ 16 * clients_of config =
      total-most (clients_of config)
      (λ c. total (sources_of (terms_at config c)) (λ i. one_if (is_used ((shadow config log).state.uses c i)))
      + length ((shadow config log).state.link c).e) each in
      let clients = limits.clients in
      omega (arith, counted_open, many, clients)
    where
      each : (c : ℕ) → c < clients_of config
          → total (sources_of (terms_at config c)) (λ i. one_if (is_used ((shadow config log).state.uses c i))) + length
          ((shadow config log).state.link c).e ≤ 16
      each c lt =
          let limits = few config given.fits in
          let matched = matched-given config log given in
          let bounds = matched-bounded config log _ _ _ _ matched c (sources-own config log c given.width) in
          let acks = few_on_e (is_caching config) (shadow config log).state c (sources_of (terms_at config c))
          config.trackers matched.invariant bounds in
          let uses = total-ones (sources_of (terms_at config c)) (λ i. is_used ((shadow config log).state.uses c i)) in
          let sources = limits.sources c lt in
          let trackers = limits.trackers in
          omega (arith, acks, uses, sources, trackers)

  pub releases-few : releases log ≤ 256
  releases-few =
      let limits = few config given.fits in
      let counted_open = releases-open config log (shadow config log).state
      (progress.counted config log given.width given.typed given.is_log) in
      let many : open_releases config (shadow config log).state ≤ 16 * clients_of config =
      total-most (clients_of config)
      (λ c. total (sources_of (terms_at config c)) (λ i. one_if (is_let ((shadow config log).state.lets c i)))) each
      in
      let clients = limits.clients in
      omega (arith, counted_open, many, clients)
    where
      each : (c : ℕ) → c < clients_of config
          → total (sources_of (terms_at config c)) (λ i. one_if (is_let ((shadow config log).state.lets c i))) ≤ 16
      each c lt =
          let limits = few config given.fits in
          let lets = total-ones (sources_of (terms_at config c)) (λ i. is_let ((shadow config log).state.lets c i)) in
          let sources = limits.sources c lt in
          omega (arith, lets, sources)

-- ---- one more event

request-or-end : {w : ℕ} (event : Event w) (o : Outcome w) → starts_request event o ≡ true → ends_request o ≡ false
request-or-end event (outcome.Replied r) e = refl
request-or-end (Ask client op) outcome.Empty e = absurd cc
request-or-end (Ask client op) outcome.Stalled e = absurd cc
request-or-end (Ask client op) (outcome.Moved x) e = absurd cc
request-or-end (Ask client op) (outcome.Done x source f) e = absurd cc
request-or-end (Ask client op) outcome.NoSuchClient e = absurd cc
request-or-end (Deliver link ch) outcome.Empty e = absurd cc
request-or-end (Deliver link ch) outcome.Stalled e = absurd cc
request-or-end (Deliver link ch) (outcome.Moved x) e = absurd cc
request-or-end (Deliver link ch) (outcome.Done x source f) e = absurd cc
request-or-end (Deliver link ch) outcome.NoSuchClient e = absurd cc

release-or-end : {w : ℕ} (event : Event w) (o : Outcome w) → starts_release event o ≡ true → ends_release o ≡ false
release-or-end event (outcome.Replied r) e = refl
release-or-end (Ask client op) outcome.Empty e = absurd cc
release-or-end (Ask client op) outcome.Stalled e = absurd cc
release-or-end (Ask client op) (outcome.Moved x) e = absurd cc
release-or-end (Ask client op) (outcome.Done x source f) e = absurd cc
release-or-end (Ask client op) outcome.NoSuchClient e = absurd cc
release-or-end (Deliver link ch) outcome.Empty e = absurd cc
release-or-end (Deliver link ch) outcome.Stalled e = absurd cc
release-or-end (Deliver link ch) (outcome.Moved x) e = absurd cc
release-or-end (Deliver link ch) (outcome.Done x source f) e = absurd cc
release-or-end (Deliver link ch) outcome.NoSuchClient e = absurd cc

-- a difference, counted one at a time
counted-one : (starts ends : Bool) (n s e left : ℕ) → (starts ≡ true → ends ≡ false) → n ≡ s - e → s ≡ e + left
    → n ≤ 256 → counted starts ends n ≡ (s + one_if starts) - (e + one_if ends)
counted-one true true n s e left one is sum few = absurd (let no = one refl in cc)
counted-one true false n s e left one is sum few =
    let small : n + 1 ≤ 2 ^ 16 - 1 = omega (arith, few) in
    min-eq_left small ∙ omega (arith, is, sum)
counted-one false true n s e left one is sum few = omega (arith, is)
counted-one false false n s e left one is sum few = omega (arith, is)

module _ {w : ℕ} (config : Config) (log : Log w) (given : IsGiven config log) (event : Event w) (o : Outcome w) where
  pub requests-next : counted (starts_request event o) (ends_request o) (requests log) ≡ requests ((event, o) ∷ log)
  unfolding requests
  requests-next =
      let are = progress.counted config log given.width given.typed given.is_log in
      rw (number-next starts_request event o log, number-next (λ e p. ends_request p) event o log)
      (counted-one (starts_request event o) (ends_request o) _ _ _ (open_requests config (shadow config log).state)
      (request-or-end event o) refl are.requests_are (requests-few config log given))

  pub releases-next : counted (starts_release event o) (ends_release o) (releases log) ≡ releases ((event, o) ∷ log)
  unfolding releases
  releases-next =
      let are = progress.counted config log given.width given.typed given.is_log in
      rw (number-next starts_release event o log, number-next (λ e p. ends_release p) event o log)
      (counted-one (starts_release event o) (ends_release o) _ _ _ (open_releases config (shadow config log).state)
      (release-or-end event o) refl are.releases_are (releases-few config log given))
