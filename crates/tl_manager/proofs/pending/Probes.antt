-- One link, and the services, after Probes were handed out to several clients.
use Rattle.tl_manager.proofs.Imports.{Link, Message, B, begun, beats_of, History, Cap, sent, Trace, on_link, ends}
use Rattle.tl_manager.proofs.Imports.{with_handed, probes, probe_of_block, clients_from, Service, services, is_ended_by}
use Rattle.std.proofs.Common.{◌≡◌, ℕ, zero, suc, ◌+◌, ◌<◌, ◌≤◌, Bool, true, false, not, List, [], ◌∷◌, ◌++◌, refl, ◌∙◌}
use Rattle.std.proofs.Common.{ap, ◌⊎◌, inl, inr, arith}
use Rattle.std.specs.Prelude.{if◌then◌else◌, map, filter}
use Rattle.std.proofs.lemmas.Bool.{cases_eq, eq-eqb, ne_eqb}
use Rattle.tl_beat.{specs.declared.beat.Beat.Beat, specs.declared.beat.BeatB.BeatB}
use Rattle.tl_burst.specs.declared.message.MessageB.{MessageB}
use Rattle.tl_manager.proofs.pending.Handed.{after_sent, own_link, other_link}

-- ---- one link after Probes

to_own : {w : ℕ} (d : ℕ) (m : Message w) (t : Trace w) → on_link d (after_sent (record { 0 = d }) m t) ≡ sent m
    (on_link d t)
to_own d m t = own_link d (record { 0 = d }) m t (eq-eqb d d refl)

to_other : {w : ℕ} (d client : ℕ) (m : Message w) (t : Trace w) → (client ≡ d → ⊥)
    → on_link d (after_sent (record { 0 = client }) m t) ≡ on_link d t
to_other d client m t ne = other_link d (record { 0 = client }) m t (ne_eqb client d ne)

-- clients before the first one tried have none
pub probes-before : {w : ℕ} (d block : ℕ) (k : Cap) (first n : ℕ) (test : ℕ → Bool) (t : Trace w) → d < first
    → on_link d (with_handed (probes block k (clients_from first n test)) t) ≡ on_link d t
unfolding with_handed clients_from
probes-before d block k first zero test t lt = refl
probes-before {w} d block k first (suc n) test t lt =
    go (λ u. probes-before d block k (first + 1) n test u (omega (arith, lt))) (test first)
  where
    Rest : Type 0
    Rest = (u : Trace w) → on_link d (with_handed (probes block k (clients_from (first + 1) n test)) u) ≡ on_link d u

    go : Rest → (b : Bool) → on_link d
        (with_handed (probes block k (if b then first ∷ clients_from (first + 1) n test else clients_from (first + 1) n
        test)) t) ≡ on_link d t
    go rest true =
        let ne : first ≡ d → ⊥ = λ e. absurd (omega (arith, e, lt)) in
        rest (after_sent (record { 0 = first }) (probe_of_block block k) t) ∙ to_other d first (probe_of_block block k)
        t ne
    go rest false = rest t

-- and those of the range one, where they pass the test
pub probes-within : {w : ℕ} (d block : ℕ) (k : Cap) (first n : ℕ) (test : ℕ → Bool) (t : Trace w) → first ≤ d
    → d < first + n
    → on_link d (with_handed (probes block k (clients_from first n test)) t)
    ≡ (if test d then sent (probe_of_block block k) (on_link d t) else on_link d t)
unfolding with_handed clients_from
probes-within d block k first zero test t le lt = absurd (omega (arith, le, lt))
probes-within {w} d block k first (suc n) test t le lt =
    go (cases_eq first d) (λ ne u. probes-within d block k (first + 1) n test u (omega (arith, le, ne))
    (omega (arith, lt)))
  where
    Rest : Type 0
    Rest = (u : Trace w) → on_link d (with_handed (probes block k (clients_from (first + 1) n test)) u)
        ≡ (if test d then sent (probe_of_block block k) (on_link d u) else on_link d u)

    at_first : (b : Bool)
        → on_link d (with_handed
        (probes block k (if b then d ∷ clients_from (d + 1) n test else clients_from (d + 1) n test)) t)
        ≡ (if b then sent (probe_of_block block k) (on_link d t) else on_link d t)
    at_first true = probes-before d block k (d + 1) n test (after_sent (record { 0 = d }) (probe_of_block block k) t)
        (omega arith) ∙ to_own d (probe_of_block block k) t
    at_first false = probes-before d block k (d + 1) n test t (omega arith)

    later : (first ≡ d → ⊥) → Rest → (b : Bool)
        → on_link d (with_handed
        (probes block k (if b then first ∷ clients_from (first + 1) n test else clients_from (first + 1) n test)) t)
        ≡ (if test d then sent (probe_of_block block k) (on_link d t) else on_link d t)
    later ne rest true =
        rest (after_sent (record { 0 = first }) (probe_of_block block k) t)
        ∙ ap (λ (h : History w). if test d then sent (probe_of_block block k) h else h)
        (to_other d first (probe_of_block block k) t ne)
    later ne rest false = rest t

    go : (first ≡ d) ⊎ (first ≡ d → ⊥) → ((first ≡ d → ⊥) → Rest)
        → on_link d (with_handed (probes block k (clients_from first (suc n) test)) t)
        ≡ (if test d then sent (probe_of_block block k) (on_link d t) else on_link d t)
    go (inl e) rest = rw e (at_first (test d))
    go (inr ne) rest = later ne (rest ne) (test first)

-- and clients past the last one none
pub probes-beyond : {w : ℕ} (d block : ℕ) (k : Cap) (first n : ℕ) (test : ℕ → Bool) (t : Trace w) → first + n ≤ d
    → on_link d (with_handed (probes block k (clients_from first n test)) t) ≡ on_link d t
unfolding with_handed clients_from
probes-beyond d block k first zero test t le = refl
probes-beyond {w} d block k first (suc n) test t le =
    go (λ u. probes-beyond d block k (first + 1) n test u (omega (arith, le))) (test first)
  where
    go : ((u : Trace w) → on_link d (with_handed (probes block k (clients_from (first + 1) n test)) u) ≡ on_link d u)
        → (b : Bool)
        → on_link d (with_handed
        (probes block k (if b then first ∷ clients_from (first + 1) n test else clients_from (first + 1) n test)) t)
        ≡ on_link d t
    go rest true =
        let ne : first ≡ d → ⊥ = λ e. absurd (omega (arith, e, le)) in
        rest (after_sent (record { 0 = first }) (probe_of_block block k) t) ∙ to_other d first (probe_of_block block k)
        t ne
    go rest false = rest t

-- ---- services

pub filter-all : {X : Type 0} (test : X → Bool) (xs : List X) → ((x : X) → test x ≡ true) → filter test xs ≡ xs
filter-all test [] all = refl
filter-all test (x ∷ xs) all = rw (all x, filter-all test xs all) refl

-- a beat of channel B ends no service
pub services-b : {w : ℕ} (link : Link) (x : BeatB w) (t : Trace w) → services ((link, Beat.B x) ∷ t) ≡ services t
unfolding services
services-b {w} link x t = go (ends (Beat.B x) (on_link link.0 t))
  where
    go : (b : Bool) → (if b then filter (λ (s : Service w). not (is_ended_by (link, Beat.B x) s)) (services t) else
        services t) ≡ services t
    go true = filter-all (λ (s : Service w). not (is_ended_by (link, Beat.B x) s)) (services t) (λ s. refl)
    go false = refl

services-begun_b : {w : ℕ} (link : Link) (m : MessageB w) (n : ℕ) (t : Trace w)
    → services (map (λ b. (link, b)) (begun (B m) n) ++ t) ≡ services t
services-begun_b link m zero t = refl
services-begun_b link m (suc n) t = services-b link _ (map (λ b. (link, b)) (begun (B m) n) ++ t) ∙ services-begun_b
    link m n t

pub services-sent_b : {w : ℕ} (link : Link) (m : MessageB w) (t : Trace w)
    → services (after_sent link (B m) t) ≡ services t
services-sent_b link m t = services-begun_b link m (beats_of (B m)) t

-- a Probe is a message of channel B
pub probe_is : {w : ℕ} (block : ℕ) (k : Cap) → (m : MessageB w) × (probe_of_block block k ≡ B m)
probe_is block k = (_, refl)

pub services-probes : {w : ℕ} (block : ℕ) (k : Cap) (clients : List ℕ) (t : Trace w)
    → services (with_handed (probes block k clients) t) ≡ services t
unfolding with_handed
services-probes block k [] t = refl
services-probes {w} block k (c ∷ clients) t =
    let p = probe_is {w = w} block k in
    services-probes block k clients (after_sent (record { 0 = c }) (probe_of_block block k) t)
    ∙ ap (λ (m : Message w). services (after_sent (record { 0 = c }) m t)) p.1 ∙ services-sent_b (record { 0 = c }) p.0
    t
