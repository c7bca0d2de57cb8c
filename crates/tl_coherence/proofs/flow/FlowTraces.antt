-- What is delivered, on all links at once, has no first fault.
use Rattle.std.proofs.Common.{◌≡◌, ℕ, Bool, true, ◌&&◌, List, [], ◌∷◌, ◌++◌, refl, sym, ◌∙◌, ap, subst, Option, arith}
use Rattle.std.proofs.Common.{Some, None, append_assoc, append-nil, ◌==◌, if◌then◌else◌, is_none, reverse, slice_get}
use Rattle.std.proofs.lemmas.{List.reverse-reverse, Option.slice_get-map}
use Rattle.tl_coherence.proofs
use proofs.Imports.{eqb-false, reverse-append, ⊤, Beat, Link, Channel, History, Config, Level, Profile, Rule}
use proofs.Imports.{broken_after, on_link, Trace, level_of, Event, Ask, Deliver, Outcome, is_moving, flow, taken_at}
use proofs.Imports.{taken_on, IsGiven, Log}
use Rattle.tl_rules.specs.statement.Conformance.{broken_at_level, broken_on_link, fault_from, is_legal}
use Rattle.tl_coherence.{specs.statement.Flow.trace_of, specs.statement.Log.IsLog}
use Rattle.tl_coherence.specs.statement.Delivery.{Faultless, levels_of}
use proofs.bound.Settling.{given-before}
use proofs.flow.Flows.{flows}
use proofs.outstanding.Outstanding.{first-moved}
use proofs.simulation.BeatsInFlight.{level-terms}

-- ---- the beats of all links, and those of one

on-link : {w : ℕ} (n : ℕ) (link : Link) (x : Beat w) (t : Trace w)
    → on_link n ((link, x) ∷ t) ≡ (if link.0 == n then x ∷ [] else []) ++ on_link n t
unfolding on_link
on-link {w} n link x t = grind arith

taken-flows : {w : ℕ} (n : ℕ) (event : Event w) (o : Outcome w) (t : Trace w)
    → on_link n (taken_at event o ++ t) ≡ taken_on n event o ++ on_link n t
taken-flows n event o t = grind (arith, on-link)

pub trace-flows : {w : ℕ} (n : ℕ) (log : Log w) → on_link n (trace_of log) ≡ flow n log
unfolding on_link flow trace_of
trace-flows n [] = refl
trace-flows n (x ∷ log) = cc (taken-flows n x.0 x.1 (trace_of log), trace-flows n log)

-- what was taken on a link is first in its flow
pub taken : {w : ℕ} (link : Link) (x : Beat w) (t : History w) → (if link.0 == link.0 then x ∷ [] else []) ++ t ≡ x ∷ t
taken {w} link x t = grind (arith, eqb-false)

-- ---- a beat that is delivered breaks no rule after the earlier ones

-- the level of a link on which a beat was moved
pub record IsLevelled (config : Config) (link : ℕ) : Type 0 where
  pub level : Level
  pub of_link : level_of config link ≡ Some level
  pub in_levels : slice_get (levels_of config) link ≡ Some level

pub levelled : {w : ℕ} (config : Config) (log : Log w) (link : Link) (ch : Channel) (o : Outcome w)
    → IsGiven config ((Deliver link ch, o) ∷ log) → is_moving o ≡ true → IsLevelled config link.0
unfolding IsLog
levelled config log link ch o given moving =
    let first = first-moved config link ch _ (ap is_moving (sym given.is_log.0) ∙ moving) in
    let of_link : level_of config link.0 ≡ Some first.2.level = (level-terms config link.0 first.2 first.3.1).0 in
    record {
      level = first.2.level;
      of_link = of_link;
      in_levels = slice_get-map (λ c. c.level) config.clients.items link.0 ∙ of_link;
    }

unbroken : (o : Option Rule) (b : Bool) → (is_none o && b) ≡ true → o ≡ None
unbroken o b e = grind arith

pub delivered-unbroken : {w : ℕ} (config : Config) (log : Log w) (link : Link) (ch : Channel) (o : Outcome w)
    (x : Beat w) → IsGiven config ((Deliver link ch, o) ∷ log)
    → is_moving o ≡ true → flow link.0 ((Deliver link ch, o) ∷ log) ≡ x ∷ flow link.0 log
    → broken_on_link (levels_of config) config.profile (link, x) (trace_of log) ≡ None
unfolding is_legal
delivered-unbroken {w} config log link ch o x given moving flowing =
    let whole : Log w = (Deliver link ch, o) ∷ log in
    let is = levelled _ log link ch o given moving in
    ap (λ l. broken_at_level l config.profile x (on_link link.0 (trace_of log))) is.in_levels
    ∙ ap (λ t. broken_after is.level config.profile x t) (trace-flows link.0 log)
    ∙ unbroken (broken_after is.level config.profile x (flow link.0 log))
    (is_legal is.level config.profile (flow link.0 log)) (rw flowing at (flows given link.0 is.level is.of_link))

-- ---- nor does any

-- each beat of a trace, the newest first, breaks no rule after the older ones
unfoldable pub AreGood : {w : ℕ} → List Level → Profile → Trace w → Type 0
AreGood levels p [] = ⊤
AreGood levels p (x ∷ t) = (broken_on_link levels p x t ≡ None) × AreGood levels p t

older-good : {w : ℕ} (levels : List Level) (p : Profile) (newer t : Trace w) → AreGood levels p (newer ++ t)
    → AreGood levels p t
unfolding AreGood
older-good levels p [] t good = good
older-good levels p (x ∷ newer) t good = older-good levels p newer t good.1

no-fault : {w : ℕ} (levels : List Level) (p : Profile) (before trace : Trace w)
    → AreGood levels p (reverse trace ++ before) → fault_from levels p before trace ≡ None
unfolding AreGood fault_from
no-fault levels p before [] good = refl
no-fault levels p before (x ∷ trace) good =
    let all : AreGood levels p (reverse trace ++ (x ∷ before)) = subst (AreGood levels p) (ap (λ t. t
    ++ before) (reverse-append (x ∷ []) trace) ∙ append_assoc (reverse trace) (x ∷ []) before) good in
    rw (older-good levels p (reverse trace) (x ∷ before) all).0 (no-fault levels p (x ∷ before) trace all)

pub all-good : {w : ℕ} {config : Config} (log : Log w) → IsGiven config log
    → AreGood (levels_of config) config.profile (trace_of log)
unfolding AreGood trace_of flow
all-good [] given = tt
all-good {config} ((Ask client op, o) ∷ log) given = all-good log (given-before config (Ask client op, o) log given)
all-good {config} ((Deliver link ch, Outcome.Moved x) ∷ log) given =
    let fact = delivered-unbroken _ log link ch _ x given refl (taken link x (flow link.0 log)) in
    (fact, all-good log (given-before config (Deliver link ch, Outcome.Moved x) log given))
all-good {config} ((Deliver link ch, Outcome.Done x source f) ∷ log) given = let fact =
    delivered-unbroken _ log link ch _ x given refl (taken link x (flow link.0 log)) in
    (fact, all-good log (given-before config (Deliver link ch, Outcome.Done x source f) log given))
all-good {config} ((Deliver link ch, Outcome.Replied r) ∷ log) given =
    all-good log (given-before config (Deliver link ch, Outcome.Replied r) log given)
all-good {config} ((Deliver link ch, Outcome.Empty) ∷ log) given =
    all-good log (given-before config (Deliver link ch, Outcome.Empty) log given)
all-good {config} ((Deliver link ch, Outcome.Stalled) ∷ log) given =
    all-good log (given-before config (Deliver link ch, Outcome.Stalled) log given)
all-good {config} ((Deliver link ch, Outcome.NoSuchClient) ∷ log) given =
    all-good log (given-before config (Deliver link ch, Outcome.NoSuchClient) log given)

pub faultless : {w : ℕ} → Faultless w
faultless config log given = no-fault (levels_of config) config.profile [] (reverse (trace_of log))
    (rw (append-nil (reverse (reverse (trace_of log))) ∙ reverse-reverse (trace_of log)) (all-good log given))
