-- Deliveries that are next, one after another.
use Rattle.std.proofs.Common.{◌≡◌, ◌≤◌, ◌+◌, ◌-◌, ℕ, zero, suc, ◌∷◌, Option, Some, None, refl, ap, sym, ◌∙◌, arith}
use Rattle.std.proofs.Common.{length}
use Rattle.tl_beat.specs.declared.beat.Link.{Link}
use Rattle.tl_beat.specs.declared.channel.Channel.{Channel}
use Rattle.tl_params.specs.declared.config.Config.{Config}
use Rattle.tl_coherence.specs.declared.event.Event.TheVariants.{Deliver}
use Rattle.tl_coherence.specs.declared.event.Outcome.{Outcome}
use Rattle.tl_coherence.specs.statement.Draining.{IsDrained}
use Rattle.tl_coherence.specs.statement.Headline.{IsGiven}
use Rattle.tl_coherence.specs.statement.Load.{load}
use Rattle.tl_coherence.specs.statement.Log.{Log, system_after}
use Rattle.tl_coherence.specs.statement.Movable.{next_delivery, with_delivery, drained}
use Rattle.tl_coherence.specs.statement.Step.{stepped}
use Rattle.tl_coherence.proofs.outstanding.Movement.{none-outstanding}
use Rattle.tl_coherence.proofs.outstanding.Progress.{moving}
use Rattle.tl_coherence.proofs.bound.Settling.{drain}

-- one more delivery is the last one
drained-suc : {w : ℕ} (config : Config) (n : ℕ) (log : Log w) → drained config (suc n) log ≡ with_delivery config
    (next_delivery config (system_after config (drained config n log))) (drained config n log)
unfolding drained
drained-suc config zero log = refl
drained-suc config (suc n) log =
    drained-suc config n (with_delivery config (next_delivery config (system_after config log)) log)

pub drained-more : {w : ℕ} (config : Config) (n : ℕ) (log : Log w) (link : Link) (ch : Channel) (o : Outcome w)
    → Some (link, ch) ≡ next_delivery config (system_after config (drained config n log))
    → o ≡ (stepped config (Deliver link ch) (system_after config (drained config n log))).outcome
    → drained config (n + 1) log ≡ (Deliver link ch, o) ∷ drained config n log
drained-more {w} config n log link ch o next is =
    let one : n + 1 ≡ suc n = omega arith in
    rw (one, is)
    (drained-suc config n log ∙ ap (λ (d : Option (Link × Channel)). with_delivery config d (drained config n log))
    (sym next))

-- nothing is delivered any more where nothing is next
still : {w : ℕ} (config : Config) (n j : ℕ) (log : Log w)
    → next_delivery config (system_after config (drained config n log)) ≡ None
    → drained config (n + j) log ≡ drained config n log
still config n zero log none = let same : n + 0 ≡ n = omega arith in rw same refl
still {w} config n (suc j) log none =
    let more : n + suc j ≡ suc (n + j) = omega arith in
    rw more
    (drained-suc config (n + j) log
    ∙ ap (λ (l : Log w). with_delivery config (next_delivery config (system_after config l)) l)
    (still config n j log none)
    ∙ ap (λ (d : Option (Link × Channel)). with_delivery config d (drained config n log)) none)

-- this many deliveries, after which none is next
pub drained-so : {w : ℕ} (config : Config) (n : ℕ) (log : Log w) → IsGiven config (drained config n log)
    → length (drained config n log) ≡ n + length log → n ≤ load log
    → next_delivery config (system_after config (drained config n log)) ≡ None → IsDrained config log n
drained-so config n log given many few none = record {
  so_many = many;
  few = few;
  stands = none;
  nothing_left = none-outstanding config (drained config n log) (moving config (drained config n log) given) none;
}

-- as many deliveries as the load
pub drained-all : {w : ℕ} (config : Config) (n : ℕ) (log : Log w) → IsGiven config log
    → IsGiven config (drained config n log) → length (drained config n log) ≡ n + length log → n ≡ load log
    → IsDrained config log n
drained-all {w} config n log before given many all =
    let (m, is) = drain config log before in
    let few = is.few in
    let rest : m + (n - m) ≡ n = omega (arith, few, all) in
    let same : drained config n log ≡ drained config m log = rw rest at (still config m (n - m) log is.stands) in
    drained-so config n log given many (omega (arith, all))
    (ap (λ (l : Log w). next_delivery config (system_after config l)) same ∙ is.stands)
