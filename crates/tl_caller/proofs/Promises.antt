-- What the contracts of a world's calls say, in the words of a caller.
use Rattle.std.proofs.Common.{◌≡◌, ◌≤◌, ℕ, Bool, true, false, List, [], ◌∷◌, ap, sym, ◌∙◌}
use Rattle.std.specs.Prelude.{◌≢◌, if◌then◌else◌, nat_lt, IfOk, Result, Ok, Err}
use Rattle.tl_beat.specs.declared.beat.Link.{Link}
use Rattle.tl_beat.specs.declared.channel.Channel.{Channel}
use Rattle.tl_params.specs.declared.config.Config.{Config}
use Rattle.tl_params.specs.declared.config.NewFault.{NewFault}
use Rattle.tl_params.specs.declared.perm.Perm.{Perm}
use Rattle.tl_params.specs.declared.perm.Perm.TheVariants as perm
use Rattle.tl_client.specs.statement.Endpoint.{EndConfig, Endpoint, held_at}
use Rattle.tl_coherence.specs.declared.event.Event.{Event}
use Rattle.tl_coherence.specs.declared.event.Event.TheVariants.{Deliver}
use Rattle.tl_coherence.specs.declared.event.Outcome.{Outcome}
use Rattle.tl_coherence.specs.statement.Delivery.{is_emptiness, is_stall}
use Rattle.tl_coherence.specs.statement.Load.{load}
use Rattle.tl_coherence.specs.statement.Log.{Log, system_after, logged}
use Rattle.tl_coherence.specs.statement.Step.{stepped}
use Rattle.tl_world.specs.declared.state.WorldState.{WorldState}
use Rattle.tl_world.specs.code.Holds.{clients_of}
use Rattle.tl_world.specs.statement.World.{IsReached, IsReplayed, held_by}
use Rattle.tl_caller.specs.Promised.{Delivered, Promised}
use Rattle.tl_caller.proofs.Bounds.{Behind}

module _ {w : ℕ} {A M : Type 0} (knows : A → Endpoint w → Type 0) (terms : A → EndConfig) (perm_of : M → ℕ → ℕ → Perm)
    (config : Config) where
  pub promised : (contents : WorldState w A M) (log : Log w) → IsReached knows terms perm_of config contents log
      → Promised config log
  promised contents log r =
      let sound = r.theorem.headline config log r.given in
      record {
        outcomes = r.given.is_log;
        run = sound.run;
        continues = sound.continues;
        coherent = sound.coherent;
        unrefused = sound.unrefused;
        moving = sound.moving;
        carries = r.theorem.carries config log r.given;
        channels = r.theorem.channels config log r.given;
        legal = r.theorem.flows config log r.given;
        faultless = r.theorem.faultless config log r.given;
        exact = r.theorem.stalls config log r.given;
      }

  pub replayed : (events : List (Event w)) (old new : List (Outcome w)) (result : Result (WorldState w A M) NewFault)
      → IsReplayed knows terms perm_of config events old new result
      → IfOk result (λ contents. Promised config (logged events new []))
  replayed events old new (Ok contents) r = promised contents (logged events new []) r
  replayed events old new (Err fault) r = tt

  -- beside one who may write nobody holds anything
  pub alone : (contents : WorldState w A M) (log : Log w) (c d block : ℕ) (p q : Perm)
      → IsReached knows terms perm_of config contents log → c ≢ d
      → p ≡ held_by config c block (system_after config log) → q ≡ held_by config d block (system_after config log)
      → p ≡ perm.Trunk → q ≡ perm.None
  alone contents log c d block p q r apart is_p is_q owns =
      go (nat_lt c (clients_of config)) (nat_lt d (clients_of config)) (sym is_p ∙ owns) is_q
    where
      go : (x y : Bool) → (if x then held_at ((system_after config log).clients c) block else perm.None) ≡ perm.Trunk
          → q ≡ (if y then held_at ((system_after config log).clients d) block else perm.None) → q ≡ perm.None
      go true true e f = f ∙ (r.theorem.headline config log r.given).coherent.one_writer c d block apart e
      go true false e f = f
      go false y e f = absurd cc

  -- what comes of a delivery
  pub delivered : (old new : WorldState w A M) (log : Log w) (link : Link) (ch : Channel) (o : Outcome w)
      → IsReached knows terms perm_of config old log
      → IsReached knows terms perm_of config new ((Deliver link ch, o) ∷ log)
      → o ≡ (stepped config (Deliver link ch) (system_after config log)).outcome
      → Delivered config log link ch o
  delivered old new log link ch o before after is =
      let exact = before.theorem.stalls config log before.given link.0 ch in
      record {
        promised = promised new ((Deliver link ch, o) ∷ log) after;
        empty = λ there. ap is_emptiness is ∙ (exact there).empty;
        stalled = λ there. ap is_stall is ∙ (exact there).stalled;
        granted = λ x source p op ended asked.
            rw ended (after.theorem.grants config log link ch x source p op (rw ended at after.given) asked);
      }

  -- deliveries move no more beats than the load before them
  pub bounded : (old new : WorldState w A M) (more log whole : Log w) (moved bound : ℕ)
      → IsReached knows terms perm_of config old log → IsReached knows terms perm_of config new whole
      → Behind whole more log moved → bound ≡ load log → moved ≤ bound
  bounded old new more log whole moved bound before after is owed =
      rw (is.moved_is, owed) (before.theorem.bound config more log (rw is.whole_is at after.given) is.deliveries)
