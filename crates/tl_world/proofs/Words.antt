-- What becomes of a world where a client is asked for a Load or a Store: no message is handed out.
use Rattle.std.proofs.Common.{◌≡◌, ◌<◌, ℕ, false, List, ◌∷◌, Option, Some, None, refl, length}
use Rattle.tl_params.specs.declared.config.Config.{Config}
use Rattle.tl_params.specs.declared.perm.Perm.{Perm}
use Rattle.tl_client.specs.declared.operation.Op.{Op}
use Rattle.tl_client.specs.declared.reply.Reply.{Reply}
use Rattle.tl_client.specs.declared.reply.Reply.TheVariants as reply
use Rattle.tl_client.specs.statement.Ask.{asked}
use Rattle.tl_client.specs.statement.Endpoint.{EndConfig, Endpoint}
use Rattle.tl_client.proofs.endpoint.Words.{is_started}
use Rattle.tl_coherence.specs.declared.event.Event.TheVariants.{Ask}
use Rattle.tl_coherence.specs.declared.event.Outcome.{Outcome}
use Rattle.tl_coherence.specs.declared.event.Outcome.TheVariants as outcome
use Rattle.tl_coherence.specs.statement.Headline.{IsTyped}
use Rattle.tl_coherence.specs.statement.Load.{starts_request, starts_release, ends_request, ends_release}
use Rattle.tl_coherence.specs.statement.Log.{Log, system_after}
use Rattle.tl_coherence.specs.statement.Step.{stepped, stepped_at, handed_by}
use Rattle.tl_coherence.specs.statement.System.{System, terms_at, with_messages}
use Rattle.tl_world.specs.code.Called.{IsAsked}
use Rattle.tl_world.specs.code.Carrying.{AreKept, AreMoved, Carries}
use Rattle.tl_world.specs.code.Holds.{Holds, HasRoom, IsStepped}
use Rattle.tl_world.specs.declared.network.Network.{Network}
use Rattle.tl_world.specs.declared.rings.Rings.{Rings}
use Rattle.tl_world.specs.declared.state.WorldState.{WorldState}
use Rattle.tl_world.specs.statement.Answered.{answered}
use Rattle.tl_world.specs.statement.World.{IsReached}
use Rattle.tl_world.proofs.Happened.{reached-step, room-next}
use Rattle.tl_world.proofs.Queues.{moved-still}
use Rattle.tl_world.proofs.Stepping.{steps-asked}

-- ---- a client is asked, and hands nothing out

still-moved : {w : ℕ} (n : ℕ) (old new : Rings w) (s : System w) (i : ℕ) → new ≡ old → Carries n old s
    → AreMoved n old new (with_messages (handed_by i None) s)
unfolding with_messages
still-moved n old new s i same carried = rw same (moved-still n old s carried)

still-kept : {w : ℕ} (old new : Rings w) → new ≡ old → AreKept old new
still-kept old new same = rw same (record { same_number = refl; same_capacity = λ k d. refl })

-- a reply that starts nothing
unstarted : {w : ℕ} (i : ℕ) (op : Op w) (r : Reply) → is_started r ≡ false
    → (starts_request (Ask i op) (outcome.Replied r) ≡ false) × (starts_release (Ask i op) (outcome.Replied r) ≡ false)
unstarted i op (reply.Value value) f = (refl, refl)
unstarted i op reply.Stored f = (refl, refl)
unstarted i op reply.Miss f = (refl, refl)
unstarted i op (reply.Started source) f = absurd cc
unstarted i op (reply.Busy busy) f = (refl, refl)

starts-nothing : {w : ℕ} (config : Config) (i : ℕ) (op : Op w) (s : System w) (o : Outcome w)
    → ((terms : EndConfig) (e : Endpoint w) → is_started (asked terms op e).reply ≡ false)
    → o ≡ (stepped config (Ask i op) s).outcome
    → (starts_request (Ask i op) o ≡ false) × (starts_release (Ask i op) o ≡ false)
unfolding stepped
starts-nothing config i op s o silent is = rw is (go (terms_at config i))
  where
    go : (t : Option EndConfig) → (starts_request (Ask i op) (stepped_at config t (Ask i op) s).outcome ≡ false)
        × (starts_release (Ask i op) (stepped_at config t (Ask i op) s).outcome ≡ false)
    go None = (refl, refl)
    go (Some t) = unstarted i op (asked t op (s.clients i)).reply (silent t (s.clients i))

ends-nothing : (w : ℕ) (o : Option Reply)
    → (ends_request {w = w} (answered o) ≡ false) × (ends_release {w = w} (answered o) ≡ false)
ends-nothing w None = (refl, refl)
ends-nothing w (Some r) = (refl, refl)

module _ {w : ℕ} {A M : Type 0} (knows : A → Endpoint w → Type 0) (terms : A → EndConfig) (perm_of : M → ℕ → ℕ → Perm)
    (config : Config) where
  pub steps-silent : (old new : Network w A M) (s : System w) (i : ℕ) (op : Op w) (r : Reply)
      → Holds knows terms perm_of config old s → i < length old.clients.items
      → IsAsked knows terms old.clients.items new.clients.items i op (r, None) → new.manager ≡ old.manager
      → new.rings ≡ old.rings → HasRoom config (stepped config (Ask i op) s).after
      → IsStepped knows terms perm_of config old new (Ask i op) (outcome.Replied r) s
  steps-silent old new s i op r h inside is same_manager same_rings room =
      steps-asked knows terms perm_of config old new s i op (r, None) h inside is same_manager
      (still-kept old.rings new.rings same_rings)
      (λ n s carried fits. still-moved n old.rings new.rings s i same_rings carried) room

  pub reached-silent : (old new : WorldState w A M) (log : Log w) (i : ℕ) (op : Op w) (o : Option Reply)
      → IsReached knows terms perm_of config old log → IsTyped (Ask i op)
      → ((t : EndConfig) (e : Endpoint w) → is_started (asked t op e).reply ≡ false)
      → ((s : System w) → Holds knows terms perm_of config old.network s
      → HasRoom config (stepped config (Ask i op) s).after
      → IsStepped knows terms perm_of config old.network new.network (Ask i op) (answered o) s)
      → new.outstanding ≡ old.outstanding
      → IsReached knows terms perm_of config new ((Ask i op, answered o) ∷ log)
      × (answered o ≡ (stepped config (Ask i op) (system_after config log)).outcome)
  reached-silent old new log i op o r typed silent happens same =
      let is = happens (system_after config log) r.holds (room-next config log (Ask i op) r.given typed) in
      let starts = starts-nothing config i op (system_after config log) (answered o) silent is.outcome_is in
      let ends = ends-nothing w o in
      reached-step knows terms perm_of config old new log (Ask i op) (answered o) r typed happens
      (rw (starts.0, ends.0, same) refl) (rw (starts.1, ends.1, same) refl)
