-- What the parts of a world hold after a beat that is taken, where nothing is handed out for it.
use Rattle.std.proofs.Common.{◌≡◌, ◌<◌, ℕ, true, false, List, [], ◌∷◌, Option, Some, None, refl, length}
use Rattle.std.specs.Prelude.{Ok, is_some}
use Rattle.tl_beat.specs.declared.beat.Beat.{Beat}
use Rattle.tl_beat.specs.declared.beat.Link.{Link}
use Rattle.tl_beat.specs.declared.channel.Channel.{Channel}
use Rattle.tl_burst.specs.declared.message.Message.{Message}
use Rattle.tl_params.specs.declared.config.Config.{Config}
use Rattle.tl_params.specs.declared.perm.Perm.{Perm}
use Rattle.tl_client.specs.declared.verdict.Verdict.TheVariants as verdict
use Rattle.tl_client.specs.statement.Endpoint.{EndConfig, Endpoint}
use Rattle.tl_manager.specs.code.Knows.{Knows}
use Rattle.tl_manager.specs.statement.End as manager_end
use Rattle.tl_manager.specs.statement.Offer as manager
use Rattle.tl_coherence.specs.declared.event.Event.TheVariants.{Deliver}
use Rattle.tl_coherence.specs.declared.event.Outcome.TheVariants as outcome
use Rattle.tl_coherence.specs.statement.Step.{stepped, handed_by, is_to_client}
use Rattle.tl_coherence.specs.statement.System.{System, with_channel, with_messages}
use Rattle.tl_world.specs.code.Called.{IsOffered}
use Rattle.tl_world.specs.code.Carrying.{Carries, AreKept, AreMoved}
use Rattle.tl_world.specs.code.Holds.{Holds, HasRoom, IsStepped}
use Rattle.tl_world.specs.declared.network.Network.{Network}
use Rattle.tl_world.specs.declared.rings.Rings.{Rings}
use Rattle.tl_world.proofs.Queues.{moved-still}
use Rattle.tl_world.proofs.Stepping.{steps-taken, manager-sent}

sent-nothing : {w : ℕ} (n : ℕ) (rings : Rings w) (s : System w) (link : ℕ) → Carries n rings s
    → AreMoved n rings rings (with_messages (handed_by link None) s)
unfolding with_messages
sent-nothing n rings s link carried = moved-still n rings s carried

kept-still : {w : ℕ} (rings : Rings w) → AreKept rings rings
kept-still rings = record { same_number = refl; same_capacity = λ k d. refl }

pub sent-if-none : {w : ℕ} (n : ℕ) (rings : Rings w) (s : System w) (link : ℕ) (m : Option (Message w))
    → is_some m ≡ false → Carries n rings s → AreMoved n rings rings (with_messages (handed_by link m) s)
sent-if-none n rings s link None none carried = sent-nothing n rings s link carried
sent-if-none n rings s link (Some m) none carried = absurd cc

-- the first beat of a channel is taken away
abbrev pub Drops : {w : ℕ} → ℕ → Channel → Rings w → Rings w → Type 0
Drops {w} link ch old new = (n : ℕ) (s : System w) (y : Beat w) (rest : List (Beat w)) → Carries n old s → link < n
    → s.channels link ch ≡ y ∷ rest → AreMoved n old new (with_channel link ch rest s)

module _ {w : ℕ} {A M : Type 0} (knows : A → Endpoint w → Type 0) (terms : A → EndConfig) (perm_of : M → ℕ → ℕ → Perm)
    (config : Config) (old new : Network w A M) (s : System w) (link : Link) (ch : Channel) (x : Beat w)
    (rest : List (Beat w)) (h : Holds knows terms perm_of config old s) (inside : link.0 < length old.clients.items)
    (first : s.channels link.0 ch ≡ x ∷ rest) (kept : AreKept old.rings new.rings)
    (drops : Drops link.0 ch old.rings new.rings)
    (room : HasRoom config (stepped config (Deliver link ch) s).after) where
  -- by a client
  pub client-moved : is_to_client ch ≡ true
      → IsOffered knows terms old.clients.items new.clients.items link.0 ch x (Ok (verdict.Taken, None))
      → new.manager ≡ old.manager → IsStepped knows terms perm_of config old new (Deliver link ch) (outcome.Moved x) s
  client-moved up is same_manager =
      steps-taken knows terms perm_of config old new s link ch x rest (Ok (verdict.Taken, None)) h inside first up is
      same_manager new.rings verdict.Taken None refl refl kept (kept-still new.rings) drops
      (λ n s carried fits. sent-nothing n new.rings s link.0 carried) room

  -- by the manager
  pub manager-moved : is_to_client ch ≡ false → new.clients.items ≡ old.clients.items
      → ((config : Config) (e : manager_end.End w) → Knows perm_of old.manager config e
      → manager.Sent [] ≡ (manager.offered config link ch x e).0)
      → ((config : Config) (e : manager_end.End w) → Knows perm_of old.manager config e
      → Knows perm_of new.manager config (manager.offered config link ch x e).1)
      → IsStepped knows terms perm_of config old new (Deliver link ch) (outcome.Moved x) s
  manager-moved down same_clients answers knowing =
      manager-sent knows terms perm_of config old new s link ch x rest (manager.Sent []) h inside first down
      same_clients answers knowing new.rings [] refl kept (kept-still new.rings) drops
      (λ n s carried fits. sent-nothing n new.rings s link.0 carried) room
