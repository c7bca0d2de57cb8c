-- The request that a Grant answers is the Acquire that the client has open.
use Rattle.tl_concord.proofs.Imports.{Beat, unfinished, Config, asks_for, request_of, Block, SourceState, AbstractState}
use Rattle.tl_concord.proofs.Imports.{MonitorRelations, flow, IsGiven, Log, system_after, flowed, IsGrantDue, own_view}
use Rattle.std.proofs.Common.{◌≡◌, ℕ, true, not, List, refl, sym, ◌∙◌, ap}
use Rattle.std.{specs.Prelude.◌==◌, proofs.lemmas.Bool.eqb-true}
use Rattle.tl_beat.specs.declared.channel.Channel.{Channel}
use Rattle.tl_client.proofs.endpoint.HeldAfter.{same_block}
use Rattle.tl_coherence.specs.{protocol.Phase.View, protocol.Tokens.is_unserved}
use Rattle.tl_coherence.specs.{refinement.MonitorRelation.is_requested, refinement.SimulationRelation.asked_by}
use Rattle.tl_coherence.specs.{statement.Delivery.receiver}
use Rattle.tl_coherence.proofs.{client.ClientEnd.asks-acquire, deliveries.Matching.shadow}

module _ {w : ℕ} (config : Config) (log : Log w) (given : IsGiven config log) (c n : ℕ)
    (due : IsGrantDue c n (shadow config log).state) (source : ℕ)
    (from : source ≡ ((shadow config log).state.block n).source c) where
  abbrev h : AbstractState w
  h = shadow config log

  abbrev b : Block (List ℕ)
  b = h.state.block n

  values : MonitorRelations log h.mail h.state (system_after config log)
  values = flowed config log given.width given.typed given.is_log

  pub grant-asked : request_of source (flow c log) ≡ asked_by h.mail h.state c (b.source c)
  grant-asked = (values c).asked_is source ((values c).requests source ∙ requested)
      ∙ ap (asked_by h.mail h.state c) from
    where
      rest_now : List (Beat w)
      rest_now = unfinished Channel.A (receiver Channel.A c (system_after config log))

      requested : is_requested c source rest_now (h.state.uses c source) h.state ≡ true
      requested = ap (λ (u : SourceState). is_requested c source rest_now u h.state)
          (ap (h.state.uses c) from ∙ due.used)
          ∙ ap (λ (v : View). not (is_unserved v)) (own_view c due.data_too due.k b.service due.service)

  -- it is of the block that the request asks for
  pub grant-block : (block : ℕ) → asks_for block (request_of source (flow c log)) ≡ true → n ≡ block
  grant-block block asks = eqb-true n block (sym of_block ∙ asks)
    where
      of_block : asks_for block (request_of source (flow c log)) ≡ (n == block)
      of_block = ap (asks_for block) (grant-asked ∙ asks-acquire c (b.source c) n (b.source c) due.whole due.g h.mail
          h.state due.used due.wants refl) ∙ ap (λ (j : ℕ). j == block) (same_block n)
