-- A client that stores holds Trunk of the block, and one that loads holds a permission of it.
use Rattle.std.proofs.Common.{◌≡◌, ℕ, ◌<◌, false, length, refl, sym, ◌∙◌, ap, None, Some}
use Rattle.std.specs.Prelude.{Option}
use Rattle.tl_params.specs.declared.config.Config.{Config}
use Rattle.tl_params.specs.declared.perm.Perm.{Perm}
use Rattle.tl_rules.specs.statement.Conformance.{same_perm}
use Rattle.tl_rules.specs.statement.History.{block_at}
use Rattle.tl_client.specs.declared.operation.Op.{Op}
use Rattle.tl_client.specs.declared.reply.Reply.{Reply}
use Rattle.tl_client.specs.statement.Ask as ask
use Rattle.tl_client.specs.statement.Endpoint.{EndConfig, Endpoint, held_at}
use Rattle.tl_client.proofs.endpoint.Cases.{asked-cases}
use Rattle.tl_coherence.specs.declared.event.Event.TheVariants.{Ask}
use Rattle.tl_coherence.specs.declared.event.Outcome.{Outcome}
use Rattle.tl_coherence.specs.statement.Headline.{IsGiven}
use Rattle.tl_coherence.specs.statement.Log.{Log}
unfoldable use Rattle.tl_coherence.specs.statement.Log.{system_after}
unfoldable use Rattle.tl_coherence.specs.statement.Step.{stepped}
use Rattle.tl_coherence.specs.statement.System.{terms_at}
use Rattle.tl_coherence.proofs.client.ClientDelivered.{askable}
use Rattle.tl_coherence.proofs.deliveries.Matching.{stepped-nobody}
use Rattle.tl_coherence.proofs.flow.FlowBeats.{same_perms}
use Rattle.tl_coherence.proofs.links.FromInvariant.{matched-given}
use Rattle.tl_coherence.proofs.queues.QuiescentQueues.{client_below}
use Rattle.tl_coherence.proofs.queues.Steps.{stepped-asked}
use Rattle.tl_world_commits.proofs.Holding.{kept_of}

-- a client holds a permission of the block that it loads from
loaded-held : {w : ℕ} (terms : EndConfig) (address size value : ℕ) (e : Endpoint w)
    → (ask.asked terms (Op.Load address size) e).reply ≡ Reply.Value value
    → same_perm (held_at e (block_at address)) Perm.None ≡ false
loaded-held {w} terms address size value e = asked-cases terms (Op.Load address size) e
    (λ (x : ask.Asked w). x.reply ≡ Reply.Value value → same_perm (held_at e (block_at address)) Perm.None ≡ false)
    (λ b is. absurd cc) (λ free is. go (held_at e (block_at address)) is)
  where
    go : (p : Perm) → (ask.load address size p e).reply ≡ Reply.Value value → same_perm p Perm.None ≡ false
    go Perm.None is = absurd cc
    go Perm.Branch is = refl
    go Perm.Trunk is = refl

module _ {w : ℕ} (config : Config) (log : Log w) (given : IsGiven config log) (c : ℕ) where
  -- a client that replies has terms, by which it replies
  replied : {A : Type 0} (op : Op w) (r : Reply)
      → (stepped config (Ask c op) (system_after config log)).outcome ≡ Outcome.Replied r
      → ((terms : EndConfig) → terms_at config c ≡ Some terms
      → (ask.asked terms op ((system_after config log).clients c)).reply ≡ r → A) → A
  replied {A} op r is with_terms = go (terms_at config c) refl
    where
      same : (s : Reply) → ◌≡◌ {A = Outcome w} (Outcome.Replied s) (Outcome.Replied r) → s ≡ r
      same s e = cc

      nobody : ◌≡◌ {A = Outcome w} Outcome.NoSuchClient (Outcome.Replied r) → A
      nobody e = absurd cc

      go : (o : Option EndConfig) → terms_at config c ≡ o → A
      go None none = nobody (sym (ap (λ s. s.outcome)
          (stepped-nobody config (Ask c op) (system_after config log) none)) ∙ is)
      go (Some terms) known = with_terms terms known (same _ (sym (ap (λ s. s.outcome)
          (stepped-asked config c op (system_after config log) terms known)) ∙ is))

  pub stores-held : (address size value : ℕ)
      → (stepped config (Ask c (Op.Store address size value)) (system_after config log)).outcome
      ≡ Outcome.Replied Reply.Stored
      → (c < length config.clients.items) × ((kept_of config log c (block_at address)).held ≡ Perm.Trunk)
  stores-held address size value is = replied (Op.Store address size value) Reply.Stored is
      (λ terms known stored. (
        client_below config c terms known,
        sym (same_perms (kept_of config log c (block_at address)).held Perm.Trunk
            (rw stored at (askable terms c (Op.Store address size value) (matched-given config log given) known))),
      ))

  pub loads-held : (address size value : ℕ)
      → (stepped config (Ask c (Op.Load address size)) (system_after config log)).outcome
      ≡ Outcome.Replied (Reply.Value value)
      → (c < length config.clients.items)
      × (same_perm (kept_of config log c (block_at address)).held Perm.None ≡ false)
  loads-held address size value is = replied (Op.Load address size) (Reply.Value value) is
      (λ terms known loaded. (
        client_below config c terms known,
        ap (λ (p : Perm). same_perm p Perm.None)
            (sym (((matched-given config log given).known c).held_is (block_at address)))
            ∙ loaded-held terms address size value ((system_after config log).clients c) loaded,
      ))
