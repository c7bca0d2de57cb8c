-- The clients that are made of a configuration.
use Rattle.std.proofs.Common.{◌≡◌, ◌<◌, ◌+◌, ℕ, List, [], ◌∷◌, ◌++◌, Some, None, refl, ap, ◌∙◌, inl, inr, length, arith}
use Rattle.std.proofs.lemmas.Bool.{cases_eq}
use Rattle.std.proofs.lemmas.List.{length-append, get_or_append_left}
use Rattle.std.proofs.lemmas.Option.{slice_get-get_or}
use Rattle.std.proofs.Math.Seq.{get_or-append_seam}
use Rattle.std.specs.Prelude.{◌≢◌, Ok, slice_index_or, Option, ⊤}
use Rattle.tl_params.specs.declared.config.ClientConfig.{ClientConfig}
use Rattle.tl_params.specs.declared.config.Config.{Config}
use Rattle.tl_params.specs.declared.config.NewFault.{NewFault}
use Rattle.tl_params.specs.declared.config.NewFault.TheVariants.{Memory}
use Rattle.tl_params.specs.declared.level.Level.{Level}
use Rattle.tl_params.specs.declared.level.Level.TheVariants as level
use Rattle.tl_client.specs.statement.Fault.{IsFaultAt}
use Rattle.tl_params.specs.statement.Config.{config_fault, client_fault, blocks_fit, trackers_fit, all_sources_fit}
use Rattle.tl_params.specs.statement.Range.{is_from_to}
use Rattle.tl_params.specs.statement.Refusal.{ok_unless}
use Rattle.tl_client.specs.statement.Endpoint.{EndConfig, Endpoint}
use Rattle.tl_world.specs.code.Agents.{IsHired, AreMade}
use Rattle.tl_world.specs.code.Holds.{clients_of}
use Rattle.tl_coherence.specs.statement.System.{terms_at}
use Rattle.tl_coherence.proofs.queues.Limits.{limits-fit, all-fit}

-- ---- a configuration within its limits

pub no-fault : (o : Option NewFault) (done : ⊤) → ok_unless o ≡ Ok done → o ≡ None
no-fault None done e = refl
no-fault (Some f) done e = absurd cc

-- each client's part is within its limits
pub client-fits : (config : Config) (i : ℕ) (d : ClientConfig) → config_fault config ≡ None → i < clients_of config
    → client_fault (slice_index_or config.clients.items i d) config.blocks ≡ None
client-fits config i d fits lt =
    let parts = limits-fit (is_from_to 1 16 (length config.clients.items)) (blocks_fit config.blocks)
    (trackers_fit config.trackers) (all_sources_fit config.clients.items) fits in
    rw (parts.1, all-fit config.clients.items i d parts.3 lt) refl

-- one within its limits is refused for want of memory alone
pub want-of-memory : (l : Level) (fault : NewFault) → IsFaultAt l None fault → fault ≡ Memory
want-of-memory level.C fault is = is
want-of-memory level.UL fault is = absurd cc
want-of-memory level.UH fault is = absurd cc

-- ---- one more client

pub hired : {w : ℕ} {A : Type 0} (knows : A → Endpoint w → Type 0) (terms : A → EndConfig) (config : Config) (i : ℕ)
    (agents new : List A) (agent : A) (d : ClientConfig)
    → AreMade knows terms config i agents → new ≡ agents ++ agent ∷ [] → i < clients_of config
    → IsHired knows terms (slice_index_or config.clients.items i d) config.blocks config.profile agent
    → AreMade knows terms config (i + 1) new
hired {w} {A} knows terms config i agents new agent d so_far is inside made = record {
  so_many = ap (λ (xs : List A). length xs) is ∙ (let many = so_far.so_many in
      omega (arith, many, length-append agents (agent ∷ [])));
  fresh = λ k f lt.
      rw is
      (elim (cases_eq k i) [
        | inl same ↦ rw (same, ← so_far.so_many, get_or-append_seam agents agent [] f) made.fresh
        | inr other ↦ rw (get_or_append_left agents (agent ∷ []) f k (before k lt other))
            (so_far.fresh k f (omega (arith, lt, other)))
      ]);
  terms_are = λ k f lt.
      rw is
      (elim (cases_eq k i) [
        | inl same ↦ rw same (rw (last f) its)
        | inr other ↦ rw (get_or_append_left agents (agent ∷ []) f k (before k lt other))
            (so_far.terms_are k f (omega (arith, lt, other)))
      ]);
}
  where
    before : (k : ℕ) → k < i + 1 → k ≢ i → k < length agents
    before k lt other = let many = so_far.so_many in omega (arith, many, lt, other)

    last : (f : A) → slice_index_or (agents ++ agent ∷ []) i f ≡ agent
    last f = rw (← so_far.so_many) (get_or-append_seam agents agent [] f)

    its : terms_at config i ≡ Some (terms agent)
    its = rw (slice_get-get_or config.clients.items i d inside, made.terms_are) refl
