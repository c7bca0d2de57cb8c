-- A client stores to its copy only where its link holds Trunk.
use Rattle.std.proofs.Common.{◌≡◌, ℕ, Bool, true, if◌then◌else◌, List, Option, Some, None, refl, sym, ◌∙◌, ap, arith}
use Rattle.tl_coherence.proofs
use proofs.Imports.{Perm, block_at, held, Op, Reply, EndConfig, Ask, Outcome, Block, view, is_granting, system_after}
use proofs.Imports.{perm_le, terms_at}
use Rattle.tl_coherence.specs.statement.HiddenStores.{HiddenStores}
use Rattle.tl_client.specs.statement.Ask as ask
use proofs.client.ClientDelivered.{askable}
use proofs.deliveries.Matching.{shadow, stepped-nobody}
use proofs.flow.{FlowBeats.same_perms, FlowTraces.trace-flows, Flows.flowed}
use proofs.links.FromInvariant.{matched-given}
use proofs.queues.{Facts.held_at_most, Steps.stepped-asked}

-- who holds Trunk holds it by what was delivered too
still_trunk : (granting : Bool) (held recorded : Perm) → perm_le held recorded ≡ true → held ≡ Perm.Trunk
    → (if granting then held else recorded) ≡ Perm.Trunk
still_trunk granting held recorded e f = grind arith

same_reply : {w : ℕ} (r s : Reply) → ◌≡◌ {A = Outcome w} (Outcome.Replied r) (Outcome.Replied s) → r ≡ s
same_reply r s e = cc

not_nobody : {w : ℕ} (r : Reply) → ◌≡◌ {A = Outcome w} Outcome.NoSuchClient (Outcome.Replied r) → ⊥
not_nobody r e = cc

pub hidden_stores : {w : ℕ} → HiddenStores w
hidden_stores {w} config log given c address size value stored =
    let fact = still_trunk (is_granting (view b.service c)) _ _ (held_at_most (b.pair c) (view b.service c)
    (((matched-given _ log given).invariant.blocks (block_at address)).phases c)) (go (terms_at config c) refl) in
    cc (trace-flows c log, (flowed config log given.width given.typed given.is_log c).held_is (block_at address))
  where
    b : Block (List ℕ)
    b = (shadow config log).state.block (block_at address)

    store : Op w
    store = Op.Store address size value

    go : (o : Option EndConfig) → terms_at config c ≡ o → (b.pair c).held ≡ Perm.Trunk
    go None nobody = absurd (not_nobody {w = w} Reply.Stored (sym (ap (λ s. s.outcome)
        (stepped-nobody config (Ask c store) (system_after config log) nobody)) ∙ stored))
    go (Some terms) known = cc (same_perms (b.pair c).held Perm.Trunk
        (rw (same_reply {w = w} (ask.asked terms store ((system_after config log).clients c)).reply Reply.Stored
        (sym (ap (λ s. s.outcome) (stepped-asked config c store (system_after config log) terms known))
        ∙ stored)) at (askable terms c store (matched-given _ log given) known)))
