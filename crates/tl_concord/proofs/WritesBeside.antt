-- An access that writes is performed while no Grant of its block is on its way.
use Rattle.tl_concord.proofs.Imports.{History, unfinished, Perm, same_perm, block_at, grants, leaves, sourced, Acquires}
use Rattle.tl_concord.proofs.Imports.{SourceState, AbstractState, IsOpened, SimulationRelation, system_after}
use Rattle.tl_concord.proofs.Imports.{trace-flows, matched-given, Message}
use Rattle.std.proofs.Common.{◌≡◌, ℕ, true, false, List, ◌∷◌, inl, inr, Some, None, refl, sym, ◌∙◌, ap, subst}
use Rattle.std.specs.Prelude.{Option}
use Rattle.tl_beat.specs.declared.channel.Channel.{Channel}
use Rattle.tl_burst.specs.declared.message.MessageA.{MessageA}
use Rattle.tl_rules.{specs.statement.Effect.AccessResult, specs.statement.Windows.needs}
use Rattle.tl_client.specs.declared.operation.Op.{Op}
use Rattle.tl_coherence.specs.protocol.Protocol.{Replied, SourceFree, State}
use Rattle.tl_coherence.specs.{refinement.PacketMessages.AccessMessages, statement.Machine.Open}
use Rattle.tl_coherence.proofs.{bound.Settling.given-before, deliveries.Matching.shadow, flow.Renewed.IsSettledFor}
use Rattle.tl_coherence.proofs.{flow.Windowed.renewed-followed, memory.BesideTaken.same_message}
use Rattle.tl_concord.proofs.Responses.{begun-due, due-recorded}
use Rattle.tl_concord.specs.statement.WritesBeside.{WritesBesideNoGrant}

abbrev asked_in : {w : ℕ} → Op w → Option (Open w) → Op w
asked_in i None = i
asked_in i (Some o) = o.asked

abbrev answer_in : {w : ℕ} → Option (Open w) → Option AccessResult
answer_in None = None
answer_in (Some o) = o.answer

-- what is open with an answer, as it was asked
pub same_open : {w : ℕ} (i j : Op w) (r s : Option AccessResult)
    → ◌≡◌ {A = Option (Open w)} (Some (record { asked = i; answer = r })) (Some (record { asked = j; answer = s }))
    → (i ≡ j) × (r ≡ s)
same_open i j r s e = (ap (asked_in i) e, ap answer_in e)

pub same_access : {w : ℕ} (m n : MessageA w) → Op.Access (Message.A m) ≡ Op.Access (Message.A n) → m ≡ n
same_access m n e = cc

-- one that is open with an answer is replied, with its request
pub replied_with : {w : ℕ} (c source : ℕ) (mail : AccessMessages w) (s : State (List ℕ)) (u : SourceState)
    (m : MessageA w) (r : AccessResult)
    → IsOpened c source mail s u (Some (record { asked = Op.Access (Message.A m); answer = Some r }))
    → (u ≡ Replied) × (mail.request c source ≡ Message.A (sourced source m))
replied_with c source mail s SourceFree m r is = absurd cc
replied_with c source mail s Replied m r is =
    let same : m ≡ is.1.0 = same_access m is.1.0 (same_open _ _ _ _ is.1.2).0 in
    (refl, is.1.1 ∙ ap (λ i. Message.A (sourced source i)) (sym same))
replied_with c source mail s (Acquires n) m r is =
    absurd (let no : Some r ≡ None = (same_open _ _ _ _ is).1 in cc)
replied_with c source mail s v m r is =
    absurd (let no : Some r ≡ None = (same_open _ _ _ _ is.2).1 in cc)

-- and one that is open without isn't
not_replied : {w : ℕ} (c source : ℕ) (mail : AccessMessages w) (s : State (List ℕ)) (m : MessageA w)
    → IsOpened c source mail s Replied (Some (record { asked = Op.Access (Message.A m); answer = None })) → ⊥
not_replied c source mail s m is = let no : None ≡ Some is.0 = (same_open _ _ _ _ is.1.2).1 in cc

pub writes_beside : {w : ℕ} → WritesBesideNoGrant w
unfolding shadow system_after
writes_beside {w} config log x given c source m r writes before after link y older begun_so granted =
    elim (renewed-followed config log x.0 h given.width is c source now.0) [
      | inl old ↦ not_replied c source h.mail h.state m
          (subst (λ (u : SourceState). IsOpened c source h.mail h.state u
          (Some (record { asked = Op.Access (Message.A m); answer = None }))) old.0
          (subst (IsOpened c source h.mail h.state (h.state.uses c source)) before (is.beside.requests c source)))
      | inr new ↦ settled new.0 (same_message new.0 (sourced source m) (sym new.1 ∙ now.1)) new.2
    ]
  where
    h : AbstractState w
    h = shadow config log

    h' : AbstractState w
    h' = shadow config (x ∷ log)

    is : SimulationRelation config log (shadow config log).mail (shadow config log).request (shadow config log).state
        (system_after config log)
    is = matched-given config log (given-before config x log given)

    is' : SimulationRelation config (x ∷ log) (shadow config (x ∷ log)).mail (shadow config (x ∷ log)).request
        (shadow config (x ∷ log)).state (system_after config (x ∷ log))
    is' = matched-given config (x ∷ log) given

    now : ((shadow config (x ∷ log)).state.uses c source ≡ Replied)
        × ((shadow config (x ∷ log)).mail.request c source ≡ Message.A (sourced source m))
    now = replied_with c source (shadow config (x ∷ log)).mail (shadow config (x ∷ log)).state
        ((shadow config (x ∷ log)).state.uses c source) m r
        (subst (IsOpened c source (shadow config (x ∷ log)).mail (shadow config (x ∷ log)).state
        ((shadow config (x ∷ log)).state.uses c source)) after (is'.beside.requests c source))

    settled : (i : MessageA w) → i ≡ sourced source m → IsSettledFor i (shadow config (x ∷ log)).state → ⊥
    settled i same each = let no : false ≡ true = sym (due-recorded (shadow config (x ∷ log)) link (block_at m.address)
        (begun-due config (x ∷ log) given link (block_at m.address) y older
        (ap (unfinished Channel.D) (sym (trace-flows link (x ∷ log))) ∙ begun_so)
        (subst (λ (past : History w). grants (block_at m.address) y past ≡ true) (trace-flows link (x ∷ log)) granted)))
        ∙ none in cc
      where
        none : same_perm (((shadow config (x ∷ log)).state.block (block_at m.address)).pair link).recorded Perm.None
            ≡ true
        none = ap (λ (p : Perm). leaves p (((shadow config (x ∷ log)).state.block (block_at m.address)).pair
            link).recorded) (sym writes)
            ∙ subst (λ (j : MessageA w). leaves (needs j.opcode)
            (((shadow config (x ∷ log)).state.block (block_at j.address)).pair link).recorded ≡ true) same (each link)
