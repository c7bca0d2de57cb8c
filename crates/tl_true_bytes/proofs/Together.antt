-- No beat of a world breaks a rule of memory, and so none breaks a rule.
use Rattle.tl_true_bytes.proofs.Imports.{Beat, Level, Trace, Ask, Deliver, EachTaken, trace_of, Log, Outcome}
use Rattle.std.proofs.Common.{◌≡◌, ℕ, List, [], ◌∷◌, ◌++◌, length, refl, sym, ◌∙◌, ap, append_assoc, subst}
use Rattle.std.specs.Prelude.{Option, Some, None, reverse, ⊤}
use Rattle.std.proofs.lemmas.List.{append-nil, length-map, reverse-append, reverse-reverse}
use Rattle.tl_params.{specs.declared.liberties.Liberties.Liberties, specs.declared.rule.Rule.Rule}
use Rattle.tl_params.specs.statement.Liberties.{liberties_of}
use Rattle.tl_forgiving.proofs.Forgiving.{traces}
use Rattle.tl_rules.proofs.Profiles.{fault-of}
use Rattle.tl_rules.specs.statement.Conformance.{fault_or}
use Rattle.tl_rules.specs.statement.Liberties.{broken_on_link_under, fault_from_under}
use Rattle.tl_coherence.specs.statement.Delivery.{levels_of}
use Rattle.tl_coherence.proofs.flow.FlowTraces.{faultless}
use Rattle.tl_together.specs.statement.Coherence.{breach_from, broken_memory}
use Rattle.tl_one_memory.specs.statement.TrueBytes.{AreTrue, IsTrueBeat}
use Rattle.tl_concord.{specs.statement.Beginnings.BeginsUnbroken, proofs.Quiet.begins_unbroken}
use Rattle.tl_true_bytes.{specs.statement.Concord.Concord, proofs.WorldRuns.true_worlds}

-- a response that begins none that breaks M1 or M4, and has true bytes, breaks no rule of memory
memory-quiet : {w : ℕ} (n link : ℕ) (x : Beat w) (t : Trace w) → BeginsUnbroken n link x t → IsTrueBeat n link x t
    → broken_memory n link x t ≡ None
memory-quiet n link (Beat.D y) t begun brought = rw (begun, brought) refl
memory-quiet n link v t begun brought = refl

-- each beat of a trace, the newest first, breaks no rule of memory after the older ones
unfoldable AreQuiet : {w : ℕ} → ℕ → Trace w → Type 0
AreQuiet n [] = ⊤
AreQuiet n (x ∷ t) = (broken_memory n x.0.0 x.1 t ≡ None) × AreQuiet n t

older-quiet : {w : ℕ} (n : ℕ) (newer t : Trace w) → AreQuiet n (newer ++ t) → AreQuiet n t
unfolding AreQuiet
older-quiet n [] t quiet = quiet
older-quiet n (x ∷ newer) t quiet = older-quiet n newer t quiet.1

log-quiet : {w : ℕ} (n : ℕ) (log : Log w) → EachTaken (λ earlier link x. BeginsUnbroken n link x (trace_of earlier)) log
    → AreTrue n (trace_of log) → AreQuiet n (trace_of log)
unfolding AreQuiet EachTaken trace_of AreTrue
log-quiet n [] begun brought = tt
log-quiet n ((Ask c op, o) ∷ log) begun brought = log-quiet n log begun.1 brought
log-quiet n ((Deliver link ch, Outcome.Moved x) ∷ log) begun brought = (
  memory-quiet n link.0 x (trace_of log) begun.0 brought.0,
  log-quiet n log begun.1 brought.1,
)
log-quiet n ((Deliver link ch, Outcome.Done x source f) ∷ log) begun brought = (
  memory-quiet n link.0 x (trace_of log) begun.0 brought.0,
  log-quiet n log begun.1 brought.1,
)
log-quiet n ((Deliver link ch, Outcome.Replied r) ∷ log) begun brought = log-quiet n log begun.1 brought
log-quiet n ((Deliver link ch, Outcome.Empty) ∷ log) begun brought = log-quiet n log begun.1 brought
log-quiet n ((Deliver link ch, Outcome.Stalled) ∷ log) begun brought = log-quiet n log begun.1 brought
log-quiet n ((Deliver link ch, Outcome.NoSuchClient) ∷ log) begun brought = log-quiet n log begun.1 brought

-- what has no fault of a link and breaks no rule of memory has no breach
no-breach : {w : ℕ} (levels : List Level) (l : Liberties) (before trace : Trace w)
    → fault_from_under l levels before trace ≡ None → AreQuiet (length levels) (reverse trace ++ before)
    → breach_from levels l before trace ≡ None
unfolding AreQuiet fault_from_under breach_from
no-breach levels l before [] clean quiet = refl
no-breach {w} levels l before (x ∷ trace) clean quiet =
    let turned : reverse (x ∷ trace) ++ before ≡ reverse trace ++ (x ∷ before) =
    ap (λ (t : Trace w). t ++ before) (reverse-append (x ∷ []) trace) ∙ append_assoc (reverse trace) (x ∷ []) before in
    let all : AreQuiet (length levels) (reverse trace ++ (x ∷ before)) =
    subst (AreQuiet (length levels)) turned quiet in
    let first = unbroken (broken_on_link_under l levels x before) (length before)
    (fault_from_under l levels (x ∷ before) trace) clean in
    rw (first.0, (older-quiet (length levels) (reverse trace) (x ∷ before) all).0)
    (no-breach levels l (x ∷ before) trace first.1 all)
  where
    unbroken : (o : Option Rule) (i : ℕ) (rest : Option (ℕ × Rule)) → fault_or o i rest ≡ None
        → (o ≡ None) × (rest ≡ None)
    unbroken None i rest e = (refl, e)
    unbroken (Some r) i rest e = absurd cc

pub concord : {w : ℕ} → Concord w
concord {w} config l log given within =
    no-breach (levels_of config) l [] (reverse (trace_of log))
    (traces (liberties_of config.profile) l (levels_of config) (reverse (trace_of log)) within
    (fault-of config.profile (levels_of config) [] (reverse (trace_of log)) ∙ faultless config log given))
    (subst (AreQuiet (length (levels_of config)))
    (sym (append-nil (reverse (reverse (trace_of log))) ∙ reverse-reverse (trace_of log)))
    (subst (λ (n : ℕ). AreQuiet n (trace_of log)) (sym (length-map config.clients.items (λ client. client.level)))
    (log-quiet (length config.clients.items) log (begins_unbroken config log given) (true_worlds config log given))))
