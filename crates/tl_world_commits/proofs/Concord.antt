-- No event of a world breaks a rule.
use Rattle.std.proofs.Common.{◌≡◌, ℕ, Bool, List, [], ◌∷◌, ◌++◌, length, refl, sym, ◌∙◌, ap, append_assoc, subst}
use Rattle.std.specs.Prelude.{Option, Some, None, reverse, ⊤}
use Rattle.std.proofs.lemmas.List.{append-nil, length-map, reverse-append, reverse-reverse}
use Rattle.tl_beat.specs.declared.beat.Beat.{Beat}
use Rattle.tl_beat.specs.declared.beat.Link.{Link}
use Rattle.tl_params.specs.declared.config.Config.{Config}
use Rattle.tl_params.specs.declared.level.Level.{Level}
use Rattle.tl_params.specs.declared.liberties.Liberties.{Liberties}
use Rattle.tl_params.specs.declared.memory_rule.MemoryRule.{MemoryRule}
use Rattle.tl_params.specs.declared.rule.Rule.{Rule}
use Rattle.tl_rules.specs.statement.Conformance.{Trace}
use Rattle.tl_rules.specs.statement.Liberties.{broken_on_link_under}
use Rattle.tl_together.specs.declared.breach.Breach.{Breach}
unfoldable use Rattle.tl_together.specs.statement.Coherence.{breach_from}
use Rattle.tl_together.specs.statement.Coherence.{breach_or, broken_beginning, broken_bytes, broken_memory}
use Rattle.tl_together.specs.statement.Coherence.{broken_together}
use Rattle.tl_together.specs.statement.Coherence.{first_breach, first_broken, memory_rule_or}
use Rattle.tl_events.specs.declared.commit.Event.TheVariants as event
use Rattle.tl_commits.specs.statement.Completeness.{Completeness}
use Rattle.tl_commits.specs.statement.Breaches.{broken_beat, broken_event}
unfoldable use Rattle.tl_commits.specs.statement.Breaches.{commit_breach_from}
use Rattle.tl_commits.specs.statement.Commits.{broken_report}
use Rattle.tl_commits.specs.statement.Events.{Events}
unfoldable use Rattle.tl_commits.specs.statement.Events.{beats_of}
use Rattle.tl_commit_memory.proofs.Brought.{true_commit_runs}
use Rattle.tl_commit_memory.specs.statement.CommitRun.{IsCommitRun}
use Rattle.tl_commit_memory.specs.statement.TrueEvents.{IsTrueEvent}
unfoldable use Rattle.tl_commit_memory.specs.statement.TrueEvents.{AreTrueEvents}
use Rattle.tl_coherence.specs.statement.Delivery.{levels_of}
use Rattle.tl_coherence.specs.statement.Flow.{trace_of}
use Rattle.tl_true_bytes.proofs.Together.{concord}
use Rattle.tl_world_commits.proofs.Beats.{events-beats}
use Rattle.tl_world_commits.proofs.Events.{unbroken_commits}
use Rattle.tl_world_commits.proofs.Reports.{zeros, zeros-start}
use Rattle.tl_world_commits.proofs.WorldSteps.{world-steps}
use Rattle.tl_world_commits.specs.statement.CommitConcord.{CommitConcord}
use Rattle.tl_world_commits.specs.statement.Unbroken.{complete_of}
unfoldable use Rattle.tl_world_commits.specs.statement.Unbroken.{AreUnbroken}
use Rattle.tl_world_commits.specs.statement.WorldEvents.{events_of}

-- the last of a list in reverse comes before the others
turned : {X : Type 0} (x : X) (xs before : List X) → reverse (x ∷ xs) ++ before ≡ reverse xs ++ (x ∷ before)
turned {X} x xs before = ap (λ (t : List X). t ++ before) (reverse-append (x ∷ []) xs)
    ∙ append_assoc (reverse xs) (x ∷ []) before

-- ---- the beats

-- each beat of a trace, the newest first, breaks no rule of beats after the older ones
unfoldable AreQuiet : {w : ℕ} → List Level → Liberties → Trace w → Type 0
AreQuiet levels l [] = ⊤
AreQuiet levels l (x ∷ t) = (broken_together levels l x t ≡ None) × AreQuiet levels l t

quiet-from : {w : ℕ} (levels : List Level) (l : Liberties) (before trace : Trace w)
    → breach_from levels l before trace ≡ None → AreQuiet levels l before
    → AreQuiet levels l (reverse trace ++ before)
unfolding AreQuiet breach_from
quiet-from levels l before [] none quiet = quiet
quiet-from {w} levels l before (x ∷ trace) none quiet =
    let first = unbroken (broken_together levels l x before) (length before)
    (breach_from levels l (x ∷ before) trace) none in
    subst (AreQuiet levels l) (sym (turned x trace before))
    (quiet-from levels l (x ∷ before) trace first.1 (first.0, quiet))
  where
    unbroken : (o : Option Breach) (i : ℕ) (rest : Option (ℕ × Breach)) → breach_or o i rest ≡ None
        → (o ≡ None) × (rest ≡ None)
    unbroken None i rest e = (refl, e)
    unbroken (Some breach) i rest e = absurd cc

quiet-beats : {w : ℕ} (levels : List Level) (l : Liberties) (t : Trace w)
    → first_breach levels l (reverse t) ≡ None → AreQuiet levels l t
unfolding AreQuiet
quiet-beats levels l t none =
    subst (AreQuiet levels l) (append-nil (reverse (reverse t)) ∙ reverse-reverse t)
    (quiet-from levels l [] (reverse t) none tt)

-- ---- an event

both-none : (r : Option Rule) (m : Option MemoryRule) → first_broken r m ≡ None → (r ≡ None) × (m ≡ None)
both-none None None e = (refl, refl)
both-none None (Some rule) e = absurd cc
both-none (Some rule) m e = absurd cc

first-none : (m n : Option MemoryRule) → memory_rule_or m n ≡ None → m ≡ None
first-none None n e = refl
first-none (Some rule) n e = absurd cc

-- a beat that breaks no rule of beats, has true bytes, and loses no stores breaks no rule
quiet-beat : {w : ℕ} (levels : List Level) (complete : Completeness) (l : Liberties) (link : Link) (x : Beat w)
    (e : Events w) → broken_together levels l (link, x) (beats_of e) ≡ None
    → IsTrueEvent complete (length levels) link.0 (event.Beat x) e
    → broken_report complete (length levels) link.0 x e ≡ None → broken_beat levels complete l link x e ≡ None
quiet-beat {w} levels complete l link (Beat.D y) e quiet brought report =
    let rules = both-none (broken_on_link_under l levels (link, Beat.D y) (beats_of e))
    (broken_memory (length levels) link.0 (Beat.D y) (beats_of e)) quiet in
    let begun = first-none (broken_beginning (length levels) link.0 y (beats_of e))
    (broken_bytes (length levels) link.0 y (beats_of e)) rules.1 in
    rw (rules.0, begun, brought) refl
quiet-beat {w} levels complete l link (Beat.A y) e quiet brought report =
    rw ((both-none (broken_on_link_under l levels (link, Beat.A y) (beats_of e)) None quiet).0, report) refl
quiet-beat {w} levels complete l link (Beat.B y) e quiet brought report =
    rw (both-none (broken_on_link_under l levels (link, Beat.B y) (beats_of e)) None quiet).0 refl
quiet-beat {w} levels complete l link (Beat.C y) e quiet brought report =
    rw ((both-none (broken_on_link_under l levels (link, Beat.C y) (beats_of e)) None quiet).0, report) refl
quiet-beat {w} levels complete l link (Beat.E y) e quiet brought report =
    rw (both-none (broken_on_link_under l levels (link, Beat.E y) (beats_of e)) None quiet).0 refl

-- ---- all events

-- each event, the newest first, breaks no rule after the older ones
unfoldable AreQuietEvents : {w : ℕ} → List Level → Completeness → Liberties → Events w → Type 0
AreQuietEvents levels complete l [] = ⊤
AreQuietEvents levels complete l (x ∷ e) =
    (broken_event levels complete l x.0 x.1 e ≡ None) × AreQuietEvents levels complete l e

quiet-events : {w : ℕ} (from_zero : Bool) (config : Config) (l : Liberties) (e : Events w) → AreQuiet
    (levels_of config) l (beats_of e)
    → AreTrueEvents (complete_of from_zero config) (length (levels_of config)) e → AreUnbroken from_zero config e
    → AreQuietEvents (levels_of config) (complete_of from_zero config) l e
unfolding AreQuiet AreQuietEvents AreTrueEvents AreUnbroken beats_of
quiet-events from_zero config l [] quiet brought are = tt
quiet-events from_zero config l ((link, event.Beat x) ∷ e) quiet brought are = (
  quiet-beat (levels_of config) (complete_of from_zero config) l link x e quiet.0 brought.0
      (subst (λ (n : ℕ). broken_report (complete_of from_zero config) n link.0 x e ≡ None)
      (sym (length-map config.clients.items (λ client. client.level))) are.0),
  quiet-events from_zero config l e quiet.1 brought.1 are.1,
)
quiet-events from_zero config l ((link, event.Commit x) ∷ e) quiet brought are =
    (are.0, quiet-events from_zero config l e quiet brought.1 are.1)

older-quiet : {w : ℕ} (levels : List Level) (complete : Completeness) (l : Liberties) (newer e : Events w)
    → AreQuietEvents levels complete l (newer ++ e) → AreQuietEvents levels complete l e
unfolding AreQuietEvents
older-quiet levels complete l [] e quiet = quiet
older-quiet levels complete l (x ∷ newer) e quiet = older-quiet levels complete l newer e quiet.1

no-breach : {w : ℕ} (levels : List Level) (complete : Completeness) (l : Liberties) (before trace : Events w)
    → AreQuietEvents levels complete l (reverse trace ++ before)
    → commit_breach_from levels complete l before trace ≡ None
unfolding AreQuietEvents commit_breach_from
no-breach levels complete l before [] quiet = refl
no-breach levels complete l before (x ∷ trace) quiet =
    let all = subst (AreQuietEvents levels complete l) (turned x trace before) quiet in
    rw (older-quiet levels complete l (reverse trace) (x ∷ before) all).0
    (no-breach levels complete l (x ∷ before) trace all)

pub commit_concord : {w : ℕ} → CommitConcord w
commit_concord {w} from_zero config l log given ranged within =
    no-breach (levels_of config) (complete_of from_zero config) l [] (reverse (events_of log))
    (subst (AreQuietEvents (levels_of config) (complete_of from_zero config) l)
    (sym (append-nil (reverse (reverse (events_of log))) ∙ reverse-reverse (events_of log)))
    (quiet-events from_zero config l (events_of log) quiet brought (unbroken_commits from_zero config log given ranged)))
  where
    quiet : AreQuiet (levels_of config) l (beats_of (events_of log))
    quiet = subst (AreQuiet (levels_of config) l) (sym (events-beats log))
        (quiet-beats (levels_of config) l (trace_of log) (concord config l log given within))

    brought : AreTrueEvents (complete_of from_zero config) (length (levels_of config)) (events_of log)
    brought =
        let has = world-steps from_zero config log given ranged in
        subst (AreTrueEvents (complete_of from_zero config) (length (levels_of config))) has.events_are
        (true_commit_runs (complete_of from_zero config) (length (levels_of config)) zeros has.steps (zeros-start from_zero)
        (subst (λ (n : ℕ). IsCommitRun n zeros has.steps)
        (sym (length-map config.clients.items (λ client. client.level))) has.is_run))
