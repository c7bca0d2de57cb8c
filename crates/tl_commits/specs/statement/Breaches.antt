-- The first rule that an event of a trace with commits breaks.
use Rattle.std.specs.Prelude.{ℕ, Bool, false, [], ◌∷◌, if◌then◌else◌, List, length, Option, Some, None, slice_get}
use Rattle.tl_beat.specs.declared.beat.Beat.{Beat}
use Rattle.tl_beat.specs.declared.beat.Beat.TheVariants as beat
use Rattle.tl_beat.specs.declared.beat.BeatD.{BeatD}
use Rattle.tl_beat.specs.declared.beat.Link.{Link}
use Rattle.tl_params.specs.declared.level.Level.{Level}
use Rattle.tl_params.specs.declared.liberties.Liberties.{Liberties}
use Rattle.tl_params.specs.declared.memory_rule.MemoryRule.{MemoryRule}
use Rattle.tl_params.specs.declared.rule.Rule.TheVariants.{L1}
use Rattle.tl_rules.specs.statement.Legality.{has_transfers}
use Rattle.tl_rules.specs.statement.Liberties.{broken_on_link_under}
use Rattle.tl_together.specs.declared.breach.Breach.{Breach}
use Rattle.tl_together.specs.declared.breach.Breach.TheVariants.{OfLink}
use Rattle.tl_together.specs.statement.Coherence.{broken_beginning, first_broken, memory_rule_or, rule_of_bytes}
use Rattle.tl_events.specs.declared.commit.Commit.{Commit}
use Rattle.tl_events.specs.declared.commit.Event.{Event}
use Rattle.tl_events.specs.declared.commit.Event.TheVariants as event
use Rattle.tl_commits.specs.declared.rule.CommitBreach.{CommitBreach}
use Rattle.tl_commits.specs.declared.rule.CommitBreach.TheVariants.{OfBeats, OfCommits}
use Rattle.tl_events.specs.declared.rule.CommitRule.{CommitRule}
use Rattle.tl_commits.specs.statement.Completeness.{Completeness}
use Rattle.tl_commits.specs.statement.Commits.{broken_commit, broken_report}
use Rattle.tl_commits.specs.statement.Events.{Events, beats_of}
use Rattle.tl_commits.specs.statement.True.{is_true_seen}

-- ---- a beat

-- M2 and M3, at each beat of a response with data: its bytes aren't true
abbrev pub broken_bytes_seen : {w : ℕ} → Completeness → ℕ → ℕ → BeatD w → Events w → Option MemoryRule
broken_bytes_seen complete n link x e =
    if is_true_seen complete x.opcode n link x e then None else Some (rule_of_bytes x.opcode)

-- the rule of memory that a beat breaks: M1 and M4 come before M2 and M3
abbrev pub broken_memory_seen : {w : ℕ} → Completeness → ℕ → ℕ → Beat w → Events w → Option MemoryRule
broken_memory_seen complete n link (beat.D x) e =
    memory_rule_or (broken_beginning n link x (beats_of e)) (broken_bytes_seen complete n link x e)
broken_memory_seen complete n link _ e = None

-- the breach of rules of beats, or of commits if there is none
abbrev pub breach_of : Option Breach → Option CommitRule → Option CommitBreach
breach_of (Some breach) rule = Some (OfBeats breach)
breach_of None (Some rule) = Some (OfCommits rule)
breach_of None None = None

-- the first rule that a beat breaks: those of its link, then M1, M2, M4, M3 and M7
abbrev pub broken_beat : {w : ℕ} → List Level → Completeness → Liberties → Link → Beat w → Events w
    → Option CommitBreach
broken_beat levels complete l link x e =
    breach_of (first_broken (broken_on_link_under l levels (link, x) (beats_of e))
    (broken_memory_seen complete (length levels) link.0 x e))
    (broken_report complete (length levels) link.0 x e)

-- ---- a commit

-- there is a link, and it has the channels of caches
abbrev pub has_cache : Option Level → Bool
has_cache None = false
has_cache (Some level) = has_transfers level

-- the first rule that a commit breaks: L1 if its link has no cache
abbrev pub broken_by_core :
    {w : ℕ} → List Level → Completeness → Link → Commit → Events w → Option CommitBreach
broken_by_core levels complete link x e =
    if has_cache (slice_get levels link.0)
    then breach_of None (broken_commit complete (length levels) link.0 x e)
    else Some (OfBeats (OfLink L1))

-- ---- all events

-- the first rule that an event breaks after e, which has the events before it, the newest first
abbrev pub broken_event :
    {w : ℕ} → List Level → Completeness → Liberties → Link → Event w → Events w → Option CommitBreach
broken_event levels complete l link (event.Beat x) e = broken_beat levels complete l link x e
broken_event levels complete l link (event.Commit x) e = broken_by_core levels complete link x e

-- a breach at place i, or the first one of the rest if there is none
abbrev pub commit_breach_or : Option CommitBreach → ℕ → Option (ℕ × CommitBreach) → Option (ℕ × CommitBreach)
commit_breach_or None i rest = rest
commit_breach_or (Some breach) i rest = Some (i, breach)

-- The place and the rule of the first event of `trace` that breaks a rule. `before` has the events before these, the
-- newest first; in `trace` the next one is first.
unfoldable pub commit_breach_from :
    {w : ℕ} → List Level → Completeness → Liberties → Events w → Events w → Option (ℕ × CommitBreach)
commit_breach_from levels complete l before [] = None
commit_breach_from levels complete l before (x ∷ trace) =
    commit_breach_or (broken_event levels complete l x.0 x.1 before) (length before)
    (commit_breach_from levels complete l (x ∷ before) trace)

-- the place of the first event of a trace that breaks a rule, with the rule
abbrev pub first_commit_breach : {w : ℕ} → List Level → Completeness → Liberties → Events w → Option (ℕ × CommitBreach)
first_commit_breach levels complete l trace = commit_breach_from levels complete l [] trace
