-- A trace without commits is judged as by the rules of beats.
use Rattle.std.proofs.Common.{◌≡◌, ℕ, suc, Bool, true, false, List, [], ◌∷◌, length, refl, ap, ◌∙◌}
use Rattle.std.specs.Prelude.{if◌then◌else◌, Option, Some, None}
use Rattle.tl_beat.specs.declared.beat.Beat.{Beat}
use Rattle.tl_beat.specs.declared.beat.Beat.TheVariants as beat
use Rattle.tl_beat.specs.declared.beat.Link.{Link}
use Rattle.tl_params.specs.declared.level.Level.{Level}
use Rattle.tl_params.specs.declared.liberties.Liberties.{Liberties}
use Rattle.tl_rules.specs.statement.Conformance.{Trace}
use Rattle.tl_together.specs.declared.breach.Breach.{Breach}
use Rattle.tl_together.specs.statement.Coherence.{breach_from, breach_or, broken_memory, broken_together}
use Rattle.tl_events.specs.declared.commit.Event.TheVariants as event
use Rattle.tl_commits.specs.declared.rule.CommitBreach.{CommitBreach}
use Rattle.tl_commits.specs.declared.rule.CommitBreach.TheVariants.{OfBeats}
use Rattle.tl_events.specs.declared.rule.CommitRule.{CommitRule}
use Rattle.tl_commits.specs.statement.Completeness.{incomplete, with_stores}
use Rattle.tl_commits.specs.statement.Alone.{JudgesAlone, JudgesBeats, alone, as_commits, of_beats}
use Rattle.tl_commits.specs.statement.Breaches.{breach_of, broken_event, broken_memory_seen, commit_breach_from}
use Rattle.tl_commits.specs.statement.Breaches.{commit_breach_or}
use Rattle.tl_beat.specs.statement.Opcode.{c_carries_data}
use Rattle.tl_commits.specs.statement.Copies.{link_beats}
use Rattle.tl_commits.specs.statement.Commits.{gives_back, keeps_stores, takes_trunk}
use Rattle.tl_commits.proofs.BeatsAlone.{beats-alone, true-alone}

memory-alone : {w : ℕ} (stores : List Bool) (n link : ℕ) (x : Beat w) (t : Trace w)
    → broken_memory_seen (with_stores stores) n link x (alone t) ≡ broken_memory n link x t
memory-alone stores n link (beat.D x) t = rw (beats-alone t, true-alone stores x.opcode n link x t) refl
memory-alone stores n link (beat.A x) t = refl
memory-alone stores n link (beat.B x) t = refl
memory-alone stores n link (beat.C x) t = refl
memory-alone stores n link (beat.E x) t = refl

-- a rule of beats is broken before one of commits
beats-first : (breach : Option Breach) (rule : Option CommitRule) → of_beats (breach_of breach rule) ≡ breach
beats-first (Some breach) rule = refl
beats-first None (Some rule) = refl
beats-first None None = refl

pub beats-judged : (w : ℕ) → JudgesBeats w
beats-judged w = λ levels stores l link x t.
    beats-first _ _ ∙ rw (beats-alone t, memory-alone stores (length levels) link.0 x t) refl

-- a link of which not all stores are there loses none
stores-kept : {w : ℕ} (n link : ℕ) (block : Option ℕ) (t : Trace w) → keeps_stores incomplete n link block
    (alone t) ≡ true
stores-kept n link None t = refl
stores-kept n link (Some block) t = refl

gives-kept : {w : ℕ} (n link : ℕ) (x : Beat w) (t : Trace w) → gives_back incomplete n link x (alone t) ≡ true
gives-kept n link (beat.C x) t =
    go (c_carries_data x.opcode) (stores-kept n link (takes_trunk (beat.C x) (link_beats link (alone t))) t)
  where
    go : (b : Bool) {rest : Bool} → rest ≡ true → (if b then true else rest) ≡ true
    go true e = refl
    go false e = e
gives-kept n link (beat.A x) t = stores-kept n link (takes_trunk (beat.A x) (link_beats link (alone t))) t
gives-kept n link (beat.B x) t = refl
gives-kept n link (beat.D x) t = refl
gives-kept n link (beat.E x) t = refl

-- the breach of a beat, if no link has all its stores there
abbrev only : Option Breach → Option CommitBreach
only None = None
only (Some breach) = Some (OfBeats breach)

breach-only : (breach : Option Breach) → breach_of breach None ≡ only breach
breach-only None = refl
breach-only (Some breach) = refl

event-alone : {w : ℕ} (levels : List Level) (l : Liberties) (link : Link) (x : Beat w) (t : Trace w)
    → broken_event levels incomplete l link (event.Beat x) (alone t) ≡ only (broken_together levels l (link, x) t)
event-alone levels l link x t =
    rw (gives-kept (length levels) link.0 x t, memory-alone [] (length levels) link.0 x t, beats-alone t)
    (breach-only (broken_together levels l (link, x) t))

or-alone : (breach : Option Breach) (place : ℕ) (rest : Option (ℕ × Breach))
    → commit_breach_or (only breach) place (as_commits rest) ≡ as_commits (breach_or breach place rest)
or-alone None place rest = refl
or-alone (Some breach) place rest = refl

length-alone : {w : ℕ} (t : Trace w) → length (alone t) ≡ length t
length-alone [] = refl
length-alone (x ∷ t) = ap suc (length-alone t)

from-alone : {w : ℕ} (levels : List Level) (l : Liberties) (before t : Trace w)
    → commit_breach_from levels incomplete l (alone before) (alone t) ≡ as_commits (breach_from levels l before t)
unfolding commit_breach_from breach_from
from-alone levels l before [] = refl
from-alone levels l before (x ∷ t) =
    rw (event-alone levels l x.0 x.1 before, length-alone before, from-alone levels l (x ∷ before) t)
    (or-alone (broken_together levels l x before) (length before) (breach_from levels l (x ∷ before) t))

pub alone-judged : (w : ℕ) → JudgesAlone w
alone-judged w = λ levels l t. from-alone levels l [] t
