-- How the lines of beats are kept, and what is known of the links of a manager.
use Rattle.std.specs.Prelude.{ℕ, ◌+◌, ◌++◌, ◌<◌, ◌≡◌, ◌∷◌, Bool, true, false, List, Some, length}
use Rattle.std.specs.Prelude.{count_by, if◌then◌else◌, nat_lt}
use Rattle.tl_beat.specs.declared.beat.BeatD.{BeatD}
use Rattle.tl_beat.specs.declared.beat.Link.{Link}
use Rattle.tl_commits.specs.statement.Events.{Events, beats_of}
use Rattle.tl_events.specs.declared.commit.Event.{Event}
use Rattle.tl_memory.specs.code.Elsewhere.{block_asked}
use Rattle.tl_params.specs.declared.level.Level.{Level}
use Rattle.tl_params.specs.declared.liberties.Liberties.{Liberties}
use Rattle.tl_params.specs.declared.memory_rule.MemoryRule.{MemoryRule}
use Rattle.tl_params.specs.declared.memory_rule.MemoryRule.TheVariants.{M1, M4}
use Rattle.tl_rules.specs.code.Open.{open_request}
use Rattle.tl_rules.specs.statement.Conformance.{Trace, on_link}
use Rattle.tl_together.specs.statement.Knows.{Knows}
use Rattle.tl_witness.specs.code.Witness.{KnowsWitness}
use Rattle.tl_witness.specs.statement.Grounds.{grounds_text}
use Rattle.tl_witness.specs.statement.Naming.{Naming}
use Rattle.tl_commit_story.specs.declared.beat_lines.BeatLines.{BeatLines}
use Rattle.tl_commit_story.specs.declared.links_record.LinksRecord.{LinksRecord}
use Rattle.tl_commit_story.specs.statement.BeatLines.{event_names, line_of_beat}

-- the line of the beat with this number, by that of the last beat and those of the last beats before commits
abbrev pub line_by : ℕ → List ℕ → ℕ → ℕ
line_by last commits n = if nat_lt last n then n else n + count_by (λ m. nat_lt m n) commits

abbrev pub names_by : ℕ → List ℕ → Naming → Naming
names_by last commits names = record { line = λ n. names.line (line_by last commits n); address = names.address }

-- the rule is about the permissions that links hold
abbrev pub is_of_links : MemoryRule → Bool
is_of_links M1 = true
is_of_links M4 = true
is_of_links _ = false

-- a response with this source on a link answers a request of the block
abbrev pub IsAnswered : {w : ℕ} → List Level → Link → ℕ → ℕ → Trace w → Type 0
IsAnswered levels link source block t =
    (link.0 < length levels) × (block_asked (open_request source (on_link link.0 t)) ≡ Some block)

-- the lines are those of the beats, and all commits come before a beat that hasn't come
pub record KnowsLines {w : ℕ} (b : BeatLines) (e : Events w) : Type 0 where
  pub last_is : b.last ≡ length (beats_of e) + 1
  pub past_is : (n : ℕ) → b.last < n → count_by (λ m. nat_lt m n) b.commits.items + length (beats_of e) ≡ length e
  pub line_is : (n : ℕ) → line_by b.last b.commits.items n ≡ line_of_beat e n

-- all that is kept is what the events say
pub record KnowsLinks {w : ℕ} (r : LinksRecord w) (may : Liberties) (levels : List Level) (e : Events w) : Type 0 where
  pub judge_is : Knows r.judge levels may (beats_of e) false
  pub witness_is : KnowsWitness r.witness (length levels) r.block (beats_of e)
  pub lines_are : KnowsLines r.lines e

-- one more event
abbrev pub FollowsLinks : {w : ℕ} → LinksRecord w → LinksRecord w → Link → Event w → Type 0
FollowsLinks {w} old new link x =
    (may : Liberties) (levels : List Level) (e : Events w) → KnowsLinks old may levels e
    → KnowsLinks new may levels ((link, x) ∷ e)

-- The rule is M1 or M4, and the text has the lines for a response that breaks it, behind what it had.
pub record TellsLinks {w : ℕ} (r : LinksRecord w) (names : Naming) (rule : MemoryRule) (link : Link) (x : BeatD w)
    (was is : List ℕ) : Type 0 where
  pub of_links : is_of_links rule ≡ true
  pub says : (may : Liberties) (levels : List Level) (e : Events w) → KnowsLinks r may levels e
      → is ≡ was ++ grounds_text (event_names names e) rule (length levels) link.0 x (beats_of e)
