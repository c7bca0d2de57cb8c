-- What is known of the events of a trace that are followed for a response that breaks a rule of memory.
use Rattle.std.specs.Prelude.{◌≡◌, ◌+◌, ◌++◌, ◌∷◌, ℕ, false, List, length}
use Rattle.tl_beat.specs.declared.beat.BeatD.{BeatD}
use Rattle.tl_beat.specs.declared.beat.Link.{Link}
use Rattle.tl_commit_lines.specs.statement.MarkedHeader.{MarkedLinks, complete_of, levels_of}
use Rattle.tl_commits.specs.statement.Completeness.{Completeness}
use Rattle.tl_commits.specs.statement.Events.{Events}
use Rattle.tl_events.specs.declared.commit.Event.{Event}
use Rattle.tl_evidence.specs.code.Following.{KnowsCopy}
use Rattle.tl_evidence.specs.declared.copy_record.CopyRecord.{CopyRecord}
use Rattle.tl_evidence.specs.statement.ResponseLines.{response_lines}
use Rattle.tl_params.specs.declared.level.Level.{Level}
use Rattle.tl_params.specs.declared.liberties.Liberties.{Liberties}
use Rattle.tl_params.specs.declared.memory_rule.MemoryRule.{MemoryRule}
use Rattle.tl_witness.specs.statement.Naming.{Naming}
use Rattle.tl_commit_story.specs.code.Placing.{KnowsLinks, is_of_links}
use Rattle.tl_commit_story.specs.declared.response_follower.ResponseFollower.{ResponseFollower}
use Rattle.tl_commit_story.specs.declared.response_follower.ResponseFollower.TheVariants.{OfBytes, OfLinks}
use Rattle.tl_commit_story.specs.statement.Grounds.{response_grounds}

-- all that is kept is what the events say
abbrev pub KnowsResponses : {w : ℕ} → ResponseFollower w → Liberties → MarkedLinks → Events w → Type 0
KnowsResponses (OfLinks r) may links e = KnowsLinks r may (levels_of links) e
KnowsResponses (OfBytes r) may links e = KnowsCopy r may (levels_of links) (complete_of links) e

-- one more event, in the line of this number
abbrev pub FollowsResponses : {w : ℕ} → ResponseFollower w → ResponseFollower w → ℕ → Link → Event w → Type 0
FollowsResponses {w} old new number link x =
    (may : Liberties) (links : MarkedLinks) (e : Events w) → number ≡ length e + 2 → KnowsResponses old may links e
    → KnowsResponses new may links ((link, x) ∷ e)

-- what is known of one is known of the other
abbrev pub KeepsResponses : {w : ℕ} → ResponseFollower w → ResponseFollower w → Type 0
KeepsResponses {w} old new =
    (may : Liberties) (links : MarkedLinks) (e : Events w) → KnowsResponses old may links e
    → KnowsResponses new may links e

-- The rule is M2 or M3, and the text has the lines for a response that breaks it, behind what it had.
pub record TellsBytes {w : ℕ} (r : CopyRecord w) (names : Naming) (rule : MemoryRule) (link : Link) (x : BeatD w)
    (was is : List ℕ) : Type 0 where
  pub of_bytes : is_of_links rule ≡ false
  pub says : (may : Liberties) (levels : List Level) (complete : Completeness) (e : Events w)
      → KnowsCopy r may levels complete e → is ≡ was ++ response_lines names complete (length levels) link.0 x e

-- the text has the lines for a response that breaks the rule, behind what it had
abbrev pub TellsResponse : {w : ℕ} → ResponseFollower w → Naming → MemoryRule → Link → BeatD w → List ℕ → List ℕ
    → Type 0
TellsResponse {w} f names rule link x was is =
    (may : Liberties) (links : MarkedLinks) (e : Events w) → KnowsResponses f may links e
    → is ≡ was ++ response_grounds names rule (complete_of links) (length (levels_of links)) link x e
