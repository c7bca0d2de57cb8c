-- What is told of a response that breaks a rule of memory.
use Rattle.std.proofs.Common.{◌≡◌, ◌++◌, ◌∙◌, ℕ, true, false, List, ap, length, refl}
use Rattle.tl_beat.specs.declared.beat.Beat.TheVariants as beat
use Rattle.tl_beat.specs.declared.beat.BeatD.{BeatD}
use Rattle.tl_beat.specs.declared.beat.Link.{Link}
use Rattle.tl_commit_lines.specs.statement.MarkedHeader.{complete_of, levels_of}
use Rattle.tl_commits.specs.statement.Completeness.{Completeness}
use Rattle.tl_commits.specs.statement.Events.{Events, beats_of}
use Rattle.tl_lines.specs.declared.fault.Fault.TheVariants.{MemoryRule as BreaksTogether}
use Rattle.tl_events.specs.declared.commit.Event.TheVariants as event
use Rattle.tl_evidence.specs.declared.copy_record.CopyRecord.{CopyRecord}
use Rattle.tl_evidence.specs.statement.ResponseLines.{response_lines}
use Rattle.tl_params.specs.declared.memory_rule.MemoryRule.{MemoryRule}
use Rattle.tl_params.specs.declared.memory_rule.MemoryRule.TheVariants.{M1, M2, M3, M4}
use Rattle.tl_witness.specs.statement.Grounds.{grounds_text}
use Rattle.tl_witness.specs.statement.Naming.{Naming, as_recorded}
use Rattle.tl_commit_story.specs.code.Followers.{TellsGrounds}
use Rattle.tl_commit_story.specs.code.Placing.{TellsLinks, is_of_links}
use Rattle.tl_commit_story.specs.code.Responses.{TellsBytes, TellsResponse}
use Rattle.tl_commit_story.specs.declared.follower.Follower.{Follower}
use Rattle.tl_commit_story.specs.declared.follower.Follower.TheVariants.{OfResponse}
use Rattle.tl_commit_story.specs.declared.links_record.LinksRecord.{LinksRecord}
use Rattle.tl_commit_story.specs.declared.response_follower.ResponseFollower.{ResponseFollower}
use Rattle.tl_commit_story.specs.declared.response_follower.ResponseFollower.TheVariants.{OfBytes, OfLinks}
use Rattle.tl_commit_story.specs.statement.BeatLines.{event_names}
use Rattle.tl_commit_story.specs.statement.Grounds.{response_grounds}

-- M1 and M4
pub links-grounds : {w : ℕ} (f : ResponseFollower w) (r : LinksRecord w) (names : Naming) (rule : MemoryRule)
    (link : Link) (y : BeatD w) (was is : List ℕ) → f ≡ OfLinks r → TellsLinks r names rule link y was is
    → TellsResponse f names rule link y was is
links-grounds {w} f r names rule link y was is kept tells = λ may links e k.
    tells.says may (levels_of links) e (rw kept at k)
    ∙ ap (λ text. was ++ text) (same (complete_of links) rule tells.of_links (length (levels_of links)) e)
  where
    same : (complete : Completeness) (rule : MemoryRule) → is_of_links rule ≡ true → (n : ℕ) (e : Events w)
        → grounds_text (event_names names e) rule n link.0 y (beats_of e)
        ≡ response_grounds names rule complete n link y e
    same complete M1 of n e = refl
    same complete M4 of n e = refl
    same complete M2 of n e = absurd cc
    same complete M3 of n e = absurd cc

-- M2 and M3
pub bytes-grounds : {w : ℕ} (f : ResponseFollower w) (r : CopyRecord w) (names : Naming) (rule : MemoryRule)
    (link : Link) (y : BeatD w) (was is : List ℕ) → f ≡ OfBytes r → TellsBytes r names rule link y was is
    → TellsResponse f names rule link y was is
bytes-grounds {w} f r names rule link y was is kept tells = λ may links e k.
    tells.says may (levels_of links) (complete_of links) e (rw kept at k)
    ∙ ap (λ text. was ++ text) (same rule tells.of_bytes (complete_of links) (length (levels_of links)) e)
  where
    same : (rule : MemoryRule) → is_of_links rule ≡ false → (complete : Completeness) (n : ℕ) (e : Events w)
        → response_lines names complete n link.0 y e ≡ response_grounds names rule complete n link y e
    same M1 of complete n e = absurd cc
    same M4 of complete n e = absurd cc
    same M2 of complete n e = refl
    same M3 of complete n e = refl

-- in a trace where each event is a line
pub response-told : {w : ℕ} (f : Follower w) (r : ResponseFollower w) (rule : MemoryRule) (link : Link) (y : BeatD w)
    (was is : List ℕ) → f ≡ OfResponse r → TellsResponse r as_recorded rule link y was is
    → TellsGrounds f (BreaksTogether rule) link (event.Beat (beat.D y)) was is
response-told f r rule link y was is kept tells = λ together may links e k. (
  response_grounds as_recorded rule (complete_of links) (length (levels_of links)) link y e,
  tells may links e (rw kept at k),
  refl,
)
