-- What is told of a block in the cache of a link.
use Rattle.std.proofs.Common.{◌≡◌, ◌++◌, ◌∙◌, ℕ, List, ap, append_assoc, length, sym}
use Rattle.tl_beat.specs.declared.beat.Link.{Link}
use Rattle.tl_beat.specs.declared.channel.Channel.TheVariants as channel
use Rattle.tl_burst.specs.statement.Messages.{unfinished}
use Rattle.tl_commit_lines.specs.statement.MarkedHeader.{MarkedLinks, complete_of, levels_of}
use Rattle.tl_commits.specs.statement.Copies.{link_beats}
use Rattle.tl_commits.specs.statement.Events.{Events}
use Rattle.tl_events.specs.declared.commit.Event.{Event}
use Rattle.tl_events.specs.declared.rule.CommitRule.{CommitRule}
use Rattle.tl_evidence.specs.statement.CopyLines.{copy_lines}
use Rattle.tl_params.specs.declared.liberties.Liberties.{Liberties}
use Rattle.tl_witness.specs.statement.Naming.{as_recorded}
use Rattle.tl_commit_story.specs.code.Followers.{KnowsCopyFollower}
use Rattle.tl_commit_story.specs.declared.copy_follower.CopyFollower.{CopyFollower}
use Rattle.tl_commit_story.specs.statement.Grounds.{copy_grounds}

-- what the link holds, and then the lines about bytes
pub told-both : {w : ℕ} (f : CopyFollower w) (rule : CommitRule) (link : Link) (x : Event w) (may : Liberties)
    (links : MarkedLinks) (e : Events w) → KnowsCopyFollower f may links e → f.grounds.cached.link ≡ link
    → f.record.link ≡ link → (was mid is : List ℕ) → mid ≡ was ++ copy_grounds may (levels_of links) link x e
    → (f.grounds.giving.came ≡ length (unfinished channel.C (link_beats f.record.link.0 e))
    → is ≡ mid ++ copy_lines as_recorded rule (complete_of links) (length (levels_of links)) f.record.link.0 x e)
    → is ≡ was ++ (copy_grounds may (levels_of links) link x e
    ++ copy_lines as_recorded rule (complete_of links) (length (levels_of links)) link.0 x e)
told-both f rule link x may links e k held kept was mid is first second =
    let came : f.grounds.giving.came ≡ length (unfinished channel.C (link_beats f.record.link.0 e)) =
    k.0.giving_is.came_is ∙ ap (λ (l : Link). length (unfinished channel.C (link_beats l.0 e))) (held ∙ sym kept) in
    second came
    ∙ ap (λ (l : Link). mid ++ copy_lines as_recorded rule (complete_of links) (length (levels_of links)) l.0 x e) kept
    ∙ ap (λ text. text ++ copy_lines as_recorded rule (complete_of links) (length (levels_of links)) link.0 x e) first
    ∙ append_assoc was (copy_grounds may (levels_of links) link x e)
    (copy_lines as_recorded rule (complete_of links) (length (levels_of links)) link.0 x e)
