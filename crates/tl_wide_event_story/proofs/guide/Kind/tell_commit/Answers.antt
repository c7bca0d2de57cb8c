use Rattle.std.proofs.Common.{refl}
use Rattle.std.proofs.lemmas.Result.{IfOk-weaker}
use Rattle.std.specs.Prelude.{slice_get}
use Rattle.tl_commit_lines.specs.statement.MarkedHeader.{complete_of, levels_of}
use Rattle.tl_commit_story.specs.statement.Grounds.{no_cache_words}
use Rattle.tl_wide_event_story.proofs.guide.Kind.tell_commit.Goals as goal

pub returns-in-Rule : goal.returns-in-Rule
returns-in-Rule g c = IfOk-weaker c.tell_commit.result _ _
    (λ told tells. λ yes may links names e k. (
      no_cache_words (slice_get (levels_of links) c.args.link.0),
      tells yes may (levels_of links) e (rw c.in-OfLink.is at k),
      rw c.in-Rule.is refl,
    )) c.tell_commit.ensures

pub returns-in-CommitRule : goal.returns-in-CommitRule
returns-in-CommitRule g c = IfOk-weaker c.tell_commit-in-OfCopy.result _ _
    (λ told tells. λ yes may links names e k.
    let so = tells yes may (levels_of links) (complete_of links) e (rw c.in-OfCopy.is at k) in
    (_, so.1, rw c.in-CommitRule.is (so.0, refl))) c.tell_commit-in-OfCopy.ensures
