use Rattle.std.proofs.lemmas.Result.{IfOk-weaker}
use Rattle.tl_wide_event_story.proofs.Grounded.{commit-told}
use Rattle.tl_wide_event_story.proofs.Guided.{commit-becomes}
use Rattle.tl_wide_event_story.proofs.guide.Guide.tell_commit.Goals as goal

pub returns-in-Some : goal.returns-in-Some
returns-in-Some g c = IfOk-weaker c.tell_commit.result _ _
    (λ told tells. λ yes.
    commit-told c.requires.part c.args.fault c.args.link c.args.self.now
    (record c.args.self.now { narrower = c.narrow_commit.new.narrower }) c.args.commit c.in-Some.narrow
    c.args.out.now.items c.tell_commit.new.out.items
    (commit-becomes c.args.self.now (record c.args.self.now { narrower = c.narrow_commit.new.narrower }) c.args.link
    c.args.commit c.in-Some.narrow
    (λ t follows. rw c.in-Some.is at (c.in_ok-narrow_commit.ensures.narrowed _ t follows)))
    (tells yes)) c.tell_commit.ensures
