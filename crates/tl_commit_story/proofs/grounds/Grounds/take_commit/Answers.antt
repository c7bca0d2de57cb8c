use Rattle.tl_commit_story.proofs.Followed.{commit-passed, commit-taken}
use Rattle.tl_commit_story.proofs.grounds.Grounds.take_commit.Goals as goal

pub returns-in-Store : goal.returns-in-Store
returns-in-Store g c = commit-taken c.args.self.now c.take.new.self c.args.number c.args.link c.args.commit
    (λ place lt. rw c.in-Store.is (c.take.ensures place lt))

pub returns-in_default : goal.returns-in_default
returns-in_default g c =
    commit-passed c.args.self.now c.args.number c.args.link c.args.commit c.in_default.not-Store
