use Rattle.tl_commit_story.proofs.link_record.LinkRecord.take.Goals as goal

pub returns-in-Commit : goal.returns-in-Commit
returns-in-Commit g c = λ yes. rw c.in-Commit.is (c.take_commit.ensures yes c.args.link _)
