use Rattle.tl_schedule.specs.statement.Commits.{asked_commit, at_most_one, word_stores}
use Rattle.tl_schedule.specs.statement.OutcomeLine.{link_of}
use Rattle.tl_schedule.proofs.CommitTexts.{both-texts}
use Rattle.tl_schedule.proofs.commit.append_commits.Goals as goal

pub returns-in-Some : goal.returns-in-Some
returns-in-Some g c = rw c.in-Some.is (both-texts c.args.out.now.items c.append_asked_commit.new.out.items
    c.append_whole.new.out.items (link_of c.args.event.now) c.link_of.result
    (at_most_one (asked_commit c.args.event.now c.args.outcome.now)) (word_stores c.in-Some.store 0 8)
    c.append_whole.result c.link_of.ensures c.in_ok-append_asked_commit.ensures c.append_whole.ensures)
