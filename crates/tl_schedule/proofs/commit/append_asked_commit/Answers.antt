use Rattle.tl_schedule.specs.statement.OutcomeLine.{link_of}
use Rattle.tl_schedule.proofs.CommitTexts.{no-line, one-line}
use Rattle.tl_schedule.proofs.commit.append_asked_commit.Goals as goal

pub returns-in-None : goal.returns-in-None
returns-in-None g c = no-line c.args.out.now.items (link_of c.args.event.now) _ c.in-None.ensures.commit

pub returns-in-Some : goal.returns-in-Some
returns-in-Some g c = one-line c.args.out.now.items c.append_commit.new.out.items (link_of c.args.event.now)
    c.link_of.result c.in-Some.commit _ c.append_commit.result c.in-Some.ensures.commit c.link_of.ensures
    c.append_commit.ensures.text
