use Rattle.tl_lines.proofs.GivenUp.{given_up_told}
use Rattle.tl_lines.specs.code.Judging.{KnowsFor}
use Rattle.tl_lines.proofs.JudgedLines.{links_so_far, links_total, made_for}
use Rattle.tl_links.proofs.run.run_links.Goals as goal
use Rattle.tl_lines.specs.code.LinkWatching.{KnowsLines, judged_for}
use Rattle.tl_lines.specs.statement.JudgedLinks.{JudgedLinks, LinksSoFar}

pub handle_input-requires-clause-total : goal.handle_input-requires-clause-total
handle_input-requires-clause-total g c = links_total

pub returns-clause-ok : goal.returns-clause-ok
returns-clause-ok g c =
    let same = made_for c.new.result c.args.together c.args.allow c.new.ensures.purpose in
    rw (same.0, same.1) at c.handle_input.ensures.ok

pub returns-clause-err : goal.returns-clause-err
returns-clause-err g c =
    let same = made_for c.new.result c.args.together c.args.allow c.new.ensures.purpose in
    rw (same.0, same.1) at c.handle_input.ensures.err

pub returns-clause-fault : goal.returns-clause-fault
returns-clause-fault g c =
    let same = made_for c.new.result c.args.together c.args.allow c.new.ensures.purpose in
    given_up_told (KnowsFor judged_for (c.args.together, c.args.allow) KnowsLines)
    (JudgedLinks c.args.together c.args.allow) (LinksSoFar c.args.together c.args.allow)
    (links_so_far c.args.together c.args.allow)
    _ _ _ _ _ (rw (same.0, same.1) at (rw c.new.ensures.purpose at c.handle_input.ensures.fault))
