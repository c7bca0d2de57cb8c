use Rattle.tl_commits.proofs.TellingLists.{chosen-at}
use Rattle.tl_commits.proofs.tellings.chosen.Goals as goal

pub returns : goal.returns
returns c = λ p lt. chosen-at p c.args.places.now c.append_at.new.told.items c.append_at-2.new.told.items
    c.args.those.now c.args.others.now (rw c.new-told.ensures.items at c.in_ok-append_at.ensures)
    c.in_ok-append_at-2.ensures
