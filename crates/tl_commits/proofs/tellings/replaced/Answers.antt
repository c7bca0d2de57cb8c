use Rattle.tl_commits.proofs.TellingLists.{set-at}
use Rattle.tl_commits.proofs.tellings.replaced.Goals as goal

pub returns : goal.returns
returns c = λ p lt. set-at c.args.write.now c.args.moment p c.args.places.now c.append_written.new.told.items
    c.append_at.new.told.items c.args.before.now (rw c.new-told.ensures.items at c.in_ok-append_written.ensures)
    c.in_ok-append_at.ensures lt
