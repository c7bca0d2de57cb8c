use Rattle.tl_wide_events.proofs.HalvedLines.{commit-narrowed}
use Rattle.tl_wide_events.proofs.commit.WideCommit.at.Goals as goal

pub returns-in-Store-clause-valid : goal.returns-in-Store-clause-valid
returns-in-Store-clause-valid c = λ is same.
    rw c.in-Store.is at (commit-narrowed c.args.self c.args.address c.ranges.address.fits same is)

pub returns-in-Load-clause-valid : goal.returns-in-Load-clause-valid
returns-in-Load-clause-valid c = λ is same.
    rw c.in-Load.is at (commit-narrowed c.args.self c.args.address c.ranges.address.fits same is)

pub returns-in-Begin-clause-valid : goal.returns-in-Begin-clause-valid
returns-in-Begin-clause-valid c = λ is same.
    rw c.in-Begin.is at (commit-narrowed c.args.self c.args.address c.ranges.address.fits same is)
