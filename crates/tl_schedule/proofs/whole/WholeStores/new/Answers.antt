use Rattle.std.proofs.Common.{refl}
use Rattle.tl_schedule.specs.statement.Commits.{store_begun}
use Rattle.tl_schedule.proofs.whole.WholeStores.new.Goals as goal

pub returns : goal.returns
unfolding store_begun
returns c = λ w client source. rw c.new.ensures.items refl
