use Rattle.tl_commit_story.proofs.Told.{none-kept}
use Rattle.tl_commit_story.proofs.stores.Stores.new.Goals as goal

pub returns : goal.returns
returns c = λ place lt. none-kept 64 place
