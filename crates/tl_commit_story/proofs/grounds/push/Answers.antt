use Rattle.std.specs.Prelude.{false}
use Rattle.tl_commit_story.proofs.grounds.push.Goals as goal

pub returns-in-Ok : goal.returns-in-Ok
returns-in-Ok g c = λ on levels may t. c.in-Ok.ensures.knows_under levels may t false
