use Rattle.std.specs.Prelude.{false}
use Rattle.tl_commit_story.proofs.links_record.push.Goals as goal

pub returns-in-Ok : goal.returns-in-Ok
returns-in-Ok g c = λ on levels may t k. c.in-Ok.ensures.knows levels may t false k
