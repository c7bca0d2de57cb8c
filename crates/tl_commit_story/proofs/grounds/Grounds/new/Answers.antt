use Rattle.tl_commit_story.proofs.Followed.{fresh}
use Rattle.tl_commit_story.proofs.grounds.Grounds.new.Goals as goal

pub returns : goal.returns
returns g c = λ levels may known.
    fresh (record {
      cached = c.args.cached;
      monitor = c.args.monitor;
      since = c.new.result;
      granting = c.new-2.result;
      giving = c.new-3.result;
      stores = c.new-4.result;
    }) levels may known c.new.ensures.items c.new-2.ensures.came c.new-2.ensures.begun c.new-3.ensures.came
    c.new-3.ensures.begun c.new-4.ensures
