use Rattle.tl_caller.proofs.Promises.{replayed}
use Rattle.tl_caller.proofs.caller.play_at_once.Goals as goal

pub returns : goal.returns
returns g c = replayed g.A.Agent.represents g.A.Agent.terms g.D.Directory.perm_of c.args.config c.args.events.now
    c.args.outcomes.now c.replay.new.outcomes c.replay.result c.replay.ensures
