use Rattle.tl_manager.proofs.calls.Middle.{answer-middle, after-middle, manager-middle}
use Rattle.tl_manager.proofs.manager.Manager.goes_on.Goals as goal

pub invariant_of-self : goal.invariant_of-self
invariant_of-self g c =
    manager-middle g.D.Directory.perm_of g.D.Directory.blocks g.D.Directory.clients c.self.inside.state
    c.goes_on.new.self c.args.link c.args.channel c.args.beat.now c.goes_on.result c.goes_on.ensures.passes
    c.goes_on.ensures.unchanged c.goes_on.ensures.block_state c.self.invariant

pub returns-clause-answer : goal.returns-clause-answer
returns-clause-answer g c =
    rw (← c.self.view_is) (answer-middle g.D.Directory.perm_of c.self.inside.state c.goes_on.new.self c.args.link
    c.args.channel c.args.beat.now c.goes_on.result c.goes_on.ensures.passes)

pub returns-clause-after : goal.returns-clause-after
returns-clause-after g c =
    rw (← c.self.view_is) (after-middle g.D.Directory.perm_of c.self.inside.state c.goes_on.new.self c.args.link
    c.args.channel c.args.beat.now c.goes_on.result c.goes_on.ensures.passes)
