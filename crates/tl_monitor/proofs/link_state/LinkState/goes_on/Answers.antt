use Rattle.std.proofs.Common.{rules}
use Rattle.tl_monitor.proofs.Middle.{middle-passes}
use Rattle.tl_monitor.proofs.link_state.LinkState.goes_on.Goals as goal

pub returns-clause-rule : goal.returns-clause-rule
returns-clause-rule g c = λ lib level t lawful keeps.
    middle-passes c.args.self.now lib level c.args.beat.now c.in-D.response c.in-Some.burst t c.in-D.is (search rules)
    (search rules) (search rules) (search rules) lawful keeps
