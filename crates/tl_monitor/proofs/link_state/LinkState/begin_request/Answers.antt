use Rattle.std.proofs.Common.{rules, true, false}
use Rattle.tl_monitor.proofs.Accesses.{request-rule}
use Rattle.tl_monitor.proofs.link_state.LinkState.begin_request.Goals as goal

pub returns-then-is_some-clause-rule : goal.returns-then-is_some-clause-rule
returns-then-is_some-clause-rule g c = λ lib t keeps.
    request-rule c.args.self.now c.args.beat.now c.args.x.now lib t true keeps c.requires.first c.requires.same
    c.requires.access (search rules)

pub returns-clause-rule : goal.returns-clause-rule
returns-clause-rule g c = λ lib t keeps.
    request-rule c.args.self.now c.args.beat.now c.args.x.now lib t false keeps c.requires.first c.requires.same
    c.requires.access (search rules)
