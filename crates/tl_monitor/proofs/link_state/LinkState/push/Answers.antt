use Rattle.tl_monitor.proofs.link_state.LinkState.push.Goals as goal

pub returns-then-goes_on-clause-lawful : goal.returns-then-goes_on-clause-lawful
returns-then-goes_on-clause-lawful g c = c.if-goes_on.ensures.lawful c.args.liberties c.args.level
