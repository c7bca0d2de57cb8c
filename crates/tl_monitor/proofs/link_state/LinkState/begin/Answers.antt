use Rattle.tl_monitor.proofs.link_state.LinkState.begin.Goals as goal

pub returns-in-A-clause-takes : goal.returns-in-A-clause-takes
returns-in-A-clause-takes g c = c.begin_request.ensures.takes c.args.liberties
