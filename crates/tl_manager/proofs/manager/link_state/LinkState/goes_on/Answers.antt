use Rattle.tl_manager.proofs.messages.Later.{lawful-middle}
use Rattle.tl_manager.proofs.manager.link_state.LinkState.goes_on.Goals as goal

pub returns-clause-lawful : goal.returns-clause-lawful
returns-clause-lawful g c =
    lawful-middle c.args.self.now c.args.channel c.args.beat.now c.grows.result c.if-not-is_fit.ensures.fit
    c.grows.ensures.middle
