use Rattle.std.proofs.Common.{rules}
use Rattle.tl_random.proofs.Events.{by_terms}
use Rattle.tl_random.proofs.event.client_has.Goals as goal

pub returns-in-Some : goal.returns-in-Some
returns-in-Some g c = by_terms c.args.config.now c.args.client c.in-Some.terms c.args.operation.now _ (search rules)
    c.level_has.ensures
