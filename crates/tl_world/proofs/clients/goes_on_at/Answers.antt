use Rattle.std.proofs.Common.{false}
use Rattle.tl_manager.proofs.calls.Unchanged.{unchanged-at}
use Rattle.tl_world.proofs.clients.goes_on_at.Goals as goal

pub returns-then-not-goes_on-clause-unchanged : goal.returns-then-not-goes_on-clause-unchanged
returns-then-not-goes_on-clause-unchanged g c =
    unchanged-at (λ clients. clients) false c.args.clients.now c.args.i c.index_mut.result.now c.goes_on.new.self
    c.index_mut.ensures.value c.if-not-goes_on.ensures.unchanged
