use Rattle.tl_coherence.specs.declared.event.Event.TheVariants.{Ask}
use Rattle.tl_schedule.specs.statement.OutcomeLine.{link_of}
use Rattle.tl_engine.proofs.Answered.{none-written}
use Rattle.tl_engine.proofs.play.append_stored.Goals as goal

pub returns-in-None : goal.returns-in-None
returns-in-None g c = rw c.in-None.is (none-written (link_of (Ask c.args.client c.args.operation.now)) c.args.out.now.items)
