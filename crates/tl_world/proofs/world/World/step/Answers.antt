use Rattle.tl_world.proofs.world.World.step.Goals as goal

pub returns-in-Ask-clause-reached : goal.returns-in-Ask-clause-reached
returns-in-Ask-clause-reached g c = λ config log r. rw c.in-Ask.is (c.ask.ensures.reached config log r)

pub returns-in-Ask-clause-outcome : goal.returns-in-Ask-clause-outcome
returns-in-Ask-clause-outcome g c = λ config log r. rw c.in-Ask.is (c.ask.ensures.outcome config log r)

pub returns-in-Deliver-clause-reached : goal.returns-in-Deliver-clause-reached
returns-in-Deliver-clause-reached g c = λ config log r. rw c.in-Deliver.is (c.deliver.ensures.reached config log r)

pub returns-in-Deliver-clause-outcome : goal.returns-in-Deliver-clause-outcome
returns-in-Deliver-clause-outcome g c = λ config log r. rw c.in-Deliver.is (c.deliver.ensures.outcome config log r)
