use Rattle.std.proofs.Common.{refl, sym}
use Rattle.tl_client.proofs.caching_client.Answered.{asked-busy}
use Rattle.tl_client.proofs.caching_client.Asked.{answers-asked, knows-asked}
use Rattle.tl_client.specs.statement.Answer.{replied}
use Rattle.tl_client.proofs.caching.CachingAgent.ask_into.Goals as goal

pub returns-in-Some-clause-reply : goal.returns-in-Some-clause-reply
returns-in-Some-clause-reply g c =
    λ e k. rw (asked-busy c.args.self.now c.args.operation.now e c.in-Some.busy k c.in-Some.ensures) refl

pub returns-in-Some-clause-message : goal.returns-in-Some-clause-message
returns-in-Some-clause-message g c =
    λ e k. rw (asked-busy c.args.self.now c.args.operation.now e c.in-Some.busy k c.in-Some.ensures) refl

pub returns-in-Some-clause-after : goal.returns-in-Some-clause-after
returns-in-Some-clause-after g c =
    λ e k. rw (asked-busy c.args.self.now c.args.operation.now e c.in-Some.busy k c.in-Some.ensures) k

pub returns-in-None-clause-reply : goal.returns-in-None-clause-reply
returns-in-None-clause-reply g c =
    λ e k. (answers-asked c.args.self.now c.begin.new.self c.args.operation.now e (replied c.begin.result c.begin.new.message) k (sym c.in-None.ensures)
    c.begin.ensures.does).0

pub returns-in-None-clause-message : goal.returns-in-None-clause-message
returns-in-None-clause-message g c =
    λ e k. (answers-asked c.args.self.now c.begin.new.self c.args.operation.now e (replied c.begin.result c.begin.new.message) k (sym c.in-None.ensures)
    c.begin.ensures.does).1

pub returns-in-None-clause-after : goal.returns-in-None-clause-after
returns-in-None-clause-after g c = λ e k. knows-asked c.args.self.now c.begin.new.self c.args.operation.now e (replied c.begin.result c.begin.new.message)
    k (sym c.in-None.ensures) c.begin.ensures.does
