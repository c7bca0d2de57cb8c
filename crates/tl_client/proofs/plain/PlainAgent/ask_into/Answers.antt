use Rattle.std.proofs.Common.{refl, ap, rules}
use Rattle.tl_client.specs.code.KnowsPlain.{plain_terms}
use Rattle.tl_client.proofs.plain_client.Asks.{asks_access, asked-alone, asked-started, begun-answer, knows-begun}
use Rattle.tl_client.proofs.plain.PlainAgent.ask_into.Goals as goal

pub returns-in-Some-clause-reply : goal.returns-in-Some-clause-reply
returns-in-Some-clause-reply g c =
    λ e k. rw (asked-alone (plain_terms c.args.self.now) c.args.operation.now e c.in-Some.busy c.in-Some.ensures) refl

pub returns-in-Some-clause-message : goal.returns-in-Some-clause-message
returns-in-Some-clause-message g c =
    λ e k. rw (asked-alone (plain_terms c.args.self.now) c.args.operation.now e c.in-Some.busy c.in-Some.ensures) refl

pub returns-in-Some-clause-after : goal.returns-in-Some-clause-after
returns-in-Some-clause-after g c =
    λ e k. rw (asked-alone (plain_terms c.args.self.now) c.args.operation.now e c.in-Some.busy c.in-Some.ensures) k

pub returns-in-Some-access_in-clause-reply : goal.returns-in-Some-access_in-clause-reply
returns-in-Some-access_in-clause-reply g c = λ e k.
    rw (
      asked-started c.args.self.now e c.args.operation.now c.in-Some-access_in.access.now k (search rules)
          c.in-Some-access_in.ensures,
      (begun-answer _ c.in-Some-access_in.access.now e).0,
    ) (ap (λ r. r.0) c.start.ensures.answer)

pub returns-in-Some-access_in-clause-message : goal.returns-in-Some-access_in-clause-message
returns-in-Some-access_in-clause-message g c = λ e k.
    rw (
      asked-started c.args.self.now e c.args.operation.now c.in-Some-access_in.access.now k (search rules)
          c.in-Some-access_in.ensures,
      (begun-answer _ c.in-Some-access_in.access.now e).1,
    ) (ap (λ r. r.1) c.start.ensures.answer)

pub returns-in-Some-access_in-clause-after : goal.returns-in-Some-access_in-clause-after
returns-in-Some-access_in-clause-after g c = λ e k.
    rw (asked-started c.args.self.now e c.args.operation.now c.in-Some-access_in.access.now k (search rules)
    c.in-Some-access_in.ensures)
    (knows-begun c.args.self.now _ e _ c.in-Some-access_in.access.now c.args.self.now.width
    (asks_access (plain_terms c.args.self.now) c.args.operation.now c.in-Some-access_in.access.now (search rules)
    c.in-Some-access_in.ensures) k refl refl
    (λ s. rw (ap (λ r. r.1) c.start.ensures.answer) at c.start.ensures.opened s))
