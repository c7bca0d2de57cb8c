use Rattle.std.proofs.Common.{sym, ◌∙◌}
use Rattle.std.proofs.lemmas.Result.{err_from_is_err_and}
use Rattle.tl_client.proofs.caching_client.Judged.{refused_alone, passes_alone, stalled, refused_order}
use Rattle.tl_client.proofs.messages.Lawful.{lawful-alone}
use Rattle.tl_client.proofs.caching.Caching.judge.Goals as goal

pub returns-in_err-check_alone-clause-judged : goal.returns-in_err-check_alone-clause-judged
returns-in_err-check_alone-clause-judged g c =
    let p = err_from_is_err_and c.from_residual.result c.from_residual.ensures.1 in
    λ e k. rw (p.1, p.2) (refused_alone c.args.self.now c.args.channel c.args.beat.now e _ k
    c.in_err-check_alone.ensures.rule)

pub returns-then-waits-clause-judged : goal.returns-then-waits-clause-judged
returns-then-waits-clause-judged g c = λ e k.
    stalled c.args.self.now c.args.channel c.args.beat.now e
    (passes_alone c.args.self.now c.args.channel c.args.beat.now e k c.in_ok-check_alone.ensures.rule)
    (sym (c.waits.ensures e k) ∙ c.if-waits.true)

pub returns-in_err-check_order-clause-judged : goal.returns-in_err-check_order-clause-judged
returns-in_err-check_order-clause-judged g c =
    let p = err_from_is_err_and c.from_residual-in_err-check_order.result c.from_residual-in_err-check_order.ensures.1
    in
    λ e k. rw (p.1, p.2) (refused_order c.args.self.now c.args.channel c.args.beat.now e _
    (passes_alone c.args.self.now c.args.channel c.args.beat.now e k c.in_ok-check_alone.ensures.rule)
    (sym (c.waits.ensures e k) ∙ c.if-waits.false) (c.in_err-check_order.ensures.rule e k))

pub returns-clause-lawful : goal.returns-clause-lawful
returns-clause-lawful g c = λ moves x is.
    lawful-alone c.args.self.now.closed c.args.self.now.config.level c.args.channel c.args.beat.now x
    c.in_ok-check_alone.ensures.rule is
