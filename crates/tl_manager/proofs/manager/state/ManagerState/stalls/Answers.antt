use Rattle.std.proofs.Common.{ap, sym, ◌∙◌}
use Rattle.tl_manager.{specs.code.Admission.is_stall, proofs.judging.Refusing.stalls-judged}
use Rattle.tl_manager.{proofs.judging.Stalls.never-stalled}
use Rattle.tl_manager.proofs.manager.state.ManagerState.stalls.Goals as goal

pub returns-then-may_wait : goal.returns-then-may_wait
returns-then-may_wait g c = λ config e k. c.is_waiting.ensures ∙ ap is_stall (c.judge.ensures.judged config e k)
    ∙ stalls-judged config c.args.link c.args.channel c.args.beat.now e

pub returns-else-may_wait : goal.returns-else-may_wait
returns-else-may_wait g c = λ config e k.
    c.if-may_wait.false ∙ sym (never-stalled config c.args.link c.args.channel c.args.beat.now e
    (c.may_wait.ensures c.if-may_wait.false config e c.args.link k))
