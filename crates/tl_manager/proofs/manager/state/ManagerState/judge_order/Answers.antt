use Rattle.std.proofs.Common.{refl, ◌∙◌}
use Rattle.tl_rules.specs.statement.Conformance.{on_link}
use Rattle.tl_manager.{specs.code.PartIs.IsPartOf, proofs.judging.Judging.burst-is, proofs.judging.Judging.breaks-off}
use Rattle.tl_manager.proofs.manager.state.ManagerState.judge_order.Goals as goal

pub returns-in_default : goal.returns-in_default
returns-in_default g c = λ config e k is.
    breaks-off config c.args.link c.args.beat.now e.trace c.in_default.field-0
    (rw (burst-is c.args.link_state.now c.args.link.0 c.args.beat.now e.trace c.requires.theirs is.carried) at
    c.in_default.ensures)

pub returns : goal.returns
returns g c = λ config e k is.
    let part : IsPartOf c.args.beat.now c.in-Ok.part (on_link c.args.link.0 e.trace) =
    rw (burst-is c.args.link_state.now c.args.link.0 c.args.beat.now e.trace c.requires.theirs is.carried) at
    c.in-Ok.ensures in
    c.admit.ensures ∙ rw (
      c.broken-broken.ensures config e k is part,
      c.must_wait-waits.ensures config e c.args.link k part,
      c.is_outside-outside.ensures,
      c.count.ensures,
      k.size,
      c.is_spoiled.ensures,
    ) refl
