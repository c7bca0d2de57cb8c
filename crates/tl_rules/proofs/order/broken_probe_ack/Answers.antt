use Rattle.std.proofs.Common.{refl, sym, ◌∙◌}
use Rattle.tl_rules.proofs.Open.{no-probe, probed}
use Rattle.tl_rules.proofs.order.broken_probe_ack.Goals as goal

pub returns-in_default : goal.returns-in_default
returns-in_default g c = λ t k. no-probe c.args.liberties c.args.x.now _ t c.block_at-block.ensures
    (sym c.in_default.is ∙ c.probe.ensures c.args.liberties t k)

pub returns-then-has_other_source : goal.returns-then-has_other_source
returns-then-has_other_source g c = λ t k.
    sym (probed c.args.liberties c.args.x.now _ t c.in-Some.probe c.block_at-block.ensures
    (c.in-Some.ensures c.args.liberties t k)
    ∙ rw (sym (c.has_other_source.ensures t k) ∙ c.if-has_other_source.true) refl)

pub returns-then-answers_wrong_probe : goal.returns-then-answers_wrong_probe
returns-then-answers_wrong_probe g c = λ t k.
    sym (probed c.args.liberties c.args.x.now _ t c.in-Some.probe c.block_at-block.ensures
    (c.in-Some.ensures c.args.liberties t k)
    ∙ rw (
      sym (c.has_other_source.ensures t k) ∙ c.if-has_other_source.false,
      sym c.answers_wrong_probe.ensures ∙ c.if-answers_wrong_probe.true,
    ) refl)

pub returns-then-is_pending : goal.returns-then-is_pending
returns-then-is_pending g c = λ t k.
    sym (probed c.args.liberties c.args.x.now _ t c.in-Some.probe c.block_at-block.ensures
    (c.in-Some.ensures c.args.liberties t k)
    ∙ rw (
      sym (c.has_other_source.ensures t k) ∙ c.if-has_other_source.false,
      sym c.answers_wrong_probe.ensures ∙ c.if-answers_wrong_probe.false,
      sym (c.is_pending.ensures c.args.liberties t k) ∙ c.if-is_pending.true,
    ) refl)

pub returns-then-misreports : goal.returns-then-misreports
returns-then-misreports g c = λ t k.
    sym (probed c.args.liberties c.args.x.now _ t c.in-Some.probe c.block_at-block.ensures
    (c.in-Some.ensures c.args.liberties t k)
    ∙ rw (
      sym (c.has_other_source.ensures t k) ∙ c.if-has_other_source.false,
      sym c.answers_wrong_probe.ensures ∙ c.if-answers_wrong_probe.false,
      sym (c.is_pending.ensures c.args.liberties t k) ∙ c.if-is_pending.false,
      ← c.held.ensures c.args.liberties t k,
      sym c.misreports.ensures ∙ c.if-misreports.true,
    ) refl)

pub returns : goal.returns
returns g c = λ t k.
    sym (probed c.args.liberties c.args.x.now _ t c.in-Some.probe c.block_at-block.ensures
    (c.in-Some.ensures c.args.liberties t k)
    ∙ rw (
      sym (c.has_other_source.ensures t k) ∙ c.if-has_other_source.false,
      sym c.answers_wrong_probe.ensures ∙ c.if-answers_wrong_probe.false,
      sym (c.is_pending.ensures c.args.liberties t k) ∙ c.if-is_pending.false,
      ← c.held.ensures c.args.liberties t k,
      sym c.misreports.ensures ∙ c.if-misreports.false,
    ) refl)
