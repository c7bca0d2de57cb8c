use Rattle.std.proofs.Common.{inl, refl, sym, ◌∙◌}
use Rattle.tl_sessions.proofs.WideTold.{begins-left, is-of, not-of}
use Rattle.tl_sessions.proofs.wide.WideJudge.left.Goals as goal

pub returns-else-same : goal.returns-else-same
returns-else-same g c = inl (
  (
    c.in-Some.begun,
    c.in-Some.is,
    not-of c.in-Some.begun c.args.code c.args.shown.now (sym c.is_of-same.ensures ∙ c.if-same.false),
  ),
  (refl, refl),
)

pub returns-then-same : goal.returns-then-same
returns-then-same g c = inl (
  refl,
  c.in-Some.is ∙ is-of c.in-Some.begun c.args.code c.args.shown.now (sym c.is_of-same.ensures ∙ c.if-same.true),
)

pub returns-in-None : goal.returns-in-None
returns-in-None g c =
    begins-left c.args.self.now c.begin.new.self c.args.link c.args.code c.args.shown.now c.args.event.now c.begin.result
    c.in-None.is c.begin.ensures
